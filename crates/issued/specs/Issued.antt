-- The list of issued challenges. Words in quotes are document 02's, request 2026-03. All is said
-- over w, the octets of an entry, which are 8 in MS-CHAP version 1.
-- Assumes nothing: these are definitions.
use Rattle.std.specs.Prelude.{Bool, false, cond, not, ◌||◌, ◌≡◌, eqb, ltb, Result, Ok, Err}
use Rattle.std.specs.Prelude.{ℕ, zero, suc, ◌+◌, ◌-◌, ◌*◌, ◌/◌, ◌%◌}
use Rattle.std.specs.Prelude.{length, take, drop, replicate, get_or}
use mathlib.Core.List.{List, [], ◌∷◌, ◌++◌, flatten}
use Rattle.octets.specs.Parts.{over_at, agrees}
use Rattle.refusals.specs.declared.Refusal.{Refusal}

-- What is passed: the buffer, how many of its places are used, and the counts.
pub record Issued : Type 0 where
  pub buffer : List ℕ
  pub used : ℕ
  pub counts : List ℕ

-- "up to 4,096 places", and a count for each octet in which an entry may end
abbrev pub most_places : ℕ
most_places = 4096

abbrev pub octet_values : ℕ
octet_values = 256

-- ---- entries

-- the first n entries of a buffer
abbrev pub entries : ℕ → ℕ → List ℕ → List (List ℕ)
entries w zero l = []
entries w (suc n) l = take w l ∷ entries w n (drop w l)

-- how many places a buffer has
abbrev pub places : ℕ → List ℕ → ℕ
places w l = length l / w

-- all the entries of a buffer
abbrev pub entries_in : ℕ → List ℕ → List (List ℕ)
entries_in w l = entries w (places w l) l

-- the list: what stands in the places that are used; the others have no meaning
abbrev pub listed : ℕ → Issued → List (List ℕ)
listed w i = entries w i.used i.buffer

-- an entry "is in the list" where all its octets are those of one there
unfoldable pub contains : List (List ℕ) → List ℕ → Bool
contains [] c = false
contains (e ∷ es) c = agrees e c || contains es c

-- "if one of them is in the list"
unfoldable pub contains_any : List (List ℕ) → List (List ℕ) → Bool
contains_any [] es = false
contains_any (c ∷ cs) es = contains es c || contains_any cs es

-- no entry stands there twice
abbrev pub Distinct : List (List ℕ) → Type 0
Distinct [] = Unit {0}
Distinct (e ∷ es) = (contains es e ≡ false) × Distinct es

-- ---- counts

abbrev pub last_of : List ℕ → ℕ
last_of e = get_or e (length e - 1) 0

-- "how many entries end in" the octet x
unfoldable pub ending : ℕ → List (List ℕ) → ℕ
ending x [] = 0
ending x (e ∷ es) = cond (eqb (last_of e) x) 1 0 + ending x es

-- for n octets from x on
unfoldable pub endings : ℕ → ℕ → List (List ℕ) → List ℕ
endings x zero es = []
endings x (suc n) es = ending x es ∷ endings (suc x) n es

-- the "256 counts"
abbrev pub counts_of : List (List ℕ) → List ℕ
counts_of es = endings 0 octet_values es

-- an empty list of n places
abbrev pub empty_list : ℕ → ℕ → Issued
empty_list w n =
    record { buffer = replicate (w * n) 0; used = 0; counts = replicate octet_values 0 }

-- ---- spending

-- "when the buffer is not whole places, at most 4,096, when more entries are used than it has"
unfoldable pub bad_buffer : ℕ → List ℕ → ℕ → Bool
bad_buffer w l used = eqb w 0 || (not (eqb (length l % w) 0)
    || (ltb most_places (places w l) || ltb (places w l) used))

-- the counts that are true of what is used of a buffer; of a bad buffer, which is refused whatever
-- they are, zeros
abbrev pub true_counts : ℕ → ℕ → List ℕ → List ℕ
true_counts w used l = cond (bad_buffer w l used) (replicate octet_values 0)
    (counts_of (entries w used l))

-- "or when the lent counts are not 256, each true of the list"
abbrev pub bad_counts : ℕ → Issued → Bool
bad_counts w i = not (agrees (counts_of (listed w i)) i.counts)

-- fewer places are left than there are entries to be added
abbrev pub full : ℕ → List (List ℕ) → Issued → Bool
full w cs i = ltb (places w i.buffer - i.used) (length cs)

-- 24, "16 for a challenge spent, then 17"; 0 is none. What one pass over the list finds, and first
-- the buffer.
abbrev pub pass_refusal : ℕ → List (List ℕ) → Issued → ℕ
pass_refusal w cs i = cond (bad_counts w i) 24
    (cond (contains_any cs (listed w i)) 16 (cond (full w cs i) 17 0))

unfoldable pub spend_refusal : ℕ → List (List ℕ) → Issued → ℕ
spend_refusal w cs i = cond (bad_buffer w i.buffer i.used) 24 (pass_refusal w cs i)

-- "else all are added, in that order", and the counts are true of the list as it is then
abbrev pub added : ℕ → List (List ℕ) → Issued → Issued
added w cs i =
    record {
      buffer = over_at (w * i.used) (flatten cs) i.buffer;
      used = i.used + length cs;
      counts = counts_of (listed w i ++ cs);
    }

-- what is left once the entries cs were to be spent: where they are refused, all is as it was
unfoldable pub spent : ℕ → List (List ℕ) → Issued → Issued
spent w cs i = cond (eqb (spend_refusal w cs i) 0) (added w cs i) i

-- how many places are used after an answer: where it is a refusal, as many as before
abbrev pub used_after : ℕ → Result ℕ Refusal → ℕ
used_after used (Ok n) = n
used_after used (Err r) = used
