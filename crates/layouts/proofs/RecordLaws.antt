-- The layouts of an entry and a record, field by field: a value is its fields, an encoding is its
-- pieces, and what is decoded from the encoding of a value is the value.
-- Assumes nothing.
use mathlib.Core.Path.{◌≡◌, refl, sym, ap, ap₂, ◌∙◌}
use mathlib.Core.Bool.{Bool, true, false, ◌&&◌}
use mathlib.Core.List.{List, [], ◌∷◌, ◌++◌, append_assoc}
use Prim.Native.Nat.{ℕ, suc, ◌+◌}
use native.Mathlib.Omega.{arith}
use mir.Val.{bool_byte}
use lib.ListN.{length, drop, get_or, length-append}
use lib.Seq.{take_all, take_at, get_or-drop}
use borrow.Author.Tests.{eq-eqb, eqb-true}
use Rattle.octets.specs.Parts.{part, agrees}
use Rattle.octets.proofs.Parts.{length_fixed, fixed_whole, agrees_refl, agrees_equal}
use Rattle.packets.specs.Frame.{octet}
use Rattle.packets.proofs.Framing.{field}
use Rattle.accounts.specs.declared.Hash.{Hash}
use Rattle.accounts.specs.declared.Entry.{Entry}
use Rattle.accounts.specs.declared.EntryLookup.{EntryLookup}
use Rattle.packets.specs.Sizes.{hash_size}
use Rattle.layouts.specs.Values.{body_in}
use Rattle.layouts.specs.Records as layout
use Rattle.layouts.specs.Call.{sized}
use Rattle.layouts.specs.Keys.{both_keys_size}
use Rattle.layouts.proofs.Filling.{both}

-- ---- flags

-- a cast makes the flag
pub flag_cast : (b : Bool) → bool_byte b ≡ layout.flag b
flag_cast true = refl
flag_cast false = refl

-- ---- a value is its fields

pub hash_same : {p p' : Bool} {o o' : List ℕ} → p ≡ p' → o ≡ o'
    → ◌≡◌ {A = Hash} (record { present = p; octets = o }) (record { present = p'; octets = o' })
hash_same e f = cc

pub entry_same : {n n' l l' : Hash} {d d' h h' o o' e e' : Bool} {k k' : ℕ} → n ≡ n' → l ≡ l'
    → d ≡ d' → h ≡ h' → o ≡ o' → e ≡ e' → k ≡ k'
    → ◌≡◌ {A = Entry}
    (record {
      nt = n;
      lm = l;
      disabled = d;
      hours_denied = h;
      dialin_denied = o;
      expired = e;
      failures = k;
    })
    (record {
      nt = n';
      lm = l';
      disabled = d';
      hours_denied = h';
      dialin_denied = o';
      expired = e';
      failures = k';
    })
entry_same e₁ e₂ e₃ e₄ e₅ e₆ e₇ = cc

pub entry_lookup_same : {f f' : Bool} {a a' : Entry} → f ≡ f' → a ≡ a'
    → ◌≡◌ {A = EntryLookup} (record { found = f; entry = a }) (record { found = f'; entry = a' })
entry_lookup_same e₁ e₂ = cc

-- ---- an encoding is its pieces

pub entry_pieces : (a : Entry)
    → (((((layout.encode_hash a.nt ++ layout.encode_hash a.lm)
    ++ (layout.flag a.disabled ∷ []))
    ++ (layout.flag a.hours_denied ∷ []))
    ++ (layout.flag a.dialin_denied ∷ []))
    ++ (layout.flag a.expired ∷ []))
    ++ (a.failures ∷ [])
    ≡ layout.encode_entry a
unfolding layout.encode_entry
entry_pieces a = simp append_assoc

-- ---- the sizes of a value's arrays, which the code's types fix

pub record SizedEntry (a : Entry) : Type 0 where
  pub nt : length a.nt.octets ≡ hash_size
  pub lm : length a.lm.octets ≡ hash_size

pub decoded_entry_sized : (bytes : List ℕ) → SizedEntry (layout.decode_entry bytes)
unfolding layout.decode_entry
decoded_entry_sized bytes =
    record {
      nt = length_fixed 16 (part 1 16 (part layout.nt_at layout.optional_hash_size bytes));
      lm = length_fixed 16 (part 1 16 (part layout.lm_at layout.optional_hash_size bytes));
    }

pub decoded_entry_lookup_sized : (bytes : List ℕ) → SizedEntry (layout.decode_entry_lookup bytes).entry
unfolding layout.decode_entry_lookup
decoded_entry_lookup_sized bytes =
    decoded_entry_sized (part layout.entry_at layout.entry_size bytes)

pub length_entry : (a : Entry) → SizedEntry a
    → length (layout.encode_entry a) ≡ layout.entry_size
unfolding layout.encode_entry
length_entry a s = simp (length-append, s.nt, s.lm)

pub length_entry_lookup : (l : EntryLookup) → SizedEntry l.entry
    → length (layout.encode_entry_lookup l) ≡ layout.entry_lookup_size
unfolding layout.encode_entry_lookup
length_entry_lookup l s = ap suc (length_entry l.entry s)

pub decoded_head_sized : (bytes : List ℕ) → SizedEntry (layout.decode_head bytes).entry
decoded_head_sized bytes = decoded_entry_lookup_sized (body_in layout.entry_lookup_size bytes)

pub length_head : (l : EntryLookup) → SizedEntry l.entry
    → length (layout.record_head l) ≡ layout.record_head_size
length_head l s = ap (λ (n : ℕ). suc (suc n)) (length_entry_lookup l s)

-- what is taken for a record has the size of one, and its head in front
pub length_encoded_record : (bytes : List ℕ) → layout.is_encoded_record bytes ≡ true
    → length bytes ≡ layout.record_size
unfolding layout.is_encoded_record
length_encoded_record bytes e =
    eqb-true (length bytes) layout.record_size (both (sized layout.record_size bytes) _ e).0

pub head_encoded : (bytes : List ℕ) → layout.is_encoded_record bytes ≡ true
    → layout.record_head (layout.decode_head bytes) ≡ part 0 layout.record_head_size bytes
unfolding layout.is_encoded_record
head_encoded bytes e =
    agrees_equal (layout.record_head (layout.decode_head bytes)) (part 0 layout.record_head_size bytes)
    (both (sized layout.record_size bytes) _ e).1

-- ---- round trips

pub flag_back : (b : Bool) → layout.is_flag (layout.flag b) ≡ b
flag_back true = refl
flag_back false = refl

hash_back : (h : Hash) → length h.octets ≡ hash_size
    → layout.decode_hash (layout.encode_hash h) ≡ h
hash_back h e = hash_same (flag_back h.present) (fixed_whole 16 h.octets e)

pub entry_back : (a : Entry) → SizedEntry a
    → layout.decode_entry (layout.encode_entry a) ≡ a
unfolding layout.encode_entry layout.decode_entry
entry_back a s =
    entry_same (ap layout.decode_hash first.0 ∙ hash_back a.nt s.nt)
    (ap layout.decode_hash second.0 ∙ hash_back a.lm s.lm)
    (flagged 0 ∙ flag_back a.disabled) (flagged 1 ∙ flag_back a.hours_denied)
    (flagged 2 ∙ flag_back a.dialin_denied) (flagged 3 ∙ flag_back a.expired) (behind 4)
  where
    nt : List ℕ
    nt = layout.encode_hash a.nt

    lm : List ℕ
    lm = layout.encode_hash a.lm

    rest : List ℕ
    rest =
        layout.flag a.disabled ∷ layout.flag a.hours_denied ∷ layout.flag
        a.dialin_denied
        ∷ layout.flag a.expired ∷ a.failures ∷ []

    bytes : List ℕ
    bytes = nt ++ (lm ++ rest)

    first : (part 0 17 bytes ≡ nt) × (drop 17 bytes ≡ lm ++ rest)
    first = field bytes 0 17 nt (lm ++ rest) refl (ap suc s.nt)

    second : (part 17 17 bytes ≡ lm) × (drop 34 bytes ≡ rest)
    second = field bytes 17 17 lm rest first.1 (ap suc s.lm)

    behind : (i : ℕ) → octet (34 + i) bytes ≡ octet i rest
    behind i = sym (get_or-drop 34 bytes i 0) ∙ ap (λ (l : List ℕ). get_or l i 0) second.1

    flagged : (i : ℕ) → layout.is_flag (octet (34 + i) bytes) ≡ layout.is_flag (octet i rest)
    flagged i = ap layout.is_flag (behind i)

pub entry_lookup_back : (l : EntryLookup) → SizedEntry l.entry
    → layout.decode_entry_lookup (layout.encode_entry_lookup l) ≡ l
unfolding layout.encode_entry_lookup layout.decode_entry_lookup
entry_lookup_back l s =
    let n = length_entry l.entry s in
    entry_lookup_same (flag_back l.found)
    (ap layout.decode_entry (take_all 39 (layout.encode_entry l.entry) (omega arith))
    ∙ entry_back l.entry s)

-- what is decoded from a head is what was encoded, whatever is behind it
pub head_back : (l : EntryLookup) (keys : List ℕ) → SizedEntry l.entry
    → layout.decode_head (layout.record_head l ++ keys) ≡ l
head_back l keys s =
    ap layout.decode_entry_lookup (take_at (layout.encode_entry_lookup l) keys 40
    (length_entry_lookup l s))
    ∙ entry_lookup_back l s

-- a head and the bytes of round keys are taken for a record
pub record_fits : (l : EntryLookup) (keys : List ℕ) → SizedEntry l.entry
    → length keys ≡ both_keys_size → layout.is_encoded_record (layout.record_head l ++ keys) ≡ true
unfolding layout.is_encoded_record
record_fits l keys s e =
    ap₂ (λ (t : Bool) (b : Bool). t && b)
    (eq-eqb (length (layout.record_head l ++ keys)) layout.record_size
    (length-append (layout.record_head l) keys
    ∙ ap₂ (λ (m n : ℕ). m + n) (length_head l s) e))
    (ap₂ agrees (ap layout.record_head (head_back l keys s))
    (take_at (layout.record_head l) keys layout.record_head_size (length_head l s))
    ∙ agrees_refl (layout.record_head l))
