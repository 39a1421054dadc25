-- What mschap_open returns and leaves, from what the functions that it calls do.
-- Assumes nothing.
use Rattle.std.specs.Prelude.{Option, Result, Ok, Err}
use Rattle.refusals.specs.Refusal.{number, told}
use Rattle.refusals.specs.declared.Refusal.{Refusal}
use Rattle.refusals.proofs.Numbers.{number_some}
use Rattle.authenticator.specs.declared.Started.{Started}
use Rattle.verify.specs.declared.ChangeVersion.{ChangeVersion}
use mathlib.Core.Path.{◌≡◌, refl, sym, ap, ◌∙◌, subst}
use mathlib.Core.Bool.{Bool, true, false, not, false≢true}
use mathlib.Core.List.{List, [], ◌++◌, append-nil}
use Prim.Native.Nat.{ℕ, ◌-◌, ◌≤◌, ◌<◌}
use native.Mathlib.Omega.{arith}
use borrow.Author.Tests.{eqb-true, eq-eqb, ne_eqb, ltb-false}
use lib.Dec.{eqb, ltb}
use lib.ListN.{length, take, drop, length-append, length-drop}
use lib.ListN.{take-append-drop, drop_of_length-le}
use lib.Seq.{take_all, drop_at, length-take-le}
use Rattle.issued.specs.Issued.{Issued}
use Rattle.octets.specs.Parts.{over}
use Rattle.octets.proofs.Parts.{over_fits}
use Rattle.authenticator.specs.Opening.{Opening, OpenedAs, opened, opened_issued, opened_buffer}
use Rattle.authenticator.specs.Opening.{open_refusal}
use Rattle.authenticator.specs.Opening.{Opened, opened_as}
use Rattle.authenticator.proofs.Openings.{opened_number}
use Rattle.layouts.specs.Call.{Fills, sized, numbered, after_call}
use Rattle.layouts.specs.Conversations.{conversation_size, encode_conversation}
use Rattle.layouts.specs.Lists.{encode_list, is_list, list_head}
use Rattle.layouts.proofs.Filling.{both, fills_number}
use Rattle.numbers.specs.Terms.{is_terms, limit_term}
use Rattle.numbers.proofs.TermLaws.{no_limit_lem}
use Rattle.mschap.specs.Opening.{opening_for, open_arguments, OpenCall}
use Rattle.mschap.specs.Inner.{OpenedOn}

-- ---- valid arguments

pub record Passed (id : ℕ) (challenge list conversation : List ℕ) : Type 0 where
  pub small : ltb id 256 ≡ true
  pub eight : length challenge ≡ 8
  pub head : 4 ≤ length list
  pub room : length conversation ≡ conversation_size

turned : (b : Bool) → not b ≡ true → b ≡ false
turned true e = sym e
turned false e = refl

list_head_lem : (list : List ℕ) → is_list list ≡ true → 4 ≤ length list
unfolding is_list
list_head_lem list e = ltb-false (length list) 4 (turned (ltb (length list) 4) (both _ _ e).0)

pub passed : (id terms : ℕ) (challenge list conversation : List ℕ)
    → open_arguments id terms challenge list conversation ≡ true
    → Passed id challenge list conversation
unfolding open_arguments
passed id terms challenge list conversation e =
    let h₁ = both (ltb id 256) _ e in
    let h₂ = both (is_terms terms) _ h₁.1 in
    let h₃ = both (sized 8 challenge) _ h₂.1 in
    let h₄ = both (is_list list) (sized 61 conversation) h₃.1 in
    record {
      small = h₁.0;
      eight = eqb-true (length challenge) 8 h₃.0;
      head = list_head_lem list h₄.0;
      room = eqb-true (length conversation) 61 h₄.1;
    }

-- ---- a refused opening leaves the reply buffer alone

reply_kept : (o : Opening)
    → opened_buffer o ≡ after_call (opened o).refusal (opened_buffer o) o.buffer
unfolding opened opened_buffer
reply_kept o = by (eqb (open_refusal o) 0) refl
  where
    by : (b : Bool) → eqb (open_refusal o) 0 ≡ b
        → opened_buffer o ≡ after_call (opened o).refusal (opened_buffer o) o.buffer
    by true e = simp e
    by false e = simp e

-- ---- the limit

-- terms that say nothing of one, as all were before there was one, open no conversation
pub no_limit_refused : (id terms : ℕ) (challenge list reply : List ℕ) → terms < 16777216
    → (opened (opening_for id terms challenge list reply)).refusal ≡ 18
unfolding open_refusal
no_limit_refused id terms challenge list reply h =
    opened_number (opening_for id terms challenge list reply)
    ∙ simp (eq-eqb (limit_term terms) 0 (no_limit_lem terms h))

-- ---- the opening on a list that is encoded

pub opening_same : {c c' : List ℕ} {r r' : Option ℕ} {l l' : Option Bool}
    {v v' : Option ChangeVersion} {m m' : ℕ} {i i' : Issued} (id : ℕ) (buffer : List ℕ) → c ≡ c' → r ≡ r'
    → l ≡ l' → v ≡ v' → m ≡ m' → i ≡ i'
    → ◌≡◌ {A = Opening}
    (record {
      id = id;
      challenge = c;
      retries = r;
      lm = l;
      change = v;
      limit = m;
      issued = i;
      buffer = buffer;
    })
    (record {
      id = id;
      challenge = c';
      retries = r';
      lm = l';
      change = v';
      limit = m';
      issued = i';
      buffer = buffer;
    })
opening_same id buffer e₁ e₂ e₃ e₄ e₅ e₆ = cc

-- the places are all that follows the head
pub places_whole : (list : List ℕ) → take (length list - 4) (drop 4 list) ≡ drop 4 list
places_whole list = take_all (length list - 4) (drop 4 list) (omega (arith, length-drop 4 list))

-- a refused opening leaves the list alone
list_kept : (o : Opening) → eqb (opened o).refusal 0 ≡ false → opened_issued o ≡ o.issued
unfolding opened opened_issued
list_kept o = by (eqb (open_refusal o) 0) refl
  where
    by : (b : Bool) → eqb (open_refusal o) 0 ≡ b → eqb (opened o).refusal 0 ≡ false
        → opened_issued o ≡ o.issued
    by true e h = absurd (false≢true (sym h ∙ simp e))
    by false e h = simp e

-- a conversation was opened, or the opening was refused: by its number
told_number : (o : Opening) (r : Result Started Refusal) → (opened_as o r).refusal ≡ told r
told_number o (Ok s) = refl
told_number o (Err e) = refl

module _ (o : Opening) (list : List ℕ) (head : 4 ≤ length list)
    (places : o.issued.buffer ≡ drop 4 list) {r : Result Started Refusal} {n : ℕ}
    {b counts reply : List ℕ}
    (made : OpenedAs o r (record { buffer = b; used = n; counts = counts }) reply)
  where
    -- the list, once its places are back
    abbrev whole : List ℕ
    whole = take 4 list ++ (b ++ drop (length list - 4) (drop 4 list))

    joined : whole ≡ take 4 list ++ b
    joined =
        let short : length (drop 4 list) ≤ length list - 4 = omega (arith, length-drop 4 list) in
        let none : drop (length list - 4) (drop 4 list) ≡ [] = drop_of_length-le (drop 4 list)
        short in
        ap (λ (x : List ℕ). take 4 list ++ (b ++ x)) none
        ∙ ap (λ (x : List ℕ). take 4 list ++ x) (append-nil b)

    -- the refusal is the answer
    pub refused_on : {e : Refusal} {answer : Result Started Refusal} → r ≡ Err e
        → answer ≡ Err e → OpenedOn o list answer whole reply
    refused_on {e} {answer} refused passed =
        let zero = ap (λ (x : Result Started Refusal). eqb (told x) 0) refused
        ∙ ne_eqb _ 0 (number_some e) in
        let same = sym (told_number o r) ∙ ap (λ (v : Opened). v.refusal) made.answer in
        let kept : b ≡ drop 4 list =
        ap (λ (i : Issued). i.buffer)
        (made.list ∙ list_kept o (ap (λ (k : ℕ). eqb k 0) (sym same) ∙ zero)) ∙ places in
        subst (λ (x : Result Started Refusal). OpenedOn o list x whole reply)
        (refused ∙ sym passed)
        (record {
          answered = made.answer;
          issued =
              joined ∙ ap (λ (x : List ℕ). take 4 list ++ x) kept ∙ take-append-drop 4 list
              ∙ sym (simp zero);
          sent = made.reply;
        })

    -- the answer is a conversation
    pub accepted_on : {after : List ℕ} → told r ≡ 0
        → after ≡ over (list_head n) whole → OpenedOn o list r after reply
    accepted_on {after} e put =
        let four : length (take 4 list) ≡ 4 = length-take-le 4 list head in
        let room : 4 ≤ length (take 4 list ++ b) = omega
        (arith, four, length-append (take 4 list) b) in
        record {
          answered = made.answer;
          issued =
              put ∙ ap (over (list_head n)) joined
              ∙ over_fits (list_head n) (take 4 list ++ b) room
              ∙ ap (λ (x : List ℕ). list_head n ++ x) (drop_at (take 4 list) b 4 four)
              ∙ ap encode_list made.list
              ∙ sym (simp (ap (λ (n : ℕ). eqb n 0) e));
          sent = made.reply;
        }

-- ---- the call

module _ (id terms : ℕ) (challenge list conversation reply : List ℕ)
    (valid : open_arguments id terms challenge list conversation ≡ true) where
  abbrev o : Opening
  o = opening_for id terms challenge list reply

  -- a conversation was opened on the list, and was put into the caller's buffer
  pub open_called : {s : Started} {r : ℕ} {list_after after reply_after : List ℕ}
      → OpenedOn o list (Ok s) list_after reply_after
      → Fills (sized conversation_size conversation) 0
      (encode_conversation s.conversation) conversation r after
      → OpenCall id terms challenge list conversation reply r list_after after reply_after
  open_called {s} {r} {list_after} {after} {reply_after} f put =
      let size = (passed id terms challenge list conversation valid).room in
      let same : r ≡ 0 = fills_number size put in
      let number : r ≡ (opened o).refusal = same ∙ ap (λ (v : Opened). v.refusal) f.answered in
      record {
        number = number ∙ sym (ap (λ (t : Bool). numbered t (opened o).refusal) valid);
        issued =
            f.issued ∙ ap (λ (i : ℕ). after_call i (encode_list (opened_issued o)) list) (sym same);
        first =
            put.bytes
            ∙ ap (λ (v : Opened). after_call r (encode_conversation v.conversation) conversation)
            f.answered;
        sent =
            f.sent ∙ reply_kept o
            ∙ ap (λ (i : ℕ). after_call i (opened_buffer o) reply) (sym number);
      }

  -- the opening was refused: the number is told, and all stays as it was
  pub open_refused : {e : Refusal} {list_after reply_after : List ℕ}
      → OpenedOn o list (Err e) list_after reply_after
      → OpenCall id terms challenge list conversation reply (number e) list_after conversation
      reply_after
  open_refused {e} {list_after} {reply_after} f =
      let told : number e ≡ (opened o).refusal = ap (λ (v : Opened). v.refusal) f.answered in
      record {
        number = told ∙ sym (ap (λ (t : Bool). numbered t (opened o).refusal) valid);
        issued = f.issued;
        first = sym (simp (ne_eqb (number e) 0 (number_some e)));
        sent =
            f.sent ∙ reply_kept o
            ∙ ap (λ (i : ℕ). after_call i (opened_buffer o) reply) (sym told);
      }
