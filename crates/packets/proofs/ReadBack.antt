-- What is written reads back field for field, with any padding t behind it.
-- Assumes nothing.
use mathlib.Core.Path.{◌≡◌, refl, sym, ap, ap₂, ◌∙◌}
use mathlib.Core.Bool.{false}
use mathlib.Core.List.{List, [], ◌∷◌, ◌++◌, append_assoc}
use Prim.Native.Nat.{ℕ, ◌+◌, ◌-◌, ◌≤◌, ◌<◌}
use native.Mathlib.Nat.{mod-eq_of_lt}
use native.Mathlib.Omega.{arith}
use borrow.Author.Tests.{le-ltb, eq-eqb}
use lib.ListN.{length, take, drop, get_or}
use lib.Seq.{take_at, get_or-drop}
use Rattle.octets.specs.Parts.{fixed}
use Rattle.octets.specs.Numbers.{from_be, to_be}
use Rattle.octets.proofs.Parts.{fixed_same}
use Rattle.octets.proofs.Numbers.{from_be-to_be}
use Rattle.std.specs.Prelude.{Ok, None}
use Rattle.message.specs.Message.{read_message, failed_with, text_of}
use Rattle.message.specs.declared.Verdict.TheVariants.{Success, Failure}
use Rattle.message.proofs.Laws.{read_text, length_text}
use Rattle.packets.specs.Frame.{octet, number_at, length_of, framed, bad_frame}
use Rattle.packets.specs.Response.{response_packet, read_response, read_name, bad_response_size}
use Rattle.packets.specs.Response.{response_refusal}
use Rattle.packets.specs.Change.{change_packet, read_change, bad_change_size, change_refusal}
use Rattle.packets.specs.ChangeOne.{change_one_packet, read_change_one, bad_change_one_size}
use Rattle.packets.specs.ChangeOne.{change_one_refusal}
use Rattle.packets.specs.Reply.{failure_in, challenge_packet, success_packet, failure_packet}
use Rattle.packets.specs.Reply.{read_challenge, read_reply}
use Rattle.packets.specs.declared.Response.{Response}
use Rattle.packets.specs.declared.Change.{Change}
use Rattle.packets.specs.declared.ChangeOne.{ChangeOne}
use Rattle.packets.proofs.Fields.{response_same, asked_same, change_same, change_one_same}
use Rattle.packets.proofs.Framing.{frame_good, field}
use Rattle.packets.proofs.Writing.{Sized, SizedOne, length_answers, length_fields}
use Rattle.packets.proofs.Writing.{length_fields_one}

-- a field of fixed length
fixed_field : (k : ℕ) (l x : List ℕ) → l ≡ x → length x ≡ k → fixed k l ≡ x
fixed_field k l x e h = ap (fixed k) e ∙ fixed_same k x h

-- the octet with which the rest begins
octet_at : (a : ℕ) (p : List ℕ) (x : ℕ) (rest : List ℕ) → drop a p ≡ x ∷ rest → octet a p ≡ x
octet_at a p x rest e = ap (λ (i : ℕ). get_or p i 0) (omega arith) ∙ sym (get_or-drop a p 0 0) ∙ ap (λ (l : List ℕ). get_or l 0 0) e

-- the number with whose two octets the rest begins
number_at_lem : (a : ℕ) (p : List ℕ) (x : ℕ) (rest : List ℕ) → drop a p ≡ to_be 2 x ++ rest → x < 65536 → number_at a p ≡ x
number_at_lem a p x rest e small =
    let second = field p a 1 (_ ∷ []) _ e refl in
    ap₂ (λ (i j : ℕ). from_be (i ∷ j ∷ [])) (octet_at a p _ _ e) (octet_at (a + 1) p _ _ second.1) ∙ from_be-to_be 2 x ∙ mod-eq_of_lt small

-- ---- Response

-- what the box finds in p: the identifier i, the fields f and the name n
pub record ResponseBack (i : ℕ) (f : Response) (n p : List ℕ) : Type 0 where
  pub frame : bad_frame p ≡ false
  pub code : octet 0 p ≡ 2
  pub id : octet 1 p ≡ i
  pub fields : read_response p ≡ f
  pub name : read_name p ≡ n
  pub size : bad_response_size p ≡ false
  pub fit : f.flag < 2 → response_refusal p ≡ 0

pub response_back : (id : ℕ) (f : Response) (name t : List ℕ) → length f.lm ≡ 24 → length f.nt ≡ 24 → 1 ≤ length name → length name ≤ 256
    → ResponseBack id f name (response_packet id f name ++ t)
unfolding response_packet response_refusal
response_back id f name t lm nt least most =
    let p = response_packet id f name ++ t in
    let d : List ℕ = 49 ∷ (f.lm ++ (f.nt ++ (f.flag ∷ name))) in
    let long = length_answers f name lm nt in
    let g = frame_good 2 id d t (omega arith) in
    let all : length_of p ≡ 54 + length name = g.long ∙ omega arith in
    let named : length_of p - 54 ≡ length name = omega (arith, all) in
    let start : drop 5 p ≡ f.lm ++ (f.nt ++ (f.flag ∷ (name ++ t))) = simp append_assoc in
    let l = field p 5 24 f.lm (f.nt ++ (f.flag ∷ (name ++ t))) start lm in
    let n = field p 29 24 f.nt (f.flag ∷ (name ++ t)) l.1 nt in
    let k = field p 53 1 (f.flag ∷ []) (name ++ t) n.1 refl in
    let flag : octet 53 p ≡ f.flag = octet_at 53 p f.flag (name ++ t) n.1 in
    let size : bad_response_size p ≡ false = simp (le-ltb (length_of p) 55 (omega arith), le-ltb 310 (length_of p) (omega arith)) in
    record {
      frame = g.good;
      code = refl;
      id = refl;
      fields = response_same (fixed_field 24 _ f.lm l.0 lm) (fixed_field 24 _ f.nt n.0 nt) flag;
      name = ap₂ (λ (i : ℕ) (x : List ℕ). take i x) named k.1 ∙ take_at name t (length name) refl;
      size = size;
      fit = λ h. simp (size, le-ltb 1 (octet 53 p) (omega arith));
    }

-- ---- Change Password

-- the same for the fields f of a change
pub record ChangeBack (i : ℕ) (f : Change) (p : List ℕ) : Type 0 where
  pub frame : bad_frame p ≡ false
  pub code : octet 0 p ≡ 6
  pub id : octet 1 p ≡ i
  pub fields : read_change p ≡ f
  pub size : bad_change_size p ≡ false
  pub fit : f.flags < 4 → change_refusal p ≡ 0

pub change_back : (id : ℕ) (f : Change) (t : List ℕ) → Sized f → f.flags < 65536 → ChangeBack id f (change_packet id f ++ t)
unfolding change_packet change_refusal
change_back id f t s small =
    let p = change_packet id f ++ t in
    let g = frame_good 6 id (f.block ++ (f.verifier ++ (f.lmblock ++ (f.lmverifier ++ (f.lm ++ (f.nt ++ to_be 2 f.flags)))))) t (omega (arith, length_fields f s)) in
    let all : length_of p ≡ 1118 = g.long ∙ omega (arith, length_fields f s) in
    let start : drop 4 p ≡ f.block ++ (f.verifier ++ (f.lmblock ++ (f.lmverifier ++ (f.lm ++ (f.nt ++ (to_be 2 f.flags ++ t)))))) = simp append_assoc in
    let x₁ = field p 4 516 f.block _ start s.block in
    let x₂ = field p 520 16 f.verifier _ x₁.1 s.verifier in
    let x₃ = field p 536 516 f.lmblock _ x₂.1 s.lmblock in
    let x₄ = field p 1052 16 f.lmverifier _ x₃.1 s.lmverifier in
    let x₅ = field p 1068 24 f.lm _ x₄.1 s.lm in
    let x₆ = field p 1092 24 f.nt _ x₅.1 s.nt in
    let flags : (read_change p).flags ≡ f.flags = number_at_lem 1116 p f.flags _ x₆.1 small in
    let size : bad_change_size p ≡ false = simp (eq-eqb (length_of p) 1118 all) in
    record {
      frame = g.good;
      code = refl;
      id = refl;
      fields =
          change_same
          (fixed_field 516 _ f.block x₁.0 s.block) (fixed_field 16 _ f.verifier x₂.0 s.verifier)
          (fixed_field 516 _ f.lmblock x₃.0 s.lmblock) (fixed_field 16 _ f.lmverifier x₄.0 s.lmverifier)
          (fixed_field 24 _ f.lm x₅.0 s.lm) (fixed_field 24 _ f.nt x₆.0 s.nt) flags;
      size = size;
      fit = λ h. simp (size, le-ltb 3 (read_change p).flags (omega arith));
    }

-- and of a version 1 change
pub record ChangeOneBack (i : ℕ) (f : ChangeOne) (p : List ℕ) : Type 0 where
  pub frame : bad_frame p ≡ false
  pub code : octet 0 p ≡ 5
  pub id : octet 1 p ≡ i
  pub fields : read_change_one p ≡ f
  pub size : bad_change_one_size p ≡ false
  pub fit : f.flags < 2 → change_one_refusal p ≡ 0

pub change_one_back : (id : ℕ) (f : ChangeOne) (t : List ℕ) → SizedOne f → f.length < 65536 → f.flags < 65536
    → ChangeOneBack id f (change_one_packet id f ++ t)
unfolding change_one_packet change_one_refusal
change_one_back id f t s short small =
    let p = change_one_packet id f ++ t in
    let last = to_be 2 f.length ++ to_be 2 f.flags in
    let g = frame_good 5 id (f.lmold ++ (f.lmnew ++ (f.ntold ++ (f.ntnew ++ last)))) t (omega (arith, length_fields_one f s)) in
    let all : length_of p ≡ 72 = g.long ∙ omega (arith, length_fields_one f s) in
    let start : drop 4 p ≡ f.lmold ++ (f.lmnew ++ (f.ntold ++ (f.ntnew ++ (to_be 2 f.length ++ (to_be 2 f.flags ++ t))))) = simp append_assoc in
    let x₁ = field p 4 16 f.lmold _ start s.lmold in
    let x₂ = field p 20 16 f.lmnew _ x₁.1 s.lmnew in
    let x₃ = field p 36 16 f.ntold _ x₂.1 s.ntold in
    let x₄ = field p 52 16 f.ntnew _ x₃.1 s.ntnew in
    let x₅ = field p 68 2 (to_be 2 f.length) _ x₄.1 refl in
    let flags : (read_change_one p).flags ≡ f.flags = number_at_lem 70 p f.flags t x₅.1 small in
    let size : bad_change_one_size p ≡ false = simp (eq-eqb (length_of p) 72 all) in
    record {
      frame = g.good;
      code = refl;
      id = refl;
      fields =
          change_one_same
          (fixed_field 16 _ f.lmold x₁.0 s.lmold) (fixed_field 16 _ f.lmnew x₂.0 s.lmnew)
          (fixed_field 16 _ f.ntold x₃.0 s.ntold) (fixed_field 16 _ f.ntnew x₄.0 s.ntnew)
          (number_at_lem 68 p f.length _ x₄.1 short) flags;
      size = size;
      fit = λ h. simp (size, le-ltb 1 (read_change_one p).flags (omega arith));
    }

-- ---- what the peer reads

pub challenge_back : (id : ℕ) (c t : List ℕ) → length c ≡ 8 → read_challenge (challenge_packet id c ++ t) ≡ record { refusal = 0; id = id; challenge = c }
unfolding challenge_packet read_challenge
challenge_back id c t e =
    let g = frame_good 1 id (length c ∷ c) t (omega arith) in
    let p = framed 1 id (length c ∷ c) ++ t in
    let size : length_of p ≡ 13 = g.long ∙ omega arith in
    simp (g.good, le-ltb (length_of p) 13 (omega arith), eq-eqb (length c) 8 e) (asked_same refl refl (fixed_field 8 _ c (take_at c t 8 e) e))

pub success_back : (id : ℕ) (t : List ℕ) → read_reply id (success_packet id ++ t) ≡ Ok Success
unfolding success_packet read_reply
success_back id t = simp ((frame_good 3 id [] t (omega arith)).good, eq-eqb id id refl)

pub failure_back : (id : ℕ) (m t : List ℕ) → length m < 65532
    → read_reply id (failure_packet id m ++ t) ≡ failure_in (read_message m)
unfolding failure_packet read_reply
failure_back id m t h =
    let g = frame_good 4 id m t (omega arith) in
    simp (g.good, eq-eqb id id refl) (ap (λ (l : List ℕ). failure_in (read_message l)) g.body)

-- the box's own message
pub failure_read : (id e r v : ℕ) (t : List ℕ) → e < 1000 → r < 2 → v < 10
    → read_reply id (failure_packet id (text_of e r v) ++ t) ≡ Ok (Failure (failed_with e r v None))
failure_read id e r v t he hr hv =
    failure_back id (text_of e r v) t (omega (arith, length_text e r v))
    ∙ ap failure_in (read_text e r v he hr hv)
