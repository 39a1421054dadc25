-- What the writers leave: the pieces of a packet, laid one behind the other over the front of the
-- the caller's buffer, are the packet there. Lengths of the packets.
-- Assumes nothing.
use mathlib.Core.Path.{◌≡◌, refl, sym, ap, ◌∙◌}
use mathlib.Core.Bool.{Bool, true, false, cond, ◌||◌, false≢true}
use mathlib.Core.List.{List, [], ◌∷◌, ◌++◌, append_assoc}
use Prim.Native.Nat.{ℕ, ◌+◌, ◌≤◌, ◌<◌}
use native.Mathlib.Omega.{arith}
use borrow.Author.Tests.{le-leb, lt-leb, ltb-false, ne_eqb}
use lib.Dec.{ltb}
use lib.ListN.{length, take, drop, length-append}
use lib.Seq.{take-append_seam}
use Rattle.refusals.proofs.Laws.{both_passed}
use Rattle.octets.specs.Numbers.{to_be}
use Rattle.octets.specs.Parts.{over}
use Rattle.octets.proofs.Parts.{over_fits}
use Rattle.octets.proofs.Laid.{Laid}
use Rattle.packets.specs.Sizes.{name_offset, longest_name, change_size, change_one_size}
use Rattle.std.specs.Prelude.{Ok, Err}
use Rattle.refusals.specs.Refusal.{number}
use Rattle.refusals.specs.declared.Refusal.{Refusal}
use Rattle.refusals.proofs.Numbers.{number_some}
use Rattle.packets.specs.Frame.{framed, written_over, written_length, short_for}
use Rattle.packets.specs.Frame.{written_as, answer_by, out_by}
use Rattle.packets.specs.Response.{response_packet, bad_name, short_for_response}
use Rattle.packets.specs.Response.{response_write_refusal}
use Rattle.packets.specs.Change.{change_packet, change_write_refusal}
use Rattle.packets.specs.ChangeOne.{change_one_packet, change_one_write_refusal}
use Rattle.packets.specs.Reply.{challenge_packet, success_packet, failure_packet}
use Rattle.packets.specs.declared.Response.{Response}
use Rattle.packets.specs.declared.Change.{Change}
use Rattle.packets.specs.declared.ChangeOne.{ChangeOne}

-- ---- lengths

pub length_challenge : (id : ℕ) (c : List ℕ) → length (challenge_packet id c) ≡ 5 + length c
unfolding challenge_packet
length_challenge id c = omega arith

pub length_success : (id : ℕ) → length (success_packet id) ≡ 4
unfolding success_packet
length_success id = refl

pub length_failure : (id : ℕ) (m : List ℕ) → length (failure_packet id m) ≡ 4 + length m
unfolding failure_packet
length_failure id m = omega arith

-- a Response's data, and a change's
pub length_answers : (f : Response) (name : List ℕ) → length f.lm ≡ 24 → length f.nt ≡ 24
    → length (49 ∷ (f.lm ++ (f.nt ++ (f.flag ∷ name)))) ≡ 50 + length name
length_answers f name l n = omega (arith, length-append f.lm (f.nt ++ (f.flag ∷ name)), length-append f.nt (f.flag ∷ name))

pub length_response : (id : ℕ) (f : Response) (name : List ℕ) → length f.lm ≡ 24 → length f.nt ≡ 24
    → length (response_packet id f name) ≡ name_offset + length name
unfolding response_packet
length_response id f name l n = omega (arith, length_answers f name l n)

-- the lengths of a change's fields
pub record Sized (f : Change) : Type 0 where
  pub block : length f.block ≡ 516
  pub verifier : length f.verifier ≡ 16
  pub lmblock : length f.lmblock ≡ 516
  pub lmverifier : length f.lmverifier ≡ 16
  pub lm : length f.lm ≡ 24
  pub nt : length f.nt ≡ 24

pub length_fields : (f : Change) → Sized f
    → length (f.block ++ (f.verifier ++ (f.lmblock ++ (f.lmverifier ++ (f.lm ++ (f.nt ++ to_be 2 f.flags)))))) ≡ 1114
length_fields f s = simp (length-append, s.block, s.verifier, s.lmblock, s.lmverifier, s.lm, s.nt)

pub length_change : (id : ℕ) (f : Change) → Sized f → length (change_packet id f) ≡ change_size
unfolding change_packet
length_change id f s = omega (arith, length_fields f s)

-- the same for a version 1 change
pub record SizedOne (f : ChangeOne) : Type 0 where
  pub lmold : length f.lmold ≡ 16
  pub lmnew : length f.lmnew ≡ 16
  pub ntold : length f.ntold ≡ 16
  pub ntnew : length f.ntnew ≡ 16

pub length_fields_one : (f : ChangeOne) → SizedOne f
    → length (f.lmold ++ (f.lmnew ++ (f.ntold ++ (f.ntnew ++ (to_be 2 f.length ++ to_be 2 f.flags))))) ≡ 68
length_fields_one f s = simp (length-append, s.lmold, s.lmnew, s.ntold, s.ntnew)

pub length_change_one : (id : ℕ) (f : ChangeOne) → SizedOne f → length (change_one_packet id f) ≡ change_one_size
unfolding change_one_packet
length_change_one id f s = omega (arith, length_fields_one f s)

-- ---- a packet at the front of a buffer

pub fits : (packet out : List ℕ) → length packet ≤ length out
    → (written_length packet out ≡ length packet) × (written_over packet out ≡ packet ++ drop (length packet) out)
unfolding written_over written_length
fits packet out h = (simp (le-leb (length packet) (length out) h), simp (le-leb (length packet) (length out) h))

pub too_long : (packet out : List ℕ) {n : ℕ} → length packet ≡ n → length out < n → (0 ≡ written_length packet out) × (out ≡ written_over packet out)
unfolding written_over written_length
too_long packet out {n} e h =
    let f = lt-leb (length packet) (length out) (omega arith) in (simp f, simp f)

-- what a reader of the buffer's written part takes
pub taken : (packet out : List ℕ) → length packet ≤ length out → take (length packet) (written_over packet out) ≡ packet
taken packet out h = ap (take (length packet)) (fits packet out h).1 ∙ take-append_seam packet (drop (length packet) out)

-- ---- pieces

pub response_order : (h lm nt name : List ℕ) (x y : ℕ)
    → ((((h ++ (x ∷ [])) ++ lm) ++ nt) ++ (y ∷ [])) ++ name ≡ h ++ (x ∷ (lm ++ (nt ++ (y ∷ name))))
response_order h lm nt name x y = simp append_assoc

pub change_order : (h a b c d e : List ℕ) → ((h ++ (a ++ b)) ++ (c ++ d)) ++ e ≡ h ++ (a ++ (b ++ (c ++ (d ++ e))))
change_order h a b c d e = simp append_assoc

pub change_two_order : (h a b c d e f g : List ℕ)
    → (((h ++ (a ++ b)) ++ (c ++ d)) ++ (e ++ f)) ++ g
    ≡ h ++ (a ++ (b ++ (c ++ (d ++ (e ++ (f ++ g))))))
change_two_order h a b c d e f g = simp append_assoc

-- pieces that begin with the four octets of a frame are the packet, where the Length there is that
-- of all of them and there is room
pub framed_laid : (code id : ℕ) (d : List ℕ) {l xs b head : List ℕ} {n : ℕ} → Laid l xs n b → head ≡ code ∷ id ∷ to_be 2 n → xs ≡ head ++ d → n ≤ length l
    → (length (framed code id d) ≡ n) × ((n ≡ written_length (framed code id d) l) × (b ≡ written_over (framed code id d) l))
framed_laid code id d {l} {xs} {b} {head} {n} s e f h =
    let parts : length xs ≡ length head + length d = ap length f ∙ length-append head d in
    let size : n ≡ 4 + length d = omega (arith, ap length e, s.long) in
    let packet : xs ≡ framed code id d = f ∙ ap (λ (x : List ℕ). x ++ d) e ∙ ap (λ (k : ℕ). code ∷ id ∷ (to_be 2 k ++ d)) size in
    let long : length (framed code id d) ≡ n = ap length (sym packet) ∙ s.long in
    let room : length (framed code id d) ≤ length l = omega arith in
    let whole = fits (framed code id d) l room in
    (long, (sym (whole.0 ∙ long), s.same ∙ ap (λ (x : List ℕ). over x l) packet ∙ over_fits (framed code id d) l room ∙ sym whole.1))

-- ---- the answers of the peer's writers

pub good_name : (name : List ℕ) → bad_name name ≡ false → (1 ≤ length name) × (length name ≤ 256)
good_name name e = by (ltb (length name) 1) (ltb 256 (length name)) refl refl e
  where
    by : (a b : Bool) → ltb (length name) 1 ≡ a → ltb 256 (length name) ≡ b → (a || b) ≡ false → (1 ≤ length name) × (length name ≤ 256)
    by false false e f g = (ltb-false (length name) 1 e, ltb-false 256 (length name) f)
    by false true e f g = absurd (false≢true (sym g))
    by true b e f g = absurd (false≢true (sym g))

-- by the refusal, which is n: nothing was written, or the packet
module _ (packet out : List ℕ) (n : ℕ) where
  pub nothing_written : (r : Refusal) → number r ≡ n
      → (written_as (Err r) ≡ answer_by n packet) × (out ≡ out_by n packet out)
  nothing_written r e =
      let t = ne_eqb n 0 (λ z. number_some r (e ∙ z)) in
      (simp (t, e), simp t)

  pub packet_written : n ≡ 0 → {k : ℕ} {b : List ℕ}
      → (k ≡ length packet) × (b ≡ written_over packet out)
      → (written_as (Ok k) ≡ answer_by n packet) × (b ≡ out_by n packet out)
  packet_written t w = (simp (t, w.0), simp t w.1)

-- what is known of a Response that is not refused
pub response_fits : (name out : List ℕ) → response_write_refusal name out ≡ 0 → (length name ≤ longest_name) × (name_offset + length name ≤ length out)
unfolding response_write_refusal
response_fits name out z =
    let passed = both_passed (bad_name name) 10 (short_for_response name out) 9 (omega arith) (omega arith) z in
    ((good_name name passed.0).1, ltb-false (length out) (name_offset + length name) passed.1)

-- and of a change
room_fits : (n : ℕ) (out : List ℕ) → ◌≡◌ {A = ℕ} (cond (short_for n out) 9 0) 0 → n ≤ length out
room_fits n out = by (short_for n out) refl
  where
    by : (a : Bool) → short_for n out ≡ a → ◌≡◌ {A = ℕ} (cond a 9 0) 0 → n ≤ length out
    by true p z = absurd (omega (arith, z))
    by false p z = ltb-false (length out) n p

pub change_fits : (out : List ℕ) → change_write_refusal out ≡ 0 → change_size ≤ length out
unfolding change_write_refusal
change_fits out z = room_fits change_size out z

pub change_one_fits : (out : List ℕ) → change_one_write_refusal out ≡ 0 → change_one_size ≤ length out
unfolding change_one_write_refusal
change_one_fits out z = room_fits change_one_size out z
