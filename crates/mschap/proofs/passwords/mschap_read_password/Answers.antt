-- `mschap::passwords::mschap_read_password` meets its contract.
-- Assumes nothing.
use mathlib.Core.Path.{◌≡◌, refl, sym, ap, ◌∙◌}
use mathlib.Core.Bool.{Bool, true, cond}
use native.Mathlib.Omega.{arith}
use borrow.Author.Tests.{ne_eqb, lt-ltb, le-ltb}
use mathlib.Core.List.{List}
use Prim.Native.Nat.{ℕ}
use lib.Dec.{eqb}
use lib.ListN.{length}
use Rattle.octets.specs.Parts.{over}
use Rattle.std.specs.Prelude.{Result, Ok, Err}
use Rattle.refusals.proofs.Numbers.{number_some}
use Rattle.refusals.specs.declared.Refusal.{Refusal}
use Rattle.unicode_text.specs.Password.{octets_of, text_of}
use Rattle.layouts.specs.Call.{numbered}
use Rattle.layouts.specs.Passwords.{is_encoded_password}
use Rattle.mschap.specs.Passwords.{text_from, read_refusal}
use Rattle.mschap.proofs.passwords.mschap_read_password.Goals as goal

-- the password is not valid
pub returns-then-not-is_encoded_password : goal.returns-then-not-is_encoded_password
returns-then-not-is_encoded_password c =
    record {
      number = simp (sym c.is_encoded_password.ensures ∙ c.if-not-is_encoded_password.true);
      text = refl;
      long = refl;
    }

-- refused: nothing is written
pub returns-in-Err : goal.returns-in-Err
unfolding read_refusal
returns-in-Err c =
    let password = c.args.password.now in
    let out = c.args.text.now in
    let valid : is_encoded_password password ≡ true
    = sym c.is_encoded_password.ensures ∙ c.if-not-is_encoded_password.false in
    let read : text_from password ≡ Err c.in-Err.refusal
    = ap text_of (sym c.decode_password.ensures) ∙ sym c.text_of.ensures ∙ c.in-Err.is in
    let e = c.refused.ensures in
    let nonzero = ne_eqb _ _ (number_some c.in-Err.refusal) in
    record {
      number = e ∙ sym (ap (λ (t : Bool). numbered t (read_refusal (text_from password) out)) valid
          ∙ ap (λ (t : Result (List ℕ) Refusal). read_refusal t out) read);
      text = sym (simp (ap (λ (i : ℕ). eqb i 0) e ∙ nonzero));
      long = sym (simp (ap (λ (i : ℕ). eqb i 0) e ∙ nonzero));
    }

-- too little room
pub returns-then-text-len : goal.returns-then-text-len
unfolding read_refusal
returns-then-text-len c =
    let password = c.args.password.now in
    let out = c.args.text.now in
    let valid : is_encoded_password password ≡ true
    = sym c.is_encoded_password.ensures ∙ c.if-not-is_encoded_password.false in
    let read : text_from password ≡ Ok c.in-Ok.read
    = ap text_of (sym c.decode_password.ensures) ∙ sym c.text_of.ensures ∙ c.in-Ok.is in
    let e = c.refused-then-text-len.ensures in
    let full = lt-ltb (length out) (length c.in-Ok.read) (omega (arith, c.if-text-len.true, c.len.ensures.value)) in
    record {
      number = e ∙ sym (ap (λ (t : Bool). numbered t (read_refusal (text_from password) out)) valid
          ∙ ap (λ (t : Result (List ℕ) Refusal). read_refusal t out) read ∙ ap (λ (t : Bool). cond t 9 0) full);
      text = sym (simp (ap (λ (i : ℕ). eqb i 0) e));
      long = sym (simp (ap (λ (i : ℕ). eqb i 0) e));
    }

pub returns : goal.returns
unfolding read_refusal
returns c =
    let password = c.args.password.now in
    let out = c.args.text.now in
    let valid : is_encoded_password password ≡ true
    = sym c.is_encoded_password.ensures ∙ c.if-not-is_encoded_password.false in
    let read : text_from password ≡ Ok c.in-Ok.read
    = ap text_of (sym c.decode_password.ensures) ∙ sym c.text_of.ensures ∙ c.in-Ok.is in
    let room = le-ltb (length out) (length c.in-Ok.read) (omega (arith, c.if-text-len.false, c.len.ensures.value)) in
    record {
      number = sym (ap (λ (t : Bool). numbered t (read_refusal (text_from password) out)) valid
          ∙ ap (λ (t : Result (List ℕ) Refusal). read_refusal t out) read ∙ ap (λ (t : Bool). cond t 9 0) room);
      text = c.copy.ensures ∙ ap (λ (l : List ℕ). over l out) (c.as_slice.ensures ∙ sym (ap octets_of read));
      long = c.len-2.ensures.value ∙ sym (ap (λ (t : Result (List ℕ) Refusal). length (octets_of t)) read);
    }
