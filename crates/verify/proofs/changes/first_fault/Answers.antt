-- `verify::changes::first_fault` meets its contract.
-- Assumes nothing.
use mathlib.Core.Bool.{Bool, true, false, not, ◌&&◌, cond, false≢true}
use mathlib.Core.Path.{◌≡◌, refl, sym, ap, ap₂, ◌∙◌}
use Prim.Native.Nat.{ℕ}
use Rattle.std.specs.Prelude.{Option, Some, None}
use Rattle.std.specs.Option.{option_or, is_some}
use Rattle.std.specs.Bool.{then_some}
use Rattle.verify.specs.Faults.{fault_number, fault_with, is_faultless}
use Rattle.verify.specs.declared.ChangeFault.{ChangeFault}
use Rattle.verify.specs.declared.ChangeFault.TheVariants.{NoNtHash, NoNtResponse, LengthOver}
use Rattle.verify.specs.declared.ChangeFault.TheVariants.{LengthOdd, OldHashWrong, ResponseWrong}
use Rattle.verify.specs.declared.ChangeFault.TheVariants.{LmNotAllowed, LengthOverLm, HashAbsent}
use Rattle.verify.specs.declared.ChangeFault.TheVariants.{HashWrong}
use Rattle.verify.proofs.FirstFault.{fault_back}
use Rattle.verify.proofs.changes.first_fault.Goals as goal

abbrev none_in : Option ChangeFault → Bool
none_in None = true
none_in (Some x) = false

none_told : (o : Option ChangeFault) (r : Bool) → is_some o ≡ not r → r ≡ none_in o
none_told None true e = refl
none_told None false e = absurd (false≢true e)
none_told (Some x) true e = absurd (false≢true (sym e))
none_told (Some x) false e = refl

-- a length's fault is told by its number
told : (length proof : Option ChangeFault)
    → fault_with (cond (none_in length) (fault_number proof) (fault_number length))
    ≡ cond (is_faultless length) proof length
told None proof = fault_back proof
told (Some NoNtHash) proof = refl
told (Some NoNtResponse) proof = refl
told (Some LengthOver) proof = refl
told (Some LengthOdd) proof = refl
told (Some OldHashWrong) proof = refl
told (Some ResponseWrong) proof = refl
told (Some LmNotAllowed) proof = refl
told (Some LengthOverLm) proof = refl
told (Some HashAbsent) proof = refl
told (Some HashWrong) proof = refl

chosen_by : (absent clear : Bool) (length proof : Option ChangeFault)
    → fault_with (cond ((not absent && not clear) && none_in length) (fault_number proof)
    (fault_number (option_or (then_some absent NoNtHash)
    (option_or (then_some clear NoNtResponse) length))))
    ≡ cond absent (Some NoNtHash) (cond clear (Some NoNtResponse)
    (cond (is_faultless length) proof length))
chosen_by true clear length proof = refl
chosen_by false true length proof = refl
chosen_by false false length proof = told length proof

pub returns : goal.returns
returns c =
    let a = c.args in
    let before = c.or-before.ensures
    ∙ ap₂ option_or c.then_some-2.ensures
    (c.or-sent.ensures ∙ ap (λ (x : Option ChangeFault). option_or x a.length) c.then_some.ensures) in
    c.fault_with.ensures
    ∙ ap fault_with
    (c.where_both.ensures
    ∙ ap₂ (λ (t : Bool) (n : ℕ). cond ((not a.absent && not a.clear) && t) n c.fault_number-2.result)
    (none_told a.length c.is_none.result c.is_none.ensures) c.fault_number.ensures
    ∙ ap (λ (n : ℕ). cond ((not a.absent && not a.clear) && none_in a.length) (fault_number a.proof) n)
    (c.fault_number-2.ensures ∙ ap fault_number before))
    ∙ chosen_by a.absent a.clear a.length a.proof
