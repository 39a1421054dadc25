-- What may be wrong with a change of the password, and which of it is told (document 02, requests
-- 2026-04 and, for version 1's change, 2026-07).
-- Assumes nothing: these are definitions.
use Rattle.std.specs.Prelude.{Option, Some, None}
use Rattle.std.specs.Prelude.{Bool, cond, ℕ, eqb}
use Rattle.verify.specs.declared.ChangeFault.{ChangeFault}
use Rattle.verify.specs.declared.ChangeFault.TheVariants.{
  NoNtHash,
  NoNtResponse,
  LengthOver,
  LengthOdd,
  OldHashWrong,
  ResponseWrong,
  LmNotAllowed,
  LengthOverLm,
  HashAbsent,
  HashWrong,
}

-- "the first that holds of: no NT hash, bit 0 clear, over 512, odd, old hash wrong, response
-- wrong", by whether each of them holds
unfoldable pub first_fault : Bool → Bool → Bool → Bool → Bool → Bool → Option ChangeFault
first_fault absent clear over odd old response =
    cond absent (Some NoNtHash)
    (cond clear (Some NoNtResponse)
    (cond over (Some LengthOver)
    (cond odd (Some LengthOdd)
    (cond old (Some OldHashWrong)
    (cond response (Some ResponseWrong) None)))))

-- of a version 1 change "the first of LM not allowed and over 14 .., hash absent, old hash wrong"
unfoldable pub first_fault_one : Bool → Bool → Bool → Bool → Option ChangeFault
first_fault_one lm over absent wrong =
    cond lm (Some LmNotAllowed)
    (cond over (Some LengthOverLm)
    (cond absent (Some HashAbsent)
    (cond wrong (Some HashWrong) None)))

-- each one's place in its version's order; 0 is none
abbrev pub fault_number : Option ChangeFault → ℕ
fault_number None = 0
fault_number (Some NoNtHash) = 1
fault_number (Some NoNtResponse) = 2
fault_number (Some LengthOver) = 3
fault_number (Some LengthOdd) = 4
fault_number (Some OldHashWrong) = 5
fault_number (Some ResponseWrong) = 6
fault_number (Some LmNotAllowed) = 7
fault_number (Some LengthOverLm) = 8
fault_number (Some HashAbsent) = 9
fault_number (Some HashWrong) = 10

-- the fault of a number; none of any other
abbrev pub fault_one_with : ℕ → Option ChangeFault
fault_one_with n =
    cond (eqb n 7) (Some LmNotAllowed)
    (cond (eqb n 8) (Some LengthOverLm)
    (cond (eqb n 9) (Some HashAbsent)
    (cond (eqb n 10) (Some HashWrong) None)))

abbrev pub fault_with : ℕ → Option ChangeFault
fault_with n =
    cond (eqb n 1) (Some NoNtHash)
    (cond (eqb n 2) (Some NoNtResponse)
    (cond (eqb n 3) (Some LengthOver)
    (cond (eqb n 4) (Some LengthOdd)
    (cond (eqb n 5) (Some OldHashWrong)
    (cond (eqb n 6) (Some ResponseWrong) (fault_one_with n))))))

-- nothing is wrong
abbrev pub is_faultless : Option ChangeFault → Bool
is_faultless fault = eqb (fault_number fault) 0
