-- What a change is checked to be, by what the code found in the block (a hash, or the fault of its
-- length) and by the tests that it makes of that.
-- Assumes nothing.
use Rattle.std.specs.Prelude.{Option, Some, None}
use mathlib.Core.Path.{◌≡◌, refl}
use mathlib.Core.Bool.{Bool, true, false, cond}
use mathlib.Core.List.{List}
use Prim.Native.Nat.{ℕ}
use Rattle.credentials.specs.declared.Unsealed.{Unsealed}
use Rattle.credentials.specs.declared.Content.TheVariants.{Over, Odd, Password}
use Rattle.credentials.specs.Credentials.{nt_hash_of, password_in}
use Rattle.accounts.specs.Account.{no_hash, hash_of}
use Rattle.verify.specs.Faults.{first_fault, is_faultless}
use Rattle.verify.specs.Change.{checked_with}
use Rattle.verify.specs.Inner.{checked_content}
use Rattle.verify.specs.declared.ChangeFault.{ChangeFault}
use Rattle.verify.specs.declared.ChangeFault.TheVariants.{NoNtHash, NoNtResponse}
use Rattle.verify.specs.declared.ChangeFault.TheVariants.{OldHashWrong, ResponseWrong}

-- the faults in the order in which the code composes them, around what it found in the block
abbrev pub composed : Bool → Bool → Option ChangeFault → Bool → Bool → Option ChangeFault
composed absent clear found old response =
    cond absent (Some NoNtHash)
    (cond clear (Some NoNtResponse)
    (cond (is_faultless found) (cond old (Some OldHashWrong) (cond response (Some ResponseWrong) None)) found))

-- over and odd are the two tests of the length n; the tests of the hash are functions of it
pub by_tests : (absent clear over odd : Bool) (n : ℕ) (o : Unsealed) (old response : List ℕ → Bool)
    → (let found = checked_content (cond over Over (cond odd Odd (Password n))) o in
    checked_with (composed absent clear found.fault (old found.hash) (response found.hash))
    (hash_of found.hash) no_hash)
    ≡ (let h = nt_hash_of (password_in o n) in
    checked_with (first_fault absent clear over odd (old h) (response h)) (hash_of h) no_hash)
unfolding first_fault
by_tests true clear over odd n o old response = refl
by_tests false true over odd n o old response = refl
by_tests false false true odd n o old response = refl
by_tests false false false true n o old response = refl
by_tests false false false false n o old response = refl
