-- What the code finds in an opened block. Only private functions cite it.
-- Assumes nothing: these are definitions.
use Rattle.std.specs.Prelude.{Option, Some, None}
use Rattle.std.specs.Prelude.{cond, List, ℕ, replicate}
use Rattle.credentials.specs.Credentials.{hash_size, nt_hash_of, password_in}
use Rattle.credentials.specs.declared.Unsealed.{Unsealed}
use Rattle.credentials.specs.declared.Content.{Content}
use Rattle.credentials.specs.declared.Content.TheVariants.{Over, Odd, Password}
use Rattle.verify.specs.Faults.{is_faultless}
use Rattle.verify.specs.declared.ChangeFault.{ChangeFault}
use Rattle.verify.specs.declared.ChangeFault.TheVariants.{LengthOver, LengthOdd}
use Rattle.verify.specs.declared.CheckedBlock.{CheckedBlock}

-- the fault of its length
abbrev pub content_fault : Content → Option ChangeFault
content_fault Over = (Some LengthOver)
content_fault Odd = (Some LengthOdd)
content_fault (Password n) = None

-- how many of its octets are hashed: those of the password, or none
abbrev pub content_length : Content → ℕ
content_length Over = 0
content_length Odd = 0
content_length (Password n) = n

-- the hash of the password in it, or the fault of its length and sixteen octets 0
abbrev pub block_with : Option ChangeFault → List ℕ → CheckedBlock
block_with fault h =
    record { fault = fault; hash = cond (is_faultless fault) h (replicate hash_size 0) }

abbrev pub checked_content : Content → Unsealed → CheckedBlock
checked_content k o = block_with (content_fault k) (nt_hash_of (password_in o (content_length k)))

abbrev pub checked_block : Unsealed → CheckedBlock
checked_block o = checked_content o.content o
