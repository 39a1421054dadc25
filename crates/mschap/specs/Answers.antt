-- The bytes of an answer that may be a refusal.
-- Assumes nothing: these are definitions.
use Rattle.std.specs.Prelude.{List, ℕ, Result, Ok, Err, replicate}
use Rattle.refusals.specs.declared.Refusal.{Refusal}

-- those of n bytes, and n bytes 0 where it is a refusal
abbrev pub octets_or_zeros : ℕ → Result (List ℕ) Refusal → List ℕ
octets_or_zeros n (Ok octets) = octets
octets_or_zeros n (Err refusal) = replicate n 0
