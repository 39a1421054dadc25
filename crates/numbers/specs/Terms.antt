-- The terms of an opening as C passes them: numbers in one, of four octets. The octet below the
-- highest says that they are terms, so that no identifier is taken for them. The highest is the
-- limit (document 02, request 2026-09): terms that say nothing of one have 0, which the opening
-- refuses. The octet above the retries has LM in its two lowest bits and the change above them
-- (request 2026-07), of which terms that say nothing have 0.
-- Assumes nothing: these are definitions.
use Rattle.std.specs.Prelude.{Option, Some, None, true, false}
use Rattle.verify.specs.declared.ChangeVersion.TheVariants.{One, Two}
use Rattle.verify.specs.declared.ChangeVersion.{ChangeVersion}
use Rattle.std.specs.Prelude.{Bool, cond, ◌&&◌, ℕ, ◌-◌, ◌/◌, ◌%◌, eqb, ltb}

abbrev pub limit_term : ℕ → ℕ
limit_term terms = terms / 16777216

abbrev pub terms_kind : ℕ → ℕ
terms_kind terms = terms / 65536 % 256

abbrev pub lm_term : ℕ → ℕ
lm_term terms = terms / 256 % 4

abbrev pub change_term : ℕ → ℕ
change_term terms = terms / 1024 % 64

abbrev pub retries_term : ℕ → ℕ
retries_term terms = terms % 256

unfoldable pub is_terms : ℕ → Bool
is_terms terms =
    eqb (terms_kind terms) 1 && (ltb (lm_term terms) 3 && ltb (change_term terms) 3)

-- 0 is silence, and any other number is one more than the retries
abbrev pub retries_for : ℕ → Option ℕ
retries_for n = cond (eqb n 0) None (Some (n - 1))

-- 0 is silence, 1 is yes, 2 is no
abbrev pub lm_for : ℕ → Option Bool
lm_for n = cond (eqb n 0) None (cond (eqb n 1) (Some true) (Some false))

-- 0 is silence, 1 and 2 are the versions
abbrev pub change_for : ℕ → Option ChangeVersion
change_for n = cond (eqb n 0) None (cond (eqb n 1) (Some One) (Some Two))
