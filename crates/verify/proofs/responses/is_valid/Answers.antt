-- `verify::responses::is_valid` meets its contract: one response is chosen first, and
-- what the definition asks of either is asked of the chosen one.
-- Assumes nothing.
use mathlib.Core.Path.{◌≡◌, refl, ap₂, ◌∙◌}
use mathlib.Core.Bool.{Bool, true, false, cond, ◌&&◌, ◌||◌, and_assoc}
use mathlib.Core.List.{List}
use Prim.Native.Nat.{ℕ}
use lib.Dec.{eqb}
use Rattle.octets.specs.Parts.{agrees}
use Rattle.des.specs.Stored.{keys_in}
use Rattle.credentials.specs.Credentials.{response_under}
use Rattle.verify.specs.Response.{answers, valid}
use Rattle.verify.proofs.responses.is_valid.Goals as goal

-- p and q say that there is an NT hash and an LM hash; of is what is asked of the NT response
-- (true) or of the LM response (false)
chosen_first : (flagged p lm q : Bool) (of : Bool → Bool)
    → (((flagged && p) || (lm && q)) && of (flagged && p))
    ≡ cond (flagged && p) (p && of true) (lm && (q && of false))
chosen_first true true lm q of = refl
chosen_first true false lm q of = and_assoc lm q (of false)
chosen_first false p lm q of = and_assoc lm q (of false)

pub returns : goal.returns
unfolding valid answers
returns c =
    let a = c.args in
    let challenge = a.challenge in
    let keys = keys_in a.keys.now in
    let flagged = eqb a.fields.flag 1 in
    let nt = a.entry.nt in
    let lm = a.entry.lm in
    let allowed = a.terms.lm in
    let counts = (flagged && nt.present) || (allowed && lm.present) in
    let answer : Bool → List ℕ = λ b. cond b a.fields.nt a.fields.lm in
    let of : Bool → Bool = λ b. agrees (answer b) (response_under keys challenge) in
    c.agree_if_both.ensures
    ∙ ap₂ (λ (x y : List ℕ). counts && agrees x y) c.chosen_response-response.ensures
    c.scheduled_response-expected.ensures
    ∙ chosen_first flagged nt.present allowed lm.present of
