-- Demand 3 holds of no writer that refuses everything, and of none that asks for the LM response to
-- be judged.
-- Assumes nothing.
use Rattle.std.specs.Prelude.{None}
use mathlib.Core.Bool.{Bool, true, false, not, ◌&&◌, true≢false}
use mathlib.Core.List.{List, [], ◌∷◌, ◌++◌}
use mathlib.Core.Path.{◌≡◌, refl, sym, ap, ◌∙◌}
use Prim.Native.Nat.{ℕ, ◌≤◌}
use native.Mathlib.Omega.{arith}
use lib.ListN.{length, replicate}
use Rattle.credentials.specs.Credentials.{nt_hash_of}
use Rattle.credentials.proofs.Laws.{length_response}
use Rattle.packets.specs.Frame.{octet}
use Rattle.packets.specs.Response.{response_packet, read_response, response_write_refusal}
use Rattle.packets.specs.declared.Response as fields
use Rattle.packets.proofs.ReadBack.{response_back}
use Rattle.packets.proofs.Writing as writing
use Rattle.accounts.specs.Account.{found, entry_of}
use Rattle.authenticator.specs.declared.Reply.TheVariants.{Failure}
use Rattle.message.specs.Reasons.{authentication_failure}
use Rattle.authenticator.specs.Opening.{first_conversation}
use Rattle.authenticator.specs.Admit.{carries, refusal_for}
use Rattle.authenticator.specs.Encode.{reply_packet}
use Rattle.verify.specs.Lockout.{is_locked}
use Rattle.verify.specs.Response.{valid, first_reason, response_reason}
use Rattle.authenticator.specs.Judge.{may_retry, reply_for, judge_response, judge_in, judge}
use Rattle.authenticator.specs.Judge.{valid_in}
use Rattle.authenticator.specs.Step.{Outcome, step}
use Rattle.authenticator.specs.Steps.{StepInput, step_on, reply_of}
use Rattle.authenticator.proofs.Steps.{Case, refused, repeated, judged, case_of, reply_of_lem}
use Rattle.authenticator.specs.declared.Conversation.{Conversation}
use Rattle.authenticator.specs.declared.Phase.{Phase}
use Rattle.authenticator.specs.declared.Phase.TheVariants.{Response}
use Rattle.peer.specs.Write.{response_fields, write_response_refusal}
use Rattle.peer.proofs.Left.{left_good}
use Rattle.series.specs.Series.{own, right, start, exchange, Demand3}
use Rattle.series.specs.Boxes.{our_box}
use Rattle.series.specs.Writers.{refusing_to_write, lm_fields, asks_for_lm}
use Rattle.series.proofs.Sample.{
  opening,
  opens_default,
  old,
  user,
  account,
  rightful,
  agreeing,
  line,
  right_try,
  right_allowed,
}
use Rattle.series.proofs.Wrong.{success_code_lem, failure_code_lem, first_default}

-- ---- refuses everything

-- what reaches the box is the padding alone, and draws nothing
abbrev code_for : Conversation → ℕ
code_for c = octet 0 (reply_of (our_box c (record {
  packet = 9 ∷ [];
  account = found
      (account false);
  buffer = replicate 17 0;
})))

padding_draws_nothing : code_for (first_conversation (opening None)) ≡ 0
unfolding refusal_for step
padding_draws_nothing = refl

-- with any number, 0 too
pub not_refusing_to_write : (n : ℕ) → Demand3 our_box (refusing_to_write n) → ⊥
not_refusing_to_write n h =
    let writer = refusing_to_write n in
    let p = start (opening None) [] (account false) in
    let all = (h (opening None) opens_default refl).1 (account false) 0 [] (right_try ∷ [])
    (rightful false) (agreeing false) (omega arith) (omega arith) refl
    (right_allowed our_box writer p false, tt) in
    let code = ap (octet 0) all.0.0.0.0 ∙ success_code_lem _ in
    omega (arith, code, ap code_for first_default ∙ padding_draws_nothing)

-- ---- asks for the LM response to be judged

-- a Response that is judged, and is not valid, draws 691
module _ (c : Conversation) (ph : c.phase ≡ Response) (s : StepInput)
    (not_valid : valid_in c s.account.account (read_response s.packet) ≡ false) where
  found_not : (f l : Bool)
      → (f && (not l && valid_in c s.account.account (read_response s.packet))) ≡ false
  found_not true true = refl
  found_not true false = not_valid
  found_not false l = refl

  pub fails : (judge c s.packet s.account).reply
      ≡ Failure authentication_failure (may_retry c authentication_failure)
  unfolding judge judge_response response_reason first_reason
  fails =
      ap (λ (x : Phase). (judge_in x c s.packet s.account).reply) ph
      ∙ ap (λ (v : Bool). reply_for c (first_reason v (entry_of s.account.account)))
      (found_not s.account.found (is_locked c.terms s.account.account))

-- with the flag 0, where LM is not allowed, no Response draws Success: it is refused, or draws a
-- Failure
module _ (c : Conversation) (lm : c.terms.lm ≡ false) (ph : c.phase ≡ Response)
    (none_yet : c.last.present ≡ false) (s : StepInput)
    (flag : (read_response s.packet).flag ≡ 0)
    (room : 17 ≤ length s.buffer) where
  not_valid : valid_in c s.account.account (read_response s.packet) ≡ false
  unfolding valid
  not_valid = simp (flag, lm)

  no_success : octet 0 (reply_of (step_on c s)) ≡ 3 → ⊥
  no_success e = which (case_of c s.packet s.account s.buffer)
    where
      which : Case c s.packet s.account s.buffer → ⊥
      which (refused n z) =
          let none = ap (λ (o : Outcome). octet 0 (reply_of o)) z in
          omega arith
      which (repeated z r y) =
          true≢false (sym r ∙ ap (λ (t : Bool). t && carries c.last.code c.last.id
          s.packet) none_yet)
      which (judged ok z) =
          let d = judge c s.packet s.account in
          let code = ap (λ (o : Outcome). octet 0 (reply_of o)) z
          ∙ ap (octet 0) (reply_of_lem c d s.buffer room
          ∙ ap (reply_packet c.terms c.id) (fails c ph s not_valid))
          ∙ failure_code_lem c.id _ in
          omega arith

pub not_asking_for_lm : Demand3 our_box asks_for_lm → ⊥
unfolding write_response_refusal response_write_refusal
not_asking_for_lm h =
    let p = start (opening None) [] (account false) in
    let all = (h (opening None) opens_default refl).1 (account false) 0 [] (right_try ∷ [])
    (rightful false) (agreeing false) (omega arith) (omega arith) refl
    (right_allowed our_box asks_for_lm p false, tt) in
    let f = lm_fields (response_fields p.peer.turn.challenge old) in
    let packet = response_packet p.peer.turn.id f user in
    let s = (exchange our_box asks_for_lm p (right old user) (line 55 own)).input in
    let nt = length_response (nt_hash_of old) p.peer.turn.challenge in
    let long = writing.length_response p.peer.turn.id f user refl nt in
    let same = ap (λ (x : List ℕ). x ++ 9 ∷ []) (left_good 0 packet (replicate 55 0) refl
    (omega (arith, long))) in
    let flag = ap (λ (x : List ℕ). (read_response x).flag) same
    ∙ ap (λ (g : fields.Response). g.flag) (response_back p.peer.turn.id f user
    (9 ∷ []) refl nt (omega arith) (omega arith)).fields in
    no_success p.box.conversation (ap (λ (c : Conversation). c.terms.lm) first_default)
    (ap (λ (c : Conversation). c.phase) first_default)
    (ap (λ (c : Conversation). c.last.present) first_default) s flag (omega arith)
    (ap (octet 0) all.0.0.0.0 ∙ success_code_lem _)
