-- Nothing that was recorded opens a second box: the premises can be met, by a Response that was
-- valid at the first box and a version 1 change; and an opener that leaves the list as it was does
-- not meet the claim, since there that Response opens the second box too.
-- Assumes nothing.
use mathlib.Core.Bool.{true, false}
use mathlib.Core.List.{[], ◌∷◌, ◌++◌}
use mathlib.Core.Logic.{inl, inr}
use mathlib.Core.Path.{◌≡◌, refl, ap, ◌∙◌}
use Prim.Native.Nat.{◌≤◌}
use native.Mathlib.Omega.{arith}
use lib.ListN.{length, replicate}
use Rattle.issued.specs.Issued.{empty_list}
use Rattle.packets.specs.Frame.{octet}
use Rattle.packets.specs.Response.{read_response}
use Rattle.accounts.specs.Account.{found, with_failures}
use Rattle.authenticator.specs.Judge.{valid_in}
use Rattle.authenticator.specs.Opening.{first_conversation, opened}
use Rattle.authenticator.specs.Step.{Outcome}
use Rattle.authenticator.specs.Steps.{StepInput, step_on, reply_of, next_after}
use Rattle.authenticator.specs.declared.Conversation.{Conversation}
use Rattle.authenticator.proofs.Judged.{accepted}
use Rattle.authenticator.proofs.Openings.{opened_first}
use Rattle.authenticator.proofs.Steps.{reply_of_lem}
use Rattle.peer.specs.Write.{response_for, change_one_for}
use Rattle.peer.specs.declared.Turn.{Turn}
use Rattle.peer.proofs.Found.{change_one_found}
use Rattle.series.specs.Course.{Along}
use Rattle.series.specs.Boxes.{our_box}
use Rattle.series.specs.Openers.{leaves_list, our_opener}
use Rattle.series.specs.OneList.{Two, Recorded, StaysShut, NoneOpened}
use Rattle.series.proofs.Faithful.{opened_faithful}
use Rattle.series.proofs.OneList.{none_opened_lem}
use Rattle.series.proofs.Sample.{old, new, user, account, rightful, agreeing}
use Rattle.series.proofs.Shared.{challenge, first, second, first_opens_lem, input, opens_live}
use Rattle.series.proofs.Shared.{two}
use Rattle.series.proofs.Taken.{InStep, right_valid, right_taken}
use Rattle.series.proofs.Wrong.{success_code_lem}

-- ---- what was recorded at the first box

abbrev turn : Turn
turn = record { id = 7; challenge = challenge }

-- the right password's Response, and a version 1 change
abbrev response : StepInput
response = record {
  packet = response_for turn old user ++ [];
  account = found (account false);
  buffer = replicate 17 0;
}

abbrev change : StepInput
change = record {
  packet = change_one_for turn old new ++ [];
  account = found (account false);
  buffer = replicate 17 0;
}

abbrev box : Conversation
box = (opened first).conversation

first_so : box ≡ first_conversation first
first_so = opened_first first first_opens_lem

in_step : InStep box turn
in_step = record {
  id = ap (λ (c : Conversation). c.id) first_so;
  challenge = ap (λ (c : Conversation). c.challenge) first_so;
}

named : (1 ≤ length user) × (length user ≤ 256)
named = (omega arith, omega arith)

valid_there : valid_in box (account false) (read_response response.packet) ≡ true
valid_there =
    right_valid box turn in_step.challenge old user [] named (account false) refl
    (agreeing false) refl

-- ---- a second box on the list that was left stays shut

change_recorded : Recorded our_opener first change
change_recorded = inl (λ e. omega (arith, (change_one_found turn old new []).code, e))

pub shut : Along (next_after our_box) StaysShut (opened second).conversation (response ∷ change ∷ [])
shut = (none_opened_lem (empty_list 8 6) first second two).0 (response ∷ change ∷ [])
    (inr (record { steps = []; valid = valid_there }), (change_recorded, tt))

-- ---- a box that was opened with the same challenge does not

taken : octet 0 (reply_of (step_on box response)) ≡ 3
taken =
    ap (λ (o : Outcome). octet 0 (reply_of o))
    (right_taken box turn in_step (opened_faithful first first_opens_lem).fresh
    (ap (λ (c : Conversation). c.phase) first_so) old user [] (replicate 17 0) (omega arith) named
    (account false) (rightful false) (agreeing false)
    (omega (arith, ap (λ (c : Conversation). c.terms.limit) first_so)) refl)
    ∙ ap (octet 0) (reply_of_lem box (accepted box (with_failures 0 (account false))) (replicate 17 0)
    (omega arith))
    ∙ success_code_lem box.id

pub not_leaving_list : NoneOpened leaves_list → ⊥
not_leaving_list claim =
    ((claim (empty_list 8 6) first first twice).0 (response ∷ [])
    (inr (record { steps = []; valid = valid_there }), tt)).0.0 taken
  where
    twice : Two leaves_list (empty_list 8 6) first first
    twice =
        record {
          before = [];
          between = [];
          after = [];
          run = (input first refl refl, (input first refl refl, tt));
          first_opens = opens_live first first_opens_lem;
          second_opens = opens_live first first_opens_lem;
        }
