-- What an opening writes is valid for the next opening and for the first step: the library never
-- refuses an encoding of its own as a bad argument.
-- Assumes nothing.
use mathlib.Core.Bool.{Bool, true, false, cond}
use mathlib.Core.Path.{◌≡◌, refl}
use Prim.Native.Nat.{◌<◌}
use native.Mathlib.Omega.{arith}
use lib.Dec.{eqb}
use lib.ListN.{length}
use Rattle.authenticator.specs.Conversation.{closed}
use Rattle.authenticator.specs.Judge.{reason_of}
use Rattle.authenticator.specs.Opening.{Opening, open_refusal, opened_issued, first_conversation}
use Rattle.authenticator.specs.Opening.{opening_packet, opened}
use Rattle.authenticator.specs.Opening as openings
use Rattle.authenticator.proofs.Openings.{opened_sound}
use Rattle.layouts.specs.Conversations.{encode_conversation, decode_conversation}
use Rattle.layouts.specs.Conversations.{is_encoded_conversation}
use Rattle.layouts.specs.Lists.{encode_list, decode_list, is_list}
use Rattle.layouts.proofs.ConversationLaws.{SizedConversation, conversation_fits}
use Rattle.layouts.proofs.ConversationLaws.{conversation_back}
use Rattle.layouts.proofs.ListLaws.{list_back}
use Rattle.step_calls.proofs.Fitting.{blank_sized}

-- it has no last answer
opened_sized : (o : Opening) → length o.challenge ≡ 8
    → SizedConversation (opened o).conversation
    × (reason_of (opened o).conversation.last.reply < 65536)
unfolding opened
opened_sized o e = by (eqb (open_refusal o) 0)
  where
    accepted : openings.Opened
    accepted =
        record {
          refusal = 0;
          conversation = first_conversation o;
          written = length (opening_packet o);
          used = (opened_issued o).used;
        }

    refused : openings.Opened
    refused =
        record {
          refusal = open_refusal o;
          conversation = closed;
          written = 0;
          used = o.issued.used;
        }

    by : (k : Bool)
        → let c = (cond {A = openings.Opened} k accepted refused).conversation in
        SizedConversation c × (reason_of c.last.reply < 65536)
    by true = (record { challenge = e; kept = blank_sized }, omega arith)
    by false = (record { challenge = refl; kept = blank_sized }, omega arith)

pub open_fits : (o : Opening) → length o.challenge ≡ 8
    → is_encoded_conversation (encode_conversation (opened o).conversation) ≡ true
open_fits o e =
    let s = opened_sized o e in conversation_fits (opened o).conversation s.0 s.1

-- and the first step is made on just the conversation that the opening gave
pub open_carries : (o : Opening) → length o.challenge ≡ 8
    → decode_conversation (encode_conversation (opened o).conversation) ≡ (opened o).conversation
open_carries o e =
    let s = opened_sized o e in conversation_back (opened o).conversation s.0 s.1

-- the list that an opening leaves is valid, and the next opening is made on just that list
pub open_list_fits : (o : Opening) → length o.challenge ≡ 8 → (opened o).refusal ≡ 0
    → (is_list (encode_list (opened_issued o)) ≡ true)
    × (decode_list (encode_list (opened_issued o)) ≡ opened_issued o)
open_list_fits o e ok =
    let s = opened_sound o e ok in list_back (opened_issued o) s.0 s.1
