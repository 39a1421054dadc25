-- Many boxes on one list (document 02, request 2026-03): "One controller now lends all forty boxes
-- the same list." What follows is said of any opener, so that it can be shown which ones the claim
-- shuts out.
-- Assumes nothing: these are definitions.
use Rattle.std.specs.Prelude.{Some, None}
use Rattle.std.specs.Prelude.{true, false, List, ◌∷◌, ◌++◌, ◌≢◌, ◌⊎◌, ◌≡◌, ℕ, suc, ◌+◌, ◌≤◌, ◌<◌}
use Rattle.std.specs.Prelude.{length, get_or, take}
use Rattle.issued.specs.Issued.{Issued, places, listed, contains, contains_any, counts_of}
use Rattle.issued.specs.Issued.{bad_buffer}
use Rattle.packets.specs.Codes.{response_code, success_code}
use Rattle.packets.specs.Frame.{octet}
use Rattle.packets.specs.Reply.{longest_reply}
use Rattle.packets.specs.Response.{read_response}
use Rattle.packets.specs.declared.Change.{Change}
use Rattle.packets.specs.declared.Response.{Response}
use Rattle.verify.specs.Response.{answers}
use Rattle.authenticator.specs.Judge.{valid_in, new_hash_in}
use Rattle.authenticator.specs.Conversation.{is_ended}
use Rattle.authenticator.specs.Opening.{Opening, retries_of, spends, first_conversation}
use Rattle.authenticator.specs.Opening.{opening_packet}
use Rattle.authenticator.specs.Steps.{StepInput, reply_of, next_after}
use Rattle.authenticator.specs.declared.Phase.TheVariants as phases
use Rattle.accounts.specs.declared.Account.{Account}
use Rattle.accounts.specs.declared.Hash.{Hash}
use Rattle.accounts.specs.declared.Schedules.{Schedules}
use Rattle.authenticator.specs.declared.Conversation.{Conversation}
use Rattle.series.specs.Course.{end, Along}
use Rattle.series.specs.Boxes.{our_box}
use Rattle.series.specs.Openers.{Opener}

-- An opening gets what the one before it left in the list, or more: nobody took an entry out.
-- Its challenge has eight octets.
pub record PassedOn (i : Issued) (o : Opening) : Type 0 where
  pub kept : (x : List ℕ) → contains (listed 8 i) x ≡ true
      → contains (listed 8 o.issued) x ≡ true
  pub eight : length o.challenge ≡ 8
  pub octets : (k : ℕ) → get_or o.challenge k 0 < 256

-- what is passed to an opening meets none of 18, 13, 2, 24, 16 and 17
pub record Openable (o : Opening) : Type 0 where
  pub eight : length o.challenge ≡ 8
  pub not18 : 0 < o.limit
  pub not13 : retries_of o.retries ≤ 7
  pub not2 : longest_reply ≤ length o.buffer
  pub buffer24 : bad_buffer 8 o.issued.buffer o.issued.used ≡ false
  pub counts24 : o.issued.counts ≡ counts_of (listed 8 o.issued)
  pub not16 : contains_any (spends o) (listed 8 o.issued) ≡ false
  pub not17 : o.issued.used + suc (retries_of o.retries) ≤ places 8 o.issued.buffer

-- a packet draws no Success, and no change is awaited behind it
abbrev pub StaysShut : Conversation → StepInput → Type 0
StaysShut c s =
    (octet 0 (reply_of (our_box c s)) ≢ success_code)
    × ((next_after our_box c s).phase ≢ phases.Change)

module _ (opener : Opener) where
  abbrev pub left_by : Issued → Opening → Issued
  left_by i o = opener.leaves o

  -- A run of openings, of any boxes, on one list that nobody empties. What the boxes do between
  -- them does not touch the list.
  abbrev pub OnOneList : Issued → List Opening → Type 0
  OnOneList i os = Along left_by PassedOn i os

  -- An opening was not refused, by what is seen of it: it hands out a conversation that goes on.
  -- The number that it answers counts for nothing here: one that names a refusal and hands out a
  -- conversation is held to the claim too.
  abbrev pub Opens : Opening → Type 0
  Opens o = is_ended (opener.answer o).conversation.phase ≡ false

  -- two openings of a run that were not refused, one before the other
  pub record Two (i : Issued) (first second : Opening) : Type 0 where
    pub before : List Opening
    pub between : List Opening
    pub after : List Opening
    pub run : OnOneList i (before ++ (first ∷ between ++ (second ∷ after)))
    pub first_opens : Opens first
    pub second_opens : Opens second

  -- the conversation that an opening and any steps after it led to
  abbrev pub reached : Opening → List StepInput → Conversation
  reached o ss = end (next_after our_box) (opener.answer o).conversation ss

  -- No challenge that one opening can put in force, its own or a retry's, is ever put in force by
  -- another: whatever packets, records and buffers the two conversations were passed.
  abbrev pub NoneTwice : Type 0
  NoneTwice =
      (i : Issued) (first second : Opening) → Two i first second → (ss ts : List StepInput)
      → (reached first ss).challenge ≢ (reached second ts).challenge

  -- So one recorded answer opens no second box: octets that are a hash's response in one
  -- conversation, NT or LM, are not in another, whatever round keys stand beside the hash.
  abbrev pub NoneAnsweredTwice : Type 0
  NoneAnsweredTwice =
      (i : Issued) (first second : Opening) → Two i first second
      → (ss ts : List StepInput) (h : Hash) (keys : Schedules) (response : List ℕ)
      → answers h keys (reached first ss).challenge response ≡ true
      → answers h keys (reached second ts).challenge response ≡ false

  -- And a whole Response that is valid in one is not valid in another for the same account.
  abbrev pub NoneValidTwice : Type 0
  NoneValidTwice =
      (i : Issued) (first second : Opening) → Two i first second
      → (ss ts : List StepInput) (a : Account) (f : Response)
      → valid_in (reached first ss) a f ≡ true → valid_in (reached second ts) a f ≡ false

  -- Nor does a recorded version 2 change: one that is accepted in one conversation gives that new
  -- hash in no other, whatever record was kept there, and is not accepted in another whose kept
  -- record has the same NT hash.
  abbrev pub NoneChangedTwice : Type 0
  NoneChangedTwice =
      (i : Issued) (first second : Opening) → Two i first second
      → (ss ts : List StepInput) (f : Change) (h : List ℕ)
      → new_hash_in (reached first ss) f ≡ Some h
      → (new_hash_in (reached second ts) f ≢ Some h)
      × ((reached second ts).kept.nt.octets ≡ (reached first ss).kept.nt.octets
      → new_hash_in (reached second ts) f ≡ None)

  -- A packet that was recorded: a Response that is valid, for the record that is passed with it
  -- now, in a conversation that an opening led to; or any packet of another code, changes of either
  -- version among them, whoever wrote it.
  pub record RecordedResponse (o : Opening) (s : StepInput) : Type 0 where
    pub steps : List StepInput
    pub valid : valid_in (reached o steps) s.account.account (read_response s.packet) ≡ true

  abbrev pub Recorded : Opening → StepInput → Type 0
  Recorded o s = (octet 0 s.packet ≢ response_code) ⊎ RecordedResponse o s

  abbrev pub ShutTo : Opening → Opening → Type 0
  ShutTo o p =
      (ts : List StepInput)
      → Along (next_after our_box) (λ (c : Conversation) (s : StepInput). Recorded o s)
      (opener.answer p).conversation ts
      → Along (next_after our_box) StaysShut (opener.answer p).conversation ts

  -- So what was recorded at one box opens no other, in whatever order and however often it is sent.
  -- This is what holds of a version 1 change too (document 02, request 2026-07): its fields are
  -- under the challenge's first seven octets alone and may be right under another challenge
  -- (`verify` FirstFaultOne `seven_checked`), but a change is awaited only behind a valid Response
  -- to the box's own challenge.
  abbrev pub NoneOpened : Type 0
  NoneOpened =
      (i : Issued) (first second : Opening) → Two i first second
      → ShutTo first second × ShutTo second first

  -- An opening that needs nothing more is not refused: it hands out the conversation, and writes
  -- the Challenge. Without it an opener that refuses everything would meet the rest.
  abbrev pub MayOpen : Type 0
  MayOpen =
      (o : Opening) → Openable o
      → ((opener.answer o).refusal ≡ 0) × ((opener.answer o).conversation ≡ first_conversation o)
      × (take (opener.answer o).written (opener.reply o) ≡ opening_packet o)

  -- the whole claim about one list
  pub record OneList : Type 0 where
    pub may_open : MayOpen
    pub none_twice : NoneTwice
    pub none_answered_twice : NoneAnsweredTwice
    pub none_valid_twice : NoneValidTwice
    pub none_changed_twice : NoneChangedTwice
    pub none_opened : NoneOpened
