-- A value that is valid begins with its kind and the version of that kind's layout: so no bytes are
-- valid of two kinds, and none are that were written in another layout.
-- Assumes nothing.
use mathlib.Core.Path.{◌≡◌, sym, ap, ◌∙◌}
use mathlib.Core.Bool.{true, not}
use mathlib.Core.List.{List, []}
use Prim.Native.Nat.{ℕ, ◌≤◌}
use native.Mathlib.Omega.{arith}
use lib.Dec.{ltb}
use lib.ListN.{length}
use lib.Seq.{get_or-take}
use Rattle.packets.specs.Frame.{octet}
use Rattle.octets.specs.Parts.{part}
use Rattle.octets.proofs.Parts.{agrees_equal}
use Rattle.layouts.specs.Values.{layout_version, record_kind, answer_kind, conversation_kind}
use Rattle.layouts.specs.Values.{peer_kind, password_kind, list_kind, tagged, is_encoding}
use Rattle.layouts.specs.Records.{is_encoded_record}
use Rattle.layouts.specs.Answers.{is_encoded_answer}
use Rattle.layouts.proofs.RecordLaws.{head_encoded}
use Rattle.layouts.proofs.AnswerLaws.{answer_head_lem}
use Rattle.layouts.specs.Conversations.{encode_conversation, decode_conversation}
use Rattle.layouts.specs.Conversations.{is_encoded_conversation}
use Rattle.layouts.specs.Peers.{encode_peer, decode_peer, is_encoded_peer}
use Rattle.layouts.specs.Passwords.{encode_password, decode_password, is_encoded_password}
use Rattle.layouts.specs.Lists.{is_list}
use Rattle.layouts.proofs.Encodings.{encoding_of_lem}
use Rattle.layouts.proofs.Filling.{both}

pub record Tagged (kind : ℕ) (bytes : List ℕ) : Type 0 where
  pub first : octet 0 bytes ≡ kind
  pub second : octet 1 bytes ≡ layout_version kind

-- one sequence of bytes has one kind
pub one_kind : {k l : ℕ} {bytes : List ℕ} → Tagged k bytes → Tagged l bytes → k ≡ l
one_kind s t = sym s.first ∙ t.first

begins : (kind : ℕ) {body bytes : List ℕ} → tagged kind body ≡ bytes → Tagged kind bytes
begins kind e = record { first = sym (ap (octet 0) e); second = sym (ap (octet 1) e) }

-- ---- each kind

-- of a value of which the front of n bytes is compared
begins_front : (kind n : ℕ) {body bytes : List ℕ} → 2 ≤ n → tagged kind body ≡ part 0 n bytes
    → Tagged kind bytes
begins_front kind n {bytes = bytes} h e =
    record {
      first = sym (get_or-take n bytes 0 0 (omega arith)) ∙ sym (ap (octet 0) e);
      second = sym (get_or-take n bytes 1 0 (omega arith)) ∙ sym (ap (octet 1) e);
    }

pub record_tagged : (bytes : List ℕ) → is_encoded_record bytes ≡ true → Tagged record_kind bytes
record_tagged bytes e = begins_front record_kind 42 (omega arith) (head_encoded bytes e)

pub answer_tagged : (bytes : List ℕ) → is_encoded_answer bytes ≡ true → Tagged answer_kind bytes
answer_tagged bytes e = begins_front answer_kind 46 (omega arith) (answer_head_lem bytes e)

pub conversation_tagged : (bytes : List ℕ) → is_encoded_conversation bytes ≡ true
    → Tagged conversation_kind bytes
unfolding is_encoded_conversation
conversation_tagged bytes e =
    begins conversation_kind (encoding_of_lem encode_conversation decode_conversation bytes e)

pub peer_tagged : (bytes : List ℕ) → is_encoded_peer bytes ≡ true → Tagged peer_kind bytes
unfolding is_encoded_peer
peer_tagged bytes e = begins peer_kind (encoding_of_lem encode_peer decode_peer bytes e)

pub password_tagged : (bytes : List ℕ) → is_encoded_password bytes ≡ true → Tagged password_kind bytes
unfolding is_encoded_password
password_tagged bytes e =
    begins password_kind (encoding_of_lem encode_password decode_password bytes
    (both (is_encoding encode_password decode_password bytes) _ e).0)

-- a list is one by its first two bytes
pub list_tagged : (bytes : List ℕ) → is_list bytes ≡ true → Tagged list_kind bytes
unfolding is_list
list_tagged bytes e =
    let head = agrees_equal (part 0 2 bytes) (tagged list_kind [])
    (both (not (ltb (length bytes) 4)) _ e).1 in
    record {
      first = sym (get_or-take 2 bytes 0 0 (omega arith)) ∙ ap (octet 0) head;
      second = sym (get_or-take 2 bytes 1 0 (omega arith)) ∙ ap (octet 1) head;
    }
