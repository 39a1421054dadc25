-- The sample's wrong password, "bad", is invalid for the sample's record, by computing both
-- responses: so our peer's invalid try may be passed the rightful account's own record, and count.
-- Assumes nothing.
use mathlib.Core.Bool.{Bool, false, cond, not, ◌&&◌, and-false}
use mathlib.Core.List.{List, ◌∷◌, [], ◌++◌}
use mathlib.Core.Path.{◌≡◌, refl, ap, ap₂, ◌∙◌}
use Prim.Native.Nat.{ℕ}
use native.Mathlib.Omega.{arith}
use lib.ListN.{replicate}
use Rattle.octets.specs.Parts.{over, agrees}
use Rattle.blocks.specs.Blocks.{run_blocks, zeros, padded, hash_blocks}
use Rattle.md4.specs.Md4.{operation, operations}
use Rattle.md4.specs.Md4.{increased, words_of, block, initial_registers, digest_of, md4_of}
use Rattle.des.specs.Tables.{ip, fp, expansion, permutation, s1, s2, s3, s4, s5, s6, s7, s8, boxes}
use Rattle.des.specs.Tables.{pc1, pc2, shifts}
use Rattle.des.specs.Des.{cipher_f, crypt, round_keys, expand_key, schedule_of, des_encrypt}
use Rattle.des.specs.Des.{des_three}
use Rattle.credentials.specs.Credentials.{nt_hash_of, response_of}
use Rattle.packets.specs.Response.{read_response}
use Rattle.accounts.specs.Account.{Agree}
use Rattle.accounts.specs.declared.Account.{Account}
use Rattle.accounts.specs.declared.Hash.{Hash}
use Rattle.verify.specs.Lockout.{is_locked}
use Rattle.verify.specs.Response.{answers_by_hash, valid_by_hash}
use Rattle.verify.proofs.Carried.{by_hash}
use Rattle.authenticator.specs.Judge.{valid_in}
use Rattle.authenticator.specs.Steps.{Box}
use Rattle.peer.specs.Write.{response_fields}
use Rattle.peer.proofs.Found.{response_found}
use Rattle.peer.proofs.Left.{response_written_lem, response_left}
use Rattle.series.specs.Series.{invalid, own, SeriesState, exchange, Allowed}
use Rattle.series.specs.Writers.{our_writer}
use Rattle.series.proofs.Sample.{challenge, old, bad, user, account, line, bad_try, try_within}

pub differs : agrees (response_of (nt_hash_of bad) challenge) (response_of (nt_hash_of old) challenge)
    ≡ false
unfolding agrees nt_hash_of md4_of digest_of hash_blocks run_blocks padded zeros block increased
    operations operation words_of initial_registers response_of
    des_three des_encrypt schedule_of expand_key round_keys crypt cipher_f ip fp expansion permutation
    boxes s1 s2 s3 s4 s5 s6 s7 s8 pc1 pc2 shifts over
differs = refl

-- what reaches the box, at any place
module _ (box : Box) (p : SeriesState) where
  abbrev sent : List ℕ
  sent = (exchange box our_writer p (invalid bad user) (line 60 own)).input.packet

  pub sent_fields : read_response sent ≡ response_fields p.peer.turn.challenge bad
  sent_fields =
      ap (λ (x : List ℕ). read_response (x ++ 9 ∷ []))
      (response_left p.peer.turn bad user (replicate 60 0)
      (response_written_lem p.peer.turn bad user (replicate 60 0) refl refl (omega arith)))
      ∙ (response_found p.peer.turn bad user (9 ∷ []) (omega arith) (omega arith)).fields

-- at a place where box and peer have the sample's challenge, and the record has the right
-- password's hash, whatever its count
module _ (box : Box) (p : SeriesState) (here : p.box.conversation.challenge ≡ challenge)
    (there : p.peer.turn.challenge ≡ challenge) (hash : p.account.nt ≡ (account false).nt)
    (agree : Agree p.account) where
  wrong : valid_in p.box.conversation p.account (read_response (sent box p))
      ≡ false
  unfolding valid_by_hash answers_by_hash
  wrong =
      ap (valid_in p.box.conversation p.account) (sent_fields box p)
      ∙ by_hash p.box.conversation.terms p.box.conversation.challenge p.account
      (response_fields p.peer.turn.challenge bad) agree
      ∙ ap (λ (h : Hash). cond h.present
      (h.present && agrees (response_of (nt_hash_of bad) p.peer.turn.challenge)
      (response_of h.octets p.box.conversation.challenge))
      (p.box.conversation.terms.lm && answers_by_hash p.account.lm
      p.box.conversation.challenge (replicate 24 0))) hash
      ∙ ap₂ (λ (x y : List ℕ). agrees (response_of (nt_hash_of bad) x) (response_of (nt_hash_of old) y))
      there here
      ∙ differs

  pub own_allowed : (a : Account) → Allowed box our_writer a p (bad_try own)
  own_allowed a = (
    try_within bad (line 60 own) refl (omega arith) (omega arith),
    ap (λ (v : Bool). not (is_locked p.box.conversation.terms p.account) && v) wrong
        ∙ and-false (not (is_locked p.box.conversation.terms p.account)),
  )
