-- "What our peer writes, our box reads back field for field, and the other way round": over what
-- the writers leave in their buffers, with any padding behind.
-- Assumes nothing.
use mathlib.Core.Bool.{true, false}
use mathlib.Core.List.{List, ◌∷◌, ◌++◌}
use mathlib.Core.Path.{◌≡◌, refl, sym, ap, ◌∙◌, subst}
use Prim.Native.Nat.{ℕ, ◌<◌}
use native.Mathlib.Omega.{arith}
use lib.ListN.{length}
use Rattle.credentials.specs.Credentials.{nt_hash_of, hash_from_challenge, sealed_block}
use Rattle.credentials.specs.Credentials.{unsealed_as, password_in}
use Rattle.credentials.proofs.UnderChallenge.{from_under}
use Rattle.credentials.specs.declared.Unsealed.{Unsealed}
use Rattle.credentials.specs.declared.Content.TheVariants.{Password}
use Rattle.credentials.proofs.Laws.{
  length_nt,
  octets_nt,
  length_response,
  unseal_sealed,
  password_sealed,
  content_password,
}
use Rattle.packets.specs.Change.{read_change}
use Rattle.packets.specs.ChangeOne.{read_change_one}
use Rattle.packets.specs.Name.{is_split, domain_of, account_of}
use Rattle.packets.specs.Reply.{read_challenge, read_reply}
use Rattle.packets.specs.declared.Change.{Change}
use Rattle.packets.specs.declared.ChangeOne.{ChangeOne}
use Rattle.packets.proofs.ReadBack.{ResponseBack, ChangeBack, ChangeOneBack, challenge_back}
use Rattle.packets.proofs.Lookup.{lookup_parts, lookup_home}
use Rattle.authenticator.specs.Opening.{Opening, opened}
use Rattle.authenticator.specs.Judge.{reason_of, reply_for}
use Rattle.authenticator.specs.Step.{reason_in, is_repeated}
use Rattle.authenticator.specs.Steps.{StepInput, step_on, refusal_at, reply_of}
use Rattle.authenticator.proofs.Replies.{reading_for, judged_read, repeat_read}
use Rattle.authenticator.proofs.Steps.{kind_judged}
use Rattle.authenticator.specs.declared.Conversation.{Conversation}
use Rattle.authenticator.proofs.Openings.{opened_written}
use Rattle.peer.specs.Write.{response_fields, change_fields, change_one_fields, response_for}
use Rattle.peer.specs.Write.{write_response, write_change, write_change_one}
use Rattle.peer.specs.Peer.{peer_reads}
use Rattle.peer.specs.declared.Peer.{Peer}
use Rattle.peer.specs.declared.Turn.{Turn}
use Rattle.peer.proofs.Found.{response_found, change_found, change_one_found}
use Rattle.peer.proofs.Left.{left, name_fits, response_left, new_fits, filler_full, change_left}
use Rattle.peer.proofs.Left.{change_one_left}
use Rattle.series.specs.Series.{challenge_read}

-- ---- the box's packets

-- a Challenge: identifier and challenge
pub challenge_read_lem : (o : Opening) → (opened o).refusal ≡ 0 → length o.challenge ≡ 8
    → (behind : List ℕ)
    → challenge_read o behind ≡ record { refusal = 0; id = o.id; challenge = o.challenge }
challenge_read_lem o ok eight behind =
    ap (λ (x : List ℕ). read_challenge (x ++ behind)) (opened_written o ok eight)
    ∙ challenge_back o.id o.challenge behind eight

-- Success, or the Failure with the reason (646 to 649, 691, 709), R, no C and V, 1 or 2 by the
-- change that the box was opened for: what our peer reads of the reply to its last packet where
-- that was judged
pub reply_read : (c : Conversation) (s : StepInput) (q : Peer) (behind : List ℕ)
    → refusal_at step_on c s ≡ 0 → is_repeated (step_on c s).answer.kind ≡ false
    → q.sent.present ≡ true → q.sent.id ≡ c.id
    → peer_reads q (reply_of (step_on c s) ++ behind)
    ≡ reading_for c.terms (reply_for c (reason_in (step_on c s).answer.kind))
reply_read c s q behind ok new sent id =
    rw sent (ap (λ (i : ℕ). read_reply i (reply_of (step_on c s) ++ behind)) id
    ∙ judged_read c s (kind_judged c s.packet s.account s.buffer ok new) behind)

-- and where it was a repeat: the reply that the box keeps, which it gave before
pub repeat_heard : (c : Conversation) (s : StepInput) (q : Peer) (behind : List ℕ)
    → is_repeated (step_on c s).answer.kind ≡ true → reason_of c.last.reply < 1000
    → q.sent.present ≡ true → q.sent.id ≡ c.last.id
    → peer_reads q (reply_of (step_on c s) ++ behind) ≡ reading_for c.terms c.last.reply
repeat_heard c s q behind again small sent id =
    rw sent (ap (λ (i : ℕ). read_reply i (reply_of (step_on c s) ++ behind)) id
    ∙ repeat_read c s again small behind)

-- ---- a Response

module _ (t : Turn) (password name out padding : List ℕ)
    (ok : (write_response t password name out).answer.refusal ≡ 0) where
  abbrev response : List ℕ
  response = left (write_response t password name out) ++ padding

  response_same : response ≡ response_for t password name ++ padding
  response_same = ap (λ (x : List ℕ). x ++ padding) (response_left t password name out ok)

  -- the turn's identifier, the LM response zero, the password's NT response, the flag 1, and the
  -- name
  pub response_round_trip : ResponseBack t.id (response_fields t.challenge password) name
      response
  response_round_trip =
      let n = name_fits t password name out ok in
      subst (ResponseBack t.id (response_fields t.challenge password) name) (sym response_same)
      (response_found t password name padding n.0 n.1)

  -- the parts of the name, for the lookup
  pub parts_round_trip : (home domain account : List ℕ) → name ≡ domain ++ (92 ∷ account)
      → is_split domain ≡ false
      → (domain_of response home ≡ domain) × (account_of response ≡ account)
  unfolding response_for
  parts_round_trip home domain account e none =
      let n = name_fits t password name out ok in
      subst (λ (p : List ℕ). (domain_of p home ≡ domain) × (account_of p ≡ account))
      (sym response_same)
      (lookup_parts t.id (response_fields t.challenge password) name padding home refl
      (length_response (nt_hash_of password) t.challenge) (omega arith)
      n.0 n.1 domain account e none)

  pub home_round_trip : (home : List ℕ) → is_split name ≡ false → (domain_of response home ≡ home)
      × (account_of response ≡ name)
  unfolding response_for
  home_round_trip home none =
      let n = name_fits t password name out ok in
      subst (λ (p : List ℕ). (domain_of p home ≡ home) × (account_of p ≡ name)) (sym response_same)
      (lookup_home t.id (response_fields t.challenge password) name padding home refl
      (length_response (nt_hash_of password) t.challenge) (omega arith)
      n.0 n.1 none)

-- ---- a version 1 change

module _ (t : Turn) (old new out padding : List ℕ)
    (ok : (write_change_one t old new out).answer.refusal ≡ 0) where
  abbrev change_one : List ℕ
  change_one = left (write_change_one t old new out) ++ padding

  -- every field: the LM ones zero, the length 65535, the flags 1
  pub change_one_round_trip : ChangeOneBack t.id (change_one_fields t.challenge old new)
      change_one
  change_one_round_trip =
      subst (λ (x : List ℕ). ChangeOneBack t.id (change_one_fields t.challenge old new)
      (x ++ padding)) (sym (change_one_left t old new out ok)) (change_one_found t old new padding)

  -- its new field, decrypted under the challenge, is the new password's hash
  pub hash_round_trip : hash_from_challenge (read_change_one change_one).ntnew t.challenge
      ≡ nt_hash_of new
  hash_round_trip =
      ap (λ (f : ChangeOne). hash_from_challenge f.ntnew t.challenge)
      change_one_round_trip.fields
      ∙ from_under t.challenge (nt_hash_of new) (length_nt new) (octets_nt new)

-- ---- a version 2 change

module _ (t : Turn) (old new filler out padding : List ℕ)
    (ok : (write_change t old new filler out).answer.refusal ≡ 0) where
  abbrev change : List ℕ
  change = left (write_change t old new filler out) ++ padding

  -- every field: the LM ones zero, the flags 1
  pub change_round_trip : ChangeBack t.id (change_fields t.challenge old new filler) change
  change_round_trip =
      subst (λ (x : List ℕ). ChangeBack t.id (change_fields t.challenge old new filler)
      (x ++ padding)) (sym (change_left t old new filler out ok))
      (change_found t old new filler (filler_full t old new filler out ok)
      (new_fits t old new filler out ok).0 padding)

  -- its block, opened under the old hash, holds the new password
  pub password_round_trip : ((unsealed_as (nt_hash_of old) (read_change change).block).content
      ≡ Password (length new))
      × (password_in (unsealed_as (nt_hash_of old) (read_change change).block) (length new) ≡ new)
  password_round_trip =
      let full = filler_full t old new filler out ok in
      let fits = new_fits t old new filler out ok in
      let block : (read_change change).block ≡ sealed_block (nt_hash_of old) filler new = ap
      (λ (f : Change). f.block) change_round_trip.fields in (
        ap (λ (x : List ℕ). (unsealed_as (nt_hash_of old) x).content) block
            ∙ ap (λ (o : Unsealed). o.content) (unseal_sealed filler new full fits.0
            (nt_hash_of old)) ∙ content_password (length new) fits.0 fits.1,
        ap (λ (x : List ℕ). password_in (unsealed_as (nt_hash_of old) x) (length new)) block
            ∙ password_sealed filler new full fits.0 (nt_hash_of old),
      )
