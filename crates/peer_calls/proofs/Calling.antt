-- What the peer's functions return and leave, from what the functions that they call do.
-- Assumes nothing.
use mathlib.Core.Path.{◌≡◌, refl, sym, ap, ◌∙◌, subst}
use mathlib.Core.Bool.{Bool, true, false}
use mathlib.Core.List.{List}
use Prim.Native.Nat.{ℕ}
use borrow.Author.Tests.{ne_eqb}
use lib.Dec.{eqb}
use Rattle.std.specs.Prelude.{Result, Ok, Err, IfOk}
use Rattle.refusals.specs.Refusal.{number, told}
use Rattle.refusals.specs.declared.Refusal.{Refusal}
use Rattle.refusals.proofs.Numbers.{number_some}
use Rattle.message.specs.declared.Verdict.{Verdict}
use Rattle.peer.specs.Peer as peers
use Rattle.peer.specs.Write.{Wrote, wrote_by, write_response, write_response_refusal, response_for}
use Rattle.peer.specs.Write.{write_change, write_change_refusal, change_for}
use Rattle.peer.specs.Write.{write_change_one, write_change_one_refusal, change_one_for}
use Rattle.peer.specs.declared.Peer.{Peer}
use Rattle.peer.specs.declared.Turn.{Turn}
use Rattle.peer.specs.declared.PacketWritten.{PacketWritten}
use Rattle.peer.specs.declared.ReplyRead.{ReplyRead}
use Rattle.layouts.specs.Call.{Fills, sized, numbered, after_call}
use Rattle.layouts.specs.Peers.{peer_size, encode_peer, decode_peer, is_encoded_peer}
use Rattle.layouts.proofs.Filling.{both, fills_number}
use Rattle.layouts.proofs.PeerLaws.{length_encoded_peer}
use Rattle.numbers.specs.Results.{call_in, failure_reason, number_in}
use Rattle.peer_calls.specs.Calls.{ReplyCall, change_arguments, WriteCall}

-- ---- a reply

-- what was read has the number and, where it is not refused, the verdict and the next peer
read_told : (q : Peer) (p : List ℕ) (v : Result Verdict Refusal) → told (peers.read_as q p v) ≡ told v
read_told q p (Ok v) = refl
read_told q p (Err r) = refl

read_taken : (q : Peer) (p : List ℕ) (s : ReplyRead) (v : Result Verdict Refusal)
    → Ok s ≡ peers.read_as q p v → (v ≡ Ok s.verdict) × (s.peer ≡ peers.after_reply q p)
read_taken q p s (Ok v) e = let f : s ≡ record { verdict = v; peer = peers.after_reply q p } = cc in
    (ap (λ (x : ReplyRead). Ok x.verdict) (sym f), ap (λ (x : ReplyRead). x.peer) f)
read_taken q p s (Err r) e = absurd (cc)

module _ (peer packet : List ℕ) (valid : is_encoded_peer peer ≡ true) {q : Peer}
    {answer : Result ReplyRead Refusal} (decoded : q ≡ decode_peer peer)
    (read : peers.Reads q packet answer) where
  abbrev said : Result Verdict Refusal
  said = peers.peer_reads (decode_peer peer) packet

  same : answer ≡ peers.read_as (decode_peer peer) packet said
  same = (subst (λ (v : Peer). peers.Reads v packet answer) decoded read).answer

  numbers : told answer ≡ told said
  numbers = ap told same ∙ read_told (decode_peer peer) packet said

  -- it is refused: nothing changes
  pub reply_refused : (e : Refusal) {call reason r : ℕ} → answer ≡ Err e → r ≡ number e
      → ReplyCall peer packet call reason r peer call reason
  reply_refused e {call} {reason} {r} refused f =
      let nonzero : eqb r 0 ≡ false = ne_eqb r 0 (λ z. number_some e (sym f ∙ z)) in
      record {
        number =
            f ∙ sym (ap told refused) ∙ numbers
            ∙ sym (ap (λ (t : Bool). numbered t (told said)) valid);
        next = sym (simp nonzero);
        calls = sym (simp nonzero);
        says = sym (simp nonzero);
      }

  -- it is read: the next peer was put into the caller's buffer
  pub reply_called : (s : ReplyRead) {call reason r c e : ℕ} {after : List ℕ} → answer ≡ Ok s
      → c ≡ call_in s.verdict → e ≡ failure_reason s.verdict
      → Fills (sized peer_size peer) 0 (encode_peer s.peer) peer r after
      → ReplyCall peer packet call reason r after c e
  reply_called s {call} {reason} {r} {c} {e} accepted calls says put =
      let t = read_taken (decode_peer peer) packet s said (sym accepted ∙ same) in
      let done : r ≡ 0 = fills_number (length_encoded_peer peer valid) put in
      let zero : eqb r 0 ≡ true = ap (λ (i : ℕ). eqb i 0) done in
      record {
        number =
            done ∙ sym (ap told t.0)
            ∙ sym (ap (λ (b : Bool). numbered b (told said)) valid);
        next = put.bytes ∙ ap (λ (v : Peer). after_call r (encode_peer v) peer) t.1;
        calls = calls ∙ sym (ap (number_in call_in) t.0) ∙ sym (simp zero);
        says = says ∙ sym (ap (number_in failure_reason) t.0) ∙ sym (simp zero);
      }

-- ---- the writers

-- a refused packet leaves the buffer alone
abbrev Kept : List ℕ → Wrote → Type 0
Kept out w = w.out ≡ after_call w.answer.refusal w.out out

wrote_kept : (n : ℕ) (packet out : List ℕ) → Kept out (wrote_by n packet out)
wrote_kept n packet out = by (eqb n 0) refl
  where
    by : (b : Bool) → eqb n 0 ≡ b → Kept out (wrote_by n packet out)
    by true e = simp e
    by false e = simp e

pub response_kept : (password name out : List ℕ) (t : Turn)
    → Kept out (write_response t password name out)
unfolding write_response
response_kept password name out t =
    wrote_kept (write_response_refusal password name out) (response_for t password name) out

pub change_kept : (old new filler out : List ℕ) (t : Turn)
    → Kept out (write_change t old new filler out)
unfolding write_change
change_kept old new filler out t =
    wrote_kept (write_change_refusal old new filler out) (change_for t old new filler) out

pub change_one_kept : (old new out : List ℕ) (t : Turn)
    → Kept out (write_change_one t old new out)
unfolding write_change_one
change_one_kept old new out t =
    wrote_kept (write_change_one_refusal old new out) (change_one_for t old new) out

-- where the arguments of a change are valid, the peer is
pub change_encoded : (peer old new : List ℕ) → change_arguments peer old new ≡ true
    → is_encoded_peer peer ≡ true
unfolding change_arguments
change_encoded peer old new e = (both (is_encoded_peer peer) _ e).0

-- any of them, by what it writes for a turn
module _ (writes : Turn → Wrote) (peer out : List ℕ) (valid : Bool) (good : valid ≡ true)
    (encoded : is_encoded_peer peer ≡ true) (kept : (t : Turn) → Kept out (writes t)) where
  abbrev wrote : Wrote
  wrote = writes (decode_peer peer).turn

  module _ {q : Peer} {w : Wrote} {answer : Result PacketWritten Refusal}
      {out_after : List ℕ} (e : q ≡ decode_peer peer) (same : w ≡ writes q.turn)
      (given : peers.Writes q w answer out_after) where
    told_by : peers.Writes (decode_peer peer) wrote answer out_after
    told_by =
        subst (λ (v : Peer). peers.Writes v (writes v.turn) answer out_after) e
        (subst (λ (x : Wrote). peers.Writes q x answer out_after) same given)

    left : {r : ℕ} → r ≡ wrote.answer.refusal → out_after ≡ after_call r wrote.out out
    left {r} n =
        told_by.out ∙ kept (decode_peer peer).turn
        ∙ ap (λ (i : ℕ). after_call i wrote.out out) (sym n)

    -- it is refused: nothing changes
    pub wrote_refused : (f : Refusal) {r : ℕ} → answer ≡ Err f → r ≡ number f
        → WriteCall valid wrote peer out r peer out_after
    wrote_refused f {r} refused n =
        let nonzero : eqb r 0 ≡ false = ne_eqb r 0 (λ z. number_some f (sym n ∙ z)) in
        let told-number : r ≡ wrote.answer.refusal = n ∙ sym (ap told refused) ∙ told_by.number in
        record {
          number = told-number ∙ sym (ap (λ (t : Bool). numbered t wrote.answer.refusal) good);
          next = sym (simp nonzero);
          packet = left told-number;
        }

    -- the packet was written, and the next peer was put into the caller's buffer
    pub wrote_called : (s : PacketWritten) {r : ℕ} {peer_after : List ℕ} → answer ≡ Ok s
        → Fills (sized peer_size peer) 0 (encode_peer s.peer) peer r peer_after
        → WriteCall valid wrote peer out r peer_after out_after
    wrote_called s {r} accepted put =
        let done : r ≡ 0 = fills_number (length_encoded_peer peer encoded) put in
        let told-number : r ≡ wrote.answer.refusal =
        done ∙ sym (ap told accepted) ∙ told_by.number in
        let next : s ≡ record {
          length = wrote.answer.length;
          peer = peers.after_writing (decode_peer peer) wrote.answer;
        } =
        subst (λ (x : Result PacketWritten Refusal). IfOk x (λ p. p ≡ record {
          length = wrote.answer.length;
          peer = peers.after_writing (decode_peer peer) wrote.answer;
        })) accepted told_by.answer in
        record {
          number = told-number ∙ sym (ap (λ (t : Bool). numbered t wrote.answer.refusal) good);
          next =
              put.bytes
              ∙ ap (λ (v : PacketWritten). after_call r (encode_peer v.peer) peer) next;
          packet = left told-number;
        }
