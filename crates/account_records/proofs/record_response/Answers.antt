-- `account_records::record_response` meets its contract.
-- Assumes nothing.
use mathlib.Core.Path.{◌≡◌, refl, sym, ap, ap₂, ◌∙◌}
use mathlib.Core.Bool.{Bool, true, ◌&&◌, cond}
use mathlib.Core.List.{List}
use Prim.Native.Nat.{ℕ}
use borrow.Author.Tests.{eqb-true, not-true, not-false}
use lib.ListN.{length}
use Rattle.octets.specs.Parts as octets
use Rattle.octets.proofs.Parts.{fixed_whole}
use Rattle.des.specs.Stored.{keys_in}
use Rattle.credentials.specs.Credentials.{response_under}
use Rattle.credentials.proofs.Laws.{length_response_under}
use Rattle.packets.specs.Sizes.{answer_size}
use Rattle.accounts.specs.declared.EntryLookup.{EntryLookup}
use Rattle.accounts.specs.declared.Hash.{Hash}
use Rattle.refusals.specs.declared.Refusal.TheVariants.{Record}
use Rattle.layouts.specs.Call.{sized}
use Rattle.layouts.specs.Keys.{keys_size}
use Rattle.layouts.specs.Records.{decode_head, is_encoded_record}
use Rattle.layouts.proofs.Filling.{both, fills_as, filled_with, refused_argument, refused_fills}
use Rattle.account_records.specs.Calls.{is_one_hash, record_response_arguments, named_hash}
use Rattle.account_records.specs.Inner.{response_arguments_as}
use Rattle.account_records.proofs.record_response.Goals as goal

-- the arguments are valid or not
tested : (account challenge : List ℕ) (hash : ℕ) {head : EntryLookup} {b : Bool}
    → head ≡ decode_head account → b ≡ response_arguments_as head account hash challenge
    → b ≡ record_response_arguments account hash challenge
unfolding record_response_arguments is_encoded_record
tested account challenge hash e f =
    f ∙ ap (λ (l : EntryLookup). response_arguments_as l account hash challenge) e

-- the challenge has its size
eight : (bytes : List ℕ) (hash : ℕ) (challenge : List ℕ)
    → record_response_arguments bytes hash challenge ≡ true → length challenge ≡ 8
unfolding record_response_arguments
eight bytes hash challenge e =
    eqb-true (length challenge) 8
    (both (is_one_hash hash) (sized 8 challenge) (both (is_encoded_record bytes) _ e).1).1

-- the hash that is named
named : (account : List ℕ) (hash : ℕ) {head : EntryLookup} {h : Hash} → head ≡ decode_head account
    → h ≡ named_hash head hash → h ≡ named_hash (decode_head account) hash
named account hash e f = f ∙ ap (λ (l : EntryLookup). named_hash l hash) e

pub returns-then-not-are_record_response_arguments : goal.returns-then-not-are_record_response_arguments
returns-then-not-are_record_response_arguments c =
    let a = c.args in
    refused_argument
    (ap (λ (t : Bool). t && sized answer_size a.out.now)
    (sym (tested a.account.now a.challenge.now a.hash c.decode_head-head.ensures
    c.are_record_response_arguments.ensures) ∙ c.if-not-are_record_response_arguments.true))

-- it has no such hash
pub returns-then-not-named_hash : goal.returns-then-not-named_hash
returns-then-not-named_hash c =
    let a = c.args in
    let valid =
    sym (tested a.account.now a.challenge.now a.hash c.decode_head-head.ensures
    c.are_record_response_arguments.ensures) ∙ c.if-not-are_record_response_arguments.false in
    let absent =
    sym (ap (λ (h : Hash). h.present) (named a.account.now a.hash c.decode_head-head.ensures
    c.named_hash.ensures)) ∙ not-true _ c.if-not-named_hash.true in
    fills_as (ap (λ (t : Bool). t && sized answer_size a.out.now) (sym valid))
    (ap (λ (t : Bool). cond t 0 102) (sym absent)) refl
    (refused_fills Record c.refuse.ensures)

pub returns : goal.returns
returns c =
    let a = c.args in
    let valid =
    sym (tested a.account.now a.challenge.now a.hash c.decode_head-head.ensures
    c.are_record_response_arguments.ensures) ∙ c.if-not-are_record_response_arguments.false in
    let challenge = c.array_at.ensures
    ∙ fixed_whole 8 a.challenge.now
    (eight a.account.now a.hash a.challenge.now valid) in
    let keys = c.part_of-keys.ensures
    ∙ ap (λ (n : ℕ). octets.part n keys_size a.account.now) c.named_at.ensures in
    let response = c.scheduled_response-response.ensures
    ∙ ap₂ (λ (b x : List ℕ). response_under (keys_in b) x) keys challenge in
    let present =
    sym (ap (λ (h : Hash). h.present) (named a.account.now a.hash c.decode_head-head.ensures
    c.named_hash.ensures)) ∙ not-false _ c.if-not-named_hash.false in
    fills_as (ap (λ (t : Bool). t && sized answer_size a.out.now) (sym valid))
    (ap (λ (t : Bool). cond t 0 102) (sym present)) refl
    (filled_with (ap length response ∙ length_response_under _ _) response refl
    c.fill.ensures)
