-- `message::judge` meets its contract.
-- Assumes nothing.
use mathlib.Core.Path.{◌≡◌, sym, ap, subst, ◌∙◌}
use mathlib.Core.List.{List}
use Rattle.std.specs.Prelude.{Option, Some, None}
use Prim.Native.Nat.{ℕ}
use lib.Dec.{lit<, lit≤}
use Rattle.octets.specs.Digits.{number_from}
use Rattle.message.specs.Message.{words, digits_of, first_field, field_e, field_r, field_v, field_c}
use Rattle.message.specs.Message.{number_or, new_challenge_from}
use Rattle.message.specs.Inner.{ParsedFields, word_at, digits_at, IfSome, Small, Eight}
use Rattle.message.proofs.Formed.{first_small, first_eight}
use Rattle.message.proofs.judge.Goals as goal

abbrev SmallAt : ℕ → Option (List ℕ) → Type 0
SmallAt base o = IfSome (Small base) o

pub number_or-e-requires : goal.number_or-e-requires
number_or-e-requires c =
    let here = sym (ap (λ (p : ParsedFields). p.e) c.requires) in
    (lit< tt, subst (SmallAt 10) here (first_small 69 10 1 10 (words c.args.message.now) (lit< tt) (lit≤ tt)))

pub number_or-r-requires : goal.number_or-r-requires
number_or-r-requires c =
    let here = sym (ap (λ (p : ParsedFields). p.r) c.requires) in
    (lit< tt, subst (SmallAt 2) here (first_small 82 2 1 1 (words c.args.message.now) (lit< tt) (lit≤ tt)))

pub number_or-v-requires : goal.number_or-v-requires
number_or-v-requires c =
    let here = sym (ap (λ (p : ParsedFields). p.v) c.requires) in
    (lit< tt, subst (SmallAt 10) here (first_small 86 10 1 10 (words c.args.message.now) (lit< tt) (lit≤ tt)))

pub new_challenge_at-c-requires : goal.new_challenge_at-c-requires
new_challenge_at-c-requires c =
    let here = sym (ap (λ (p : ParsedFields). p.c) c.requires) in
    subst (IfSome Eight) here (first_eight (words c.args.message.now))

pub returns : goal.returns
returns c =
    let m = c.args.message.now in
    let ws = words m in
    let at = c.in-Some.is in
    let ds : List ℕ = digits_of (word_at m c.in-Some.field-0) in
    let fe : first_field field_e ws ≡ Some ds =
    sym (ap (λ (p : ParsedFields). p.e) c.requires) ∙ ap (digits_at m) at in
    let e : c.number_or-e.result ≡ number_from 10 0 ds =
    c.number_or-e.ensures ∙ ap (λ (p : Option ℕ). number_or 10 0 (digits_at m p)) at in
    let r : c.number_or-r.result ≡ number_or 2 0 (first_field field_r ws) =
    c.number_or-r.ensures ∙ ap (λ (p : ParsedFields). number_or 2 0 p.r) c.requires in
    let v : c.number_or-v.result ≡ number_or 10 1 (first_field field_v ws) =
    c.number_or-v.ensures ∙ ap (λ (p : ParsedFields). number_or 10 1 p.v) c.requires in
    let g : c.new_challenge_at-c.result ≡ new_challenge_from (first_field field_c ws) =
    c.new_challenge_at-c.ensures ∙ ap (λ (p : ParsedFields). new_challenge_from p.c) c.requires in
    rw fe (cc)

pub returns-in_default : goal.returns-in_default
returns-in_default c =
    let m = c.args.message.now in
    let e : first_field field_e (words m) ≡ None =
    sym (ap (λ (p : ParsedFields). p.e) c.requires) ∙ ap (digits_at m) c.in_default.is in
    rw e
