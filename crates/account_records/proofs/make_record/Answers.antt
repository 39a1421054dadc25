-- `account_records::make_record` meets its contract.
-- Assumes nothing.
use mathlib.Core.Path.{refl, sym, ap, ◌∙◌}
use mathlib.Core.Bool.{Bool, ◌&&◌}
use Rattle.layouts.specs.Call.{sized}
use Rattle.layouts.specs.Records.{encode_record, record_size}
use Rattle.layouts.proofs.Filling.{fills_as, refused_argument}
use Rattle.account_records.proofs.make_record.Goals as goal

pub returns-then-not-are_record_arguments : goal.returns-then-not-are_record_arguments
returns-then-not-are_record_arguments c =
    let out = c.args.out.now in
    refused_argument
    (ap (λ (t : Bool). t && sized record_size out)
    (sym c.are_record_arguments.ensures ∙ c.if-not-are_record_arguments.true))

pub returns : goal.returns
returns c =
    let put = c in
    let made = put in
    let passed = made in
    let out = passed.args.out.now in
    let valid =
    sym passed.are_record_arguments.ensures ∙ passed.if-not-are_record_arguments.false in
    fills_as (ap (λ (t : Bool). t && sized record_size out) (sym valid)) refl
    (ap encode_record made.record_from.ensures) put.put_record.ensures
