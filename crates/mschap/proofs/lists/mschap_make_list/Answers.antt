-- `mschap::lists::mschap_make_list` meets its contract.
-- Assumes nothing.
use mathlib.Core.Path.{◌≡◌, sym, ap, ◌∙◌}
use mathlib.Core.Bool.{Bool, false, cond}
use Rattle.mschap.specs.Lists.{bad_places, make_list_refusal}
use Rattle.mschap.proofs.ListCalls.{head_laid, good_head}
use Rattle.mschap.proofs.lists.mschap_make_list.Goals as goal

pub returns : goal.returns
unfolding make_list_refusal
returns c =
    let put = c in
    let passed = put in
    let bytes = passed.args.list.now in
    let good : bad_places 0 bytes ≡ false =
    sym passed.are_bad_places.ensures ∙ passed.if-are_bad_places.false in
    record {
      number = ap (λ (t : Bool). cond t 24 0) (sym good);
      list = put.put_list_head.ensures ∙ head_laid 0 bytes (good_head 0 bytes good);
    }
