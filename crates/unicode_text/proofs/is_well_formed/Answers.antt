use Rattle.std.proofs.Common.{refl, sym, ◌∙◌, length}
use Rattle.unicode_text.proofs.Texts.{formed_bad, formed_next, formed_end}
use Rattle.unicode_text.proofs.Found.{a_character, no_character, some_left, none_left}
use Rattle.unicode_text.proofs.is_well_formed.Goals as goal

pub returns-in_default : goal.returns-in_default
returns-in_default g c =
    let s = c.loop-rest.rest.now in
    sym (formed_bad g.E.Encoding.first s (some_left (length s) c.loop-rest-test.true c.is_empty.ensures)
    refl (no_character _ (sym c.in_default.is ∙ c.first.ensures.character)))
    ∙ c.loop-rest.invariant

pub loop-rest-preserved : goal.loop-rest-preserved
loop-rest-preserved g c =
    let s = c.loop-rest.rest.now in
    let k = a_character _ _ (sym c.in-Some.is ∙ c.first.ensures.character) in
    formed_next g.E.Encoding.first s (some_left (length s) c.loop-rest-test.true c.is_empty.ensures)
    k.same k.some_width ∙ c.loop-rest.invariant

pub returns : goal.returns
returns g c =
    let s = c.loop-rest.rest.now in
    sym (formed_end g.E.Encoding.first s (none_left (length s) c.loop-rest-test.false c.is_empty.ensures))
    ∙ c.loop-rest.invariant
