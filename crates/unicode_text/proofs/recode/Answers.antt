use Rattle.std.proofs.Common.{sym, ap, ◌∙◌, length, length-append, arith}
use Rattle.std.specs.Prelude.{Err}
use Rattle.unicode_text.specs.Password.{fitted}
use Rattle.unicode_text.proofs.Found.{a_character, no_character, some_left, none_left}
use Rattle.unicode_text.proofs.Converting.{begun, stopped, crowded, moved_to, ended, good}
use Rattle.unicode_text.proofs.recode.Goals as goal

pub loop-rest-init : goal.loop-rest-init
loop-rest-init g c =
    let e = ap length c.new-done.ensures in (
      begun g.From.Encoding.first g.To.Encoding.code c.args.s.now c.new-done.ensures,
      omega (arith, e),
    )

pub returns-in_default : goal.returns-in_default
returns-in_default g c =
    let s = c.loop-rest.rest.now in
    sym (ap (fitted g.row.N)
    (stopped c.loop-rest.invariant.0 (some_left (length s) c.loop-rest-test.true c.is_empty.ensures)
    (no_character _ (sym c.in_default.is ∙ c.first.ensures.character))))

pub returns-then-len : goal.returns-then-len
returns-then-len g c =
    let s = c.loop-rest.rest.now in
    let k = a_character _ _ (sym c.in-Some.is ∙ c.first.ensures.character) in
    let e = ap length c.encode-octets.ensures in
    ap Err c.too_long.ensures
    ∙ sym (crowded c.loop-rest.invariant.0
    (some_left (length s) c.loop-rest-test.true c.is_empty.ensures) k g.row.N
    (omega (arith, e, c.len.ensures.value, c.len-in-loop-rest.ensures.value, c.if-len.true)))

pub loop-rest-preserved : goal.loop-rest-preserved
loop-rest-preserved g c =
    let s = c.loop-rest.rest.now in
    let k = a_character _ _ (sym c.in-Some.is ∙ c.first.ensures.character) in
    let e = ap length c.append.ensures ∙ length-append c.loop-rest.done c.as_slice.result.now in
    let f = ap length c.as_slice.ensures in (
      moved_to c.loop-rest.invariant.0
          (some_left (length s) c.loop-rest-test.true c.is_empty.ensures) k c.append.ensures
          c.as_slice.ensures c.encode-octets.ensures,
      omega (arith, e, f, c.len.ensures.value, c.len-in-loop-rest.ensures.value, c.if-len.false, c.loop-rest.invariant.1),
    )

pub returns : goal.returns
returns g c =
    let s = c.loop-rest.rest.now in
    sym (ap (fitted g.row.N)
    (ended c.loop-rest.invariant.0 (none_left (length s) c.loop-rest-test.false c.is_empty.ensures))
    ∙ good g.row.N c.loop-rest.done c.loop-rest.invariant.1)
