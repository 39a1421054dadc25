use Rattle.des.proofs.Round.{crypted}
use Rattle.des.proofs.rounds.crypt_block.Goals as goal

pub returns : goal.returns
returns g c =
    let n = g.met.K.RoundKeys.sixteen c.args.keys.now in
    crypted c.args.x c.loop-i.invariant n c.loop-i-test.false c.of_block-halves.ensures c.output_block.ensures
