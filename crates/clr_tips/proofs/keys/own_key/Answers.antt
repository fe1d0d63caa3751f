use Rattle.std.proofs.Common.{◌+◌, arith}
use Rattle.clr_tips.specs.Keys.{own_key}
use Rattle.clr_tips.proofs.KeyLemmas.{none_within, told_within}
use Rattle.clr_tips.proofs.keys.own_key.Goals as goal

pub returns-then-own : goal.returns-then-own
unfolding own_key
returns-then-own c =
    told_within (own_key c.args.count c.args.at c.args.key) (c.from.result + c.args.count + c.args.at) (omega (arith, c.from.ensures)) c.if-own.true

pub returns-else-own : goal.returns-else-own
unfolding own_key
returns-else-own c =
    none_within (own_key c.args.count c.args.at c.args.key) (c.from.result + c.args.count + c.args.at) (omega (arith, c.from.ensures))
    (omega (arith, c.if-own.false))
