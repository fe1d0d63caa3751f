use Rattle.std.proofs.Common.{IsTrue}
use Rattle.clr_segments.specs.Turns.{cross_product}
use Rattle.clr_segments.proofs.Words64.{same_sign_by}
use Rattle.clr_segments.proofs.crossing.on_one_side.Goals as goal

pub returns : goal.returns
returns c =
    same_sign_by (IsTrue c.same_sign.result) (cross_product c.args.a c.args.b c.args.c) (cross_product c.args.a c.args.b c.args.d) c.turn.result c.turn-2.result
    c.turn.ensures c.turn-2.ensures c.same_sign.ensures
