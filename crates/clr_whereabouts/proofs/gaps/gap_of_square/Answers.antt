use Rattle.std.proofs.Common.{◌↔◌, arith, eq-eqb, eqb-true}
use Rattle.std.proofs.lemmas.Int.{ints}
use Rattle.clr_whereabouts.proofs.GapLemmas.{no_less}
use Rattle.clr_whereabouts.proofs.gaps.gap_of_square.Goals as goal

pub returns-then-d-distance : goal.returns-then-d-distance
returns-then-d-distance c = λ least. no_less c.args.square c.isqrt-root.result c.args.d c.isqrt-root.ensures.square_le (omega (arith, ints, c.if-d-distance.true)) least

pub returns : goal.returns
returns c = record {
  root = c.isqrt-root.result;
  rounded = (c.isqrt-root.ensures.square_le, c.isqrt-root.ensures.next_square_gt);
  distance = omega (arith, ints, c.isqrt-root.ensures.bound);
  missing = omega (arith, ints, c.isqrt-root.ensures.bound, c.if-d-distance.false);
  something = omega (arith, ints, c.isqrt-root.ensures.bound, c.if-d-distance.false);
  whole = (λ t. eqb-true _ _ t, λ h. eq-eqb _ _ h);
}
