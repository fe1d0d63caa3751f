use Rattle.std.proofs.Common.{eqb-true, eq-eqb}
use Rattle.clr_segments.proofs.Words64.{zero_if_tested, tested_if_zero}
use Rattle.clr_segments.proofs.sides.is_on_line.Goals as goal

pub returns : goal.returns
returns c = (λ t. zero_if_tested _ _ c.turn.ensures (eqb-true _ _ t), λ h. eq-eqb _ _ (tested_if_zero _ _ c.turn.ensures h))
