use Rattle.std.proofs.Common.{mul-le-mul}
use Rattle.clr_whereabouts.proofs.gaps.squared.Goals as goal

pub returns-clause-bound : goal.returns-clause-bound
returns-clause-bound c = mul-le-mul c.requires c.requires
