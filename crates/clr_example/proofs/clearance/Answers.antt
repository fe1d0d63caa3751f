use Rattle.std.proofs.Common.{refl}
use Rattle.clr_example.proofs.clearance.Goals as goal

-- a plan's certificate has no member go before another
pub returns-in-Clear : goal.returns-in-Clear
returns-in-Clear c = (c.in-Clear.ensures.every_order c.in-Cleared.ensures.plan.without_order refl).headline
