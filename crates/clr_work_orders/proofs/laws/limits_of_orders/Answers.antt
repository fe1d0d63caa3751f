use Rattle.std.proofs.Common.{refl}
use Rattle.clr_rows.specs.Names.{is_good_name}
use Rattle.clr_work_orders.proofs.laws.limits_of_orders.Goals as goal

pub returns-clause-good : goal.returns-clause-good
unfolding is_good_name
returns-clause-good c = refl
