use Rattle.std.proofs.Common.{refl}
use Rattle.clr_desk_orders.proofs.TryingInOrder.{begun}
use Rattle.clr_desk_orders.proofs.choices.none_taken.Goals as goal

pub returns : goal.returns
returns c = begun c.args.office.now c.args.root.now _ c.args.nobody c.new.ensures.items refl c.new-2.ensures.items refl c.requires
