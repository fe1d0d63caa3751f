use Rattle.std.proofs.Common.{◌∙◌}
use Rattle.clr_map_scenes.proofs.DesignLemmas.{no_followers, with_follower}
use Rattle.clr_map_scenes.proofs.designs.order_of.Goals as goal

pub loop-at-init : goal.loop-at-init
loop-at-init c = no_followers _ _ c.in_ok-order.ensures.items

pub loop-at-preserved : goal.loop-at-preserved
loop-at-preserved c = c.in_ok-add_follower.ensures ∙ with_follower _ _ _ c.loop-at.invariant
