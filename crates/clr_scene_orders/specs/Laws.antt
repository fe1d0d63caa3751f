-- What needs without helpers say of every list of members.
use Rattle.std.specs.Prelude.{List}
use Rattle.clr_rows.specs.Contents.{Changes, Content}
use Rattle.clr_rules.specs.declared.rules.Rule.{Rule}
use Rattle.clr_needs.specs.declared.needs.Need.{Need}
use Rattle.clr_needs.specs.Members.{setting}
use Rattle.clr_open_needs.specs.OpenNeeds.{IsOpenNeed}
use Rattle.clr_scene_orders.specs.SceneOrders.{EachListBreaks, IsUnhelped}

-- where no member helps an open need, each list of all members breaks one on the way
abbrev pub FinalLaw : Type 0
FinalLaw = (rules : List Rule) (root : Content) (sets : List Changes) (n : Need) → IsOpenNeed (setting rules root sets) n
    → IsUnhelped (setting rules root sets) n → EachListBreaks (setting rules root sets)
