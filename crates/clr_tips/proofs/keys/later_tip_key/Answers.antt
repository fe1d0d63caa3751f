use Rattle.std.proofs.Common.{◌∙◌, ℕ, List, ap, ap₂}
use Rattle.clr_workspaces.specs.Marks.{Name}
use Rattle.clr_tips.specs.Keys.{later_among, later_tip_key}
use Rattle.clr_tips.proofs.keys.later_tip_key.Goals as goal

pub returns : goal.returns
returns c =
    c.later_of.ensures
    ∙ ap₂ (λ (names : List Name) (greatest : ℕ). later_among names greatest c.name.result.now) c.in_ok-keys.ensures.names c.in_ok-keys.ensures.greatest
    ∙ ap (later_tip_key c.args.office.now c.args.members.now.root.now c.args.table) c.name.ensures
