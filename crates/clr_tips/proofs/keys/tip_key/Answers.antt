use Rattle.std.proofs.Common.{◌∙◌, ℕ, List, ap, ap₂}
use Rattle.clr_workspaces.specs.Marks.{Name}
use Rattle.clr_tips.specs.Keys.{key_among, tip_key}
use Rattle.clr_tips.proofs.keys.tip_key.Goals as goal

pub returns : goal.returns
returns c =
    c.of.ensures
    ∙ ap₂ (λ (names : List Name) (greatest : ℕ). key_among names greatest c.name.result.now) c.in_ok-keys.ensures.names c.in_ok-keys.ensures.greatest
    ∙ ap (tip_key c.args.office.now c.args.members.now.root.now c.args.table) c.name.ensures
