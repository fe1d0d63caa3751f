use Rattle.std.proofs.Common.{ℕ, List, Global, Vec, length, map, subst}
use Rattle.std.specs.Result.{IfOk}
use Rattle.std.specs.declared.result.Result.{Result}
use Rattle.std.specs.declared.result.Result.TheVariants.{Ok, Err}
use Rattle.clr_rows.specs.Contents.{Changes, Content}
use Rattle.clr_rules.specs.declared.rules.Rule.{Rule}
use Rattle.clr_needs.specs.Members.{setting}
use Rattle.clr_foot.specs.Scenes.{model_of}
use Rattle.clr_groups.specs.Groups.{AreGroups}
use Rattle.clr_groups.specs.Labels.{AreGroupsBy, AreLabels}
use Rattle.clr_groups.proofs.LabelledGroups.{are_groups}
use Rattle.clr_groups.proofs.member_groups.groups_of_pairs.Goals as goal

-- the groups as lists
abbrev lists : Vec (Vec ℕ Global) Global → List (List ℕ)
lists groups = map (λ (g : Vec ℕ Global). g.items) groups.items

grouped : {E : Type 0} (rules : List Rule) (root : Content) (sets : List Changes) (labels : List ℕ) → AreLabels (setting rules root sets) (length sets) labels
    → (r : Result (Vec (Vec ℕ Global) Global) E)
    → IfOk r (λ groups. AreGroupsBy labels (lists groups))
    → IfOk r (λ groups. AreGroups (setting rules root sets) (lists groups))
grouped rules root sets labels are (Ok groups) by = are_groups rules root sets labels (lists groups) are by
grouped rules root sets labels are (Err e) by = tt

pub returns : goal.returns
returns g c =
    let model = model_of g.V.RowView.content c.args.scene.now in
    grouped model.rules model.root model.sets c.in_ok-labels.labels.items c.in_ok-labels.ensures.exact c.groups_by.result
    (subst (λ ls. IfOk c.groups_by.result (λ groups. AreGroupsBy ls (lists groups))) c.as_slice.ensures.value c.groups_by.ensures)
