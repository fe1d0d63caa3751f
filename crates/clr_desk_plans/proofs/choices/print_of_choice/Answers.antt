use Rattle.std.proofs.Common.{◌≡◌, List, rules, subst}
use Rattle.clr_workspaces.specs.Marks.{Name}
use Rattle.clr_desk_prints.specs.Members.{members_or_children}
use Rattle.clr_choices.specs.Progress.{IsChosen}
use Rattle.clr_desk_plans.proofs.Trying.{choice_printed}
use Rattle.clr_desk_plans.proofs.choices.print_of_choice.Goals as goal

pub returns : goal.returns
returns c =
    let o = c.args.office.now in
    let root = c.args.root.now in
    let asked : c.as_slice.result.now ≡ members_or_children o root c.args.names.now = search rules in
    let chosen : IsChosen o root (members_or_children o root c.args.names.now) c.in_ok-choice.choice =
    subst (λ (members : List Name). IsChosen o root members c.in_ok-choice.choice) asked c.in_ok-choice.ensures.chosen in
    choice_printed o root c.args.names.now c.args.certificate c.in_ok-choice.choice c.choice_print.result c.requires chosen
    (rw (← c.schema.ensures.value) c.choice_print.ensures)
