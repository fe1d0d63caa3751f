use Rattle.std.proofs.Common.{◌≡◌, ◌∙◌, map, rules}
use Rattle.clr_desk_prints.specs.Members.{members_or_children}
use Rattle.clr_desk_prints.proofs.OpeningLemmas.{prints_by}
use Rattle.clr_desk_prints.proofs.openings.print_of_members.Goals as goal

pub returns : goal.returns
returns g c =
    let o = c.args.office.now in
    let root = c.args.root.now in
    let names = c.args.names.now in
    let asked : c.as_slice.result.now ≡ members_or_children o root names = search rules in
    let given : map (λ text. text.now) c.as_slice-2.result.now ≡ members_or_children o root names =
    rw c.as_slice-2.ensures.value (c.in_ok-members.ensures ∙ asked) in
    prints_by _ (members_or_children o root names) _ _ _ _ c.print.ensures given
