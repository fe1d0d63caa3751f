use Rattle.std.proofs.Common.{◌∙◌, sym}
use Rattle.clr_row_versions.specs.Versions.{row_and_life}
use Rattle.clr_foot.specs.Scenes.{setting_in}
use Rattle.clr_foot.specs.declared.ties.TieKind.TheVariants.{Any, Touching, Other}
use Rattle.clr_foot.proofs.InvolvedLaws.{told_names}
use Rattle.clr_foot.proofs.TieLaws.{any_ties, named_ties, new_server_ties, new_subject_ties, old_server_ties, old_subject_ties}
use Rattle.clr_foot.proofs.scenes.Scene.add_tie.Goals as goal

pub returns-in_ok-add_served_by-in-Any-default : goal.returns-in_ok-add_served_by-in-Any-default
returns-in_ok-add_served_by-in-Any-default g c =
    let s = setting_in g.V.RowView.content c.args.self.now in
    let v = c.args.version in
    named_ties s Any c.args.kind c.args.rule c.args.position v _ _ c.in-Any-default.is-0
    (any_ties s c.args.rule c.args.position v c.requires.at
    (told_names (row_and_life v).life c.args.position (sym c.is_named.ensures ∙ c.if-not-is_named.false))
    _ _ _ c.in_ok-add_with-in-Any-default.ensures.ok c.in_ok-add_served_by-in-Any-default.ensures.ok)

pub returns-in_ok-add_with-in-Touching-true : goal.returns-in_ok-add_with-in-Touching-true
returns-in_ok-add_with-in-Touching-true g c =
    let s = setting_in g.V.RowView.content c.args.self.now in
    let v = c.args.version in
    named_ties s Touching c.args.kind c.args.rule c.args.position v _ _ c.in-Touching-true.is-0
    (new_subject_ties s c.args.rule c.args.position v c.requires.at
    (told_names (row_and_life v).life c.args.position (sym c.is_named.ensures ∙ c.if-not-is_named.false))
    _ _ c.in-Touching-true.is-1 c.in_ok-add_with-in-Touching-true.ensures.ok)

pub returns-in_ok-add_served_by-in-Touching-false : goal.returns-in_ok-add_served_by-in-Touching-false
returns-in_ok-add_served_by-in-Touching-false g c =
    let s = setting_in g.V.RowView.content c.args.self.now in
    let v = c.args.version in
    named_ties s Touching c.args.kind c.args.rule c.args.position v _ _ c.in-Touching-false.is-0
    (old_server_ties s c.args.rule c.args.position v c.requires.at
    (told_names (row_and_life v).life c.args.position (sym c.is_named.ensures ∙ c.if-not-is_named.false))
    _ _ c.in-Touching-false.is-1 c.in_ok-add_served_by-in-Touching-false.ensures.ok)

pub returns-in_ok-add_served_by-in-Other-true : goal.returns-in_ok-add_served_by-in-Other-true
returns-in_ok-add_served_by-in-Other-true g c =
    let s = setting_in g.V.RowView.content c.args.self.now in
    let v = c.args.version in
    named_ties s Other c.args.kind c.args.rule c.args.position v _ _ c.in-Other-true.is-0
    (new_server_ties s c.args.rule c.args.position v c.requires.at
    (told_names (row_and_life v).life c.args.position (sym c.is_named.ensures ∙ c.if-not-is_named.false))
    _ _ c.in-Other-true.is-1 c.in_ok-add_served_by-in-Other-true.ensures.ok)

pub returns-in_ok-add_beside_changed-in-Other-false : goal.returns-in_ok-add_beside_changed-in-Other-false
returns-in_ok-add_beside_changed-in-Other-false g c =
    let s = setting_in g.V.RowView.content c.args.self.now in
    let v = c.args.version in
    named_ties s Other c.args.kind c.args.rule c.args.position v _ _ c.in-Other-false.is-0
    (old_subject_ties s c.args.rule c.args.position v c.requires.at
    (told_names (row_and_life v).life c.args.position (sym c.is_named.ensures ∙ c.if-not-is_named.false))
    _ _ c.in-Other-false.is-1 c.in_ok-add_beside_changed-in-Other-false.ensures)
