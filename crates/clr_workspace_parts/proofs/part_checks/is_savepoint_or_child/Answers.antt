use Rattle.std.proofs.Common.{ap, sym, ◌∙◌}
use Rattle.std.specs.Str.{bytes_eq}
use Rattle.clr_deltas.specs.Deltas.{wholes, find_delta}
use Rattle.clr_deltas.proofs.Meaning.{parent-wholes, find-wholes}
use Rattle.clr_workspace_parts.specs.Parts.{bare_mark, is_savepoint_or_child, is_under}
use Rattle.clr_workspace_parts.proofs.part_checks.is_savepoint_or_child.Goals as goal

pub returns-in-None : goal.returns-in-None
returns-in-None c =
    let ws = wholes c.args.live.now c.args.map.now in
    let found = find-wholes c.args.live.now c.args.map.now c.in-Child.name ∙ ap (find_delta c.args.map.now) (sym c.as_str.ensures) ∙ sym c.find.ensures.found
    ∙ c.in-None.is in
    sym (ap (λ m. is_savepoint_or_child ws c.args.parent.now (bare_mark m)) c.in-Child.is ∙ ap (is_under ws c.args.parent.now) found)

pub returns-in-Some : goal.returns-in-Some
returns-in-Some c =
    let ws = wholes c.args.live.now c.args.map.now in
    let found = find-wholes c.args.live.now c.args.map.now c.in-Child.name ∙ ap (find_delta c.args.map.now) (sym c.as_str.ensures) ∙ sym c.find.ensures.found
    ∙ c.in-Some.is in
    c.eq.ensures ∙ ap (bytes_eq c.args.parent.now) (c.parent_name.ensures ∙ sym (parent-wholes c.args.live.now c.args.map.now c.in-Some.at))
    ∙ sym (ap (λ m. is_savepoint_or_child ws c.args.parent.now (bare_mark m)) c.in-Child.is ∙ ap (is_under ws c.args.parent.now) found)
