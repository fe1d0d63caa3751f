use Rattle.std.proofs.Common.{◌≡◌, ◌≤◌, ◌∙◌, ◌+◌, ◌++◌, ap, append-nil, length, rules, sym}
use Rattle.std.proofs.lemmas.List.{drop_all}
use Rattle.std.specs.List.{enumerate_from, flat_map}
use Rattle.clr_sql.specs.Shapes.{vertex_condition}
use Rattle.clr_sql.proofs.shape_conditions.add_vertex_conditions.Goals as goal

pub returns : goal.returns
returns c =
    let places = c.args.places.now in
    let at = c.loop-at.at in
    let items = c.loop-at.text.items in
    let past : length places ≤ at = search rules in
    sym (append-nil items) ∙ ap (λ left. items ++ flat_map (vertex_condition c.args.origin) (enumerate_from (at + 1) left)) (sym (drop_all at places past))
    ∙ c.loop-at.invariant
