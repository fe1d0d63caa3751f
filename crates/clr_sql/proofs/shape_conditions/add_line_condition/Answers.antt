use Rattle.std.proofs.Common.{◌≡◌, ◌∙◌, ◌++◌, append_assoc, codes, length, rules}
use Rattle.std.proofs.lemmas.Result.{on_ok_weaker}
use Rattle.std.specs.Fmt.{decimal}
use Rattle.std.specs.List.{enumerate_from, flat_map}
use Rattle.clr_sql.specs.Shapes.{vertex_condition}
use Rattle.clr_sql.proofs.Texts.{behind}
use Rattle.clr_sql.proofs.shape_conditions.add_line_condition.Goals as goal

pub returns : goal.returns
returns c =
    let places = c.args.places.now in
    let old = c.args.text.now.items in
    let mid = c.add_vertex_count.new.text.items in
    let end = c.add_vertex_conditions.new.text.items in
    let first : mid ≡ (old ++ codes " AND ST_NumPoints(\"WKT\") = ") ++ decimal (length places) = search rules in
    on_ok_weaker c.add_vertex_conditions.result
    (λ is. behind old (codes " AND ST_NumPoints(\"WKT\") = " ++ decimal (length places))
    (flat_map (vertex_condition c.args.origin) (enumerate_from 1 places)) mid end
    (first ∙ append_assoc old (codes " AND ST_NumPoints(\"WKT\") = ") (decimal (length places))) is) c.add_vertex_conditions.ensures
