use Rattle.std.proofs.Common.{◌∙◌, codes}
use Rattle.std.proofs.lemmas.Result.{on_ok_weaker}
use Rattle.clr_sql.specs.Relations.{layer_query, titles}
use Rattle.clr_sql.proofs.Pieces.{pieces_3}
use Rattle.clr_sql.proofs.relations.add_titled_query.Goals as goal

pub returns : goal.returns
returns c =
    on_ok_weaker c.add_layer_query.result
    (λ e. e ∙ rw (c.in_ok-extend_from_slice.ensures.items, c.in_ok-add_titles.ensures)
    (pieces_3 c.args.text.now.items (titles c.args.table.now) (codes " UNION ALL ") (layer_query c.args.target.now c.args.table.now))) c.add_layer_query.ensures
