use Rattle.std.proofs.Common.{◌∙◌, append_assoc}
use Rattle.std.proofs.lemmas.Result.{on_ok_weaker}
use Rattle.clr_sql.specs.Relations.{titled_query}
use Rattle.clr_cut_proposals.specs.Proposals.{titled_layer, if_found}
use Rattle.clr_cut_proposals.proofs.proposals.add_titled_layer.Goals as goal

pub returns : goal.returns
unfolding titled_layer
returns c =
    let table = c.args.table.now in
    on_ok_weaker c.add_if_found.result
    (λ e. e ∙ rw (c.in_ok-add_titled_query.ensures, c.as_str.ensures)
    (append_assoc c.args.text.now.items (titled_query c.args.target.now table) (if_found table.name))) c.add_if_found.ensures
