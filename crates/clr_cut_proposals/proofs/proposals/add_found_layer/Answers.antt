use Rattle.std.proofs.Common.{◌∙◌, append_assoc}
use Rattle.std.proofs.lemmas.Result.{on_ok_weaker}
use Rattle.clr_sql.specs.Relations.{layer_query}
use Rattle.clr_cut_proposals.specs.Proposals.{found_layer, if_found}
use Rattle.clr_cut_proposals.proofs.proposals.add_found_layer.Goals as goal

pub returns : goal.returns
unfolding found_layer
returns c =
    let table = c.args.table.now in
    on_ok_weaker c.add_if_found.result
    (λ e. e ∙ rw (c.in_ok-add_layer_query.ensures, c.as_str.ensures)
    (append_assoc c.args.text.now.items (layer_query c.args.target.now table) (if_found table.name))) c.add_if_found.ensures
