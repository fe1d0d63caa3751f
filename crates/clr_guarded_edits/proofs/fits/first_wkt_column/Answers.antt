use Rattle.std.proofs.Common.{◌≡◌, ◌≤◌, ◌∙◌, ap, length, rules, sym, false, true}
use Rattle.std.proofs.lemmas.List.{drop_all}
use Rattle.clr_layer_text.specs.Layers.{can_be_layer}
use Rattle.clr_guarded_edits.specs.Fits.{first_wkt_column}
use Rattle.clr_guarded_edits.proofs.Firsts.{no_table, table_here, tables_behind}
use Rattle.clr_guarded_edits.proofs.fits.first_wkt_column.Goals as goal

pub returns-then-not-can_be_layer : goal.returns-then-not-can_be_layer
returns-then-not-can_be_layer c =
    let table = c.index-tables-at.result in
    let cannot : can_be_layer table ≡ false = search rules in
    sym (table_here c.args.tables.now c.loop-at.at table c.loop-at-test.true c.index-tables-at.is cannot) ∙ c.loop-at.invariant

pub loop-at-preserved : goal.loop-at-preserved
loop-at-preserved c =
    let table = c.index-tables-at.result in
    let can : can_be_layer table ≡ true = search rules in
    sym (tables_behind c.args.tables.now c.loop-at.at table c.loop-at-test.true c.index-tables-at.is can) ∙ c.loop-at.invariant

pub returns : goal.returns
returns c =
    let tables = c.args.tables.now in
    let at = c.loop-at.at in
    let past : length tables ≤ at = search rules in
    sym (ap (first_wkt_column at) (drop_all at tables past) ∙ no_table at) ∙ c.loop-at.invariant
