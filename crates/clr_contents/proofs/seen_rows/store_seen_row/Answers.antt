use Rattle.std.proofs.Common.{◌∷◌, []}
use Rattle.clr_deltas.proofs.Answered.{on_ok}
use Rattle.clr_contents.proofs.SeenRowLemmas.{but_both}
use Rattle.clr_contents.proofs.seen_rows.store_seen_row.Goals as goal

pub returns-clause-elsewhere : goal.returns-clause-elsewhere
returns-clause-elsewhere c = but_both c.args.at (c.args.cell ∷ []) c.args.map.now c.store_current_row.new.map c.store_saved_rows.new.map
    c.in_ok-store_current_row.ensures.elsewhere c.store_saved_rows.ensures.elsewhere

pub returns-clause-current : goal.returns-clause-current
returns-clause-current c = on_ok c.store_saved_rows.result _ _ (λ _. (c.store_saved_rows.ensures.extends.each c.args.at).current c.args.cell
    c.in_ok-store_current_row.ensures.is_stored) c.store_saved_rows.ensures.is_stored
