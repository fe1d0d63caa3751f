use Rattle.std.proofs.Common.{ap, sym, subst, ◌∙◌, ◌∷◌, []}
use Rattle.clr_deltas.specs.Deltas.{wholes}
use Rattle.clr_contents.specs.SeenRows.{StayOwnBut}
use Rattle.clr_contents.proofs.SeenRowLemmas.{current_is_stored, but_current}
use Rattle.clr_contents.proofs.seen_rows.store_current_row.Goals as goal

pub returns-clause-seen : goal.returns-clause-seen
returns-clause-seen c =
    ap (wholes c.args.live.now) c.in_ok-put_current.ensures.ok
    ∙ current_is_stored c.args.live.now c.args.map.now c.args.at c.requires.rooted c.requires.child c.requires.within c.args.cell c.in_ok-row.row
    (c.in_ok-row.ensures ∙ c.row_of.ensures)

pub returns-clause-elsewhere : goal.returns-clause-elsewhere
returns-clause-elsewhere c = subst (StayOwnBut c.args.at (c.args.cell ∷ []) c.args.map.now) (sym c.in_ok-put_current.ensures.ok)
    (but_current c.args.map.now c.args.at c.args.cell c.in_ok-row.row c.requires.within)
