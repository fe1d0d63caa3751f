use Rattle.std.proofs.Common.{ap, sym, subst, ◌∙◌, ◌∷◌, []}
use Rattle.clr_deltas.specs.Deltas.{wholes}
use Rattle.clr_contents.specs.SeenRows.{StayOwnBut}
use Rattle.clr_contents.proofs.SeenRowLemmas.{saved_is_stored, but_marks}
use Rattle.clr_contents.proofs.seen_rows.store_saved_rows.Goals as goal

pub returns-clause-seen : goal.returns-clause-seen
returns-clause-seen c =
    ap (wholes c.args.live.now) c.store_saved_rows.ensures.others
    ∙ saved_is_stored c.args.live.now c.args.map.now c.args.at c.requires.rooted c.requires.child c.requires.within c.args.cell c.in_ok-row.row _
    (c.in_ok-row.ensures ∙ c.base_row_of.ensures)
    (λ b is. c.store_saved_rows.ensures.seen b (is ∙ sym c.as_ref.ensures.value))

pub returns-clause-elsewhere : goal.returns-clause-elsewhere
returns-clause-elsewhere c =
    subst (StayOwnBut c.args.at (c.args.cell ∷ []) c.args.map.now) (sym c.store_saved_rows.ensures.others) (but_marks c.args.map.now c.args.at (c.args.cell
    ∷ []) _ c.requires.within c.store_saved_rows.ensures.elsewhere)
