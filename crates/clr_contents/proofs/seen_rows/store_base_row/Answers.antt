use Rattle.std.proofs.Common.{ap, sym, subst, ◌∙◌, ◌∷◌, []}
use Rattle.std.specs.FinMap as finite
use Rattle.clr_deltas.specs.Differences.{Differences}
use Rattle.clr_deltas.proofs.DifferenceLemmas.{nothing_found}
use Rattle.clr_deltas.specs.Deltas.{wholes}
use Rattle.clr_contents.specs.SeenRows.{StayOwnBut}
use Rattle.clr_contents.proofs.SeenRowLemmas.{base_is_stored, but_base}
use Rattle.clr_contents.proofs.seen_rows.store_base_row.Goals as goal

pub returns-clause-seen : goal.returns-clause-seen
returns-clause-seen c =
    let none = ap (λ (d : Differences). finite.get d c.args.cell) (sym c.base.ensures) ∙ sym c.get.ensures
    ∙ nothing_found c.get.result (sym c.is_some.ensures ∙ c.if-is_some.false) in
    ap (wholes c.args.live.now) c.in_ok-put_base.ensures.ok
    ∙ base_is_stored c.args.live.now c.args.map.now c.args.at c.requires.rooted c.requires.child c.requires.within c.parent_of-above.result c.args.cell
    c.in_ok-row.row c.parent_of-above.ensures.found c.parent_of-above.ensures.earlier none (c.in_ok-row.ensures ∙ c.row_of.ensures)

pub returns-clause-elsewhere : goal.returns-clause-elsewhere
returns-clause-elsewhere c = subst (StayOwnBut c.args.at (c.args.cell ∷ []) c.args.map.now) (sym c.in_ok-put_base.ensures.ok)
    (but_base c.args.map.now c.args.at c.args.cell c.in_ok-row.row c.requires.within)
