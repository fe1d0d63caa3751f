use Rattle.std.proofs.Common.{◌≡◌, refl, ◌∙◌, ap, sym, subst, arith, List}
use Rattle.clr_rows.specs.declared.cells.CellId.{CellId}
use Rattle.clr_rows.specs.Contents.{Content}
use Rattle.clr_deltas.specs.Differences.{cells_in, HasDifferences}
use Rattle.clr_deltas.specs.Deltas.{wholes, delta_at}
use Rattle.clr_contents.specs.SeenRows.{Extends, ChildrenStore}
use Rattle.clr_operations.specs.Moves.{put_into}
use Rattle.clr_workspaces.specs.Roots.{IsRooted}
use Rattle.clr_contents.proofs.SeenRowLemmas.{extends_both, extends_put, children_keep}
use Rattle.clr_operations.proofs.OperationLemmas.{live_put, put}
use Rattle.clr_contents.proofs.SeenRowLemmas.{but_put}
use Rattle.clr_contents.specs.SeenRows.{StayOwnBut}
use Rattle.clr_operations.proofs.LeanLemmas.{near_children, near_own}
use Rattle.clr_operations.proofs.operations.put_rows.Goals as goal

pub returns-then-at-eq0-clause-ok : goal.returns-then-at-eq0-clause-ok
returns-then-at-eq0-clause-ok c =
    let ls = c.args.map.now in
    let hs = c.store_rows_of_children.new.map in
    let e = c.in_ok-store_rows_of_children.ensures in
    let rows = c.args.rows.items in
    let zero : c.args.at ≡ 0 = omega arith in
    let name = (delta_at ls c.args.at).name in
    let cells = c.as_slice-2.ensures.value ∙ c.in_ok-cells.ensures ∙ ap cells_in c.as_slice.ensures.value in
    let held : ChildrenStore hs name (cells_in rows) = subst (λ (qs : List CellId). ChildrenStore hs name qs) cells e.children in
    let named = sym (e.extends.each c.args.at).name ∙ ap (λ k. (delta_at hs k).name) zero in
    ap (λ (m : Content). wholes m hs) c.in_ok-put_all.ensures.ok
    ∙ live_put c.args.live.now hs rows (omega (arith, c.requires.within, e.extends.long)) (subst (λ n. ChildrenStore hs n (cells_in rows)) named held)
    ∙ (λ i. put_into (e.seen i) (sym zero i) rows)

pub returns-then-at-eq0-clause-children : goal.returns-then-at-eq0-clause-children
returns-then-at-eq0-clause-children c =
    let hs = c.store_rows_of_children.new.map in
    let name = (delta_at c.args.map.now c.args.at).name in
    let cells = c.as_slice-2.ensures.value ∙ c.in_ok-cells.ensures ∙ ap cells_in c.as_slice.ensures.value in
    subst (λ (qs : List CellId). ChildrenStore hs name qs) cells c.in_ok-store_rows_of_children.ensures.children

pub set_current-requires-clause-is_stored : goal.set_current-requires-clause-is_stored
set_current-requires-clause-is_stored c =
    let cells = c.as_slice-3.ensures.value ∙ c.in_ok-cells.ensures ∙ ap cells_in c.as_slice.ensures.value in
    subst (λ (qs : List CellId). HasDifferences (delta_at c.store_current_rows.new.map c.args.at).current qs) cells c.in_ok-store_current_rows.ensures.is_stored

pub returns-clause-ok : goal.returns-clause-ok
returns-clause-ok c =
    let ls = c.args.map.now in
    let gs = c.store_rows_of_children.new.map in
    let hs = c.store_current_rows.new.map in
    let e = c.in_ok-store_rows_of_children.ensures in
    let f = c.in_ok-store_current_rows.ensures in
    let rows = c.args.rows.items in
    let name = (delta_at ls c.args.at).name in
    let seen = f.seen ∙ e.seen in
    let both = extends_both ls gs hs e.extends f.extends in
    let cells = c.as_slice-2.ensures.value ∙ c.in_ok-cells.ensures ∙ ap cells_in c.as_slice.ensures.value in
    let held : ChildrenStore gs name (cells_in rows) = subst (λ (qs : List CellId). ChildrenStore gs name qs) cells e.children in
    let more : ChildrenStore hs (delta_at hs c.args.at).name (cells_in rows) = subst (λ n. ChildrenStore hs n (cells_in rows)) (sym (both.each c.args.at).name)
    (children_keep gs hs name (cells_in rows) f.extends held) in
    ap (wholes c.args.live.now) c.set_current.ensures
    ∙ put c.args.live.now hs c.args.at (subst IsRooted (sym seen) c.requires.rooted) (omega arith) (omega (arith, c.requires.within, both.long)) rows more
    ∙ ap (λ ws. put_into ws c.args.at rows) seen

pub returns-clause-extends : goal.returns-clause-extends
returns-clause-extends c =
    let ls = c.args.map.now in
    let hs = c.store_current_rows.new.map in
    let both = extends_both ls c.store_rows_of_children.new.map hs c.in_ok-store_rows_of_children.ensures.extends c.in_ok-store_current_rows.ensures.extends in
    extends_both ls hs c.set_current.new.self both (subst (Extends hs) (sym c.set_current.ensures) (extends_put hs c.args.at c.args.rows.items
    (omega (arith, c.requires.within, both.long))))

pub returns-clause-children : goal.returns-clause-children
returns-clause-children c =
    let ls = c.args.map.now in
    let gs = c.store_rows_of_children.new.map in
    let hs = c.store_current_rows.new.map in
    let rows = c.args.rows.items in
    let name = (delta_at ls c.args.at).name in
    let both = extends_both ls gs hs c.in_ok-store_rows_of_children.ensures.extends c.in_ok-store_current_rows.ensures.extends in
    let cells = c.as_slice-2.ensures.value ∙ c.in_ok-cells.ensures ∙ ap cells_in c.as_slice.ensures.value in
    let held : ChildrenStore gs name (cells_in rows) = subst (λ (qs : List CellId). ChildrenStore gs name qs) cells c.in_ok-store_rows_of_children.ensures.children in
    let put = subst (Extends hs) (sym c.set_current.ensures) (extends_put hs c.args.at rows (omega (arith, c.requires.within, both.long))) in
    children_keep gs c.set_current.new.self name (cells_in rows) (extends_both gs hs c.set_current.new.self c.in_ok-store_current_rows.ensures.extends put) held

pub returns-in_err-store_rows_of_children-clause-elsewhere : goal.returns-in_err-store_rows_of_children-clause-elsewhere
returns-in_err-store_rows_of_children-clause-elsewhere c =
    let cells = c.as_slice-2.ensures.value ∙ c.in_ok-cells.ensures ∙ ap cells_in c.as_slice.ensures.value in
    near_children c.args.at (cells_in c.args.rows.items) _ c.args.map.now c.store_rows_of_children.new.map cells c.store_rows_of_children.ensures.elsewhere

pub returns-in_err-put_all-clause-elsewhere : goal.returns-in_err-put_all-clause-elsewhere
returns-in_err-put_all-clause-elsewhere c =
    let cells = c.as_slice-2.ensures.value ∙ c.in_ok-cells.ensures ∙ ap cells_in c.as_slice.ensures.value in
    near_children c.args.at (cells_in c.args.rows.items) _ c.args.map.now c.store_rows_of_children.new.map cells c.store_rows_of_children.ensures.elsewhere

pub returns-then-at-eq0-clause-elsewhere : goal.returns-then-at-eq0-clause-elsewhere
returns-then-at-eq0-clause-elsewhere c =
    let cells = c.as_slice-2.ensures.value ∙ c.in_ok-cells.ensures ∙ ap cells_in c.as_slice.ensures.value in
    near_children c.args.at (cells_in c.args.rows.items) _ c.args.map.now c.store_rows_of_children.new.map cells c.store_rows_of_children.ensures.elsewhere

pub returns-in_err-store_current_rows-clause-elsewhere : goal.returns-in_err-store_current_rows-clause-elsewhere
returns-in_err-store_current_rows-clause-elsewhere c =
    let cells = c.as_slice-2.ensures.value ∙ c.in_ok-cells.ensures ∙ ap cells_in c.as_slice.ensures.value in
    let again = c.as_slice-3.ensures.value ∙ c.in_ok-cells.ensures ∙ ap cells_in c.as_slice.ensures.value in
    near_own c.args.at (cells_in c.args.rows.items) _ c.args.map.now c.store_rows_of_children.new.map c.store_current_rows.new.map again
    (near_children c.args.at (cells_in c.args.rows.items) _ c.args.map.now c.store_rows_of_children.new.map cells c.store_rows_of_children.ensures.elsewhere)
    c.store_current_rows.ensures.elsewhere

pub returns-clause-elsewhere : goal.returns-clause-elsewhere
returns-clause-elsewhere c =
    let cells = c.as_slice-2.ensures.value ∙ c.in_ok-cells.ensures ∙ ap cells_in c.as_slice.ensures.value in
    let again = c.as_slice-3.ensures.value ∙ c.in_ok-cells.ensures ∙ ap cells_in c.as_slice.ensures.value in
    let ls = c.args.map.now in
    let gs = c.store_rows_of_children.new.map in
    let hs = c.store_current_rows.new.map in
    let rows = c.args.rows.items in
    let both = extends_both ls gs hs c.in_ok-store_rows_of_children.ensures.extends c.in_ok-store_current_rows.ensures.extends in
    let put = subst (StayOwnBut c.args.at (cells_in rows) hs) (sym c.set_current.ensures)
    (but_put hs c.args.at rows (omega (arith, c.requires.within, both.long))) in
    near_own c.args.at (cells_in rows) (cells_in rows) ls hs c.set_current.new.self refl
    (near_own c.args.at (cells_in rows) _ ls gs hs again (near_children c.args.at (cells_in rows) _ ls gs cells c.store_rows_of_children.ensures.elsewhere)
    c.store_current_rows.ensures.elsewhere) put
