use Rattle.std.proofs.Common.{◌<◌, ◌≡◌, ◌++◌, None, false, refl, ap, sym, subst, ◌∙◌, [], arith, List, length, filter}
use Rattle.std.specs.FinMap as finite
use Rattle.clr_rows.specs.declared.cells.CellId.{CellId}
use Rattle.clr_deltas.specs.Differences.{Differences, no_differences, cells_in, is_among}
use Rattle.clr_deltas.specs.Deltas.{Delta, wholes, delta_at, delta_changed, is_stored_child}
use Rattle.clr_workspaces.specs.Marks.{mark_last}
use Rattle.clr_deltas.proofs.Meaning.{name-wholes}
use Rattle.clr_contents.specs.SeenRows.{Extends, ChildrenStore}
use Rattle.clr_workspaces.specs.Operations.{change_marks, own_changes}
use Rattle.clr_workspaces.specs.Workspaces.{workspace_at}
use Rattle.clr_contents.specs.Lean.{StayOwnButNear}
use Rattle.clr_contents.specs.SeenRows.{StayOwnBut}
use Rattle.clr_contents.proofs.ComparedLemmas.{among_neither, no_difference}
use Rattle.clr_operations.proofs.LeanLemmas.{but_mark_moved, near_children, near_none, near_restarted}
use Rattle.std.proofs.lemmas.List.{length-set}
use Rattle.clr_workspaces.specs.Roots.{IsRooted}
use Rattle.clr_contents.proofs.SeenRowLemmas.{children_keep}
use Rattle.clr_operations.proofs.CreateLemmas.{moved_is, moved_extends, refreshed_is}
use Rattle.clr_operations.proofs.OperationLemmas.{children_both}
use Rattle.clr_operations.proofs.operations.refresh_base.Goals as goal

pub restart-requires : goal.restart-requires
restart-requires c =
    let hs = c.store_rows_of_children.new.map in
    let p_in : c.args.above < length hs = omega (arith, c.requires.within, c.requires.earlier, c.in_ok-store_rows_of_children.ensures.extends.long) in
    let more : Extends hs c.move_mark.new.map = subst (Extends hs) (sym c.in_ok-move_mark.ensures.ok) (moved_extends hs c.args.above c.in_ok-name.name p_in) in
    omega (arith, c.requires.within, c.in_ok-store_rows_of_children.ensures.extends.long, more.long)

pub returns-clause-ok : goal.returns-clause-ok
returns-clause-ok c =
    let live = c.args.live.now in
    let ls = c.args.map.now in
    let hs = c.store_rows_of_children.new.map in
    let gs = c.move_mark.new.map in
    let at = c.args.at in
    let p = c.args.above in
    let lt = c.requires.within in
    let h = c.in_ok-store_rows_of_children.ensures in
    let rows = c.args.rows.items in
    let changed = own_changes (workspace_at (wholes live ls) at) in
    let child = c.in_ok-name.name in
    let p_in : p < length hs = omega (arith, lt, c.requires.earlier, h.extends.long) in
    let more : Extends hs gs = subst (Extends hs) (sym c.in_ok-move_mark.ensures.ok) (moved_extends hs p child p_in) in
    let lt_new : at < length gs = omega (arith, lt, h.extends.long, more.long) in
    let rooted = subst IsRooted (sym h.seen) c.requires.rooted in
    let named = c.in_ok-name.ensures ∙ c.name_at.ensures ∙ sym (name-wholes live ls at) in
    let end = ap (wholes live) c.in_ok-move_mark.ensures.ok ∙ moved_is live hs p child rooted p_in ∙ (λ i. change_marks (h.seen i) p (mark_last (named i))) in
    let same_name = (more.each at).name ∙ (h.extends.each at).name in
    let keep = λ (qs : List CellId). λ (held : ChildrenStore hs (delta_at ls at).name qs). subst (λ n. ChildrenStore gs n qs) (sym same_name)
    (children_keep hs gs (delta_at ls at).name qs more held) in
    let name = (delta_at ls at).name in
    let base = finite.keys (delta_at ls at).base in
    let old = finite.keys (delta_at ls at).current in
    let both = children_both hs name (cells_in rows) (base ++ old) (subst (λ (qs : List CellId). ChildrenStore hs name qs) c.requires.cells h.children) in
    let under = children_both hs name base old both.1 in
    let held_rows = keep (cells_in rows) both.0 in
    let is_stored_in_base = keep base under.0 in
    let held_old = keep old under.1 in
    ap (wholes live) c.restart.ensures
    ∙ ap (λ (d : Differences). wholes live (delta_changed gs at (λ l. record l { base = no_differences; current = d; marks = filter is_stored_child l.marks })))
    c.in_ok-differences.ensures
    ∙ refreshed_is live ls gs at p rows changed c.requires.rooted c.requires.child lt lt_new c.requires.parent c.requires.earlier end held_rows is_stored_in_base
    held_old c.requires.rows refl

pub returns-in_err-move_mark-clause-long : goal.returns-in_err-move_mark-clause-long
returns-in_err-move_mark-clause-long c = ap (λ (ms : List Delta). length ms) c.in_err-move_mark.ensures.err ∙ c.store_rows_of_children.ensures.extends.long

pub returns-clause-long : goal.returns-clause-long
returns-clause-long c =
    let hs = c.store_rows_of_children.new.map in
    let p_in : c.args.above < length hs = omega (arith, c.requires.within, c.requires.earlier, c.in_ok-store_rows_of_children.ensures.extends.long) in
    let more : Extends hs c.move_mark.new.map = subst (Extends hs) (sym c.in_ok-move_mark.ensures.ok) (moved_extends hs c.args.above c.in_ok-name.name p_in) in
    ap (λ (ms : List Delta). length ms) c.restart.ensures ∙ length-set c.move_mark.new.map c.args.at _ ∙ more.long ∙ c.store_rows_of_children.ensures.extends.long

pub returns-in_err-store_rows_of_children-clause-elsewhere : goal.returns-in_err-store_rows_of_children-clause-elsewhere
returns-in_err-store_rows_of_children-clause-elsewhere c =
    let at = c.args.at in
    let all = c.args.cells.now in
    let ls = c.args.map.now in
    let hs = c.store_rows_of_children.new.map in
    near_children at all all ls hs refl c.store_rows_of_children.ensures.elsewhere

pub returns-in_err-differences-clause-elsewhere : goal.returns-in_err-differences-clause-elsewhere
returns-in_err-differences-clause-elsewhere c =
    let at = c.args.at in
    let all = c.args.cells.now in
    let ls = c.args.map.now in
    let hs = c.store_rows_of_children.new.map in
    near_children at all all ls hs refl c.store_rows_of_children.ensures.elsewhere

pub returns-in_err-move_mark-clause-elsewhere : goal.returns-in_err-move_mark-clause-elsewhere
returns-in_err-move_mark-clause-elsewhere c =
    let at = c.args.at in
    let all = c.args.cells.now in
    let ls = c.args.map.now in
    let hs = c.store_rows_of_children.new.map in
    let held = near_children at all all ls hs refl c.store_rows_of_children.ensures.elsewhere in
    subst (StayOwnButNear at all ls) (sym c.in_err-move_mark.ensures.err) held

pub returns-clause-elsewhere : goal.returns-clause-elsewhere
returns-clause-elsewhere c =
    let at = c.args.at in
    let all = c.args.cells.now in
    let ls = c.args.map.now in
    let hs = c.store_rows_of_children.new.map in
    let held = near_children at all all ls hs refl c.store_rows_of_children.ensures.elsewhere in
    let gs = c.move_mark.new.map in
    let p = c.args.above in
    let long = c.in_ok-store_rows_of_children.ensures.extends.long in
    let p_in : p < length hs = omega (arith, c.requires.within, c.requires.earlier, long) in
    let more : Extends hs gs = subst (Extends hs) (sym c.in_ok-move_mark.ensures.ok) (moved_extends hs p c.in_ok-name.name p_in) in
    let moved : StayOwnBut p [] hs gs = subst (StayOwnBut p [] hs) (sym c.in_ok-move_mark.ensures.ok) (but_mark_moved hs p c.in_ok-name.name p_in) in
    let none : (q : CellId) → is_among all q ≡ false → (is_among (cells_in c.args.rows.items) q ≡ false) × (finite.get (delta_at ls at).base q ≡ None) =
    λ q apart.
    let base = finite.keys (delta_at ls at).base in
    let old = finite.keys (delta_at ls at).current in
    let both = among_neither (cells_in c.args.rows.items) (base ++ old) q (ap (λ (qs : List CellId). is_among qs q) (sym c.requires.cells) ∙ apart) in
    (both.0, no_difference (delta_at ls at).base q (among_neither base old q both.1).0) in
    subst (StayOwnButNear at all ls) (sym c.restart.ensures)
    (near_restarted at all ls gs _ c.args.rows.items (omega (arith, c.requires.within, long, more.long)) (near_none at p all ls hs gs held moved)
    c.in_ok-differences.ensures none)
