use Rattle.std.proofs.Common.{◌≡◌, ◌++◌, refl, false, None, ◌<◌, suc, ◌∙◌, ap, sym, subst, arith, List, length, take}
use Rattle.std.specs.FinMap as finite
use Rattle.clr_rows.specs.declared.cells.CellId.{CellId}
use Rattle.clr_deltas.specs.Differences.{Differences, seen_over}
use Rattle.clr_deltas.specs.Deltas.{Delta, wholes, delta_at, delta_changed, stored_at, saved_differences}
use Rattle.clr_workspaces.specs.Workspaces.{Workspace, workspace_at}
use Rattle.clr_contents.specs.SeenRows.{ChildrenStore}
use Rattle.clr_workspaces.specs.Operations.{change_workspace}
use Rattle.clr_workspaces.specs.Roots.{IsRooted}
use Rattle.clr_contents.proofs.ReadLemmas.{current-wholes}
use Rattle.clr_contents.proofs.MarkLemmas.{length-marks, saved_within}
use Rattle.clr_contents.proofs.ReadLemmas.{marks-wholes}
use Rattle.clr_operations.proofs.OperationLemmas.{children_both, rolled, rolled_is}
use Rattle.clr_contents.specs.SeenRows.{StayOwnBut}
use Rattle.clr_deltas.specs.Differences.{is_among}
use Rattle.std.proofs.lemmas.List.{length-set}
use Rattle.clr_contents.proofs.ComparedLemmas.{among_neither, no_difference}
use Rattle.clr_operations.proofs.LeanLemmas.{but_rolled, near_children, near_own}
use Rattle.clr_operations.proofs.operations.roll_back.Goals as goal

pub roll_to-requires-clause-marked : goal.roll_to-requires-clause-marked
roll_to-requires-clause-marked c =
    let live = c.args.live.now in
    let hs = c.store_rows_of_children.new.map in
    let at = c.args.at in
    let there = saved_within (workspace_at (wholes live c.args.map.now) at).marks c.args.mark c.requires.saved in
    subst (λ n. c.args.mark < n) (length-marks live hs at c.requires.child (omega (arith, c.requires.within, c.in_ok-store_rows_of_children.ensures.extends.long)))
    (subst (λ (vs : List Workspace). c.args.mark < length (workspace_at vs at).marks) (sym c.in_ok-store_rows_of_children.ensures.seen) there)

pub returns-clause-ok : goal.returns-clause-ok
returns-clause-ok c =
    let live = c.args.live.now in
    let ls = c.args.map.now in
    let ws = wholes live ls in
    let hs = c.store_rows_of_children.new.map in
    let at = c.args.at in
    let i = c.args.mark in
    let lt = c.requires.within in
    let e = c.in_ok-store_rows_of_children.ensures in
    let d = saved_differences (stored_at (delta_at ls at).marks i) in
    let old = (delta_at ls at).current in
    let name = (delta_at hs at).name in
    let cells = c.requires.cells ∙ ap (λ (x : Differences). finite.keys x ++ finite.keys old) c.requires.differences in
    let held : ChildrenStore hs name (finite.keys d ++ finite.keys old) = subst (λ n. ChildrenStore hs n (finite.keys d ++ finite.keys old))
    (sym (e.extends.each at).name) (subst (λ (qs : List CellId). ChildrenStore hs (delta_at ls at).name qs) cells e.children) in
    let both = children_both hs name (finite.keys d) (finite.keys old) held in
    let rooted = subst IsRooted (sym e.seen) c.requires.rooted in
    let was : (workspace_at (wholes live hs) at).current ≡ seen_over (workspace_at (wholes live hs) at).base old =
    subst (λ (vs : List Workspace). (workspace_at vs at).current ≡ seen_over (workspace_at vs at).base old) (sym e.seen)
    (current-wholes live ls at c.requires.child lt) in
    let marks = marks-wholes live ls at c.requires.child lt in
    ap (wholes live) c.roll_to.ensures
    ∙ (λ k. wholes live (delta_changed hs at (λ l. record l { current = c.requires.differences k; marks = take (suc i) l.marks })))
    ∙ rolled live hs at rooted c.requires.child (omega (arith, lt, e.extends.long)) d old (suc i) was both.0 both.1
    ∙ ap (λ (vs : List Workspace). change_workspace vs at (λ w. record w { current = seen_over w.base d; marks = take (suc i) w.marks })) e.seen
    ∙ rolled_is ws at i (delta_at ls at).marks marks c.requires.saved c.requires.free

pub returns-clause-long : goal.returns-clause-long
returns-clause-long c = ap (λ (ms : List Delta). length ms) c.roll_to.ensures ∙ length-set c.store_rows_of_children.new.map c.args.at _
    ∙ c.store_rows_of_children.ensures.extends.long

pub returns-in_err-store_rows_of_children-clause-elsewhere : goal.returns-in_err-store_rows_of_children-clause-elsewhere
returns-in_err-store_rows_of_children-clause-elsewhere c = near_children c.args.at c.args.cells.now c.args.cells.now c.args.map.now c.store_rows_of_children.new.map refl
    c.store_rows_of_children.ensures.elsewhere

pub returns-clause-elsewhere : goal.returns-clause-elsewhere
returns-clause-elsewhere c =
    let at = c.args.at in
    let all = c.args.cells.now in
    let ls = c.args.map.now in
    let hs = c.store_rows_of_children.new.map in
    let long = c.store_rows_of_children.ensures.extends.long in
    let none : (q : CellId) → is_among all q ≡ false → finite.get c.args.differences q ≡ None = λ q apart.
    no_difference c.args.differences q (among_neither (finite.keys c.args.differences) (finite.keys (delta_at ls at).current) q
    (ap (λ (cs : List CellId). is_among cs q) (sym c.requires.cells) ∙ apart)).0 in
    near_own at all all ls hs c.roll_to.new.self refl (near_children at all all ls hs refl c.store_rows_of_children.ensures.elsewhere)
    (subst (StayOwnBut at all hs) (sym c.roll_to.ensures) (but_rolled hs at c.args.differences (suc c.args.mark) all (omega (arith, c.requires.within, long))
    none))
