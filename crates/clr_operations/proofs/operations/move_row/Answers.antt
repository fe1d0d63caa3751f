use Rattle.std.proofs.Common.{◌≡◌, Some, refl, ap, sym, subst, ◌∙◌, ◌∷◌, [], arith, length, List}
use Rattle.std.proofs.lemmas.List.{length-set}
use Rattle.clr_deltas.specs.Deltas.{Delta, wholes, delta_at}
use Rattle.clr_workspaces.specs.Workspaces.{Workspace, parent_of}
use Rattle.clr_contents.specs.SeenRows.{ChildrenStore, StayOwnBut}
use Rattle.clr_operations.proofs.LeanLemmas.{near_children, near_own, but_row_moved}
use Rattle.clr_operations.specs.Moves.{row_moved}
use Rattle.clr_workspaces.specs.Roots.{IsRooted}
use Rattle.clr_contents.proofs.SeenRowLemmas.{extends_both, children_keep}
use Rattle.clr_operations.proofs.OperationLemmas.{row_set}
use Rattle.clr_operations.proofs.operations.move_row.Goals as goal

pub returns-clause-ok : goal.returns-clause-ok
returns-clause-ok c =
    let live = c.args.live.now in
    let ls = c.args.map.now in
    let at = c.args.at in
    let gs = c.store_cell.new.map in
    let hs = c.store_seen_row.new.map in
    let e = c.in_ok-store_cell.ensures in
    let f = c.in_ok-store_seen_row.ensures in
    let seen = f.seen ∙ e.seen in
    let both = extends_both ls gs hs e.extends f.extends in
    let rooted = subst IsRooted (sym seen) c.requires.rooted in
    let parent = subst (λ (vs : List Workspace). parent_of vs at ≡ Some c.args.above) (sym seen) c.requires.parent in
    let children = subst (λ n. ChildrenStore hs n (c.args.cell ∷ [])) (sym (both.each at).name)
    (children_keep gs hs (delta_at ls at).name (c.args.cell ∷ []) f.extends e.children) in
    ap (wholes live) c.move_row.ensures
    ∙ row_set live hs at rooted c.requires.child (omega (arith, c.requires.within, both.long)) c.args.above parent c.requires.earlier c.args.cell c.args.row
    children f.current f.saved
    ∙ ap (λ (vs : List Workspace). row_moved vs at c.args.above c.args.cell c.args.row) seen

pub returns-clause-long : goal.returns-clause-long
returns-clause-long c =
    ap (λ (ms : List Delta). length ms) c.move_row.ensures ∙ length-set c.store_seen_row.new.map c.args.at _
    ∙ c.in_ok-store_seen_row.ensures.extends.long ∙ c.in_ok-store_cell.ensures.extends.long

pub returns-in_err-store_cell-clause-elsewhere : goal.returns-in_err-store_cell-clause-elsewhere
returns-in_err-store_cell-clause-elsewhere c = near_children c.args.at (c.args.cell ∷ []) (c.args.cell ∷ []) c.args.map.now c.store_cell.new.map refl
    c.store_cell.ensures.elsewhere

pub returns-in_err-store_seen_row-clause-elsewhere : goal.returns-in_err-store_seen_row-clause-elsewhere
returns-in_err-store_seen_row-clause-elsewhere c =
    let at = c.args.at in
    let cells = c.args.cell ∷ [] in
    let ls = c.args.map.now in
    let gs = c.store_cell.new.map in
    near_own at cells cells ls gs c.store_seen_row.new.map refl (near_children at cells cells ls gs refl c.in_ok-store_cell.ensures.elsewhere)
    c.store_seen_row.ensures.elsewhere

pub returns-clause-elsewhere : goal.returns-clause-elsewhere
returns-clause-elsewhere c =
    let at = c.args.at in
    let cells = c.args.cell ∷ [] in
    let ls = c.args.map.now in
    let gs = c.store_cell.new.map in
    let hs = c.store_seen_row.new.map in
    let long = c.in_ok-store_seen_row.ensures.extends.long ∙ c.in_ok-store_cell.ensures.extends.long in
    let moved = subst (StayOwnBut at cells hs) (sym c.move_row.ensures) (but_row_moved hs at c.args.cell c.args.row (omega (arith, c.requires.within, long))) in
    near_own at cells cells ls hs c.move_row.new.self refl
    (near_own at cells cells ls gs hs refl (near_children at cells cells ls gs refl c.in_ok-store_cell.ensures.elsewhere) c.in_ok-store_seen_row.ensures.elsewhere) moved
