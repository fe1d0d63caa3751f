use Rattle.std.proofs.Common.{◌≡◌, Some, ap, sym, subst, ◌∙◌, ◌∷◌, [], arith, length, List}
use Rattle.std.proofs.lemmas.List.{length-set}
use Rattle.clr_deltas.specs.Deltas.{Delta, wholes}
use Rattle.clr_workspaces.specs.Workspaces.{Workspace, parent_of}
use Rattle.clr_workspaces.specs.Operations.{after_resolve}
use Rattle.clr_workspaces.specs.Roots.{IsRooted}
use Rattle.clr_workspaces.specs.declared.rebases.Keep.TheVariants.{Child}
use Rattle.clr_contents.proofs.SeenRowLemmas.{but_both}
use Rattle.clr_contents.specs.SeenRows.{StayOwnBut}
use Rattle.clr_operations.proofs.LeanLemmas.{near_at, but_base_taken}
use Rattle.clr_operations.proofs.OperationLemmas.{base_taken}
use Rattle.clr_operations.proofs.operations.keep_own.Goals as goal

pub returns-clause-ok : goal.returns-clause-ok
returns-clause-ok c =
    let live = c.args.live.now in
    let at = c.args.at in
    let hs = c.store_seen_row.new.map in
    let e = c.in_ok-store_seen_row.ensures in
    let rooted = subst IsRooted (sym e.seen) c.requires.rooted in
    let parent = subst (λ (vs : List Workspace). parent_of vs at ≡ Some c.args.above) (sym e.seen) c.requires.parent in
    ap (wholes live) c.take_base.ensures
    ∙ base_taken live hs at rooted c.requires.child (omega (arith, c.requires.within, e.extends.long)) c.args.above parent c.requires.earlier c.args.cell
    e.current e.saved
    ∙ ap (λ (vs : List Workspace). after_resolve vs at c.args.above c.args.cell Child) e.seen

pub returns-clause-long : goal.returns-clause-long
returns-clause-long c = ap (λ (ms : List Delta). length ms) c.take_base.ensures ∙ length-set c.store_seen_row.new.map c.args.at _
    ∙ c.in_ok-store_seen_row.ensures.extends.long

pub returns-in_err-store_seen_row-clause-elsewhere : goal.returns-in_err-store_seen_row-clause-elsewhere
returns-in_err-store_seen_row-clause-elsewhere c = near_at c.args.at (c.args.cell ∷ []) c.args.map.now c.store_seen_row.new.map c.store_seen_row.ensures.elsewhere

pub returns-clause-elsewhere : goal.returns-clause-elsewhere
returns-clause-elsewhere c =
    let at = c.args.at in
    let cells = c.args.cell ∷ [] in
    let ls = c.args.map.now in
    let hs = c.store_seen_row.new.map in
    let e = c.in_ok-store_seen_row.ensures in
    let taken = subst (StayOwnBut at cells hs) (sym c.take_base.ensures)
    (but_base_taken hs at c.args.cell (omega (arith, c.requires.within, e.extends.long))) in
    near_at at cells ls c.take_base.new.self (but_both at cells ls hs c.take_base.new.self e.elsewhere taken)
