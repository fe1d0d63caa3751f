use Rattle.std.proofs.Common.{◌∙◌, ap, sym, subst, refl, arith, filter, length, List}
use Rattle.std.proofs.lemmas.List.{length-set}
use Rattle.clr_rows.specs.Contents.{over, rows_after}
use Rattle.clr_deltas.specs.Differences.{RowsByCell, no_differences, put_each, cells_in, HasDifferences}
use Rattle.clr_deltas.specs.Deltas.{Delta, wholes, delta_at, delta_changed, is_stored_child, IsUnder}
use Rattle.clr_workspaces.specs.Workspaces.{workspace_at}
use Rattle.clr_contents.specs.SeenRows.{StayOwnBut}
use Rattle.clr_workspaces.specs.Roots.{IsRooted}
use Rattle.clr_contents.proofs.ReadLemmas.{under_its_parent}
use Rattle.clr_contents.specs.Lean.{StayOwnButNear}
use Rattle.clr_operations.specs.Moves.{put_into}
use Rattle.clr_workspaces.specs.Operations.{own_changes, with_current}
use Rattle.clr_operations.proofs.LeanLemmas.{but_taken_over, near_child}
use Rattle.clr_operations.proofs.OperationLemmas.{merged_is}
use Rattle.clr_workspaces.proofs.RootLemmas.{rooted_set}
use Rattle.clr_operations.proofs.operations.merge_rows.Goals as goal

pub take_over-requires-clause-is_stored : goal.take_over-requires-clause-is_stored
take_over-requires-clause-is_stored c =
    let ls = c.args.map.now in
    let hs = c.put_rows.new.map in
    let at = c.args.at in
    let e = c.in_ok-put_rows.ensures in
    let name = (delta_at ls c.args.above).name in
    let under : IsUnder name (delta_at hs at) = subst (λ n. IsUnder name (record (delta_at ls at) { parent = n })) (sym (e.extends.each at).parent)
    (under_its_parent c.args.live.now ls at c.args.above c.requires.parent) in
    subst (λ (rs : RowsByCell). HasDifferences (delta_at hs at).base (cells_in rs)) (c.requires.rows ∙ sym c.requires.own)
    (e.children at c.requires.child (omega (arith, c.requires.within, e.extends.long)) under)

pub returns-clause-ok : goal.returns-clause-ok
returns-clause-ok c =
    let ls = c.args.map.now in
    let hs = c.put_rows.new.map in
    let live = c.put_rows.new.live in
    let ws = wholes c.args.live.now ls in
    let e = c.in_ok-put_rows.ensures in
    let changed = own_changes (workspace_at ws c.args.at) in
    let put = e.ok ∙ ap (λ (rs : RowsByCell). put_into ws c.args.above rs) c.requires.rows in
    let rooted = subst IsRooted (sym put) (rooted_set ws c.args.above
    (with_current (over (workspace_at ws c.args.above).current (rows_after changed)) (workspace_at ws c.args.above)) refl refl c.requires.rooted) in
    ap (wholes live) c.take_over.ensures
    ∙ ap (λ (rs : RowsByCell). wholes live
    (delta_changed hs c.args.at (λ l. record l { base = put_each l.base rs; current = no_differences; marks = filter is_stored_child l.marks }))) c.requires.own
    ∙ merged_is live hs ws c.args.at c.args.above changed rooted c.requires.child (omega (arith, c.requires.within, e.extends.long)) c.requires.earlier put refl

pub returns-clause-long : goal.returns-clause-long
returns-clause-long c = ap (λ (ms : List Delta). length ms) c.take_over.ensures ∙ length-set c.put_rows.new.map c.args.at _
    ∙ c.in_ok-put_rows.ensures.extends.long

pub returns-in_err-put_rows-clause-elsewhere : goal.returns-in_err-put_rows-clause-elsewhere
returns-in_err-put_rows-clause-elsewhere c = subst (λ (rs : RowsByCell). StayOwnButNear c.args.above (cells_in rs) c.args.map.now c.put_rows.new.map)
    (c.requires.rows
    ∙ sym c.requires.own) c.put_rows.ensures.elsewhere

pub returns-clause-elsewhere : goal.returns-clause-elsewhere
returns-clause-elsewhere c =
    let ls = c.args.map.now in
    let hs = c.put_rows.new.map in
    let at = c.args.at in
    let own = c.args.own.items in
    let e = c.in_ok-put_rows.ensures in
    let put = subst (λ (rs : RowsByCell). StayOwnButNear c.args.above (cells_in rs) ls hs) (c.requires.rows ∙ sym c.requires.own) e.elsewhere in
    near_child at c.args.above (cells_in own) ls hs c.take_over.new.self (under_its_parent c.args.live.now ls at c.args.above c.requires.parent) put
    (subst (StayOwnBut at (cells_in own) hs) (sym c.take_over.ensures) (but_taken_over hs at own (omega (arith, c.requires.within, e.extends.long))))
