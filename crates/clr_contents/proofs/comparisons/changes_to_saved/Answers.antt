use Rattle.std.proofs.Common.{◌≡◌, ◌++◌, unwrap_or, ap, sym, ◌∙◌, false}
use Rattle.std.specs.declared.option.Option.{Option}
use Rattle.std.specs.FinMap as finite
use Rattle.clr_rows.specs.declared.cells.CellId.{CellId}
use Rattle.clr_rows.specs.declared.rows.Row.{Row}
use Rattle.clr_rows.specs.Contents.{no_changes, row_at}
use Rattle.clr_deltas.specs.Differences.{is_among}
use Rattle.clr_deltas.specs.Deltas.{Delta, delta_at, saved_differences, stored_at, wholes}
use Rattle.clr_workspaces.specs.Marks.{mark_at, saved_content}
use Rattle.clr_workspaces.specs.Workspaces.{workspace_at}
use Rattle.clr_contents.specs.Comparing.{set_at}
use Rattle.clr_contents.proofs.ComparedLemmas.{all_set, among_neither, no_difference}
use Rattle.clr_contents.proofs.MarkLemmas.{row-saved, saved_stored}
use Rattle.clr_contents.proofs.ReadLemmas.{none_current}
use Rattle.clr_contents.proofs.comparisons.changes_to_saved.Goals as goal

pub cells_of_both-requires-clause-marked : goal.cells_of_both-requires-clause-marked
cells_of_both-requires-clause-marked c = saved_stored c.args.live.now c.args.map.now c.args.at c.requires.child c.requires.within c.args.mark c.requires.saved

pub returns : goal.returns
returns c =
    let w = workspace_at (wholes c.args.live.now c.args.map.now) c.args.at in
    let l : Delta = delta_at c.args.map.now c.args.at in
    let d = saved_differences (stored_at l.marks c.args.mark) in
    let cells = c.as_slice.ensures.value ∙ c.in_ok-cells.ensures in
    let agree : (q : CellId) → is_among (finite.keys l.current ++ finite.keys d) q ≡ false →
    row_at w.current q ≡ row_at (saved_content (mark_at w.marks c.args.mark)) q = λ q e.
    let parts = among_neither (finite.keys l.current) (finite.keys d) q e in
    sym (none_current c.args.live.now c.args.map.now c.args.at c.requires.child c.requires.within q (no_difference l.current q parts.0))
    ∙ sym (row-saved c.args.live.now c.args.map.now c.args.at c.requires.child c.requires.within c.args.mark c.requires.saved q
    ∙ ap (λ (o : Option (Option Row)). unwrap_or o (row_at w.base q)) (no_difference d q parts.1)) in
    c.in_ok-set.ensures ∙ (λ i. set_at (c.new-before.ensures i) (c.new-after.ensures i) no_changes (cells i))
    ∙ all_set w.current (saved_content (mark_at w.marks c.args.mark)) (finite.keys l.current ++ finite.keys d) agree
