use Rattle.std.proofs.Common.{◌≡◌, List, length, map, ap, sym, ◌∙◌, arith}
use Rattle.clr_deltas.specs.declared.stored_marks.StoredMark.{StoredMark}
use Rattle.clr_deltas.specs.Deltas.{wholes, whole_mark, delta_at}
use Rattle.clr_workspaces.specs.Workspaces.{workspace_at}
use Rattle.clr_workspace_parts.proofs.PartLemmas.{take_all}
use Rattle.clr_contents.proofs.ReadLemmas.{marks-wholes}
use Rattle.clr_workspace_parts.proofs.part_reads.mark_parts.Goals as goal

pub returns : goal.returns
returns c =
    let live = c.args.live.now in
    let ls = c.args.map.now in
    let base = (workspace_at (wholes live ls) c.args.at).base in
    let same : length c.marks-mark-items.result.now ≡ length (delta_at ls c.args.at).marks = ap length c.marks-mark-items.ensures in
    c.loop-mark.invariant ∙ ap (λ (ms : List StoredMark). map (whole_mark base) ms) (take_all (delta_at ls c.args.at).marks c.loop-mark.mark-index
    (omega (arith, same)))
    ∙ sym (marks-wholes live ls c.args.at c.requires.child c.requires.within)
