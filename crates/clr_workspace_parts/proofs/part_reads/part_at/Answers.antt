use Rattle.std.proofs.Common.{sym, ◌∙◌}
use Rattle.clr_deltas.proofs.Meaning.{name-wholes, parent-wholes}
use Rattle.clr_contents.proofs.ReadLemmas.{kept-wholes}
use Rattle.clr_workspace_parts.proofs.part_reads.part_at.Goals as goal

pub returns : goal.returns
returns c =
    let live = c.args.live.now in
    let ls = c.args.map.now in
    let at = c.args.at in
    let name = c.in_ok-name.ensures ∙ c.name_at.ensures ∙ sym (name-wholes live ls at) in
    let parent = c.in_ok-parent.ensures ∙ c.parent_name.ensures ∙ sym (parent-wholes live ls at) in
    let kept = c.is_kept.ensures ∙ sym (kept-wholes live ls at c.requires.child c.requires.within) in
    λ i. record {
      name = name i;
      parent = parent i;
      base = c.in_ok-base.ensures i;
      current = c.in_ok-current.ensures i;
      marks = c.in_ok-marks.ensures i;
      kept =
          kept i;
    }
