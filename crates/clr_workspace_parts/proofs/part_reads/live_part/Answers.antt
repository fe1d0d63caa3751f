use Rattle.std.proofs.Common.{true, ap, ◌∙◌}
use Rattle.clr_workspace_parts.specs.Parts.{marks_of}
use Rattle.clr_workspace_parts.proofs.part_reads.live_part.Goals as goal

pub returns : goal.returns
returns c =
    let name = c.in_ok-name.ensures in
    let parent = c.new-parent.ensures ∙ c.new-no_name.ensures.bytes in
    let marks = ap marks_of c.new-marks.ensures.items in
    λ i. record { name = name i; parent = parent i; base = c.new-base.ensures i; current = c.in_ok-current.ensures i; marks = marks i; kept = true }
