use Rattle.std.proofs.Common.{◌-◌, append_assoc, length, map, take}
use Rattle.std.proofs.lemmas.List.{take_min}
use Rattle.clr_map_frames.specs.HeadingLines.{said}
use Rattle.clr_plan_map.specs.Turns.{more_lines, turn_lines, turn_text}
use Rattle.clr_plan_map.proofs.turns.add_turns.Goals as goal

pub returns : goal.returns
unfolding turn_lines
returns c =
    let before = c.args.before.now in
    rw (c.in_ok-add_more.ensures, c.in_ok-add_told.ensures, c.saturating_sub.ensures, c.min-end.ensures, take_min 12 before)
    (append_assoc (said c.args.column.now.sketch.elements.items) (map turn_text (take 12 before)) (more_lines (length before - 12)))
