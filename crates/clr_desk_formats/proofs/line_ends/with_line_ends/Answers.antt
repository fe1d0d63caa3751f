use Rattle.std.proofs.Common.{refl}
use Rattle.clr_desk_formats.proofs.LineEnds.{more_last, more_lines, more_place}
use Rattle.clr_desk_formats.proofs.line_ends.with_line_ends.Goals as goal

pub loop-byte-init : goal.loop-byte-init
loop-byte-init c = (c.in_ok-lines.ensures.items, refl, refl)

pub loop-byte-preserved : goal.loop-byte-preserved
loop-byte-preserved c =
    let text = c.args.text.now in
    let at = c.loop-byte.byte-index in
    let less = c.loop-byte-test.true in
    let so_far = c.loop-byte.invariant in
    let ends = c.is_line_end.ensures in (
      more_lines text at less c.loop-byte.lines.items c.add_byte.new.lines.items c.loop-byte.place c.loop-byte.before so_far.0 so_far.1 so_far.2
          (rw (← ends) c.in_ok-add_byte.ensures),
      more_place text at less c.loop-byte.place c.place_behind-place.result so_far.1 c.place_behind-place.ensures,
      more_last text at less,
    )
