use Rattle.std.proofs.Common.{◌∙◌, sym, rules}
use Rattle.clr_hints.proofs.BlankLemmas.{turn_passes, turn_stays}
use Rattle.clr_hints.proofs.blank_lines.blank_lines_hint.Goals.{then-not-is_carriage_return, else-not-is_carriage_return}
use Rattle.clr_hints.proofs.blank_lines.blank_lines_hint.Goals as goal

pub loop-byte-preserved : goal.loop-byte-preserved
loop-byte-preserved c =
    let text = c.args.text.now in
    let at = c.loop-byte.byte-index in
    let begun = c.loop-byte.is_line_begun in
    elim c.if-not-is_carriage_return.branch [
      | then-not-is_carriage_return w ↦ rw w.is_line_begun-is (record {
        whole = search rules;
        rest = c.loop-byte.invariant.rest ∙ turn_passes text at begun c.loop-byte-test.true
            (sym c.is_carriage_return.ensures ∙ w.if-not-is_carriage_return.true) (sym c.ends_blank_line.ensures ∙ c.if-ends_blank_line.false);
      })
      | else-not-is_carriage_return w ↦ rw w.is_line_begun-is (record {
        whole = search rules;
        rest = c.loop-byte.invariant.rest ∙ turn_stays text at begun c.loop-byte-test.true
            (sym c.is_carriage_return.ensures ∙ w.if-not-is_carriage_return.false);
      })
    ]
