use Rattle.std.proofs.Common.{◌∙◌, sym}
use Rattle.clr_hints.proofs.LineLemmas.{is_last, is_passed}
use Rattle.clr_hints.proofs.json_faults.last_byte.Goals.{then-not-is_space, else-not-is_space}
use Rattle.clr_hints.proofs.json_faults.last_byte.Goals as goal

pub loop-byte-preserved : goal.loop-byte-preserved
loop-byte-preserved c =
    let text = c.args.text.now in
    let at = c.loop-byte.byte-index in
    elim c.if-not-is_space.branch [
      | then-not-is_space w ↦ w.last-is ∙ sym (is_last text at c.loop-byte-test.true (sym c.is_space.ensures ∙ w.if-not-is_space.true))
      | else-not-is_space w ↦
          w.last-is ∙ (c.loop-byte.invariant ∙ sym (is_passed text at c.loop-byte-test.true (sym c.is_space.ensures ∙ w.if-not-is_space.false)))
    ]
