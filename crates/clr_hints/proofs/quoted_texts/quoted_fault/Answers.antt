use Rattle.std.proofs.Common.{◌≡◌, ◌∙◌, ◌+◌, suc, drop, get_or, sym, ap, arith}
use Rattle.clr_hints.specs.declared.quoted_texts.QuotedStep.TheVariants as step
use Rattle.clr_hints.specs.QuotedTexts.{quoted_fault_from, quoted_step}
use Rattle.clr_hints.proofs.QuotedLemmas.{ended, found, passed, whole_rest}
use Rattle.clr_hints.proofs.quoted_texts.quoted_fault.Goals.{then-skipped-gt0, else-skipped-gt0+in-Passes}
use Rattle.clr_hints.proofs.quoted_texts.quoted_fault.Goals as goal

pub returns-in-Ends-clause-value : goal.returns-in-Ends-clause-value
returns-in-Ends-clause-value c =
    let text = c.args.text.now in
    let at = c.loop-at.at in
    let is : step.Ends ≡ quoted_step (get_or text at 0) (drop (at + 1) text) =
    sym c.in-Ends.is ∙ (c.quoted_step.ensures ∙ ap (quoted_step (get_or text at 0)) (whole_rest text (at + 1))) in
    sym (found text at c.loop-at.skipped step.Ends (omega arith) c.if-skipped-gt0.false is) ∙ c.loop-at.invariant.0

pub returns-in-Stops-clause-value : goal.returns-in-Stops-clause-value
returns-in-Stops-clause-value c =
    let text = c.args.text.now in
    let at = c.loop-at.at in
    let is : step.Stops c.in-Stops.fault ≡ quoted_step (get_or text at 0) (drop (at + 1) text) =
    sym c.in-Stops.is ∙ (c.quoted_step.ensures ∙ ap (quoted_step (get_or text at 0)) (whole_rest text (at + 1))) in
    sym (found text at c.loop-at.skipped (step.Stops c.in-Stops.fault) (omega arith) c.if-skipped-gt0.false is) ∙ c.loop-at.invariant.0

pub loop-at-preserved : goal.loop-at-preserved
loop-at-preserved c =
    let text = c.args.text.now in
    let at = c.loop-at.at in (
      elim c.if-skipped-gt0.branch [
        | then-skipped-gt0 w ↦
            let one : c.loop-at.skipped ≡ suc c.if-skipped-gt0.skipped = omega arith in
            let next : quoted_fault_from at c.loop-at.skipped (drop at text) ≡ quoted_fault_from (at + 1) c.if-skipped-gt0.skipped (drop (at + 1) text) =
            rw one (passed text at (omega arith) c.if-skipped-gt0.skipped) in
            sym next ∙ c.loop-at.invariant.0
        | else-skipped-gt0+in-Passes w ↦
            let is : step.Passes c.if-skipped-gt0.skipped ≡ quoted_step (get_or text at 0) (drop (at + 1) text) =
            ap step.Passes w.skipped-is ∙ (sym w.in-Passes.is ∙ (w.quoted_step.ensures ∙ ap (quoted_step (get_or text at 0)) (whole_rest text (at + 1)))) in
            sym (found text at c.loop-at.skipped (step.Passes c.if-skipped-gt0.skipped) (omega arith) w.if-skipped-gt0.false is) ∙ c.loop-at.invariant.0
      ],
      omega arith,
    )

pub returns-clause-value : goal.returns-clause-value
returns-clause-value c = sym (ended c.args.text.now c.loop-at.at c.loop-at.skipped (omega arith) c.loop-at.invariant.1) ∙ c.loop-at.invariant.0
