use Rattle.std.proofs.Common.{◌≡◌, ℕ, suc, ◌+◌, ◌-◌, cond, Some, None, length, ap, sym, subst, ◌∙◌, arith}
use Rattle.clr_deltas.specs.Deltas.{wholes}
use Rattle.clr_workspaces.specs.Workspaces.{workspace_at}
use Rattle.clr_workspace_parts.specs.Parts.{first_below, has_good_marks, marks_fault_at}
use Rattle.clr_workspace_parts.specs.declared.parts.PartFault.TheVariants.{BadMarks}
use Rattle.clr_workspace_parts.proofs.FaultLemmas.{below_none, below_next, below_found, below_all}
use Rattle.clr_workspace_parts.proofs.part_checks.judge_marks.Goals as goal

pub loop-at-init : goal.loop-at-init
loop-at-init c = record { later = omega arith; within = omega arith; clear = below_none (marks_fault_at (wholes c.args.live.now c.args.map.now)) }

pub returns-then-not-has_good_marks-clause-refused : goal.returns-then-not-has_good_marks-clause-refused
returns-then-not-has_good_marks-clause-refused c =
    let ws = wholes c.args.live.now c.args.map.now in
    let here : suc (c.loop-at.at - 1) ≡ c.loop-at.at = omega arith in
    let bad = ap (λ n. has_good_marks ws (workspace_at ws n)) here ∙ sym c.has_good_marks.ensures ∙ c.if-not-has_good_marks.true in
    below_found (marks_fault_at ws) (c.loop-at.at - 1) (length c.args.map.now - 1) BadMarks (omega arith) c.loop-at.invariant.clear
    (ap (λ b. cond b None (Some BadMarks)) bad)

pub loop-at-preserved : goal.loop-at-preserved
loop-at-preserved c =
    let ws = wholes c.args.live.now c.args.map.now in
    let here : suc (c.loop-at.at - 1) ≡ c.loop-at.at = omega arith in
    let next : c.loop-at.at - 1 + 1 ≡ c.loop-at.at + 1 - 1 = omega arith in
    let good = ap (λ n. has_good_marks ws (workspace_at ws n)) here ∙ sym c.has_good_marks.ensures ∙ c.if-not-has_good_marks.false in
    record {
      later = omega arith;
      within = omega arith;
      clear = subst (λ (n : ℕ). first_below (marks_fault_at ws) n ≡ None) next
          (below_next (marks_fault_at ws) (c.loop-at.at - 1) c.loop-at.invariant.clear (ap (λ b. cond b None (Some BadMarks)) good));
    }

pub returns-clause-passed : goal.returns-clause-passed
returns-clause-passed c = below_all (marks_fault_at (wholes c.args.live.now c.args.map.now)) (c.loop-at.at - 1) (length c.args.map.now - 1) (omega arith)
    c.loop-at.invariant.clear
