use Rattle.std.proofs.Common.{◌≡◌, ◌∙◌, ◌+◌, ◌-◌, length, length-drop, sym, ap, arith, rules}
use Rattle.clr_hints.specs.JsonFaults.{behind_line_ends}
use Rattle.clr_hints.proofs.LineLemmas.{all_passed, none_behind, one_behind}
use Rattle.clr_hints.proofs.json_faults.behind_line_ends.Goals as goal

pub returns-then-is_empty-clause-value : goal.returns-then-is_empty-clause-value
returns-then-is_empty-clause-value c =
    let rest = c.loop-passed.rest.now in
    let none : length rest ≡ 0 = search rules in
    none_behind (c.args.count - c.loop-passed._passed) rest none ∙ c.loop-passed.invariant.0

pub loop-passed-preserved : goal.loop-passed-preserved
loop-passed-preserved c =
    let rest = c.loop-passed.rest.now in
    let left = c.args.count - (c.loop-passed._passed + 1) in
    let behind = c.behind_line_end-rest.ensures in (
      ap (behind_line_ends left) behind
          ∙ (sym (one_behind c.args.count c.loop-passed._passed rest c.loop-passed-test.true) ∙ c.loop-passed.invariant.0),
      omega (arith, simp length-drop at (ap length behind), c.loop-passed.invariant.1),
    )

pub returns-clause-value : goal.returns-clause-value
returns-clause-value c =
    all_passed (c.args.count - c.loop-passed._passed) c.loop-passed.rest.now (omega (arith, c.loop-passed-test.false)) ∙ c.loop-passed.invariant.0
