use Rattle.std.proofs.Common.{◌≤◌, subst}
use Rattle.clr_rows.specs.Held.{held_of}
use Rattle.clr_cut_rows.specs.Searches.{setting_in}
use Rattle.clr_cut_rows.proofs.SearchLemmas.{found_under, none_first, none_next, none_under_all}
use Rattle.clr_cut_rows.proofs.cut_rows.CutRows.finds.Goals as goal

pub loop-rule-init : goal.loop-rule-init
loop-rule-init g c = none_first c.args.self.now.aim (setting_in g.V.RowView.content c.args.self.now) (held_of c.args.held)

pub loop-rule-preserved : goal.loop-rule-preserved
loop-rule-preserved g c = none_next c.args.self.now.aim (setting_in g.V.RowView.content c.args.self.now) (held_of c.args.held) c.loop-rule.rule
    c.in_ok-finds_under.field-0 c.if-branch.false c.in_ok-finds_under.ensures c.loop-rule.invariant

pub returns-then-branch : goal.returns-then-branch
returns-then-branch g c = found_under c.args.self.now.aim (setting_in g.V.RowView.content c.args.self.now) (held_of c.args.held) c.loop-rule.rule
    c.in_ok-finds_under.field-0 c.if-branch.true c.in_ok-finds_under.ensures

pub returns : goal.returns
returns g c = none_under_all c.args.self.now.aim (setting_in g.V.RowView.content c.args.self.now) (held_of c.args.held) c.loop-rule.rule
    (subst (λ n. n ≤ c.loop-rule.rule) c.len-rule-end.ensures.value c.loop-rule-test.false) c.loop-rule.invariant
