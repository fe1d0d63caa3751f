use Rattle.std.proofs.Common.{[], ◌≤◌, refl, subst}
use Rattle.clr_foot.specs.Scenes.{setting_in}
use Rattle.clr_foot.proofs.TieLaws.{all_rules_ties, one_rule_ties}
use Rattle.clr_foot.proofs.scenes.Scene.ties_of.Goals as goal

pub loop-rule-preserved : goal.loop-rule-preserved
loop-rule-preserved g c =
    one_rule_ties (setting_in g.V.RowView.content c.args.self.now) c.args.kind c.args.position c.args.versions.now c.loop-rule.rule [] _ _
    c.loop-rule.invariant c.in_ok-add_ties.ensures

pub returns : goal.returns
returns g c =
    all_rules_ties (setting_in g.V.RowView.content c.args.self.now) c.args.kind c.args.position c.args.versions.now c.loop-rule.rule []
    c.loop-rule.needs.items (subst (λ n. n ≤ c.loop-rule.rule) c.len-rule-end.ensures.value c.loop-rule-test.false) refl c.loop-rule.invariant
