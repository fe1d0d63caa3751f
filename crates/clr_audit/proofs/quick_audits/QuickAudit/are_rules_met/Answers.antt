use Rattle.std.proofs.Common.{◌≡◌, ◌∙◌, ◌<◌, ◌≤◌, Some, length, slice_get, arith, sym, ap}
use Rattle.std.specs.FinMap as finite
use Rattle.std.specs.Option.{option_copied}
use Rattle.clr_rows.specs.Contents.{row_at}
use Rattle.clr_rows.specs.Held.{held_of}
use Rattle.clr_finders.specs.Sharing.{row_spots, rule_spots}
use Rattle.clr_finders.proofs.SharingLemmas.{row_spots_under}
use Rattle.clr_audit.proofs.MeetingLaws.{all_rules, kept_spots, one_rule}
use Rattle.clr_audit.proofs.quick_audits.QuickAudit.are_rules_met.Goals as goal

pub is_rule_met-requires-clause-spots : goal.is_rule_met-requires-clause-spots
is_rule_met-requires-clause-spots g c =
    let rules = c.args.self.now.book.now in
    let s = held_of c.args.first in
    let settled = g.F.RowFinder.settled c.args.self.now.finder.now in
    let below : c.loop-rule.rule < length rules = omega (arith, c.loop-rule-test.true, c.len-rule-end.ensures.value, c.loop-rule.auto.rule-end) in
    let told : finite.get settled s.0 ≡ Some c.in-Some.spots.now = sym c.spots_at.ensures ∙ ap option_copied c.in-Some.is in
    let kept : finite.get settled s.0 ≡ Some (row_spots rules s) = kept_spots rules c.args.self.now.sheet.now settled s c.requires.settled c.requires.stands in
    let same : c.in-Some.spots.now ≡ row_spots rules s = cc in
    let read : slice_get c.in-Some.spots.now c.loop-rule.rule ≡ Some c.in-Some-get.spots.now = sym c.get.ensures ∙ ap option_copied c.in-Some-get.is in
    let under : slice_get (row_spots rules s) c.loop-rule.rule ≡ Some (rule_spots rules c.loop-rule.rule s) = row_spots_under rules s c.loop-rule.rule below in
    cc

pub loop-rule-preserved : goal.loop-rule-preserved
loop-rule-preserved g c =
    one_rule c.args.self.now.book.now (row_at c.args.self.now.sheet.now) (held_of c.args.first) c.loop-rule.rule c.loop-rule.invariant
    (c.in_ok-is_rule_met.ensures c.if-not-branch.false)

pub returns : goal.returns
returns g c =
    let rules = c.args.self.now.book.now in
    let count : length rules ≤ c.loop-rule.rule = omega (arith, c.loop-rule-test.false, c.len-rule-end.ensures.value, c.loop-rule.auto.rule-end) in
    λ _. all_rules rules (row_at c.args.self.now.sheet.now) (held_of c.args.first) c.loop-rule.rule count c.loop-rule.invariant
