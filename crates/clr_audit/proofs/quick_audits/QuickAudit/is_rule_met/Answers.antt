use Rattle.std.proofs.Common.{◌≡◌, ◌∙◌, ◌||◌, false, sym, ap}
use Rattle.clr_rows.specs.Contents.{row_at}
use Rattle.clr_rows.specs.Held.{held_of}
use Rattle.clr_rules.specs.declared.roles.Roles.{Roles}
use Rattle.clr_rules.specs.Roles.{roles_under}
use Rattle.clr_finders.specs.declared.row_spots.RuleSpots.{RuleSpots}
use Rattle.clr_audit.proofs.MeetingLaws.{both_met, idle, unpaired}
use Rattle.clr_audit.proofs.quick_audits.QuickAudit.is_rule_met.Goals as goal

pub returns-then-not-may_be_paired : goal.returns-then-not-may_be_paired
returns-then-not-may_be_paired g c =
    let rules = c.args.self.now.book.now in
    let view = row_at c.args.self.now.sheet.now in
    let s = held_of c.args.first in
    let apart : ((roles_under rules c.args.rule s).first || (roles_under rules c.args.rule s).second) ≡ false =
    ap (λ (r : Roles). r.first || r.second) (sym c.roles_of-roles.ensures) ∙ sym c.may_be_paired.ensures ∙ c.if-not-may_be_paired.true in
    λ _. both_met rules view s c.args.rule (c.is_alone_met.ensures c.if-not-is_alone_met.false) (unpaired rules view s c.args.rule apart)

pub returns-then-not-spots : goal.returns-then-not-spots
returns-then-not-spots g c =
    let rules = c.args.self.now.book.now in
    let none = ap (λ (x : RuleSpots). x.has_role) (sym c.requires.spots) ∙ c.if-not-spots.true in
    λ _. idle rules (row_at c.args.self.now.sheet.now) (held_of c.args.first) c.args.rule none
