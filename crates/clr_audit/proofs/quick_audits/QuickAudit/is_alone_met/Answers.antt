use Rattle.std.proofs.Common.{◌≡◌, ◌∙◌, true, None, sym, ap, subst}
use Rattle.clr_rows.specs.Contents.{row_at}
use Rattle.clr_rows.specs.Held.{held_of}
use Rattle.clr_rules.specs.Calls.{calls}
use Rattle.clr_rules.specs.Needs.{IsMet}
use Rattle.clr_audit.proofs.MeetingLaws.{asked_alone, fit_standing}
use Rattle.clr_audit.proofs.quick_audits.QuickAudit.is_alone_met.Goals as goal

pub returns-then-not-calls_one : goal.returns-then-not-calls_one
returns-then-not-calls_one g c = λ _ ask is called.
    let rules = c.args.self.now.book.now in
    let plain = asked_alone rules ask (held_of c.args.first) c.args.rule is called in
    let told : c.calls_one.result ≡ true = c.calls_one.ensures ∙ ap (λ a. calls rules a (held_of c.args.first) None) (sym plain) ∙ called in
    absurd (cc)

pub finds_server-requires-clause-fit : goal.finds_server-requires-clause-fit
finds_server-requires-clause-fit g c =
    fit_standing c.args.self.now.book.now c.args.self.now.sheet.now (held_of c.args.first) c.requires.fits c.requires.stands

pub returns : goal.returns
returns g c = λ found ask is called.
    let rules = c.args.self.now.book.now in
    let plain = asked_alone rules ask (held_of c.args.first) c.args.rule is called in
    subst (λ a. IsMet rules (row_at c.args.self.now.sheet.now) a (held_of c.args.first) None) (c.plain.ensures ∙ sym plain) (c.finds_server.ensures found)
