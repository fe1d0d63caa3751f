use Rattle.clr_rows.specs.Held.{held_of}
use Rattle.clr_rules.specs.Needs.{rows_in}
use Rattle.clr_audit.proofs.FitLaws.{fit_both}
use Rattle.clr_audit.proofs.quick_audits.QuickAudit.is_ask_met.Goals as goal

pub calls_two-requires-clause-fit : goal.calls_two-requires-clause-fit
calls_two-requires-clause-fit g c =
    fit_both c.args.self.now.book.now (held_of c.args.first) (held_of c.args.second) (rows_in c.args.self.now.sheet.now) c.requires.fit
