use Rattle.std.proofs.Common.{◌∙◌, sym, ap}
use Rattle.std.specs.Option.{option_copied, option_map}
use Rattle.clr_rows.specs.Held.{held_of}
use Rattle.clr_rules.specs.Needs.{rows_in}
use Rattle.clr_rules.proofs.BrokenLemmas.{held_listed}
use Rattle.clr_audit.proofs.FitLaws.{fit_served}
use Rattle.clr_audit.proofs.quick_audits.QuickAudit.serves_at.Goals as goal

pub serves-requires-clause-fit : goal.serves-requires-clause-fit
serves-requires-clause-fit g c =
    let content = c.args.self.now.sheet.now in
    let server = held_of record { cell = c.args.cell; row = c.in-Some.row } in
    fit_served c.args.self.now.book.now (held_of c.args.first) server (option_map held_of c.args.second) (rows_in content) c.requires.fit
    (held_listed content server (sym c.get.ensures ∙ ap option_copied c.in-Some.is))
