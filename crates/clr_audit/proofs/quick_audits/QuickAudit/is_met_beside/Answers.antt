use Rattle.std.proofs.Common.{◌∙◌, sym, ap}
use Rattle.std.specs.Option.{option_copied}
use Rattle.clr_rows.specs.Held.{held_of}
use Rattle.clr_audit.proofs.MeetingLaws.{fit_two_standing}
use Rattle.clr_audit.proofs.quick_audits.QuickAudit.is_met_beside.Goals as goal

pub is_pair_met-requires-clause-fit : goal.is_pair_met-requires-clause-fit
is_pair_met-requires-clause-fit g c =
    fit_two_standing c.args.self.now.book.now c.args.self.now.sheet.now (held_of c.args.first) (held_of record { cell = c.args.cell; row = c.in-Some.row })
    c.requires.fits c.requires.stands (sym c.get.ensures ∙ ap option_copied c.in-Some.is)
