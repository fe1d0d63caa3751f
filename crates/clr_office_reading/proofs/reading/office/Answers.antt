use Rattle.std.proofs.Common.{refl}
use Rattle.clr_office_reading.specs.Offices.{office_of}
use Rattle.clr_office_reading.proofs.Fitting.{office_fits}
use Rattle.clr_office_reading.proofs.reading.office.Goals as goal

pub returns-clause-fits : goal.returns-clause-fits
unfolding office_of
returns-clause-fits g c =
    office_fits (g.J.JsonValue.stands_for c.args.json.now) _
    (rw (c.in_ok-format.ensures, c.in_ok-schema.ensures, c.in_ok-book.ensures.value, c.in_ok-live.ensures.value, c.in_ok-workspaces.ensures) refl)
