use Rattle.std.proofs.Common.{ap, subst, sym, ◌∙◌}
use Rattle.clr_rows.specs.Schemas.{FitsSchema}
use Rattle.clr_steps.specs.Offices.{Office}
use Rattle.clr_designs.specs.Designs.{with_live}
use Rattle.clr_desk_designs.proofs.MovedLemmas.{same_office}
use Rattle.clr_desk_designs.proofs.moved_offices.office_with_live.Goals as goal

pub draft_with_live-requires-clause-read : goal.draft_with_live-requires-clause-read
draft_with_live-requires-clause-read c = c.in-Ok.ensures.draft

pub draft_with_live-requires-clause-fits : goal.draft_with_live-requires-clause-fits
draft_with_live-requires-clause-fits c =
    let (o, is, fits) = c.requires in
    subst (λ (p : Office). FitsSchema p.schema c.args.content.now) (same_office o c.in-Ok.read.draft (sym is ∙ c.in-Ok.ensures.draft)) fits
