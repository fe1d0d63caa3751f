use Rattle.std.proofs.Common.{◌∷◌, rules}
use Rattle.clr_office.specs.Drafts.{opened_in}
use Rattle.clr_desk_prints.specs.Calls.{PrintsAsked}
use Rattle.clr_desk_prints.proofs.OpeningLemmas.{office_answered}
use Rattle.clr_desk_prints.proofs.openings.answer_over_members.Goals as goal

pub returns : goal.returns
returns g c =
    office_answered _ (PrintsAsked (goal.F-post g c.args.print) c.args.root.now c.args.names.now) (c.args.root.now ∷ c.args.names.now)
    (opened_in c.args.office.now) _ c.answer_over_office.ensures (λ shown r left met. search rules)
