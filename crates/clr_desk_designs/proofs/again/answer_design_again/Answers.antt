use Rattle.std.proofs.Common.{◌∷◌, [], rules}
use Rattle.clr_office_texts.specs.Drafts.{opened_in}
use Rattle.clr_desk_prints.proofs.OpeningLemmas.{office_answered}
use Rattle.clr_desk_designs.specs.Again.{IsAgainPrint}
use Rattle.clr_desk_designs.proofs.again.answer_design_again.Goals as goal

pub returns : goal.returns
returns c =
    let name = c.args.name.now in
    office_answered _ (IsAgainPrint c.args.is_script name c.args.options c.args.may_remove c.args.layers.now) (name ∷ []) (opened_in c.args.office.now)
    c.answer_over_office.result c.answer_over_office.ensures (λ shown r left met. search rules)
