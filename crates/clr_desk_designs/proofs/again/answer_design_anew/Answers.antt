use Rattle.std.proofs.Common.{◌∷◌, []}
use Rattle.clr_office_texts.specs.Drafts.{opened_in}
use Rattle.clr_desk_prints.proofs.PrintLemmas.{office_fault}
use Rattle.clr_desk_prints.specs.NameHints.{IsHinted}
use Rattle.clr_desk_layers.proofs.OpenedLemmas.{in_office}
use Rattle.clr_desk_designs.specs.Again.{IsDesignAnewPrint}
use Rattle.clr_desk_designs.proofs.again.answer_design_anew.Goals as goal

pub returns-in-Ok : goal.returns-in-Ok
returns-in-Ok c =
    let name = c.args.name.now in
    in_office (IsHinted (IsDesignAnewPrint c.args.copied.now name c.args.options c.args.may_remove c.args.layers.now) (name ∷ [])) (opened_in c.args.office.now)
    c.in-Ok.opened c.hinted_anew.result c.in-Ok.ensures.meant c.hinted_anew.ensures

pub returns-in-Err : goal.returns-in-Err
returns-in-Err c =
    let name = c.args.name.now in
    office_fault (IsHinted (IsDesignAnewPrint c.args.copied.now name c.args.options c.args.may_remove c.args.layers.now) (name ∷ []))
    (opened_in c.args.office.now) c.in-Err.answer c.notes_of.result c.in-Err.ensures.answer c.notes_of.ensures
