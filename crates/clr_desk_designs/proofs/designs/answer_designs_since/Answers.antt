use Rattle.clr_office_texts.specs.Drafts.{opened_in}
use Rattle.clr_desk_prints.proofs.PrintLemmas.{office_fault}
use Rattle.clr_desk_layers.proofs.OpenedLemmas.{draft_of_opened, in_office}
use Rattle.clr_desk_designs.specs.InTurn.{IsDesignsSincePrint}
use Rattle.clr_desk_designs.proofs.designs.answer_designs_since.Goals as goal

pub answer_since-requires : goal.answer_since-requires
answer_since-requires c = draft_of_opened c.args.office.now c.in-Ok.opened c.in-Ok.ensures.meant

pub returns-in-Ok : goal.returns-in-Ok
returns-in-Ok c =
    in_office (IsDesignsSincePrint c.args.copied.now c.args.options c.args.may_remove c.args.designs.now) (opened_in c.args.office.now) c.in-Ok.opened
    c.answer_since.result c.in-Ok.ensures.meant c.answer_since.ensures

pub returns-in-Err : goal.returns-in-Err
returns-in-Err c =
    office_fault (IsDesignsSincePrint c.args.copied.now c.args.options c.args.may_remove c.args.designs.now) (opened_in c.args.office.now) c.in-Err.answer
    c.notes_of.result c.in-Err.ensures.answer c.notes_of.ensures
