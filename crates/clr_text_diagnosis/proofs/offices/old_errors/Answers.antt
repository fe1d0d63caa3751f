use Rattle.std.proofs.Common.{◌∙◌, subst, sym}
use Rattle.clr_engine.specs.BrokenNow.{AreBrokenNow}
use Rattle.clr_text_diagnosis.proofs.FoundLemmas.{none_known}
use Rattle.clr_text_diagnosis.proofs.offices.old_errors.Goals as goal

pub returns-then-is_empty : goal.returns-then-is_empty
returns-then-is_empty c =
    subst (AreBrokenNow c.args.draft.now) (sym c.new.ensures.items)
    (none_known c.args.draft.now c.args.known.now (sym c.is_empty.ensures ∙ c.if-is_empty.true) c.requires)
