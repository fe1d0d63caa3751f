use Rattle.std.proofs.Common.{◌∙◌, List, ap, sym}
use Rattle.clr_rules.specs.declared.needs.Broken.{Broken}
use Rattle.clr_engine.specs.Drafts.{unheld_in}
use Rattle.clr_text_diagnosis.proofs.offices.why_draft.Goals as goal

pub returns-in-Some : goal.returns-in-Some
returns-in-Some c =
    let named = ap (λ (known : List Broken). unheld_in c.args.draft known) (sym c.requires.names) in
    record {
      office = c.args.draft;
      position = c.in-Some.position;
      need = c.in-Some.need;
      read = c.requires.read;
      unheld = named ∙ sym c.in_ok-position.ensures ∙ c.in-Some.is;
      told = c.in_ok-lines-in-Some.ensures;
    }

pub why_known-requires-clause-known : goal.why_known-requires-clause-known
why_known-requires-clause-known c = sym c.in_ok-position.ensures ∙ c.in-None.is
