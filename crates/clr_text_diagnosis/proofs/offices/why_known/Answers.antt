use Rattle.std.proofs.Common.{◌≡◌, ◌∙◌, ◌==◌, List, ap, arith, length, subst, sym}
use Rattle.std.specs.Vec.{vec_len}
use Rattle.clr_rules.specs.declared.needs.Broken.{Broken}
use Rattle.clr_engine.specs.BrokenNow.{AreBrokenNow}
use Rattle.clr_engine.specs.Drafts.{unheld_in}
use Rattle.clr_text_diagnosis.specs.Needs.{old_error_lines}
use Rattle.clr_text_diagnosis.proofs.FoundLemmas.{no_needs, some_needs}
use Rattle.clr_text_diagnosis.proofs.offices.why_known.Goals as goal

pub returns-then-is_empty : goal.returns-then-is_empty
returns-then-is_empty c =
    let o = c.args.draft.now in
    let needs = c.in_ok-needs.needs in
    let named = ap (λ (known : List Broken). unheld_in o known) (sym c.requires.names) in
    let counted : length needs.items ≡ vec_len needs = omega arith in
    let none = no_needs needs.items (ap (λ count. count == 0) counted ∙ sym c.is_empty.ensures ∙ c.if-is_empty.true) in
    (o, record { read = c.requires.read; known = named ∙ c.requires.known; broken = subst (AreBrokenNow o) none c.in_ok-needs.ensures })

pub returns : goal.returns
returns c =
    let o = c.args.draft.now in
    let needs = c.in_ok-needs.needs in
    let named = ap (λ (known : List Broken). unheld_in o known) (sym c.requires.names) in
    let counted : length needs.items ≡ vec_len needs = omega arith in
    record {
      office = o;
      needs = needs.items;
      known = record { read = c.requires.read; known = named ∙ c.requires.known; broken = c.in_ok-needs.ensures };
      some = some_needs needs.items (ap (λ count. count == 0) counted ∙ sym c.is_empty.ensures ∙ c.if-is_empty.false);
      told = c.in_ok-lines.ensures ∙ ap (old_error_lines o) c.as_slice.ensures.value;
    }
