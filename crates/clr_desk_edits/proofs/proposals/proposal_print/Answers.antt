use Rattle.std.proofs.Common.{◌≡◌, ◌∙◌, List, [], None, Some, false, ap, map, sym}
use Rattle.std.proofs.lemmas.Result.{IfOk-weaker}
use Rattle.clr_deltas.specs.NamedDeltas.{stored_delta}
use Rattle.clr_deltas.specs.declared.stored_parts.StoredPart.{StoredPart}
use Rattle.clr_steps.specs.Offices.{Office}
use Rattle.clr_office_reading.specs.Offices.{office_read}
use Rattle.clr_cut_proposals.specs.Proposals.{proposal_text}
use Rattle.clr_desk_prints.specs.Printing.{printed, printout_of}
use Rattle.clr_desk_edits.specs.Proposals.{IsProposalPrint, first_unsayable_of, first_unsayable_rule, of_proposal, of_row, of_rule}
use Rattle.clr_desk_edits.proofs.proposals.proposal_print.Goals as goal

pub returns-in-Some : goal.returns-in-Some
returns-in-Some c =
    let office = office_read c.in-Ok.parts in
    let found : first_unsayable_rule 0 office.book ≡ Some c.in-Some.number =
    ap (first_unsayable_rule 0) (sym c.rules.ensures.value) ∙ sym c.first_unsayable_rule.ensures ∙ c.in-Some.is in
    IfOk-weaker c.lost_byte_of_rule.result _ (λ p. (o : Office) → IsProposalPrint c.args.target.now c.args.text.now o (printed p))
    (λ p is. λ o. of_rule office c.in-Some.number c.in-Ok.ensures.value found is) c.lost_byte_of_rule.ensures

pub returns-in-Some-first_unsayable_of : goal.returns-in-Some-first_unsayable_of
returns-in-Some-first_unsayable_of c =
    let office = office_read c.in-Ok.parts in
    let cell = c.in-Some-first_unsayable_of.cell in
    let no_rule : first_unsayable_rule 0 office.book ≡ None =
    ap (first_unsayable_rule 0) (sym c.rules.ensures.value) ∙ sym c.first_unsayable_rule.ensures ∙ c.in_default-first_unsayable_rule.is in
    let found : first_unsayable_of office.deltas ≡ Some cell =
    ap (λ (designs : List StoredPart). first_unsayable_of (map stored_delta designs)) (sym c.as_slice-designs.ensures.value)
    ∙ sym c.first_unsayable_of.ensures ∙ c.in-Some-first_unsayable_of.is in
    IfOk-weaker c.lost_byte.result _ (λ p. (o : Office) → IsProposalPrint c.args.target.now c.args.text.now o (printed p))
    (λ p is. λ o. of_row office cell c.in-Ok.ensures.value no_rule found is) c.lost_byte.ensures

pub returns : goal.returns
returns c = λ o.
    let office = office_read c.in-Ok.parts in
    let designs = c.as_slice-designs.ensures.value in
    let no_rule : first_unsayable_rule 0 office.book ≡ None =
    ap (first_unsayable_rule 0) (sym c.rules.ensures.value) ∙ sym c.first_unsayable_rule.ensures ∙ c.in_default-first_unsayable_rule.is in
    let no_row : first_unsayable_of office.deltas ≡ None =
    ap (λ (ds : List StoredPart). first_unsayable_of (map stored_delta ds)) (sym designs)
    ∙ sym c.first_unsayable_of.ensures ∙ c.in_default-first_unsayable_of.is in
    let text = c.in_ok-text.ensures.text
    ∙ (λ i. proposal_text c.args.target.now office.schema (c.rules-2.ensures.value i) (map stored_delta (designs i))) in
    of_proposal office c.in-Ok.ensures.value no_rule no_row (c.of_text.ensures ∙ ap (λ bytes. printout_of bytes [] false false) text)
