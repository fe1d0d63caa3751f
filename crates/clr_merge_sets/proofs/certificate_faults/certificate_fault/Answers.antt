use Rattle.std.proofs.Common.{◌≡◌, ◌∙◌, ap, sym, subst}
use Rattle.std.specs.Option.{option_map, option_or}
use Rattle.clr_clearance.specs.Verdicts.{names_fault}
use Rattle.clr_clearance.specs.declared.verdicts.Verdict.TheVariants as verdict
use Rattle.clr_merge_sets.specs.Certificates.{merge_set_of, ordered_merge_set_of}
use Rattle.clr_merge_sets.specs.Faults.{is_told_first}
use Rattle.clr_merge_sets.specs.MergeSetNames.{merge_set}
use Rattle.clr_merge_sets.proofs.PrecedenceLemmas.{told_behind, told_first}
use Rattle.clr_merge_sets.proofs.certificate_faults.certificate_fault.Goals as goal

pub returns-then-is_told_first-clause-fault : goal.returns-then-is_told_first-clause-fault
returns-then-is_told_first-clause-fault c =
    let o = c.args.office.now in
    let certificate = c.args.certificate.now in
    let fault = c.name_fault-fault.result in
    let same : fault ≡ names_fault o (merge_set_of certificate) =
    subst (λ root. fault ≡ names_fault o (merge_set root certificate.members)) c.as_str-root.ensures c.name_fault-fault.ensures.fault in
    same ∙ told_first o (ordered_merge_set_of certificate) (ap is_told_first (sym same) ∙ sym c.is_told_first.ensures ∙ c.if-is_told_first.true)

pub first_misplaced-requires : goal.first_misplaced-requires
first_misplaced-requires c =
    let o = c.args.office.now in
    let certificate = c.args.certificate.now in
    let fault = c.name_fault-fault.result in
    let same : fault ≡ names_fault o (merge_set_of certificate) =
    subst (λ root. fault ≡ names_fault o (merge_set root certificate.members)) c.as_str-root.ensures c.name_fault-fault.ensures.fault in
    (told_behind o (ordered_merge_set_of certificate) (ap is_told_first (sym same) ∙ sym c.is_told_first.ensures ∙ c.if-is_told_first.false)).once

pub returns-in-Some-clause-fault : goal.returns-in-Some-clause-fault
returns-in-Some-clause-fault c =
    let o = c.args.office.now in
    let certificate = c.args.certificate.now in
    let fault = c.name_fault-fault.result in
    let same : fault ≡ names_fault o (merge_set_of certificate) =
    subst (λ root. fault ≡ names_fault o (merge_set root certificate.members)) c.as_str-root.ensures c.name_fault-fault.ensures.fault in
    let behind = told_behind o (ordered_merge_set_of certificate) (ap is_told_first (sym same) ∙ sym c.is_told_first.ensures ∙ c.if-is_told_first.false) in
    ap (λ r. option_or (option_map verdict.NotBefore r) (names_fault o (merge_set_of certificate))) (rw c.as_slice.ensures at c.in-Some.ensures) ∙ behind.fault

pub returns-in-None-clause-fault : goal.returns-in-None-clause-fault
returns-in-None-clause-fault c =
    let o = c.args.office.now in
    let certificate = c.args.certificate.now in
    let fault = c.name_fault-fault.result in
    let same : fault ≡ names_fault o (merge_set_of certificate) =
    subst (λ root. fault ≡ names_fault o (merge_set root certificate.members)) c.as_str-root.ensures c.name_fault-fault.ensures.fault in
    let behind = told_behind o (ordered_merge_set_of certificate) (ap is_told_first (sym same) ∙ sym c.is_told_first.ensures ∙ c.if-is_told_first.false) in
    same ∙ ap (λ r. option_or (option_map verdict.NotBefore r) (names_fault o (merge_set_of certificate))) (rw c.as_slice.ensures at c.in-None.ensures)
    ∙ behind.fault
