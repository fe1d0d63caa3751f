use Rattle.std.proofs.Common.{◌≡◌, ◌∙◌, ◌∷◌, ap, subst}
use Rattle.clr_workspaces.specs.Marks.{Name}
use Rattle.clr_check.specs.Cases.{case_of}
use Rattle.clr_desk_merges.specs.Merges.{IsHintedMerge}
use Rattle.clr_office.specs.NameHints.{AreNameHints}
use Rattle.clr_desk_prints.specs.NameHints.{has_unknown, refused_for, with_lines}
use Rattle.clr_desk_prints.specs.Printing.{of_case, printed}
use Rattle.clr_desk_prints.proofs.PrintLemmas.{case_fault}
use Rattle.clr_desk_merges.proofs.merges.answer_merge.Goals as goal

pub returns-in_ok-with_notes-in-Ok : goal.returns-in_ok-with_notes-in-Ok
returns-in_ok-with_notes-in-Ok c =
    let o = c.in-Ok.office in
    let names = c.args.names.now in
    let lines = c.in_ok-lines-in-Ok.lines.items in
    let bare = printed c.in_ok-bare-in-Ok.bare in
    let print = printed c.in_ok-with_notes-in-Ok.field-0 in
    let hints : AreNameHints o (c.in-Ok.certificate.root ∷ names) lines =
    subst (λ (root : Name). AreNameHints o (root ∷ names) lines) c.as_str-root.ensures c.in_ok-lines-in-Ok.ensures in
    let unknown : c.has_unknown-is_unknown.result ≡ has_unknown o (c.in-Ok.certificate.root ∷ names) =
    subst (λ (root : Name). c.has_unknown-is_unknown.result ≡ has_unknown o (root ∷ names)) c.as_str-root.ensures c.has_unknown-is_unknown.ensures in
    let told = c.refused_for-told.ensures ∙ ap (λ is_unknown. refused_for is_unknown bare) unknown in
    of_case o c.in-Ok.certificate c.in-Ok.ensures.case (
      bare,
      c.in_ok-bare-in-Ok.ensures,
      (
        lines,
        hints,
        subst (λ ls. print ≡ with_lines ls (refused_for (has_unknown o (c.in-Ok.certificate.root ∷ names)) bare)) c.as_slice.ensures.value
            (subst (λ given. print ≡ with_lines c.as_slice.result.now given) told c.in_ok-with_notes-in-Ok.ensures),
      ),
    )

pub returns-in-Err : goal.returns-in-Err
returns-in-Err c =
    case_fault (IsHintedMerge c.args.names.now) (case_of c.args.office.now c.args.certificate.now) c.in-Err.fault c.in-Err.ensures.fault
    c.fault_output.result c.notes_of.result
    c.fault_output.ensures c.notes_of.ensures
