use Rattle.std.proofs.Common.{◌≡◌, ◌∙◌, ◌==◌, [], ◌∷◌, ◌++◌, List, ap, arith, length, sym}
use Rattle.std.specs.Vec.{vec_len}
use Rattle.clr_html.specs.declared.pages.Section.{Section}
use Rattle.clr_page_parts.specs.OldErrors.{errors_section, errors_shown}
use Rattle.clr_page_parts.proofs.ErrorLemmas.{none_told, some_told}
use Rattle.clr_page_parts.proofs.old_errors.old_errors_of.Goals as goal

pub returns-then-is_empty : goal.returns-then-is_empty
returns-then-is_empty c =
    let o = c.args.setting.office.now in
    let needs = c.in_ok-needs.needs in
    let counted : length needs.items ≡ vec_len needs = omega arith in
    let none = ap (λ count. count == 0) counted ∙ sym c.is_empty.ensures ∙ c.if-is_empty.true in
    none_told o.schema o.book needs.items c.new-sections.result.items none c.new-sections.ensures.items
    ∙ ap (errors_shown o.schema o.book) c.in_ok-needs.ensures

pub returns : goal.returns
returns c =
    let o = c.args.setting.office.now in
    let needs = c.in_ok-needs.needs in
    let counted : length needs.items ≡ vec_len needs = omega arith in
    let section = c.in_ok-section.section in
    let some = ap (λ count. count == 0) counted ∙ sym c.is_empty.ensures ∙ c.if-is_empty.false in
    let added = c.in_ok-push.ensures.items ∙ ap (λ (sections : List Section). sections ++ section ∷ []) c.new-sections.ensures.items in
    let told = c.in_ok-section.ensures ∙ ap (errors_section o.schema o.book) c.as_slice.ensures.value in
    some_told o.schema o.book needs.items c.push.new.self.items section some added told
    ∙ ap (errors_shown o.schema o.book) c.in_ok-needs.ensures
