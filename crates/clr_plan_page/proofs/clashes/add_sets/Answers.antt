use Rattle.std.proofs.Common.{◌≡◌, ◌∙◌, ◌==◌, codes, length, map, sym, true}
use Rattle.std.proofs.lemmas.Result.{on_ok_weaker}
use Rattle.clr_merge_sets.specs.MemberChanges.{set_of}
use Rattle.clr_plan_page.specs.Clashes.{clash_row, set_heads}
use Rattle.clr_page_parts.specs.Shown.{Paragraph, Table, shown}
use Rattle.clr_page_parts.proofs.SectionLemmas.{one_added_then}
use Rattle.clr_plan_page.proofs.clashes.add_sets.Goals as goal

pub returns-then-is_empty : goal.returns-then-is_empty
returns-then-is_empty c =
    let clashes = c.args.clashes.now in
    let none : (length clashes == 0) ≡ true = sym c.is_empty.ensures ∙ c.if-is_empty.true in
    let row = clash_row c.args.setting.office.now (set_of c.args.setting.members.now) in
    on_ok_weaker c.add_paragraph.result
    (λ is. one_added_then (length clashes == 0) (map shown c.args.section.now.blocks.items) (map shown c.add_paragraph.new.self.blocks.items)
    (Paragraph (codes "No set of these designs clashes.")) (Table set_heads (map row clashes)) none is) c.add_paragraph.ensures
