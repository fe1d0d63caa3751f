use Rattle.std.proofs.Common.{codes, length, map}
use Rattle.std.proofs.lemmas.Result.{on_ok_weaker}
use Rattle.clr_merge_sets.specs.MemberChanges.{set_of}
use Rattle.clr_plan_page.specs.Needs.{more_needs, need_heads, need_rows}
use Rattle.clr_page_parts.specs.Shown.{Paragraph, Table, shown}
use Rattle.clr_page_parts.proofs.SectionLemmas.{more_behind, table_behind}
use Rattle.clr_plan_page.proofs.needs.add_some_needs.Goals as goal

pub returns : goal.returns
returns c =
    let m = c.args.setting.members.now in
    let entries = c.args.entries.now in
    let rows = need_rows c.args.setting.office.now (set_of m).members m.changes.items entries in
    let said = Paragraph (codes "Each need that the designs touch is served, whatever is merged first.") in
    let old = map shown c.args.section.now.blocks.items in
    let two = map shown c.add_table.new.self.blocks.items in
    let both = table_behind old (map shown c.add_paragraph.new.self.blocks.items) two said c.in_ok-table.table need_heads rows
    c.in_ok-add_paragraph.ensures c.in_ok-table.ensures.heads c.in_ok-table.ensures.rows c.in_ok-add_table.ensures in
    on_ok_weaker c.add_rest.result
    (λ is. more_behind old two (map shown c.add_rest.new.section.blocks.items) said (Table need_heads rows) (more_needs (length entries)) both is)
    c.add_rest.ensures
