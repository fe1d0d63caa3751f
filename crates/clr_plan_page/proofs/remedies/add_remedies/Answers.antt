use Rattle.std.proofs.Common.{◌≡◌, ◌∙◌, ◌==◌, ◌++◌, [], ◌∷◌, codes, false, length, map, sym}
use Rattle.std.proofs.lemmas.Result.{on_ok_weaker}
use Rattle.clr_plan_page.specs.Causes.{rows_of_trials, trial_heads}
use Rattle.clr_page_parts.specs.Shown.{Heading, Table, said, shown}
use Rattle.clr_page_parts.proofs.SectionLemmas.{added_else, table_behind_words}
use Rattle.clr_plan_page.proofs.remedies.add_remedies.Goals as goal

pub returns : goal.returns
returns c =
    let trials = c.args.trials.now in
    let words = said c.args.among.now in
    let some : (length trials == 0) ≡ false = sym c.is_empty.ensures ∙ c.if-is_empty.false in
    let heading = Heading (codes "What would help") in
    let rows = rows_of_trials trials in
    let old = map shown c.args.section.now.blocks.items in
    let new = map shown c.add_table.new.self.blocks.items in
    on_ok_weaker c.add_table.result
    (λ is. added_else (length trials == 0) old new [] (heading ∷ (words ++ Table trial_heads rows ∷ [])) some
    (table_behind_words old (map shown c.add_heading.new.self.blocks.items) (map shown c.add_paragraph.new.self.blocks.items) new heading words
    c.in_ok-table.table trial_heads rows c.in_ok-add_heading.ensures c.in_ok-add_paragraph.ensures c.in_ok-table.ensures.heads
    c.in_ok-table.ensures.rows is)) c.add_table.ensures
