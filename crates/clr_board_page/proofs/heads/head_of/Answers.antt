use Rattle.std.proofs.Common.{◌≡◌, ◌∙◌, ◌++◌, ◌∷◌, [], ap, codes, map}
use Rattle.clr_merge_sets.specs.MemberChanges.{set_of}
use Rattle.clr_merge_clashes.specs.Beside.{beside}
use Rattle.clr_page_parts.specs.Shown.{Shown, Heading, Picture, Verdict, said, shown}
use Rattle.clr_board_page.specs.Heads.{beside_text, board_about, board_tone, board_word, tally_text}
use Rattle.clr_board_page.specs.Said.{said_in}
use Rattle.clr_board_page.specs.States.{designs_table}
use Rattle.clr_board_page.proofs.Sections.{head_whole}
use Rattle.clr_board_page.proofs.heads.head_of.Goals as goal

pub returns : goal.returns
returns c =
    let s = set_of c.args.members.now in
    let states = c.args.states.now in
    let looked = c.args.looked.now in
    let counts : c.as_str.result.now ≡ tally_text states = c.as_str.ensures.value ∙ c.in_ok-counts.ensures in
    let words : c.as_str-2.result.now ≡ beside_text (beside s looked) =
    c.as_str-2.ensures.value ∙ c.in_ok-words.ensures
    ∙ ap beside_text (ap (map (λ name. name.now)) c.as_slice.ensures.value ∙ c.in_ok-others.ensures) in
    let verdict = Verdict (board_tone states) (board_word states) (board_about s.root) in
    let picture : c.in_ok-designs.designs.items ≡ designs_table (said_in c.args.told) c.args.members.now.changes.items =
    c.in_ok-designs.ensures ∙ ap (designs_table (said_in c.args.told)) c.as_slice-2.ensures.value in
    c.into_section.ensures
    ∙ head_whole (map shown c.new-section.result.blocks.items) (map shown c.add.new.self.blocks.items) (map shown c.add_paragraph.new.self.blocks.items)
    (map shown c.add_paragraph-2.new.self.blocks.items) (map shown c.add_heading.new.self.blocks.items) (map shown c.add-2.new.self.blocks.items)
    verdict (Heading (codes "The designs")) (Picture c.in_ok-designs.designs.items) (said c.as_str.result.now) (said c.as_str-2.result.now)
    (ap (map shown) c.new-section.ensures)
    (c.in_ok-add.ensures ∙ ap (λ (b : Shown). map shown c.new-section.result.blocks.items ++ b ∷ []) c.in_ok-verdict_of.ensures)
    c.in_ok-add_paragraph.ensures c.in_ok-add_paragraph-2.ensures c.in_ok-add_heading.ensures c.in_ok-add-2.ensures
    ∙ (λ i. verdict ∷ (said (counts i) ++ (said (words i) ++ Heading (codes "The designs") ∷ Picture (picture i) ∷ [])))
