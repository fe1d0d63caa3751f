use Rattle.std.proofs.Common.{◌≡◌, ◌∙◌, ◌++◌, ◌∷◌, [], ℕ, List, ap, map, option_map, string_bytes, subst}
use Rattle.clr_rows.specs.Contents.{Changes}
use Rattle.clr_steps.specs.Readings.{changes_in}
use Rattle.clr_member_changes.specs.Counts.{counts_of}
use Rattle.clr_page_parts.specs.Counts.{counts_text}
use Rattle.clr_page_parts.specs.Shown.{Shown, Paragraph, Picture, said, shown}
use Rattle.clr_small_maps.specs.SmallMaps.{IsSmallMap}
use Rattle.clr_board_page.specs.Designs.{picture_of}
use Rattle.clr_board_page.proofs.Sections.{behind, headed}
use Rattle.clr_board_page.proofs.Texts.{counts_said}
use Rattle.clr_board_page.proofs.design_sections.design_section.Goals as goal

pub returns : goal.returns
returns c =
    let name = c.args.name.now in
    let set = changes_in c.args.office.now name in
    let pictures = option_map (λ text. text.items) c.in_ok-map.map in
    let counts : string_bytes c.in_ok-counts.counts ≡ counts_text (counts_of set) =
    c.in_ok-counts.ensures ∙ ap counts_text c.count_rows.ensures ∙ ap (λ (set : Changes). counts_text (counts_of set)) c.requires in
    let words : c.as_str.result.now ≡ counts_text (counts_of set) = c.as_str.ensures.value ∙ counts in
    let words_too : c.as_str-2.result.now ≡ counts_text (counts_of set) = c.as_str-2.ensures.value ∙ counts in
    let more = behind (map shown c.add.new.self.blocks.items) (map shown c.add_paragraph.new.self.blocks.items) (map shown c.add_map.new.section.blocks.items)
    (Paragraph (counts_text (counts_of set))) (picture_of pictures)
    (c.in_ok-add_paragraph.ensures ∙ ap (λ (text : List ℕ). map shown c.add.new.self.blocks.items ++ said text) words_too
    ∙ ap (λ (blocks : List Shown). map shown c.add.new.self.blocks.items ++ blocks) (counts_said (counts_of set)))
    c.in_ok-add_map.ensures in (
      pictures,
      subst (λ (text : List ℕ). IsSmallMap name text (set ∷ []) pictures) words c.in_ok-map.ensures,
      c.into_section.ensures
          ∙ headed (map shown c.new-section.result.blocks.items) (map shown c.add.new.self.blocks.items) (map shown c.add_map.new.section.blocks.items)
          (Picture c.in_ok-head.head.items) (Paragraph (counts_text (counts_of set)) ∷ picture_of pictures)
          (ap (map shown) c.new-section.ensures) c.in_ok-add.ensures more
          ∙ ap (λ (head : List ℕ). Picture head ∷ Paragraph (counts_text (counts_of set)) ∷ picture_of pictures) c.in_ok-head.ensures,
    )
