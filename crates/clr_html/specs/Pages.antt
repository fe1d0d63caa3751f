-- How pages are written.
use Rattle.std.specs.Prelude.{ℕ, List, ◌++◌, codes}
use Rattle.std.specs.List.{flat_map}
use Rattle.clr_html.specs.declared.blocks.Block.{Block}
use Rattle.clr_html.specs.declared.marks.TheConstants.{SECTION, END_OF_SECTION}
use Rattle.clr_html.specs.declared.pages.HtmlPage.{HtmlPage}
use Rattle.clr_html.specs.declared.pages.Section.{Section}
use Rattle.clr_html.specs.declared.styles.TheConstants.{OPENING, STYLES, CLOSING}
use Rattle.clr_html.specs.Blocks.{block_text}
use Rattle.clr_html.specs.Texts.{between}

unfoldable pub blocks_text : List Block → List ℕ
blocks_text blocks = flat_map block_text blocks

abbrev pub section_text : Section → List ℕ
section_text section = SECTION.now ++ blocks_text section.blocks.items ++ END_OF_SECTION.now

unfoldable pub sections_text : List Section → List ℕ
sections_text sections = flat_map section_text sections

-- the title, and then the sections
unfoldable pub html_page_text : HtmlPage → List ℕ
html_page_text page = between OPENING.now page.title.items STYLES.now ++ sections_text page.sections.items ++ CLOSING.now
