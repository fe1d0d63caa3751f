-- What is read on a page.
use Rattle.std.specs.Prelude.{ℕ, Bool, true, false, List, map}
use Rattle.clr_html.specs.declared.blocks.Block.{Block}
use Rattle.clr_html.specs.declared.blocks.Block.TheVariants as block
use Rattle.clr_html.specs.declared.tables.TableRow.{TableRow}
use Rattle.clr_html.specs.declared.texts.InlineText.{InlineText}
use Rattle.clr_html.specs.declared.texts.InlineText.TheVariants.{Plain, Strong, Soft, Named}

abbrev pub words_of_text : InlineText → List ℕ
words_of_text (Plain words) = words.items
words_of_text (Strong words) = words.items
words_of_text (Soft words) = words.items
words_of_text (Named colour words) = words.items

-- the words of each cell
abbrev pub words_of_row : TableRow → List (List ℕ)
words_of_row row = map words_of_text row.cells.items

-- each text of a block is escaped; only a picture goes out as it is
abbrev pub is_escaped : Block → Bool
is_escaped (block.Verdict tone word about) = true
is_escaped (block.Heading words) = true
is_escaped (block.Paragraph text) = true
is_escaped (block.Points points) = true
is_escaped (block.Table table) = true
is_escaped (block.Fold fold) = true
is_escaped (block.Lines lines) = true
is_escaped (block.FoldedLines words lines) = true
is_escaped (block.Picture picture) = false
