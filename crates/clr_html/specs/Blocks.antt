-- How blocks are written.
use Rattle.std.specs.Prelude.{ℕ, List, ◌++◌, codes}
use Rattle.clr_html.specs.declared.blocks.Block.{Block}
use Rattle.clr_html.specs.declared.blocks.Block.TheVariants as block
use Rattle.clr_html.specs.declared.blocks.Tone.{Tone}
use Rattle.clr_html.specs.declared.blocks.Tone.TheVariants.{Good, Bad, Neither}
use Rattle.clr_html.specs.declared.texts.InlineText.{InlineText}
use Rattle.clr_html.specs.Tables.{fold_text, framed_text, framed_texts, table_text}
use Rattle.clr_html.specs.Texts.{between}

abbrev pub tone_mark : Tone → List ℕ
tone_mark Good = codes "<h1><b class=\"good\">"
tone_mark Bad = codes "<h1><b class=\"bad\">"
tone_mark Neither = codes "<h1><b>"

abbrev pub html_verdict_text : Tone → List ℕ → List ℕ → List ℕ
html_verdict_text tone word about = between (tone_mark tone) word (codes "</b>") ++ between (codes " <small>") about (codes "</small></h1>\n")

abbrev pub points_text : List InlineText → List ℕ
points_text points = codes "<ul>\n" ++ framed_texts (codes "<li>") (codes "</li>\n") points ++ codes "</ul>\n"

abbrev pub folded_lines_text : List ℕ → List ℕ → List ℕ
folded_lines_text words lines =
    between (codes "<details>\n<summary>") words (codes "</summary>\n") ++ between (codes "<pre>\n") lines (codes "</pre>\n</details>\n")

-- a picture goes out as it is
unfoldable pub block_text : Block → List ℕ
block_text (block.Verdict tone word about) = html_verdict_text tone word.items about.items
block_text (block.Heading words) = between (codes "<h2>") words.items (codes "</h2>\n")
block_text (block.Paragraph text) = framed_text (codes "<p>") (codes "</p>\n") text
block_text (block.Points points) = points_text points.items
block_text (block.Table table) = table_text table
block_text (block.Fold fold) = fold_text fold
block_text (block.Lines lines) = between (codes "<pre>\n") lines.items (codes "</pre>\n")
block_text (block.FoldedLines words lines) = folded_lines_text words.items lines.items
block_text (block.Picture picture) = picture.items
