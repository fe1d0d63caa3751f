-- How tables are written.
use Rattle.std.specs.Prelude.{ℕ, List, ◌++◌, codes}
use Rattle.std.specs.List.{flat_map}
use Rattle.clr_html.specs.declared.marks.TheConstants.{HEADS, END_OF_HEADS, END_OF_TABLE}
use Rattle.clr_html.specs.declared.tables.Fold.{Fold}
use Rattle.clr_html.specs.declared.tables.TableRow.{TableRow}
use Rattle.clr_html.specs.declared.tables.Table.{Table}
use Rattle.clr_html.specs.declared.texts.InlineText.{InlineText}
use Rattle.clr_html.specs.Texts.{between, text_text}

-- a text between two marks
unfoldable pub framed_text : List ℕ → List ℕ → InlineText → List ℕ
framed_text begin end text = begin ++ text_text text ++ end

-- texts, each between two marks
unfoldable pub framed_texts : List ℕ → List ℕ → List InlineText → List ℕ
framed_texts begin end texts = flat_map (framed_text begin end) texts

abbrev pub row_text : TableRow → List ℕ
row_text row = codes "<tr>" ++ framed_texts (codes "<td>") (codes "</td>") row.cells.items ++ codes "</tr>\n"

unfoldable pub html_rows_text : List TableRow → List ℕ
html_rows_text rows = flat_map row_text rows

abbrev pub heads_text : List InlineText → List ℕ
heads_text heads = HEADS.now ++ framed_texts (codes "<th>") (codes "</th>") heads ++ END_OF_HEADS.now

-- the heads of the columns, and then the rows
unfoldable pub table_text : Table → List ℕ
table_text table = heads_text table.heads.items ++ html_rows_text table.rows.items ++ END_OF_TABLE.now

abbrev pub summary_text : Fold → List ℕ
summary_text fold = codes "<summary>" ++ text_text fold.name ++ between (codes " <small>") fold.words.items (codes "</small></summary>\n")

unfoldable pub fold_text : Fold → List ℕ
fold_text fold = codes "<details>\n" ++ summary_text fold ++ table_text fold.table ++ codes "</details>\n"
