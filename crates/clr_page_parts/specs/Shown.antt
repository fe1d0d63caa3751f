-- What a reader sees of the blocks of a page. Only the colour of a name and how bold a text is are left out.
use Rattle.std.specs.Prelude.{◌≡◌, ◌==◌, ℕ, List, [], ◌∷◌, ◌++◌, length, map, if◌then◌else◌}
use Rattle.clr_html.specs.declared.blocks.Block.{Block}
use Rattle.clr_html.specs.declared.blocks.Block.TheVariants as block
use Rattle.clr_html.specs.declared.blocks.Tone.{Tone}
use Rattle.clr_html.specs.declared.pages.Section.{Section}
use Rattle.clr_html.specs.declared.tables.Table.{Table as Stored}
use Rattle.clr_html.specs.Words.{words_of_row, words_of_text}

-- words, a list of them, or a table by the heads of its columns and the cells of its rows
pub data Shown : Type 0 where
  Verdict : Tone → List ℕ → List ℕ → Shown
  Heading : List ℕ → Shown
  Paragraph : List ℕ → Shown
  Points : List (List ℕ) → Shown
  Table : List (List ℕ) → List (List (List ℕ)) → Shown
  Fold : List ℕ → List ℕ → List (List ℕ) → List (List (List ℕ)) → Shown
  Lines : List ℕ → Shown
  FoldedLines : List ℕ → List ℕ → Shown
  Picture : List ℕ → Shown

abbrev pub heads_of : Stored → List (List ℕ)
heads_of table = map words_of_text table.heads.items

abbrev pub rows_of : Stored → List (List (List ℕ))
rows_of table = map words_of_row table.rows.items

-- what is seen of a block
abbrev pub shown : Block → Shown
shown (block.Verdict tone word about) = Verdict tone word.items about.items
shown (block.Heading words) = Heading words.items
shown (block.Paragraph text) = Paragraph (words_of_text text)
shown (block.Points points) = Points (map words_of_text points.items)
shown (block.Table table) = Table (heads_of table) (rows_of table)
shown (block.Fold fold) = Fold (words_of_text fold.name) fold.words.items (heads_of fold.table) (rows_of fold.table)
shown (block.Lines lines) = Lines lines.items
shown (block.FoldedLines words lines) = FoldedLines words.items lines.items
shown (block.Picture picture) = Picture picture.items

-- what is seen of a section
abbrev pub section_shown : Section → List Shown
section_shown section = map shown section.blocks.items

-- words as a paragraph; no words are none
abbrev pub said : List ℕ → List Shown
said words = if length words == 0 then [] else Paragraph words ∷ []

-- what is shown behind that so far has this form
abbrev pub Adds : (List Shown → Type 0) → List Shown → List Shown → Type 0
Adds P old new = (more : List Shown) × P more × (new ≡ old ++ more)
