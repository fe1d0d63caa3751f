-- Why members can't be merged, as a page tells it.
use Rattle.std.specs.Prelude.{◌++◌, List, ℕ, [], ◌∷◌, codes, map}
use Rattle.clr_plan_sentences.specs.declared.told_rows.CauseWords.{CauseWords}
use Rattle.clr_plan_sentences.specs.declared.told_rows.RowWords.{RowWords}
use Rattle.clr_page_parts.specs.Shown.{Shown, Table, said}

-- a row that a cause names: its table and key, where it stands, and its values and its place
abbrev pub cause_row : RowWords → List (List ℕ)
cause_row row = row.label ∷ row.standing ∷ row.words ∷ []

abbrev pub cause_heads : List (List ℕ)
cause_heads = codes "Row" ∷ codes "Stands" ∷ codes "Values and place, in metres" ∷ []

-- why, the rows that the cause names, in their order, and where they meet
abbrev pub cause_shown : CauseWords → List Shown
cause_shown cause = said cause.reason ++ Table cause_heads (map cause_row cause.rows) ∷ [] ++ said cause.place
