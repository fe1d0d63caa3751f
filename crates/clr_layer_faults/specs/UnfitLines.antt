-- The line that says why there is no layer.
use Rattle.std.specs.Prelude.{ℕ, List, ◌++◌, codes}
use Rattle.clr_workspaces.specs.Marks.{Name}

-- no table has the name, as a number and a word
abbrev pub no_table_word : List ℕ
no_table_word = codes "8 NoTable"

-- the line of such a word, and of the name that it speaks of
abbrev pub unfit_line : List ℕ → Name → List ℕ
unfit_line why name = codes "unfit " ++ why ++ codes " " ++ name ++ codes "\n"
