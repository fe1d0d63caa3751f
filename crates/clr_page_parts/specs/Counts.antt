-- How many rows a design adds, changes and removes.
use Rattle.std.specs.Prelude.{ℕ, List, ◌++◌, codes, decimal}
use Rattle.clr_member_changes.specs.declared.counts.Counts.{Counts}

abbrev pub counts_text : Counts → List ℕ
counts_text counts = decimal counts.added ++ codes " added, " ++ decimal counts.changed ++ codes " changed, " ++ decimal counts.removed ++ codes " removed"
