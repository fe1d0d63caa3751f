-- Sets of members that can't be merged together, and why.
use Rattle.std.specs.Prelude.{ℕ, List, length}
use Rattle.std.specs.List.{range_with_len}
use Rattle.clr_clearance.specs.declared.verdicts.Verdict.{Verdict}
use Rattle.clr_merge_clashes.specs.declared.clash_sets.MergeClash.{MergeClash as Stored}

-- members by position, ascending, and why these can't be merged together; the cause numbers them from 0 among themselves
pub record MergeClash : Type 0 where
  pub members : List ℕ
  pub cause : Verdict

abbrev pub merge_clash : List ℕ → Verdict → MergeClash
merge_clash members cause = record { members = members; cause = cause }

abbrev pub stored_clash : Stored → MergeClash
stored_clash k = merge_clash k.members.items k.cause

-- the positions of a list
abbrev pub positions_of : {X : Type 0} → List X → List ℕ
positions_of list = range_with_len 0 (length list)
