-- How many rows a pass has gone over, and how they stand to a cut.
use Rattle.std.specs.Prelude.{◌≡◌, ℕ, ◌+◌, ◌-◌, ◌^◌, min, Bool, true, false, List, [], ◌∷◌, ◌++◌, count_by, length}
use Rattle.clr_cut_rows.specs.declared.standings.Standing.{Standing}
use Rattle.clr_cut_rows.specs.declared.standings.Standing.TheVariants.{Has, HasOther, Lacks}
use Rattle.clr_cut_passes.specs.declared.counts.PassCounts.{PassCounts}

-- no count is above this
abbrev pub greatest : ℕ
greatest = 2 ^ 64 - 1

abbrev pub up_to_greatest : ℕ → ℕ
up_to_greatest n = min n greatest

abbrev pub is_had : Standing → Bool
is_had Has = true
is_had _ = false

abbrev pub is_other : Standing → Bool
is_other HasOther = true
is_other _ = false

abbrev pub is_lacked : Standing → Bool
is_lacked Lacks = true
is_lacked _ = false

-- the counts of rows, by how each of them stands
abbrev pub counts_of : List Standing → PassCounts
counts_of standings = record {
  read = up_to_greatest (length standings);
  had = up_to_greatest (count_by is_had standings);
  others = up_to_greatest (count_by is_other standings);
  lacked = up_to_greatest (count_by is_lacked standings);
}

-- whatever rows the counts are of, they become those of one row more
abbrev pub CountsOneMore : PassCounts → Standing → PassCounts → Type 0
CountsOneMore old standing new = (standings : List Standing) → old ≡ counts_of standings → new ≡ counts_of (standings ++ standing ∷ [])

abbrev pub together : PassCounts → PassCounts → PassCounts
together a b = record {
  read = up_to_greatest (a.read + b.read);
  had = up_to_greatest (a.had + b.had);
  others = up_to_greatest (a.others + b.others);
  lacked = up_to_greatest (a.lacked + b.lacked);
}

-- the cut has as many of the rows as it has rows at all, and none of them is lacked or another one
pub record IsClean (counts : PassCounts) (rows : ℕ) : Type 0 where
  pub had : counts.had ≡ rows
  pub others : counts.others ≡ 0
  pub lacked : counts.lacked ≡ 0
