-- Entries by need, and which of them cover one.
use Rattle.std.specs.Prelude.{◌≡◌, ℕ, List, Option, Contains}
use Rattle.std.specs.List.Sorted.{IsSortedByKey}
use Rattle.clr_cert.specs.declared.certificates.Entry.{Entry}
use Rattle.clr_needs.specs.declared.needs.Need.{Need}
use Rattle.clr_needs.specs.Covers.{Entry as Witnesses}
use Rattle.clr_needs.specs.Orders.{need_cmp}
use Rattle.clr_needs.specs.Settings.{Setting, Lived}
use Rattle.clr_ordered_needs.specs.Covers.{WitnessesCover}
use Rattle.clr_ordered_needs.specs.Turns.{Order}
use Rattle.clr_ordered_clearance.specs.Verdicts.{IsFirstUncoveredInTurn}

abbrev pub RiseByNeed : List Entry → Type 0
RiseByNeed entries = IsSortedByKey (λ (e : Entry). e.need) need_cmp entries

-- the entries of a list that are of a need
abbrev pub IsEntryOf : List Entry → Need → Entry → Type 0
IsEntryOf entries n e = Contains entries e × (e.need ≡ n)

-- the versions of an entry cover the need
abbrev pub HasCover : Order ℕ → Setting ℕ → Need → Lived ℕ → Option (Lived ℕ) → List Entry → Type 0
HasCover before c n a b entries = (e : Entry) × Contains entries e × WitnessesCover before c n a b e.one e.two

abbrev pub IsLeastUncovered : Order ℕ → Setting ℕ → List Witnesses → Need → Type 0
IsLeastUncovered before c entries n = (a : Lived ℕ) × (b : Option (Lived ℕ)) × IsFirstUncoveredInTurn before c entries n a b
