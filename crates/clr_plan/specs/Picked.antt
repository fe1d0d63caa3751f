-- What is picked for the touched needs of a setting.
use Rattle.std.specs.Prelude.{ℕ}
use Rattle.clr_needs.specs.Settings.{Setting}
use Rattle.clr_clearance.specs.Plans.{ArePicked, IsFirstUnpicked}
use Rattle.clr_merge_sets.specs.Certificates.{entries_in}
use Rattle.clr_plan.specs.declared.picked.Picked.{Picked}
use Rattle.clr_plan.specs.declared.picked.Picked.TheVariants as picked

-- entries of all touched needs, or the least one that has no witnesses
abbrev pub ArePickedFor : Setting ℕ → Picked → Type 0
ArePickedFor c (picked.Entries entries) = ArePicked c (entries_in entries)
ArePickedFor c (picked.Unpicked n) = IsFirstUnpicked c n
