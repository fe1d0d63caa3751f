-- The setting of a root's rows and what members change there.
use Rattle.std.specs.Prelude.{ℕ, map}
use Rattle.clr_rows.specs.Contents.{Content}
use Rattle.clr_needs.specs.Members.{setting}
use Rattle.clr_needs.specs.Settings.{Setting}
use Rattle.clr_row_versions.specs.declared.root_versions.RootVersions.{RootVersions}

-- the root by the content that such roots are seen as, with the changes of each member over it
abbrev pub setting_in : {V : Type 0} → (V → Content) → RootVersions V → Setting ℕ
setting_in content versions = setting versions.book.now (content versions.root.now) (map (λ s. s.now) versions.members.now.sets.items)
