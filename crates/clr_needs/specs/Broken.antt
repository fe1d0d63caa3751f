-- The rows that the merge of the one member of a scene makes, and the needs that they break.
use Rattle.std.specs.Prelude.{◌≡◌, ℕ, Bool, true, false, ◌&&◌, Option, Some, None, unwrap_or}
use Rattle.std.specs.Option.{option_map}
use Rattle.clr_rules.specs.declared.needs.Broken.{Broken}
use Rattle.clr_rules.specs.Needs.{View, need_named}
use Rattle.clr_needs.specs.declared.needs.Need.{Need}
use Rattle.clr_needs.specs.declared.needs.VersionId.{VersionId}
use Rattle.clr_needs.specs.Needs.{IsPossible, Serves, ask_of}
use Rattle.clr_needs.specs.Settings.{Setting, Lifetime, Always, With, Without, Lived}

-- the root's rows taken over by the changes of the one member
abbrev pub view_after_merge : Setting ℕ → View
view_after_merge c q = unwrap_or (c.after 0 q) (c.root q)

-- a version with this life stands once the one member is merged
abbrev pub is_living : Lifetime ℕ → Bool
is_living Always = true
is_living (With n) = true
is_living (Without n) = false

abbrev pub is_living_at : Option (Lived ℕ) → Bool
is_living_at None = false
is_living_at (Some l) = is_living l.life

-- both subjects stand after the merge
abbrev pub are_living : Lived ℕ → Option (Lived ℕ) → Bool
are_living a None = is_living a.life
are_living a (Some b) = is_living a.life && is_living b.life

-- a version that serves the need stands after the merge
abbrev pub HasLivingServer : Setting ℕ → Need → Lived ℕ → Option (Lived ℕ) → Type 0
HasLivingServer c n a b = (v : VersionId) × (l : Lived ℕ) × Serves c n a b v l × (is_living l.life ≡ true)

-- the subjects of the need stand after the merge, and no version that serves it does
abbrev pub IsUnservedAfterMerge : Setting ℕ → Need → Type 0
IsUnservedAfterMerge c n = (a : Lived ℕ) × (b : Option (Lived ℕ)) × IsPossible c n a b × (are_living a b ≡ true) × ¬ (HasLivingServer c n a b)

-- where the subjects of the need stand after the merge, some version that serves it does
abbrev pub IsServedAfterMerge : Setting ℕ → Need → Type 0
IsServedAfterMerge c n = (a : Lived ℕ) (b : Option (Lived ℕ)) → IsPossible c n a b → are_living a b ≡ true → HasLivingServer c n a b

abbrev pub IsJudged : Setting ℕ → Need → Bool → Type 0
IsJudged c n true = IsUnservedAfterMerge c n
IsJudged c n false = IsServedAfterMerge c n

-- the need by its cells
abbrev pub broken_of : Need → Broken
broken_of n = need_named (ask_of n) n.first.cell (option_map (λ (v : VersionId). v.cell) n.second)
