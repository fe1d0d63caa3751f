-- What covered settings promise, by definitions alone.
use Rattle.std.specs.Prelude.{◌≡◌, ◌↔◌, ℕ, List, [], ◌∷◌, Option, slice_get}
use Rattle.clr_rows.specs.Contents.{Changes, Content, row_at, taken_over}
use Rattle.clr_rules.specs.declared.needs.Broken.{Broken}
use Rattle.clr_rules.specs.declared.rules.Rule.{Rule}
use Rattle.clr_rules.specs.Needs.{BreaksNoMore, Holds, IsFirstNewlyBroken, newly_broken_needs}
use Rattle.clr_needs.specs.declared.needs.Need.{Need}
use Rattle.clr_needs.specs.declared.needs.VersionId.{VersionId}
use Rattle.clr_needs.specs.Blocking.{IsBlockerOf}
use Rattle.clr_needs.specs.Covers.{AreBlockers, AreCovered, Entry, IsUncovered, IsUncoveredNeed}
use Rattle.clr_needs.specs.Broken.{view_after_merge}
use Rattle.clr_needs.specs.Independence.{AreDependent}
use Rattle.clr_needs.specs.Members.{setting}
use Rattle.clr_needs.specs.Needs.{IsPossibleNeed, IsServing, IsTouched, IsTouchedBy}
use Rattle.clr_needs.specs.Picks.{Blocks, Picks, PicksBy}
use Rattle.clr_needs.specs.Positions.{BlocksInOrder, ComesBefore, StandAt, StandsAt}
use Rattle.clr_needs.specs.Renamings.{IsSameVersionIfAny}
use Rattle.clr_needs.specs.Settings.{Setting, Lived, AreDisjoint, AreAmong, DoChange, view_with, version}

-- where each touched need is covered and every rule holds in the root, every rule holds in the root with the changes of any of the members over it
abbrev pub CoveredHolds : {A : Type 0} → Setting A → Type 0
CoveredHolds {A} c = (es : List Entry)
    → AreDisjoint c
    → AreCovered c es
    → Holds c.rules c.root
    → (ts : List A)
    → AreAmong c ts c.members
    → Holds c.rules (view_with c ts)

-- where each touched need is covered, the root with the changes of more members over it breaks no need but those that it breaks with fewer, and so
-- none but those that it breaks without any
abbrev pub CoveredBreaksNoMore : {A : Type 0} → Setting A → Type 0
CoveredBreaksNoMore {A} c = (es : List Entry)
    → AreDisjoint c
    → AreCovered c es
    → (fewer more : List A)
    → AreAmong c fewer more
    → AreAmong c more c.members
    → BreaksNoMore c.rules (view_with c fewer) (view_with c more)

-- a touched need that nothing covers is newly broken where its blockers' changes are over the root
abbrev pub UncoveredBreaks : {A : Type 0} → Setting A → Type 0
UncoveredBreaks {A} c = (ts : List A) (n : Need) (a : Lived A) (b : Option (Lived A))
    → AreDisjoint c
    → DoChange c
    → IsUncovered c n a b
    → IsTouchedBy c n a b
    → AreBlockers c n a b ts
    → ¬ (BreaksNoMore c.rules c.root (view_with c ts))

-- the law of covered needs for members by position, over a root and change sets
abbrev pub CoveredByPosition : Type 0
CoveredByPosition = (c : Setting ℕ) → CoveredHolds c

abbrev pub CoveredByName : Type 0
CoveredByName = (c : Setting (List ℕ)) → CoveredHolds c

-- the law of needs that were broken before, of members by position, and by name
abbrev pub NoMoreByPosition : Type 0
NoMoreByPosition = (c : Setting ℕ) → CoveredBreaksNoMore c

abbrev pub NoMoreByName : Type 0
NoMoreByName = (c : Setting (List ℕ)) → CoveredBreaksNoMore c

abbrev pub UncoveredByPosition : Type 0
UncoveredByPosition = (c : Setting ℕ) → UncoveredBreaks c

abbrev pub UncoveredByName : Type 0
UncoveredByName = (c : Setting (List ℕ)) → UncoveredBreaks c

-- the members of one setting say the same as their first positions in another: there are the same versions and needs; the same entries cover, the
-- same members break and are involved, and the same witnesses are picked
pub record SayTheSame {A : Type 0} (c : Setting A) (d : Setting ℕ) : Type 0 where
  pub versions : (v : VersionId) → IsSameVersionIfAny (StandsAt c) (version c v) (version d v)
  pub possible : (n : Need) → IsPossibleNeed c n ↔ IsPossibleNeed d n
  pub servers : (n : Need) (v : VersionId) → IsServing c n v ↔ IsServing d n v
  pub touched : (n : Need) → IsTouched c n ↔ IsTouched d n
  pub covered : (es : List Entry) → AreCovered c es ↔ AreCovered d es
  pub uncovered : (n : Need) → IsUncoveredNeed c n ↔ IsUncoveredNeed d n
  pub picks : (n : Need) (pick : Option (VersionId × Option VersionId)) → PicksBy (ComesBefore c) c n pick ↔ Picks d n pick
  pub blockers : (n : Need) (m : A) (k : ℕ) → StandsAt c m k → IsBlockerOf c n m ↔ IsBlockerOf d n k
  pub blocks : (n : Need) (ms : List A) (ks : List ℕ) → StandAt c ms ks → BlocksInOrder c n ms ↔ Blocks d n ks
  pub dependent : (x y : A) (j k : ℕ) → StandsAt c x j → StandsAt c y k → AreDependent c x y ↔ AreDependent d j k
  pub apart : AreDisjoint d → AreDisjoint c

-- what is told of the merge of one change set is told of the content with the changes over it
abbrev pub FirstBrokenAfter : Type 0
FirstBrokenAfter = (rules : List Rule) (content : Content) (changes : Changes) (first : Option Broken)
    → IsFirstNewlyBroken rules (row_at content) (view_after_merge (setting rules content (changes ∷ []))) first
    → IsFirstNewlyBroken rules (row_at content) (row_at (taken_over content changes)) first

-- the least need that the merge of one change set breaks anew is the first of those that are listed
abbrev pub FirstBrokenIsListed : Type 0
FirstBrokenIsListed = (rules : List Rule) (content : Content) (changes : Changes) (first : Option Broken)
    → IsFirstNewlyBroken rules (row_at content) (view_after_merge (setting rules content (changes ∷ []))) first
    → first ≡ slice_get (newly_broken_needs rules content (taken_over content changes)) 0
