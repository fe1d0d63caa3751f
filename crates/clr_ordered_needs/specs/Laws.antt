-- What needs that are covered under an order promise, by definitions alone.
use Rattle.std.specs.Prelude.{◌↔◌, ℕ, ◌≤◌, List, Option, ◌⊎◌, take}
use Rattle.clr_rules.specs.Needs.{BreaksNoMore, Holds}
use Rattle.clr_needs.specs.declared.needs.Need.{Need}
use Rattle.clr_needs.specs.Covers.{AreBlockers, Entry}
use Rattle.clr_needs.specs.Covers as unordered
use Rattle.clr_needs.specs.Needs.{IsPossible, IsTouchedBy}
use Rattle.clr_needs.specs.Positions.{by_position}
use Rattle.clr_needs.specs.Settings.{Setting, Lived, AreDisjoint, AreAmong, DoChange, view_with}
use Rattle.clr_ordered_needs.specs.Covers.{AreCovered, EachHasCover, HasCover, IsUncovered, IsUncoveredNeed}
use Rattle.clr_ordered_needs.specs.Helpers.{AreUpToBlockers, HelpComesFirst, IsServedAlways}
use Rattle.clr_ordered_needs.specs.Later.{Fate, IsLater, IsLaterInTurn}
use Rattle.clr_ordered_needs.specs.Positions.{order_at}
use Rattle.clr_ordered_needs.specs.States.{IsBrokenWith, IsOpen, IsSparedWith}
use Rattle.clr_ordered_needs.specs.Turns.{Order, AreInTurn, IsTransitive, ListsAll, is_earlier, no_order}

-- what a cover is for --------------------------------------------------------------------------

-- where each touched need is covered under an order, the root with the changes over it of members that have come in turn breaks no need but those that
-- it breaks with fewer of them, and so none but those that it breaks without any
abbrev pub CoveredBreaksNoMore : {A : Type 0} → Order A → Setting A → Type 0
CoveredBreaksNoMore {A} before c = (es : List Entry)
    → AreDisjoint c
    → AreCovered before c es
    → (fewer more : List A)
    → AreAmong c fewer more
    → AreAmong c more c.members
    → AreInTurn before c more
    → BreaksNoMore c.rules (view_with c fewer) (view_with c more)

-- where moreover every rule holds in the root, every rule holds with the changes over it of members that have come in turn
abbrev pub CoveredHolds : {A : Type 0} → Order A → Setting A → Type 0
CoveredHolds {A} before c = (es : List Entry)
    → AreDisjoint c
    → AreCovered before c es
    → Holds c.rules c.root
    → (ts : List A)
    → AreAmong c ts c.members
    → AreInTurn before c ts
    → Holds c.rules (view_with c ts)

-- under a transitive order a touched need that nothing covers is newly broken where the changes of its blockers, and of those before them, are over the
-- root; and these have come in turn
abbrev pub UncoveredBreaks : {A : Type 0} → Order A → Setting A → Type 0
UncoveredBreaks {A} before c = (ts : List A) (n : Need) (a : Lived A) (b : Option (Lived A))
    → AreDisjoint c
    → DoChange c
    → IsTransitive before
    → IsUncovered before c n a b
    → AreUpToBlockers before c n a b ts
    → AreInTurn before c ts × ¬ (BreaksNoMore c.rules c.root (view_with c ts))

-- where the blockers of a need are listed, so can be those up to them
abbrev pub UpToBlockersAreListed : {A : Type 0} → Order A → Setting A → Type 0
UpToBlockersAreListed {A} before c = (n : Need) (a : Lived A) (b : Option (Lived A)) (blockers : List A)
    → IsPossible c n a b → AreBlockers c n a b blockers → (ts : List A) × AreUpToBlockers before c n a b ts

-- blockers and helpers ---------------------------------------------------------------------------

-- a possible need is covered exactly where something serves it always, or help comes first
abbrev pub CoverIsHelp : {A : Type 0} → Order A → Setting A → Type 0
CoverIsHelp {A} before c = (n : Need) (a : Lived A) (b : Option (Lived A)) → IsPossible c n a b
    → HasCover before c n a b ↔ (IsServedAlways c n a b ⊎ HelpComesFirst before c n a b)

-- where some members are merged, an open need is newly broken if all its blockers are among them and no helper is; and nothing more is broken than with
-- fewer if each touched need is served always, or spared
pub record StatesAreTold {A : Type 0} (c : Setting A) : Type 0 where
  pub broken : (ts : List A) (n : Need) (a : Lived A) (b : Option (Lived A)) → AreDisjoint c → DoChange c → AreAmong c ts c.members → IsOpen c n a b
      → IsBrokenWith c n a b ts → ¬ (BreaksNoMore c.rules c.root (view_with c ts))
  pub spared : (fewer ts : List A) → AreDisjoint c → AreAmong c fewer ts → AreAmong c ts c.members
      → ((n : Need) (a : Lived A) (b : Option (Lived A)) → IsPossible c n a b → IsTouchedBy c n a b → IsServedAlways c n a b ⊎ IsSparedWith c n a b ts)
      → BreaksNoMore c.rules (view_with c fewer) (view_with c ts)

-- the merges of all members in the order of a list: where each touched need is covered in that order, later ones break no need but those that are broken
-- after earlier ones; and a touched need that nothing covers in that order is newly broken after some of them
pub record MergesInListAreTold {A : Type 0} (c : Setting A) : Type 0 where
  pub covered : (list : List A) → AreDisjoint c → ListsAll c list → EachHasCover (is_earlier c.same list) c
      → (j k : ℕ) → j ≤ k → BreaksNoMore c.rules (view_with c (take j list)) (view_with c (take k list))
  pub uncovered : (list : List A) → AreDisjoint c → DoChange c → ListsAll c list
      → (n : Need) (a : Lived A) (b : Option (Lived A)) (blockers : List A) → AreBlockers c n a b blockers → IsUncovered (is_earlier c.same list) c n a b
      → (k : ℕ) × ¬ (BreaksNoMore c.rules c.root (view_with c (take k list)))

-- where some members are merged, each after those before it, entries cover those that stay, under their order
abbrev pub CoversLast : {A B : Type 0} → Order A → Setting A → Order B → Setting B → (A → Fate B) → Type 0
CoversLast before c now_before next fate = IsLater c next fate
    → IsLaterInTurn before c now_before fate
    → (es : List Entry)
    → AreCovered before c es
    → (more : List Entry) × AreCovered now_before next more

-- other words for the same -------------------------------------------------------------------------

-- where no member goes before another, entries cover under the order exactly where they cover in every order, and any members have come in turn
pub record NoOrderIsEveryOrder {A : Type 0} (c : Setting A) : Type 0 where
  pub covered : (es : List Entry) → AreCovered no_order c es ↔ unordered.AreCovered c es
  pub uncovered : (n : Need) (a : Lived A) (b : Option (Lived A)) → IsUncovered no_order c n a b ↔ (unordered.IsUncovered c n a b × IsTouchedBy c n a b)
  pub in_turn : (ts : List A) → AreInTurn no_order c ts

-- members by position are covered as they are by name
pub record PositionsSayTheSame {A : Type 0} (before : Order A) (c : Setting A) : Type 0 where
  pub covered : (es : List Entry) → AreCovered before c es ↔ AreCovered (order_at before c.members) (by_position c) es
  pub uncovered : (n : Need) → IsUncoveredNeed before c n ↔ IsUncoveredNeed (order_at before c.members) (by_position c) n
