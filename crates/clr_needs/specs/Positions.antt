-- A setting whose members are named by their positions in the list.
use Rattle.std.specs.Prelude.{◌≡◌, ◌↔◌, ℕ, ◌<◌, ◌≤◌, ◌==◌, List, [], ◌∷◌, Option, Some, None, ⊤, Contains, length, slice_get}
use Rattle.std.proofs.lemmas.Bool.Decides.{Decides-eqb}
use Rattle.std.specs.List.{range_with_len}
use Rattle.clr_rows.specs.declared.cells.CellId.{CellId}
use Rattle.clr_rows.specs.declared.rows.Row.{Row}
use Rattle.clr_needs.specs.declared.needs.Need.{Need}
use Rattle.clr_needs.specs.Covers.{IsBlocker}
use Rattle.clr_needs.specs.Needs.{IsPossible}
use Rattle.clr_needs.specs.Settings.{Setting, Lived}

abbrev pub after_member : {A : Type 0} → Setting A → Option A → CellId → Option (Option Row)
after_member c None q = None
after_member c (Some n) q = c.after n q

abbrev pub by_position : {A : Type 0} → Setting A → Setting ℕ
by_position c = record {
  rules = c.rules;
  root = c.root;
  members = range_with_len 0 (length c.members);
  after = λ k. after_member c (slice_get c.members k);
  same = λ j k. j == k;
  decides = Decides-eqb;
}

-- the first position of a member
pub record StandsAt {A : Type 0} (c : Setting A) (n : A) (k : ℕ) : Type 0 where
  pub there : slice_get c.members k ≡ Some n
  pub first : (j : ℕ) → slice_get c.members j ≡ Some n → k ≤ j

-- no member stands twice in the list
abbrev pub AreDistinct : {A : Type 0} → Setting A → Type 0
AreDistinct {A} c = (j k : ℕ) (n : A) → slice_get c.members j ≡ Some n → slice_get c.members k ≡ Some n → j ≡ k

-- one member stands before another
abbrev pub ComesBefore : {A : Type 0} → Setting A → A → A → Type 0
ComesBefore c m n = (j k : ℕ) × StandsAt c m j × StandsAt c n k × (j < k)

-- some members, and their first positions
abbrev pub StandAt : {A : Type 0} → Setting A → List A → List ℕ → Type 0
StandAt c [] [] = ⊤
StandAt c [] (k ∷ ks) = ⊥
StandAt c (m ∷ ms) [] = ⊥
StandAt c (m ∷ ms) (k ∷ ks) = StandsAt c m k × StandAt c ms ks

-- each of these members comes before those after it
abbrev pub AreInOrder : {A : Type 0} → Setting A → List A → Type 0
AreInOrder c [] = ⊤
AreInOrder {A} c (m ∷ ms) = ((n : A) → Contains ms n → ComesBefore c m n) × AreInOrder c ms

-- exactly the members of which P holds, in their order, each once
pub record ListsMembers {A : Type 0} (c : Setting A) (P : A → Type 0) (ms : List A) : Type 0 where
  pub in_order : AreInOrder c ms
  pub exactly : (m : A) → Contains ms m ↔ P m

-- exactly the members that break the need, in their order
abbrev pub BlocksInOrder : {A : Type 0} → Setting A → Need → List A → Type 0
BlocksInOrder {A} c n ms = (a : Lived A) (b : Option (Lived A)) → IsPossible c n a b → ListsMembers c (IsBlocker c n a b) ms
