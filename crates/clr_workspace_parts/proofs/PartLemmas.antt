-- The tests of parts, one after another.
use Rattle.std.proofs.Common.{◌≡◌, ℕ, suc, zero, ◌+◌, ◌-◌, ◌<◌, ◌≤◌, Bool, true, false, cond, not, nat_le, nat_lt, ◌&&◌, ◌||◌, ◌==◌, List, [], ◌∷◌, length, map}
use Rattle.std.proofs.Common.{take, drop, get_or, Some, None, is_some, refl, ap, sym, ◌∙◌, arith}
use Rattle.std.specs.declared.option.Option.{Option}
use Rattle.std.specs.List.{list_all, list_any, position_or_len}
use Rattle.std.specs.Str.{bytes_eq}
use Rattle.std.proofs.lemmas.Grind.{common_steps}
use Rattle.std.proofs.lemmas.Bool.{false≢true, and_parts}
use Rattle.std.proofs.Math.Bool.{and-false}
use Rattle.clr_rows.specs.Contents.{Content}
use Rattle.clr_rows.specs.Names.{is_good_name}
use Rattle.clr_rows.specs.Schemas.{are_distinct}
use Rattle.clr_deltas.specs.Deltas.{whole_mark}
use Rattle.clr_workspaces.specs.Marks.{Name, Mark, Saved, ChildMark, find_mark, is_saved_as, saved_names, saved_count}
use Rattle.clr_workspaces.specs.Workspaces.{Workspace, find, depth_of}
use Rattle.clr_deltas.specs.declared.stored_marks.StoredMark.{StoredMark}
use Rattle.clr_deltas.specs.declared.stored_marks.StoredMark.TheVariants as stored
use Rattle.clr_workspace_parts.specs.Parts.{place_fault, has_new_name, is_under, is_savepoint_or_child, is_marked_once, has_child_marks}
use Rattle.clr_workspaces.specs.Soundness.{are_good_savepoints}
use Rattle.clr_workspaces.specs.declared.limits.TheConstants.{MOST_WORKSPACES, MOST_LEVELS, MOST_SAVEPOINTS}
use Rattle.clr_workspace_parts.specs.declared.parts.PartFault.TheVariants as fault
use Rattle.clr_workspaces.proofs.NameLemmas.{count_names}
use Rattle.clr_workspace_parts.proofs.MarkLemmas.{marks_as_stored}

-- lists --------------------------------------------------------------------------------------------

module _ {A : Type 0} (p : A → Bool) where
  pub all_next : (xs : List A) (i : ℕ) (d : A) → list_all p (take i xs) ≡ true → i < length xs → p (get_or xs i d) ≡ true → list_all p (take (suc i) xs) ≡ true
  all_next [] i d e lt h = refl
  all_next (x ∷ xs) zero d e lt h = rw h refl
  all_next (x ∷ xs) (suc i) d e lt h = let parts = and_parts (p x) (list_all p (take i xs)) e in rw (parts.0, all_next xs i d parts.1 (omega arith) h) refl

  pub all_fails : (xs : List A) (i : ℕ) (d : A) → i < length xs → p (get_or xs i d) ≡ false → list_all p xs ≡ false
  all_fails [] i d lt h = absurd (omega arith)
  all_fails (x ∷ xs) zero d lt h = rw h refl
  all_fails (x ∷ xs) (suc i) d lt h = ap (λ b. p x && b) (all_fails xs i d (omega arith) h) ∙ and-false (p x)

module _ {A B : Type 0} (f : A → B) (p : B → Bool) where
  pub all_map : (xs : List A) → list_all p (map f xs) ≡ list_all (λ x. p (f x)) xs
  all_map [] = refl
  all_map (x ∷ xs) = ap (λ b. p (f x) && b) (all_map xs)

pub drop_at : {A : Type 0} (xs : List A) (i : ℕ) (d : A) → i < length xs → drop i xs ≡ get_or xs i d ∷ drop (suc i) xs
drop_at [] i d lt = absurd (omega arith)
drop_at (x ∷ xs) zero d lt = refl
drop_at (x ∷ xs) (suc i) d lt = drop_at xs i d (omega arith)

-- the rest of a list is all that is left
pub take_all : {A : Type 0} (xs : List A) (n : ℕ) → length xs ≤ n → take n xs ≡ xs
take_all [] zero le = refl
take_all [] (suc n) le = refl
take_all (x ∷ xs) zero le = absurd (omega arith)
take_all (x ∷ xs) (suc n) le = ap (λ ys. x ∷ ys) (take_all xs n (omega arith))

left_over : {A : Type 0} (xs : List A) (n : ℕ) → length (drop n xs) ≤ length xs - n
left_over xs zero = omega arith
left_over [] (suc n) = omega arith
left_over (x ∷ xs) (suc n) = let less = left_over xs n in omega (arith, less)

pub rest_is : {A : Type 0} (xs : List A) (n : ℕ) → take (length xs - n) (drop n xs) ≡ drop n xs
rest_is xs n = take_all (drop n xs) (length xs - n) (left_over xs n)

pub past_all : {A : Type 0} (xs : List A) (n : ℕ) → length xs ≤ n → drop n xs ≡ []
past_all [] zero le = refl
past_all [] (suc n) le = refl
past_all (x ∷ xs) zero le = absurd (omega arith)
past_all (x ∷ xs) (suc n) le = past_all xs n (omega arith)

-- names of savepoints --------------------------------------------------------------------------------

one_more : (a b : ℕ) → nat_lt (1 + a) (suc b) ≡ nat_lt a b
one_more a b = grind (arith, common_steps)

first_within : (n : ℕ) → nat_lt 0 (suc n) ≡ true
first_within n = grind (arith, common_steps)

named_there : (name : Name) (ms : List Mark) → nat_lt (position_or_len (is_saved_as name) ms) (length ms) ≡ list_any (bytes_eq name) (saved_names ms)
named_there name [] = refl
named_there name (Saved other content ∷ ms) = by (bytes_eq name other) (named_there name ms)
  where
    by : (b : Bool) → nat_lt (position_or_len (is_saved_as name) ms) (length ms) ≡ list_any (bytes_eq name) (saved_names ms)
        → nat_lt (cond (not b) (1 + position_or_len (is_saved_as name) ms) 0) (suc (length ms)) ≡ (b || list_any (bytes_eq name) (saved_names ms))
    by true rest = first_within (length ms)
    by false rest = one_more (position_or_len (is_saved_as name) ms) (length ms) ∙ rest
named_there name (ChildMark other ∷ ms) = one_more (position_or_len (is_saved_as name) ms) (length ms) ∙ named_there name ms

pub any_savepoint : (name : Name) (ms : List Mark) → is_some (find_mark ms name) ≡ list_any (bytes_eq name) (saved_names ms)
any_savepoint name ms = by (nat_lt (position_or_len (is_saved_as name) ms) (length ms)) ∙ named_there name ms
  where
    by : (b : Bool) → is_some (cond b (Some (position_or_len (is_saved_as name) ms)) None) ≡ b
    by true = refl
    by false = refl

-- good names that differ
abbrev pub are_new : List Mark → Bool
are_new ms = list_all is_good_name (saved_names ms) && are_distinct (saved_names ms)

pub new_skip : (m : Mark) (ms : List Mark) → has_new_name m ms ≡ true → are_new (m ∷ ms) ≡ are_new ms
new_skip (Saved name content) ms e = let parts = and_parts (is_good_name name) (not (list_any (bytes_eq name) (saved_names ms))) e in rw (parts.0, parts.1) refl
new_skip (ChildMark name) ms e = refl

pub not_new : (m : Mark) (ms : List Mark) → has_new_name m ms ≡ false → are_new (m ∷ ms) ≡ false
not_new (Saved name content) ms e = by (is_good_name name) (not (list_any (bytes_eq name) (saved_names ms))) (list_all is_good_name (saved_names ms))
    (are_distinct (saved_names ms)) e
  where
    by : (a b x y : Bool) → (a && b) ≡ false → ((a && x) && (b && y)) ≡ false
    by true b x y e = rw e (and-false x)
    by false b x y e = refl
not_new (ChildMark name) ms e = absurd (false≢true (sym e))

are_good : (a b c : Bool) → (a && b && c) ≡ ((a && b) && c)
are_good true b c = refl
are_good false b c = refl

pub good_from : (ms : List Mark) → are_good_savepoints (saved_names ms) ≡ (are_new ms && nat_le (saved_count ms) MOST_SAVEPOINTS)
good_from ms =
    are_good (list_all is_good_name (saved_names ms)) (are_distinct (saved_names ms)) (nat_le (length (saved_names ms)) MOST_SAVEPOINTS)
    ∙ ap (λ n. are_new ms && nat_le n MOST_SAVEPOINTS) (count_names ms)

-- marks over any base ------------------------------------------------------------------------------

same_names : (b c : Content) (ms : List StoredMark) → saved_names (map (whole_mark b) ms) ≡ saved_names (map (whole_mark c) ms)
same_names b c [] = refl
same_names b c (stored.Saved name d ∷ ms) = ap (λ names. name ∷ names) (same_names b c ms)
same_names b c (stored.Child name ∷ ms) = same_names b c ms

module _ (ws : List Workspace) (parent : Name) (b c : Content) where
  same_children : (ms : List StoredMark) → list_all (is_savepoint_or_child ws parent) (map (whole_mark b) ms)
      ≡ list_all (is_savepoint_or_child ws parent) (map (whole_mark c) ms)
  same_children [] = refl
  same_children (stored.Saved name d ∷ ms) = same_children ms
  same_children (stored.Child name ∷ ms) = ap (λ rest. is_under ws parent (find ws name) && rest) (same_children ms)

  same_counts : (ms : List StoredMark) (vs : List Workspace) → list_all (is_marked_once parent (map (whole_mark b) ms)) vs
      ≡ list_all (is_marked_once parent (map (whole_mark c) ms)) vs
  same_counts ms [] = refl
  same_counts ms (v ∷ vs) = λ i. (not (bytes_eq parent v.parent) || (marks_as_stored b v.name ms ∙ sym (marks_as_stored c v.name ms)) i == 1)
      && same_counts ms vs i

  pub good_alike : (ms : List StoredMark)
      → (are_good_savepoints (saved_names (map (whole_mark b) ms)) && has_child_marks ws parent (map (whole_mark b) ms))
      ≡ (are_good_savepoints (saved_names (map (whole_mark c) ms)) && has_child_marks ws parent (map (whole_mark c) ms))
  good_alike ms = λ i. are_good_savepoints (same_names b c ms i) && (same_children ms i && same_counts ms ws i)

-- names and places -----------------------------------------------------------------------------------

pub none_found : (found : Option ℕ) → is_some found ≡ false → found ≡ None
none_found None e = refl
none_found (Some at) e = absurd (false≢true (sym e))

module _ (ws : List Workspace) (name above_name : Name) (good : is_good_name name ≡ true) where
  pub taken : is_some (find ws name) ≡ true → place_fault ws name above_name ≡ Some fault.NameTaken
  taken some = rw (good, some) refl

  module _ (none : is_some (find ws name) ≡ false) where
    pub orphan : find ws above_name ≡ None → place_fault ws name above_name ≡ Some fault.NoParent
    orphan lost = rw (good, none, lost) refl

    module _ (above : ℕ) (found : find ws above_name ≡ Some above) where
      pub fits : length ws < MOST_WORKSPACES → depth_of ws above < MOST_LEVELS → place_fault ws name above_name ≡ None
      fits few shallow = rw (good, none, found, room (length ws) MOST_WORKSPACES few, room (depth_of ws above) MOST_LEVELS shallow) refl
        where
          room : (a b : ℕ) → a < b → nat_le (suc a) b ≡ true
          room a b lt = grind (arith, common_steps)

      pub too_many : MOST_WORKSPACES ≤ length ws → place_fault ws name above_name ≡ Some fault.TooMany
      too_many many = rw (good, none, found, full (length ws) MOST_WORKSPACES many) refl
        where
          full : (a b : ℕ) → b ≤ a → nat_le (suc a) b ≡ false
          full a b le = grind (arith, common_steps)

      pub too_deep : MOST_LEVELS ≤ depth_of ws above → place_fault ws name above_name ≡ Some fault.TooMany
      too_deep deep = rw (good, none, found, full (depth_of ws above) MOST_LEVELS deep, and-false (nat_le (suc (length ws)) MOST_WORKSPACES)) refl
        where
          full : (a b : ℕ) → b ≤ a → nat_le (suc a) b ≡ false
          full a b le = grind (arith, common_steps)
