-- The verdict is clear exactly where the entries cover the merge set.
use Rattle.std.proofs.Common.{◌≡◌, ℕ, zero, suc, ◌+◌, ◌<◌, Bool, true, false, not, ◌||◌, cond, List, [], ◌∷◌, ◌⊎◌, inl, inr, refl, sym, ap, ◌∙◌, subst, arith}
use Rattle.std.proofs.Common.{Option, Some, None, is_some, length, slice_get, slice_index_or, take}
use Rattle.std.specs.List.{position, position_from, range_with_len}
use Rattle.std.specs.Option.{option_map, option_or}
use Rattle.std.proofs.lemmas.Bool.{cases_Bool, false≢true, true≢false, or_cases, or_left, or_right, not-false}
use Rattle.std.proofs.lemmas.Iterator.Adapters.{position_from-zero}
use Rattle.std.proofs.lemmas.List.FromFn.{length-range_with_len}
use Rattle.std.proofs.lemmas.Option.{get_or_from_slice_get, slice_get-get_or, slice_get_within}
use Rattle.clr_rows.specs.declared.cells.CellId.{CellId}
use Rattle.clr_rows.specs.Contents.{least_and_count}
use Rattle.clr_workspaces.specs.Marks.{Name}
use Rattle.clr_workspaces.specs.Workspaces.{Workspace}
use Rattle.clr_needs.specs.Covers.{Entry}
use Rattle.clr_needs.specs.Members.{AreApart, after_of}
use Rattle.clr_needs.specs.Positions.{after_member}
use Rattle.clr_needs.specs.Settings.{AreDisjoint}
use Rattle.clr_steps.specs.Names.{same_name, has, is_live}
use Rattle.clr_steps.specs.Offices.{Office, find_name, is_kept, stands, workspace}
use Rattle.clr_steps.specs.Quiet.{MergeSet, is_member}
use Rattle.clr_steps.specs.Readings.{conflicts_in}
use Rattle.clr_steps.proofs.FindLemmas.{same_is, same_itself}
use Rattle.clr_clearance.specs.declared.verdicts.Verdict.{Verdict}
use Rattle.clr_clearance.specs.declared.verdicts.Verdict.TheVariants as verdict
use Rattle.clr_clearance.specs.Laws.{ClearLaw}
use Rattle.clr_clearance.specs.MergeSets.{AreMergeable, Covers, change_sets, changed_by, is_child, setting_of}
use Rattle.clr_clearance.specs.Verdicts.{IsVerdict, first_conflict, first_repeated, is_repeated, member_fault, missing_member, names_fault, repeated_member}
use Rattle.clr_clearance.specs.Verdicts.{root_fault, stray_member, of_cell, of_member, of_need, of_none}
use Rattle.clr_clearance.proofs.NameLemmas.{has_is}
use Rattle.clr_clearance.proofs.StaticLemmas.{apart_sets, child_under, same_after}

-- where a search finds nothing ------------------------------------------------------------------------

module _ {X : Type 0} (p : X → Bool) where
  position_is : (xs : List X) → position p xs ≡ position_from p 0 xs
  position_is xs = position_from-zero p xs

  fails_from : (i : ℕ) (xs : List X) → position_from p i xs ≡ None → (k : ℕ) (x : X) → slice_get xs k ≡ Some x → p x ≡ false
  fails_from i [] none k x e = absurd (cc)
  fails_from i (y ∷ ys) none zero x e = by (p y) refl none
    where
      by : (b : Bool) → p y ≡ b → cond b (Some i) (position_from p (i + 1) ys) ≡ None → p x ≡ false
      by true h d = absurd (cc)
      by false h d = let one : y ≡ x = cc in ap p (sym one) ∙ h
  fails_from i (y ∷ ys) none (suc k) x e = fails_from (i + 1) ys (by (p y) none) k x e
    where
      by : (b : Bool) → cond b (Some i) (position_from p (i + 1) ys) ≡ None → position_from p (i + 1) ys ≡ None
      by true d = absurd (cc)
      by false d = d

  none_from : (i : ℕ) (xs : List X) → ((k : ℕ) (x : X) → slice_get xs k ≡ Some x → p x ≡ false) → position_from p i xs ≡ None
  none_from i [] fails = refl
  none_from i (y ∷ ys) fails = ap (λ b. cond b (Some i) (position_from p (i + 1) ys)) (fails 0 y refl) ∙ none_from (i + 1) ys (λ k. fails (suc k))

  pub each_fails : (xs : List X) → position p xs ≡ None → (k : ℕ) (x : X) → slice_get xs k ≡ Some x → p x ≡ false
  each_fails xs none = fails_from 0 xs (sym (position_is xs) ∙ none)

  pub none_found : (xs : List X) → ((k : ℕ) (x : X) → slice_get xs k ≡ Some x → p x ≡ false) → position p xs ≡ None
  none_found xs fails = position_is xs ∙ none_from 0 xs fails

pub neither : {X : Type 0} (a b : Option X) → option_or a b ≡ None → (a ≡ None) × (b ≡ None)
neither None b e = (refl, e)
neither (Some x) b e = absurd (cc)

pub no_map : {X Y : Type 0} (f : X → Y) (r : Option X) → option_map f r ≡ None → r ≡ None
no_map f None e = refl
no_map f (Some x) e = absurd (cc)

-- names and positions -----------------------------------------------------------------------------------

pub position_of : (names : List Name) (name : Name) → has names name ≡ true → (k : ℕ) × (slice_get names k ≡ Some name)
position_of [] name h = absurd (false≢true h)
position_of (n ∷ ns) name h = elim (or_cases (same_name n name) (has ns name) h) [
  | inl same ↦ (0, ap Some (same_is n name same))
  | inr other ↦ (let (k, e) = position_of ns name other in (suc k, e))
]

pub has_at : (names : List Name) (k : ℕ) (name : Name) → slice_get names k ≡ Some name → has names name ≡ true
has_at [] k name e = absurd (cc)
has_at (n ∷ ns) zero name e = let one : n ≡ name = cc in or_left (same_name n name) (has ns name) (ap (same_name n) (sym one) ∙ same_itself n)
has_at (n ∷ ns) (suc k) name e = or_right (same_name n name) (has ns name) (has_at ns k name e)

-- a name at a lesser position stands before
earlier : (names : List Name) (j k : ℕ) (name : Name) → j < k → slice_get names j ≡ Some name → has (take k names) name ≡ true
earlier [] j k name less e = absurd (cc)
earlier (n ∷ ns) j zero name less e = absurd (omega (arith, less))
earlier (n ∷ ns) zero (suc k) name less e = let one : n ≡ name = cc in or_left (same_name n name) (has (take k ns) name) (ap (same_name n) (sym one)
    ∙ same_itself n)
earlier (n ∷ ns) (suc j) (suc k) name less e = or_right (same_name n name) (has (take k ns) name) (earlier ns j k name (omega (arith, less)) e)

-- a name that stands before a position stands at a lesser one
before : (names : List Name) (k : ℕ) (name : Name) → has (take k names) name ≡ true → (j : ℕ) × (j < k) × (slice_get names j ≡ Some name)
before [] zero name h = absurd (false≢true h)
before [] (suc k) name h = absurd (false≢true h)
before (n ∷ ns) zero name h = absurd (false≢true h)
before (n ∷ ns) (suc k) name h = elim (or_cases (same_name n name) (has (take k ns) name) h) [
  | inl same ↦ (0, omega arith, ap Some (same_is n name same))
  | inr other ↦ (let (j, less, e) = before ns k name other in (suc j, omega (arith, less), e))
]

numbers_at : (a n k x : ℕ) → slice_get (range_with_len a n) k ≡ Some x → x ≡ a + k
numbers_at a zero k x e = absurd (cc)
numbers_at a (suc n) zero x e = let one : a ≡ x = cc in omega (arith, one)
numbers_at a (suc n) (suc k) x e = let rest = numbers_at (a + 1) n k x e in omega (arith, rest)

number_at : (a n k : ℕ) → k < n → slice_get (range_with_len a n) k ≡ Some (a + k)
number_at a zero k less = absurd (omega (arith, less))
number_at a (suc n) zero less = let one : a ≡ a + 0 = omega arith in ap Some one
number_at a (suc n) (suc k) less = let one : (a + 1) + k ≡ a + suc k = omega arith in number_at (a + 1) n k (omega (arith, less)) ∙ ap Some one

pub order : (i j : ℕ) → (i < j) ⊎ ((i ≡ j) ⊎ (j < i))
order i j = grind arith

module _ (names : List Name) where
  abbrev pub AllDiffer : Type 0
  AllDiffer = (j k : ℕ) (name : Name) → slice_get names j ≡ Some name → slice_get names k ≡ Some name → j ≡ k

  -- no name stands earlier exactly where none stands twice
  unrepeated : first_repeated names ≡ None → (j k : ℕ) (name : Name) → j < k → slice_get names j ≡ Some name → slice_get names k ≡ Some name → ⊥
  unrepeated none j k name less e f =
      let fails = each_fails (is_repeated names) (range_with_len 0 (length names)) none k (0 + k)
      (number_at 0 (length names) k (slice_get_within names k name f)) in
      let zero_more : 0 + k ≡ k = omega arith in
      let repeated : is_repeated names k ≡ true = ap (has (take k names)) (get_or_from_slice_get names k name [] f) ∙ earlier names j k name less e in
      false≢true (sym fails ∙ ap (is_repeated names) zero_more ∙ repeated)

  pub all_differ : first_repeated names ≡ None → AllDiffer
  all_differ none j k name e f = elim (order j k) [
    | inl less ↦ absurd (unrepeated none j k name less e f)
    | inr (inl same) ↦ same
    | inr (inr more) ↦ absurd (unrepeated none k j name more f e)
  ]

  pub none_repeated : AllDiffer → first_repeated names ≡ None
  none_repeated differ = none_found (is_repeated names) (range_with_len 0 (length names)) (λ k x e. fails k x e)
    where
      fails : (k x : ℕ) → slice_get (range_with_len 0 (length names)) k ≡ Some x → is_repeated names x ≡ false
      fails k x e = elim (cases_Bool (is_repeated names x)) [
        | inl h ↦ absurd (not_twice h)
        | inr h ↦ h
      ]
        where
          at : x ≡ k
          at = let one = numbers_at 0 (length names) k x e in omega (arith, one)

          not_twice : is_repeated names x ≡ true → ⊥
          not_twice h =
              let within : x < length names = (let less = slice_get_within (range_with_len 0 (length names)) k x e in
              omega (arith, at, less, length-range_with_len 0 (length names))) in
              let (j, less, f) = before names x (slice_index_or names x []) h in
              let same = differ j x (slice_index_or names x []) f (slice_get-get_or names x [] within) in
              omega (arith, less, same)

pub differ_unless_repeated : (merge_set : MergeSet) → repeated_member merge_set ≡ None → AllDiffer merge_set.members
differ_unless_repeated merge_set none = all_differ merge_set.members (no_map verdict.RepeatedMember (first_repeated merge_set.members) none)

-- the tests -------------------------------------------------------------------------------------------------

-- a test of each name, by position and by name
abbrev FailsOfEach : (Name → Bool) → List Name → Type 0
FailsOfEach p names = (name : Name) → has names name ≡ true → p name ≡ false

each_of : (p : Name → Bool) (names : List Name) → position p names ≡ None → FailsOfEach p names
each_of p names none name h = let (k, e) = position_of names name h in each_fails p names none k name e

none_of : (p : Name → Bool) (names : List Name) → FailsOfEach p names → position p names ≡ None
none_of p names fails = none_found p names (λ k name e. fails name (has_at names k name e))

all_free : (o : Office) (at : ℕ) (names : List Name) → first_conflict o at names ≡ None → (name : Name) → has names name ≡ true → conflicts_in o name ≡ []
unfolding first_conflict
all_free o at [] none name h = absurd (false≢true h)
all_free o at (n ∷ ns) none name h =
    let parts = neither _ (first_conflict o (suc at) ns) none in
    elim (or_cases (same_name n name) (has ns name) h) [
      | inl same ↦ ap (conflicts_in o) (sym (same_is n name same)) ∙ empty (conflicts_in o n) (no_map _ _ parts.0)
      | inr other ↦ all_free o (suc at) ns parts.1 name other
    ]
  where
    empty : (cells : List CellId) → least_and_count cells ≡ None → cells ≡ []
    empty [] e = refl
    empty (cell ∷ cells) e = absurd (cc)

no_first_conflict : (o : Office) (at : ℕ) (names : List Name) → ((name : Name) → has names name ≡ true → conflicts_in o name ≡ []) → first_conflict o at names
    ≡ None
unfolding first_conflict
no_first_conflict o at [] free = refl
no_first_conflict o at (n ∷ ns) free =
    ap (λ cells. option_or (option_map (λ (c : CellId × ℕ). verdict.Conflict at c.0 c.1) (least_and_count cells)) (first_conflict o (suc at) ns))
    (free n (or_left (same_name n n) (has ns n) (same_itself n)))
    ∙ no_first_conflict o (suc at) ns (λ name h. free name (or_right (same_name n name) (has ns name) h))

standing : (o : Office) (name : Name) (w : Workspace) → workspace o name ≡ Some w → stands o name ≡ true
unfolding workspace stands
standing o name w e = by (is_live name) (find_name name o.workspaces) e
  where
    by : (b : Bool) (r : Option Workspace) → cond b None r ≡ Some w → (b || is_some r) ≡ true
    by true r e = refl
    by false None e = absurd (cc)
    by false (Some v) e = refl

module _ (o : Office) (merge_set : MergeSet) where
  is_kept_root : cond (is_kept o merge_set.root) None (Some verdict.NotKept) ≡ None → is_kept o merge_set.root ≡ true
  is_kept_root none = by (is_kept o merge_set.root) none
    where
      by : (b : Bool) → cond b None (Some verdict.NotKept) ≡ None → b ≡ true
      by true e = refl
      by false e = absurd (cc)

  apart_names : AllDiffer merge_set.members → AreApart (change_sets o merge_set) → AreDisjoint (setting_of o merge_set)
  apart_names differ apart m n cell hm hn changes changes_too =
      let (j, e) = position_of merge_set.members m (sym (has_is merge_set.members m) ∙ hm) in
      let (k, f) = position_of merge_set.members n (sym (has_is merge_set.members n) ∙ hn) in
      let same = apart cell j k (at j m e changes) (at k n f changes_too) in
      some_is m n (sym e ∙ ap (slice_get merge_set.members) same ∙ f)
    where
      some_is : (x y : Name) → Some x ≡ Some y → x ≡ y
      some_is x y e = cc

      at : (j : ℕ) (name : Name) → slice_get merge_set.members j ≡ Some name → is_some (changed_by o name cell) ≡ true
          → is_some (after_of (change_sets o merge_set) j cell) ≡ true
      at j name e h = ap is_some (same_after o merge_set j cell ∙ ap (λ r. after_member (setting_of o merge_set) r cell) e) ∙ h

  -- what the tests of one member at a time say
  pub record IsFaultless : Type 0 where
    pub kept : is_kept o merge_set.root ≡ true
    pub differ : AllDiffer merge_set.members
    pub children : (name : Name) → is_member merge_set name ≡ true → is_child o merge_set name ≡ true
    pub free : (name : Name) → is_member merge_set name ≡ true → conflicts_in o name ≡ []

  pub faultless : member_fault o merge_set ≡ None → IsFaultless
  unfolding names_fault
  faultless none =
      let both = neither (names_fault o merge_set) (first_conflict o 0 merge_set.members) none in
      let root = neither (root_fault o merge_set) (option_or (repeated_member merge_set) (option_or (missing_member o merge_set) (stray_member o merge_set)))
      both.0 in
      let repeated = neither (repeated_member merge_set) (option_or (missing_member o merge_set) (stray_member o merge_set)) root.1 in
      let missing = neither (missing_member o merge_set) (stray_member o merge_set) repeated.1 in
      record {
        kept = is_kept_root root.0;
        differ = differ_unless_repeated merge_set repeated.0;
        children = λ name h. not-false _ (each_of (λ n. not (is_child o merge_set n)) merge_set.members
            (no_map verdict.NotUnderRoot (position (λ n. not (is_child o merge_set n)) merge_set.members) missing.1) name h);
        free = all_free o 0 merge_set.members both.1;
      }

  pub mergeable_of : member_fault o merge_set ≡ None → AreApart (change_sets o merge_set) → AreMergeable o merge_set
  mergeable_of none apart =
      let passed = faultless none in
      record { kept = passed.kept; distinct = passed.differ; children = passed.children; free = passed.free; apart = apart_names passed.differ apart }

  pub no_member_fault : AreMergeable o merge_set → member_fault o merge_set ≡ None
  unfolding names_fault
  no_member_fault mergeable =
      rw (
        mergeable.kept,
        none_repeated merge_set.members mergeable.distinct,
        none_of (λ name. not (stands o name)) merge_set.members (λ name h. let child = child_under o merge_set name (mergeable.children name h) in
            ap not (standing o name child.at child.is)),
        none_of (λ name. not (is_child o merge_set name)) merge_set.members (λ name h. ap not (mergeable.children name h)),
      )
      (no_first_conflict o 0 merge_set.members mergeable.free)

-- no test that fails says clear -------------------------------------------------------------------------------

abbrev pub is_clear : Verdict → Bool
is_clear verdict.Clear = true
is_clear _ = false

abbrev pub IsNoClear : Option Verdict → Type 0
IsNoClear None = Unit {0}
IsNoClear (Some v) = is_clear v ≡ false

either_no_clear : (a b : Option Verdict) → IsNoClear a → IsNoClear b → IsNoClear (option_or a b)
either_no_clear None b h k = k
either_no_clear (Some v) b h k = h

map_no_clear : {X : Type 0} (f : X → Verdict) (r : Option X) → ((x : X) → is_clear (f x) ≡ false) → IsNoClear (option_map f r)
map_no_clear f None h = tt
map_no_clear f (Some x) h = h x

conflict_no_clear : (o : Office) (at : ℕ) (names : List Name) → IsNoClear (first_conflict o at names)
unfolding first_conflict
conflict_no_clear o at [] = tt
conflict_no_clear o at (n ∷ ns) = either_no_clear (option_map (λ (c : CellId × ℕ). verdict.Conflict at c.0 c.1) (least_and_count (conflicts_in o n)))
    (first_conflict o (suc at) ns) (map_no_clear _ _ (λ c. refl)) (conflict_no_clear o (suc at) ns)

pub fault_no_clear : (o : Office) (merge_set : MergeSet) → IsNoClear (member_fault o merge_set)
unfolding names_fault
fault_no_clear o merge_set =
    either_no_clear (option_or (root_fault o merge_set) (option_or (repeated_member merge_set)
    (option_or (missing_member o merge_set) (stray_member o merge_set))))
    (first_conflict o 0 merge_set.members)
    (either_no_clear (root_fault o merge_set) (option_or (repeated_member merge_set) (option_or (missing_member o merge_set) (stray_member o merge_set)))
    (root (is_kept o merge_set.root))
    (either_no_clear (repeated_member merge_set) (option_or (missing_member o merge_set) (stray_member o merge_set))
    (map_no_clear verdict.RepeatedMember (first_repeated merge_set.members) (λ k. refl))
    (either_no_clear (missing_member o merge_set) (stray_member o merge_set)
    (map_no_clear verdict.NoWorkspace (position (λ name. not (stands o name)) merge_set.members) (λ k. refl))
    (map_no_clear verdict.NotUnderRoot (position (λ name. not (is_child o merge_set name)) merge_set.members) (λ k. refl)))))
    (conflict_no_clear o 0 merge_set.members)
  where
    root : (b : Bool) → IsNoClear (cond b None (Some verdict.NotKept))
    root true = tt
    root false = refl

pub clear_covers : (o : Office) (merge_set : MergeSet) (entries : List Entry) → IsVerdict o merge_set entries verdict.Clear → Covers o merge_set entries
clear_covers o merge_set entries (of_member e) = absurd (true≢false (subst IsNoClear e (fault_no_clear o merge_set)))
clear_covers o merge_set entries (of_cell cell i j none shared e) = absurd (true≢false (ap is_clear e))
clear_covers o merge_set entries (of_need n a b none apart first e) = absurd (true≢false (ap is_clear e))
clear_covers o merge_set entries (of_none none apart covered e) = record { mergeable = mergeable_of o merge_set none apart; covered = covered }

pub covers_clear : (o : Office) (merge_set : MergeSet) (entries : List Entry) → Covers o merge_set entries → IsVerdict o merge_set entries verdict.Clear
covers_clear o merge_set entries covers = of_none (no_member_fault o merge_set covers.mergeable) (apart_sets o merge_set covers.mergeable) covers.covered refl

pub clear_law : ClearLaw
clear_law o merge_set entries = (clear_covers o merge_set entries, covers_clear o merge_set entries)
