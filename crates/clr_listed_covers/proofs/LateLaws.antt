-- Where members come in the order of their positions: needs of which a helper stands before a blocker, and where a list of members ends.
use Rattle.std.proofs.Common.{◌≡◌, ◌∙◌, ◌<◌, ◌≤◌, ◌+◌, ◌==◌, ◌⊎◌, ℕ, zero, suc, Bool, true, false, List, [], ◌∷◌, ◌++◌, Some, inl, inr, get_or, length, nat_lt}
use Rattle.std.proofs.Common.{slice_get, take, refl, sym, ap, subst, arith}
use Rattle.std.specs.List.{list_any, range_with_len}
use Rattle.std.proofs.lemmas.Bool.{false≢true, true≢false, or_cases, or_left, or_right, ltb-true, lt-ltb}
use Rattle.std.proofs.lemmas.List.{take_all, take_more}
use Rattle.std.proofs.lemmas.List.FromFn.{get_or-range_with_len, length-range_with_len}
use Rattle.std.proofs.lemmas.Option.{slice_get-get_or, slice_get_within}
use Rattle.clr_order_search.specs.declared.open_needs.OpenNeed.{OpenNeed}
use Rattle.clr_order_search.specs.OpenNeeds.{has}
use Rattle.clr_order_search.proofs.Positions.{some_of}
use Rattle.clr_order_search.proofs.Rests.{itself, same_of}
use Rattle.clr_order_knots.specs.OpenNeeds.{AreWithin}
use Rattle.clr_order_knots.specs.Peeling.{AreHelpedInTime}
use Rattle.clr_order_knots.proofs.Lists.{has_either, has_left}
use Rattle.clr_order_answers.specs.Pairs.{AreAllApart}
use Rattle.clr_listed_covers.specs.Late.{AreHelpedInList, IsEndOf, IsLateAt, is_helped_in_list}

pub before_or_behind : (i j : ℕ) → (i < j) ⊎ (j ≤ i)
before_or_behind i j = grind arith

-- positions in order -----------------------------------------------------------------------------------

pub position_there : (count k : ℕ) → k < count → slice_get (range_with_len 0 count) k ≡ Some k
position_there count k less =
    let long = length-range_with_len 0 count in
    let same : 0 + k ≡ k = omega arith in
    slice_get-get_or (range_with_len 0 count) k 0 (omega (arith, less, long)) ∙ ap Some (get_or-range_with_len 0 count k 0 less ∙ same)

-- who stands at a place
pub record IsPosition (count k x : ℕ) : Type 0 where
  pub less : k < count
  pub same : x ≡ k

pub position_of : (count k x : ℕ) → slice_get (range_with_len 0 count) k ≡ Some x → IsPosition count k x
position_of count k x e =
    let within = slice_get_within (range_with_len 0 count) k x e in
    let long = length-range_with_len 0 count in
    let less : k < count = omega (arith, within, long) in
    record { less = less; same = (let one : Some x ≡ Some k = sym e ∙ position_there count k less in cc) }

-- a helper before a blocker ----------------------------------------------------------------------------

pub record HasHelpInList (need : OpenNeed) : Type 0 where
  pub helper : ℕ
  pub blocker : ℕ
  pub helps : has need.helpers.items helper ≡ true
  pub blocks : has need.blockers.items blocker ≡ true
  pub in_order : helper < blocker

pub help_in_list : (need : OpenNeed) → is_helped_in_list need ≡ true → HasHelpInList need
help_in_list need h =
    let (x, helps, rest) = some_of (λ helper. list_any (nat_lt helper) need.blockers.items) need.helpers.items h in
    let (y, blocks, less) = some_of (nat_lt x) need.blockers.items rest in
    record { helper = x; blocker = y; helps = helps; blocks = blocks; in_order = ltb-true x y less }

any_has : (p : ℕ → Bool) (xs : List ℕ) (x : ℕ) → has xs x ≡ true → p x ≡ true → list_any p xs ≡ true
any_has p [] x h e = absurd (false≢true h)
any_has p (y ∷ ys) x h e = elim (or_cases (y == x) (has ys x) h) [
  | inl same ↦ or_left (p y) (list_any p ys) (ap p (same_of y x same) ∙ e)
  | inr behind ↦ or_right (p y) (list_any p ys) (any_has p ys x behind e)
]

pub no_help_in_list : (need : OpenNeed) → is_helped_in_list need ≡ false → (x y : ℕ) → has need.helpers.items x ≡ true → has need.blockers.items y ≡ true
    → ¬ (x < y)
no_help_in_list need late x y helps blocks less =
    true≢false (sym (any_has (λ helper. list_any (nat_lt helper) need.blockers.items) need.helpers.items x helps
    (any_has (nat_lt x) need.blockers.items y blocks (lt-ltb x y less))) ∙ late)

-- the first need whose help comes late --------------------------------------------------------------------

module _ (needs : List OpenNeed) (at : ℕ) (need : OpenNeed) (there : slice_get needs at ≡ Some need) (told : Bool) (is : told ≡ is_helped_in_list need) where
  pub helped_more : told ≡ true → AreHelpedInList needs at → AreHelpedInList needs (at + 1)
  helped_more passed so_far other k less e = by (before_or_behind k at)
    where
      by : (k < at) ⊎ (at ≤ k) → is_helped_in_list other ≡ true
      by (inl before) = so_far other k before e
      by (inr behind) =
          let here : k ≡ at = omega (arith, less, behind) in
          let one : Some other ≡ Some need = sym e ∙ ap (slice_get needs) here ∙ there in
          let same : need ≡ other = cc in
          subst (λ (o : OpenNeed). is_helped_in_list o ≡ true) same (sym is ∙ passed)

  pub late_here : told ≡ false → AreHelpedInList needs at → IsLateAt needs at
  late_here failed so_far = record { need = need; there = there; late = sym is ∙ failed; first = so_far }

pub all_helped_in_list : (needs : List OpenNeed) (at : ℕ) → length needs ≤ at → AreHelpedInList needs at → AreHelpedInList needs (length needs)
all_helped_in_list needs at past so_far need k less e = so_far need k (omega (arith, less, past)) e

-- where some members end ------------------------------------------------------------------------------------

pub none_end : IsEndOf [] 0
none_end = record { below = λ m h. absurd (false≢true h); last = inl (refl, refl) }

module _ (members : List ℕ) (k d end : ℕ) (less : k < length members) (so_far : IsEndOf (take k members) end) where
  abbrev m : ℕ
  m = get_or members k d

  one_of : (x : ℕ) → has (take (k + 1) members) x ≡ true → (has (take k members) x ≡ true) ⊎ (m ≡ x)
  one_of x h = elim (has_either (take k members) (m ∷ []) x (ap (λ xs. has xs x) (sym (take_more members k d less)) ∙ h)) [
    | inl before ↦ inl before
    | inr here ↦ inr (only here)
  ]
    where
      only : has (m ∷ []) x ≡ true → m ≡ x
      only h = elim (or_cases (m == x) false h) [ inl same ↦ same_of m x same | inr none ↦ absurd (false≢true none) ]

  here : has (take (k + 1) members) m ≡ true
  here = ap (λ xs. has xs m) (take_more members k d less) ∙ right (take k members)
    where
      right : (xs : List ℕ) → has (xs ++ m ∷ []) m ≡ true
      right [] = or_left (m == m) false (itself m)
      right (x ∷ xs) = or_right (x == m) (has (xs ++ m ∷ []) m) (right xs)

  pub further_end : end ≤ m → IsEndOf (take (k + 1) members) (m + 1)
  further_end past = record {
    below = λ x h. elim (one_of x h) [ inl before ↦ (let under = so_far.below x before in omega (arith, under, past)) | inr same ↦ omega (arith, same) ];
    last = inr (m, here, omega arith);
  }

  pub same_end : m < end → IsEndOf (take (k + 1) members) end
  same_end under = record {
    below = λ x h. elim (one_of x h) [ inl before ↦ so_far.below x before | inr same ↦ omega (arith, same, under) ];
    last = by so_far.last;
  }
    where
      by : ((take k members ≡ []) × (end ≡ 0)) ⊎ ((x : ℕ) × (has (take k members) x ≡ true) × (end ≡ suc x))
          → ((take (k + 1) members ≡ []) × (end ≡ 0)) ⊎ ((x : ℕ) × (has (take (k + 1) members) x ≡ true) × (end ≡ suc x))
      by (inl (none, zero_end)) = absurd (omega (arith, under, zero_end))
      by (inr (x, there, ends)) = inr (x, ap (λ xs. has xs x) (take_more members k d less) ∙ has_left (take k members) (m ∷ []) x there, ends)

pub all_end : (members : List ℕ) (k end : ℕ) → length members ≤ k → IsEndOf (take k members) end → IsEndOf members end
all_end members k end past is = subst (λ xs. IsEndOf xs end) (take_all k members past) is

-- help in time ----------------------------------------------------------------------------------------------

module _ (needs : List OpenNeed) (count : ℕ) (within : AreWithin needs count) where
  pub helped_in_time : AreHelpedInList needs (length needs) → AreHelpedInTime (range_with_len 0 count) needs
  helped_in_time all need at e =
      let help = help_in_list need (all need at (slice_get_within needs at need e) e) in
      let sides = within need at e in
      record {
        helper = help.helper;
        blocker = help.blocker;
        helps = help.helps;
        blocks = help.blocks;
        early = help.helper;
        late = help.blocker;
        helper_at = position_there count help.helper (sides.helpers help.helper help.helps);
        blocker_at = position_there count help.blocker (sides.blockers help.blocker help.blocks);
        in_time = (let less = help.in_order in omega (arith, less));
      }

  pub all_apart : AreAllApart needs
  all_apart need at e = (within need at e).apart

-- one more position
pub one_position_more : (old new : List ℕ) (k : ℕ) → old ≡ range_with_len 0 k → new ≡ old ++ k ∷ [] → new ≡ range_with_len 0 (k + 1)
one_position_more old new k so_far is =
    is ∙ ap (λ xs. xs ++ k ∷ []) so_far ∙ sym (by 0 k k (omega arith))
  where
    by : (a n j : ℕ) → a + n ≡ j → range_with_len a (n + 1) ≡ range_with_len a n ++ j ∷ []
    by a zero j e =
        let one : 0 + 1 ≡ suc 0 = omega arith in
        let same : a ≡ j = omega (arith, e) in
        ap (range_with_len a) one ∙ ap (λ x. x ∷ []) same
    by a (suc n) j e =
        let next : suc n + 1 ≡ suc (n + 1) = omega arith in
        ap (range_with_len a) next ∙ ap (λ (xs : List ℕ). a ∷ xs) (by (a + 1) n j (omega (arith, e)))
