-- Needs at places of a list, and whom they concern.
use Rattle.std.proofs.Common.{◌≡◌, ◌∙◌, ◌<◌, ◌≤◌, ◌==◌, ◌||◌, ◌⊎◌, ℕ, zero, suc, Bool, true, false, cond, List, [], ◌∷◌, Option, Some, None, inl, inr}
use Rattle.std.proofs.Common.{Contains, length, slice_get, refl, sym, ap, subst, arith}
use Rattle.std.specs.List.{cons_option, filter, list_all, list_any}
use Rattle.std.proofs.lemmas.Bool.{cases_Bool, false≢true, true≢false, or_cases, or_left, or_right}
use Rattle.clr_order_search.specs.declared.open_needs.OpenNeed.{OpenNeed}
use Rattle.clr_order_search.specs.OpenNeeds.{has}
use Rattle.clr_order_search.proofs.Rests.{itself, same_of}
use Rattle.clr_order_knots.specs.declared.sides.NeedSide.{NeedSide}
use Rattle.clr_order_knots.specs.declared.sides.NeedSide.TheVariants as side
use Rattle.clr_order_knots.specs.Members.{ArePlaces, concerns, is_concerned, is_on, needs_at, on_side}
use Rattle.clr_order_knots.specs.OpenNeeds.{AreHelped, AreWithin, IsWithin}
use Rattle.clr_order_knots.specs.Peeling.{AreAmong}
use Rattle.clr_order_knots.specs.Places.{passes, passes_at, reaches}
use Rattle.clr_order_knots.proofs.Lists.{Among, among, among_at, any_by, any_more, contained, contained_at, filter_all, has_filtered, some_of}

-- needs at places ----------------------------------------------------------------------------------------------

module _ (needs : List OpenNeed) where
  pub at_place : (places : List ℕ) (at : ℕ) (need : OpenNeed) → has places at ≡ true → slice_get needs at ≡ Some need → Among need (needs_at needs places)
  at_place [] at need h e = absurd (false≢true h)
  at_place (p ∷ ps) at need h e = elim (or_cases (p == at) (has ps at) h) [
    | inl same ↦ subst (λ o. Among need (cons_option o (needs_at needs ps))) (sym (ap (slice_get needs) (same_of p at same) ∙ e)) (inl refl)
    | inr behind ↦ by (slice_get needs p) (at_place ps at need behind e)
  ]
    where
      by : (o : Option OpenNeed) → Among need (needs_at needs ps) → Among need (cons_option o (needs_at needs ps))
      by None h = h
      by (Some n) h = inr h

  pub of_place : (places : List ℕ) (need : OpenNeed) → Among need (needs_at needs places) → (at : ℕ) × (has places at ≡ true) × (slice_get needs at ≡ Some need)
  of_place [] need h = absurd h
  of_place (p ∷ ps) need h = by (slice_get needs p) refl h (of_place ps need)
    where
      by : (o : Option OpenNeed) → slice_get needs p ≡ o → Among need (cons_option o (needs_at needs ps))
          → (Among need (needs_at needs ps) → (at : ℕ) × (has ps at ≡ true) × (slice_get needs at ≡ Some need))
          → (at : ℕ) × (has (p ∷ ps) at ≡ true) × (slice_get needs at ≡ Some need)
      by None e h rest = let (at, there, is) = rest h in (at, or_right (p == at) (has ps at) there, is)
      by (Some n) e (inl same) rest = (p, or_left (p == p) (has ps p) (itself p), e ∙ ap Some same)
      by (Some n) e (inr h) rest = let (at, there, is) = rest h in (at, or_right (p == at) (has ps at) there, is)

  pub in_all : (places : List ℕ) → AreAmong (needs_at needs places) needs
  in_all places need h =
      let (at, there, e) = of_place places need (among need (needs_at needs places) h) in
      contained need needs (at_all needs at need e)
    where
      at_all : (ns : List OpenNeed) (k : ℕ) (n : OpenNeed) → slice_get ns k ≡ Some n → Among n ns
      at_all [] k n e = absurd (cc)
      at_all (m ∷ ms) zero n e = inl (cc)
      at_all (m ∷ ms) (suc k) n e = inr (at_all ms k n e)

  -- the places at which a test is passed are those of the needs that pass it
  module _ (test : OpenNeed → Bool) (p : ℕ) (ps : List ℕ) where
    abbrev fs : List ℕ
    fs = filter (passes_at needs test) ps

    abbrev ns : List OpenNeed
    ns = needs_at needs ps

    more : (n : OpenNeed) → slice_get needs p ≡ Some n → needs_at needs fs ≡ filter test ns → (b : Bool)
        → needs_at needs (cond b (p ∷ fs) fs) ≡ cond b (n ∷ filter test ns) (filter test ns)
    more n e rest true = λ i. cons_option (e i) (rest i)
    more n e rest false = rest

    one_filtered : (o : Option OpenNeed) → slice_get needs p ≡ o → needs_at needs fs ≡ filter test ns
        → needs_at needs (cond (passes test o) (p ∷ fs) fs) ≡ filter test (cons_option o ns)
    one_filtered None e rest = rest
    one_filtered (Some n) e rest = more n e rest (test n)

  pub filtered_at : (test : OpenNeed → Bool) (places : List ℕ) → needs_at needs (filter (passes_at needs test) places) ≡ filter test (needs_at needs places)
  filtered_at test [] = refl
  filtered_at test (p ∷ ps) = one_filtered test p ps (slice_get needs p) refl (filtered_at test ps)

  pub all_filtered_at : (test : OpenNeed → Bool) (places : List ℕ) → length places ≤ length (filter (passes_at needs test) places)
      → needs_at needs places ≡ filter test (needs_at needs places)
  all_filtered_at test places long = ap (needs_at needs) (sym (filter_all (passes_at needs test) places long)) ∙ filtered_at test places

  pub places_filtered : (test : OpenNeed → Bool) (places : List ℕ) (at : ℕ) → has (filter (passes_at needs test) places) at ≡ true → has places at ≡ true
  places_filtered test places at h = (has_filtered (passes_at needs test) places at h).0

-- who is concerned ---------------------------------------------------------------------------------------------

pub on_of : (s : NeedSide) (ns : List OpenNeed) (m : ℕ) → is_on s ns m ≡ true → (need : OpenNeed) × Among need ns × (has (on_side s need) m ≡ true)
on_of s ns m h = some_of (λ need. has (on_side s need) m) ns h

pub on_by : (s : NeedSide) (ns : List OpenNeed) (m : ℕ) (need : OpenNeed) → Among need ns → has (on_side s need) m ≡ true → is_on s ns m ≡ true
on_by s ns m need there h = any_by (λ n. has (on_side s n) m) need ns there h

pub on_more : (s : NeedSide) (xs ys : List OpenNeed) (m : ℕ) → ((n : OpenNeed) → Among n xs → Among n ys) → is_on s xs m ≡ true → is_on s ys m ≡ true
on_more s xs ys m more h = any_more (λ n. has (on_side s n) m) xs ys more h

pub concerned_of : (ns : List OpenNeed) (m : ℕ) → is_concerned ns m ≡ true → (need : OpenNeed) × Among need ns × (concerns m need ≡ true)
concerned_of ns m h = elim (or_cases (is_on side.Blockers ns m) (is_on side.Helpers ns m) h) [
  | inl b ↦ (let (n, there, is) = on_of side.Blockers ns m b in (n, there, or_left (has n.blockers.items m) (has n.helpers.items m) is))
  | inr b ↦ (let (n, there, is) = on_of side.Helpers ns m b in (n, there, or_right (has n.blockers.items m) (has n.helpers.items m) is))
]

pub concerned_by : (ns : List OpenNeed) (m : ℕ) (need : OpenNeed) → Among need ns → concerns m need ≡ true → is_concerned ns m ≡ true
concerned_by ns m need there h = elim (or_cases (has need.blockers.items m) (has need.helpers.items m) h) [
  | inl b ↦ or_left (is_on side.Blockers ns m) (is_on side.Helpers ns m) (on_by side.Blockers ns m need there b)
  | inr b ↦ or_right (is_on side.Blockers ns m) (is_on side.Helpers ns m) (on_by side.Helpers ns m need there b)
]

pub concerned_more : (xs ys : List OpenNeed) (m : ℕ) → ((n : OpenNeed) → Among n xs → Among n ys) → is_concerned xs m ≡ true → is_concerned ys m ≡ true
concerned_more xs ys m more h = let (n, there, is) = concerned_of xs m h in concerned_by ys m n (more n there) is

-- a test of lists, told to be false
pub unset_by : (b : Bool) → (b ≡ true → ⊥) → b ≡ false
unset_by true none = absurd (none refl)
unset_by false none = refl

-- one of a list passes a test
pub any_has : (test : ℕ → Bool) (xs : List ℕ) (m : ℕ) → has xs m ≡ true → test m ≡ true → list_any test xs ≡ true
any_has test [] m h e = absurd (false≢true h)
any_has test (x ∷ xs) m h e = elim (or_cases (x == m) (has xs m) h) [
  | inl same ↦ or_left (test x) (list_any test xs) (ap test (same_of x m same) ∙ e)
  | inr behind ↦ or_right (test x) (list_any test xs) (any_has test xs m behind e)
]

pub reached_by : (test : ℕ → Bool) (need : OpenNeed) (m : ℕ) → concerns m need ≡ true → test m ≡ true → reaches test need ≡ true
reached_by test need m h passes = elim (or_cases (has need.blockers.items m) (has need.helpers.items m) h) [
  | inl b ↦ or_left (list_any test need.blockers.items) (list_any test need.helpers.items) (any_has test need.blockers.items m b passes)
  | inr b ↦ or_right (list_any test need.blockers.items) (list_any test need.helpers.items) (any_has test need.helpers.items m b passes)
]

pub reached_of : (test : ℕ → Bool) (need : OpenNeed) → reaches test need ≡ true → (m : ℕ) × (concerns m need ≡ true) × (test m ≡ true)
reached_of test need h = elim (or_cases (list_any test need.blockers.items) (list_any test need.helpers.items) h) [
  | inl b ↦ (let (m, there, is) = found need.blockers.items b in (m, or_left (has need.blockers.items m) (has need.helpers.items m) there, is))
  | inr b ↦ (let (m, there, is) = found need.helpers.items b in (m, or_right (has need.blockers.items m) (has need.helpers.items m) there, is))
]
  where
    found : (xs : List ℕ) → list_any test xs ≡ true → (m : ℕ) × (has xs m ≡ true) × (test m ≡ true)
    found [] e = absurd (false≢true e)
    found (x ∷ xs) e = by (or_cases (test x) (list_any test xs) e) (found xs)
      where
        by : (test x ≡ true) ⊎ (list_any test xs ≡ true) → (list_any test xs ≡ true → (m : ℕ) × (has xs m ≡ true) × (test m ≡ true))
            → (m : ℕ) × (has (x ∷ xs) m ≡ true) × (test m ≡ true)
        by (inl here) rest = (x, or_left (x == x) (has xs x) (itself x), here)
        by (inr behind) rest = let (m, there, is) = rest behind in (m, or_right (x == m) (has xs m) there, is)

-- needs that are within and helped -------------------------------------------------------------------------------

-- what is said of each need of a list, by the need
abbrev pub Each : (OpenNeed → Type 0) → List OpenNeed → Type 0
Each P ns = (need : OpenNeed) → Among need ns → P need

pub within_each : (needs : List OpenNeed) (count : ℕ) → AreWithin needs count → (need : OpenNeed) → Among need needs → IsWithin count need
within_each needs count within need there = let (at, e) = contained_at needs need (contained need needs there) in within need at e

pub helped_each : (needs : List OpenNeed) → AreHelped needs → (need : OpenNeed) → Among need needs → (m : ℕ) × (has need.helpers.items m ≡ true)
helped_each needs helped need there = let (at, e) = contained_at needs need (contained need needs there) in helped need at e

pub concerned_below : (needs : List OpenNeed) (count : ℕ) → AreWithin needs count → (ns : List OpenNeed) → ((n : OpenNeed) → Among n ns → Among n needs) → (m : ℕ)
    → is_concerned ns m ≡ true → m < count
concerned_below needs count within ns all m h =
    let (n, there, is) = concerned_of ns m h in
    let w = within_each needs count within n (all n there) in
    elim (or_cases (has n.blockers.items m) (has n.helpers.items m) is) [ inl b ↦ w.blockers m b | inr b ↦ w.helpers m b ]

-- needs at places are needs
pub at_places_in : (needs : List OpenNeed) (places : List ℕ) (n : OpenNeed) → Among n (needs_at needs places) → Among n needs
at_places_in needs places n h = among n needs (in_all needs places n (contained n (needs_at needs places) h))

pub within_at : (needs : List OpenNeed) (count : ℕ) → AreWithin needs count → (places : List ℕ) → AreWithin (needs_at needs places) count
within_at needs count within places need at e =
    within_each needs count within need (at_places_in needs places need (among_at (needs_at needs places) at need e))
