-- The setting of the change sets at some positions is a part of that of all.
use Rattle.std.proofs.Common.{◌≡◌, ◌∙◌, ◌<◌, ℕ, zero, suc, true, List, [], ◌∷◌, inl, inr, Contains, get_or, length, refl, sym, ap, subst, arith, Option}
use Rattle.std.proofs.Common.{Some, None, is_some}
use Rattle.std.specs.Prelude.{slice_get}
use Rattle.std.specs.List.{cons_option}
use Rattle.std.specs.List.Sorted.{IsStrictlySortedBy}
use Rattle.std.specs.Ordering.{nat_cmp}
use Rattle.std.proofs.lemmas.Bool.{cases_lt, false≢true}
use Rattle.std.proofs.lemmas.Map.Keys.{below_from_sorted}
use Rattle.std.proofs.lemmas.Option.{get_or_from_slice_get, slice_get-get_or, slice_get_read, slice_get_within}
use Rattle.clr_rows.specs.declared.cells.CellId.{CellId}
use Rattle.clr_rows.specs.Contents.{Changes, Content}
use Rattle.clr_rules.specs.declared.rules.Rule.{Rule}
use Rattle.clr_rules.proofs.Elements.{Among, contained}
use Rattle.clr_needs.specs.Members.{AreApart, after_at, setting}
use Rattle.clr_needs.specs.Parts.{setting_at, sets_at}
use Rattle.clr_needs.specs.Picks.{IsLesser}
use Rattle.clr_needs.specs.Settings.{Setting, changer, has}
use Rattle.clr_needs.proofs.Agreement.{IsInOneOrder, IsOneToOne}
use Rattle.clr_needs.proofs.BlockerLaws.{member_below, range_below}
use Rattle.clr_needs.proofs.Merges.{IsChanger, changer_is}
use Rattle.clr_needs.proofs.PartLaws.{IsChangerIn, IsPart, versions_of_part}
use Rattle.clr_needs.proofs.PositionLaws.{range_has}

-- a member by its position in a list, and by that among all
abbrev pub StandsIn : List ℕ → ℕ → ℕ → Type 0
StandsIn list k x = slice_get list k ≡ Some x

pub stands_of : (list : List ℕ) (x : ℕ) → Contains list x → (k : ℕ) × StandsIn list k x
stands_of list x (k, less, is) = (k, slice_get_read list (length list) k x refl less (sym is))

pub stands_among : (list : List ℕ) (k x : ℕ) → StandsIn list k x → Contains list x
stands_among list k x is = (k, slice_get_within list k x is, get_or_from_slice_get list k x x is)

-- ---- an ascending list keeps the order

module _ (list : List ℕ) (ascending : IsStrictlySortedBy nat_cmp list) where
  rise : (x z y w : ℕ) → StandsIn list x y → StandsIn list z w → x < z → y < w
  rise x z y w h j less =
      let below = below_from_sorted list x z 0 ascending less (slice_get_within list z w j) in
      let low = get_or_from_slice_get list x y 0 h in
      let high = get_or_from_slice_get list z w 0 j in
      omega (arith, below, low, high)

  one_place : (x z y : ℕ) → StandsIn list x y → StandsIn list z y → x ≡ z
  one_place x z y h j = elim (cases_lt x z) [
    | inl less ↦ (let below = rise x z y y h j less in absurd (omega (arith, below)))
    | inr most ↦ elim (cases_lt z x) [
      | inl less ↦ (let below = rise z x y y j h less in absurd (omega (arith, below)))
      | inr least ↦ omega (arith, most, least)
    ]
  ]

  one_number : (x y z : ℕ) → StandsIn list x y → StandsIn list x z → y ≡ z
  one_number x y z h j = let both : Some y ≡ Some z = sym h ∙ j in cc

  fall : (x z y w : ℕ) → StandsIn list x y → StandsIn list z w → y < w → x < z
  fall x z y w h j less = elim (cases_lt x z) [
    | inl below ↦ below
    | inr most ↦ elim (cases_lt z x) [
      | inl other ↦ (let above = rise z x w y j h other in absurd (omega (arith, above, less)))
      | inr least ↦ (let one : z ≡ x = omega (arith, most, least) in let alike = one_number x y w h (subst (λ i. StandsIn list i w) one j) in
          absurd (omega (arith, alike, less)))
    ]
  ]

  pub one_to_one : IsOneToOne (StandsIn list)
  one_to_one = record { one_right = one_number; one_left = one_place }

  pub in_one_order : IsInOneOrder IsLesser IsLesser (StandsIn list)
  in_one_order = record { rising = rise; falling = fall }

-- ---- the change sets at some positions

AreBelow : List Changes → List ℕ → Type 0
AreBelow sets list = (x : ℕ) → Among x list → x < length sets

some_set : (sets : List Changes) (x : ℕ) → x < length sets → (s : Changes) × (slice_get sets x ≡ Some s)
some_set [] x less = absurd (omega (arith, less))
some_set (s ∷ sets) zero less = (s, refl)
some_set (s ∷ sets) (suc x) less = some_set sets x (omega (arith, less))

count_at : (sets : List Changes) (list : List ℕ) → AreBelow sets list → length (sets_at sets list) ≡ length list
unfolding AreBelow
count_at sets [] below = refl
count_at sets (x ∷ xs) below =
    let (s, is) = some_set sets x (below x (inl refl)) in
    ap (λ o. length (cons_option o (sets_at sets xs))) is ∙ ap suc (count_at sets xs (λ y h. below y (inr h)))

set_of_place : (sets : List Changes) (list : List ℕ) → AreBelow sets list → (k x : ℕ) → StandsIn list k x → slice_get (sets_at sets list) k ≡ slice_get sets x
unfolding AreBelow
set_of_place sets [] below k x is = cc
set_of_place sets (y ∷ ys) below k x is = by (some_set sets y (below y (inl refl))) k is (λ k x is. set_of_place sets ys (λ z h. below z (inr h)) k x is)
  where
    by : (s : Changes) × (slice_get sets y ≡ Some s) → (k : ℕ) → StandsIn (y ∷ ys) k x
        → ((k x : ℕ) → StandsIn ys k x → slice_get (sets_at sets ys) k ≡ slice_get sets x)
        → slice_get (sets_at sets (y ∷ ys)) k ≡ slice_get sets x
    by (s, there) zero is more =
        let same : y ≡ x = cc in
        ap (λ o. slice_get (cons_option o (sets_at sets ys)) 0) there ∙ sym there ∙ ap (slice_get sets) same
    by (s, there) (suc k) is more = ap (λ o. slice_get (cons_option o (sets_at sets ys)) (suc k)) there ∙ more k x is

-- ---- the part

module _ (rules : List Rule) (root : Content) (sets : List Changes) where
  abbrev c : Setting ℕ
  c = setting rules root sets

  pub below_member : (x : ℕ) → x < length sets → has c.same c.members x ≡ true
  below_member x less = range_has (length sets) 0 x (omega arith) (omega (arith, less))

  module _ (list : List ℕ) (apart : AreApart sets) (ascending : IsStrictlySortedBy nat_cmp list) (members : (x : ℕ) → Contains list x → has c.same c.members x
      ≡ true) where
    abbrev d : Setting ℕ
    d = setting_at rules root sets list

    are_below : AreBelow sets list
    unfolding AreBelow
    are_below x h = member_below rules root sets x (members x (contained x list h))

    after_is : (k x : ℕ) (q : CellId) → StandsIn list k x → d.after k q ≡ c.after x q
    after_is k x q is = ap (λ s. after_at s q) (set_of_place sets list are_below k x is)

    -- a member of the part stands for one
    stands_for : (k : ℕ) → has d.same d.members k ≡ true → (x : ℕ) × StandsIn list k x
    stands_for k h =
        let less = range_below (length (sets_at sets list)) 0 k h in
        let count = count_at sets list are_below in
        (get_or list k 0, slice_get-get_or list k 0 (omega (arith, less, count)))

    member_of : (k x : ℕ) → StandsIn list k x → has d.same d.members k ≡ true
    member_of k x is =
        let less = slice_get_within list k x is in
        let count = count_at sets list are_below in
        range_has (length (sets_at sets list)) 0 k (omega arith) (omega (arith, less, count))

    changers_in : (q : CellId) (x y : Option ℕ) → IsChanger d d.members q x → IsChanger c c.members q y → IsChangerIn c d (StandsIn list) x y
    changers_in q None None h j = tt
    changers_in q None (Some y) h (member, changes) = λ (k, is).
        (let none = sym (after_is k y q is) ∙ h k (member_of k y is) in absurd (false≢true (sym (ap is_some none) ∙ changes)))
    changers_in q (Some k) None (member, changes) j =
        let (x, is) = stands_for k member in
        let none = after_is k x q is ∙ j x (members x (stands_among list k x is)) in
        absurd (false≢true (sym (ap is_some none) ∙ changes))
    changers_in q (Some k) (Some y) (member, changes) (one, its) =
        let (x, is) = stands_for k member in
        subst (StandsIn list k) (apart q x y (sym (ap is_some (after_is k x q is)) ∙ changes) its) is

    -- where no cell is changed by two members
    pub is_part : IsPart c d (StandsIn list)
    is_part = record {
      one = one_to_one list ascending;
      rules = refl;
      versions = versions_of_part c d (StandsIn list) (λ q. refl) after_is (λ q. changers_in q (changer d q) (changer c q) (changer_is d q) (changer_is c q));
    }
