-- The members up to the blockers of a need can be listed, where the blockers are.
use Rattle.std.proofs.Common.{◌≡◌, ◌∙◌, Bool, true, false, ◌||◌, List, [], ◌∷◌, ◌⊎◌, filter, inl, inr, sym}
use Rattle.std.proofs.lemmas.Bool.{false≢true, or_cases, or_left, or_right}
use Rattle.clr_needs.specs.Settings.{Setting, has}
use Rattle.clr_needs.proofs.NeedSubjects.{blocker_involves, involved_member}
use Rattle.clr_ordered_needs.specs.Helpers.{IsUpToBlocker}
use Rattle.clr_ordered_needs.specs.Laws.{UpToBlockersAreListed}
use Rattle.clr_ordered_needs.specs.Turns.{Order, IsUpTo}
use Rattle.clr_ordered_needs.proofs.Lists.{alike, here, of_some, some_of}

module _ {A : Type 0} (c : Setting A) where
  -- the members up to some ---------------------------------------------------------------------

  module _ (before : Order A) where
    is_up_to : List A → A → Bool
    is_up_to [] x = false
    is_up_to (y ∷ ys) x = (c.same x y || before x y) || is_up_to ys x

    up_to_one : (ys : List A) (x : A) → is_up_to ys x ≡ true → (y : A) × (has c.same ys y ≡ true) × IsUpTo before x y
    unfolding is_up_to
    up_to_one [] x h = absurd (false≢true h)
    up_to_one (y ∷ ys) x h = by (or_cases (c.same x y || before x y) (is_up_to ys x) h) (up_to_one ys x)
      where
        by : (c.same x y || before x y ≡ true) ⊎ (is_up_to ys x ≡ true) → (is_up_to ys x ≡ true → (z : A) × (has c.same ys z ≡ true) × IsUpTo before x z)
            → (z : A) × (has c.same (y ∷ ys) z ≡ true) × IsUpTo before x z
        by (inl one) more = elim (or_cases (c.same x y) (before x y) one) [
          | inl same ↦ (y, here c y ys, inl ((c.decides x y).0 same))
          | inr goes ↦ (y, here c y ys, inr goes)
        ]
        by (inr g) more = let (z, at, up) = more g in (z, or_right (c.same y z) (has c.same ys z) at, up)

    is_up_to_one : (ys : List A) (x y : A) → has c.same ys y ≡ true → IsUpTo before x y → is_up_to ys x ≡ true
    unfolding is_up_to
    is_up_to_one [] x y h up = absurd (false≢true h)
    is_up_to_one (z ∷ zs) x y h up = by (or_cases (c.same z y) (has c.same zs y) h) up (λ g. is_up_to_one zs x y g up)
      where
        by : (c.same z y ≡ true) ⊎ (has c.same zs y ≡ true) → IsUpTo before x y → (has c.same zs y ≡ true → is_up_to zs x ≡ true)
            → (c.same x z || before x z) || is_up_to zs x ≡ true
        by (inl same) (inl is) more =
            or_left (c.same x z || before x z) (is_up_to zs x) (or_left (c.same x z) (before x z) ((c.decides x z).1 (is ∙ sym ((c.decides z y).0 same))))
        by (inl same) (inr goes) more =
            or_left (c.same x z || before x z) (is_up_to zs x) (or_right (c.same x z) (before x z) (alike c (before x) z y same ∙ goes))
        by (inr g) up more = or_right (c.same x z || before x z) (is_up_to zs x) (more g)

    pub up_to_blockers_are_listed : UpToBlockersAreListed before c
    up_to_blockers_are_listed n a b blockers possible are = (
      filter (is_up_to blockers) c.members,
      record {
        part = λ x h. (of_some c (is_up_to blockers) c.members x h).0;
        only = λ x h. (let (y, at, up) = up_to_one blockers x (of_some c (is_up_to blockers) c.members x h).1 in (y, are.only y at, up));
        every = λ x member up. some_of c (is_up_to blockers) c.members x member (listed x up);
      },
    )
      where
        listed : (x : A) → IsUpToBlocker before c n a b x → is_up_to blockers x ≡ true
        listed x (y, block, up) =
            let member = involved_member c n a b y possible (blocker_involves c n a b y block) in is_up_to_one blockers x y (are.every y member block) up
