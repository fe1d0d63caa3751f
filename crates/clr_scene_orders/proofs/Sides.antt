-- Open needs and their sides: where they are broken, and that no helper is a blocker.
use Rattle.std.proofs.Common.{◌≡◌, ◌∙◌, ◌<◌, ◌==◌, ◌||◌, ◌&&◌, ◌⊎◌, ℕ, zero, suc, Bool, true, false, not, List, [], ◌∷◌, Option, Some, None, inl, inr}
use Rattle.std.proofs.Common.{Contains, length, slice_get, refl, sym, ap, subst, arith}
use Rattle.std.specs.List.{list_all, list_any}
use Rattle.std.proofs.lemmas.Bool.{and_parts, cases_Bool, false≢true, true≢false}
use Rattle.clr_rows.specs.Contents.{Changes, Content}
use Rattle.clr_rules.specs.declared.rules.Rule.{Rule}
use Rattle.clr_rules.proofs.Elements.{among, any_by, contained, some_of}
use Rattle.clr_needs.specs.declared.needs.Need.{Need}
use Rattle.clr_needs.specs.Covers.{IsBlocker}
use Rattle.clr_needs.specs.Covers as unordered
use Rattle.clr_needs.specs.Members.{setting}
use Rattle.clr_needs.specs.Needs.{IsPossible, IsTouchedBy, Lists}
use Rattle.clr_needs.specs.Settings.{Setting, Lived}
use Rattle.clr_needs.specs.Settings as settings
use Rattle.clr_needs.proofs.BlockerLaws.{blocker_below}
use Rattle.clr_needs.proofs.NeedSubjects.{subjects_once}
use Rattle.clr_order_search.specs.declared.open_needs.OpenNeed.{OpenNeed}
use Rattle.clr_order_search.specs.OpenNeeds.{has, is_broken}
use Rattle.clr_order_search.proofs.Positions.{each_of, not_of}
use Rattle.clr_order_search.proofs.Rests.{itself, same_of}
use Rattle.clr_ordered_needs.specs.Covers.{HasCover}
use Rattle.clr_ordered_needs.specs.Helpers.{HelpComesFirst, IsHelper, IsServedAlways}
use Rattle.clr_ordered_needs.specs.States.{IsBrokenWith, IsOpen}
use Rattle.clr_ordered_needs.specs.Turns.{no_order}
use Rattle.clr_ordered_needs.proofs.EmptyOrder.{no_order_is_every_order}
use Rattle.clr_ordered_needs.proofs.HelpLaws.{cover_is_help}
use Rattle.clr_open_needs.specs.OpenNeeds.{AreSidesOf, HasSides, IsOpenNeed}
use Rattle.clr_open_needs.proofs.HelperLaws.{helper_below}

-- both tests of members in a list say the same
pub has_same : (xs : List ℕ) (x : ℕ) → settings.has (λ m n. m == n) xs x ≡ has xs x
has_same [] x = refl
has_same (y ∷ ys) x = ap (λ b. (y == x) || b) (has_same ys x)

pub has_of : (xs : List ℕ) (x : ℕ) → Contains xs x → has xs x ≡ true
has_of xs x h = any_by (λ y. y == x) x xs (among x xs h) (itself x)

pub of_has : (xs : List ℕ) (x : ℕ) → has xs x ≡ true → Contains xs x
of_has xs x h = let (y, there, is) = some_of (λ y. y == x) xs h in subst (Contains xs) (same_of y x is) (contained y xs there)

pub not_unset : (b : Bool) → not b ≡ true → b ≡ false
not_unset true h = absurd (false≢true h)
not_unset false h = refl

-- the subjects of an open need, by which it is possible, touched and uncovered
pub record Opens (c : Setting ℕ) (n : Need) : Type 0 where
  pub first : Lived ℕ
  pub second : Option (Lived ℕ)
  pub possible : IsPossible c n first second
  pub touched : IsTouchedBy c n first second
  pub uncovered : unordered.IsUncovered c n first second

pub opens : (c : Setting ℕ) (n : Need) → IsOpenNeed c n → Opens c n
opens c n is =
    let (a, b, uncovered) = is.uncovered in
    let (x, y, possible, touched) = is.touched in
    let once = subjects_once c n a x b y uncovered.possible possible in
    record {
      first = a;
      second = b;
      possible = uncovered.possible;
      touched = subst (λ l. IsTouchedBy c n l b) once.0 (subst (λ m. IsTouchedBy c n x m) once.1 touched);
      uncovered = uncovered;
    }

module _ (c : Setting ℕ) (n : Need) (o : Opens c n) where
  abbrev a : Lived ℕ
  a = o.first

  abbrev b : Option (Lived ℕ)
  b = o.second

  -- nothing covers it where no member goes before another
  none_covers : HasCover no_order c n a b → ⊥
  none_covers cover = (((no_order_is_every_order c).uncovered n a b).1 (o.uncovered, o.touched)).no_cover cover

  pub is_open : IsOpen c n a b
  is_open = record {
    possible = o.possible;
    touched = o.touched;
    none_always = λ serves. none_covers ((cover_is_help no_order c n a b o.possible).1 (inl serves));
  }

  pub sides_differ : (x : ℕ) → IsHelper c n a b x → IsBlocker c n a b x → ⊥
  sides_differ x helps blocks = none_covers ((cover_is_help no_order c n a b o.possible).1 (inr (x, x, helps, blocks, inl refl)))

  module _ (sides : OpenNeed) (are : HasSides c n sides) where
    pub blocks_of : (x : ℕ) → has sides.blockers.items x ≡ true → IsBlocker c n a b x
    blocks_of x h = ((are.blockers a b o.possible).exactly x).0 (of_has sides.blockers.items x h)

    pub of_blocks : (x : ℕ) → IsBlocker c n a b x → has sides.blockers.items x ≡ true
    of_blocks x h = has_of sides.blockers.items x (((are.blockers a b o.possible).exactly x).1 h)

    pub helps_of : (x : ℕ) → has sides.helpers.items x ≡ true → IsHelper c n a b x
    helps_of x h = ((are.helpers a b o.possible).exactly x).0 (of_has sides.helpers.items x h)

    pub of_helps : (x : ℕ) → IsHelper c n a b x → has sides.helpers.items x ≡ true
    of_helps x h = has_of sides.helpers.items x (((are.helpers a b o.possible).exactly x).1 h)

    -- where its sides say that it is broken, it is
    pub is_broken_with : (ts : List ℕ) → c.same ≡ (λ m n. m == n) → is_broken (has ts) sides ≡ true → IsBrokenWith c n a b ts
    is_broken_with ts same broken =
        let both = and_parts (list_all (has ts) sides.blockers.items) (not (list_any (has ts) sides.helpers.items)) broken in
        record {
          blockers = λ y h. told y ∙ each_of (has ts) sides.blockers.items both.0 y (of_blocks y h);
          helpers = λ x h. told x ∙ not_of (has ts) sides.helpers.items (not_unset (list_any (has ts) sides.helpers.items) both.1) x (of_helps x h);
        }
      where
        told : (x : ℕ) → settings.has c.same ts x ≡ has ts x
        told x = ap (λ (s : ℕ → ℕ → Bool). settings.has s ts x) same ∙ has_same ts x

-- sides and needs at one place -------------------------------------------------------------------------------

pub need_at : (c : Setting ℕ) (ns : List Need) (sides : List OpenNeed) → AreSidesOf c ns sides → (at : ℕ) (o : OpenNeed) → slice_get sides at ≡ Some o
    → (n : Need) × (slice_get ns at ≡ Some n) × HasSides c n o
need_at c [] [] are at o e = absurd (cc)
need_at c [] (s ∷ ss) are at o e = absurd are
need_at c (m ∷ ms) [] are at o e = absurd are
need_at c (m ∷ ms) (s ∷ ss) are zero o e = let one : s ≡ o = cc in (m, refl, subst (HasSides c m) one are.0)
need_at c (m ∷ ms) (s ∷ ss) are (suc at) o e = need_at c ms ss are.1 at o e

pub sides_at : (c : Setting ℕ) (ns : List Need) (sides : List OpenNeed) → AreSidesOf c ns sides → (at : ℕ) (n : Need) → slice_get ns at ≡ Some n
    → (o : OpenNeed) × (slice_get sides at ≡ Some o) × HasSides c n o
sides_at c [] sides are at n e = absurd (cc)
sides_at c (m ∷ ms) [] are at n e = absurd are
sides_at c (m ∷ ms) (s ∷ ss) are zero n e = let one : m ≡ n = cc in (s, refl, subst (λ k. HasSides c k s) one are.0)
sides_at c (m ∷ ms) (s ∷ ss) are (suc at) n e = sides_at c ms ss are.1 at n e
