-- Members by position are covered under an order as they are by name.
use Rattle.std.proofs.Common.{◌≡◌, ◌∙◌, ℕ, refl, sym, subst, arith, Option, Some, None}
use Rattle.clr_needs.specs.declared.needs.VersionId.{VersionId}
use Rattle.clr_needs.specs.Positions.{StandsAt, by_position}
use Rattle.clr_needs.specs.Renamings.{IsSameLife, IsSameVersionIfAny}
use Rattle.clr_needs.specs.Settings.{Setting, Lifetime, Always, With, Without, Lived, version}
use Rattle.clr_needs.proofs.Agreement.{IsOneToOne, other_way}
use Rattle.clr_needs.proofs.PartLaws.{IsPart}
use Rattle.clr_needs.proofs.PartLives.{AreInside, IsVersionOfPart, version_in}
use Rattle.clr_needs.proofs.PositionLaws.{say_the_same}
use Rattle.clr_needs.proofs.RenamingLaws.{AreAlike, alike_by_part, turned_alike}
use Rattle.clr_ordered_needs.specs.Laws.{PositionsSayTheSame}
use Rattle.clr_ordered_needs.specs.Positions.{goes_before_if_any, order_at}
use Rattle.clr_ordered_needs.specs.Turns.{Order}
use Rattle.clr_ordered_needs.proofs.OrderedAgreement.{AreOrdersAlike, covered_to, uncovered_to}

module _ {A : Type 0} (c : Setting A) where
  abbrev pub stands : A → ℕ → Type 0
  stands = StandsAt c

  one_to_one : IsOneToOne stands
  one_to_one = record {
    one_right = λ n j k at there. (let up = at.first k there.there in let down = there.first j at.there in omega (arith, up, down));
    one_left = λ m n k at there. (let both : Some m ≡ Some n = sym at.there ∙ there.there in cc);
  }

  as_part : (x : Option (Lived A)) (y : Option (Lived ℕ)) → IsSameVersionIfAny stands x y → IsVersionOfPart stands x y
  as_part None None same = tt
  as_part None (Some m) same = absurd same
  as_part (Some l) None same = absurd same
  as_part (Some l) (Some m) same = version_in stands l m same

  by_positions : IsPart (by_position c) c stands
  by_positions = record {
    one = one_to_one;
    rules = refl;
    versions = λ v. as_part (version c v) (version (by_position c) v) ((say_the_same c).versions v);
  }

  named_inside : (l : Lifetime A) (m : Lifetime ℕ) → IsSameLife stands l m → AreInside stands m
  named_inside Always Always same y names = absurd names
  named_inside (With x) (With k) same y names = (x, subst (stands x) names same)
  named_inside (Without x) (Without k) same y names = (x, subst (stands x) names same)
  named_inside Always (With k) same y names = absurd same
  named_inside Always (Without k) same y names = absurd same
  named_inside (With x) Always same y names = absurd same
  named_inside (With x) (Without k) same y names = absurd same
  named_inside (Without x) Always same y names = absurd same
  named_inside (Without x) (With k) same y names = absurd same

  all_inside : (v : VersionId) (m : Lived ℕ) → version (by_position c) v ≡ Some m → AreInside stands m.life
  all_inside v m is = by (version c v) (subst (IsSameVersionIfAny stands (version c v)) is ((say_the_same c).versions v))
    where
      by : (x : Option (Lived A)) → IsSameVersionIfAny stands x (Some m) → AreInside stands m.life
      by None same = absurd same
      by (Some l) same = named_inside l.life m.life same.life

  pub alike : AreAlike c (by_position c) stands
  alike = alike_by_part c (by_position c) stands by_positions all_inside

module _ {A : Type 0} (before : Order A) (c : Setting A) where
  orders : AreOrdersAlike before (order_at before c.members) (StandsAt c)
  orders x z j k at there = λ i. goes_before_if_any before (sym at.there i) (sym there.there i)

  back_orders : AreOrdersAlike (order_at before c.members) before (other_way (StandsAt c))
  back_orders j k x z at there = sym (orders x z j k at there)

  pub positions_say_the_same : PositionsSayTheSame before c
  positions_say_the_same = record {
    covered = λ es. (
      covered_to before c (order_at before c.members) (by_position c) (StandsAt c) (alike c) orders es,
      covered_to (order_at before c.members) (by_position c) before c (other_way (StandsAt c)) (turned_alike c (by_position c) (StandsAt c) (alike c))
          back_orders es,
    );
    uncovered = λ n. (
      uncovered_to before c (order_at before c.members) (by_position c) (StandsAt c) (alike c) orders n,
      uncovered_to (order_at before c.members) (by_position c) before c (other_way (StandsAt c)) (turned_alike c (by_position c) (StandsAt c) (alike c))
          back_orders n,
    );
  }
