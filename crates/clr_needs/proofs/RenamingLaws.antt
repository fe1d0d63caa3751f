-- Settings with the same members but for their names have the same needs, and the same versions serve and cover them.
use Rattle.std.proofs.Common.{◌≡◌, subst, List, Option, Some}
use Rattle.clr_needs.specs.declared.needs.Need.{Need}
use Rattle.clr_needs.specs.declared.needs.VersionId.{VersionId}
use Rattle.clr_needs.specs.Blocking.{IsBlockerOf}
use Rattle.clr_needs.specs.Covers.{AreCovered, Entry, IsUncoveredNeed}
use Rattle.clr_needs.specs.Independence.{AreDependent, Involves}
use Rattle.clr_needs.specs.Needs.{IsPossible, IsPossibleNeed, IsServing, IsTouched}
use Rattle.clr_needs.specs.Picks.{PicksBy}
use Rattle.clr_needs.specs.Settings.{Setting, Lived, version}
use Rattle.clr_needs.proofs.Agreement.{Agree, IsInOneOrder, IsOneToOne, alone_to, blocker_at, entry_to, involves_to, other_way, pick_to, together_to}
use Rattle.clr_needs.proofs.Agreement.{touched_to, turned_one, turned_round}
use Rattle.clr_needs.proofs.NeedSubjects.{each_involved}
use Rattle.clr_needs.proofs.PartLaws.{AllInside, IsPart, agreeing, matched, possible_up}
use Rattle.clr_needs.proofs.PartLives.{AreInside, IsInside}

-- a possible need of another setting that agrees with this one
pub record HasAlike {A B : Type 0} (c : Setting A) (d : Setting B) (stands : A → B → Type 0) (n : Need) (a : Lived A) (b : Option (Lived A)) : Type 0 where
  pub first : Lived B
  pub second : Option (Lived B)
  pub possible : IsPossible d n first second
  pub agree : Agree c d stands n a b first second

-- each possible need of one setting agrees with one of the other
pub record AreAlike {A B : Type 0} (c : Setting A) (d : Setting B) (stands : A → B → Type 0) : Type 0 where
  pub one : IsOneToOne stands
  pub to : (n : Need) (a : Lived A) (b : Option (Lived A)) → IsPossible c n a b → HasAlike c d stands n a b
  pub back : (n : Need) (p : Lived B) (q : Option (Lived B)) → IsPossible d n p q → HasAlike d c (other_way stands) n p q

pub turned_alike : {A B : Type 0} (c : Setting A) (d : Setting B) (stands : A → B → Type 0) → AreAlike c d stands → AreAlike d c (other_way stands)
turned_alike c d stands alike = record { one = turned_one stands alike.one; to = alike.back; back = alike.to }

-- a part from which nobody is left out
module _ {A B : Type 0} (c : Setting A) (d : Setting B) (stands : A → B → Type 0) (part : IsPart d c stands) (inside : (v : VersionId) (m : Lived B)
    → version d v ≡ Some m → AreInside stands m.life) where
  all_inside : (n : Need) (p : Lived B) (q : Option (Lived B)) → IsPossible d n p q → AllInside d c stands n p q
  all_inside n p q possible y involves = each_involved d n (IsInside stands) (λ v m is. inside v m is) p q y possible involves

  pub alike_by_part : AreAlike c d stands
  alike_by_part = record {
    one = part.one;
    to = λ n a b possible. (let subjects = possible_up d c stands part n a b possible in
        let match = matched d c stands part n a b possible subjects (all_inside n subjects.first subjects.second subjects.possible) in
        record { first = match.first; second = match.second; possible = match.possible; agree = match.agree });
    back = λ n p q possible. (let found = agreeing d c stands part n p q possible (all_inside n p q possible) in
        record {
          first = found.first;
          second = found.second;
          possible = found.possible;
          agree = turned_round stands c d n found.first found.second p q
              found.agree;
        });
  }

-- one way --------------------------------------------------------------------------------------------

module _ {A B : Type 0} (c : Setting A) (d : Setting B) (stands : A → B → Type 0) (alike : AreAlike c d stands) where
  pub possible_to : (n : Need) → IsPossibleNeed c n → IsPossibleNeed d n
  possible_to n (a, b, possible) = let s = alike.to n a b possible in (s.first, s.second, s.possible)

  pub serving_to : (n : Need) (v : VersionId) → IsServing c n v → IsServing d n v
  serving_to n v (a, b, l, possible, serve) =
      let s = alike.to n a b possible in
      let (m, it, same) = s.agree.to v l serve in
      (s.first, s.second, m, s.possible, it)

  pub touched_need_to : (n : Need) → IsTouched c n → IsTouched d n
  touched_need_to n (a, b, possible, touched) =
      let s = alike.to n a b possible in
      (s.first, s.second, s.possible, touched_to c d stands alike.one n a b s.first s.second s.agree touched)

  pub blocker_of_to : (n : Need) (m : A) (k : B) → stands m k → IsBlockerOf c n m → IsBlockerOf d n k
  blocker_of_to n m k at (a, b, possible, blocks) =
      let s = alike.to n a b possible in
      (s.first, s.second, s.possible, blocker_at c d stands alike.one n a b s.first s.second s.agree m k at blocks)

  pub dependent_to : (x y : A) (j k : B) → stands x j → stands y k → AreDependent c x y → AreDependent d j k
  dependent_to x y j k at there (n, a, b, possible, first, second) =
      let s = alike.to n a b possible in
      (n, s.first, s.second, s.possible, named s x j at first, named s y k there second)
    where
      named : (s : HasAlike c d stands n a b) (x : A) (j : B) → stands x j → Involves c n a b x → Involves d n s.first s.second j
      named s x j at involves =
          let (i, is, it) = involves_to c d stands alike.one n a b s.first s.second s.agree x involves in
          subst (Involves d n s.first s.second) (alike.one.one_right x i j is at) it

  -- ---- by what is so in the other

  abbrev from : (n : Need) (p : Lived B) (q : Option (Lived B)) (s : HasAlike d c (other_way stands) n p q) → Agree c d stands n s.first s.second p q
  from n p q s = turned_round (other_way stands) d c n p q s.first s.second s.agree

  pub covered_to : (es : List Entry) → AreCovered c es → AreCovered d es
  covered_to es covered n p q possible touched =
      let s = alike.back n p q possible in
      entry_to c d stands alike.one n s.first s.second p q (from n p q s) es
      (covered n s.first s.second s.possible (touched_to d c (other_way stands) (turned_one stands alike.one) n p q s.first s.second s.agree touched))

  pub uncovered_to : (n : Need) → IsUncoveredNeed c n → IsUncoveredNeed d n
  uncovered_to n (a, b, uncovered) =
      let s = alike.to n a b uncovered.possible in
      let back = turned_round stands c d n a b s.first s.second s.agree in
      let one = turned_one stands alike.one in (
        s.first,
        s.second,
        record {
          possible = s.possible;
          not_alone = λ v covers. uncovered.not_alone v (alone_to d c (other_way stands) one n s.first s.second a b back v covers);
          not_together = λ v w covers. uncovered.not_together v w (together_to d c (other_way stands) one n s.first s.second a b back v w covers);
        },
      )

  pub picks_to : (before : A → A → Type 0) (earlier : B → B → Type 0) → IsInOneOrder before earlier stands
      → (n : Need) (pick : Option (VersionId × Option VersionId)) → PicksBy before c n pick → PicksBy earlier d n pick
  picks_to before earlier order n pick picks p q possible =
      let s = alike.back n p q possible in
      pick_to before earlier c d stands alike.one order n s.first s.second p q (from n p q s) pick (picks s.first s.second s.possible)
