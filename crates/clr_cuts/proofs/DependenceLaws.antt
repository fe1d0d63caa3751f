-- Where a cut has the subjects of needs that involve a member, the same members are dependent over it.
use Rattle.std.proofs.Common.{◌↔◌, inl, inr, Option}
use Rattle.clr_rules.specs.Needs.{View}
use Rattle.clr_needs.specs.declared.needs.Need.{Need}
use Rattle.clr_needs.specs.Independence.{AreDependent, Involves}
use Rattle.clr_needs.specs.Settings.{Setting, Lived}
use Rattle.clr_cuts.specs.Cuts.{HasChanged, HasInvolved, AreSomeOf, with_root}
use Rattle.clr_cuts.proofs.CutLaws.{named_kept, possible_down, possible_up, serves_down, serves_up}

module _ {A : Type 0} (c : Setting A) (rows : View) (n : Need) (a : Lived A) (b : Option (Lived A)) (x : A) where
  pub involves_up : AreSomeOf rows c.root → Involves (with_root c rows) n a b x → Involves c n a b x
  involves_up part (inl names) = inl names
  involves_up part (inr (inl names)) = inr (inl names)
  involves_up part (inr (inr (v, l, serve, names))) = inr (inr (v, l, serves_up c rows part n a b v l serve, names))

  -- what serves with a life that names a member is of the cut
  pub involves_down : HasChanged c rows → Involves c n a b x → Involves (with_root c rows) n a b x
  involves_down changed (inl names) = inl names
  involves_down changed (inr (inl names)) = inr (inl names)
  involves_down changed (inr (inr (v, l, serve, names))) =
      inr (inr (v, l, serves_down c rows n a b v l (named_kept c rows changed v l x serve.is names) serve, names))

pub same_dependent : {A : Type 0} (c : Setting A) (rows : View) → AreSomeOf rows c.root → HasChanged c rows → HasInvolved c rows
    → (x y : A) → AreDependent (with_root c rows) x y ↔ AreDependent c x y
same_dependent c rows part changed involved x y = (
  λ h. (let (n, a, b, possible, one, two) = h in
      (n, a, b, possible_up c rows part n a b possible, involves_up c rows n a b x part one, involves_up c rows n a b y part two)),
  λ h. (let (n, a, b, possible, one, two) = h in (
    n,
    a,
    b,
    possible_down c rows n a b (involved n a b x possible one) possible,
    involves_down c rows n a b x changed one,
    involves_down c rows n a b y changed two,
  )),
)
