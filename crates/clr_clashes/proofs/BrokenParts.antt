-- The least need that some of the members break is the first of all broken ones of which they hold the members that break it.
use Rattle.std.proofs.Common.{◌≡◌, ◌∙◌, ◌<◌, ◌⊎◌, ℕ, List, [], ◌∷◌, inl, inr, Contains, Option, Some, None, get_or, length, map, refl, sym, ap, subst}
use Rattle.std.specs.Prelude.{slice_get}
use Rattle.std.specs.List.Sorted.{IsStrictlySortedBy}
use Rattle.std.specs.Ordering.{nat_cmp}
use Rattle.std.specs.declared.cmp.Ordering.TheVariants.{Less}
use Rattle.std.proofs.lemmas.Option.{slice_get-get_or}
use Rattle.clr_rows.specs.Contents.{Changes, Content}
use Rattle.clr_rules.specs.declared.rules.Rule.{Rule}
use Rattle.clr_rules.proofs.AskLemmas.{less_number}
use Rattle.clr_rules.proofs.Elements.{Among, all_by, among, among_mapped, contained, each_of, mapped_among}
use Rattle.clr_needs.specs.declared.needs.Need.{Need}
use Rattle.clr_needs.specs.declared.needs.VersionId.{VersionId}
use Rattle.clr_needs.specs.Covers.{CoverTogether, IsBlocker, IsLifeOf, IsUncovered}
use Rattle.clr_needs.specs.Members.{AreApart, setting}
use Rattle.clr_needs.specs.Needs.{IsTouched, IsTouchedBy, Lists, Serves}
use Rattle.clr_needs.specs.Orders.{need_cmp}
use Rattle.clr_needs.specs.Parts.{setting_at, sets_at}
use Rattle.clr_needs.specs.Picks.{Blocks, HasBoth, IsPick, Picks}
use Rattle.clr_needs.specs.Settings.{Setting, Lifetime, With, Without, Lived}
use Rattle.clr_needs.proofs.NeedSubjects.{subjects_once}
use Rattle.clr_needs.proofs.PartLaws.{IsPart, possible_up}
use Rattle.clr_needs.proofs.PartLives.{IsHidden, IsInside, IsLifeIn, IsSecondIn, IsVersionIn}
use Rattle.clr_needs.proofs.PartPositions.{StandsIn, below_member, in_one_order, is_part, one_to_one, stands_among, stands_of}
use Rattle.clr_needs.proofs.PositionLaws.{number_less}
use Rattle.clr_clashes.specs.BrokenNeeds.{AreBrokenNeeds, ArePlaces, IsBrokenNeed, IsFirstHeld, IsLeastBroken}
use Rattle.clr_clashes.specs.Clashes.{IsAllIn}
use Rattle.clr_clashes.specs.Laws.{PartsBreakListedNeeds}
use Rattle.clr_clashes.specs.ListedClashes.{ListedClash}
use Rattle.clr_clashes.proofs.ClashLaws.{listed}
use Rattle.clr_clashes.proofs.ListedLaws.{opposed_pair, unpicked_uncovered}
use Rattle.clr_clashes.proofs.PartNeeds.{are_shown, blockers_inside, down_serves, touched_down, touched_up, uncovered_down, uncovered_up, up_serves}
use Rattle.clr_clashes.proofs.PartNeeds.{with_down, with_up, without_down, without_up}
use Rattle.clr_clashes.proofs.PickThere.{pick_there}

-- no witnesses are picked for a need that nothing covers
uncovered_unpicked : (c : Setting ℕ) (n : Need) (a : Lived ℕ) (b : Option (Lived ℕ)) → IsUncovered c n a b → Picks c n None
uncovered_unpicked c n a b uncovered x y possible =
    let once = subjects_once c n x a y b possible uncovered.possible in
    subst (λ d. IsPick c n x d None) once.1 (subst (λ l. IsPick c n l b None) once.0 none)
  where
    none : IsPick c n a b None
    none = (uncovered.not_alone, λ x ((v, old), (w, new)). uncovered.not_together v w (opposed_pair c n a b x v w old new))

-- the members that break a need in the part, and in the whole -----------------------------------------

module _ (c d : Setting ℕ) (stands : ℕ → ℕ → Type 0) (part : IsPart c d stands) (n : Need) (p : Lived ℕ) (q : Option (Lived ℕ)) (a : Lived ℕ)
    (b : Option (Lived ℕ)) (first : IsVersionIn stands p a) (second : IsSecondIn stands q b) where
  -- a second subject that lives with a member
  second_up : (y : ℕ) (q b : Option (Lived ℕ)) → IsSecondIn stands q b → IsLifeOf (With y) q → (x : ℕ) × IsLifeOf (With x) b × stands y x
  second_up y None b is e = absurd e
  second_up y (Some l) None is e = absurd is
  second_up y (Some l) (Some m) is e =
      let (x, f, it) = with_up c d stands part y m.life (subst (λ k. IsLifeIn stands k m.life) (sym e) is.life) in
      (x, sym f, it)

  second_down : (x : ℕ) (q b : Option (Lived ℕ)) → IsSecondIn stands q b → IsLifeOf (With x) b → (y : ℕ) × IsLifeOf (With y) q × stands y x
  second_down x q None is e = absurd e
  second_down x None (Some m) is e = absurd is
  second_down x (Some l) (Some m) is e =
      let (y, f, it) = with_down c d stands part l.life x (subst (IsLifeIn stands l.life) (sym e) is.life) in
      (y, sym f, it)

  blocker_up : (y : ℕ) → IsBlocker d n p q y → (x : ℕ) × IsBlocker c n a b x × stands y x
  blocker_up y (inl e) = let (x, f, it) = with_up c d stands part y a.life (subst (λ k. IsLifeIn stands k a.life) e first.life) in (x, inl f, it)
  blocker_up y (inr (inl e)) = let (x, f, it) = second_up y q b second e in (x, inr (inl f), it)
  blocker_up y (inr (inr (v, l, serve, e))) =
      let (m, its, same) = up_serves c d stands part n p q a b first second v l serve in
      let (x, f, it) = without_up c d stands part y m.life (subst (λ k. IsLifeIn stands k m.life) e same.life) in
      (x, inr (inr (v, m, its, f)), it)

  blocker_down : (x : ℕ) → IsInside stands x → IsBlocker c n a b x → (y : ℕ) × IsBlocker d n p q y × stands y x
  blocker_down x inside (inl e) = let (y, f, it) = with_down c d stands part p.life x (subst (IsLifeIn stands p.life) e first.life) in (y, inl f, it)
  blocker_down x inside (inr (inl e)) = let (y, f, it) = second_down x q b second e in (y, inr (inl f), it)
  blocker_down x inside (inr (inr (v, m, serve, e))) =
      let (l, its, same) = down_serves c d stands part n p q a b first second v m serve (subst (λ k. ¬ (IsHidden stands k)) (sym e) (λ h. h)) in
      elim (without_down c d stands part l.life x (subst (IsLifeIn stands l.life) e same.life)) [
        | inl always ↦ absurd (always.1 inside)
        | inr (y, f, it) ↦ (y, inr (inr (v, l, its, f)), it)
      ]

-- places ------------------------------------------------------------------------------------------------

module _ (positions : List ℕ) (ascending : IsStrictlySortedBy nat_cmp positions) where
  abbrev at_place : ℕ → ℕ
  at_place at = get_or positions at 0

  place_stands : (at : ℕ) → at < length positions → StandsIn positions at (at_place at)
  place_stands at less = slice_get-get_or positions at 0 less

  -- places of ascending members ascend
  places_rise : (places : List ℕ) → ((at : ℕ) → Among at places → at < length positions) → IsStrictlySortedBy nat_cmp (map at_place places)
      → IsStrictlySortedBy nat_cmp places
  unfolding IsStrictlySortedBy
  places_rise [] below rises = tt
  places_rise (y ∷ ys) below rises = (
    all_by (λ z. nat_cmp y z ≡ Less) ys (λ z h. less_number y z ((in_one_order positions ascending).falling y z (at_place y) (at_place z)
        (place_stands y (below y (inl refl))) (place_stands z (below z (inr h)))
        (number_less (at_place y) (at_place z) (each_of (λ w. nat_cmp (at_place y) w ≡ Less) (at_place z) (map at_place ys) rises.0 (mapped_among at_place z ys h))))),
    places_rise ys (λ z h. below z (inr h)) rises.1,
  )

-- the law ------------------------------------------------------------------------------------------------

module _ (rules : List Rule) (root : Content) (sets : List Changes) (positions : List ℕ) (apart : AreApart sets)
    (ascending : IsStrictlySortedBy nat_cmp positions) (below : (x : ℕ) → Contains positions x → x < length sets) where
  abbrev c : Setting ℕ
  c = setting rules root sets

  abbrev d : Setting ℕ
  d = setting_at rules root sets positions

  abbrev stands : ℕ → ℕ → Type 0
  stands = StandsIn positions

  part : IsPart c d stands
  part = is_part rules root sets positions apart ascending (λ x h. below_member rules root sets x (below x h))

  -- a need that the part breaks is broken in the whole, by members of the part
  record IsBrokenAbove (n : Need) (xs : List ℕ) : Type 0 where
    broken : IsBrokenNeed c (record { members = xs; need = n })
    held : IsAllIn xs positions

  broken_above : (n : Need) (xs : List ℕ) → IsTouched d n → Picks d n None → Blocks c n xs → IsBrokenAbove n xs
  broken_above n xs (p, q, possible, touched) none blocks =
      let uncovered = unpicked_uncovered d n p q possible (none p q possible) in
      let u = possible_up c d stands part n p q possible in
      let above = uncovered_up c d stands part n p q u.first u.second u.in_first u.in_second uncovered u.possible in
      record {
        broken = record {
          touched = (u.first, u.second, u.possible, touched_up c d stands part n p q u.first u.second u.in_first u.in_second touched);
          none = uncovered_unpicked c n u.first u.second above;
          blockers = blocks;
        };
        held = λ y h. (let (k, is) = blockers_inside c d stands part n p q u.first u.second u.in_first u.in_second uncovered u.possible y
            (((blocks u.first u.second u.possible).exactly y).0 h) in stands_among positions k y is);
      }

  module _ (k : ListedClash) (places : List ℕ) (are : ArePlaces positions k.members places) (broken : IsBrokenNeed c k) (held : IsAllIn k.members positions) where
    abbrev n : Need
    n = k.need

    place_in : (at : ℕ) → Among at places → StandsIn positions at (at_place positions ascending at)
    place_in at h = place_stands positions ascending at (are.below at (contained at places h))

    module _ (a : Lived ℕ) (b : Option (Lived ℕ)) (p : Lived ℕ) (q : Option (Lived ℕ)) (first : IsVersionIn stands p a) (second : IsSecondIn stands q b)
        (blockers : Lists nat_cmp (IsBlocker c n a b) k.members) where
      place_blocks : (y : ℕ) → Among y places → IsBlocker d n p q y
      place_blocks y h =
          let x = at_place positions ascending y in
          let member = contained x k.members (subst (λ (xs : List ℕ). Among x xs) are.stand (mapped_among (at_place positions ascending) y places h)) in
          let (z, blocks, is) = blocker_down c d stands part n p q a b first second x (y, place_in y h) ((blockers.exactly x).0 member) in
          subst (IsBlocker d n p q) ((one_to_one positions ascending).one_left z y x is (place_in y h)) blocks

      blocker_placed : (y : ℕ) → IsBlocker d n p q y → Among y places
      blocker_placed y blocks =
          let (x, above, is) = blocker_up c d stands part n p q a b first second y blocks in
          let member = among x k.members ((blockers.exactly x).1 above) in
          let (z, there, at) = among_mapped (at_place positions ascending) x places (subst (λ (xs : List ℕ). Among x xs) (sym are.stand) member) in
          subst (λ w. Among w places) ((one_to_one positions ascending).one_left z y x (subst (StandsIn positions z) at (place_in z there)) is) there

      place_blockers : Lists nat_cmp (IsBlocker d n p q) places
      place_blockers = record {
        ascending = places_rise positions ascending places (λ at h. are.below at (contained at places h))
            (subst (IsStrictlySortedBy nat_cmp) (sym are.stand) blockers.ascending);
        exactly = λ y. (λ h. place_blocks y (among y places h), λ blocks. contained y places (blocker_placed y blocks));
      }

    broken_below : IsBrokenNeed d (record { members = places; need = n })
    broken_below =
        let (a, b, possible, touched) = broken.touched in
        let uncovered = unpicked_uncovered c n a b possible (broken.none a b possible) in
        let blockers = broken.blockers a b possible in
        let inside : ((y : ℕ) → IsBlocker c n a b y → IsInside stands y) = (λ y h. stands_of positions y (held y ((blockers.exactly y).1 h))) in
        let s = are_shown c d stands part n a b possible inside in
        let uncovered_here = uncovered_down c d stands part n s.first s.second a b s.in_first s.in_second uncovered inside s.possible in
        record {
          touched = (s.first, s.second, s.possible, touched_down c d stands part n s.first s.second a b s.in_first s.in_second uncovered inside s.possible touched);
          none = uncovered_unpicked d n s.first s.second uncovered_here;
          blockers = λ p q possible_here. (let once = subjects_once d n p s.first q s.second possible_here s.possible in
              subst (λ m. Lists nat_cmp (IsBlocker d n p m) places) once.1 (subst (λ l. Lists nat_cmp (IsBlocker d n l s.second) places) once.0
              (place_blockers a b s.first s.second s.in_first s.in_second blockers)));
        }

  module _ (ks : List ListedClash) (all : AreBrokenNeeds c ks) (k : ListedClash) (first : IsFirstHeld ks positions k) where
    -- a lesser need that is touched in the part has witnesses
    lesser_picked : (m : Need) → need_cmp m k.need ≡ Less → IsTouched d m → (p : VersionId × Option VersionId) × Picks d m (Some p)
    lesser_picked m less touched = by (pick_there rules root (sets_at sets positions) m (touched.0, touched.1, touched.2))
      where
        not_none : Picks d m None → ⊥
        not_none none = listed rules root sets m (λ xs blocks. (let above = broken_above m xs touched none blocks in
            first.first (record { members = xs; need = m }) ((all.exactly (record { members = xs; need = m })).1 above.broken) less above.held))

        by : (pick : Option (VersionId × Option VersionId)) × Picks d m pick → (p : VersionId × Option VersionId) × Picks d m (Some p)
        by (Some p, is) = (p, is)
        by (None, is) = absurd (not_none is)

    pub least_broken : (places : List ℕ) → ArePlaces positions k.members places → IsLeastBroken d (record { members = places; need = k.need })
    least_broken places are = record {
      broken = broken_below k places are ((all.exactly k).0 first.listed) first.held;
      first = lesser_picked;
    }

pub parts_break : PartsBreakListedNeeds
parts_break rules root sets ks positions k places apart all ascending below first are =
    least_broken rules root sets positions apart ascending below ks all k first places are
