-- Where no helper of an open need stands before a blocker, the members up to its last blocker break it.
use Rattle.std.proofs.Common.{◌≡◌, ◌∙◌, ◌<◌, ◌≤◌, ◌+◌, ◌==◌, ◌⊎◌, ℕ, zero, suc, true, false, List, [], ◌∷◌, Option, Some, None, inl, inr, Contains}
use Rattle.std.proofs.Common.{length, nat_lt, slice_get, take, get_or, refl, sym, ap, subst, arith}
use Rattle.std.specs.List.{range_with_len}
use Rattle.std.specs.declared.cmp.Ordering.TheVariants.{Less}
use Rattle.std.proofs.lemmas.Bool.{cases_Bool, false≢true, lt-ltb, ltb-true, or_cases}
use Rattle.std.proofs.lemmas.Option.{slice_get_within}
use Rattle.clr_rows.specs.Contents.{Changes, Content}
use Rattle.clr_rules.specs.declared.rules.Rule.{Rule}
use Rattle.clr_rules.proofs.Elements.{not_both, not_itself}
use Rattle.clr_needs.specs.declared.needs.Need.{Need}
use Rattle.clr_needs.specs.declared.needs.VersionId.{VersionId}
use Rattle.clr_needs.specs.Covers.{IsBlocker, IsLifeOf}
use Rattle.clr_needs.specs.Members.{setting}
use Rattle.clr_needs.specs.Needs.{IsBesideIfAny, IsChanged, IsPossible, IsTouchedBy, is_fresh}
use Rattle.clr_needs.specs.Orders.{need_cmp}
use Rattle.clr_needs.specs.Settings.{Setting, Lifetime, Always, With, Without, Lived, changer, version}
use Rattle.clr_needs.specs.Settings as settings
use Rattle.clr_needs.proofs.BlockerLaws.{range_below}
use Rattle.clr_needs.proofs.Lives.{new_is, version_by, version_by_changer}
use Rattle.clr_needs.proofs.NeedOrder.{need_total, unread}
use Rattle.clr_needs.proofs.NeedSubjects.{subjects_once}
use Rattle.clr_needs.proofs.Placing.{PlaceOf, after, before, here, place_of}
use Rattle.clr_order_search.specs.declared.open_needs.OpenNeed.{OpenNeed}
use Rattle.clr_order_search.specs.OpenNeeds.{has}
use Rattle.clr_order_search.proofs.Rests.{has_at}
use Rattle.clr_ordered_needs.specs.Covers.{HasCover, IsUncovered}
use Rattle.clr_ordered_needs.specs.Helpers.{HelpComesFirst, IsHelper, IsServedAlways}
use Rattle.clr_ordered_needs.proofs.HelpLaws.{cover_is_help}
use Rattle.clr_order_knots.proofs.Lists.{contained_at}
use Rattle.clr_open_needs.specs.declared.listing.OpenNeeds.{OpenNeeds}
use Rattle.clr_open_needs.specs.OpenNeeds.{AreOpenNeeds, HasSides, IsPicked}
use Rattle.clr_scene_orders.proofs.Covering.{contained_of, picked_helps}
use Rattle.clr_scene_orders.proofs.Sides.{Opens, blocks_of, has_same, helps_of, is_open, need_at, of_blocks, of_helps, opens, sides_at, sides_differ}
use Rattle.clr_listed_covers.specs.Late.{IsEndOf, IsLateAt}
use Rattle.clr_listed_covers.specs.declared.listed_covers.ListedCover.{ListedCover}
use Rattle.clr_listed_covers.specs.declared.listed_covers.ListedCover.TheVariants as listed
use Rattle.clr_listed_covers.specs.ListedCovers.{IsBrokenAsListed, IsBrokenAt, IsListedCover}
use Rattle.clr_listed_covers.proofs.LateLaws.{before_or_behind, help_in_list, no_help_in_list, position_there}

-- a touched need has a blocker -----------------------------------------------------------------------------

module _ (c : Setting ℕ) (n : Need) where
  new_lives : (v : VersionId) (l : Lived ℕ) → version c v ≡ Some l → v.fresh ≡ true → (x : ℕ) × (l.life ≡ With x)
  new_lives v l e new = by (changer c v.cell) (sym (ap (λ f. version_by c f v.cell (changer c v.cell)) new) ∙ sym (version_by_changer c v) ∙ e)
    where
      by : (x : Option ℕ) → version_by c true v.cell x ≡ Some l → (x : ℕ) × (l.life ≡ With x)
      by None is = absurd (cc)
      by (Some m) is = (m, (new_is c m (c.after m v.cell) l is).1)

  changed_lives : (k : Lifetime ℕ) → IsChanged k → (x : ℕ) × (k ≡ Without x)
  changed_lives (Without x) h = (x, refl)
  changed_lives Always h = absurd h
  changed_lives (With x) h = absurd h

  some_blocker : (a : Lived ℕ) (b : Option (Lived ℕ)) → IsPossible c n a b → IsTouchedBy c n a b → (x : ℕ) × IsBlocker c n a b x
  some_blocker a b possible (inr (v, l, serve, changed)) = let (x, e) = changed_lives l.life changed in (x, inr (inr (v, l, serve, e)))
  some_blocker a b possible (inl fresh) = by (or_cases n.first.fresh (is_fresh n.second) fresh)
    where
      second : (w : Option VersionId) (d : Option (Lived ℕ)) → IsBesideIfAny c n.first a w d → is_fresh w ≡ true → (x : ℕ) × IsLifeOf (With x) d
      second None d is new = absurd (false≢true new)
      second (Some w) None is new = absurd is
      second (Some w) (Some d) is new = let (x, e) = new_lives w d is.is new in (x, sym e)

      by : (n.first.fresh ≡ true) ⊎ (is_fresh n.second ≡ true) → (x : ℕ) × IsBlocker c n a b x
      by (inl new) = let (x, e) = new_lives n.first a possible.first_is new in (x, inl e)
      by (inr new) = let (x, e) = second n.second b possible.second_is new in (x, inr (inl e))

-- the positions below a number ---------------------------------------------------------------------------------

below_range : (count x : ℕ) → x < count → settings.has (λ i j. i == j) (range_with_len 0 count) x ≡ true
below_range count x less = has_same (range_with_len 0 count) x ∙ has_at (range_with_len 0 count) x x (position_there count x less)

module _ (rules : List Rule) (root : Content) (sets : List Changes) (found : OpenNeeds) (are : AreOpenNeeds (setting rules root sets) found) where
  abbrev c : Setting ℕ
  c = setting rules root sets

  abbrev sides : List OpenNeed
  sides = found.sides.items

  -- each lesser touched need is covered ------------------------------------------------------------------------

  module _ (at : ℕ) (n : Need) (there : slice_get found.needs.items at ≡ Some n) (late : IsLateAt sides at) where
    n_is : n ≡ get_or found.needs.items at unread
    n_is = is found.needs.items at there
      where
        is : (ns : List Need) (k : ℕ) → slice_get ns k ≡ Some n → n ≡ get_or ns k unread
        is [] k e = absurd (cc)
        is (m ∷ ms) zero e = cc
        is (m ∷ ms) (suc k) e = is ms k e

    -- an open need that stands before it is helped
    earlier_helped : (m : Need) (d : Lived ℕ) (e : Option (Lived ℕ)) → IsPossible c m d e → Contains (take at found.needs.items) m
        → HelpComesFirst nat_lt c m d e
    earlier_helped m d e possible h =
        let (k, less, f) = placed found.needs.items at h in
        let (side, g, has_sides) = sides_at c found.needs.items sides are.sides k m f in
        let o = opens c m ((are.needs.exactly m).0 (contained_of found.needs.items k m f)) in
        let help = help_in_list side (late.first side k less g) in
        let once = subjects_once c m d o.first e o.second possible o.possible in
        subst (λ l. HelpComesFirst nat_lt c m l e) once.0 (subst (λ l. HelpComesFirst nat_lt c m o.first l) once.1 (
          help.helper,
          help.blocker,
          helps_of c m o side has_sides help.helper help.helps,
          blocks_of c m o side has_sides help.blocker help.blocks,
          inr (lt-ltb help.helper help.blocker help.in_order),
        ))
      where
        placed : (ns : List Need) (count : ℕ) → Contains (take count ns) m → (k : ℕ) × (k < count) × (slice_get ns k ≡ Some m)
        placed ns count h = let (k, e) = contained_at (take count ns) m h in by ns count k e
          where
            by : (ns : List Need) (count k : ℕ) → slice_get (take count ns) k ≡ Some m → (j : ℕ) × (j < count) × (slice_get ns j ≡ Some m)
            by [] zero k e = absurd (cc)
            by [] (suc count) k e = absurd (cc)
            by (z ∷ zs) zero k e = absurd (cc)
            by (z ∷ zs) (suc count) zero e = (zero, omega arith, e)
            by (z ∷ zs) (suc count) (suc k) e = let (j, less, f) = by zs count k e in (suc j, omega (arith, less), f)

    least : (m : Need) (d : Lived ℕ) (e : Option (Lived ℕ)) → need_cmp m n ≡ Less → IsPossible c m d e → IsTouchedBy c m d e → HasCover nat_lt c m d e
    least m d e lesser possible touched = (cover_is_help nat_lt c m d e possible).1 (by (are.told m (d, e, possible, touched)))
      where
        beside : PlaceOf need_cmp found.needs.items m at n → IsServedAlways c m d e ⊎ HelpComesFirst nat_lt c m d e
        beside (before h) = inr (earlier_helped m d e possible h)
        beside (here same) = absurd (not_itself need_total m (subst (λ k. need_cmp m k ≡ Less) same lesser))
        beside (after f) = absurd (not_both need_total m n lesser f)

        by : Contains found.needs.items m ⊎ IsPicked c m → IsServedAlways c m d e ⊎ HelpComesFirst nat_lt c m d e
        by (inr (p, picks)) = picked_helps nat_lt c m d e p (picks d e possible)
        by (inl listed) = beside (place_of need_cmp found.needs.items at n unread m (slice_get_within found.needs.items at n there) n_is are.needs.ascending
            listed)

    -- the first members break it -------------------------------------------------------------------------------

    module _ (side : OpenNeed) (has_sides : HasSides c n side) (none : (x y : ℕ) → has side.helpers.items x ≡ true → has side.blockers.items y ≡ true
        → ¬ (x < y)) (count : ℕ) (end : IsEndOf side.blockers.items count) (o : Opens c n) where
      not_before : (x y : ℕ) → IsHelper c n o.first o.second x → IsBlocker c n o.first o.second y → ¬ (x < y)
      not_before x y helps blocks = none x y (of_helps c n o side has_sides x helps) (of_blocks c n o side has_sides y blocks)

      uncovered : IsUncovered nat_lt c n o.first o.second
      uncovered = record {
        possible = o.possible;
        touched = o.touched;
        no_cover = λ cover. by ((cover_is_help nat_lt c n o.first o.second o.possible).0 cover);
      }
        where
          by : IsServedAlways c n o.first o.second ⊎ HelpComesFirst nat_lt c n o.first o.second → ⊥
          by (inl always) = (is_open c n o).none_always always
          by (inr (x, y, helps, blocks, inl same)) = sides_differ c n o y (subst (IsHelper c n o.first o.second) same helps) blocks
          by (inr (x, y, helps, blocks, inr less)) = not_before x y helps blocks (ltb-true x y less)

      -- the last of the blockers
      pub record HasLast : Type 0 where
        pub last : ℕ
        pub ends : count ≡ suc last
        pub blocks : IsBlocker c n o.first o.second last

      has_last : HasLast
      has_last = by end.last
        where
          by : ((side.blockers.items ≡ []) × (count ≡ 0)) ⊎ ((m : ℕ) × (has side.blockers.items m ≡ true) × (count ≡ suc m)) → HasLast
          by (inr (m, there, ends)) = record { last = m; ends = ends; blocks = blocks_of c n o side has_sides m there }
          by (inl (empty, zero_end)) =
              let (x, blocks) = some_blocker c n o.first o.second o.possible o.touched in
              absurd (false≢true (sym (ap (λ xs. has xs x) empty) ∙ of_blocks c n o side has_sides x blocks))

      helper_out : (x : ℕ) → IsHelper c n o.first o.second x → settings.has c.same (range_with_len 0 count) x ≡ false
      helper_out x helps = elim (cases_Bool (settings.has c.same (range_with_len 0 count) x)) [
        | inr out ↦ out
        | inl h ↦ absurd (by (range_below count 0 x h))
      ]
        where
          by : x < 0 + count → ⊥
          by less =
              let l = has_last in
              let ends = l.ends in
              beside l (before_or_behind x l.last) (omega (arith, less, ends))
            where
              beside : (l : HasLast) → (x < l.last) ⊎ (l.last ≤ x) → x ≤ l.last → ⊥
              beside l (inl earlier) up = not_before x l.last helps l.blocks earlier
              beside l (inr past) up =
                  let last = l.last in
                  let same : x ≡ last = omega (arith, past, up) in
                  sides_differ c n o last (subst (IsHelper c n o.first o.second) same helps) l.blocks

      pub broken : IsBrokenAsListed c n count
      broken =
          let l = has_last in
          record {
            first = o.first;
            second = o.second;
            uncovered = uncovered;
            least = least;
            last = l.last;
            ends = l.ends;
            blocks = l.blocks;
            broken = record {
              blockers = λ y h. below_range count y (end.below y (of_blocks c n o side has_sides y h));
              helpers = helper_out;
            };
          }

    -- by the sides at its place
    pub broken_as_listed : (side : OpenNeed) (count : ℕ) → slice_get sides at ≡ Some side → IsEndOf side.blockers.items count → IsBrokenAsListed c n count
    broken_as_listed side count e end =
        let (s, f, has_sides) = sides_at c found.needs.items sides are.sides at n there in
        let one : Some s ≡ Some side = sym f ∙ e in
        let same : s ≡ side = cc in
        let two : Some late.need ≡ Some side = sym late.there ∙ e in
        let same_too : late.need ≡ side = cc in
        broken side (subst (HasSides c n) same has_sides)
        (subst (λ (t : OpenNeed). (x y : ℕ) → has t.helpers.items x ≡ true → has t.blockers.items y ≡ true → ¬ (x < y)) same_too
        (no_help_in_list late.need late.late)) count end
        (opens c n ((are.needs.exactly n).0 (contained_of found.needs.items at n there)))

  -- the need and the sides at the place are there
  pub late_within : (at : ℕ) → IsLateAt sides at → (n : Need) × (slice_get found.needs.items at ≡ Some n)
  late_within at late = let (n, e, has_sides) = need_at c found.needs.items sides are.sides at late.need late.there in (n, e)

  pub within_needs : (at : ℕ) → IsLateAt sides at → at < length found.needs.items
  within_needs at late = let (n, e) = late_within at late in slice_get_within found.needs.items at n e

  pub within_sides : (at : ℕ) → IsLateAt sides at → at < length sides
  within_sides at late = slice_get_within sides at late.need late.there

  pub listed_broken : (at : ℕ) → IsLateAt sides at → (cover : ListedCover) → IsBrokenAt found at cover → IsListedCover c cover
  listed_broken at late (listed.Broken need count) (side, e, f, end) = broken_as_listed at need e late side count f end
  listed_broken at late (listed.Covered pairs entries) is = absurd is
