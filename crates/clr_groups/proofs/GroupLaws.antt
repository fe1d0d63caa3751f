-- Each touched need of all members is touched in just one group, is picked the same witnesses there, and is broken by the same members.
use Rattle.std.proofs.Common.{◌≡◌, ◌∙◌, ◌<◌, ℕ, true, List, [], ◌∷◌, inl, inr, Contains, map, refl, sym, ap, subst, arith, Option, Some}
use Rattle.std.specs.Prelude.{slice_get}
use Rattle.std.specs.List.Sorted.{IsStrictlySortedBy}
use Rattle.std.specs.Ordering.{nat_cmp}
use Rattle.std.specs.declared.cmp.Ordering.TheVariants.{Less}
use Rattle.std.proofs.lemmas.Option.{get_or_from_slice_get, slice_get_read, slice_get_within}
use Rattle.clr_rows.specs.Contents.{Changes, Content}
use Rattle.clr_rules.specs.declared.rules.Rule.{Rule}
use Rattle.clr_rules.proofs.AskLemmas.{less_number}
use Rattle.clr_rules.proofs.Elements.{Among, all_by, among, among_mapped, contained, each_of, mapped_among}
use Rattle.clr_needs.specs.declared.needs.Need.{Need}
use Rattle.clr_needs.specs.declared.needs.VersionId.{VersionId}
use Rattle.clr_needs.specs.Covers.{IsBlocker}
use Rattle.clr_needs.specs.Independence.{AreDependent, Involves}
use Rattle.clr_foot.specs.Involvement.{IsInvolving}
use Rattle.clr_needs.specs.Members.{AreApart, setting}
use Rattle.clr_needs.specs.Needs.{IsPossible, IsTouched, IsTouchedBy, Lists}
use Rattle.clr_needs.specs.Parts.{setting_at}
use Rattle.clr_needs.specs.Picks.{Blocks, IsLesser, IsPick, Picks}
use Rattle.clr_needs.specs.Settings.{Setting, Lived, has}
use Rattle.clr_needs.proofs.Agreement.{Agree, blocker_to, other_way, pick_to, touched_to, turned_one, turned_order, turned_round}
use Rattle.clr_foot.proofs.InvolvedLaws.{both_depend}
use Rattle.clr_needs.proofs.NeedSubjects.{involved_member, subjects_once, touched_involves}
use Rattle.clr_needs.proofs.PartLaws.{IsClosedPart, IsPart, IsTouchedInside, agreeing, all_inside, touched_inside}
use Rattle.clr_needs.proofs.PartPositions.{StandsIn, in_one_order, is_part, stands_among, stands_of}
use Rattle.clr_needs.proofs.PositionLaws.{number_less}
use Rattle.clr_groups.specs.Groups.{AreGroups, position_of}
use Rattle.clr_groups.specs.Laws.{GroupsSplitNeeds, IsSameNeed, SplitNeeds}
use Rattle.clr_groups.proofs.Chains.{joined_by}

-- rising numbers that are mapped to rising ones
rising_among : (f : ℕ → ℕ) (xs : List ℕ) → ((x y : ℕ) → Among x xs → Among y xs → x < y → f x < f y) → IsStrictlySortedBy nat_cmp xs
    → IsStrictlySortedBy nat_cmp (map f xs)
unfolding IsStrictlySortedBy
rising_among f [] keeps p = tt
rising_among f (x ∷ xs) keeps p = (
  all_by (λ y. nat_cmp (f x) y ≡ Less) (map f xs) (λ y h. let m = among_mapped f y xs h in
      subst (λ w. nat_cmp (f x) w ≡ Less) m.2
      (less_number (f x) (f m.0) (keeps x m.0 (inl refl) (inr m.1) (number_less x m.0 (each_of (λ w. nat_cmp x w ≡ Less) m.0 xs p.0 m.1))))),
  rising_among f xs (λ y z h k. keeps y z (inr h) (inr k)) p.1,
)

-- one group ----------------------------------------------------------------------------------

module _ (c d : Setting ℕ) (group : List ℕ) (ascending : IsStrictlySortedBy nat_cmp group) (part : IsPart c d (StandsIn group))
    (closed : IsClosedPart c d (StandsIn group)) where
  abbrev stands : ℕ → ℕ → Type 0
  stands = StandsIn group

  -- a touched need of all members is touched where a member stands that it involves
  pub touched_in : (n : Need) (a : Lived ℕ) (b : Option (Lived ℕ)) (x : ℕ) → IsPossible c n a b → IsTouchedBy c n a b → Involves c n a b x → Contains group x
      → IsTouched d n
  touched_in n a b x possible touched names there =
      let found = agreeing c d stands part n a b possible (all_inside c d stands part closed n a b x possible names (stands_of group x there)) in (
        found.first,
        found.second,
        found.possible,
        touched_to c d (other_way stands) (turned_one stands part.one) n a b found.first found.second (turned_round stands d c n found.first found.second a b
            found.agree) touched,
      )

  module _ (n : Need) (p : Lived ℕ) (q : Option (Lived ℕ)) (possible : IsPossible d n p q) (touched : IsTouchedBy d n p q) where
    abbrev found : IsTouchedInside c d stands part closed n p q
    found = touched_inside c d stands part closed n p q possible touched

    abbrev a : Lived ℕ
    a = found.match.first

    abbrev b : Option (Lived ℕ)
    b = found.match.second

    abbrev agree : Agree d c stands n p q a b
    agree = found.match.agree

    abbrev back : Agree c d (other_way stands) n a b p q
    back = turned_round stands d c n p q a b agree

    pub touched_up : IsTouchedBy c n a b
    touched_up = touched_to d c stands part.one n p q a b agree touched

    pick_up : (pick : Option (VersionId × Option VersionId)) → Picks d n pick → Picks c n pick
    pick_up pick picks e f is =
        let once = subjects_once c n e a f b is found.match.possible in
        subst (λ k. IsPick c n k f pick) once.0
        (subst (λ k. IsPick c n a k pick) once.1 (pick_to IsLesser IsLesser d c stands part.one (in_one_order group ascending) n p q a b agree pick
        (picks p q possible)))

    pick_down : (pick : Option (VersionId × Option VersionId)) → Picks c n pick → Picks d n pick
    pick_down pick picks e f is =
        let once = subjects_once d n e p f q is possible in
        let order = turned_order stands IsLesser IsLesser (in_one_order group ascending) in
        subst (λ k. IsPick d n k f pick) once.0
        (subst (λ k. IsPick d n p k pick) once.1 (pick_to IsLesser IsLesser c d (other_way stands) (turned_one stands part.one) order n a b p q back pick
        (picks a b found.match.possible)))

    -- ---- members that break it

    blocker_up : (k : ℕ) → IsBlocker d n p q k → (x : ℕ) × StandsIn group k x × IsBlocker c n a b x
    blocker_up = blocker_to d c stands part.one n p q a b agree

    blocker_down : (x : ℕ) → IsBlocker c n a b x → (k : ℕ) × StandsIn group k x × IsBlocker d n p q k
    blocker_down = blocker_to c d (other_way stands) (turned_one stands part.one) n a b p q back

    position_is : (k x : ℕ) → StandsIn group k x → position_of group k ≡ x
    position_is k x is = get_or_from_slice_get group k x 0 is

    are_blockers : (list : List ℕ) → Lists nat_cmp (IsBlocker d n p q) list → Lists nat_cmp (IsBlocker c n a b) (map (position_of group) list)
    are_blockers list are = record {
      ascending = rising_among (position_of group) list (λ k m h j less. rises k m (blocks k h) (blocks m j) less) are.ascending;
      exactly = λ x. (λ h. only x (among_mapped (position_of group) x list (among x (map (position_of group) list) h)), every x);
    }
      where
        blocks : (k : ℕ) → Among k list → IsBlocker d n p q k
        blocks k h = (are.exactly k).0 (contained k list h)

        rises : (k m : ℕ) → IsBlocker d n p q k → IsBlocker d n p q m → k < m → position_of group k < position_of group m
        rises k m h j less =
            let (x, is_x, up_x) = blocker_up k h in
            let (y, is_y, up_y) = blocker_up m j in
            let order = in_one_order group ascending in
            let above = order.rising k m x y is_x is_y less in
            let low = position_is k x is_x in
            let high = position_is m y is_y in
            omega (arith, above, low, high)

        only : (x : ℕ) → (k : ℕ) × Among k list × (position_of group k ≡ x) → IsBlocker c n a b x
        only x (k, h, same) =
            let (y, is, up) = blocker_up k (blocks k h) in
            subst (IsBlocker c n a b) (sym (position_is k y is) ∙ same) up

        every : (x : ℕ) → IsBlocker c n a b x → Contains (map (position_of group) list) x
        every x h =
            let (k, is, down) = blocker_down x h in
            subst (Contains (map (position_of group) list)) (position_is k x is)
            (contained (position_of group k) (map (position_of group) list) (mapped_among (position_of group) k list (among k list ((are.exactly k).1 down))))

    blocks_up : (list : List ℕ) → Blocks d n list → Blocks c n (map (position_of group) list)
    blocks_up list blocks e f is =
        let once = subjects_once c n e a f b is found.match.possible in
        subst (λ k. Lists nat_cmp (IsBlocker c n k f) (map (position_of group) list)) once.0
        (subst (λ k. Lists nat_cmp (IsBlocker c n a k) (map (position_of group) list)) once.1 (are_blockers list (blocks p q possible)))

    pub same_need : IsSameNeed c d group n
    same_need = record {
      touched = (a, b, found.match.possible, touched_up);
      pick = λ pick. (pick_up pick, pick_down pick);
      blockers = blocks_up;
    }

    -- the need involves a member of the group
    pub named_in : (x : ℕ) × Contains group x × IsInvolving c x n
    named_in = let (k, is) = found.inside in (found.member, stands_among group k found.member is, (a, b, found.match.possible, found.named))

-- all groups ---------------------------------------------------------------------------------

module _ (rules : List Rule) (root : Content) (sets : List Changes) (groups : List (List ℕ)) (apart : AreApart sets)
    (are : AreGroups (setting rules root sets) groups) where
  abbrev c : Setting ℕ
  c = setting rules root sets

  abbrev d : List ℕ → Setting ℕ
  d group = setting_at rules root sets group

  -- a group with its position among groups
  abbrev IsAt : ℕ → List ℕ → Type 0
  IsAt i g = slice_get groups i ≡ Some g

  at_of : (g : List ℕ) → Contains groups g → (i : ℕ) × IsAt i g
  at_of g (i, less, is) = (i, slice_get_read groups _ i g refl less (sym is))

  listed : (i : ℕ) (g : List ℕ) → IsAt i g → Contains groups g
  listed i g at = (i, slice_get_within groups i g at, get_or_from_slice_get groups i g g at)

  depends_member : {x y : ℕ} → AreDependent c x y → has c.same c.members y ≡ true
  depends_member {x} {y} (n, a, b, possible, first, second) = involved_member c n a b y possible second

  -- whoever depends on a member of a group is one
  closed_in : (i : ℕ) (g : List ℕ) → IsAt i g → (x y : ℕ) → Contains g x → AreDependent c x y → Contains g y
  closed_in i g at x y h dependent =
      let (k, there, in_k) = are.every y (depends_member dependent) in
      let (j, at_k) = at_of k there in
      let one = (are.joined i j g k x y at at_k h in_k).1 (joined_by c x y dependent) in
      let same : Some g ≡ Some k = sym at ∙ ap (slice_get groups) one ∙ at_k in
      let alike : g ≡ k = cc in
      subst (λ xs. Contains xs y) (sym alike) in_k

  module _ (i : ℕ) (g : List ℕ) (at : IsAt i g) where
    rises : IsStrictlySortedBy nat_cmp g
    rises = are.ascending g (listed i g at)

    part_of : IsPart c (d g) (StandsIn g)
    part_of = is_part rules root sets g apart rises (λ x h. are.members g x (listed i g at) h)

    closed_of : IsClosedPart c (d g) (StandsIn g)
    closed_of y z (k, is) dependent = stands_of g z (closed_in i g at y z (stands_among g k y is) dependent)

    same_in : (n : Need) → IsTouched (d g) n → IsSameNeed c (d g) g n
    same_in n (p, q, possible, touched) = same_need c (d g) g rises part_of closed_of n p q possible touched

    who_in : (n : Need) → IsTouched (d g) n → (x : ℕ) × Contains g x × IsInvolving c x n
    who_in n (p, q, possible, touched) = named_in c (d g) g rises part_of closed_of n p q possible touched

  some_in : (n : Need) → IsTouched c n → (i : ℕ) × (g : List ℕ) × IsAt i g × IsTouched (d g) n
  some_in n (a, b, possible, touched) =
      let (x, names) = touched_involves c n a b possible touched in
      let (g, there, in_it) = are.every x (involved_member c n a b x possible names) in
      let (i, at) = at_of g there in
      (i, g, at, touched_in c (d g) g (rises i g at) (part_of i g at) (closed_of i g at) n a b x possible touched names in_it)

  one_in : (i j : ℕ) (g h : List ℕ) (n : Need) → IsAt i g → IsAt j h → IsTouched (d g) n → IsTouched (d h) n → i ≡ j
  one_in i j g h n at_g at_h first second =
      let (x, in_g, names_x) = who_in i g at_g n first in
      let (y, in_h, names_y) = who_in j h at_h n second in
      (are.joined i j g h x y at_g at_h in_g in_h).1 (joined_by c x y (both_depend c n x y names_x names_y))

  -- a touched need is touched in the group of each member that it involves
  pub touched_with : (n : Need) (x : ℕ) → IsInvolving c x n → IsTouched c n → (i : ℕ) (g : List ℕ) → IsAt i g → Contains g x → IsTouched (d g) n
  touched_with n x (a, b, possible, names) (e, f, is, touched) i g at there =
      let once = subjects_once c n e a f b is possible in
      touched_in c (d g) g (rises i g at) (part_of i g at) (closed_of i g at) n e f x is touched
      (subst (λ k. Involves c n k f x) once.0 (subst (λ k. Involves c n a k x) once.1 names)) there

  split_needs : SplitNeeds rules root sets groups
  split_needs = record { some = some_in; one = one_in; same = λ i g n at touched. same_in i g at n touched }

pub groups_split : GroupsSplitNeeds
groups_split rules root sets groups apart are = split_needs rules root sets groups apart are
