-- The setting by the positions of members says the same as the setting by their names.
use Rattle.std.proofs.Common.{◌≡◌, ◌∙◌, ℕ, zero, suc, ◌+◌, ◌<◌, ◌≤◌, ◌==◌, Bool, true, false, ◌||◌, cond, List, [], ◌∷◌, inl, inr, refl, sym, ap, subst, arith}
use Rattle.std.proofs.Common.{Option, Some, None, slice_get, length, is_some}
use Rattle.std.specs.List.Sorted.{IsStrictlySortedBy}
use Rattle.std.specs.Ordering.{nat_cmp}
use Rattle.std.specs.declared.cmp.Ordering.TheVariants.{Less}
use Rattle.std.proofs.lemmas.Bool.{cases_lt, false≢true, or_left, or_right}
use Rattle.std.proofs.lemmas.Bool.Decides.{Decides-eqb}
use Rattle.std.proofs.lemmas.Cmp.{nat_cmp_total}
use Rattle.std.specs.List.{range_with_len}
use Rattle.clr_rows.specs.declared.cells.CellId.{CellId}
use Rattle.clr_rules.proofs.AskLemmas.{less_number}
use Rattle.clr_rules.proofs.Elements.{Among, all_by, among, contained, each_of, not_both, not_itself}
use Rattle.clr_needs.specs.declared.needs.Need.{Need}
use Rattle.clr_needs.specs.declared.needs.VersionId.{VersionId}
use Rattle.clr_needs.specs.Laws.{SayTheSame}
use Rattle.clr_needs.specs.Picks.{Blocks, IsLesser}
use Rattle.clr_needs.specs.Positions.{AreInOrder, BlocksInOrder, ComesBefore, StandAt, StandsAt, after_member, by_position}
use Rattle.clr_needs.specs.Renamings.{IsSameVersionIfAny}
use Rattle.clr_needs.specs.Settings.{Setting, AreDisjoint, Lived, changer, first_changer, has, version}
use Rattle.clr_needs.proofs.Agreement.{IsInOneOrder, blocker_at, blocker_to, other_way, turned_order, turned_round}
use Rattle.clr_needs.proofs.Lives.{names_changer}
use Rattle.clr_needs.proofs.PartLaws.{IsChangerIn, IsPart, versions_of_part}
use Rattle.clr_needs.proofs.PartLives.{AreInside, IsInside, same_version}
use Rattle.clr_needs.proofs.RenamingLaws.{AreAlike, alike_by_part, blocker_of_to, covered_to, dependent_to, picks_to, possible_to, serving_to, touched_need_to}
use Rattle.clr_needs.proofs.RenamingLaws.{turned_alike, uncovered_to}

-- numbers -----------------------------------------------------------------------------------------------

pub number_less : (m n : ℕ) → nat_cmp m n ≡ Less → m < n
number_less m n e = elim (cases_lt m n) [
  | inl less ↦ less
  | inr most ↦ elim (cases_lt n m) [
    | inl more ↦ absurd (not_both nat_cmp_total m n e (less_number n m more))
    | inr least ↦ (let same : m ≡ n = omega (arith, most, least) in absurd (not_itself nat_cmp_total n (subst (λ k. nat_cmp k n ≡ Less) same e)))
  ]
]

-- positions in a list ---------------------------------------------------------------------------------

pub range_has : (len from k : ℕ) → from ≤ k → k < from + len → has (λ i j. i == j) (range_with_len from len) k ≡ true
range_has zero from k low high = absurd (omega (arith, low, high))
range_has (suc len) from k low high = elim (cases_lt from k) [
  | inl above ↦ or_right (from == k) (has (λ i j. i == j) (range_with_len (from + 1) len) k) (range_has len (from + 1) k (omega arith) (omega arith))
  | inr first ↦ or_left (from == k) (has (λ i j. i == j) (range_with_len (from + 1) len) k) ((Decides-eqb from k).1 (omega arith))
]

module _ {A : Type 0} (c : Setting A) where
  abbrev d : Setting ℕ
  d = by_position c

  abbrev HasPosition : List A → A → Type 0
  HasPosition ns n = (k : ℕ) × (k < length ns) × (slice_get ns k ≡ Some n)

  member_at : (ns : List A) (n : A) → has c.same ns n ≡ true → HasPosition ns n
  member_at [] n h = absurd (false≢true h)
  member_at (m ∷ ms) n h = by (c.same m n) refl h (member_at ms n)
    where
      by : (b : Bool) → c.same m n ≡ b → (b || has c.same ms n) ≡ true → (has c.same ms n ≡ true → HasPosition ms n) → HasPosition (m ∷ ms) n
      by true s h more = (zero, omega arith, ap Some ((c.decides m n).0 s))
      by false s h more = let (k, less, is) = more h in (suc k, omega (arith, less), is)

  -- no cell is changed by two members where none is changed at two positions
  apart_by_name : AreDisjoint d → AreDisjoint c
  apart_by_name apart m n q m_in n_in m_changes n_changes =
      let (j, j_less, j_is) = member_at c.members m m_in in
      let (k, k_less, k_is) = member_at c.members n n_in in
      let one = apart j k q
      (range_has (length c.members) 0 j (omega arith) (omega (arith, j_less)))
      (range_has (length c.members) 0 k (omega arith) (omega (arith, k_less)))
      (ap (λ x. is_some (after_member c x q)) j_is ∙ m_changes)
      (ap (λ x. is_some (after_member c x q)) k_is ∙ n_changes) in
      let both : Some m ≡ Some n = sym j_is ∙ ap (slice_get c.members) one ∙ k_is in
      cc

  -- ---- the first that changes a cell

  abbrev IsSameMember : Option A → Option ℕ → Type 0
  IsSameMember None None = Unit {0}
  IsSameMember None (Some k) = ⊥
  IsSameMember (Some n) None = ⊥
  IsSameMember (Some n) (Some k) = StandsAt c n k

  module _ (q : CellId) where
    abbrev changes_at : ℕ → Bool
    changes_at k = is_some (d.after k q)

    -- the members from a position on, none before it changing the cell
    same_first : (ns : List A) (from : ℕ) → ((i : ℕ) → slice_get c.members (from + i) ≡ slice_get ns i) → ((j : ℕ) → j < from → changes_at j ≡ true → ⊥)
        → IsSameMember (first_changer c.after ns q) (first_changer d.after (range_with_len from (length ns)) q)
    unfolding first_changer
    same_first [] from rest passed = tt
    same_first (n ∷ ns) from rest passed = by (is_some (c.after n q)) refl (λ e. same_first ns (from + 1) (λ i. ap (slice_get c.members) (omega arith)
        ∙ rest (suc i)) (passed_here e))
      where
        here : slice_get c.members from ≡ Some n
        here = ap (slice_get c.members) (omega arith) ∙ rest 0

        same : changes_at from ≡ is_some (c.after n q)
        same = ap (λ x. is_some (after_member c x q)) here

        not_before : is_some (c.after n q) ≡ true → (j : ℕ) → slice_get c.members j ≡ Some n → from ≤ j
        not_before e j is = elim (cases_lt j from) [
          | inl less ↦ absurd (passed j less (ap (λ x. is_some (after_member c x q)) is ∙ e))
          | inr above ↦ above
        ]

        passed_here : is_some (c.after n q) ≡ false → (j : ℕ) → j < from + 1 → changes_at j ≡ true → ⊥
        passed_here e j less changes = elim (cases_lt j from) [
          | inl lower ↦ passed j lower changes
          | inr most ↦ (let one : j ≡ from = omega (arith, less, most) in false≢true (sym e ∙ sym same ∙ ap changes_at (sym one) ∙ changes))
        ]

        by : (b : Bool) → is_some (c.after n q) ≡ b
            → (is_some (c.after n q) ≡ false → IsSameMember (first_changer c.after ns q) (first_changer d.after (range_with_len (from + 1) (length ns)) q))
            → IsSameMember (cond (is_some (c.after n q)) (Some n) (first_changer c.after ns q))
            (cond (changes_at from) (Some from) (first_changer d.after (range_with_len (from + 1) (length ns)) q))
        by true e more = subst (λ b. IsSameMember (cond (is_some (c.after n q)) (Some n) (first_changer c.after ns q))
            (cond b (Some from) (first_changer d.after (range_with_len (from + 1) (length ns)) q))) (sym (same ∙ e))
            (subst (λ b. IsSameMember (cond b (Some n) (first_changer c.after ns q)) (Some from)) (sym e) (record { there = here; first = not_before e }))
        by false e more = subst (λ b. IsSameMember (cond (is_some (c.after n q)) (Some n) (first_changer c.after ns q))
            (cond b (Some from) (first_changer d.after (range_with_len (from + 1) (length ns)) q))) (sym (same ∙ e))
            (subst (λ b. IsSameMember (cond b (Some n) (first_changer c.after ns q)) (first_changer d.after (range_with_len (from + 1) (length ns)) q)) (sym e)
            (more e))

    same_changer : IsSameMember (changer c q) (changer d q)
    same_changer = same_first c.members 0 (λ i. ap (slice_get c.members) (omega arith)) (λ j less changes. absurd (omega (arith, less)))

  changer_in : (x : Option A) (k : Option ℕ) → IsSameMember x k → IsChangerIn d c (StandsAt c) x k
  changer_in None None same = tt
  changer_in None (Some k) same = absurd same
  changer_in (Some n) None same = absurd same
  changer_in (Some n) (Some k) same = same

  -- ---- versions

  one_position : (n : A) (j k : ℕ) → StandsAt c n j → StandsAt c n k → j ≡ k
  one_position n j k at there = let up = at.first k there.there in let down = there.first j at.there in omega (arith, up, down)

  one_member : (m n : A) (k : ℕ) → StandsAt c m k → StandsAt c n k → m ≡ n
  one_member m n k at there = let both : Some m ≡ Some n = sym at.there ∙ there.there in cc

  -- members by name are those by position, and nobody is left out
  by_positions : IsPart d c (StandsAt c)
  by_positions = record {
    one = record { one_right = one_position; one_left = one_member };
    rules = refl;
    versions = versions_of_part d c (StandsAt c) (λ q. refl) (λ n k q at. ap (λ x. after_member c x q) (sym at.there))
        (λ q. changer_in (changer c q) (changer d q) (same_changer q));
  }

  all_stand : (v : VersionId) (m : Lived ℕ) → version d v ≡ Some m → AreInside (StandsAt c) m.life
  all_stand v m is k names = by (changer c v.cell) (subst (IsSameMember (changer c v.cell)) (names_changer d v m k is names) (same_changer v.cell))
    where
      by : (x : Option A) → IsSameMember x (Some k) → IsInside (StandsAt c) k
      by None same = absurd same
      by (Some n) same = (n, same)

  same_versions : (v : VersionId) → IsSameVersionIfAny (StandsAt c) (version c v) (version d v)
  same_versions v = same_version (StandsAt c) (version c v) (version d v) (by_positions.versions v) (all_stand v)

  there : AreAlike c d (StandsAt c)
  there = alike_by_part c d (StandsAt c) by_positions all_stand

  back : AreAlike d c (other_way (StandsAt c))
  back = turned_alike c d (StandsAt c) there

  -- ---- members in their order

  in_one_order : IsInOneOrder (ComesBefore c) IsLesser (StandsAt c)
  in_one_order = record {
    rising = λ m n j k at at_n (i, l, first, second, less). (let low = one_position m i j first at in let high = one_position n l k second at_n in
        omega (arith, low, high, less));
    falling = λ m n j k at at_n less. (j, k, at, at_n, less);
  }

  named_at : (ms : List A) (ks : List ℕ) → StandAt c ms ks → (k : ℕ) → Among k ks → (m : A) × Among m ms × StandsAt c m k
  named_at [] [] at k h = absurd h
  named_at [] (j ∷ ks) at k h = absurd at
  named_at (m ∷ ms) [] at k h = absurd at
  named_at (m ∷ ms) (j ∷ ks) at k (inl e) = (m, inl refl, subst (StandsAt c m) e at.0)
  named_at (m ∷ ms) (j ∷ ks) at k (inr h) = let (n, among_n, is) = named_at ms ks at.1 k h in (n, inr among_n, is)

  place_of : (ms : List A) (ks : List ℕ) → StandAt c ms ks → (m : A) → Among m ms → (k : ℕ) × Among k ks × StandsAt c m k
  place_of [] [] at m h = absurd h
  place_of [] (j ∷ ks) at m h = absurd at
  place_of (n ∷ ms) [] at m h = absurd at
  place_of (n ∷ ms) (j ∷ ks) at m (inl e) = (j, inl refl, subst (λ x. StandsAt c x j) e at.0)
  place_of (n ∷ ms) (j ∷ ks) at m (inr h) = let (k, among_k, is) = place_of ms ks at.1 m h in (k, inr among_k, is)

  positions_ascend : (ms : List A) (ks : List ℕ) → StandAt c ms ks → AreInOrder c ms → IsStrictlySortedBy nat_cmp ks
  unfolding IsStrictlySortedBy
  positions_ascend [] [] at order = tt
  positions_ascend [] (k ∷ ks) at order = absurd at
  positions_ascend (m ∷ ms) [] at order = absurd at
  positions_ascend (m ∷ ms) (k ∷ ks) at order = (
    all_by (λ j. nat_cmp k j ≡ Less) ks
        (λ j h. (let (n, among_n, is) = named_at ms ks at.1 j h in less_number k j (in_one_order.rising m n k j at.0 is (order.0 n (contained n ms among_n))))),
    positions_ascend ms ks at.1 order.1,
  )

  members_ascend : (ms : List A) (ks : List ℕ) → StandAt c ms ks → IsStrictlySortedBy nat_cmp ks → AreInOrder c ms
  unfolding IsStrictlySortedBy
  members_ascend [] [] at rises = tt
  members_ascend [] (k ∷ ks) at rises = absurd at
  members_ascend (m ∷ ms) [] at rises = absurd at
  members_ascend (m ∷ ms) (k ∷ ks) at rises = (
    λ n h. (let (j, among_j, is) = place_of ms ks at.1 n (among n ms h) in
        in_one_order.falling m n k j at.0 is (number_less k j (each_of (λ i. nat_cmp k i ≡ Less) j ks rises.0 among_j))),
    members_ascend ms ks at.1 rises.1,
  )

  module _ (n : Need) (ms : List A) (ks : List ℕ) (at : StandAt c ms ks) where
    by_number : BlocksInOrder c n ms → Blocks d n ks
    by_number blocks p q possible =
        let s = there.back n p q possible in
        let agree = turned_round (other_way (StandsAt c)) d c n p q s.first s.second s.agree in
        let lists = blocks s.first s.second s.possible in
        record {
          ascending = positions_ascend ms ks at lists.in_order;
          exactly = λ k. (
            λ h. (let (m, among_m, is) = named_at ms ks at k (among k ks h) in
                blocker_at c d (StandsAt c) there.one n s.first s.second p q agree m k is ((lists.exactly m).0 (contained m ms among_m))),
            λ h. (let (m, is, breaks) = blocker_to d c (other_way (StandsAt c)) back.one n p q s.first s.second s.agree k h in
                let (j, among_j, is_j) = place_of ms ks at m (among m ms ((lists.exactly m).1 breaks)) in
                contained k ks (subst (λ i. Among i ks) (one_position m j k is_j is) among_j)),
          );
        }

    by_name : Blocks d n ks → BlocksInOrder c n ms
    by_name blocks a b possible =
        let s = there.to n a b possible in
        let agree = turned_round (StandsAt c) c d n a b s.first s.second s.agree in
        let lists = blocks s.first s.second s.possible in
        record {
          in_order = members_ascend ms ks at lists.ascending;
          exactly = λ m. (
            λ h. (let (k, among_k, is) = place_of ms ks at m (among m ms h) in
                blocker_at d c (other_way (StandsAt c)) back.one n s.first s.second a b agree k m is ((lists.exactly k).0 (contained k ks among_k))),
            λ h. (let (k, is, breaks) = blocker_to c d (StandsAt c) there.one n a b s.first s.second s.agree m h in
                let (j, among_j, is_j) = named_at ms ks at k (among k ks ((lists.exactly k).1 breaks)) in
                contained m ms (subst (λ x. Among x ms) (one_member j m k is_j is) among_j)),
          );
        }

-- both ways -----------------------------------------------------------------------------------------------

module _ {A : Type 0} (c : Setting A) where
  abbrev stands : A → ℕ → Type 0
  stands = StandsAt c

  pub say_the_same : SayTheSame c (by_position c)
  say_the_same = record {
    versions = same_versions c;
    possible = λ n. (possible_to c (d c) stands (there c) n, possible_to (d c) c (other_way stands) (back c) n);
    servers = λ n v. (serving_to c (d c) stands (there c) n v, serving_to (d c) c (other_way stands) (back c) n v);
    touched = λ n. (touched_need_to c (d c) stands (there c) n, touched_need_to (d c) c (other_way stands) (back c) n);
    covered = λ es. (covered_to c (d c) stands (there c) es, covered_to (d c) c (other_way stands) (back c) es);
    uncovered = λ n. (uncovered_to c (d c) stands (there c) n, uncovered_to (d c) c (other_way stands) (back c) n);
    picks = λ n pick. (
      picks_to c (d c) stands (there c) (ComesBefore c) IsLesser (in_one_order c) n pick,
      picks_to (d c) c (other_way stands) (back c) IsLesser (ComesBefore c) (turned_order stands (ComesBefore c) IsLesser (in_one_order c)) n pick,
    );
    blockers = λ n m k at. (blocker_of_to c (d c) stands (there c) n m k at, blocker_of_to (d c) c (other_way stands) (back c) n k m at);
    blocks = λ n ms ks at. (by_number c n ms ks at, by_name c n ms ks at);
    dependent = λ x y j k at_x at_y. (
      dependent_to c (d c) stands (there c) x y j k at_x at_y,
      dependent_to (d c) c (other_way stands) (back c) j k x y at_x
          at_y,
    );
    apart = apart_by_name c;
  }
