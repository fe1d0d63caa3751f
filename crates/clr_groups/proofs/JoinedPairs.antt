-- Members are joined where their pairs stand beside one another.
use Rattle.std.proofs.Common.{◌≡◌, ◌≢◌, ◌∙◌, ◌<◌, ◌≤◌, ◌+◌, ◌-◌, ◌==◌, ◌⊎◌, ℕ, Bool, true, false, cond, List, [], ◌∷◌, inl, inr, Contains, get_or, length, refl}
use Rattle.std.proofs.Common.{sym, ap, subst, arith, Option, Some, None}
use Rattle.std.specs.Prelude.{slice_get}
use Rattle.std.specs.List.Sorted.{IsStrictlySortedBy}
use Rattle.std.specs.Ordering.{bool_cmp, nat_cmp, ordering_then}
use Rattle.std.specs.declared.cmp.Ordering.{Ordering}
use Rattle.std.specs.declared.cmp.Ordering.TheVariants.{Less, Equal, Greater}
use Rattle.std.specs.Cmp.{tied_itself}
use Rattle.std.proofs.lemmas.Bool.{cases_Bool, cases_lt, false≢true}
use Rattle.std.proofs.lemmas.Bool.Decides.{Decides-eqb}
use Rattle.std.proofs.lemmas.Map.Keys.{Less-from_sorted}
use Rattle.std.proofs.lemmas.Option.{get_or_from_slice_get, slice_get-get_or, slice_get_read, slice_get_within}
use Rattle.clr_needs.specs.declared.needs.Need.{Need}
use Rattle.clr_needs.specs.Independence.{AreDependent}
use Rattle.clr_foot.specs.Involvement.{IsInvolving}
use Rattle.clr_needs.specs.Orders.{need_cmp}
use Rattle.clr_needs.specs.Settings.{Setting, has}
use Rattle.clr_foot.proofs.InvolvedLaws.{both_depend}
use Rattle.clr_needs.proofs.Reading.{read_in}
use Rattle.clr_needs.proofs.NeedOrder.{need_exact, need_total, unread}
use Rattle.clr_needs.proofs.NeedSubjects.{involved_member}
use Rattle.clr_groups.specs.Groups.{AreJoined, IsChain}
use Rattle.clr_groups.specs.Labels.{AreLabels, AreMoved, IsJoinedAt, label, moved_label}
use Rattle.clr_groups.specs.MemberNeeds.{TieMembers, member_need_cmp}
use Rattle.clr_groups.specs.declared.member_needs.MemberNeed.{MemberNeed}
use Rattle.clr_groups.proofs.Chains.{joined_by, joined_itself, joined_through}

-- one label in place of another ------------------------------------------------------------------

at_label : (from to l : ℕ) → l ≡ from → moved_label from to l ≡ to
at_label from to l e = ap (λ b. cond b to l) ((Decides-eqb l from).1 e)

-- labels that are the same after it: they were, or one of them was put in place of the other
data Same (from to k l : ℕ) : Type 0 where
  were_same : k ≡ l → Same from to k l
  first_moved : k ≡ from → to ≡ l → Same from to k l
  second_moved : k ≡ to → l ≡ from → Same from to k l

same_label : (from to k l : ℕ) → moved_label from to k ≡ moved_label from to l → Same from to k l
same_label from to k l e = by (k == from) (l == from) refl refl e
  where
    by : (p q : Bool) → k == from ≡ p → l == from ≡ q → cond p to k ≡ cond q to l → Same from to k l
    by true true is other_is e = were_same ((Decides-eqb k from).0 is ∙ sym ((Decides-eqb l from).0 other_is))
    by true false is other_is e = first_moved ((Decides-eqb k from).0 is) e
    by false true is other_is e = second_moved e ((Decides-eqb l from).0 other_is)
    by false false is other_is e = were_same e

-- pairs in order ---------------------------------------------------------------------------------

-- what tells pairs of one need apart
abbrev later : MemberNeed → MemberNeed → Ordering
later v w = ordering_then (nat_cmp v.member w.member) (bool_cmp v.touches w.touches)

-- what is lesser than a lesser one isn't equal to it
between : (x y z : MemberNeed) → member_need_cmp x y ≡ Less → member_need_cmp y z ≡ Less → x.need ≡ z.need → y.need ≡ z.need
between x y z low high same = by (need_cmp x.need y.need) (need_cmp y.need z.need) refl refl low high
  where
    by : (o p : Ordering) → need_cmp x.need y.need ≡ o → need_cmp y.need z.need ≡ p → ordering_then o (later x y) ≡ Less
        → ordering_then p (later y z) ≡ Less → y.need ≡ z.need
    by o Equal first second less last = need_exact y.need z.need second
    by Less Less first second less last =
        let whole = need_total.trans x.need y.need z.need first second in
        let clash : Equal ≡ Less = sym (tied_itself need_total z.need) ∙ ap (λ n. need_cmp n z.need) (sym same) ∙ whole in cc
    by Equal Less first second less last = sym (need_exact x.need y.need first) ∙ same
    by Greater Less first second less last = cc
    by o Greater first second less last = cc

-- a pair between two of one need has it too
module _ (list : List MemberNeed) (ascending : IsStrictlySortedBy member_need_cmp list) where
  rising : (i j : ℕ) (x y : MemberNeed) → slice_get list i ≡ Some x → slice_get list j ≡ Some y → i < j → member_need_cmp x y ≡ Less
  rising i j x y h k less =
      let below = Less-from_sorted member_need_cmp list i j x ascending less (slice_get_within list j y k) in
      let low = get_or_from_slice_get list i x x h in
      let high = get_or_from_slice_get list j y x k in
      subst (λ v. member_need_cmp x v ≡ Less) high (subst (λ v. member_need_cmp v (get_or list j x) ≡ Less) low below)

  before_it : (i at : ℕ) (w x y : MemberNeed) → i < at → slice_get list i ≡ Some w → slice_get list (at - 1) ≡ Some x → slice_get list at ≡ Some y
      → w.need ≡ y.need
      → x.need ≡ y.need
  before_it i at w x y less h j k same = elim (cases_lt i (at - 1)) [
    | inl low ↦ between w x y (rising i (at - 1) w x h j low) (rising (at - 1) at x y j k (omega (arith, less))) same
    | inr most ↦ (let is : i ≡ at - 1 = omega (arith, less, most) in
        let both : Some w ≡ Some x = sym h ∙ ap (slice_get list) is ∙ j in
        let one : w ≡ x = cc in
        ap (λ (z : MemberNeed). z.need) (sym one) ∙ same)
  ]

-- what a read past the end of a list would give
abbrev pub unread_pair : MemberNeed
unread_pair = record { need = unread; member = 0; touches = false }

-- two pairs that are read
module _ (list : List MemberNeed) (at : ℕ) (labels : List ℕ) where
  abbrev here_read : MemberNeed
  here_read = get_or list at unread_pair

  abbrev last_read : MemberNeed
  last_read = get_or list (at - 1) unread_pair

  pub at_moved : (after : List ℕ) → last_read.need ≡ here_read.need → AreMoved (label labels here_read.member) (label labels last_read.member) labels after
      → IsJoinedAt list at labels after
  at_moved after same is x y before here =
      let low = get_or_from_slice_get list (at - 1) x unread_pair before in
      let high = get_or_from_slice_get list at y unread_pair here in
      inr (
        subst (λ (v : MemberNeed). v.need ≡ y.need) low (subst (λ (v : MemberNeed). last_read.need ≡ v.need) high same),
        subst (λ (v : MemberNeed). AreMoved (label labels y.member) (label labels v.member) labels after) low
            (subst (λ (v : MemberNeed). AreMoved (label labels v.member) (label labels last_read.member) labels after) high is),
      )

  pub at_kept : last_read.need ≢ here_read.need → IsJoinedAt list at labels labels
  at_kept other x y before here =
      let low = get_or_from_slice_get list (at - 1) x unread_pair before in
      let high = get_or_from_slice_get list at y unread_pair here in
      inl ((λ e. other (ap (λ (v : MemberNeed). v.need) low ∙ e ∙ ap (λ (v : MemberNeed). v.need) (sym high))), refl)

pub read_below : (list : List MemberNeed) (k count : ℕ) → k < length list → ((x : MemberNeed) → Contains list x → x.member < count)
    → (get_or list k unread_pair).member < count
read_below list k count less are = are (get_or list k unread_pair) (read_in list k unread_pair less)

-- pairs so far ---------------------------------------------------------------------------------

module _ (c : Setting ℕ) (count : ℕ) (list : List MemberNeed) where
  -- members of the pairs so far have one label if they have one need, and two of one label are joined
  pub record AreJoinedTo (at : ℕ) (labels : List ℕ) : Type 0 where
    pub some : 0 < at
    pub long : length labels ≡ count
    pub below : (x : ℕ) → x < count → label labels x < count
    pub sound : (x y : ℕ) → x < count → y < count → label labels x ≡ label labels y → AreJoined c x y
    pub alike : (i j : ℕ) (x y : MemberNeed) → i < at → j < at → slice_get list i ≡ Some x → slice_get list j ≡ Some y → x.need ≡ y.need
        → label labels x.member ≡ label labels y.member

module _ (c : Setting ℕ) (count : ℕ) (list : List MemberNeed) (are_pairs : TieMembers c count list) where
  abbrev pub AreJoinedUpTo : ℕ → List ℕ → Type 0
  AreJoinedUpTo at labels = AreJoinedTo c count list at labels

  one_pair : (i j : ℕ) (x y : MemberNeed) → i ≡ j → slice_get list i ≡ Some x → slice_get list j ≡ Some y → x ≡ y
  one_pair i j x y is h k = let both : Some x ≡ Some y = sym h ∙ ap (slice_get list) is ∙ k in cc

  pair_at : (i : ℕ) (x : MemberNeed) → slice_get list i ≡ Some x → (x.member < count) × IsInvolving c x.member x.need
  pair_at i x h = let (less, pair) = are_pairs.only x (i, slice_get_within list i x h, get_or_from_slice_get list i x x h) in (less, pair.0)

  pub members_within : (labels : List ℕ) → length labels ≡ count → (x : MemberNeed) → Contains list x → x.member < length labels
  members_within labels long x h = let low = (are_pairs.only x h).0 in omega (arith, low, long)

  pub first_joined : (labels : List ℕ) → length labels ≡ count → ((k : ℕ) → k < count → label labels k ≡ k) → AreJoinedUpTo 1 labels
  first_joined labels long own = record {
    some = omega arith;
    long = long;
    below = λ x less. (let is = own x less in omega (arith, is, less));
    sound = λ x y less other_less e. joined_itself c x y (sym (own x less) ∙ e ∙ own y other_less);
    alike = λ i j x y low high h k same. ap (λ (z : MemberNeed). label labels z.member) (one_pair i j x y (omega (arith, low, high)) h k);
  }

  module _ (at : ℕ) (labels after : List ℕ) (are : AreJoinedUpTo at labels) (w x : MemberNeed) (before : slice_get list (at - 1) ≡ Some w)
      (here : slice_get list at ≡ Some x) where
    w_within : w.member < count
    w_within = (pair_at (at - 1) w before).0

    x_within : x.member < count
    x_within = (pair_at at x here).0

    last_below : at - 1 < at
    last_below = let some = are.some in omega (arith, some)

    -- the pair before has another need
    module _ (other : w.need ≢ x.need) (same : after ≡ labels) where
      kept_alike : (i j : ℕ) (y z : MemberNeed) → i < at + 1 → j < at + 1 → slice_get list i ≡ Some y → slice_get list j ≡ Some z → y.need ≡ z.need
          → label labels y.member ≡ label labels z.member
      kept_alike i j y z low high h k e = by (cases_lt i at) (cases_lt j at)
        where
          ends : (i : ℕ) (y : MemberNeed) → i < at → slice_get list i ≡ Some y → y.need ≡ x.need → ⊥
          ends i y less there need = other (before_it list are_pairs.ascending i at y w x less there before here need)

          by : (i < at) ⊎ (at ≤ i) → (j < at) ⊎ (at ≤ j) → label labels y.member ≡ label labels z.member
          by (inl p) (inl q) = are.alike i j y z p q h k e
          by (inl p) (inr q) = let one = one_pair j at z x (omega (arith, q, high)) k here in
              absurd (ends i y p h (e ∙ ap (λ (v : MemberNeed). v.need) one))
          by (inr p) (inl q) = let one = one_pair i at y x (omega (arith, p, low)) h here in
              absurd (ends j z q k (sym e ∙ ap (λ (v : MemberNeed). v.need) one))
          by (inr p) (inr q) = ap (λ (v : MemberNeed). label labels v.member) (one_pair i j y z (omega (arith, p, q, low, high)) h k)

      kept_joined : AreJoinedUpTo (at + 1) after
      kept_joined = subst (AreJoinedUpTo (at + 1)) (sym same)
          (record { some = omega arith; long = are.long; below = are.below; sound = are.sound; alike = kept_alike })

    -- the pair before has the same need
    module _ (same : w.need ≡ x.need) (is : AreMoved (label labels x.member) (label labels w.member) labels after) where
      abbrev from : ℕ
      from = label labels x.member

      abbrev to : ℕ
      to = label labels w.member

      each : (k : ℕ) → k < count → label after k ≡ moved_label from to (label labels k)
      each k h = is.each k (let long = are.long in omega (arith, long, h))

      moved_below : (k : ℕ) → k < count → label after k < count
      moved_below k h = by (label labels k == from) refl
        where
          by : (b : Bool) → label labels k == from ≡ b → label after k < count
          by true e = let put = each k h ∙ ap (λ b. cond b to (label labels k)) e in let low = are.below w.member w_within in omega (arith, put, low)
          by false e = let put = each k h ∙ ap (λ b. cond b to (label labels k)) e in let low = are.below k h in omega (arith, put, low)

      -- the members of both pairs depend on one another
      w_involves : IsInvolving c w.member x.need
      w_involves = subst (IsInvolving c w.member) same (pair_at (at - 1) w before).1

      joined_to : AreJoined c x.member w.member
      joined_to = joined_by c x.member w.member (both_depend c x.need x.member w.member (pair_at at x here).1 w_involves)

      joined_back : AreJoined c w.member x.member
      joined_back = joined_by c w.member x.member (both_depend c x.need w.member x.member w_involves (pair_at at x here).1)

      moved_sound : (k l : ℕ) → k < count → l < count → label after k ≡ label after l → AreJoined c k l
      moved_sound k l h j e = by (same_label from to (label labels k) (label labels l) (sym (each k h) ∙ e ∙ each l j))
        where
          by : Same from to (label labels k) (label labels l) → AreJoined c k l
          by (were_same one) = are.sound k l h j one
          by (first_moved a b) = joined_through c k x.member l (are.sound k x.member h x_within a)
              (joined_through c x.member w.member l joined_to (are.sound w.member l w_within j b))
          by (second_moved a b) = joined_through c k w.member l (are.sound k w.member h w_within a)
              (joined_through c w.member x.member l joined_back (are.sound x.member l x_within j (sym b)))

      moved_same : (k l : ℕ) → k < count → l < count → label labels k ≡ label labels l → label after k ≡ label after l
      moved_same k l h j e = each k h ∙ ap (moved_label from to) e ∙ sym (each l j)

      moved_one : label after w.member ≡ label after x.member
      moved_one = each w.member w_within ∙ at_to (label labels w.member == from) refl
          ∙ sym (each x.member x_within ∙ at_label from to (label labels x.member) refl)
        where
          at_to : (b : Bool) → label labels w.member == from ≡ b → moved_label from to (label labels w.member) ≡ to
          at_to true e = ap (λ b. cond b to to) e
          at_to false e = ap (λ b. cond b to to) e

      with_last : (i : ℕ) (y : MemberNeed) → i < at → slice_get list i ≡ Some y → y.need ≡ x.need → label after y.member ≡ label after x.member
      with_last i y less there need = moved_same y.member w.member (pair_at i y there).0 w_within
          (are.alike i (at - 1) y w less last_below there before (need ∙ sym same)) ∙ moved_one

      moved_alike : (i j : ℕ) (y z : MemberNeed) → i < at + 1 → j < at + 1 → slice_get list i ≡ Some y → slice_get list j ≡ Some z → y.need ≡ z.need
          → label after y.member ≡ label after z.member
      moved_alike i j y z low high h k e = by (cases_lt i at) (cases_lt j at)
        where
          by : (i < at) ⊎ (at ≤ i) → (j < at) ⊎ (at ≤ j) → label after y.member ≡ label after z.member
          by (inl p) (inl q) = moved_same y.member z.member (pair_at i y h).0 (pair_at j z k).0 (are.alike i j y z p q h k e)
          by (inl p) (inr q) = let one = one_pair j at z x (omega (arith, q, high)) k here in
              with_last i y p h (e ∙ ap (λ (v : MemberNeed). v.need) one) ∙ ap (λ (v : MemberNeed). label after v.member) (sym one)
          by (inr p) (inl q) = let one = one_pair i at y x (omega (arith, p, low)) h here in
              ap (λ (v : MemberNeed). label after v.member) one ∙ sym (with_last j z q k (sym e ∙ ap (λ (v : MemberNeed). v.need) one))
          by (inr p) (inr q) = ap (λ (v : MemberNeed). label after v.member) (one_pair i j y z (omega (arith, p, q, low, high)) h k)

      moved_joined : AreJoinedUpTo (at + 1) after
      moved_joined = record { some = omega arith; long = is.long ∙ are.long; below = moved_below; sound = moved_sound; alike = moved_alike }

    pub one_joined : ((w.need ≢ x.need) × (after ≡ labels)) ⊎ ((w.need ≡ x.need) × AreMoved (label labels x.member) (label labels w.member) labels after)
        → AreJoinedUpTo (at + 1) after
    one_joined (inl (other, same)) = kept_joined other same
    one_joined (inr (same, is)) = moved_joined same is

  -- the pair at a position is handed over
  pub next_joined : (at : ℕ) (labels after : List ℕ) → at < length list → AreJoinedUpTo at labels → IsJoinedAt list at labels after
      → AreJoinedUpTo (at + 1) after
  next_joined at labels after less are is = by (slice_get list (at - 1)) (slice_get list at) refl refl
    where
      by : (v w : Option MemberNeed) → slice_get list (at - 1) ≡ v → slice_get list at ≡ w → AreJoinedUpTo (at + 1) after
      by (Some w) (Some x) before here = one_joined at labels after are w x before here (is w x before here)
      by v None before here = (let clash : Some (get_or list at unread_pair) ≡ None = sym (slice_get-get_or list at unread_pair less) ∙ here in cc)
      by None (Some x) before here =
          (let clash : Some (get_or list (at - 1) x) ≡ None = sym (slice_get-get_or list (at - 1) x (omega (arith, less))) ∙ before in cc)

  -- ---- all of them

  module _ (member_below : (x : ℕ) → has c.same c.members x ≡ true → x < count) (at : ℕ) (labels : List ℕ) (past : length list ≤ at)
      (are : AreJoinedUpTo at labels) where
    same_of_two : (n : Need) (x y : ℕ) → x ≢ y → x < count → y < count → IsInvolving c x n → IsInvolving c y n → label labels x ≡ label labels y
    same_of_two n x y apart h j involves other_involves =
        let (s, (i, less, is)) = are_pairs.every n x h involves (inr (y, (λ e. apart (sym e)), other_involves)) in
        let (t, (k, other_less, other_is)) = are_pairs.every n y j other_involves (inr (x, apart, involves)) in
        let p : MemberNeed = record { need = n; member = x; touches = s } in
        let q : MemberNeed = record { need = n; member = y; touches = t } in
        are.alike i k p q (omega (arith, less, past)) (omega (arith, other_less, past)) (slice_get_read list (length list) i p refl less (sym is))
        (slice_get_read list (length list) k q refl other_less (sym other_is)) refl

    same_of_need : (n : Need) (x y : ℕ) → x < count → y < count → IsInvolving c x n → IsInvolving c y n → label labels x ≡ label labels y
    same_of_need n x y h j involves other_involves = elim (cases_Bool (x == y)) [
      | inl e ↦ ap (label labels) ((Decides-eqb x y).0 e)
      | inr e ↦ same_of_two n x y (λ same. false≢true (sym e ∙ (Decides-eqb x y).1 same)) h j involves other_involves
    ]

    same_of_dependent : (x y : ℕ) → x < count → AreDependent c x y → (y < count) × (label labels x ≡ label labels y)
    same_of_dependent x y less (n, a, b, possible, names, other_names) =
        let other_less = member_below y (involved_member c n a b y possible other_names) in
        (other_less, same_of_need n x y less other_less (a, b, possible, names) (a, b, possible, other_names))

    same_of_chain : (x : ℕ) (zs : List ℕ) (y : ℕ) → x < count → IsChain c x zs y → label labels x ≡ label labels y
    same_of_chain x [] y less e = ap (label labels) e
    same_of_chain x (z ∷ zs) y less (dependent, rest) =
        let (other_less, same) = same_of_dependent x z less dependent in
        same ∙ same_of_chain z zs y other_less rest

    pub all_labelled : AreLabels c count labels
    all_labelled = record {
      long = are.long;
      below = are.below;
      exact = λ x y less other_less. (are.sound x y less other_less, λ (zs, chain). same_of_chain x zs y less chain);
    }
