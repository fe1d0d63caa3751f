-- The needs that may tie members, one member after another.
use Rattle.std.proofs.Common.{◌≡◌, ◌≢◌, ◌∙◌, ◌<◌, ◌+◌, ◌⊎◌, ℕ, Bool, true, false, List, [], ◌∷◌, ◌++◌, inl, inr, Contains, refl, sym, ap, subst}
use Rattle.std.proofs.Common.{arith, Option, Some, None}
use Rattle.std.specs.FinMap.{IsAntisymmetric}
use Rattle.std.specs.Ordering.{bool_cmp, nat_cmp}
use Rattle.std.specs.declared.cmp.Ordering.TheVariants.{Equal}
use Rattle.std.proofs.lemmas.Bool.{cases_lt, false≢true}
use Rattle.std.proofs.lemmas.Map.Lookups.{exact_unsigned}
use Rattle.clr_needs.specs.declared.needs.Need.{Need}
use Rattle.clr_needs.specs.declared.needs.VersionId.{VersionId}
use Rattle.clr_needs.specs.Independence.{Names, NamesIfAny}
use Rattle.clr_needs.specs.Needs.{IsBesideIfAny, IsPossible}
use Rattle.clr_needs.specs.Orders.{need_cmp}
use Rattle.clr_needs.specs.Settings.{Setting, Lived, changer, version}
use Rattle.clr_needs.proofs.Lives.{names_changer, new_is, old_is, version_by, version_by_changer}
use Rattle.clr_needs.proofs.NeedOrder.{both_tie, need_exact}
use Rattle.clr_row_versions.specs.Candidates.{IsSubject}
use Rattle.clr_row_versions.specs.Gains.{Gains, OfSome}
use Rattle.clr_row_versions.proofs.Gaining.{gains_as, gains_both, gains_none, gains_one}
use Rattle.clr_foot.specs.Involvement.{IsInvolving}
use Rattle.clr_foot.specs.declared.ties.TieKind.TheVariants.{Touching, Other}
use Rattle.clr_foot.specs.Ties.{FindsTies}
use Rattle.clr_groups.specs.declared.member_needs.MemberNeed.{MemberNeed}
use Rattle.clr_groups.specs.MemberNeeds.{IsOfChanger, IsOfNeed, IsOfTies, IsPair, IsPairOf, itself, member_need_cmp, of_subject}

flags_tie : (a b : Bool) → bool_cmp a b ≡ Equal → a ≡ b
flags_tie true true e = refl
flags_tie true false e = cc
flags_tie false true e = cc
flags_tie false false e = refl

-- needs of members that tie are one
pub member_need_exact : IsAntisymmetric member_need_cmp
member_need_exact x y e =
    let (needs, later) = both_tie (need_cmp x.need y.need) _ e in
    let (members, flags) = both_tie (nat_cmp x.member y.member) (bool_cmp x.touches y.touches) later in
    let need = need_exact x.need y.need needs in
    let member = exact_unsigned x.member y.member members in
    let touches = flags_tie x.touches y.touches flags in
    λ i. record { need = need i; member = member i; touches = touches i }

module _ (c : Setting ℕ) where
  -- ---- the member that changes the cell of a subject

  -- whoever changes the cell of a version that is there is named by its life
  changer_named : (v : VersionId) (l : Lived ℕ) (x : ℕ) → version c v ≡ Some l → changer c v.cell ≡ Some x → Names l.life x
  changer_named v l x is changes = by v.fresh (changer c v.cell) (sym (version_by_changer c v) ∙ is) changes
    where
      by : (fresh : Bool) (o : Option ℕ) → version_by c fresh v.cell o ≡ Some l → o ≡ Some x → Names l.life x
      by fresh None h e = cc
      by false (Some m) h e = let same : m ≡ x = cc in subst (λ k. Names k x) (sym (old_is c (Some m) (c.root v.cell) l h).1) same
      by true (Some m) h e = let same : m ≡ x = cc in subst (λ k. Names k x) (sym (new_is c m (c.after m v.cell) l h).1) same

  -- the second subject of a possible need is there
  second_there : (n : Need) (a : Lived ℕ) (b : Option (Lived ℕ)) (v : VersionId) → IsPossible c n a b → n.second ≡ Some v
      → (l : Lived ℕ) × (version c v ≡ Some l) × (b ≡ Some l)
  second_there n a b v p e = by n.second b e p.second_is
    where
      by : (w : Option VersionId) (b : Option (Lived ℕ)) → w ≡ Some v → IsBesideIfAny c n.first a w b → (l : Lived ℕ) × (version c v ≡ Some l) × (b ≡ Some l)
      by None None e h = absurd (let f : None ≡ Some v = e in cc)
      by None (Some b) e h = absurd h
      by (Some w) None e h = absurd h
      by (Some w) (Some b) e h = (b, ap (version c) (let f : Some w ≡ Some v = e in let same : w ≡ v = cc in sym same) ∙ h.is, refl)

  -- a member whom the life of a subject names is involved
  subject_involves : (n : Need) (a : Lived ℕ) (b : Option (Lived ℕ)) (v : VersionId) (l : Lived ℕ) (x : ℕ) → IsPossible c n a b → IsSubject n v
      → version c v ≡ Some l → Names l.life x → IsInvolving c x n
  subject_involves n a b v l x p (inl e) is names =
      let both : Some a ≡ Some l = sym p.first_is ∙ ap (version c) e ∙ is in
      let same : a ≡ l = cc in
      (a, b, p, inl (subst (λ (m : Lived ℕ). Names m.life x) (sym same) names))
  subject_involves n a b v l x p (inr e) is names =
      let (m, there, second) = second_there n a b v p e in
      let both : Some m ≡ Some l = sym there ∙ is in
      let same : m ≡ l = cc in
      (a, b, p, inr (inl (subst (λ o. NamesIfAny o x) (sym second) (subst (λ (k : Lived ℕ). Names k.life x) (sym same) names))))

  -- ---- a need with its members

  module _ (member : ℕ) (touches : Bool) (need : Need) (tie : IsPairOf c member touches need) where
    abbrev its_own : MemberNeed
    its_own = record { need = need; member = member; touches = touches }

    changer_is_pair : (v : VersionId) → IsSubject need v → (x : MemberNeed) → IsOfChanger c need member v x → IsPair c x
    changer_is_pair v subject x w = (subst (IsInvolving c x.member) (sym w.need) (by tie.0), λ e. absurd (false≢true (sym w.untouched ∙ e)))
      where
        lived : (a : Lived ℕ) (b : Option (Lived ℕ)) → IsPossible c need a b → IsSubject need v → (l : Lived ℕ) × (version c v ≡ Some l)
        lived a b p (inl e) = (a, sym (ap (version c) e) ∙ p.first_is)
        lived a b p (inr e) = let (l, is, second) = second_there need a b v p e in (l, is)

        by : IsInvolving c member need → IsInvolving c x.member need
        by (a, b, p, h) = let (l, is) = lived a b p subject in subject_involves need a b v l x.member p subject is (changer_named v l x.member is w.changes)

    -- what is wanted for the need is the member itself, or another one that changes the cell of a subject
    data IsWanted (x : MemberNeed) : Type 0 where
      its_member : x ≡ its_own → IsWanted x
      of_first : IsOfChanger c need member need.first x → IsWanted x
      of_second : (v : VersionId) → need.second ≡ Some v → IsOfChanger c need member v x → IsWanted x

    wanted : (x : MemberNeed) → IsOfNeed c member touches need x → IsWanted x
    wanted x (itself e) = its_member e
    wanted x (of_subject is other untouched (v, l, subject, there, names)) =
        by subject (record { need = is; changes = names_changer c v l x.member there names; other = other; untouched = untouched })
      where
        by : (need.first ≡ v) ⊎ (need.second ≡ Some v) → IsOfChanger c need member v x → IsWanted x
        by (inl e) w = of_first (subst (λ u. IsOfChanger c need member u x) (sym e) w)
        by (inr e) w = of_second v e w

    -- with the first subject's changer
    with_first : (old first second : List MemberNeed) → first ≡ old ++ its_own ∷ []
        → Gains (IsOfChanger c need member need.first) (IsOfChanger c need member need.first) first second
        → Gains (IsPair c) (λ x. (x ≡ its_own) ⊎ IsOfChanger c need member need.first x) old second
    with_first old first second put g =
        gains_both (IsPair c) (λ x. x ≡ its_own) (IsOfChanger c need member need.first) (λ x. (x ≡ its_own) ⊎ IsOfChanger c need member need.first x) old first
        second (λ x w. w) (gains_one (IsPair c) (λ x. x ≡ its_own) old first its_own put tie (λ x e. e))
        (gains_as (IsOfChanger c need member need.first) (IsOfChanger c need member need.first) (IsPair c) (IsOfChanger c need member need.first) first second
        (changer_is_pair need.first (inl refl)) (λ x w. w) g)

    pub need_with_first : (old first last : List MemberNeed) → first ≡ old ++ record { need = need; member = member; touches = touches } ∷ []
        → Gains (IsOfChanger c need member need.first) (IsOfChanger c need member need.first) first last
        → need.second ≡ None
        → Gains (IsPair c) (IsOfNeed c member touches need) old last
    need_with_first old first last put g none =
        gains_as (IsPair c) (λ x. (x ≡ its_own) ⊎ IsOfChanger c need member need.first x) (IsPair c) (IsOfNeed c member touches need) old last (λ x w. w)
        (λ x w. by x (wanted x w)) (with_first old first last put g)
      where
        by : (x : MemberNeed) → IsWanted x → (x ≡ its_own) ⊎ IsOfChanger c need member need.first x
        by x (its_member e) = inl e
        by x (of_first w) = inr w
        by x (of_second v e w) = let clash : None ≡ Some v = sym none ∙ e in cc

    pub need_with_both : (v : VersionId) (old first second last : List MemberNeed)
        → first ≡ old ++ record { need = need; member = member; touches = touches } ∷ []
        → Gains (IsOfChanger c need member need.first) (IsOfChanger c need member need.first) first second
        → need.second ≡ Some v
        → Gains (IsOfChanger c need member v) (IsOfChanger c need member v) second last
        → Gains (IsPair c) (IsOfNeed c member touches need) old last
    need_with_both v old first second last put g some h =
        gains_both (IsPair c) (λ x. (x ≡ its_own) ⊎ IsOfChanger c need member need.first x) (IsOfChanger c need member v) (IsOfNeed c member touches need) old
        second last (λ x w. by x (wanted x w)) (with_first old first second put g)
        (gains_as (IsOfChanger c need member v) (IsOfChanger c need member v) (IsPair c) (IsOfChanger c need member v) second last
        (changer_is_pair v (inr some)) (λ x w. w) h)
      where
        by : (x : MemberNeed) → IsWanted x → ((x ≡ its_own) ⊎ IsOfChanger c need member need.first x) ⊎ IsOfChanger c need member v x
        by x (its_member e) = inl (inl e)
        by x (of_first w) = inl (inr w)
        by x (of_second u e w) = let both : Some u ≡ Some v = sym e ∙ some in let same : u ≡ v = cc in inr (subst (λ z. IsOfChanger c need member z x) same w)

  -- ---- the needs of one member

  -- all needs of both lists, with their members
  pub ties_added : (member : ℕ) (touching others read read_others : List Need) (old middle new : List MemberNeed) → read ≡ touching → read_others ≡ others
      → FindsTies Touching c member touching → FindsTies Other c member others
      → Gains (IsPair c) (OfSome (IsOfNeed c member true) read) old middle
      → Gains (IsPair c) (OfSome (IsOfNeed c member false) read_others) middle new
      → Gains (IsPair c) (IsOfTies c member) old new
  ties_added member touching others read read_others old middle new same other_same finds finds_others g h =
      gains_both (IsPair c) (OfSome (IsOfNeed c member true) read) (OfSome (IsOfNeed c member false) read_others) (IsOfTies c member) old middle new split g h
    where
      split : (x : MemberNeed) → IsOfTies c member x → OfSome (IsOfNeed c member true) read x ⊎ OfSome (IsOfNeed c member false) read_others x
      split x (inl ((v, l, is, names, tie), of)) =
          inl (x.need, subst (λ ns. Contains ns x.need) (sym same) (finds.every x.need v l is names tie), of)
      split x (inr ((v, l, is, names, tie), of)) =
          inr (x.need, subst (λ ns. Contains ns x.need) (sym other_same) (finds_others.every x.need v l is names tie), of)

  pub touching_are_pairs : (member : ℕ) (needs read : List Need) → read ≡ needs → FindsTies Touching c member needs → (n : Need) → Contains read n
      → IsPairOf c member true n
  touching_are_pairs member needs read same finds n h = let found = finds.only n (subst (λ ns. Contains ns n) same h) in (found.0, λ e. found.1)

  pub others_are_pairs : (member : ℕ) (needs read : List Need) → read ≡ needs → FindsTies Other c member needs → (n : Need) → Contains read n
      → IsPairOf c member false n
  others_are_pairs member needs read same finds n h = (finds.only n (subst (λ ns. Contains ns n) same h), λ e. absurd (false≢true e))

-- one member after another --------------------------------------------------------------------

-- what is wanted of one of the members below a number
pub record OfBelow {X : Type 0} (P : ℕ → X → Type 0) (number : ℕ) (x : X) : Type 0 where
  pub member : ℕ
  pub below : member < number
  pub is : P member x

pub none_below : {X : Type 0} (allowed : X → Type 0) (P : ℕ → X → Type 0) (list : List X) → Gains allowed (OfBelow P 0) list list
none_below allowed P list = gains_none allowed (OfBelow P 0) list (λ x w. let less = w.below in omega (arith, less))

pub one_below : {X : Type 0} (allowed : X → Type 0) (P : ℕ → X → Type 0) (number : ℕ) (old middle new : List X)
    → Gains allowed (OfBelow P number) old middle
    → Gains allowed (P number) middle new
    → Gains allowed (OfBelow P (number + 1)) old new
one_below {X} allowed P number old middle new g h = gains_both allowed (OfBelow P number) (P number) (OfBelow P (number + 1)) old middle new split g h
  where
    split : (x : X) → OfBelow P (number + 1) x → OfBelow P number x ⊎ P number x
    split x w = elim (cases_lt w.member number) [
      | inl less ↦ inl (record { member = w.member; below = less; is = w.is })
      | inr most ↦ (let same : w.member ≡ number = let less = w.below in omega (arith, less, most) in inr (subst (λ k. P k x) same w.is))
    ]
