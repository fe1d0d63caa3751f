-- All needs that are touched or involve two members are listed, with all members that they involve.
use Rattle.std.proofs.Common.{◌==◌, Bool, ◌≡◌, ◌≢◌, ◌∙◌, ◌<◌, ◌⊎◌, ℕ, true, false, List, [], inl, inr, Contains, length, refl, sym, ap, subst}
use Rattle.std.proofs.Common.{arith, Option, Some, None}
use Rattle.std.specs.Prelude.{◌↔◌}
use Rattle.std.specs.List.Sorted.{IsStrictlySortedBy}
use Rattle.std.proofs.lemmas.Bool.{cases_Bool, false≢true, or_cases}
use Rattle.std.proofs.lemmas.Bool.Decides.{Decides-eqb}
use Rattle.clr_rows.specs.Contents.{Changes, Content}
use Rattle.clr_rules.specs.declared.rules.Rule.{Rule}
use Rattle.clr_rules.proofs.Elements.{among}
use Rattle.clr_needs.specs.declared.needs.Need.{Need}
use Rattle.clr_needs.specs.declared.needs.VersionId.{VersionId}
use Rattle.clr_needs.specs.Independence.{Involves, Names, NamesIfAny}
use Rattle.clr_needs.specs.Members.{setting}
use Rattle.clr_needs.specs.Needs.{IsBesideIfAny, IsChanged, IsPossible, IsTouched, Serves, is_fresh}
use Rattle.clr_needs.specs.Settings.{Setting, Lifetime, Always, With, Without, Lived, changer, version}
use Rattle.clr_needs.proofs.BlockerLaws.{member_below}
use Rattle.clr_needs.proofs.Lives.{names_member, new_is, old_is, version_by, version_by_changer}
use Rattle.clr_needs.proofs.NeedSubjects.{involved_member}
use Rattle.clr_row_versions.specs.Candidates.{IsSubject}
use Rattle.clr_row_versions.specs.Gains.{Gains}
use Rattle.clr_foot.specs.Involvement.{IsInvolving}
use Rattle.clr_foot.specs.declared.ties.TieKind.{TieKind}
use Rattle.clr_foot.specs.declared.ties.TieKind.TheVariants.{Touching, Other}
use Rattle.clr_foot.specs.Ties.{HasChangedSubjects, IsChangedVersion, IsTie}
use Rattle.clr_foot.proofs.TouchSteps.{changed_is_old}
use Rattle.clr_groups.specs.declared.member_needs.MemberNeed.{MemberNeed}
use Rattle.clr_groups.specs.MemberNeeds.{HasPair, IsOfNeed, IsOfTies, IsPair, IsTied, IsTying, NamesSubject, TieMembers, itself, member_need_cmp, of_subject}
use Rattle.clr_groups.proofs.MemberNeedLists.{OfBelow}

-- a life names one member at most
names_one : (l : Lifetime ℕ) (x y : ℕ) → Names l x → Names l y → x ≡ y
names_one Always x y h k = absurd h
names_one (With n) x y h k = sym h ∙ k
names_one (Without n) x y h k = sym h ∙ k

module _ (c : Setting ℕ) where
  -- a need of either kind
  abbrev IsTiedAnyhow : ℕ → Need → Type 0
  IsTiedAnyhow m n = IsTied Touching c m n ⊎ IsTied Other c m n

  -- a new version lives with a member
  new_names : (v : VersionId) (l : Lived ℕ) → version c v ≡ Some l → v.fresh ≡ true → (x : ℕ) × Names l.life x
  new_names v l is new = by (changer c v.cell) (ap (λ f. version_by c f v.cell (changer c v.cell)) (sym new) ∙ sym (version_by_changer c v) ∙ is)
    where
      by : (o : Option ℕ) → version_by c true v.cell o ≡ Some l → (x : ℕ) × Names l.life x
      by None h = cc
      by (Some m) h = (m, subst (λ k. Names k m) (sym (new_is c m (c.after m v.cell) l h).1) refl)

  -- an old version whose life names a member is changed
  old_changed : (v : VersionId) (l : Lived ℕ) (x : ℕ) → version c v ≡ Some l → v.fresh ≡ false → Names l.life x → IsChangedVersion c v
  old_changed v l x is old names =
      let there = ap (λ f. version_by c f v.cell (changer c v.cell)) (sym old) ∙ sym (version_by_changer c v) ∙ is in
      (l, is, by (changer c v.cell) there)
    where
      by : (o : Option ℕ) → version_by c false v.cell o ≡ Some l → IsChanged l.life
      by None h = absurd (subst (λ k. Names k x) (old_is c None (c.root v.cell) l h).1 names)
      by (Some m) h = subst IsChanged (sym (old_is c (Some m) (c.root v.cell) l h).1) tt

  module _ (n : Need) (a : Lived ℕ) (b : Option (Lived ℕ)) (p : IsPossible c n a b) where
    -- a version that serves, whose life names the member
    abbrev NamesServer : ℕ → Type 0
    NamesServer x = (v : VersionId) × (l : Lived ℕ) × Serves c n a b v l × Names l.life x

    involved_by : (x : ℕ) → Involves c n a b x → NamesSubject c n x ⊎ NamesServer x
    involved_by x (inl names) = inl (n.first, a, inl refl, p.first_is, names)
    involved_by x (inr (inl names)) = inl (by n.second b refl p.second_is names)
      where
        by : (w : Option VersionId) (m : Option (Lived ℕ)) → n.second ≡ w → IsBesideIfAny c n.first a w m → NamesIfAny m x → NamesSubject c n x
        by w None e is h = absurd h
        by None (Some m) e is h = absurd is
        by (Some w) (Some m) e is h = (w, m, inr e, is.is, h)
    involved_by x (inr (inr server)) = inr server

    -- a need of a member's server, and one of its new subject
    of_server : (v : VersionId) (l : Lived ℕ) (x : ℕ) → Serves c n a b v l → Names l.life x → IsTiedAnyhow x n
    of_server v l x serve names = elim (cases_Bool v.fresh) [
      | inl new ↦ inr (v, l, serve.is, names, subst (λ f. IsTie Other f c n.rule v n) (sym new) (refl, a, b, l, p, serve))
      | inr old ↦ inl (v, l, serve.is, names, subst (λ f. IsTie Touching f c n.rule v n) (sym old) (refl, a, b, l, p, serve))
    ]

    of_new_subject : (v : VersionId) (l : Lived ℕ) (x : ℕ) → IsSubject n v → version c v ≡ Some l → Names l.life x → v.fresh ≡ true → IsTied Touching c x n
    of_new_subject v l x subject is names new = (v, l, is, names, subst (λ f. IsTie Touching f c n.rule v n) (sym new) (refl, subject, a, b, p))

    -- two subjects that different members change
    both_changed : (v w : VersionId) (l m : Lived ℕ) (x y : ℕ) → x ≢ y → IsSubject n v → IsSubject n w → version c v ≡ Some l → version c w ≡ Some m
        → Names l.life x → Names m.life y → IsChangedVersion c v → IsChangedVersion c w → HasChangedSubjects c n
    both_changed v w l m x y apart subject other is other_is names other_names changed other_changed = by subject other
      where
        same : v ≡ w → ⊥
        same e =
            let both : Some l ≡ Some m = sym is ∙ ap (version c) e ∙ other_is in
            let one : l ≡ m = cc in
            apart (names_one m.life x y (subst (λ (k : Lived ℕ). Names k.life x) one names) other_names)

        by : (n.first ≡ v) ⊎ (n.second ≡ Some v) → (n.first ≡ w) ⊎ (n.second ≡ Some w) → HasChangedSubjects c n
        by (inl e) (inl f) = absurd (same (sym e ∙ f))
        by (inl e) (inr f) = (subst (IsChangedVersion c) (sym e) changed, (w, f, other_changed))
        by (inr e) (inl f) = (subst (IsChangedVersion c) (sym f) other_changed, (v, e, changed))
        by (inr e) (inr f) = absurd (same (let both : Some v ≡ Some w = sym e ∙ f in cc))

module _ (rules : List Rule) (root : Content) (sets : List Changes) where
  abbrev c : Setting ℕ
  c = setting rules root sets

  tied_below : (kind : TieKind) (m : ℕ) (n : Need) → IsTied kind c m n → m < length sets
  tied_below kind m n (v, l, is, names, tie) = member_below rules root sets m (names_member c v l m is names)

  -- a touched need is touched by a member
  touched_tied : (n : Need) → IsTouched c n → (m : ℕ) × IsTied Touching c m n
  touched_tied n (a, b, p, inr (v, l, serve, changed)) =
      let old = (changed_is_old rules root sets v l serve.is changed).0 in
      by l.life refl changed old
    where
      by : (life : Lifetime ℕ) → l.life ≡ life → IsChanged life → v.fresh ≡ false → (m : ℕ) × IsTied Touching c m n
      by Always e h old = absurd h
      by (With k) e h old = absurd h
      by (Without k) e h old = (
        k,
        (
          v,
          l,
          serve.is,
          subst (λ f. Names f k) (sym e) refl,
          subst (λ f. IsTie Touching f c n.rule v n) (sym old) (refl, a, b, l, p, serve),
        ),
      )
  touched_tied n (a, b, p, inl fresh) = by (or_cases n.first.fresh (is_fresh n.second) fresh)
    where
      second : (w : Option VersionId) (m : Option (Lived ℕ)) → n.second ≡ w → IsBesideIfAny c n.first a w m → is_fresh w ≡ true
          → (k : ℕ) × IsTied Touching c k n
      second None m e is new = cc
      second (Some w) None e is new = absurd is
      second (Some w) (Some m) e is new = let (k, names) = new_names c w m is.is new in (k, of_new_subject c n a b p w m k (inr e) is.is names new)

      by : (n.first.fresh ≡ true) ⊎ (is_fresh n.second ≡ true) → (k : ℕ) × IsTied Touching c k n
      by (inl new) = let (k, names) = new_names c n.first a p.first_is new in (k, of_new_subject c n a b p n.first a k (inl refl) p.first_is names new)
      by (inr new) = second n.second b refl p.second_is new

  -- a need that ties is one of some member's ties, with each member that it involves
  module _ (n : Need) (x : ℕ) where
    abbrev IsFound : Type 0
    IsFound = (touches : Bool) × OfBelow (IsOfTies c) (length sets) (record { need = n; member = x; touches = touches })

    below : (m : ℕ) → IsTiedAnyhow c m n → m < length sets
    below m (inl h) = tied_below Touching m n h
    below m (inr h) = tied_below Other m n h

    found : (m : ℕ) → IsTiedAnyhow c m n → (x ≡ m) ⊎ NamesSubject c n x → IsFound
    found m tied of = elim (cases_Bool (x == m)) [
      | inl e ↦ its_own ((Decides-eqb x m).0 e) tied
      | inr e ↦ of_other (λ same. false≢true (sym e ∙ (Decides-eqb x m).1 same)) of tied
    ]
      where
        same_pair : (touches : Bool) → x ≡ m → IsOfNeed c m touches n (record { need = n; member = x; touches = touches })
        same_pair touches same = itself (λ i. record { need = n; member = same i; touches = touches })

        its_own : x ≡ m → IsTiedAnyhow c m n → IsFound
        its_own same (inl h) = (true, record { member = m; below = below m tied; is = inl (h, same_pair true same) })
        its_own same (inr h) = (false, record { member = m; below = below m tied; is = inr (h, same_pair false same) })

        of_other : x ≢ m → (x ≡ m) ⊎ NamesSubject c n x → IsTiedAnyhow c m n → IsFound
        of_other other (inl same) h = absurd (other same)
        of_other other (inr named) (inl h) = (false, record { member = m; below = below m tied; is = inl (h, of_subject refl other refl named) })
        of_other other (inr named) (inr h) = (false, record { member = m; below = below m tied; is = inr (h, of_subject refl other refl named) })

    by_old_subject : (a : Lived ℕ) (b : Option (Lived ℕ)) (p : IsPossible c n a b) (v : VersionId) (l : Lived ℕ) → IsSubject n v → version c v ≡ Some l
        → Names l.life x → v.fresh ≡ false → IsTying c x n → IsFound
    by_old_subject a b p v l subject is names old (inl touched) = let (m, tied) = touched_tied n touched in found m (inl tied) (inr (v, l, subject, is, names))
    by_old_subject a b p v l subject is names old (inr (y, other, (d, e, q, involves))) = by (involved_by c n d e q y involves)
      where
        named : NamesSubject c n x
        named = (v, l, subject, is, names)

        by : NamesSubject c n y ⊎ NamesServer c n d e q y → IsFound
        by (inr (w, m, serve, its_names)) = found y (of_server c n d e q w m y serve its_names) (inr named)
        by (inl (w, m, its_subject, its_is, its_names)) = elim (cases_Bool w.fresh) [
          | inl new ↦ found y (inl (of_new_subject c n a b p w m y its_subject its_is its_names new)) (inr named)
          | inr its_old ↦ (let both = both_changed c n a b p v w l m x y (λ same. other (sym same)) subject its_subject is its_is names its_names
              (old_changed c v l x is old names) (old_changed c w m y its_is its_old its_names) in
              found x (inr (v, l, is, names, subst (λ f. IsTie Other f c n.rule v n) (sym old) ((refl, subject, a, b, p), both))) (inl refl))
        ]

    pub tying_found : IsInvolving c x n → IsTying c x n → IsFound
    tying_found (a, b, p, involves) tying = by (involved_by c n a b p x involves)
      where
        by : NamesSubject c n x ⊎ NamesServer c n a b p x → IsFound
        by (inr (v, l, serve, names)) = found x (of_server c n a b p v l x serve names) (inl refl)
        by (inl (v, l, subject, is, names)) = elim (cases_Bool v.fresh) [
          | inl new ↦ found x (inl (of_new_subject c n a b p v l x subject is names new)) (inl refl)
          | inr old ↦ by_old_subject a b p v l subject is names old tying
        ]

  -- ---- all of them, in order

  pub all_tied : (count k : ℕ) (new sorted : List MemberNeed) → count ≡ length sets → k ≡ count → Gains (IsPair c) (OfBelow (IsOfTies c) k) [] new
      → IsStrictlySortedBy member_need_cmp sorted
      → ((x : MemberNeed) → Contains sorted x ↔ Contains new x)
      → TieMembers c count sorted
  all_tied count k new sorted long end g ascending same = record {
    ascending = ascending;
    only = λ x h. only x (g.only x ((same x).0 h));
    every = every;
    touched = touched;
  }
    where
      is_member : (x : MemberNeed) → IsPair c x → x.member < count
      is_member x ((a, b, p, involves), touched) =
          let below = member_below rules root sets x.member (involved_member c x.need a b x.member p involves) in omega (arith, below, long)

      only : (x : MemberNeed) → Contains [] x ⊎ IsPair c x → (x.member < count) × IsPair c x
      only x (inl h) = absurd (among x [] h)
      only x (inr pair) = (is_member x pair, pair)

      listed : (x : MemberNeed) → OfBelow (IsOfTies c) (length sets) x → Contains sorted x
      listed x w = (same x).1 (g.every x (subst (λ j. OfBelow (IsOfTies c) j x) (sym (end ∙ long)) w))

      every : (n : Need) (m : ℕ) → m < count → IsInvolving c m n → IsTying c m n → HasPair sorted n m
      every n m less involves tying = let (t, w) = tying_found n m involves tying in (t, listed _ w)

      touched : (n : Need) → IsTouched c n → (m : ℕ) × Contains sorted (record { need = n; member = m; touches = true })
      touched n t =
          let (m, tied) = touched_tied n t in
          (m, listed _ (record { member = m; below = tied_below Touching m n tied; is = inl (tied, itself refl) }))
