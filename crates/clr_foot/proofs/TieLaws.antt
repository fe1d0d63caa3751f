-- The needs by which a member touches something or may be tied to another member, version after version.
use Rattle.std.proofs.Common.{◌≡◌, ◌∙◌, ◌<◌, ◌≤◌, ◌+◌, ℕ, Bool, true, false, List, [], ◌∷◌, ◌++◌, ◌⊎◌, inl, inr, Option, Some, None, Contains, is_some, length, refl, sym, ap, subst, arith}
use Rattle.std.specs.Prelude.{◌↔◌, slice_get}
use Rattle.std.specs.FinMap as finite
use Rattle.std.specs.List.Sorted.{IsStrictlySortedBy}
use Rattle.std.proofs.lemmas.Bool.{cases_lt, false≢true}
use Rattle.clr_rows.specs.declared.cells.CellId.{CellId}
use Rattle.clr_rows.specs.Contents.{Changes, Content}
use Rattle.clr_rows.specs.Held.{Held}
use Rattle.clr_rules.specs.declared.rules.Rule.{Rule}
use Rattle.clr_rules.proofs.AskLemmas.{rule_there}
use Rattle.clr_rules.proofs.Elements.{among}
use Rattle.clr_needs.specs.declared.needs.Need.{Need}
use Rattle.clr_needs.specs.declared.needs.VersionId.{VersionId}
use Rattle.clr_needs.specs.Independence.{Names, NamesIfAny}
use Rattle.clr_needs.specs.Members.{setting}
use Rattle.clr_needs.specs.Needs.{IsBesideIfAny, IsChanged, IsPossible, Lists, ask_of, held_if_any}
use Rattle.clr_needs.specs.Orders.{need_cmp}
use Rattle.clr_needs.specs.Settings.{Setting, Lived, changer, held_row, version}
use Rattle.clr_needs.proofs.Lives.{new_is, old_is, version_by, version_by_changer}
use Rattle.clr_row_versions.specs.declared.versions.Version.{Version}
use Rattle.clr_row_versions.specs.Candidates.{IsNeedAmong, IsNeedOf, IsNeedServedBy, IsNeedWith, may_be_paired}
use Rattle.clr_row_versions.specs.Gains.{Gains, OfSome}
use Rattle.clr_row_versions.specs.Naming.{names}
use Rattle.clr_row_versions.specs.Versions.{Finds, FindsAll, FitsSetting, HasVersion, IsAt, row_and_life, row_of, version_of}
use Rattle.clr_row_versions.proofs.Gaining.{gains_as, gains_both, gains_none, gains_one}
use Rattle.clr_foot.specs.Involvement.{IsInvolving}
use Rattle.clr_foot.specs.declared.ties.TieKind.{TieKind}
use Rattle.clr_foot.specs.declared.ties.TieKind.TheVariants.{Any, Touching, Other}
use Rattle.clr_foot.specs.Ties.{AreTiesOf, AreVersionsOf, FindsTies, IsChangedCell, IsChangedNeighbour, IsChangedVersion, IsNeedOfChangedSubjects}
use Rattle.clr_foot.specs.Ties.{IsTie, IsTieOf, MayTie}
use Rattle.clr_foot.specs.Touches.{IsInCells, IsLookedUpIn, IsNeighbour}
use Rattle.clr_foot.proofs.InvolvedLaws.{key_of, names_told, served_involves, with_involves}
use Rattle.clr_foot.proofs.TouchLaws.{alone_of_one, among_with, lived_is, with_found}
use Rattle.clr_foot.proofs.TouchSteps.{old_sought, served_touched, with_touched}

-- ---- cells that members change

module _ (c : Setting ℕ) where
  -- a version that a member changes is old, and its cell is changed
  pub changed_is : (v : VersionId) → IsChangedVersion c v → (v.fresh ≡ false) × (is_some (changer c v.cell) ≡ true)
  changed_is v (l, is, changed) = by v.fresh refl (changer c v.cell) (sym (version_by_changer c v) ∙ is)
    where
      by : (fresh : Bool) → v.fresh ≡ fresh → (x : Option ℕ) → version_by c fresh v.cell x ≡ Some l → (v.fresh ≡ false) × (is_some x ≡ true)
      by true e None h = cc
      by true e (Some m) h = absurd (subst IsChanged (new_is c m (c.after m v.cell) l h).1 changed)
      by false e None h = absurd (subst IsChanged (old_is c None (c.root v.cell) l h).1 changed)
      by false e (Some m) h = (e, refl)

  -- ---- needs of two subjects that members change

  module _ (fits : FitsSetting c) (number : ℕ) (v : Version) (near : List Version) (at : IsAt c v)
      (found : Finds c false (IsChangedNeighbour c number (row_of v)) near) where
    -- the other subject is near, since its cell is changed
    sought : (id : VersionId) (l : Lived ℕ) → IsChangedVersion c id → version c id ≡ Some l → IsNeighbour false c.rules number (row_of v) (held_row id l)
        → HasVersion near id
    sought id l changed is near_it =
        let (old, its_cell) = changed_is id changed in
        old_sought c number near (IsChangedNeighbour c number (row_of v)) found id l old is (near_it, its_cell)

    changed_found : (n : Need) → IsNeedOfChangedSubjects c number v.id n → IsNeedAmong c.rules number None v near n
    changed_found n (with_it, (first, (w, second, other))) =
        by (with_found c fits number v at near (IsChangedVersion c) found.are sought n with_it
        (λ u e f. subst (IsChangedVersion c) (same u f) other) (λ e. first))
      where
        same : (u : VersionId) → n.second ≡ Some u → w ≡ u
        same u f = let both : Some w ≡ Some u = sym second ∙ f in cc

        by : IsNeedOf c.rules number None v None n ⊎ IsNeedAmong c.rules number None v near n → IsNeedAmong c.rules number None v near n
        by (inl alone) = absurd (let clash : Some w ≡ None = sym second ∙ alone.second in cc)
        by (inr pair) = pair

    pub changed_gains : (old new : List Need) → Gains (IsNeedAmong c.rules number None v near) (IsNeedAmong c.rules number None v near) old new
        → Gains (IsNeedWith c number v.id) (IsNeedOfChangedSubjects c number v.id) old new
    changed_gains old new g =
        gains_as (IsNeedAmong c.rules number None v near) (IsNeedAmong c.rules number None v near) (IsNeedWith c number v.id)
        (IsNeedOfChangedSubjects c number v.id) old new (λ n w. among_with c number v at near n found.are w) changed_found g

  -- a version that is of no side of two subjects has no such need
  pub never_paired : (number : ℕ) (v : Version) (told : Bool) (needs : List Need) → IsAt c v → told ≡ may_be_paired c.rules number (row_of v) → told ≡ false
      → Gains (IsNeedWith c number v.id) (IsNeedOfChangedSubjects c number v.id) needs needs
  never_paired number v told needs at is fails = gains_none (IsNeedWith c number v.id) (IsNeedOfChangedSubjects c number v.id) needs none
    where
      none : (n : Need) → IsNeedOfChangedSubjects c number v.id n → ⊥
      none n (with_it, (first, (w, second, other))) =
          let alone = alone_of_one c number v at told is fails n with_it in
          let clash : Some w ≡ None = sym second ∙ alone.second in cc

  -- ---- the needs of a version whose life names a member

  module _ (number x : ℕ) (v : Version) (at : IsAt c v) (names : Names (row_and_life v).life x) where
    pub any_ties : (old middle new : List Need) → Gains (IsNeedWith c number v.id) (IsNeedWith c number v.id) old middle
        → Gains (IsNeedServedBy c number v.id) (IsNeedServedBy c number v.id) middle new
        → Gains (MayTie Any c x) (IsTie Any v.id.fresh c number v.id) old new
    any_ties old middle new g h =
        gains_both (IsInvolving c x) (IsNeedWith c number v.id) (IsNeedServedBy c number v.id) (IsTie Any v.id.fresh c number v.id) old middle new (λ n w. w)
        (gains_as (IsNeedWith c number v.id) (IsNeedWith c number v.id) (IsInvolving c x) (IsNeedWith c number v.id) old middle
        (with_involves c number x v at names) (λ n w. w) g)
        (gains_as (IsNeedServedBy c number v.id) (IsNeedServedBy c number v.id) (IsInvolving c x) (IsNeedServedBy c number v.id) middle new
        (served_involves c number x v at names) (λ n w. w) h)

    pub new_subject_ties : (old new : List Need) → v.id.fresh ≡ true → Gains (IsNeedWith c number v.id) (IsNeedWith c number v.id) old new
        → Gains (MayTie Touching c x) (IsTie Touching v.id.fresh c number v.id) old new
    new_subject_ties old new fresh g =
        subst (λ f. Gains (MayTie Touching c x) (IsTie Touching f c number v.id) old new) (sym fresh)
        (gains_as (IsNeedWith c number v.id) (IsNeedWith c number v.id) (MayTie Touching c x) (IsNeedWith c number v.id) old new
        (λ n w. (with_involves c number x v at names n w, with_touched c number v.id fresh n w)) (λ n w. w) g)

    pub new_server_ties : (old new : List Need) → v.id.fresh ≡ true → Gains (IsNeedServedBy c number v.id) (IsNeedServedBy c number v.id) old new
        → Gains (MayTie Other c x) (IsTie Other v.id.fresh c number v.id) old new
    new_server_ties old new fresh g =
        subst (λ f. Gains (MayTie Other c x) (IsTie Other f c number v.id) old new) (sym fresh)
        (gains_as (IsNeedServedBy c number v.id) (IsNeedServedBy c number v.id) (MayTie Other c x) (IsNeedServedBy c number v.id) old new
        (served_involves c number x v at names) (λ n w. w) g)

    pub old_server_ties : (old new : List Need) → v.id.fresh ≡ false → Gains (IsNeedServedBy c number v.id) (IsNeedServedBy c number v.id) old new
        → Gains (MayTie Touching c x) (IsTie Touching v.id.fresh c number v.id) old new
    old_server_ties old new fresh g =
        subst (λ f. Gains (MayTie Touching c x) (IsTie Touching f c number v.id) old new) (sym fresh)
        (gains_as (IsNeedServedBy c number v.id) (IsNeedServedBy c number v.id) (MayTie Touching c x) (IsNeedServedBy c number v.id) old new
        (λ n w. (served_involves c number x v at names n w, served_touched c number v.id changed n w)) (λ n w. w) g)
      where
        by : (y : Option ℕ) (l : Lived ℕ) → version_by c false v.id.cell y ≡ Some l → Names l.life x → IsChanged l.life
        by None l h named = absurd (subst (λ k. Names k x) (old_is c None (c.root v.id.cell) l h).1 named)
        by (Some m) l h named = subst IsChanged (sym (old_is c (Some m) (c.root v.id.cell) l h).1) tt

        changed : (l : Lived ℕ) → version c v.id ≡ Some l → IsChanged l.life
        changed l is =
            let same = lived_is c v v.id l refl at is in
            by (changer c v.id.cell) l (ap (λ f. version_by c f v.id.cell (changer c v.id.cell)) (sym fresh) ∙ sym (version_by_changer c v.id) ∙ is)
            (subst (λ (m : Lived ℕ). Names m.life x) same names)

    pub old_subject_ties : (old new : List Need) → v.id.fresh ≡ false → Gains (IsNeedWith c number v.id) (IsNeedOfChangedSubjects c number v.id) old new
        → Gains (MayTie Other c x) (IsTie Other v.id.fresh c number v.id) old new
    old_subject_ties old new fresh g =
        subst (λ f. Gains (MayTie Other c x) (IsTie Other f c number v.id) old new) (sym fresh)
        (gains_as (IsNeedWith c number v.id) (IsNeedOfChangedSubjects c number v.id) (MayTie Other c x) (IsNeedOfChangedSubjects c number v.id) old new
        (with_involves c number x v at names) (λ n w. w) g)

  -- ---- version after version

  pub named_ties : (kind given : TieKind) (number x : ℕ) (v : Version) (old new : List Need) → given ≡ kind
      → Gains (MayTie kind c x) (IsTie kind v.id.fresh c number v.id) old new
      → Gains (MayTie given c x) (IsTieOf given c number x v) old new
  named_ties kind given number x v old new is g =
      subst (λ k. Gains (MayTie k c x) (IsTieOf k c number x v) old new) (sym is)
      (gains_as (MayTie kind c x) (IsTie kind v.id.fresh c number v.id) (MayTie kind c x) (IsTieOf kind c number x v) old new (λ n w. w) (λ n w. w.1) g)

  -- ---- rule after rule

  module _ (kind : TieKind) (x : ℕ) (versions : List Version) where
    -- a need of one of the versions, of a rule below a number
    pub record IsTieBelow (number : ℕ) (n : Need) : Type 0 where
      pub tie : OfSome (IsTieOf kind c n.rule x) versions n
      pub below : n.rule < number

    pub one_rule_ties : (number : ℕ) (old middle new : List Need) → Gains (MayTie kind c x) (IsTieBelow number) old middle
        → Gains (MayTie kind c x) (OfSome (IsTieOf kind c number x) versions) middle new
        → Gains (MayTie kind c x) (IsTieBelow (number + 1)) old new
    one_rule_ties number old middle new g h =
        gains_both (MayTie kind c x) (IsTieBelow number) (OfSome (IsTieOf kind c number x) versions) (IsTieBelow (number + 1)) old middle new split g h
      where
        split : (n : Need) → IsTieBelow (number + 1) n → IsTieBelow number n ⊎ OfSome (IsTieOf kind c number x) versions n
        split n w = elim (cases_lt n.rule number) [
          | inl less ↦ inl (record { tie = w.tie; below = less })
          | inr last ↦ (let rule : n.rule ≡ number = let less = w.below in omega (arith, less, last) in
              inr (subst (λ k. OfSome (IsTieOf kind c k x) versions n) rule w.tie))
        ]

    -- a need with such a version is one of a rule of the book
    tie_below : (number : ℕ) → length c.rules ≤ number → (fresh : Bool) (v : VersionId) (n : Need) → IsTie kind fresh c n.rule v n → n.rule < number
    tie_below number past fresh v n w = by kind fresh w
      where
        is_below : (a : Lived ℕ) (b : Option (Lived ℕ)) → IsPossible c n a b → n.rule < number
        is_below a b p = let less = rule_there c.rules (ask_of n) (held_row n.first a) (held_if_any n.second b) p.they_call in omega (arith, less, past)

        by : (k : TieKind) (f : Bool) → IsTie k f c n.rule v n → n.rule < number
        by Any f (inl (rule, subject, a, b, p)) = is_below a b p
        by Any f (inr (rule, a, b, l, p, serve)) = is_below a b p
        by Touching true (rule, subject, a, b, p) = is_below a b p
        by Touching false (rule, a, b, l, p, serve) = is_below a b p
        by Other true (rule, a, b, l, p, serve) = is_below a b p
        by Other false ((rule, subject, a, b, p), both) = is_below a b p

    pub all_rules_ties : (number : ℕ) (empty new : List Need) → length c.rules ≤ number → empty ≡ [] → Gains (MayTie kind c x) (IsTieBelow number) empty new
        → AreTiesOf kind c x versions new
    all_rules_ties number empty new past none g = record {
      only = λ n h. only n (g.only n h);
      every = λ n v h w. g.every n (record { tie = (v, h, w); below = tie_below number past v.id.fresh v.id n w.1 });
    }
      where
        only : (n : Need) → Contains empty n ⊎ MayTie kind c x n → MayTie kind c x n
        only n (inl h) = absurd (among n [] (subst (λ ns. Contains ns n) none h))
        only n (inr t) = t

    pub ties_are : (needs : List Need) → AreVersionsOf c x versions → AreTiesOf kind c x versions needs → FindsTies kind c x needs
    ties_are needs found ties = record { only = ties.only; every = every }
      where
        every : (n : Need) (v : VersionId) (l : Lived ℕ) → version c v ≡ Some l → Names l.life x → IsTie kind v.fresh c n.rule v n → Contains needs n
        every n v l is names tie =
            let (u, h, same) = found.every v l is names in
            let lived = lived_is c u v l same (found.are u h) is in
            ties.every n u h
            (subst (λ (m : Lived ℕ). Names m.life x) (sym lived) names, subst (λ (i : VersionId). IsTie kind i.fresh c n.rule i n) (sym same) tie)

-- needs of any kind are all that involve the member
module _ (c : Setting ℕ) (x : ℕ) where
  involved_is_tie : (needs : List Need) → FindsTies Any c x needs → (n : Need) → IsInvolving c x n → Contains needs n
  involved_is_tie needs finds n (a, b, p, inl named) = finds.every n n.first a p.first_is named (inl (refl, inl refl, a, b, p))
  involved_is_tie needs finds n (a, b, p, inr (inl named)) = by n.second b refl p.second_is named
    where
      by : (w : Option VersionId) (m : Option (Lived ℕ)) → n.second ≡ w → IsBesideIfAny c n.first a w m → NamesIfAny m x → Contains needs n
      by w None e is h = absurd h
      by None (Some m) e is h = absurd is
      by (Some w) (Some m) e is h = finds.every n w m is.is h (inl (refl, inr e, a, b, p))
  involved_is_tie needs finds n (a, b, p, inr (inr (v, l, serve, named))) = finds.every n v l serve.is named (inr (refl, a, b, l, p, serve))

  pub all_involved : (needs sorted : List Need) → FindsTies Any c x needs → IsStrictlySortedBy need_cmp sorted
      → ((n : Need) → Contains sorted n ↔ Contains needs n)
      → Lists need_cmp (IsInvolving c x) sorted
  all_involved needs sorted finds ascending same = record {
    ascending = ascending;
    exactly = λ n. (λ h. finds.only n ((same n).0 h), λ t. (same n).1 (involved_is_tie needs finds n t));
  }

-- ---- what finders find, and the versions of a member's cells

module _ (rules : List Rule) (root : Content) (sets : List Changes) where
  abbrev c : Setting ℕ
  c = setting rules root sets

  -- the old versions of those cells that members change
  pub changed_near_found : (number : ℕ) (s : Held) (cells changed : List CellId) (vs : List Version)
      → ((q : CellId) → Contains changed q ↔ OfSome (IsChangedCell c) cells q)
      → Finds c false (IsLookedUpIn false rules number changed) vs
      → ((q : CellId) (l : Lived ℕ) → version c (version_of false q) ≡ Some l → IsNeighbour false rules number s (q, l.row) → Contains cells q)
      → Finds c false (IsChangedNeighbour c number s) vs
  changed_near_found number s cells changed vs among_them found near = record {
    are = found.are;
    alike = found.alike;
    every = λ q l is w. found.every q l is ((among_them q).1 (q, near q l is w.0, (refl, w.1)), w.0.1);
  }

  module _ (x : ℕ) (set : Changes) (at : slice_get sets x ≡ Some set) where
    -- the versions of the cells of the member's changes
    pub member_versions : (cells : List CellId) (all : List Version) → cells ≡ finite.keys set → FindsAll c (IsInCells cells) all → AreVersionsOf c x all
    member_versions cells all keys found = record {
      are = found.are;
      every = λ v l is names. found.every v l is (subst (λ qs. Contains qs v.cell) (sym keys) (key_of rules root sets x set at v l is names));
    }
