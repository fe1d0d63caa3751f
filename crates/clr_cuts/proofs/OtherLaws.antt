-- Members of a cut depend on no other one where no row of the others is of a tie of theirs: then all subjects of these ties are rows of the cut, and rows
-- of no other member.
use Rattle.std.proofs.Common.{◌≡◌, ◌∙◌, Bool, true, false, cond, List, [], ◌∷◌, inl, inr, refl, sym, ap, subst, Option, Some, None, filter, is_some}
use Rattle.std.specs.Prelude.{⊤}
use Rattle.std.proofs.lemmas.Bool.{cases_Bool, false≢true}
use Rattle.clr_rows.specs.declared.cells.CellId.{CellId}
use Rattle.clr_rows.specs.declared.rows.Row.{Row}
use Rattle.clr_rows.specs.Held.{Held}
use Rattle.clr_rules.specs.Needs.{View}
use Rattle.clr_needs.specs.declared.needs.Need.{Need}
use Rattle.clr_needs.specs.declared.needs.VersionId.{VersionId}
use Rattle.clr_needs.specs.Independence.{AreDependent, Involves, Names, NamesIfAny}
use Rattle.clr_needs.specs.Needs.{IsBesideIfAny, IsPossible, ask_of}
use Rattle.clr_needs.specs.Settings.{Setting, Lifetime, Always, With, Without, Lived, changer, first_changer, held_row, version}
use Rattle.clr_needs.proofs.Lives.{names_changer, new_is, old_is, version_by, version_by_changer}
use Rattle.clr_cuts.specs.Cuts.{HasCell, with_root}
use Rattle.clr_cuts.specs.Others.{IsCutBesideOthers, with_members}
use Rattle.clr_cuts.specs.Reach.{CallBeside, IsTied, ServesSubject}
use Rattle.clr_cuts.proofs.CutLaws.{same_versions}
use Rattle.clr_cuts.proofs.ReachLaws.{Calls, ServedBy, first_served, of_member_or_root, second_served}

-- the first of some members that changes a cell ---------------------------------------------------

module _ {A : Type 0} (after : A → CellId → Option (Option Row)) (chosen : A → Bool) (q : CellId) where
  -- the first of all, if it is chosen, is the first of those that are
  first_chosen : (x : A) → chosen x ≡ true → (ms : List A) → first_changer after ms q ≡ Some x → first_changer after (filter chosen ms) q ≡ Some x
  unfolding first_changer
  first_chosen x is [] h = cc
  first_chosen x is (m ∷ ms) h = by (chosen m) (is_some (after m q)) refl refl h (first_chosen x is ms)
    where
      by : (b s : Bool) → chosen m ≡ b → is_some (after m q) ≡ s → cond s (Some m) (first_changer after ms q) ≡ Some x
          → (first_changer after ms q ≡ Some x → first_changer after (filter chosen ms) q ≡ Some x)
          → first_changer after (cond b (m ∷ filter chosen ms) (filter chosen ms)) q ≡ Some x
      by true true e f h rest = ap (λ s. cond s (Some m) (first_changer after (filter chosen ms) q)) f ∙ h
      by true false e f h rest = ap (λ s. cond s (Some m) (first_changer after (filter chosen ms) q)) f ∙ rest h
      by false true e f h rest = (let one : m ≡ x = cc in absurd (false≢true (sym e ∙ ap chosen one ∙ is)))
      by false false e f h rest = rest h

  -- where nobody changes the cell, nobody of those chosen does
  none_chosen : (ms : List A) → first_changer after ms q ≡ None → first_changer after (filter chosen ms) q ≡ None
  unfolding first_changer
  none_chosen [] h = refl
  none_chosen (m ∷ ms) h = by (chosen m) (is_some (after m q)) refl h (none_chosen ms)
    where
      by : (b s : Bool) → is_some (after m q) ≡ s → cond s (Some m) (first_changer after ms q) ≡ None
          → (first_changer after ms q ≡ None → first_changer after (filter chosen ms) q ≡ None)
          → first_changer after (cond b (m ∷ filter chosen ms) (filter chosen ms)) q ≡ None
      by b true f h rest = absurd (cc)
      by true false f h rest = ap (λ s. cond s (Some m) (first_changer after (filter chosen ms) q)) f ∙ rest h
      by false false f h rest = rest h

-- whom a life names -------------------------------------------------------------------------------

one_named : {A : Type 0} (life : Lifetime A) (x y : A) → Names life x → Names life y → x ≡ y
one_named Always x y h k = absurd h
one_named (With z) x y h k = sym h ∙ k
one_named (Without z) x y h k = sym h ∙ k

-- a version at a cell that a member changes names it
changer_named : {A : Type 0} (c : Setting A) (v : VersionId) (l : Lived A) (z : A) → version c v ≡ Some l → changer c v.cell ≡ Some z → Names l.life z
changer_named c v l z e k = by v.fresh (sym (ap (version_by c v.fresh v.cell) k) ∙ sym (version_by_changer c v) ∙ e)
  where
    by : (fresh : Bool) → version_by c fresh v.cell (Some z) ≡ Some l → Names l.life z
    by true is = subst (λ m. Names m z) (sym (new_is c z (c.after z v.cell) l is).1) refl
    by false is = subst (λ m. Names m z) (sym (old_is c (Some z) (c.root v.cell) l is).1) refl

module _ {A : Type 0} (c : Setting A) (rows : View) (chosen : A → Bool) (cut : IsCutBesideOthers c rows chosen) where
  abbrev e : Setting A
  e = with_members c chosen

  abbrev d : Setting A
  d = with_root e rows

  -- whomever the life names is chosen
  abbrev OfNoOther : Lifetime A → Type 0
  OfNoOther life = (y : A) → Names life y → chosen y ≡ true

  -- a version of no other member is one among those chosen
  among_chosen : (v : VersionId) (l : Lived A) → version c v ≡ Some l → OfNoOther l.life → version e v ≡ Some l
  among_chosen v l is none = by (changer c v.cell) refl
    where
      by : (x : Option A) → changer c v.cell ≡ x → version e v ≡ Some l
      by None k = version_by_changer e v
          ∙ ap (version_by c v.fresh v.cell) (none_chosen c.after chosen v.cell c.members k ∙ sym k)
          ∙ sym (version_by_changer c v) ∙ is
      by (Some z) k = version_by_changer e v
          ∙ ap (version_by c v.fresh v.cell) (first_chosen c.after chosen v.cell z (none z (changer_named c v l z is k)) c.members k ∙ sym k)
          ∙ sym (version_by_changer c v) ∙ is

  -- a version of no other member, and a row of the cut
  pub record IsOwn (v : VersionId) (l : Lived A) : Type 0 where
    pub of_no_other : OfNoOther l.life
    pub there : version d v ≡ Some l

  own : (v : VersionId) (l : Lived A) → version c v ≡ Some l → OfNoOther l.life → HasCell rows c.root v.cell → IsOwn v l
  own v l is none has = record { of_no_other = none; there = same_versions e rows v has ∙ among_chosen v l is none }

  named_own : (v : VersionId) (l : Lived A) (x : A) → version c v ≡ Some l → Names l.life x → chosen x ≡ true → IsOwn v l
  named_own v l x is names h = own v l is (λ y k. ap chosen (sym (one_named l.life x y names k)) ∙ h)
      (cut.changed v.cell x (first_chosen c.after chosen v.cell x h c.members (names_changer c v l x is names)))

  tied_own : (v : VersionId) (l : Lived A) → version c v ≡ Some l → IsTied d (held_row v l) → IsOwn v l
  tied_own v l is tie = own v l is none (elim (of_member_or_root c v l is) [
    | inl (z, h) ↦ cut.changed v.cell z (first_chosen c.after chosen v.cell z (none z (changer_named c v l z is h)) c.members h)
    | inr h ↦ cut.tied v.cell l.row h.there tie
  ])
    where
      none : OfNoOther l.life
      none y names = elim (cases_Bool (chosen y)) [ inl h ↦ h | inr h ↦ absurd (cut.none v l y is names h (inl tie)) ]

  -- ---- a need that involves a chosen member

  module _ (x : A) (is_chosen : chosen x ≡ true) where
    -- what calls beside a version of the member, or is served by one, is tied
    module _ (v : VersionId) (l : Lived A) (is : version c v ≡ Some l) (names : Names l.life x) where
      beside_it : (s : Held) → CallBeside c.rules (held_row v l) s → IsTied d s
      beside_it s call = inl (record { id = v; lived = l; is = (named_own v l x is names is_chosen).there; holds = (x, names); they_call = call })

      served_by_it : (s : Held) → ServesSubject c.rules (held_row v l) s → IsTied d s
      served_by_it s it = inr (record { id = v; lived = l; is = (named_own v l x is names is_chosen).there; holds = (x, names); it_serves = it })

    abbrev IsOwnIfAny : Option VersionId → Option (Lived A) → Type 0
    IsOwnIfAny None b = ⊤
    IsOwnIfAny (Some w) None = ⊤
    IsOwnIfAny (Some w) (Some m) = IsOwn w m

    module _ (n : Need) (a : Lived A) (b : Option (Lived A)) (possible : IsPossible c n a b) where
      abbrev AreOwn : Option VersionId → Option (Lived A) → Type 0
      AreOwn w b = IsOwn n.first a × IsOwnIfAny w b

      own_first : (w : Option VersionId) (b : Option (Lived A)) → IsBesideIfAny c n.first a w b → Calls c n a w b → Names a.life x → AreOwn w b
      own_first None b beside call names = (named_own n.first a x possible.first_is names is_chosen, tt)
      own_first (Some w) None beside call names = (named_own n.first a x possible.first_is names is_chosen, tt)
      own_first (Some w) (Some m) beside call names = (
        named_own n.first a x possible.first_is names is_chosen,
        tied_own w m beside.is (beside_it n.first a possible.first_is names (held_row w m) (ask_of n, inl call)),
      )

      own_second : (w : Option VersionId) (b : Option (Lived A)) → IsBesideIfAny c n.first a w b → Calls c n a w b → NamesIfAny b x → AreOwn w b
      own_second None None beside call names = absurd names
      own_second None (Some m) beside call names = absurd beside
      own_second (Some w) None beside call names = absurd beside
      own_second (Some w) (Some m) beside call names = (
        tied_own n.first a possible.first_is (beside_it w m beside.is names (held_row n.first a) (ask_of n, inr call)),
        named_own w m x beside.is names is_chosen,
      )

      own_served : (v : VersionId) (l : Lived A) → version c v ≡ Some l → Names l.life x → (w : Option VersionId) (b : Option (Lived A))
          → IsBesideIfAny c n.first a w b → Calls c n a w b → ServedBy c n a w b (held_row v l) → AreOwn w b
      own_served v l is names w b beside call it = (
        tied_own n.first a possible.first_is (served_by_it v l is names (held_row n.first a) (first_served c n a w b (held_row v l) beside call it)),
        second w b beside call it,
      )
        where
          second : (w : Option VersionId) (b : Option (Lived A)) → IsBesideIfAny c n.first a w b → Calls c n a w b → ServedBy c n a w b (held_row v l)
              → IsOwnIfAny w b
          second None b beside call it = tt
          second (Some w) None beside call it = tt
          second (Some w) (Some m) beside call it =
              tied_own w m beside.is (served_by_it v l is names (held_row w m) (second_served c n a w m (held_row v l) call it))

      subjects_own : Involves c n a b x → AreOwn n.second b
      subjects_own (inl names) = own_first n.second b possible.second_is possible.they_call names
      subjects_own (inr (inl names)) = own_second n.second b possible.second_is possible.they_call names
      subjects_own (inr (inr (v, l, serve, names))) =
          own_served v l serve.is names n.second b possible.second_is possible.they_call serve.it_serves

      possible_there : AreOwn n.second b → IsPossible d n a b
      possible_there are = record { first_is = are.0.there; second_is = by n.second b possible.second_is are.1; they_call = possible.they_call }
        where
          by : (w : Option VersionId) (b : Option (Lived A)) → IsBesideIfAny c n.first a w b → IsOwnIfAny w b → IsBesideIfAny d n.first a w b
          by None None h k = tt
          by None (Some m) h k = absurd h
          by (Some w) None h k = absurd h
          by (Some w) (Some m) h k = record { is = k.there; ascending = h.ascending; not_opposed = h.not_opposed }

      involves_there : Involves c n a b x → Involves d n a b x
      involves_there (inl names) = inl names
      involves_there (inr (inl names)) = inr (inl names)
      involves_there (inr (inr (v, l, serve, names))) =
          inr (inr (v, l, record { is = (named_own v l x serve.is names is_chosen).there; it_serves = serve.it_serves }, names))

      not_second : (y : A) (w : Option VersionId) (b : Option (Lived A)) → IsBesideIfAny c n.first a w b → IsOwnIfAny w b → NamesIfAny b y → chosen y ≡ true
      not_second y w None beside own names = absurd names
      not_second y None (Some m) beside own names = absurd beside
      not_second y (Some w) (Some m) beside own names = own.of_no_other y names

      -- the need involves no other member
      pub not_other : Involves c n a b x → (y : A) → chosen y ≡ false → Involves c n a b y → ⊥
      not_other involves y other (inl names) = false≢true (sym other ∙ (subjects_own involves).0.of_no_other y names)
      not_other involves y other (inr (inl names)) =
          false≢true (sym other ∙ not_second y n.second b possible.second_is (subjects_own involves).1 names)
      not_other involves y other (inr (inr (v, l, serve, names))) = cut.none v l y serve.is names other (inr (record {
        need = n;
        first = a;
        second = b;
        possible = possible_there (subjects_own involves);
        holds = (x, involves_there involves);
        it_serves = serve.it_serves;
      }))

  pub none_dependent : (x y : A) → chosen x ≡ true → chosen y ≡ false → ¬ (AreDependent c x y)
  none_dependent x y is other (n, a, b, possible, one, two) = not_other x is n a b possible one y other two
