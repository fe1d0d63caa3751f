-- The setting of some of the members against that of all: what of a need names members of the part alone is the same there.
use Rattle.std.proofs.Common.{◌≡◌, ◌∙◌, Bool, true, false, inl, inr, refl, sym, ap, subst, Option, Some, None}
use Rattle.std.specs.Prelude.{⊤}
use Rattle.clr_rows.specs.declared.cells.CellId.{CellId}
use Rattle.clr_rows.specs.declared.rows.Row.{Row}
use Rattle.clr_rules.specs.Calls.{calls, serves}
use Rattle.clr_needs.specs.declared.needs.Need.{Need}
use Rattle.clr_needs.specs.declared.needs.VersionId.{VersionId}
use Rattle.clr_needs.specs.Independence.{AreDependent, Involves, NamesIfAny}
use Rattle.clr_needs.specs.Needs.{AreOpposed, IsBesideIfAny, IsPossible, IsTouchedBy, Serves, ask_of, held_if_any}
use Rattle.clr_needs.specs.Renamings.{IsSameVersion, IsSameVersionIfAny}
use Rattle.clr_needs.specs.Settings.{Setting, Lifetime, Always, With, Without, Lived, changer, held_row, new_row, new_version, old_life, old_version, version}
use Rattle.clr_needs.proofs.Agreement.{Agree, IsOneToOne, involves_up, opposed_to}
use Rattle.clr_needs.proofs.Lives.{opposed_too, version_by, version_by_changer}
use Rattle.clr_needs.proofs.NeedSubjects.{subjects_once, touched_involves}
use Rattle.clr_needs.proofs.PartLives.{AreInside, IsInside, IsLifeIn, IsSecondIn, IsVersionIn, IsVersionOfPart, same_inside, same_version, second_in}

-- the setting d of some of the members of c
pub record IsPart {A B : Type 0} (c : Setting B) (d : Setting A) (stands : A → B → Type 0) : Type 0 where
  pub one : IsOneToOne stands
  pub rules : d.rules ≡ c.rules
  pub versions : (v : VersionId) → IsVersionOfPart stands (version d v) (version c v)

-- a part by its root and by who changes its cells -------------------------------------------------

module _ {A B : Type 0} (c : Setting B) (d : Setting A) (stands : A → B → Type 0) where
  -- a cell's changer in the whole and in the part: the same, or none where a member outside changes the cell
  abbrev pub IsChangerIn : Option A → Option B → Type 0
  IsChangerIn None None = ⊤
  IsChangerIn None (Some y) = ¬ (IsInside stands y)
  IsChangerIn (Some x) None = ⊥
  IsChangerIn (Some x) (Some y) = stands x y

  old_lives : (x : Option A) (y : Option B) → IsChangerIn x y → IsLifeIn stands (old_life x) (old_life y)
  old_lives None None h = h
  old_lives None (Some y) h = h
  old_lives (Some x) None h = absurd h
  old_lives (Some x) (Some y) h = h

  old_of_part : (row : Option Row) (x : Option A) (y : Option B) → IsChangerIn x y → IsVersionOfPart stands (old_version x row) (old_version y row)
  old_of_part None x y h = tt
  old_of_part (Some r) x y h = record { row = refl; life = old_lives x y h }

  new_of_outside : (y : B) (row : Option (Option Row)) → ¬ (IsInside stands y) → IsVersionOfPart stands None (new_row y row)
  new_of_outside y None h = tt
  new_of_outside y (Some None) h = tt
  new_of_outside y (Some (Some r)) h = h

  new_of_part : (x : A) (y : B) (row : Option (Option Row)) → stands x y → IsVersionOfPart stands (new_row x row) (new_row y row)
  new_of_part x y None h = tt
  new_of_part x y (Some None) h = tt
  new_of_part x y (Some (Some r)) h = record { row = refl; life = h }

  module _ (root : (q : CellId) → d.root q ≡ c.root q) (after : (x : A) (y : B) (q : CellId) → stands x y → d.after x q ≡ c.after y q) (changers : (q : CellId)
      → IsChangerIn (changer d q) (changer c q)) where
    new_at : (q : CellId) (x : Option A) (y : Option B) → IsChangerIn x y → IsVersionOfPart stands (new_version d.after q x) (new_version c.after q y)
    new_at q None None h = tt
    new_at q None (Some y) h = new_of_outside y (c.after y q) h
    new_at q (Some x) None h = absurd h
    new_at q (Some x) (Some y) h = subst (λ row. IsVersionOfPart stands (new_row x row) (new_row y (c.after y q))) (sym (after x y q h))
        (new_of_part x y (c.after y q) h)

    pub versions_of_part : (v : VersionId) → IsVersionOfPart stands (version d v) (version c v)
    versions_of_part v =
        subst (IsVersionOfPart stands (version d v)) (sym (version_by_changer c v))
        (subst (λ o. IsVersionOfPart stands o (version_by c v.fresh v.cell (changer c v.cell))) (sym (version_by_changer d v)) (by v.fresh))
      where
        by : (fresh : Bool) → IsVersionOfPart stands (version_by d fresh v.cell (changer d v.cell)) (version_by c fresh v.cell (changer c v.cell))
        by true = new_at v.cell (changer d v.cell) (changer c v.cell) (changers v.cell)
        by false = subst (λ row. IsVersionOfPart stands (old_version (changer d v.cell) row) (old_version (changer c v.cell) (c.root v.cell)))
            (sym (root v.cell))
            (old_of_part (c.root v.cell) (changer d v.cell) (changer c v.cell) (changers v.cell))

-- what a part has -----------------------------------------------------------------------------------

module _ {A B : Type 0} (c : Setting B) (d : Setting A) (stands : A → B → Type 0) where
  -- all members that a need involves are inside
  abbrev pub AllInside : Need → Lived B → Option (Lived B) → Type 0
  AllInside n a b = (y : B) → Involves c n a b y → IsInside stands y

  -- subjects of the part, and those of the whole
  pub record HasSubjects (n : Need) (p : Lived A) (q : Option (Lived A)) : Type 0 where
    pub first : Lived B
    pub second : Option (Lived B)
    pub possible : IsPossible c n first second
    pub in_first : IsVersionIn stands p first
    pub in_second : IsSecondIn stands q second

  -- a need of the part that agrees with one of the whole
  pub record HasAgreeing (n : Need) (a : Lived B) (b : Option (Lived B)) : Type 0 where
    pub first : Lived A
    pub second : Option (Lived A)
    pub possible : IsPossible d n first second
    pub agree : Agree d c stands n first second a b

  -- a need of the whole that agrees with one of the part
  pub record IsMatched (n : Need) (p : Lived A) (q : Option (Lived A)) : Type 0 where
    pub first : Lived B
    pub second : Option (Lived B)
    pub possible : IsPossible c n first second
    pub agree : Agree d c stands n p q first second

  module _ (part : IsPart c d stands) where
    -- ---- lives

    one_lives : (l k : Lifetime A) (y : B) → IsLifeIn stands l (With y) → IsLifeIn stands k (Without y) → AreOpposed l k
    one_lives (With x) (Without z) y h j = part.one.one_left x z y h j
    one_lives (With x) Always y h j = absurd (j (x, h))
    one_lives (With x) (With z) y h j = absurd j
    one_lives Always k y h j = absurd h
    one_lives (Without x) k y h j = absurd h

    -- lives that are opposed in the whole are opposed in the part
    pub opposed_down : (l k : Lifetime A) (m o : Lifetime B) → IsLifeIn stands l m → IsLifeIn stands k o → AreOpposed m o → AreOpposed l k
    opposed_down l k (With y) (Without w) h j e = one_lives l k y h (subst (λ z. IsLifeIn stands k (Without z)) (sym e) j)
    opposed_down l k (Without y) (With w) h j e = opposed_too d k l (one_lives k l w j (subst (λ z. IsLifeIn stands l (Without z)) e h))
    opposed_down l k _ _ h j e = absurd e

    -- ---- versions

    -- a version of the part is one of the whole
    pub up : (v : VersionId) (l : Lived A) → version d v ≡ Some l → (m : Lived B) × (version c v ≡ Some m) × IsVersionIn stands l m
    up v l e = by (version c v) refl (subst (λ o. IsVersionOfPart stands o (version c v)) e (part.versions v))
      where
        by : (o : Option (Lived B)) → version c v ≡ o → IsVersionOfPart stands (Some l) o → (m : Lived B) × (version c v ≡ Some m) × IsVersionIn stands l m
        by None is h = absurd h
        by (Some m) is h = (m, is, h)

    -- a version of the whole whose life names nobody outside is one of the part, with the same life
    pub down : (v : VersionId) (m : Lived B) → version c v ≡ Some m → AreInside stands m.life → (l : Lived A) × (version d v ≡ Some l)
        × IsSameVersion stands l m
    down v m e inside =
        by (version d v) refl (same_version stands (version d v) (Some m) (subst (IsVersionOfPart stands (version d v)) e (part.versions v))
        (λ k same. (let one : m ≡ k = cc in subst (λ j. AreInside stands j.life) one inside)))
      where
        by : (o : Option (Lived A)) → version d v ≡ o → IsSameVersionIfAny stands o (Some m) → (l : Lived A) × (version d v ≡ Some l) × IsSameVersion stands l m
        by None is h = absurd h
        by (Some l) is h = (l, is, h)

    -- ---- rows of subjects

    same_held : (v : VersionId) (l : Lived A) (m : Lived B) → l.row ≡ m.row → held_row v l ≡ held_row v m
    same_held v l m row = λ i. (v.cell, row i)

    abbrev AreSameRows : Option (Lived A) → Option (Lived B) → Type 0
    AreSameRows None None = ⊤
    AreSameRows None (Some m) = ⊥
    AreSameRows (Some l) None = ⊥
    AreSameRows (Some l) (Some m) = l.row ≡ m.row

    same_second : (w : Option VersionId) (q : Option (Lived A)) (b : Option (Lived B)) → AreSameRows q b → held_if_any w q ≡ held_if_any w b
    same_second None q b same = refl
    same_second (Some w) None None same = refl
    same_second (Some w) None (Some m) same = absurd same
    same_second (Some w) (Some l) None same = absurd same
    same_second (Some w) (Some l) (Some m) same = ap Some (same_held w l m same)

    rows_in : (q : Option (Lived A)) (b : Option (Lived B)) → IsSecondIn stands q b → AreSameRows q b
    rows_in None None h = tt
    rows_in None (Some m) h = absurd h
    rows_in (Some l) None h = absurd h
    rows_in (Some l) (Some m) h = h.row

    rows_same : (q : Option (Lived A)) (b : Option (Lived B)) → IsSameVersionIfAny stands q b → AreSameRows q b
    rows_same q b same = rows_in q b (second_in stands q b same)

    -- ---- needs

    -- a possible need of the part is possible in the whole
    pub possible_up : (n : Need) (p : Lived A) (q : Option (Lived A)) → IsPossible d n p q → HasSubjects n p q
    possible_up n p q possible =
        let (a, is, same) = up n.first p possible.first_is in
        let (b, beside, others) = second a same n.second q possible.second_is in
        record {
          first = a;
          second = b;
          possible = record {
            first_is = is;
            second_is = beside;
            they_call =
                (λ i. calls (sym part.rules i) (ask_of n) (sym (same_held n.first p a same.row) i) (sym (same_second n.second q b (rows_in q b others)) i))
                ∙ possible.they_call;
          };
          in_first = same;
          in_second = others;
        }
      where
        second : (a : Lived B) → IsVersionIn stands p a → (w : Option VersionId) (q : Option (Lived A)) → IsBesideIfAny d n.first p w q
            → (b : Option (Lived B)) × IsBesideIfAny c n.first a w b × IsSecondIn stands q b
        second a same None None is = (None, tt, tt)
        second a same None (Some l) is = absurd is
        second a same (Some w) None is = absurd is
        second a same (Some w) (Some l) is =
            let (m, at, alike) = up w l is.is in (
              Some m,
              record {
                is = at;
                ascending = is.ascending;
                not_opposed = λ e. is.not_opposed (opposed_down p.life l.life a.life m.life same.life
                    alike.life e);
              },
              alike,
            )

    -- what serves in the part serves in the whole, and what serves there with a life that names nobody outside serves in the part
    module _ (n : Need) (p : Lived A) (q : Option (Lived A)) (a : Lived B) (b : Option (Lived B)) (first : p.row ≡ a.row) (second : AreSameRows q b) where
      same_serves : (v : VersionId) (l : Lived A) (m : Lived B) → l.row ≡ m.row
          → serves d.rules (ask_of n) (held_row n.first p) (held_if_any n.second q) (held_row v l)
          ≡ serves c.rules (ask_of n) (held_row n.first a) (held_if_any n.second b) (held_row v m)
      same_serves v l m row = λ i. serves (part.rules i) (ask_of n) (same_held n.first p a first i) (same_second n.second q b second i) (same_held v l m row i)

      pub serves_up : (v : VersionId) (l : Lived A) → Serves d n p q v l → (m : Lived B) × Serves c n a b v m × IsVersionIn stands l m
      serves_up v l serve =
          let (m, is, same) = up v l serve.is in
          (m, record { is = is; it_serves = sym (same_serves v l m same.row) ∙ serve.it_serves }, same)

      pub serves_down : (v : VersionId) (m : Lived B) → Serves c n a b v m → AreInside stands m.life → (l : Lived A) × Serves d n p q v l
          × IsSameVersion stands l m
      serves_down v m serve inside =
          let (l, is, same) = down v m serve.is inside in
          (l, record { is = is; it_serves = same_serves v l m same.row ∙ serve.it_serves }, same)

    -- ---- needs that involve members of the part alone

    pub agreeing : (n : Need) (a : Lived B) (b : Option (Lived B)) → IsPossible c n a b → AllInside n a b → HasAgreeing n a b
    agreeing n a b possible inside =
        let (p, is, same) = down n.first a possible.first_is (λ y e. inside y (inl e)) in
        let (q, beside, others) = second p same n.second b possible.second_is (λ y e. inside y (inr (inl e))) in
        record {
          first = p;
          second = q;
          possible = record {
            first_is = is;
            second_is = beside;
            they_call =
                (λ i. calls (part.rules i) (ask_of n) (same_held n.first p a same.row i) (same_second n.second q b (rows_same q b others) i))
                ∙ possible.they_call;
          };
          agree = record {
            first = same;
            second = others;
            to = λ v l serve. (let (m, it, in_whole) = serves_up n p q a b same.row (rows_same q b others) v l serve in
                (m, it, record { row = in_whole.row; life = same_inside stands l.life m.life in_whole.life (λ y e. inside y (inr (inr (v, m, it, e)))) }));
            back = λ v m serve. serves_down n p q a b same.row (rows_same q b others) v m serve (λ y e. inside y (inr (inr (v, m, serve, e))));
          };
        }
      where
        second : (p : Lived A) → IsSameVersion stands p a → (w : Option VersionId) (b : Option (Lived B)) → IsBesideIfAny c n.first a w b
            → ((y : B) → NamesIfAny b y → IsInside stands y)
            → (q : Option (Lived A)) × IsBesideIfAny d n.first p w q × IsSameVersionIfAny stands q b
        second p same None None is names = (None, tt, tt)
        second p same None (Some l) is names = absurd is
        second p same (Some w) None is names = absurd is
        second p same (Some w) (Some m) is names =
            let (l, at, alike) = down w m is.is names in (
              Some l,
              record {
                is = at;
                ascending = is.ascending;
                not_opposed = λ e. is.not_opposed (opposed_to stands part.one p.life l.life a.life m.life
                    same.life alike.life e);
              },
              alike,
            )

    pub matched : (n : Need) (p : Lived A) (q : Option (Lived A)) → IsPossible d n p q → (subjects : HasSubjects n p q)
        → AllInside n subjects.first subjects.second → IsMatched n p q
    matched n p q possible subjects inside =
        let found = agreeing n subjects.first subjects.second subjects.possible inside in
        let once = subjects_once d n p found.first q found.second possible found.possible in
        record {
          first = subjects.first;
          second = subjects.second;
          possible = subjects.possible;
          agree = subst (λ k. Agree d c stands n k q subjects.first subjects.second) once.0
              (subst (λ k. Agree d c stands n found.first k subjects.first subjects.second) once.1 found.agree);
        }

    -- whom a need of the part involves stands for one whom it involves in the whole
    pub involved_up : (n : Need) (p : Lived A) (q : Option (Lived A)) → (subjects : HasSubjects n p q) → (x : A) → Involves d n p q x
        → (y : B) × stands x y × Involves c n subjects.first subjects.second y
    involved_up n p q subjects = involves_up d c stands n p q subjects.first subjects.second subjects.in_first subjects.in_second
        (serves_up n p q subjects.first subjects.second subjects.in_first.row (rows_in q subjects.second subjects.in_second))
    -- ---- a part with all who depend on its members

  abbrev pub IsClosedPart : Type 0
  IsClosedPart = (y z : B) → IsInside stands y → AreDependent c y z → IsInside stands z

  module _ (part : IsPart c d stands) (closed : IsClosedPart) where
    -- a need that involves one member inside involves no others
    pub all_inside : (n : Need) (a : Lived B) (b : Option (Lived B)) (y : B) → IsPossible c n a b → Involves c n a b y → IsInside stands y → AllInside n a b
    all_inside n a b y possible names inside z others = closed y z inside (n, a, b, possible, names, others)

    -- a need that is touched in the part agrees with one of the whole, and involves a member inside
    pub record IsTouchedInside (n : Need) (p : Lived A) (q : Option (Lived A)) : Type 0 where
      pub match : IsMatched n p q
      pub member : B
      pub named : Involves c n match.first match.second member
      pub inside : IsInside stands member

    pub touched_inside : (n : Need) (p : Lived A) (q : Option (Lived A)) → IsPossible d n p q → IsTouchedBy d n p q → IsTouchedInside n p q
    unfolding matched possible_up
    touched_inside n p q possible touched =
        let subjects = possible_up part n p q possible in
        let (x, names) = touched_involves d n p q possible touched in
        let (y, is, named) = involved_up part n p q subjects x names in
        record {
          match = matched part n p q possible subjects (all_inside n subjects.first subjects.second y subjects.possible named (x, is));
          member = y;
          named = named;
          inside = (x, is);
        }
