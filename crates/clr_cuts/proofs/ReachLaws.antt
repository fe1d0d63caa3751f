-- A part of the root that has all rows in reach of it is a cut.
use Rattle.std.proofs.Common.{◌≡◌, ◌∙◌, Bool, true, false, ◌⊎◌, ◌||◌, inl, inr, refl, sym, Option, Some, None}
use Rattle.std.proofs.lemmas.Bool.{false≢true, or_cases}
use Rattle.clr_rows.specs.declared.cells.CellId.{CellId}
use Rattle.clr_rows.specs.declared.rows.Row.{Row}
use Rattle.clr_rows.specs.Held.{Held}
use Rattle.clr_rules.specs.Calls.{calls, serves}
use Rattle.clr_rules.specs.Needs.{View}
use Rattle.clr_needs.specs.declared.needs.Need.{Need}
use Rattle.clr_needs.specs.declared.needs.VersionId.{VersionId}
use Rattle.clr_needs.specs.Needs.{IsBesideIfAny, IsChanged, IsPossible, IsTouchedBy, ask_of, held_if_any, is_fresh}
use Rattle.clr_needs.specs.Settings.{Setting, Lived, changer, held_row, version}
use Rattle.clr_needs.proofs.Lives.{old_is, version_by, version_by_changer}
use Rattle.clr_cuts.specs.Cuts.{HasCell, HasCellIfAny, HasChanged, HasServers, HasSubjects, IsCut, AreSomeOf, IsSafeCut, with_root}
use Rattle.clr_cuts.specs.Reach.{HasReach, IsBesideSome, IsNew, IsServedBySome, IsTakenAway, ServesSubject}
use Rattle.clr_cuts.proofs.CutLaws.{changed_kept, new_versions, same_versions}

module _ {A : Type 0} (c : Setting A) where
  -- an old row at a cell that no member changes
  pub record IsQuietRow (v : VersionId) (l : Lived A) : Type 0 where
    pub old : v.fresh ≡ false
    pub there : c.root v.cell ≡ Some l.row

  -- a version stands at a cell that a member changes, or is a row of the root
  pub of_member_or_root : (v : VersionId) (l : Lived A) → version c v ≡ Some l → ((x : A) × (changer c v.cell ≡ Some x)) ⊎ IsQuietRow v l
  of_member_or_root v l e = by v.fresh (changer c v.cell) refl refl (sym (version_by_changer c v) ∙ e)
    where
      by : (fresh : Bool) (x : Option A) → v.fresh ≡ fresh → changer c v.cell ≡ x → version_by c fresh v.cell x ≡ Some l
          → ((x : A) × (changer c v.cell ≡ Some x)) ⊎ IsQuietRow v l
      by fresh (Some x) f k is = inl (x, k)
      by true None f k is = cc
      by false None f k is = inr (record { old = f; there = (old_is c None (c.root v.cell) l is).0 })

  -- a need and what calls or serves there -----------------------------------------------------------

  module _ (n : Need) (a : Lived A) where
    abbrev pub Calls : Option VersionId → Option (Lived A) → Type 0
    Calls w b = calls c.rules (ask_of n) (held_row n.first a) (held_if_any w b) ≡ true

    abbrev pub ServedBy : Option VersionId → Option (Lived A) → Held → Type 0
    ServedBy w b r = serves c.rules (ask_of n) (held_row n.first a) (held_if_any w b) r ≡ true

    pub first_served : (w : Option VersionId) (b : Option (Lived A)) (r : Held) → IsBesideIfAny c n.first a w b → Calls w b → ServedBy w b r
        → ServesSubject c.rules r (held_row n.first a)
    first_served None b r beside they_call it = (ask_of n, inl (they_call, it))
    first_served (Some w) None r beside they_call it = absurd beside
    first_served (Some w) (Some m) r beside they_call it = (ask_of n, inr (held_row w m, inl (they_call, it)))

    pub second_served : (w : VersionId) (m : Lived A) (r : Held) → Calls (Some w) (Some m) → ServedBy (Some w) (Some m) r
        → ServesSubject c.rules r (held_row w m)
    second_served w m r they_call it = (ask_of n, inr (held_row n.first a, inr (they_call, it)))

  -- safe cuts, by the versions of the whole --------------------------------------------------------

  -- all rows of the root beside new ones, and all that an old row serves which a member changes
  pub record HasOfTouched (rows : View) : Type 0 where
    pub of_root : AreSomeOf rows c.root
    pub changed : HasChanged c rows
    pub beside : (q : CellId) (r : Row) → c.root q ≡ Some r → IsBesideSome IsNew c (q, r) → HasCell rows c.root q
    pub served : (q : CellId) (r : Row) → c.root q ≡ Some r → IsServedBySome IsTakenAway c (q, r) → HasCell rows c.root q

  module _ (rows : View) (has : HasOfTouched rows) where
    -- a version is of the part if this holds should it be a row of the root
    has_if : (v : VersionId) (l : Lived A) → version c v ≡ Some l
        → (v.fresh ≡ false → IsBesideSome IsNew c (held_row v l) ⊎ IsServedBySome IsTakenAway c (held_row v l)) → HasCell rows c.root v.cell
    has_if v l e reach = elim (of_member_or_root v l e) [
      | inl (x, h) ↦ has.changed v.cell x h
      | inr h ↦ elim (reach h.old) [ inl new ↦ has.beside v.cell l.row h.there new | inr old ↦ has.served v.cell l.row h.there old ]
    ]

    module _ (n : Need) (a : Lived A) (b : Option (Lived A)) (possible : IsPossible c n a b) where
      beside_second : (w : Option VersionId) (b : Option (Lived A)) → IsBesideIfAny c n.first a w b → Calls n a w b → is_fresh w ≡ true
          → IsBesideSome IsNew c (held_row n.first a)
      beside_second None b beside they_call new = cc
      beside_second (Some w) None beside they_call new = absurd beside
      beside_second (Some w) (Some m) beside they_call new =
          record { id = w; lived = m; is = beside.is; holds = new; they_call = (ask_of n, inr they_call) }

      -- a subject of a need with a new one
      first_of_new : n.first.fresh || is_fresh n.second ≡ true → HasCell rows c.root n.first.cell
      first_of_new fresh = has_if n.first a possible.first_is (λ old. elim (or_cases n.first.fresh (is_fresh n.second) fresh) [
        | inl new ↦ absurd (false≢true (sym old ∙ new))
        | inr new ↦ inl (beside_second n.second b possible.second_is possible.they_call new)
      ])

      second_of_new : (w : Option VersionId) (b : Option (Lived A)) → IsBesideIfAny c n.first a w b → Calls n a w b
          → (n.first.fresh ≡ true) ⊎ (is_fresh w ≡ true) → HasCellIfAny rows c.root w
      second_of_new None b beside they_call fresh = tt
      second_of_new (Some w) None beside they_call fresh = absurd beside
      second_of_new (Some w) (Some m) beside they_call fresh = has_if w m beside.is (λ old. elim fresh [
        | inl new ↦ inl (record { id = n.first; lived = a; is = possible.first_is; holds = new; they_call = (ask_of n, inl they_call) })
        | inr new ↦ absurd (false≢true (sym old ∙ new))
      ])

      -- a subject of a need that loses what serves it
      module _ (v : VersionId) (l : Lived A) (is : version c v ≡ Some l) (changed : IsChanged l.life) where
        first_of_old : ServedBy n a n.second b (held_row v l) → HasCell rows c.root n.first.cell
        first_of_old it = has_if n.first a possible.first_is (λ old. inr (record {
          id = v;
          lived = l;
          is = is;
          holds = changed;
          it_serves = first_served n a n.second b (held_row v l) possible.second_is possible.they_call it;
        }))

        second_of_old : (w : Option VersionId) (b : Option (Lived A)) → IsBesideIfAny c n.first a w b → Calls n a w b → ServedBy n a w b (held_row v l)
            → HasCellIfAny rows c.root w
        second_of_old None b beside they_call it = tt
        second_of_old (Some w) None beside they_call it = absurd beside
        second_of_old (Some w) (Some m) beside they_call it = has_if w m beside.is (λ old. inr (record {
          id = v;
          lived = l;
          is = is;
          holds = changed;
          it_serves = second_served n a w m (held_row v l) they_call it;
        }))

      has_subjects : IsTouchedBy c n a b → HasSubjects rows c.root n
      has_subjects (inl fresh) = (
        first_of_new fresh,
        second_of_new n.second b possible.second_is possible.they_call (or_cases n.first.fresh (is_fresh n.second) fresh),
      )
      has_subjects (inr (v, l, serve, changed)) = (
        first_of_old v l serve.is changed serve.it_serves,
        second_of_old v l serve.is changed n.second b possible.second_is possible.they_call serve.it_serves,
      )

    pub safe_cut : IsSafeCut c rows
    safe_cut = record { of_root = has.of_root; changed = has.changed; subjects = has_subjects }

  -- cuts ---------------------------------------------------------------------------------------------

  module _ (rows : View) where
    abbrev d : Setting A
    d = with_root c rows

    -- a new row of the whole is one over any part
    pub beside_new : (s : Held) → IsBesideSome IsNew c s → IsBesideSome IsNew d s
    beside_new s it = record {
      id = it.id;
      lived = it.lived;
      is = new_versions c rows it.id it.holds ∙ it.is;
      holds = it.holds;
      they_call = it.they_call;
    }

    -- and an old row that a member changes is one where the part has it
    pub served_by_old : HasChanged c rows → (s : Held) → IsServedBySome IsTakenAway c s → IsServedBySome IsTakenAway d s
    served_by_old changed s it = record {
      id = it.id;
      lived = it.lived;
      is = same_versions c rows it.id (changed_kept c rows changed it.id it.lived it.is it.holds) ∙ it.is;
      holds = it.holds;
      it_serves = it.it_serves;
    }

    pub has_of_touched : HasReach c rows → HasOfTouched rows
    has_of_touched reach = record {
      of_root = reach.of_root;
      changed = reach.changed;
      beside = λ q r there it. reach.reached q r there (inl (beside_new (q, r) it));
      served = λ q r there it. reach.reached q r there (inr (inl (served_by_old reach.changed (q, r) it)));
    }

    has_servers : HasReach c rows → HasServers c rows
    has_servers reach n a b v l possible touched serve = elim (of_member_or_root v l serve.is) [
      | inl (x, h) ↦ reach.changed v.cell x h
      | inr h ↦ reach.reached v.cell l.row h.there (inr (inr (record {
        need = n;
        first = a;
        second = b;
        possible = possible;
        holds = touched;
        it_serves = serve.it_serves;
      })))
    ]

    pub reached_is_cut : HasReach c rows → IsCut c rows
    reached_is_cut reach = record { safe = safe_cut rows (has_of_touched reach); servers = has_servers reach }
