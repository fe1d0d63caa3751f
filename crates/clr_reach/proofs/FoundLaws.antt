-- A row in reach of a cut, or of a tie, is found by spots.
use Rattle.std.proofs.Common.{◌≡◌, ◌∙◌, ◌⊎◌, ◌&&◌, ◌||◌, ℕ, Bool, true, inl, inr, ap, refl, subst, sym, Option, Some, None, List, [], is_some}
use Rattle.std.proofs.lemmas.Bool.{or_cases, or_left, or_right}
use Rattle.clr_rows.specs.Held.{Held}
use Rattle.clr_rules.specs.declared.needs.Ask.{Ask}
use Rattle.clr_rules.specs.declared.rules.Rule.{Rule}
use Rattle.clr_rules.specs.Calls.{calls}
use Rattle.clr_rules.specs.Needs.{View}
use Rattle.clr_rules.specs.Roles.{roles_under}
use Rattle.clr_rules.proofs.CallLaws.{subjects_beside}
use Rattle.clr_needs.specs.declared.needs.Need.{Need}
use Rattle.clr_needs.specs.declared.needs.VersionId.{VersionId}
use Rattle.clr_needs.specs.Independence.{Involves, Names, NamesIfAny}
use Rattle.clr_needs.specs.Needs.{IsBesideIfAny, IsChanged, IsPossible, IsTouchedBy, Serves, ask_of, held_if_any, is_fresh}
use Rattle.clr_needs.specs.Settings.{Setting, Lifetime, Always, With, Without, Lived, changer, held_row, version}
use Rattle.clr_needs.proofs.Lives.{new_is, version_by, version_by_changer}
use Rattle.clr_needs.proofs.NeedSubjects.{touched_involves}
use Rattle.clr_row_versions.specs.Candidates.{may_be_paired}
use Rattle.clr_row_versions.specs.Versions.{FitsSetting}
use Rattle.clr_row_versions.proofs.AskLaws.{two_asked}
use Rattle.clr_finders.specs.Sharing.{may_serve_under}
use Rattle.clr_foot.proofs.SharingLaws.{may_serve_there, server_near, server_near_second, subjects_near}
use Rattle.clr_cuts.specs.Cuts.{AreSomeOf, with_root}
use Rattle.clr_cuts.specs.Others.{IsOfTie, IsTie}
use Rattle.clr_cuts.specs.Passes.{AreRowsOf, TakesReach, lacked}
use Rattle.clr_cuts.specs.Reach.{CallBeside, HasReach, HasTied, IsInReach, IsOfMember, ServesSome}
use Rattle.clr_cuts.specs.Reach.{ServesSubject}
use Rattle.clr_cuts.proofs.PassLaws.{pass, there_unless_lacked, told_of_all}
use Rattle.clr_reach.specs.declared.aims.Aim.{Aim}
use Rattle.clr_reach.specs.declared.aims.Aim.TheVariants.{Plans, Groups}
use Rattle.clr_reach.specs.Found.{IsFound, IsNear, MayBeTouched, MayTouch}
use Rattle.clr_reach.specs.Laws.{FitsCut, TakesFound}

-- rows that call together may be paired ------------------------------------------------------------

module _ (rules : List Rule) (ask : Ask) (s t : Held) (call : calls rules ask s (Some t) ≡ true) where
  both : (r : Held) → ((roles_under rules ask.rule r).first ≡ true) ⊎ ((roles_under rules ask.rule r).second ≡ true) → may_be_paired rules ask.rule r ≡ true
  unfolding may_be_paired
  both r role =
      let one : ((roles_under rules ask.rule r).first || (roles_under rules ask.rule r).second) ≡ true = elim role [
        | inl h ↦ or_left _ _ h
        | inr h ↦ or_right _ _ h
      ] in
      λ i. two_asked rules ask s t call i && one i

  pub paired_first : may_be_paired rules ask.rule s ≡ true
  paired_first = both s (elim (subjects_beside rules ask s t call) [ inl h ↦ inl h.0 | inr h ↦ inr h.1 ])

  pub paired_second : may_be_paired rules ask.rule t ≡ true
  paired_second = both t (elim (subjects_beside rules ask s t call) [ inl h ↦ inr h.1 | inr h ↦ inl h.0 ])

-- rows near a version ------------------------------------------------------------------------------

module _ (c : Setting ℕ) (fits : FitsSetting c) where
  module _ (P : ℕ → VersionId → Lived ℕ → Type 0) (s : Held) (v : VersionId) (l : Lived ℕ) (is : version c v ≡ Some l) where
    -- what calls beside a version is near it, and the version may be paired
    near_beside : ((number : ℕ) → may_be_paired c.rules number (held_row v l) ≡ true → P number v l) → CallBeside c.rules (held_row v l) s
        → (number : ℕ) × IsNear (P number) c number s
    near_beside p (ask, inl call) = (
      ask.rule,
      record {
        id = v;
        lived = l;
        is = is;
        holds = p ask.rule (paired_first c.rules ask (held_row v l) s call);
        shares = (subjects_near c fits ask (held_row v l) s call).0;
      },
    )
    near_beside p (ask, inr call) = (
      ask.rule,
      record {
        id = v;
        lived = l;
        is = is;
        holds = p ask.rule (paired_second c.rules ask s (held_row v l) call);
        shares = (subjects_near c fits ask s (held_row v l) call).1;
      },
    )

    -- what a version serves is near it, and the version may serve
    near_server : ((number : ℕ) → may_serve_under c.rules number (held_row v l) ≡ true → P number v l) → ServesSubject c.rules (held_row v l) s
        → (number : ℕ) × IsNear (P number) c number s
    near_server p (ask, inl (call, it)) = (
      ask.rule,
      record {
        id = v;
        lived = l;
        is = is;
        holds = p ask.rule (may_serve_there c.rules ask s None (held_row v l) call it);
        shares = (server_near c.rules ask s None (held_row v l) call it).1;
      },
    )
    near_server p (ask, inr (t, inl (call, it))) = (
      ask.rule,
      record {
        id = v;
        lived = l;
        is = is;
        holds = p ask.rule (may_serve_there c.rules ask s (Some t) (held_row v l) call it);
        shares = (server_near c.rules ask s (Some t) (held_row v l) call it).1;
      },
    )
    near_server p (ask, inr (t, inr (call, it))) = (
      ask.rule,
      record {
        id = v;
        lived = l;
        is = is;
        holds = p ask.rule (may_serve_there c.rules ask t (Some s) (held_row v l) call it);
        shares = server_near_second c.rules ask t s (held_row v l) call it;
      },
    )

  -- subjects that may be touched ------------------------------------------------------------------

  module _ (n : Need) (a : Lived ℕ) (b : Option (Lived ℕ)) (possible : IsPossible c n a b) where
    abbrev CallBy : Option VersionId → Option (Lived ℕ) → Type 0
    CallBy w b = calls c.rules (ask_of n) (held_row n.first a) (held_if_any w b) ≡ true

    -- the first subject is near the second one, and near what serves it
    near_second : (P : VersionId → Lived ℕ → Type 0) (w : VersionId) (m : Lived ℕ) → version c w ≡ Some m → CallBy (Some w) (Some m)
        → (may_be_paired c.rules n.rule (held_row w m) ≡ true → P w m) → IsNear P c n.rule (held_row n.first a)
    near_second P w m is call p = record {
      id = w;
      lived = m;
      is = is;
      holds = p (paired_second c.rules (ask_of n) (held_row n.first a) (held_row w m) call);
      shares = (subjects_near c fits (ask_of n) (held_row n.first a) (held_row w m) call).1;
    }

    near_what_serves : (P : VersionId → Lived ℕ → Type 0) (v : VersionId) (l : Lived ℕ) → Serves c n a b v l
        → (may_serve_under c.rules n.rule (held_row v l) ≡ true → P v l) → IsNear P c n.rule (held_row n.first a)
    near_what_serves P v l serve p = record {
      id = v;
      lived = l;
      is = serve.is;
      holds = p (may_serve_there c.rules (ask_of n) (held_row n.first a) (held_if_any n.second b) (held_row v l) possible.they_call serve.it_serves);
      shares = (server_near c.rules (ask_of n) (held_row n.first a) (held_if_any n.second b) (held_row v l) possible.they_call serve.it_serves).1;
    }

    new_second : (w : Option VersionId) (b : Option (Lived ℕ)) → IsBesideIfAny c n.first a w b → CallBy w b → is_fresh w ≡ true
        → MayBeTouched Plans c n.rule n.first a
    new_second None b beside call new = cc
    new_second (Some w) None beside call new = absurd beside
    new_second (Some w) (Some m) beside call new = inr (near_second (MayTouch Plans c.rules n.rule) w m beside.is call (λ h. inl (new, h)))

    -- the first subject of a touched need
    pub first_touched : IsTouchedBy c n a b → MayBeTouched Plans c n.rule n.first a
    first_touched (inl fresh) = elim (or_cases n.first.fresh (is_fresh n.second) fresh) [
      | inl new ↦ inl new
      | inr new ↦ new_second n.second b possible.second_is possible.they_call new
    ]
    first_touched (inr (v, l, serve, changed)) = inr (near_what_serves (MayTouch Plans c.rules n.rule) v l serve (λ h. inr (changed, h)))

    named_second : (x : ℕ) (w : Option VersionId) (b : Option (Lived ℕ)) → IsBesideIfAny c n.first a w b → CallBy w b → NamesIfAny b x
        → MayBeTouched Groups c n.rule n.first a
    named_second x None None beside call names = absurd names
    named_second x None (Some m) beside call names = absurd beside
    named_second x (Some w) None beside call names = absurd beside
    named_second x (Some w) (Some m) beside call names = inr (near_second (MayTouch Groups c.rules n.rule) w m beside.is call (λ h. ((x, names), inl h)))

    -- the first subject of a tie
    pub first_of_tie : (x : ℕ) → Involves c n a b x → MayBeTouched Groups c n.rule n.first a
    first_of_tie x (inl names) = inl (x, names)
    first_of_tie x (inr (inl names)) = named_second x n.second b possible.second_is possible.they_call names
    first_of_tie x (inr (inr (v, l, serve, names))) = inr (near_what_serves (MayTouch Groups c.rules n.rule) v l serve (λ h. ((x, names), inr h)))

  -- what serves a need whose first subject may be touched is found
  found_server : (aim : Aim) (P : Need → Lived ℕ → Option (Lived ℕ) → Type 0) (s : Held) (it : ServesSome P c s)
      → MayBeTouched aim c it.need.rule it.need.first it.first → IsFound aim c s
  found_server aim P s it touched =
      let first = held_row it.need.first it.first in
      let second = held_if_any it.need.second it.second in (
        it.need.rule,
        inr (
          may_serve_there c.rules (ask_of it.need) first second s it.possible.they_call it.it_serves,
          record {
            id = it.need.first;
            lived = it.first;
            is = it.possible.first_is;
            holds = touched;
            shares = (server_near c.rules (ask_of it.need) first second s it.possible.they_call it.it_serves).0;
          },
        ),
      )

  near_found : (aim : Aim) (s : Held) → (number : ℕ) × IsNear (MayTouch aim c.rules number) c number s → IsFound aim c s
  near_found aim s (number, near) = (number, inl near)

  pub reach_found : (s : Held) → IsInReach c s → IsFound Plans c s
  reach_found s (inl it) = near_found Plans s
      (near_beside (λ number. MayTouch Plans c.rules number) s it.id it.lived it.is (λ number h. inl (it.holds, h)) it.they_call)
  reach_found s (inr (inl it)) = near_found Plans s
      (near_server (λ number. MayTouch Plans c.rules number) s it.id it.lived it.is (λ number h. inr (it.holds, h)) it.it_serves)
  reach_found s (inr (inr it)) = found_server Plans (IsTouchedBy c) s it (first_touched it.need it.first it.second it.possible it.holds)

  pub tie_found : (s : Held) → IsOfTie c s → IsFound Groups c s
  tie_found s (inl (inl it)) = near_found Groups s
      (near_beside (λ number. MayTouch Groups c.rules number) s it.id it.lived it.is (λ number h. (it.holds, inl h)) it.they_call)
  tie_found s (inl (inr it)) = near_found Groups s
      (near_server (λ number. MayTouch Groups c.rules number) s it.id it.lived it.is (λ number h. (it.holds, inr h)) it.it_serves)
  tie_found s (inr it) =
      let (x, involves) = it.holds in found_server Groups (IsTie c) s it (first_of_tie it.need it.first it.second it.possible x involves)

  -- a new version is of a member, and so is an old one that a member changes
  new_of_member : (v : VersionId) (l : Lived ℕ) → version c v ≡ Some l → v.fresh ≡ true → IsOfMember v l
  new_of_member v l e new = by (changer c v.cell) (sym (ap (λ f. version_by c f v.cell (changer c v.cell)) new) ∙ sym (version_by_changer c v) ∙ e)
    where
      by : (x : Option ℕ) → version_by c true v.cell x ≡ Some l → IsOfMember v l
      by None is = cc
      by (Some m) is = (m, subst (λ k. Names k m) (sym (new_is c m (c.after m v.cell) l is).1) refl)

  changed_of_member : (life : Lifetime ℕ) → IsChanged life → (x : ℕ) × Names life x
  changed_of_member Always h = absurd h
  changed_of_member (With x) h = absurd h
  changed_of_member (Without x) h = (x, refl)

  -- a row that is in reach is of a tie
  reach_of_tie : (s : Held) → IsInReach c s → IsOfTie c s
  reach_of_tie s (inl it) = inl (inl (record {
    id = it.id;
    lived = it.lived;
    is = it.is;
    holds = new_of_member it.id it.lived it.is it.holds;
    they_call = it.they_call;
  }))
  reach_of_tie s (inr (inl it)) = inl (inr (record {
    id = it.id;
    lived = it.lived;
    is = it.is;
    holds = changed_of_member it.lived.life it.holds;
    it_serves = it.it_serves;
  }))
  reach_of_tie s (inr (inr it)) = inr (record {
    need = it.need;
    first = it.first;
    second = it.second;
    possible = it.possible;
    holds = touched_involves c it.need it.first it.second it.possible it.holds;
    it_serves = it.it_serves;
  })

  pub found_for_groups : (s : Held) → IsInReach c s ⊎ IsOfTie c s → IsFound Groups c s
  found_for_groups s (inl it) = tie_found s (reach_of_tie s it)
  found_for_groups s (inr it) = tie_found s it

-- passes -------------------------------------------------------------------------------------------

module _ (c : Setting ℕ) (rows : View) (test : Held → Bool) (fits : FitsCut c rows) where
  abbrev d : Setting ℕ
  d = with_root c rows

  pub takes_reach : (aim : Aim) → TakesFound aim c rows test → TakesReach c rows test
  takes_reach Plans takes s it = takes s (reach_found d fits s it)
  takes_reach Groups takes s it = takes s (found_for_groups d fits s (inl it))

  pub group_pass : (list : List Held) → AreRowsOf c.root list → AreSomeOf rows c.root → TakesFound Groups c rows test → lacked c rows test list ≡ []
      → HasReach c rows × HasTied c rows
  group_pass list are part takes none = (
    pass c rows test list are part (takes_reach Groups takes) none,
    λ q r there tie. there_unless_lacked c rows test part (q, r) there (told_of_all c rows test list are none (q, r) there)
        (or_right (is_some (changer c q)) (test (q, r)) (takes (q, r) (found_for_groups d fits (q, r) (inr (inl tie))))),
  )
