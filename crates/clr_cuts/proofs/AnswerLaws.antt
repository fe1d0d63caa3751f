-- What is told of needs over a cut is told of them over the whole root.
use Rattle.std.proofs.Common.{◌≡◌, ◌∙◌, ℕ, ◌<◌, List, ◌↔◌, refl, sym, subst, Option, Some, None}
use Rattle.clr_rules.specs.Needs.{View}
use Rattle.clr_needs.specs.declared.needs.Need.{Need}
use Rattle.clr_needs.specs.declared.needs.VersionId.{VersionId}
use Rattle.clr_needs.specs.Covers.{AreBlockers, AreCovered, Entry, IsBlocker, IsUncovered}
use Rattle.clr_needs.specs.Needs.{IsPossible, IsServing, IsTouched, IsTouchedBy, Lists}
use Rattle.clr_needs.specs.Orders.{need_cmp}
use Rattle.clr_needs.specs.Picks.{Blocks, IsLesser, Picks}
use Rattle.clr_needs.specs.Settings.{Setting, DoChange, Lived, changer}
use Rattle.clr_needs.proofs.Agreement.{Agree, IsInOneOrder, alone_to, blocker_at, entry_to, pick_to, together_to}
use Rattle.clr_needs.proofs.BrokenLaws.{uncovered_breaks}
use Rattle.clr_needs.proofs.CoverLaws.{covered_breaks_no_more, covered_holds}
use Rattle.clr_needs.proofs.Merges.{IsChanger, changer_is}
use Rattle.clr_needs.proofs.NeedSubjects.{subjects_once}
use Rattle.clr_cuts.specs.Cuts.{HasCellIfAny, HasChanged, HasServers, HasSubjects, IsCut, AreSomeOf, IsSafeCut, with_root}
use Rattle.clr_cuts.specs.Laws.{AnswersSafely, AnswersTheSame, IsSameNeed}
use Rattle.clr_cuts.proofs.CutLaws.{Same, agree_down, agree_up, covered_up, kept_touched, possible_down, possible_up, same_one, same_touched, serves_up}
use Rattle.clr_cuts.proofs.CutLaws.{touched_down, touched_up}

module _ {A : Type 0} (c : Setting A) (rows : View) where
  abbrev d : Setting A
  d = with_root c rows

  pub answers_safely : IsSafeCut c rows → AnswersSafely c rows
  answers_safely safe = record {
    touched = same_touched c rows safe;
    covered = covered_up c rows safe;
    no_more = λ es apart covered. covered_breaks_no_more c es (record { apart = apart; covered = covered_up c rows safe es covered });
    holds = λ es apart covered holds. covered_holds c es (record { apart = apart; covered = covered_up c rows safe es covered }) holds;
  }

  -- where no member has what the cut has at a cell that it changes, none has what the whole has
  pub do_change : HasChanged c rows → DoChange d → DoChange c
  do_change changed change n q row member after same = by (changer c q) refl (changer_is c q)
    where
      by : (x : Option A) → changer c q ≡ x → IsChanger c c.members q x → ⊥
      by None e none = (let never : None ≡ Some row = sym (none n member) ∙ after in cc)
      by (Some x) e is = change n q row member after (same ∙ sym (changed q x e))

  -- one touched need -------------------------------------------------------------------------------

  module _ (part : AreSomeOf rows c.root) (servers : HasServers c rows) (n : Need) (a : Lived A) (b : Option (Lived A)) where
    pub uncovered_up : IsTouchedBy d n a b → IsUncovered d n a b → IsUncovered c n a b
    uncovered_up touched it = record {
      possible = possible_up c rows part n a b it.possible;
      not_alone = λ v h. it.not_alone v (alone_to c d (Same c rows) (same_one c rows) n a b a b (agree_down c rows part servers n a b it.possible touched) v h);
      not_together = λ v w h. it.not_together v w
          (together_to c d (Same c rows) (same_one c rows) n a b a b (agree_down c rows part servers n a b it.possible touched) v w h);
    }

    pub uncovered_down : HasSubjects rows c.root n → IsTouchedBy d n a b → IsUncovered c n a b → IsUncovered d n a b
    uncovered_down kept touched it =
        let possible = possible_down c rows n a b kept it.possible in
        let agree = agree_up c rows part servers n a b possible touched in
        record {
          possible = possible;
          not_alone = λ v h. it.not_alone v (alone_to d c (Same c rows) (same_one c rows) n a b a b agree v h);
          not_together = λ v w h. it.not_together v w (together_to d c (Same c rows) (same_one c rows) n a b a b agree v w h);
        }

    pub blocker_up : IsPossible d n a b → IsTouchedBy d n a b → (x : A) → IsBlocker d n a b x → IsBlocker c n a b x
    blocker_up possible touched x h = blocker_at d c (Same c rows) (same_one c rows) n a b a b (agree_up c rows part servers n a b possible touched) x x refl h

    pub blocker_down : IsPossible d n a b → IsTouchedBy d n a b → (x : A) → IsBlocker c n a b x → IsBlocker d n a b x
    blocker_down possible touched x h =
        blocker_at c d (Same c rows) (same_one c rows) n a b a b (agree_down c rows part servers n a b possible touched) x x refl h

    pub blockers_up : (ts : List A) → IsPossible d n a b → IsTouchedBy d n a b → AreBlockers d n a b ts → AreBlockers c n a b ts
    blockers_up ts possible touched are = record {
      part = are.part;
      only = λ x h. blocker_up possible touched x (are.only x h);
      every = λ x member h. are.every x member (blocker_down possible touched x h);
    }

  module _ (cut : IsCut c rows) where
    pub covered_down : (es : List Entry) → AreCovered c es → AreCovered d es
    covered_down es covered n a b possible touched =
        let above = possible_up c rows cut.safe.of_root n a b possible in
        entry_to c d (Same c rows) (same_one c rows) n a b a b (agree_down c rows cut.safe.of_root cut.servers n a b possible touched) es
        (covered n a b above (touched_up c rows cut.safe.of_root n a b touched))

module _ (c : Setting ℕ) (rows : View) (cut : IsCut c rows) where
  abbrev e : Setting ℕ
  e = with_root c rows

  same_order : IsInOneOrder IsLesser IsLesser (Same c rows)
  same_order = record {
    rising = λ x z y w h k less. subst (λ i. i < w) h (subst (λ i. x < i) k less);
    falling = λ x z y w h k less. subst (λ i. i < z) (sym h) (subst (λ i. y < i) (sym k) less);
  }

  module _ (n : Need) (is_touched : IsTouched c n) where
    kept : HasSubjects rows c.root n
    kept = kept_touched c rows cut.safe n is_touched

    -- whatever subjects the need has, it is touched with them
    touched_with : (a : Lived ℕ) (b : Option (Lived ℕ)) → IsPossible c n a b → IsTouchedBy e n a b
    touched_with a b possible = touched_down c rows cut.safe.changed n a b
        (let (x, y, possible_too, touched) = is_touched in
        let once = subjects_once c n x a y b possible_too possible in
        subst (λ p. IsTouchedBy c n p b) (sym once.0) (subst (IsTouchedBy c n x) (sym once.1) touched))

    down : (a : Lived ℕ) (b : Option (Lived ℕ)) → IsPossible c n a b → IsPossible e n a b
    down a b possible = possible_down c rows n a b kept possible

    up : (a : Lived ℕ) (b : Option (Lived ℕ)) → IsPossible e n a b → IsPossible c n a b
    up a b possible = possible_up c rows cut.safe.of_root n a b possible

    agree : (a : Lived ℕ) (b : Option (Lived ℕ)) → IsPossible e n a b → Agree e c (Same c rows) n a b a b
    agree a b possible = agree_up c rows cut.safe.of_root cut.servers n a b possible (touched_with a b (up a b possible))

    agree_back : (a : Lived ℕ) (b : Option (Lived ℕ)) → IsPossible e n a b → Agree c e (Same c rows) n a b a b
    agree_back a b possible = agree_down c rows cut.safe.of_root cut.servers n a b possible (touched_with a b (up a b possible))

    pick_up : (pick : Option (VersionId × Option VersionId)) → Picks e n pick → Picks c n pick
    pick_up pick picks a b possible = pick_to IsLesser IsLesser e c (Same c rows) (same_one c rows) same_order n a b a b (agree a b (down a b possible)) pick
        (picks a b (down a b possible))

    pick_down : (pick : Option (VersionId × Option VersionId)) → Picks c n pick → Picks e n pick
    pick_down pick picks a b possible = pick_to IsLesser IsLesser c e (Same c rows) (same_one c rows) same_order n a b a b (agree_back a b possible) pick
        (picks a b (up a b possible))

    member_up : (a : Lived ℕ) (b : Option (Lived ℕ)) → IsPossible e n a b → (x : ℕ) → IsBlocker e n a b x → IsBlocker c n a b x
    member_up a b possible = blocker_up c rows cut.safe.of_root cut.servers n a b possible (touched_with a b (up a b possible))

    member_down : (a : Lived ℕ) (b : Option (Lived ℕ)) → IsPossible e n a b → (x : ℕ) → IsBlocker c n a b x → IsBlocker e n a b x
    member_down a b possible = blocker_down c rows cut.safe.of_root cut.servers n a b possible (touched_with a b (up a b possible))

    blocks_up : (list : List ℕ) → Blocks e n list → Blocks c n list
    blocks_up list blocks a b possible = (let it = blocks a b (down a b possible) in record {
      ascending = it.ascending;
      exactly = λ x. (
        λ h. member_up a b (down a b possible) x ((it.exactly x).0 h),
        λ h. (it.exactly x).1 (member_down a b (down a b possible) x h),
      );
    })

    blocks_down : (list : List ℕ) → Blocks c n list → Blocks e n list
    blocks_down list blocks a b possible = (let it = blocks a b (up a b possible) in record {
      ascending = it.ascending;
      exactly = λ x. (λ h. member_down a b possible x ((it.exactly x).0 h), λ h. (it.exactly x).1 (member_up a b possible x h));
    })

    serving_up : (v : VersionId) → IsServing e n v → IsServing c n v
    serving_up v h = let (a, b, l, possible, serve) = h in (a, b, l, up a b possible, serves_up c rows cut.safe.of_root n a b v l serve)

    serving_down : (v : VersionId) → IsServing c n v → IsServing e n v
    serving_down v h =
        let (a, b, l, possible, serve) = h in
        let (m, it, same) = (agree_back a b (down a b possible)).to v l serve in
        (a, b, m, down a b possible, it)

    pub same_need : IsSameNeed c rows n
    same_need = record {
      possible = λ a b. (up a b, down a b);
      servers = λ v. (serving_up v, serving_down v);
      uncovered = (
        λ h. (let (a, b, it) = h in
            (a, b, uncovered_up c rows cut.safe.of_root cut.servers n a b (touched_with a b (up a b it.possible)) it)),
        λ h. (let (a, b, it) = h in (a, b, uncovered_down c rows cut.safe.of_root cut.servers n a b kept (touched_with a b it.possible) it)),
      );
      picks = λ pick. (pick_up pick, pick_down pick);
      blocks = λ list. (blocks_up list, blocks_down list);
      blockers = λ x. (
        λ h. (let (a, b, possible, it) = h in (a, b, up a b possible, member_up a b possible x it)),
        λ h. (let (a, b, possible, it) = h in (a, b, down a b possible, member_down a b (down a b possible) x it)),
      );
    }

  lists_as : (P Q : Need → Type 0) (ns : List Need) → ((n : Need) → P n ↔ Q n) → Lists need_cmp P ns → Lists need_cmp Q ns
  lists_as P Q ns same it = record {
    ascending = it.ascending;
    exactly = λ n. (λ h. (same n).0 ((it.exactly n).0 h), λ h. (it.exactly n).1 ((same n).1 h));
  }

  turned : (n : Need) → IsTouched c n ↔ IsTouched e n
  turned n = let it = same_touched c rows cut.safe n in (it.1, it.0)

  pub answers_the_same : AnswersTheSame c rows
  answers_the_same = record {
    safely = answers_safely c rows cut.safe;
    lists = λ ns. (lists_as (IsTouched e) (IsTouched c) ns (same_touched c rows cut.safe), lists_as (IsTouched c) (IsTouched e) ns turned);
    covered = λ es. (covered_up c rows cut.safe es, covered_down c rows cut es);
    needs = same_need;
    breaks = λ ts n a b apart change uncovered touched blockers. uncovered_breaks c n a b ts
        (uncovered_up c rows cut.safe.of_root cut.servers n a b touched uncovered)
        (blockers_up c rows cut.safe.of_root cut.servers n a b ts uncovered.possible touched blockers)
        apart
        (do_change c rows cut.safe.changed change)
        (touched_up c rows cut.safe.of_root n a b touched);
  }

pub whole_is_cut : {A : Type 0} (c : Setting A) → IsCut c c.root
whole_is_cut c = record {
  safe = record { of_root = λ q r e. e; changed = λ q x e. refl; subjects = λ n a b possible touched. (refl, second n.second) };
  servers = λ n a b v l possible touched serve. refl;
}
  where
    second : (w : Option VersionId) → HasCellIfAny c.root c.root w
    second None = tt
    second (Some w) = refl
