-- A need is newly broken where all its blockers are merged and no helper is; and so is an uncovered one where its blockers are, and those before them.
use Rattle.std.proofs.Common.{◌≡◌, ◌∙◌, true, List, inl, inr, refl, sym, ap, Option, not}
use Rattle.std.proofs.lemmas.Bool.{cases_Bool, false≢true, true≢false}
use Rattle.clr_rules.specs.Needs.{BreaksNoMore}
use Rattle.clr_needs.specs.declared.needs.Need.{Need}
use Rattle.clr_needs.specs.Settings.{Setting, AreAmong, AreDisjoint, DoChange, Lifetime, Always, With, Without, Lived, has, view_with}
use Rattle.clr_needs.proofs.Lives.{lives}
use Rattle.clr_needs.proofs.Meetings.{HasServer, IsStandingNeed, IsSubjectLife, is_need, server_of}
use Rattle.clr_needs.proofs.Merges.{IsMerge}
use Rattle.clr_needs.proofs.NeedSubjects.{blocker_involves, involved_member}
use Rattle.clr_needs.proofs.TouchedLaws.{touched_is_kept}
use Rattle.clr_ordered_needs.specs.Covers.{IsUncovered}
use Rattle.clr_ordered_needs.specs.Helpers.{AreUpToBlockers, IsHelper, IsUpToBlocker}
use Rattle.clr_ordered_needs.specs.Laws.{UncoveredBreaks}
use Rattle.clr_ordered_needs.specs.States.{IsBrokenWith, IsOpen}
use Rattle.clr_ordered_needs.specs.Turns.{Order, AreInTurn, IsTransitive}
use Rattle.clr_ordered_needs.proofs.HelpLaws.{cover_is_help, subject_blocks, subject_helps}

module _ {A : Type 0} (c : Setting A) (ts : List A) (n : Need) (a : Lived A) (b : Option (Lived A)) (is_open : IsOpen c n a b)
    (broken : IsBrokenWith c n a b ts) where
  subjects_live : (l : Lifetime A) → IsSubjectLife c a b l → lives c ts l ≡ true
  subjects_live Always h = refl
  subjects_live (With y) h = broken.blockers y (subject_blocks c n a b y h)
  subjects_live (Without x) h = ap not (broken.helpers x (subject_helps c n a b x h))

  none_serves : HasServer c ts n a b → ⊥
  none_serves s = by s.lived.life refl
    where
      by : (life : Lifetime A) → s.lived.life ≡ life → ⊥
      by Always e = is_open.none_always (s.id, s.lived, s.serves, e)
      by (With x) e = true≢false (sym (sym (ap (lives c ts) e) ∙ s.lives) ∙ broken.helpers x (inr (inr (s.id, s.lived, s.serves, e))))
      by (Without y) e = false≢true (sym (ap not (broken.blockers y (inr (inr (s.id, s.lived, s.serves, e))))) ∙ sym (ap (lives c ts) e) ∙ s.lives)

  pub newly_broken : AreDisjoint c → DoChange c → AreAmong c ts c.members → BreaksNoMore c.rules c.root (view_with c ts) → ⊥
  newly_broken apart changes part no_more =
      let merge : IsMerge c ts = record { apart = apart; part = part } in
      let need : IsStandingNeed c ts n a b = record { possible = is_open.possible; live = subjects_live } in
      none_serves (server_of c ts n a b merge
      (no_more _ _ _ (touched_is_kept c changes n a b is_open.possible is_open.touched) (is_need c ts n a b merge need)))

module _ {A : Type 0} (before : Order A) (c : Setting A) (n : Need) (a : Lived A) (b : Option (Lived A)) (uncovered : IsUncovered before c n a b) (ts : List A)
    (blockers : AreUpToBlockers before c n a b ts) where
  uncovered_is_open : IsOpen c n a b
  uncovered_is_open = record {
    possible = uncovered.possible;
    touched = uncovered.touched;
    none_always = λ serves. uncovered.no_cover ((cover_is_help before c n a b uncovered.possible).1 (inl serves));
  }

  -- no helper is a blocker, or goes before one
  no_help : (x : A) → IsHelper c n a b x → IsUpToBlocker before c n a b x → ⊥
  no_help x helper (y, blocker, up) = uncovered.no_cover ((cover_is_help before c n a b uncovered.possible).1 (inr (x, y, helper, blocker, up)))

  broken_there : IsBrokenWith c n a b ts
  broken_there = record {
    blockers = λ y blocker. blockers.every y (involved_member c n a b y uncovered.possible (blocker_involves c n a b y blocker)) (y, blocker, inl refl);
    helpers = λ x helper. elim (cases_Bool (has c.same ts x)) [ inl merged ↦ absurd (no_help x helper (blockers.only x merged)) | inr out ↦ out ];
  }

  -- with each of them come those before it
  in_turn : IsTransitive before → AreInTurn before c ts
  in_turn transitive m p goes member merged = by (blockers.only p merged)
    where
      by : IsUpToBlocker before c n a b p → has c.same ts m ≡ true
      by (y, blocker, inl same) = blockers.every m member (y, blocker, inr (ap (before m) (sym same) ∙ goes))
      by (y, blocker, inr further) = blockers.every m member (y, blocker, inr (transitive m p y goes further))

pub uncovered_breaks : {A : Type 0} (before : Order A) (c : Setting A) → UncoveredBreaks before c
uncovered_breaks before c ts n a b apart changes transitive uncovered blockers = (
  in_turn before c n a b uncovered ts blockers transitive,
  newly_broken c ts n a b (uncovered_is_open before c n a b uncovered ts blockers) (broken_there before c n a b uncovered ts blockers) apart changes
      blockers.part,
)
