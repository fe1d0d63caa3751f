-- What tests tell of members that stand together, or that can't.
use Rattle.std.proofs.Common.{◌≡◌, ◌∙◌, ◌==◌, ℕ, Bool, true, false, List, None, Some, Contains, arith, refl, subst, sym}
use Rattle.std.specs.List.{list_any}
use Rattle.std.proofs.lemmas.Bool.{true≢false}
use Rattle.std.proofs.lemmas.Bool.Decides.{Decides-eqb}
use Rattle.clr_rules.proofs.Elements.{among, any_by, contained, some_of}
use Rattle.clr_needs.specs.declared.faults.SceneFault.{SceneFault}
use Rattle.clr_needs.specs.declared.faults.SceneFault.TheVariants as scene
use Rattle.clr_needs.specs.declared.needs.Need.{Need}
use Rattle.clr_needs.specs.Members.{AreApart, IsSceneFault}
use Rattle.clr_needs.specs.Needs.{AreTouchedNeeds, IsPossibleNeed, IsTouched}
use Rattle.clr_needs.specs.Settings.{Setting}
use Rattle.clr_needs.specs.Tests.{IsTestOf}
use Rattle.clr_needs.proofs.NeedSubjects.{subjects_once}
use Rattle.clr_ordered_needs.specs.Helpers.{IsHelper}
use Rattle.clr_open_needs.specs.OpenNeeds.{Helps, IsHelperOf}
use Rattle.clr_steps.specs.Offices.{Office}
use Rattle.clr_steps.specs.Quiet.{MergeSet}
use Rattle.clr_clearance.specs.declared.verdicts.Verdict.{Verdict}
use Rattle.clr_clearance.specs.declared.verdicts.Verdict.TheVariants as verdict
use Rattle.clr_clearance.specs.MergeSets.{change_sets, setting_by_position}
use Rattle.clr_clearance.specs.Verdicts.{member_fault}
use Rattle.clr_merge_sets.specs.Faults as faults
use Rattle.clr_merge_sets.specs.Faults.{IsMergeSetFault, verdict_of}
use Rattle.clr_clash_helpers.specs.Helpers.{AreTogether, HelpsAt, Touch}
use Rattle.clr_clash_helpers.specs.FailedTests.{IsRefused}

-- tests of facts that say the same
pub retold : {P Q : Type 0} (told : Bool) → (P → Q) → (Q → P) → IsTestOf told P → IsTestOf told Q
retold true there back h = there h
retold false there back h = λ q. h (back q)

pub told_not : {P : Type 0} (told : Bool) → told ≡ false → ¬ P → IsTestOf told P
told_not {P} told is fails = subst (λ b. IsTestOf b P) (sym is) fails

refused_false : (v : Verdict) (told : Bool) → IsRefused v told → told ≡ false
refused_false verdict.OutOfMemory told h = absurd h
refused_false _ told h = h

-- what a scene's list of needs tells ----------------------------------------------------------------------

pub touched_told : (c : Setting ℕ) (n : Need) (needs : List Need) (told : Bool) → AreTouchedNeeds c needs → IsTestOf told (Contains needs n)
    → IsTestOf told (IsTouched c n)
touched_told c n needs told are test = retold told (λ h. (are.exactly n).0 h) (λ h. (are.exactly n).1 h) test

-- what a list of helpers tells
pub helper_told : (c : Setting ℕ) (n : Need) (list : List ℕ) (place : ℕ) (told : Bool) → IsPossibleNeed c n → Helps c n list
    → told ≡ list_any (λ x. x == place) list → IsTestOf told (IsHelperOf c n place)
helper_told c n list place told (a, b, possible) helps is = by told is
  where
    there : Contains list place → IsHelperOf c n place
    there h = (a, b, possible, ((helps a b possible).exactly place).0 h)

    back : IsHelperOf c n place → Contains list place
    back (d, e, p, w) =
        let once = subjects_once c n a d b e possible p in
        ((helps a b possible).exactly place).1 (subst (λ l. IsHelper c n l b place) once.0 (subst (λ m. IsHelper c n d m place) once.1 w))

    by : (told : Bool) → told ≡ list_any (λ x. x == place) list → IsTestOf told (IsHelperOf c n place)
    by true e = let (x, among_it, same) = some_of (λ x. x == place) list (sym e) in
        there (subst (Contains list) ((Decides-eqb x place).0 same) (contained x list among_it))
    by false e = λ h. true≢false (sym (any_by (λ x. x == place) place list (among place list (back h)) ((Decides-eqb place place).1 refl)) ∙ sym e)

-- members that can't stand together -------------------------------------------------------------------------

module _ (o : Office) (s : MergeSet) where
  not_together_of_member : (v : Verdict) → member_fault o s ≡ Some v → ¬ (AreTogether o s)
  not_together_of_member v is together = let both : None ≡ Some v = sym together.free ∙ is in absurd (cc)

  pub fault_refuses : (P : Type 0) → (P → AreTogether o s) → (v : Verdict) → IsMergeSetFault o s v → (told : Bool) → IsRefused v told → IsTestOf told P
  fault_refuses P of v (faults.of_member is) told h = told_not told (refused_false v told h) (λ p. not_together_of_member v is (of p))
  fault_refuses P of v (faults.without_memory named is) told h = absurd (subst (λ w. IsRefused w told) is h)

  shared_apart : (fault : SceneFault) → IsSceneFault (change_sets o s) fault → (told : Bool) → IsRefused (verdict_of fault) told
      → ¬ (AreApart (change_sets o s))
  shared_apart (scene.SharedCell cell first second) is told h = λ apart.
      (let same : first ≡ second = apart cell first second is.two.first is.two.second in let less = is.two.ascending in absurd (omega (arith, same, less)))
  shared_apart scene.OutOfMemory is told h = absurd h

  pub shared_refuses : (P : Type 0) → (P → AreTogether o s) → (fault : SceneFault) → IsSceneFault (change_sets o s) fault → (told : Bool)
      → IsRefused (verdict_of fault) told → IsTestOf told P
  shared_refuses P of fault is told h = told_not told (refused_false (verdict_of fault) told h) (λ p. shared_apart fault is told h (of p).apart)

  pub touch_told : (n : Need) (d : Setting ℕ) → d ≡ setting_by_position o s → member_fault o s ≡ None → AreApart (change_sets o s) → (told : Bool)
      → IsTestOf told (IsTouched d n) → IsTestOf told (Touch o s n)
  touch_told n d same free apart told test =
      retold told (λ h. record { together = record { free = free; apart = apart }; touched = subst (λ c. IsTouched c n) same h })
      (λ t. subst (λ c. IsTouched c n) (sym same) t.touched) test

  pub help_told : (n : Need) (place : ℕ) (d : Setting ℕ) → d ≡ setting_by_position o s → member_fault o s ≡ None → AreApart (change_sets o s) → (told : Bool)
      → IsTestOf told (IsHelperOf d n place) → IsTestOf told (HelpsAt o s n place)
  help_told n place d same free apart told test =
      retold told (λ h. record { together = record { free = free; apart = apart }; helps = subst (λ c. IsHelperOf c n place) same h })
      (λ t. subst (λ c. IsHelperOf c n place) (sym same) t.helps) test
