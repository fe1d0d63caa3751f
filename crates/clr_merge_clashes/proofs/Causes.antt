-- Of one member after another, why it can't be merged even alone.
use Rattle.std.proofs.Common.{◌≡◌, List, [], ◌∷◌, ◌++◌, ℕ, zero, suc, Option, Some, ap, length, refl, subst}
use Rattle.std.specs.Prelude.{slice_get}
use Rattle.clr_workspaces.specs.Marks.{Name}
use Rattle.clr_steps.specs.Offices.{Office}
use Rattle.clr_clearance.specs.declared.verdicts.Verdict.{Verdict}
use Rattle.clr_merge_clashes.specs.Lone.{AreCauses, IsCause, alone}

module _ (o : Office) (root : Name) where
  pub one_cause_more : (names : List Name) (causes : List (Option Verdict)) (name : Name) (cause : Option Verdict) → AreCauses o root names causes
      → IsCause o (alone root name) cause → AreCauses o root (names ++ name ∷ []) (causes ++ cause ∷ [])
  one_cause_more [] [] name cause are is = (is, tt)
  one_cause_more [] (x ∷ causes) name cause are is = absurd are
  one_cause_more (n ∷ names) [] name cause are is = absurd are
  one_cause_more (n ∷ names) (x ∷ causes) name cause are is = (are.0, one_cause_more names causes name cause are.1 is)

  -- there is one cause a name
  pub same_count : (names : List Name) (causes : List (Option Verdict)) → AreCauses o root names causes → length causes ≡ length names
  same_count [] [] are = refl
  same_count [] (x ∷ causes) are = absurd are
  same_count (n ∷ names) [] are = absurd are
  same_count (n ∷ names) (x ∷ causes) are = ap suc (same_count names causes are.1)

  pub cause_of : (names : List Name) (causes : List (Option Verdict)) → AreCauses o root names causes → (at : ℕ) (cause : Option Verdict)
      → slice_get causes at ≡ Some cause → (name : Name) × (slice_get names at ≡ Some name) × IsCause o (alone root name) cause
  cause_of [] [] are at cause e = absurd (cc)
  cause_of [] (x ∷ causes) are at cause e = absurd are
  cause_of (n ∷ names) [] are at cause e = absurd are
  cause_of (n ∷ names) (x ∷ causes) are zero cause e = let same : x ≡ cause = cc in (n, refl, subst (IsCause o (alone root n)) same are.0)
  cause_of (n ∷ names) (x ∷ causes) are (suc at) cause e = cause_of names causes are.1 at cause e
