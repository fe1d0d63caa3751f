-- The needs that the first workspaces of a tree break, gained from one workspace after another.
use Rattle.std.proofs.Common.{◌≡◌, ◌⊎◌, ◌∙◌, inl, inr, ◌<◌, ◌++◌, ◌+◌, ℕ, true, false, List, [], Contains, ap, subst, sym, arith}
use Rattle.std.proofs.lemmas.Bool.{cases_lt, false≢true}
use Rattle.std.specs.List.Sorted.{IsStrictlySortedBy}
use Rattle.clr_rows.specs.Contents.{row_at}
use Rattle.clr_rules.specs.declared.needs.Broken.{Broken}
use Rattle.clr_rules.specs.declared.rules.Rule.{Rule}
use Rattle.clr_rules.specs.Needs.{IsBroken, broken_cmp, broken_needs}
use Rattle.clr_rules.proofs.BrokenLemmas.{broken_listed, listed_broken}
use Rattle.clr_rules.proofs.Elements.{Among, among, among_either, among_left, among_right, contained}
use Rattle.clr_workspaces.specs.Workspaces.{Workspace, workspace_at}
use Rattle.clr_judges.specs.BrokenNeeds.{AreBrokenBelow, IsBrokenBelow}

module _ (book : List Rule) (ws : List Workspace) where
  pub none_below : AreBrokenBelow book ws 0 []
  unfolding IsStrictlySortedBy
  none_below = record {
    ascending = tt;
    exactly = λ b. (λ h. absurd (among b [] h), λ h. absurd (omega (arith, h.1)));
  }

  -- what is broken below the next position is broken below this one, or here
  last : (at : ℕ) (b : Broken) → IsBrokenBelow book ws (at + 1) b
      → IsBrokenBelow book ws at b ⊎ (((workspace_at ws at).kept ≡ true) × IsBroken book (row_at (workspace_at ws at).current) b)
  last at b (k, lt, kept, broken) = elim (cases_lt k at) [
    | inl less ↦ inl (k, less, kept, broken)
    | inr more ↦ (let same : k ≡ at = omega (arith, lt, more) in inr (
      subst (λ (n : ℕ). (workspace_at ws n).kept ≡ true) same kept,
      subst (λ (n : ℕ). IsBroken book (row_at (workspace_at ws n).current) b) same broken,
    ))
  ]

  wider : (at : ℕ) (b : Broken) → IsBrokenBelow book ws at b → IsBrokenBelow book ws (at + 1) b
  wider at b (k, lt, kept, broken) = (k, omega (arith, lt), kept, broken)

  pub passed_below : (at : ℕ) (list : List Broken) → (workspace_at ws at).kept ≡ false → AreBrokenBelow book ws at list → AreBrokenBelow book ws (at + 1) list
  passed_below at list flag are = record {
    ascending = are.ascending;
    exactly = λ b. (
      λ h. wider at b ((are.exactly b).0 h),
      λ h. (are.exactly b).1 (elim (last at b h) [ inl before ↦ before | inr here ↦ absurd (false≢true (sym flag ∙ here.0)) ]),
    );
  }

  pub gained_below : (at : ℕ) (old needs mid new : List Broken) → (workspace_at ws at).kept ≡ true → AreBrokenBelow book ws at old
      → needs ≡ broken_needs book (workspace_at ws at).current → mid ≡ old ++ needs → IsStrictlySortedBy broken_cmp new
      → ((b : Broken) → (Contains new b → Contains mid b) × (Contains mid b → Contains new b)) → AreBrokenBelow book ws (at + 1) new
  gained_below at old needs mid new flag are audit joined rises same = record { ascending = rises; exactly = λ b. (there b, back b) }
    where
      all : mid ≡ old ++ broken_needs book (workspace_at ws at).current
      all = joined ∙ ap (λ bs. old ++ bs) audit

      there : (b : Broken) → Contains new b → IsBrokenBelow book ws (at + 1) b
      there b h =
          let listed = subst (λ (bs : List Broken). Among b bs) all (among b mid ((same b).0 h)) in
          elim (among_either b old (broken_needs book (workspace_at ws at).current) listed) [
            | inl before ↦ wider at b ((are.exactly b).0 (contained b old before))
            | inr here ↦ (at, omega arith, flag, listed_broken book (workspace_at ws at).current b here)
          ]

      listed : (b : Broken) → Among b (old ++ broken_needs book (workspace_at ws at).current) → Contains new b
      listed b h = (same b).1 (contained b mid (subst (λ (bs : List Broken). Among b bs) (sym all) h))

      back : (b : Broken) → IsBrokenBelow book ws (at + 1) b → Contains new b
      back b h =
          let needs = broken_needs book (workspace_at ws at).current in
          elim (last at b h) [
            | inl before ↦ listed b (among_left b old needs (among b old ((are.exactly b).1 before)))
            | inr here ↦ listed b (among_right b old needs (broken_listed book (workspace_at ws at).current b here.1))
          ]
