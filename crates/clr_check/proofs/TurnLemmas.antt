-- Whose turn it is, told by one precedence after another.
use Rattle.std.proofs.Common.{◌≡◌, ◌∙◌, ◌+◌, ◌<◌, ◌≤◌, ℕ, zero, suc, Bool, true, false, not, ◌&&◌, ◌||◌, List, [], ◌∷◌, ◌++◌, Bor, Some, inl, inr, refl, sym, ap, subst}
use Rattle.std.proofs.Common.{get_or, length, map, take}
use Rattle.std.specs.List.{list_any}
use Rattle.std.specs.Prelude.{option_map, slice_get}
use Rattle.std.proofs.lemmas.Bool.{false≢true, true≢false, or_cases, or_left, or_right}
use Rattle.std.proofs.lemmas.List.{take_all, take_more}
use Rattle.std.proofs.lemmas.List.Folds.{list_any-append}
use Rattle.std.proofs.lemmas.Option.{slice_get-get_or, slice_get-map}
use Rattle.clr_rows.proofs.SchemaLemmas.{list_any-map}
use Rattle.clr_workspaces.specs.Marks.{Name}
use Rattle.clr_needs.specs.Tests.{IsTestOf}
use Rattle.clr_needs.proofs.TestLemmas.{told_as}
use Rattle.clr_steps.specs.declared.commands.Command.{Command}
use Rattle.clr_steps.specs.declared.commands.Command.TheVariants as command
use Rattle.clr_steps.specs.Names.{has, same_name}
use Rattle.clr_steps.specs.Quiet.{is_member}
use Rattle.clr_steps.proofs.FindLemmas.{same_is, same_itself}
use Rattle.clr_ordered_clearance.specs.MergeSets.{OrderedMergeSet, goes_before}
use Rattle.clr_ordered_clearance.specs.Runs.{IsDue}
use Rattle.clr_ordered_clearance.specs.Turns.{IsTurnOf}
use Rattle.clr_cert.specs.declared.certificates.Certificate.{Certificate}
use Rattle.clr_cert.specs.declared.certificates.Precedence.{Precedence}
use Rattle.clr_merge_sets.specs.Certificates.{merge_set_of, pairs_in}
use Rattle.clr_check.specs.Turns.{is_held_back_by}

-- a borrowed value at a position
module _ {X : Type 0} (xs : List (Bor X)) (k : ℕ) where
  pub borrowed_at : (d : Bor X) → k < length xs → slice_get (map (λ y. y.now) xs) k ≡ Some (get_or xs k d).now
  borrowed_at d less = slice_get-map (λ y. y.now) xs k ∙ ap (option_map (λ y. y.now)) (slice_get-get_or xs k d less)

-- tests -------------------------------------------------------------------------------------------

and_parts : (a b : Bool) → a && b ≡ true → (a ≡ true) × (b ≡ true)
and_parts true true e = (refl, refl)
and_parts true false e = absurd (false≢true e)
and_parts false b e = absurd (false≢true e)

-- a precedence that says so of two names
abbrev says : Name → Name → Precedence → Bool
says m name p = same_name p.earlier m && same_name p.later name

module _ (c : Certificate) (merged : List Name) (name : Name) where
  -- the certificate, as if it had these precedences
  abbrev of_these : List Precedence → OrderedMergeSet
  of_these before = record { merge_set = merge_set_of c; before = pairs_in before }

  -- by these precedences it is the member's turn
  abbrev pub IsTurnBy : List Precedence → Type 0
  IsTurnBy before = IsTurnOf (of_these before) merged name

  goes_is : (before : List Precedence) (m : Name) → goes_before (of_these before) m name ≡ list_any (says m name) before
  goes_is before m = list_any-map (λ p. same_name p.0 m && same_name p.1 name) (λ (p : Precedence). (p.earlier, p.later)) before

  pub none_yet : (before : List Precedence) → IsTurnBy (take 0 before)
  none_yet [] m goes member = absurd (false≢true goes)
  none_yet (p ∷ ps) m goes member = absurd (false≢true goes)

  -- one that doesn't hold the member back
  one_lets : (p : Precedence) → is_held_back_by (merge_set_of c) merged name p ≡ false → (m : Name) → says m name p ≡ true → is_member (merge_set_of c) m ≡ true
      → has merged m ≡ true
  one_lets p lets m goes member =
      let parts = and_parts (same_name p.earlier m) (same_name p.later name) goes in
      let first = same_is p.earlier m parts.0 in
      by (has merged m) refl
      (sym (λ i. parts.1 i && ((ap (is_member (merge_set_of c)) first ∙ member) i && not (ap (has merged) first i))) ∙ lets)
    where
      by : (b : Bool) → has merged m ≡ b → not (has merged m) ≡ false → has merged m ≡ true
      by true e f = e
      by false e f = absurd (true≢false (sym (ap not e) ∙ f))

  pub one_more_lets : (before : List Precedence) (k : ℕ) (p d : Precedence) → k < length before → p ≡ get_or before k d
      → is_held_back_by (merge_set_of c) merged name p ≡ false → IsTurnBy (take k before) → IsTurnBy (take (k + 1) before)
  one_more_lets before k p d less is lets turn m goes member =
      let all : list_any (says m name) (take k before ++ p ∷ []) ≡ true =
      ap (λ x. list_any (says m name) (take k before ++ x ∷ [])) is ∙ ap (list_any (says m name)) (sym (take_more before k d less))
      ∙ sym (goes_is (take (k + 1) before) m) ∙ goes in
      elim (or_cases (list_any (says m name) (take k before)) (list_any (says m name) (p ∷ []))
      (sym (list_any-append (says m name) (take k before) (p ∷ [])) ∙ all)) [
        | inl earlier ↦ turn m (goes_is (take k before) m ∙ earlier) member
        | inr last ↦ one_lets p lets m (alone (says m name p) last) member
      ]
    where
      alone : (b : Bool) → b || false ≡ true → b ≡ true
      alone true e = refl
      alone false e = e

  pub all_let : (before : List Precedence) (k : ℕ) → length before ≤ k → IsTurnBy (take k before) → IsTurnBy before
  all_let before k past turn = subst IsTurnBy (take_all k before past) turn

  pub one_holds_back : (before : List Precedence) (k : ℕ) (p d : Precedence) → k < length before → p ≡ get_or before k d
      → is_held_back_by (merge_set_of c) merged name p ≡ true → ¬ (IsTurnBy before)
  one_holds_back before k p d less is holds turn =
      let parts = and_parts (same_name p.later name) (is_member (merge_set_of c) p.earlier && not (has merged p.earlier)) holds in
      let rest = and_parts (is_member (merge_set_of c) p.earlier) (not (has merged p.earlier)) parts.1 in
      let goes : list_any (says p.earlier name) before ≡ true = any_at before k p (slice_get-get_or before k d less ∙ ap Some (sym is))
      (λ i. same_itself p.earlier i && parts.0 i) in
      let there = turn p.earlier (goes_is before p.earlier ∙ goes) rest.0 in
      false≢true (sym (ap not there) ∙ rest.1)
    where
      any_at : (xs : List Precedence) (j : ℕ) (q : Precedence) → slice_get xs j ≡ Some q → says q.earlier name q ≡ true
          → list_any (says q.earlier name) xs ≡ true
      any_at [] j q e h = absurd (cc)
      any_at (x ∷ xs) zero q e h =
          let one : x ≡ q = cc in
          or_left (says q.earlier name x) (list_any (says q.earlier name) xs) (ap (says q.earlier name) one ∙ h)
      any_at (x ∷ xs) (suc j) q e h = or_right (says q.earlier name x) (list_any (says q.earlier name) xs) (any_at xs j q e h)

-- commands that are due -----------------------------------------------------------------------------

module _ (ordered : OrderedMergeSet) (merged : List Name) where
  pub other_due : (c : Command) → ((name : Name) (remove : Bool) → ¬ (c ≡ command.Merge name remove)) → IsDue ordered merged c
  other_due (command.Merge name remove) other = absurd (other name remove refl)
  other_due _ other = tt

  pub outside_due : (c : Command) (name : Name) (remove : Bool) → c ≡ command.Merge name remove → is_member ordered.merge_set name ≡ false
      → IsDue ordered merged c
  outside_due c name remove is out = subst (IsDue ordered merged) (sym is) (λ member. absurd (false≢true (sym out ∙ member)))

  pub member_due : (c : Command) (name : Name) (remove : Bool) (told : Bool) → c ≡ command.Merge name remove → is_member ordered.merge_set name ≡ true
      → IsTestOf told (IsTurnOf ordered merged name) → IsTestOf told (IsDue ordered merged c)
  member_due c name remove told is member turn =
      subst (λ x. IsTestOf told (IsDue ordered merged x)) (sym is)
      (told_as told (IsTurnOf ordered merged name) (is_member ordered.merge_set name ≡ true → IsTurnOf ordered merged name) (λ t _. t) (λ f. f member) turn)
