-- Names that are tried one after another.
use Rattle.std.proofs.Common.{◌≡◌, ◌∙◌, ◌||◌, ◌≤◌, ◌+◌, true, false, not, List, [], ◌∷◌, ◌++◌, ℕ, Option, None, Some}
use Rattle.std.proofs.Common.{append-nil, ap, ap₂, arith, inl, inr, length, refl, subst, sym, take}
use Rattle.std.specs.List.{flat_map, list_any}
use Rattle.std.proofs.Math.Bool.{or-false, or-true}
use Rattle.std.proofs.lemmas.List.{map-append, take_all}
use Rattle.std.proofs.lemmas.List.Folds.{list_any-append}
use Rattle.std.proofs.lemmas.Grind.{flat_map-append}
use Rattle.clr_workspaces.specs.Marks.{Name}
use Rattle.clr_steps.specs.Offices.{Office}
use Rattle.clr_cert.specs.declared.certificates.Certificate.{Certificate}
use Rattle.clr_merge_sets.specs.MergeSetNames.{merge_set}
use Rattle.clr_merge_sets.specs.declared.plans.Plan.{Plan}
use Rattle.clr_merge_sets.specs.declared.plans.Plan.TheVariants as plan
use Rattle.clr_choices.specs.ChoiceLines.{left_text, refusal_text}
use Rattle.clr_choices.specs.Clearable.{AreClearable, IsPlanOf}
use Rattle.clr_choices.specs.Progress.{IsAdded, IsChosen, IsFollowed, IsProgress, IsTried, taken_so_far}
use Rattle.clr_choices.specs.Trials.{AreTrials, IsRefusal, IsTold, IsTrialAt, Trial, is_taken, taken_in}
use Rattle.clr_choices.proofs.TrialLists.{get_last, next_trial, none_first, one_more_name, taken_last}
use Rattle.clr_choices.specs.declared.choices.Choice.{Choice}
use Rattle.clr_choices.specs.declared.progress.Progress.{Progress}
use Rattle.clr_choices.specs.declared.trials.TriedName.{TriedName}
use Rattle.clr_choices.specs.declared.trials.TriedName.TheVariants as answer
use Rattle.clr_choices.proofs.ClearableLaws.{cleared_clearable, front_clearable}

module _ (o : Office) (root : Name) where
  trials_last : (names : List Name) (ts : List Trial) (name : Name) (refusal : Option Plan) → AreTrials o root names ts
      → IsTold o (merge_set root (taken_in ts ++ name ∷ [])) refusal
      → AreTrials o root (names ++ name ∷ []) (ts ++ next_trial ts name refusal ∷ [])
  trials_last names ts name refusal are told =
      let t : Trial = next_trial ts name refusal in
      record {
        names = map-append (λ (u : Trial). u.name) ts (t ∷ []) ∙ ap (λ l. l ++ name ∷ []) are.names;
        each = λ at u e. elim (get_last ts t u at e) [
          | inl (there, front) ↦ (let before = are.each at u there in
              record { before = before.before ∙ ap taken_in (sym front); told = before.told })
          | inr (same, front) ↦ subst (IsTrialAt o root (ts ++ t ∷ []) at) (sym same)
              (record { before = ap taken_in (sym front); told = told })
        ];
      }

  -- nothing is tried yet
  begun : (progress : Progress) → progress.count ≡ 0 → progress.left.items ≡ [] → progress.is_any_left ≡ false
      → IsPlanOf o (merge_set root progress.cleared.items) (plan.Cleared progress.certificate) → IsProgress o root [] progress
  begun progress count left any planned = (
    [],
    record { names = refl; each = λ at t e. absurd (cc) },
    record {
      taken = ap (λ n. take n progress.cleared.items) count ∙ none_first progress.cleared.items;
      planned = planned;
      left = left;
      any_left = any;
    },
  )

  pub begun_with : (progress : Progress) (cleared : List Name) (c : Certificate) → progress.cleared.items ≡ cleared → progress.certificate ≡ c
      → progress.count ≡ 0 → progress.left.items ≡ [] → progress.is_any_left ≡ false → IsPlanOf o (merge_set root cleared) (plan.Cleared c)
      → IsProgress o root [] progress
  begun_with progress cleared c same certificate count left any planned =
      begun progress count left any (subst (λ (ms : List Name). IsPlanOf o (merge_set root ms) (plan.Cleared progress.certificate)) (sym same)
      (subst (λ d. IsPlanOf o (merge_set root cleared) (plan.Cleared d)) (sym certificate) planned))

  module _ (names : List Name) (name : Name) (old new : Progress) where
    more_left : (ts : List Trial) (t : Trial) → left_text o.schema root t ≡ []
        → flat_map (left_text o.schema root) (ts ++ t ∷ []) ≡ flat_map (left_text o.schema root) ts
    more_left ts t none =
        flat_map-append (left_text o.schema root) ts (t ∷ []) ∙ ap (λ (l : List ℕ). flat_map (left_text o.schema root) ts ++ l)
        (append-nil (left_text o.schema root t) ∙ none)
        ∙ append-nil (flat_map (left_text o.schema root) ts)

    none_left : (ts : List Trial) (t : Trial) → is_taken t ≡ true → list_any (λ u. not (is_taken u)) (ts ++ t ∷ []) ≡ list_any (λ u. not (is_taken u)) ts
    none_left ts t e =
        list_any-append (λ u. not (is_taken u)) ts (t ∷ []) ∙ ap (λ b. list_any (λ u. not (is_taken u)) ts || (not b || false)) e
        ∙ or-false (list_any (λ u. not (is_taken u)) ts)

    -- the next of those that are cleared together is taken
    pub followed : IsFollowed old name true new → IsProgress o root names old → IsProgress o root (names ++ name ∷ []) new
    followed (less, is, same) (ts, are, made) =
        let t : Trial = next_trial ts name None in
        let whole = cleared_clearable o (merge_set root old.cleared.items) (plan.Cleared old.certificate) made.planned.plan made.planned.promises refl in
        let more : take (old.count + 1) old.cleared.items ≡ taken_in ts ++ name ∷ [] =
        one_more_name old.cleared.items old.count name less is ∙ ap (λ l. l ++ name ∷ []) made.taken in
        let told : AreClearable o (merge_set root (taken_in ts ++ name ∷ [])) =
        subst (λ (ms : List Name). AreClearable o (merge_set root ms)) more (front_clearable o root old.cleared.items (old.count + 1) whole) in
        subst (IsProgress o root (names ++ name ∷ [])) (sym same) (
          ts ++ t ∷ [],
          trials_last names ts name None are told,
          record {
            taken = more ∙ sym (taken_last ts t true refl);
            planned = made.planned;
            left = made.left ∙ sym (more_left ts t refl);
            any_left = made.any_left ∙ sym (none_left ts t refl);
          },
        )

    -- a name that was tried is taken, or left
    pub tried : (a : TriedName) → IsTried o root (taken_so_far old ++ name ∷ []) name a → IsAdded old name a new → IsProgress o root names old
        → IsProgress o root (names ++ name ∷ []) new
    tried (answer.Taken c) planned (cleared, count, certificate, left, any) (ts, are, made) =
        let t : Trial = next_trial ts name None in
        let now : new.cleared.items ≡ taken_so_far old ++ name ∷ [] = cleared in
        let here : IsPlanOf o (merge_set root (taken_in ts ++ name ∷ [])) (plan.Cleared c) =
        subst (λ (ms : List Name). IsPlanOf o (merge_set root (ms ++ name ∷ [])) (plan.Cleared c)) made.taken planned in (
          ts ++ t ∷ [],
          trials_last names ts name None are
              (cleared_clearable o (merge_set root (taken_in ts ++ name ∷ [])) (plan.Cleared c) here.plan here.promises refl),
          record {
            taken = take_all new.count new.cleared.items (omega (arith, count)) ∙ now ∙ ap (λ l. l ++ name ∷ []) made.taken ∙ sym (taken_last ts t true refl);
            planned = subst (λ d. IsPlanOf o (merge_set root new.cleared.items) (plan.Cleared d)) (sym certificate)
                (subst (λ (ms : List Name). IsPlanOf o (merge_set root ms) (plan.Cleared c)) (sym now) planned);
            left = left ∙ made.left ∙ sym (more_left ts t refl);
            any_left = any ∙ made.any_left ∙ sym (none_left ts t refl);
          },
        )
    tried (answer.Left lines) (p, refused, told) (cleared, count, certificate, left, any) (ts, are, made) =
        let t : Trial = next_trial ts name (Some p) in
        let here : IsRefusal o (merge_set root (taken_in ts ++ name ∷ [])) p =
        subst (λ (ms : List Name). IsRefusal o (merge_set root (ms ++ name ∷ [])) p) made.taken refused in
        let text : lines.items ≡ left_text o.schema root t =
        told ∙ ap (λ (ms : List Name). refusal_text o.schema root (ms ++ name ∷ []) name p) made.taken in
        let same : taken_so_far new ≡ taken_so_far old = (λ i. take (count i) (cleared i)) in (
          ts ++ t ∷ [],
          trials_last names ts name (Some p) are here,
          record {
            taken = same ∙ made.taken ∙ sym (taken_last ts t false refl ∙ append-nil (taken_in ts));
            planned = subst (λ d. IsPlanOf o (merge_set root new.cleared.items) (plan.Cleared d)) (sym certificate)
                (subst (λ (ms : List Name). IsPlanOf o (merge_set root ms) (plan.Cleared old.certificate)) (sym cleared) made.planned);
            left = left ∙ ap₂ (λ (a b : List ℕ). a ++ b) made.left (text ∙ sym (append-nil (left_text o.schema root t))) ∙ sym
                (flat_map-append (left_text o.schema root) ts (t ∷ []));
            any_left = any ∙ sym (list_any-append (λ u. not (is_taken u)) ts (t ∷ []) ∙ or-true (list_any (λ u. not (is_taken u)) ts));
          },
        )

  -- names that are all tried make a choice
  pub chosen : (names : List Name) (progress : Progress) (choice : Choice) → choice.taken.items ≡ taken_so_far progress
      → IsPlanOf o (merge_set root choice.taken.items) (plan.Cleared choice.certificate) → choice.left.items ≡ progress.left.items
      → choice.is_any_left ≡ progress.is_any_left
      → IsProgress o root names progress
      → IsChosen o root names choice
  chosen names progress choice taken planned left any (ts, are, made) =
      (ts, are, record { taken = taken ∙ made.taken; planned = planned; left = left ∙ made.left; any_left = any ∙ made.any_left })

  -- where all that are cleared together are taken, their certificate is that of the choice
  pub all_followed : (names : List Name) (progress : Progress) (choice : Choice) → length progress.cleared.items ≤ progress.count
      → choice.taken.items ≡ progress.cleared.items → choice.certificate ≡ progress.certificate → choice.left.items ≡ progress.left.items
      → choice.is_any_left ≡ progress.is_any_left
      → IsProgress o root names progress
      → IsChosen o root names choice
  all_followed names progress choice past taken certificate left any (ts, are, made) =
      chosen names progress choice (taken ∙ sym (take_all progress.count progress.cleared.items past))
      (subst (λ c. IsPlanOf o (merge_set root choice.taken.items) (plan.Cleared c)) (sym certificate)
      (subst (λ (ms : List Name). IsPlanOf o (merge_set root ms) (plan.Cleared progress.certificate)) (sym taken) made.planned))
      left any (ts, are, made)
