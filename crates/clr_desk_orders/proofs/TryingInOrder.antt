-- Names that are tried one after another, in an order.
use Rattle.std.proofs.Common.{◌≡◌, ◌∙◌, ℕ, true, false, not, List, [], ◌∷◌, ◌++◌, Option, None, Some}
use Rattle.std.proofs.Common.{append-nil, ap, ap₂, inl, inr, refl, subst, sym}
use Rattle.std.specs.List.{flat_map, list_any}
use Rattle.std.proofs.Math.Bool.{or-false, or-true}
use Rattle.std.proofs.lemmas.List.{map-append}
use Rattle.std.proofs.lemmas.List.Folds.{list_any-append}
use Rattle.std.proofs.lemmas.Grind.{flat_map-append}
use Rattle.clr_workspaces.specs.Marks.{Name}
use Rattle.clr_steps.specs.Offices.{Office}
use Rattle.clr_cert.specs.declared.certificates.Certificate.{Certificate}
use Rattle.clr_merge_sets.specs.MergeSetNames.{merge_set}
use Rattle.clr_merge_sets.specs.declared.plans.Plan.{Plan}
use Rattle.clr_merge_sets.specs.declared.plans.Plan.TheVariants as plan
use Rattle.clr_choices.specs.declared.choices.Choice.{Choice}
use Rattle.clr_choices.specs.ChoiceLines.{left_text, refusal_text}
use Rattle.clr_choices.specs.Trials.{Trial, is_taken, taken_in}
use Rattle.clr_choices.specs.declared.trials.TriedName.{TriedName}
use Rattle.clr_choices.specs.declared.trials.TriedName.TheVariants as answer
use Rattle.clr_choices.proofs.TrialLists.{get_last, next_trial, taken_last}
use Rattle.clr_desk_orders.specs.ChoicesInOrder.{AreTrialsInOrder, IsAddedTo, IsChosenInOrder, IsRefusalInOrder, IsToldInOrder, IsTrialInOrder, IsTriedInOrder}
use Rattle.clr_desk_orders.specs.PlansInOrder.{IsPlannedInOrder}

module _ (o : Office) (root : Name) where
  trials_last : (names : List Name) (ts : List Trial) (name : Name) (refusal : Option Plan) → AreTrialsInOrder o root names ts
      → IsToldInOrder o (merge_set root (taken_in ts ++ name ∷ [])) refusal
      → AreTrialsInOrder o root (names ++ name ∷ []) (ts ++ next_trial ts name refusal ∷ [])
  trials_last names ts name refusal are told =
      let t : Trial = next_trial ts name refusal in
      record {
        names = map-append (λ (u : Trial). u.name) ts (t ∷ []) ∙ ap (λ l. l ++ name ∷ []) are.names;
        each = λ at u e. elim (get_last ts t u at e) [
          | inl (there, front) ↦ (let before = are.each at u there in
              record { before = before.before ∙ ap taken_in (sym front); told = before.told })
          | inr (same, front) ↦ subst (IsTrialInOrder o root (ts ++ t ∷ []) at) (sym same)
              (record { before = ap taken_in (sym front); told = told })
        ];
      }

  -- nobody is taken where no name is tried yet
  pub begun : (choice : Choice) (nobody : Certificate) → choice.taken.items ≡ [] → choice.certificate ≡ nobody → choice.left.items ≡ []
      → choice.is_any_left ≡ false
      → IsPlannedInOrder o (merge_set root []) (plan.Cleared nobody) → IsChosenInOrder o root [] choice
  begun choice nobody taken certificate left any planned = (
    [],
    record { names = refl; each = λ at t e. absurd (cc) },
    record {
      taken = taken;
      planned = subst (λ (ms : List Name). IsPlannedInOrder o (merge_set root ms) (plan.Cleared choice.certificate)) (sym taken)
          (subst (λ d. IsPlannedInOrder o (merge_set root []) (plan.Cleared d)) (sym certificate) planned);
      left = left;
      any_left = any;
    },
  )

  module _ (names : List Name) (name : Name) (old new : Choice) where
    -- a name that was tried is taken, or left
    pub tried : (a : TriedName) → IsTriedInOrder o root (old.taken.items ++ name ∷ []) name a → IsAddedTo old name a new → IsChosenInOrder o root names old
        → IsChosenInOrder o root (names ++ name ∷ []) new
    tried (answer.Taken c) planned (taken, certificate, left, any) (ts, are, made) =
        let t : Trial = next_trial ts name None in
        let here : IsPlannedInOrder o (merge_set root (taken_in ts ++ name ∷ [])) (plan.Cleared c) =
        subst (λ (ms : List Name). IsPlannedInOrder o (merge_set root (ms ++ name ∷ [])) (plan.Cleared c)) made.taken planned in
        let none : left_text o.schema root t ≡ [] = refl in (
          ts ++ t ∷ [],
          trials_last names ts name None are (c, here),
          record {
            taken = taken ∙ ap (λ l. l ++ name ∷ []) made.taken ∙ sym (taken_last ts t true refl);
            planned = subst (λ d. IsPlannedInOrder o (merge_set root new.taken.items) (plan.Cleared d)) (sym certificate)
                (subst (λ (ms : List Name). IsPlannedInOrder o (merge_set root ms) (plan.Cleared c)) (sym taken) planned);
            left = left ∙ made.left ∙ sym (append-nil (flat_map (left_text o.schema root) ts)) ∙ sym
                (flat_map-append (left_text o.schema root) ts (t ∷ []) ∙ ap (λ (l : List ℕ). flat_map (left_text o.schema root) ts ++ l)
                (append-nil (left_text o.schema root t) ∙ none));
            any_left = any ∙ made.any_left ∙ sym (list_any-append (λ u. not (is_taken u)) ts (t ∷ []) ∙ or-false (list_any (λ u. not (is_taken u)) ts));
          },
        )
    tried (answer.Left lines) (p, refused, told) (taken, certificate, left, any) (ts, are, made) =
        let t : Trial = next_trial ts name (Some p) in
        let here : IsRefusalInOrder o (merge_set root (taken_in ts ++ name ∷ [])) p =
        subst (λ (ms : List Name). IsRefusalInOrder o (merge_set root (ms ++ name ∷ [])) p) made.taken refused in
        let text : lines.items ≡ left_text o.schema root t =
        told ∙ ap (λ (ms : List Name). refusal_text o.schema root (ms ++ name ∷ []) name p) made.taken in (
          ts ++ t ∷ [],
          trials_last names ts name (Some p) are here,
          record {
            taken = taken ∙ made.taken ∙ sym (append-nil (taken_in ts)) ∙ sym (taken_last ts t false refl);
            planned = subst (λ d. IsPlannedInOrder o (merge_set root new.taken.items) (plan.Cleared d)) (sym certificate)
                (subst (λ (ms : List Name). IsPlannedInOrder o (merge_set root ms) (plan.Cleared old.certificate)) (sym taken) made.planned);
            left = left ∙ ap₂ (λ (a b : List ℕ). a ++ b) made.left (text ∙ sym (append-nil (left_text o.schema root t))) ∙ sym
                (flat_map-append (left_text o.schema root) ts (t ∷ []));
            any_left = any ∙ sym (list_any-append (λ u. not (is_taken u)) ts (t ∷ []) ∙ or-true (list_any (λ u. not (is_taken u)) ts));
          },
        )
