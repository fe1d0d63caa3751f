-- Lists of actions, put together.
use Rattle.std.proofs.Common.{◌≡◌, ◌∙◌, ◌++◌, ◌∷◌, [], ℕ, ◌+◌, ◌<◌, List, ap, append-nil, append_assoc, get_or, length, refl, subst, sym, take}
use Rattle.std.specs.List.{flat_map}
use Rattle.std.proofs.lemmas.List.{take_more}
use Rattle.std.proofs.lemmas.List.Concat.{flat_map-append}
use Rattle.clr_rows.specs.declared.cells.CellId.{CellId}
use Rattle.clr_rows.specs.Contents.{Changes}
use Rattle.clr_needs.specs.declared.needs.Need.{Need}
use Rattle.clr_steps.specs.Offices.{Office}
use Rattle.clr_steps.specs.Quiet.{MergeSet}
use Rattle.clr_clearance.specs.declared.verdicts.Verdict.{Verdict}
use Rattle.clr_clearance.specs.declared.verdicts.Verdict.TheVariants as verdict
use Rattle.clr_whereabouts.specs.declared.needs.Whereabouts.{Whereabouts}
use Rattle.clr_work_orders.specs.declared.actions.Action.{Action}
use Rattle.clr_work_orders.specs.Remedies.{IsPlaceOfCause, for_cause, nowhere}

-- four lists behind one, and five
pub behind_four : {A : Type 0} (old w x y z a b c d : List A) → a ≡ old ++ w → b ≡ a ++ x → c ≡ b ++ y → d ≡ c ++ z → d ≡ old ++ (w ++ x ++ y ++ z)
behind_four old w x y z a b c d e f g h = rw (h, g, f, e) (simp append_assoc)

pub behind_five : {A : Type 0} (old v w x y z a b c d e : List A) → a ≡ old ++ v → b ≡ a ++ w → c ≡ b ++ x → d ≡ c ++ y → e ≡ d ++ z
    → e ≡ old ++ (v ++ w ++ x ++ y ++ z)
behind_five old v w x y z a b c d e f g h i j = rw (j, i, h, g, f) (simp append_assoc)

pub behind_two : {A : Type 0} (old x y a b : List A) → a ≡ old ++ x → b ≡ a ++ y → b ≡ old ++ (x ++ y)
behind_two old x y a b e f = rw (f, e) (append_assoc old x y)

-- one more member's actions
pub more_listed : (f : ℕ → List Action) (order : List ℕ) (i d : ℕ) (old now new : List Action) → i < length order
    → now ≡ old ++ flat_map f (take i order) → new ≡ now ++ f (get_or order i d) → new ≡ old ++ flat_map f (take (i + 1) order)
more_listed f order i d old now new less e h =
    let more : flat_map f (take (i + 1) order) ≡ flat_map f (take i order) ++ f (get_or order i d) =
    ap (flat_map f) (take_more order i d less) ∙ flat_map-append f (take i order) (get_or order i d ∷ [])
    ∙ ap (λ (t : List Action). flat_map f (take i order) ++ t) (append-nil (f (get_or order i d))) in
    h ∙ ap (λ (t : List Action). t ++ f (get_or order i d)) e ∙ append_assoc old (flat_map f (take i order)) (f (get_or order i d))
    ∙ ap (λ (t : List Action). old ++ t) (sym more)

-- what is added for a cause that asks for no place
pub cause_told : (o : Office) (s : MergeSet) (sets : List Changes) (order : List ℕ) (cause v : Verdict) (old new : List Action) → cause ≡ v
    → IsPlaceOfCause o s v nowhere → new ≡ old ++ for_cause o s sets order nowhere v
    → (places : Whereabouts) × IsPlaceOfCause o s cause places × (new ≡ old ++ for_cause o s sets order places cause)
cause_told o s sets order cause v old new is placed e = (
  nowhere,
  subst (λ (x : Verdict). IsPlaceOfCause o s x nowhere) (sym is) placed,
  e ∙ ap (λ (x : Verdict). old ++ for_cause o s sets order nowhere x) (sym is),
)

-- nothing is added for a cause of another kind
pub other_cause : (o : Office) (s : MergeSet) (sets : List Changes) (order : List ℕ) (v : Verdict) (old : List Action)
    → ((member : ℕ) (q : CellId) (count : ℕ) → ¬ (v ≡ verdict.Conflict member q count))
    → ((q : CellId) (first second : ℕ) → ¬ (v ≡ verdict.SharedCell q first second)) → ((need : Need) → ¬ (v ≡ verdict.Uncovered need))
    → (places : Whereabouts) × IsPlaceOfCause o s v places × (old ≡ old ++ for_cause o s sets order places v)
other_cause o s sets order (verdict.Conflict member q count) old a b c = absurd (a member q count refl)
other_cause o s sets order (verdict.SharedCell q first second) old a b c = absurd (b q first second refl)
other_cause o s sets order (verdict.Uncovered need) old a b c = absurd (c need refl)
other_cause o s sets order _ old a b c = (nowhere, refl, sym (append-nil old))
