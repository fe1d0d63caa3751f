-- The steps of a path within its item.
use Rattle.std.proofs.Common.{◌≡◌, ◌≢◌, ◌∙◌, ℕ, ◌+◌, ◌<◌, ◌≤◌, length, get_or, drop, drop-cons, add-one, List, [], ◌∷◌, ◌++◌, Option, Some, None, ap}
use Rattle.std.proofs.Common.{append-nil, append_assoc, refl, sym}
use Rattle.std.proofs.lemmas.List.{drop_all}
use Rattle.std.specs.Option.{option_and_then, option_map_or}
use Rattle.serde_json.specs.Data.{Data}
use Rattle.clr_text_positions.specs.declared.paths.PathStep.{PathStep}
use Rattle.clr_explanations.specs.Places.{PathsLead, WholePaths, steps_within, value_at_step, value_by}

abbrev within_by : PathStep → List PathStep → Option Data → List PathStep
within_by s steps found = option_map_or (λ v. s ∷ steps_within steps v) found []

leads_by : (s : PathStep) (steps : List PathStep) (d : Data) (found : Option Data) → value_at_step s d ≡ found
    → ((v : Data) → value_by (steps_within steps v) v ≢ None) → value_by (within_by s steps found) d ≢ None
leads_by s steps d None is behind = λ none. absurd cc
leads_by s steps d (Some v) is behind = rw is (behind v)

pub paths_lead : PathsLead
unfolding steps_within
paths_lead [] d = λ none. absurd cc
paths_lead (s ∷ steps) d = leads_by s steps d (value_at_step s d) refl (λ v. paths_lead steps v)

whole_by : (s : PathStep) (steps : List PathStep) (v : Data) (found : Option Data)
    → ((w : Data) → value_by steps w ≡ Some v → steps_within steps w ≡ steps) → option_and_then (value_by steps) found ≡ Some v
    → within_by s steps found ≡ s ∷ steps
whole_by s steps v None behind is = absurd cc
whole_by s steps v (Some w) behind is = ap (λ others. s ∷ others) (behind w is)

pub whole_paths : WholePaths
unfolding steps_within
whole_paths [] d v is = refl
whole_paths (s ∷ steps) d v is = whole_by s steps v (value_at_step s d) (λ w led. whole_paths steps w v led) is

-- a step that leads to a value is one more
pub one_more_step : (within : List PathStep) (s : PathStep) (rest all : List PathStep) (d v : Data) → Some v ≡ value_at_step s d
    → within ++ steps_within (s ∷ rest) d ≡ all → (within ++ s ∷ []) ++ steps_within rest v ≡ all
unfolding steps_within
one_more_step within s rest all d v is so =
    append_assoc within (s ∷ []) (steps_within rest v) ∙ ap (λ found. within ++ within_by s rest found) is ∙ so

-- a step that leads to none is the last
pub no_more_step : (within : List PathStep) (s : PathStep) (rest all : List PathStep) (d : Data) → None ≡ value_at_step s d
    → within ++ steps_within (s ∷ rest) d ≡ all → within ≡ all
unfolding steps_within
no_more_step within s rest all d is so = sym (append-nil within) ∙ ap (λ found. within ++ within_by s rest found) is ∙ so

-- the step at an index leads to a value, or to none
pub step_at : (within more steps : List PathStep) (i : ℕ) (default : PathStep) (d v : Data) (all : List PathStep) → i < length steps
    → more ≡ within ++ get_or steps i default ∷ [] → Some v ≡ value_at_step (get_or steps i default) d
    → within ++ steps_within (drop i steps) d ≡ all → more ++ steps_within (drop (i + 1) steps) v ≡ all
step_at within more steps i default d v all inside pushed is so =
    let left : drop i steps ≡ get_or steps i default ∷ drop (i + 1) steps =
    drop-cons steps i default inside ∙ ap (λ k. get_or steps i default ∷ drop k steps) (sym (add-one i)) in
    ap (λ l. l ++ steps_within (drop (i + 1) steps) v) pushed
    ∙ one_more_step within (get_or steps i default) (drop (i + 1) steps) all d v is (ap (λ l. within ++ steps_within l d) (sym left) ∙ so)

pub no_step_at : (within steps : List PathStep) (i : ℕ) (default : PathStep) (d : Data) (all : List PathStep) → i < length steps
    → None ≡ value_at_step (get_or steps i default) d → within ++ steps_within (drop i steps) d ≡ all → within ≡ all
no_step_at within steps i default d all inside is so =
    let left : drop i steps ≡ get_or steps i default ∷ drop (i + 1) steps =
    drop-cons steps i default inside ∙ ap (λ k. get_or steps i default ∷ drop k steps) (sym (add-one i)) in
    no_more_step within (get_or steps i default) (drop (i + 1) steps) all d is (ap (λ l. within ++ steps_within l d) (sym left) ∙ so)

-- behind the last step there is none
pub all_steps : (within steps : List PathStep) (i : ℕ) (d : Data) (all : List PathStep) → length steps ≤ i
    → within ++ steps_within (drop i steps) d ≡ all → within ≡ all
unfolding steps_within
all_steps within steps i d all past so =
    sym (append-nil within) ∙ ap (λ l. within ++ steps_within l d) (sym (drop_all i steps past)) ∙ so
