-- The workspaces of an office are written one after another.
use Rattle.std.proofs.Common.{◌≡◌, ℕ, zero, suc, ◌+◌, ◌<◌, List, [], ◌∷◌, ◌++◌, length, map, drop, Some, Result, refl, ap, ◌∙◌, add-one, arith}
use Rattle.std.specs.Prelude.{IfOk, slice_get}
use Rattle.std.specs.Option.{option_map}
use Rattle.std.proofs.lemmas.Option.{same_Some}
use Rattle.std.proofs.lemmas.Result.{IfOk-weaker}
use Rattle.std.specs.declared.alloc.AllocError.{AllocError}
use Rattle.json.specs.Token.{Token}
use Rattle.clr_deltas.specs.Deltas.{Delta}
use Rattle.clr_workspaces.specs.Workspaces.{Workspace}
use Rattle.clr_steps.specs.Offices.{Office}
use Rattle.clr_engine.specs.Drafts.{delta_in, part_at}
use Rattle.clr_office_writing.specs.Tokens.{list_tokens, tokens_of}
use Rattle.clr_office_writing.specs.WorkspaceData.{delta_data}
use Rattle.clr_office_writing.proofs.ListsWritten.{list_goes_on}

-- a workspace by what is stored of it
pub one_written : (o : Office) (text : List Token) (position : ℕ) (l : Delta) (r : Result (List Token) AllocError) → Some l
    ≡ option_map (delta_in o) (part_at o position)
    → IfOk r (λ longer. longer ≡ text ++ tokens_of (delta_data o.schema l))
    → IfOk r (λ longer. (v : Workspace) → part_at o position ≡ Some v → longer ≡ text ++ tokens_of (delta_data o.schema (delta_in o v)))
one_written o text position l r at = IfOk-weaker r _ _ (λ longer h v e.
    h ∙ ap (λ m. text ++ tokens_of (delta_data o.schema m)) (same_Some l (delta_in o v) (at ∙ ap (option_map (delta_in o)) e)))

dropped_next : {A : Type 0} (xs : List A) (n : ℕ) → n < length xs → (x : A) × (slice_get xs n ≡ Some x) × (drop n xs ≡ x ∷ drop (suc n) xs)
dropped_next [] n lt = absurd (omega arith)
dropped_next (x ∷ xs) zero lt = (x, refl, refl)
dropped_next (x ∷ xs) (suc n) lt = dropped_next xs n (omega arith)

pub next_written : (o : Office) (text longer whole : List Token) (n : ℕ) → n < length o.workspaces
    → ((w : Workspace) → part_at o (n + 1) ≡ Some w → longer ≡ text ++ tokens_of (delta_data o.schema (delta_in o w)))
    → text ++ list_tokens (delta_data o.schema) (map (delta_in o) (drop n o.workspaces)) ≡ whole
    → longer ++ list_tokens (delta_data o.schema) (map (delta_in o) (drop (n + 1) o.workspaces)) ≡ whole
next_written o text longer whole n lt one before =
    let next = dropped_next o.workspaces n lt in
    let w = next.0 in
    let here : part_at o (n + 1) ≡ Some w = rw (add-one n) next.1 in
    rw (add-one n) (list_goes_on (delta_data o.schema) text longer whole (delta_in o w) (map (delta_in o) (drop (suc n) o.workspaces)) (one w here)
    (rw next.2 at before))
