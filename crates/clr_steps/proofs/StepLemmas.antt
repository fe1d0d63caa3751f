-- A step by name is the step by position.
use Rattle.std.proofs.Common.{◌≡◌, ℕ, zero, suc, ◌<◌, true, false, List, Option, Some, None, refl, sym, ap, ◌∙◌, arith}
use Rattle.std.specs.Prelude.{is_none}
use Rattle.std.specs.Option.{option_or}
use Rattle.clr_rows.specs.declared.tables.TableDef.{TableDef}
use Rattle.clr_rules.specs.declared.rules.Rule.{Rule}
use Rattle.clr_steps.specs.declared.commands.Command.{Command}
use Rattle.clr_steps.specs.declared.commands.Command.TheVariants as command
use Rattle.clr_steps.specs.declared.commands.Reply.{Reply}
use Rattle.clr_workspaces.specs.Marks.{Name, find_mark}
use Rattle.clr_workspaces.specs.Workspaces.{Workspace, workspace_at, find, parent_of}
use Rattle.clr_workspaces.specs.Operations as tree
use Rattle.clr_workspaces.specs.Operations.{at_position}
use Rattle.clr_workspaces.specs.declared.rebases.Rebase.TheVariants as rebase
use Rattle.clr_workspaces.specs.Soundness.{IsSound}
use Rattle.clr_steps.specs.Offices.{Office, office_of}
use Rattle.clr_steps.specs.Effects.{effect}
use Rattle.clr_steps.specs.Refusals.{when, first_of}
use Rattle.clr_steps.specs.Positions.{refusals_at, refusal_below, refusal_at, at_savepoint, merge_at, edit_at, effect_at}
use Rattle.clr_steps.specs.Steps.{Answer, answer, refused_or_done, step, is_lost}
use Rattle.clr_steps.specs.Laws.{EffectLaw, StepLaw, AnswerLaw, without_memory, refused, done}
use Rattle.clr_steps.proofs.SeenLemmas.{within}
use Rattle.clr_steps.proofs.RefusalLemmas.{refused_is}
use Rattle.clr_steps.proofs.EffectLemmas as left
use Rattle.clr_steps.proofs.MemoryLemmas.{memory_law}

-- what is known where no refusal applies ---------------------------------------------------------------------

of_below : (r : Option ℕ) (f : ℕ → List (Option Reply)) → refusal_below r f ≡ None → (k : ℕ) × (r ≡ Some (suc k)) × (first_of (f (suc k)) ≡ None)
of_below None f e = absurd (cc)
of_below (Some zero) f e = absurd (cc)
of_below (Some (suc k)) f e = (k, refl, e)

is_there : (r : Option ℕ) (reply : Reply) (rest : Option Reply) → option_or (when (is_none r) reply) rest ≡ None → (i : ℕ) × (r ≡ Some i)
is_there None reply rest e = absurd (cc)
is_there (Some i) reply rest e = (i, refl)

module _ (schema : List TableDef) (book : List Rule) (ws : List Workspace) (sound : IsSound ws) where
  abbrev o : Office
  o = office_of schema book ws

  -- an operation at the position that was found
  at_found : (r : Option ℕ) (at : ℕ) (f : ℕ → List Workspace) (next : Office) → r ≡ Some at → office_of schema book (f at) ≡ next
      → office_of schema book (at_position ws r f) ≡ next
  at_found r at f next e is = ap (λ r. office_of schema book (at_position ws r f)) e ∙ is

  -- a command on a workspace under LIVE
  on_below : (n : Name) (c : Command) (f : ℕ → List Workspace) → refusal_below (find ws n) (λ at. refusals_at book ws at c) ≡ None
      → ((k : ℕ) → find ws n ≡ Some (suc k) → first_of (refusals_at book ws (suc k) c) ≡ None → office_of schema book (f (suc k)) ≡ effect o c)
      → office_of schema book (at_position ws (find ws n) f) ≡ effect o c
  on_below n c f e is = let h = of_below (find ws n) (λ at. refusals_at book ws at c) e in at_found (find ws n) (suc h.0) f (effect o c) h.1 (is h.0 h.1 h.2)

  parent : (n : Name) (k : ℕ) → find ws n ≡ Some (suc k) → (p : ℕ) × (parent_of ws (suc k) ≡ Some p) × (p < suc k)
  parent n k e = sound.rooted.under (suc k) (omega arith) (within schema book ws sound n (suc k) e)

  effect_is : (c : Command) → refusal_at schema book ws c ≡ None → office_of schema book (effect_at ws c) ≡ effect o c
  unfolding refusal_at refusals_at effect_at
  effect_is (command.Create n p) e =
      let h = is_there (find ws p) _ _ e in
      at_found (find ws p) h.0 (tree.after_create ws n) (effect o (command.Create n p)) h.1 (left.create_is schema book ws sound n p h.0 h.1)
  effect_is (command.Apply n edits) e =
      let h = is_there (find ws n) _ _ e in
      at_found (find ws n) h.0 (edit_at ws edits) (effect o (command.Apply n edits)) h.1 (left.apply_is schema book ws sound n edits h.0 h.1)
  effect_is (command.Remove n) e = on_below n (command.Remove n) (tree.after_remove ws) e (λ k is passes. let u = parent n k is in left.remove_is schema book ws
      sound n k u.0 is u.1 u.2)
  effect_is (command.Mark n s) e = on_below n (command.Mark n s) (λ at. tree.after_mark ws at s) e (λ k is passes. left.mark_is schema book ws sound n s k is)
  effect_is (command.Unmark n s) e = on_below n (command.Unmark n s) (λ at. at_savepoint ws at s (tree.after_unmark ws at)) e (λ k is passes.
      let r = find_mark (workspace_at ws (suc k)).marks s in
      let h = is_there r _ _ passes in
      at_found r h.0 (tree.after_unmark ws (suc k)) (effect o (command.Unmark n s)) h.1 (left.unmark_is schema book ws sound n s k h.0 is h.1))
  effect_is (command.RollTo n s) e = on_below n (command.RollTo n s) (λ at. at_savepoint ws at s (tree.after_roll_to ws at)) e (λ k is passes.
      let r = find_mark (workspace_at ws (suc k)).marks s in
      let h = is_there r _ _ passes in
      at_found r h.0 (tree.after_roll_to ws (suc k)) (effect o (command.RollTo n s)) h.1 (left.roll_to_is schema book ws sound n s k h.0 is h.1))
  effect_is (command.RollAll n) e = on_below n (command.RollAll n) (tree.after_roll_all ws) e (λ k is passes. left.roll_all_is schema book ws sound n k is)
  effect_is (command.Refresh n) e = on_below n (command.Refresh n) (λ at. tree.after_rebase ws at rebase.Refresh) e (λ k is passes. let u = parent n k is in
      left.refresh_is schema book ws sound n k u.0 is u.1 u.2)
  effect_is (command.Merge n gone) e = on_below n (command.Merge n gone) (merge_at ws gone) e (λ k is passes. let u = parent n k is in left.merge_is schema book
      ws sound n gone k u.0 is u.1 u.2)
  effect_is (command.Resolve n cell keep) e = on_below n (command.Resolve n cell keep) (λ at. tree.after_rebase ws at (rebase.OneRow cell keep)) e
      (λ k is passes. let u = parent n k is in left.resolve_is schema book ws sound n cell keep k u.0 is u.1)
  effect_is (command.Hold n) e = on_below n (command.Hold n) (λ at. tree.set_kept ws at true) e (λ k is passes. left.hold_is schema book ws sound n k is)
  effect_is (command.Release n) e = on_below n (command.Release n) (λ at. tree.set_kept ws at false) e (λ k is passes. left.release_is schema book ws sound n k
      is)

pub effect_law : EffectLaw
effect_law = effect_is

pub step_law : StepLaw
unfolding step
step_law schema book ws sound c = rw (refused_is schema book ws sound c) (by (refusal_at schema book ws c) refl)
  where
    by : (r : Option Reply) → refusal_at schema book ws c ≡ r → refused_or_done r (office_of schema book ws) (effect (office_of schema book ws) c)
        ≡ refused_or_done r (office_of schema book ws) (office_of schema book (effect_at ws c))
    by None e = ap (refused_or_done None (office_of schema book ws)) (sym (effect_is schema book ws sound c e))
    by (Some reply) e = refl

pub answer_law : AnswerLaw
answer_law schema book ws sound c reply left (without_memory e l) = rw (e, l) refl
answer_law schema book ws sound c reply left (refused e l) =
    let o = office_of schema book ws in
    let is : step o c ≡ answer reply o = step_law schema book ws sound c ∙ ap (λ r. refused_or_done r o (office_of schema book (effect_at ws c))) e in
    let found : is_lost reply ≡ false = sym (ap (λ (a : Answer). is_lost a.reply) is) ∙ memory_law o c in
    rw (found, l) (sym is)
answer_law schema book ws sound c reply left (done e d l) = rw (d, l) (sym (step_law schema book ws sound c
    ∙ ap (λ r. refused_or_done r (office_of schema book ws) (office_of schema book (effect_at ws c))) e))
