-- A command on the workspace at a position under LIVE is performed as its name says.
use Rattle.std.proofs.Common.{◌≡◌, ℕ, Bool, true, false, List, [], Option, Some, sym, ap, subst, ◌∙◌}
use Rattle.clr_rows.specs.declared.cells.CellId.{CellId}
use Rattle.clr_rows.specs.declared.tables.TableDef.{TableDef}
use Rattle.clr_rules.specs.declared.rules.Rule.{Rule}
use Rattle.clr_workspaces.specs.Marks.{Name}
use Rattle.clr_workspaces.specs.Workspaces.{Workspace, find}
use Rattle.clr_workspaces.specs.Operations as tree
use Rattle.clr_workspaces.specs.Operations.{at_position}
use Rattle.clr_workspaces.specs.declared.rebases.Keep.{Keep}
use Rattle.clr_workspaces.specs.declared.rebases.Rebase.TheVariants as rebase
use Rattle.clr_steps.specs.declared.commands.Command.{Command}
use Rattle.clr_steps.specs.declared.commands.Command.TheVariants as command
use Rattle.clr_steps.specs.declared.commands.Reply.{Reply}
use Rattle.clr_steps.specs.Laws.{IsPerformed}
use Rattle.clr_steps.specs.Positions.{at_savepoint, effect_at, merge_at, refusal_at, refusal_below, refusals_at}
use Rattle.clr_steps.specs.Refusals.{first_of, name_in}
use Rattle.clr_engine.specs.Performed.{IsPerformedAt}
use Rattle.clr_engine.proofs.Positions.{below}
use Rattle.clr_engine.proofs.Readings.{some_below}

module _ (schema : List TableDef) (book : List Rule) (ws : List Workspace) (at : ℕ) (other : at ≡ 0 → ⊥) (reply : Reply) (left : List Workspace) (x : Command)
    (there : find ws (name_in x) ≡ Some at) where
  abbrev Performs : Command → Type 0
  Performs c = IsPerformed (refusal_at schema book ws c) ws (effect_at ws c) reply left

  as_command : (c : Command) → x ≡ c → (find ws (name_in c) ≡ Some at → Performs c) → Performs x
  as_command c is h = subst Performs (sym is) (h (sym (ap (λ (c : Command). find ws (name_in c)) is) ∙ there))

  at_found : (n : Name) (refusals : ℕ → List (Option Reply)) (next : ℕ → List Workspace) → find ws n ≡ Some at
      → IsPerformed (first_of (refusals at)) ws (next at) reply left
      → IsPerformed (refusal_below (find ws n) refusals) ws (at_position ws (find ws n) next) reply left
  at_found n refusals next e h =
      subst (λ (r : Option Reply). IsPerformed r ws (at_position ws (find ws n) next) reply left) (sym (below (find ws n) at refusals e (some_below at other)))
      (subst (λ (vs : List Workspace). IsPerformed (first_of (refusals at)) ws vs reply left) (sym (ap (λ r. at_position ws r next) e)) h)

  pub remove_below : (n m : Name) → x ≡ command.Remove n → IsPerformedAt [] (command.Remove m) at ws (tree.after_remove ws at) reply left → Performs x
  unfolding refusal_at refusals_at effect_at
  remove_below n m is h = as_command (command.Remove n) is (λ e. at_found n (λ at. refusals_at book ws at (command.Remove n)) (tree.after_remove ws) e h)

  pub mark_below : (n m s t : Name) → t ≡ s → x ≡ command.Mark n s → IsPerformedAt [] (command.Mark m t) at ws (tree.after_mark ws at t) reply left → Performs x
  unfolding refusal_at refusals_at effect_at
  mark_below n m s t same is h = as_command (command.Mark n s) is (λ e. at_found n (λ at. refusals_at book ws at (command.Mark n s))
      (λ at. tree.after_mark ws at s) e (subst (λ (t : Name). IsPerformedAt [] (command.Mark m t) at ws (tree.after_mark ws at t) reply left) same h))

  pub unmark_below : (n m s t : Name) → t ≡ s → x ≡ command.Unmark n s
      → IsPerformedAt [] (command.Unmark m t) at ws (at_savepoint ws at t (tree.after_unmark ws at)) reply left → Performs x
  unfolding refusal_at refusals_at effect_at
  unmark_below n m s t same is h = as_command (command.Unmark n s) is (λ e. at_found n (λ at. refusals_at book ws at (command.Unmark n s))
      (λ at. at_savepoint ws at s (tree.after_unmark ws at)) e
      (subst (λ (t : Name). IsPerformedAt [] (command.Unmark m t) at ws (at_savepoint ws at t (tree.after_unmark ws at)) reply left) same h))

  pub roll_to_below : (n m s t : Name) → t ≡ s → x ≡ command.RollTo n s
      → IsPerformedAt book (command.RollTo m t) at ws (at_savepoint ws at t (tree.after_roll_to ws at)) reply left → Performs x
  unfolding refusal_at refusals_at effect_at
  roll_to_below n m s t same is h = as_command (command.RollTo n s) is (λ e. at_found n (λ at. refusals_at book ws at (command.RollTo n s))
      (λ at. at_savepoint ws at s (tree.after_roll_to ws at)) e
      (subst (λ (t : Name). IsPerformedAt book (command.RollTo m t) at ws (at_savepoint ws at t (tree.after_roll_to ws at)) reply left) same h))

  pub roll_all_below : (n m : Name) → x ≡ command.RollAll n → IsPerformedAt book (command.RollAll m) at ws (tree.after_roll_all ws at) reply left → Performs x
  unfolding refusal_at refusals_at effect_at
  roll_all_below n m is h = as_command (command.RollAll n) is (λ e. at_found n (λ at. refusals_at book ws at (command.RollAll n)) (tree.after_roll_all ws) e h)

  pub refresh_below : (n m : Name) → x ≡ command.Refresh n → IsPerformedAt book (command.Refresh m) at ws (tree.after_rebase ws at rebase.Refresh) reply left
      → Performs x
  unfolding refusal_at refusals_at effect_at
  refresh_below n m is h = as_command (command.Refresh n) is (λ e. at_found n (λ at. refusals_at book ws at (command.Refresh n))
      (λ at. tree.after_rebase ws at rebase.Refresh) e h)

  pub merge_below : (n m : Name) (remove : Bool) → x ≡ command.Merge n remove → IsPerformedAt book (command.Merge m remove) at ws (merge_at ws remove at) reply
      left → Performs x
  unfolding refusal_at refusals_at effect_at
  merge_below n m remove is h = as_command (command.Merge n remove) is (λ e. at_found n (λ at. refusals_at book ws at (command.Merge n remove))
      (merge_at ws remove) e h)

  pub resolve_below : (n m : Name) (cell : CellId) (keep : Keep) → x ≡ command.Resolve n cell keep
      → IsPerformedAt book (command.Resolve m cell keep) at ws (tree.after_rebase ws at (rebase.OneRow cell keep)) reply left → Performs x
  unfolding refusal_at refusals_at effect_at
  resolve_below n m cell keep is h = as_command (command.Resolve n cell keep) is (λ e. at_found n (λ at. refusals_at book ws at (command.Resolve n cell keep))
      (λ at. tree.after_rebase ws at (rebase.OneRow cell keep)) e h)

  pub hold_below : (n m : Name) → x ≡ command.Hold n → IsPerformedAt book (command.Hold m) at ws (tree.set_kept ws at true) reply left → Performs x
  unfolding refusal_at refusals_at effect_at
  hold_below n m is h = as_command (command.Hold n) is (λ e. at_found n (λ at. refusals_at book ws at (command.Hold n)) (λ at. tree.set_kept ws at true) e h)

  pub release_below : (n m : Name) → x ≡ command.Release n → IsPerformedAt [] (command.Release m) at ws (tree.set_kept ws at false) reply left → Performs x
  unfolding refusal_at refusals_at effect_at
  release_below n m is h = as_command (command.Release n) is (λ e. at_found n (λ at. refusals_at book ws at (command.Release n))
      (λ at. tree.set_kept ws at false) e h)
