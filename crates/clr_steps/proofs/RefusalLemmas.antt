-- Each command is refused by name for what it is refused for by position.
use Rattle.std.proofs.Common.{◌≡◌, ℕ, zero, suc, ◌+◌, not, cond, nat_le, List, [], ◌∷◌, length, Option, Some, None, refl, ap, ◌∙◌, arith}
use Rattle.std.specs.Prelude.{is_some, is_none}
use Rattle.std.specs.Option.{option_map_or}
use Rattle.clr_rows.specs.declared.tables.TableDef.{TableDef}
use Rattle.clr_rules.specs.declared.rules.Rule.{Rule}
use Rattle.clr_workspaces.specs.declared.limits.TheConstants.{MOST_WORKSPACES}
use Rattle.clr_steps.specs.declared.commands.Command.{Command}
use Rattle.clr_steps.specs.declared.commands.Command.TheVariants as command
use Rattle.clr_steps.specs.declared.commands.Reply.TheVariants.{NoWorkspace, LiveIsFixed, NotInConflict}
use Rattle.clr_workspaces.specs.Marks.{Name}
use Rattle.clr_workspaces.specs.Workspaces.{Workspace, workspace_at, find, parent_of}
use Rattle.clr_workspaces.specs.Soundness.{IsSound}
use Rattle.clr_workspaces.specs.Operations.{keep_row}
use Rattle.clr_steps.specs.Offices.{Office, office_of, content_of, is_kept, below_live}
use Rattle.clr_steps.specs.Effects.{edited_content, rolled_content, merged_content, resolved_content}
use Rattle.clr_steps.specs.Refusals.{when, first_of, has_child, edit_refusal, conflict, is_in_conflict_with, is_in_conflict, broken_where, breaks, hold_breaks, name_in, refresh_breaks}
use Rattle.clr_steps.specs.Refusals.{refusals_of, refusal_on, refusal}
use Rattle.clr_steps.specs.Positions.{is_top, below_top, content_at, kept_at, has_child_at, refusals_at, refusal_below, refusal_at}
use Rattle.clr_steps.specs.Laws.{RefusalLaw}
use Rattle.clr_steps.proofs.SeenLemmas.{Seen, seen, within, own_position, kept_is, child_is, depth_is, length_is}

none_is : (r : Option ℕ) → not (is_some r) ≡ is_none r
none_is None = refl
none_is (Some at) = refl

module _ (schema : List TableDef) (book : List Rule) (ws : List Workspace) (sound : IsSound ws) where
  abbrev o : Office
  o = office_of schema book ws

  see : (n : Name) → Seen o ws n
  see = seen schema book ws sound

  -- a command on a workspace, where it is refused for the same at the position under LIVE
  of_below : (c : Command) → ((k : ℕ) → find ws (name_in c) ≡ Some (suc k) → refusals_of o (workspace_at ws (suc k)) c ≡ refusals_at book ws (suc k) c)
      → refusal_on o c ≡ refusal_below (find ws (name_in c)) (λ at. refusals_at book ws at c)
  of_below c same = rw ((see (name_in c)).live, (see (name_in c)).found) (by (find ws (name_in c)) refl)
    where
      by : (r : Option ℕ) → find ws (name_in c) ≡ r
          → cond (is_top r) (Some LiveIsFixed) (option_map_or (λ w. first_of (refusals_of o w c)) (below_top ws r) (Some NoWorkspace))
          ≡ refusal_below r (λ at. refusals_at book ws at c)
      by None e = refl
      by (Some zero) e = refl
      by (Some (suc k)) e = ap first_of (same k e)

  kept_here : (n : Name) (k : ℕ) → find ws n ≡ Some (suc k) → is_kept o (workspace_at ws (suc k)).name ≡ (workspace_at ws (suc k)).kept
  kept_here n k e = kept_is schema book ws sound (workspace_at ws (suc k)).name ∙ ap (kept_at ws) (own_position schema book ws sound n (suc k) e)

  child_here : (n : Name) (k : ℕ) → find ws n ≡ Some (suc k) → has_child o (workspace_at ws (suc k)).name ≡ has_child_at ws (suc k)
  child_here n k e = child_is schema book ws sound (suc k) (within schema book ws sound n (suc k) e)

  above : (k : ℕ) → content_of o (workspace_at ws (suc k)).parent ≡ content_at ws (parent_of ws (suc k))
  above k = (see (workspace_at ws (suc k)).parent).content

  kept_above : (k : ℕ) → is_kept o (workspace_at ws (suc k)).parent ≡ kept_at ws (parent_of ws (suc k))
  kept_above k = kept_is schema book ws sound (workspace_at ws (suc k)).parent

  own_content : (n : Name) (k : ℕ) → find ws n ≡ Some (suc k) → content_of o (workspace_at ws (suc k)).name ≡ (workspace_at ws (suc k)).current
  own_content n k e = (see (workspace_at ws (suc k)).name).content ∙ ap (content_at ws) (own_position schema book ws sound n (suc k) e)

  full_is : nat_le MOST_WORKSPACES (length (below_live ws) + 1) ≡ nat_le MOST_WORKSPACES (length ws)
  full_is = ap (nat_le MOST_WORKSPACES) (omega (arith, length_is schema book ws sound))

  pub refused_is : (c : Command) → refusal o c ≡ refusal_at schema book ws c
  unfolding refusal refusal_at refusals_of refusals_at edit_refusal breaks refresh_breaks hold_breaks conflict is_in_conflict edited_content rolled_content merged_content resolved_content
  refused_is (command.Create name parent) = rw ((see parent).stands, (see name).stands, none_is (find ws parent), full_is, depth_is schema book ws sound parent)
      refl
  refused_is (command.Apply name edits) = rw ((see name).stands, (see name).content, none_is (find ws name), kept_is schema book ws sound name) refl
  refused_is (command.Remove name) = of_below (command.Remove name) (λ k e. rw (child_here name k e) refl)
  refused_is (command.Mark name savepoint) = of_below (command.Mark name savepoint) (λ k e. refl)
  refused_is (command.Unmark name savepoint) = of_below (command.Unmark name savepoint) (λ k e. refl)
  refused_is (command.RollTo name savepoint) = of_below (command.RollTo name savepoint) (λ k e. rw (kept_here name k e, own_content name k e) refl)
  refused_is (command.RollAll name) = of_below (command.RollAll name) (λ k e. rw (child_here name k e, kept_here name k e, own_content name k e) refl)
  refused_is (command.Refresh name) = of_below (command.Refresh name) (λ k e. rw (above k, kept_here name k e, kept_above k) refl)
  refused_is (command.Merge name remove) = of_below (command.Merge name remove)
      (λ k e. rw (above k, child_here name k e, kept_is schema book ws sound (workspace_at ws (suc k)).parent) refl)
  refused_is (command.Resolve name cell keep) = of_below (command.Resolve name cell keep) (λ k e.
      let w = workspace_at ws (suc k) in
      rw (kept_here name k e, own_content name k e) (ap (λ c. when (not (is_in_conflict_with c w cell)) NotInConflict ∷ broken_where w.kept book w.current (keep_row cell keep c w).current
      ∷ []) (above k)))
  refused_is (command.Hold name) = of_below (command.Hold name) (λ k e. rw (above k, kept_above k) refl)
  refused_is (command.Release name) = of_below (command.Release name) (λ k e. refl)

pub refusal_law : RefusalLaw
refusal_law = refused_is
