-- A search of the tree for a workspace that is kept and breaks a rule.
use Rattle.std.proofs.Common.{◌≡◌, ℕ, zero, suc, ◌<◌, Bool, true, false, cond, List, [], ◌∷◌, length, Option, Some, None, refl, sym, ap, subst, ◌∙◌, arith}
use Rattle.std.specs.Option.{option_or, option_map}
use Rattle.std.proofs.lemmas.Bool.{false≢true}
use Rattle.clr_rows.specs.declared.tables.TableDef.{TableDef}
use Rattle.clr_rows.specs.Contents.{row_at}
use Rattle.clr_rules.specs.declared.needs.Broken.{Broken}
use Rattle.clr_rules.specs.declared.rules.Rule.{Rule}
use Rattle.clr_rules.specs.Needs.{Holds}
use Rattle.clr_workspaces.specs.Workspaces.{Workspace, workspace_at, find}
use Rattle.clr_workspaces.specs.Soundness.{IsSound}
use Rattle.clr_steps.specs.Offices.{Office, office_of, content_of, is_kept}
use Rattle.clr_steps.specs.Refusals.{first_broken}
use Rattle.clr_steps.specs.Positions.{content_at, kept_at}
use Rattle.clr_steps.specs.Invariants.{HoldsWhereKept, unheld_from, first_unheld}
use Rattle.clr_steps.specs.Laws.{UnheldLaw}
use Rattle.clr_steps.proofs.NeedLemmas.{holds_if_none, none_if_holds}
use Rattle.clr_steps.proofs.SeenLemmas.{seen, within, kept_is}

abbrev need_of : List Rule → Workspace → Option Broken
need_of book w = cond w.kept (first_broken book w.current) None

-- no need of the first of two, and none of the others
pub none_then : (r : Option Broken) (at : ℕ) (rest : Option (ℕ × Broken)) → option_or (option_map (λ need. (at, need)) r) rest ≡ None
    → (r ≡ None) × (rest ≡ None)
none_then None at rest e = (refl, e)
none_then (Some b) at rest e = absurd (cc)

-- none is found exactly where no position has one
each_none : (book : List Rule) (at : ℕ) (ws : List Workspace) → unheld_from book at ws ≡ None → (i : ℕ) → i < length ws → need_of book (workspace_at ws i)
    ≡ None
unfolding unheld_from
each_none book at [] e i lt = absurd (omega arith)
each_none book at (w ∷ ws) e zero lt = (none_then (need_of book w) at (unheld_from book (suc at) ws) e).0
each_none book at (w ∷ ws) e (suc i) lt = each_none book (suc at) ws (none_then (need_of book w) at (unheld_from book (suc at) ws) e).1 i (omega arith)

none_of_each : (book : List Rule) (at : ℕ) (ws : List Workspace) → ((i : ℕ) → i < length ws → need_of book (workspace_at ws i) ≡ None) → unheld_from book at ws
    ≡ None
unfolding unheld_from
none_of_each book at [] each = refl
none_of_each book at (w ∷ ws) each = rw (each 0 (omega arith)) (none_of_each book (suc at) ws (λ i lt. each (suc i) (omega arith)))

module _ (schema : List TableDef) (book : List Rule) (ws : List Workspace) (sound : IsSound ws) where
  abbrev o : Office
  o = office_of schema book ws

  holds : first_unheld book ws ≡ None → HoldsWhereKept o
  holds none n kept = by (find ws n) refl (sym (kept_is schema book ws sound n) ∙ kept)
    where
      by : (r : Option ℕ) → find ws n ≡ r → kept_at ws r ≡ true → Holds book (row_at (content_of o n))
      by None e k = absurd (false≢true k)
      by (Some at) e k =
          let w = workspace_at ws at in
          let free : first_broken book w.current ≡ None = sym (ap (λ b. cond b (first_broken book w.current) None) k)
          ∙ each_none book 0 ws none at (within schema book ws sound n at e) in
          subst (λ c. Holds book (row_at c)) (sym ((seen schema book ws sound n).content ∙ ap (content_at ws) e)) (holds_if_none book w.current free)

  free : HoldsWhereKept o → first_unheld book ws ≡ None
  free h = none_of_each book 0 ws (λ i lt. by i lt (workspace_at ws i).kept refl)
    where
      by : (i : ℕ) → i < length ws → (b : Bool) → (workspace_at ws i).kept ≡ b → cond b (first_broken book (workspace_at ws i).current) None ≡ None
      by i lt false e = refl
      by i lt true e =
          let n = (workspace_at ws i).name in
          let there = sound.rooted.own i lt in
          let kept : is_kept o n ≡ true = kept_is schema book ws sound n ∙ ap (kept_at ws) there ∙ e in
          none_if_holds book (workspace_at ws i).current (subst (λ c. Holds book (row_at c)) ((seen schema book ws sound n).content
          ∙ ap (content_at ws) there) (h n kept))

pub unheld_law : UnheldLaw
unheld_law schema book ws sound = (holds schema book ws sound, free schema book ws sound)
