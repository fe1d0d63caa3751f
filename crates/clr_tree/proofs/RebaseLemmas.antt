-- What a tree is after a rebase, done or not.
use Rattle.std.proofs.Common.{◌≡◌, ℕ, ◌<◌, List, length, sym, subst}
use Rattle.std.specs.Prelude.{Result, OnOk, OnErr}
use Rattle.clr_rows.specs.Contents.{Content}
use Rattle.clr_deltas.specs.Deltas.{Delta, wholes}
use Rattle.clr_deltas.proofs.Answered.{on_ok, on_err}
use Rattle.clr_contents.proofs.ReadLemmas.{within_wholes}
use Rattle.clr_workspaces.specs.Operations.{after_rebase}
use Rattle.clr_workspaces.specs.Soundness.{IsSound}
use Rattle.clr_tree.specs.Trees.{Tree, tree_of}
use Rattle.clr_workspaces.specs.declared.rebases.Rebase.{Rebase}
use Rattle.clr_tree.proofs.ModelLemmas.{became, within_tree}
use Rattle.clr_deltas.proofs.Answered.{either}
use Rattle.clr_workspaces.proofs.TreeLemmas.{sound_rebased}

module _ {X E : Type 0} (r : Result X E) (live next : Content) (ls ms : List Delta) (t : Tree) (is : tree_of live ls ≡ t) (at : ℕ) (how : Rebase) where
  -- a tree is sound after a rebase, done or not
  pub rebased_sound : at < length t.list → 0 < at → IsSound (wholes live ls)
      → OnOk r (wholes next ms ≡ after_rebase (wholes live ls) at how) → OnErr r (wholes next ms ≡ wholes live ls) → IsSound (wholes next ms)
  rebased_sound within some s ok err =
      let lt = within_wholes live ls at (within_tree live ls t at is within) in
      either r _ _ _ (λ done. subst IsSound (sym done) (sound_rebased (wholes live ls) at s lt some how)) (λ stays. subst IsSound (sym stays) s) ok err

  pub list_rebased : OnOk r (wholes next ms ≡ after_rebase (wholes live ls) at how) → OnOk r ((tree_of next ms).list ≡ after_rebase t.list at how)
  list_rebased ok = on_ok r _ _ (became live next ls ms t (λ ws. after_rebase ws at how) is) ok

  pub list_stays : OnErr r (wholes next ms ≡ wholes live ls) → OnErr r ((tree_of next ms).list ≡ t.list)
  list_stays err = on_err r _ _ (became live next ls ms t (λ ws. ws) is) err
