-- The model of the tree beside its deltas.
use Rattle.std.proofs.Common.{◌≡◌, ℕ, ◌<◌, List, length, ap, sym, subst, ◌∙◌}
use Rattle.clr_rows.specs.Contents.{Content}
use Rattle.clr_workspaces.specs.Workspaces.{Workspace}
use Rattle.clr_deltas.specs.Deltas.{Delta, wholes}
use Rattle.clr_deltas.proofs.Meaning.{length-wholes}
use Rattle.clr_tree.specs.Trees.{Tree, tree_of}
use Rattle.clr_contents.proofs.ReadLemmas.{within_deltas}

pub within_tree : (live : Content) (ls : List Delta) (t : Tree) (at : ℕ) → tree_of live ls ≡ t → at < length t.list → at < length ls
within_tree live ls t at is lt = within_deltas live ls at (subst (λ (t : Tree). at < length t.list) (sym is) lt)

pub tree_long : (live : Content) (ls : List Delta) (t : Tree) → tree_of live ls ≡ t → length ls ≡ length t.list
tree_long live ls t is = sym (length-wholes live ls) ∙ ap (λ (t : Tree). length t.list) is

-- an operation on the deltas is one on the tree's list
pub became : (live next : Content) (ls ms : List Delta) (t : Tree) (op : List Workspace → List Workspace) → tree_of live ls ≡ t → wholes next ms
    ≡ op (wholes live ls) → (tree_of next ms).list ≡ op t.list
became live next ls ms t op is e = e ∙ ap (λ (t : Tree). op t.list) is
