use Rattle.std.proofs.Common.{◌<◌, ◌∙◌, ap, sym, subst, List, length, remove}
use Rattle.clr_deltas.specs.Deltas.{Delta, wholes, delta_changed, stored_without_mark_of}
use Rattle.clr_deltas.proofs.Meaning.{name-wholes}
use Rattle.clr_operations.proofs.LeafLemmas.{parent_left, removed_is, gone, no_child_whole}
use Rattle.clr_workspaces.proofs.LeafLemmas.{rooted_removed}
use Rattle.clr_workspaces.specs.Roots.{IsRooted}
use Rattle.clr_contents.proofs.ReadLemmas.{within_wholes}
use Rattle.clr_contents.specs.Lean.{IsLean}
use Rattle.clr_operations.proofs.LeanLemmas.{lean_dropped, lean_removed}
use Rattle.clr_operations.proofs.operations.remove.Goals as goal

pub drop_mark_of-requires : goal.drop_mark_of-requires
drop_mark_of-requires c =
    let ls = c.args.map.now in
    subst (λ (ms : List Delta). c.parent_of-above.result < length ms) (sym c.remove-name.ensures.gone)
    (parent_left c.args.live.now ls c.args.at c.parent_of-above.result c.requires.rooted c.requires.child c.requires.within c.requires.leaf
    c.parent_of-above.ensures.earlier)

pub returns-clause-removed : goal.returns-clause-removed
returns-clause-removed c =
    let live = c.args.live.now in
    let ls = c.args.map.now in
    let at = c.args.at in
    let p = c.parent_of-above.result in
    let name = c.as_str.ensures.value ∙ c.remove-name.ensures.name ∙ sym (name-wholes live ls at) in
    ap (wholes live) c.drop_mark_of.ensures
    ∙ (λ i. wholes live (delta_changed (c.remove-name.ensures.gone i) p (λ l. record l { marks = stored_without_mark_of (name i) l.marks })))
    ∙ removed_is live ls at p c.requires.rooted c.requires.child c.requires.within c.requires.leaf c.parent_of-above.ensures.earlier
    c.parent_of-above.ensures.found

pub returns-clause-lean : goal.returns-clause-lean
returns-clause-lean c = λ lean.
    let live = c.args.live.now in
    let ls = c.args.map.now in
    let ws = wholes live ls in
    let at = c.args.at in
    let p = c.parent_of-above.result in
    let r = c.requires.rooted in
    let some = c.requires.child in
    let lt = c.requires.within in
    let none = c.requires.leaf in
    let up = c.parent_of-above.ensures.earlier in
    let left = c.remove-name.ensures.gone in
    let rooted : IsRooted (wholes live (remove ls at)) = subst IsRooted (sym (gone live ls at p r some lt none up))
    (rooted_removed ws at r some (within_wholes live ls at lt) (no_child_whole live ls at none)) in
    let one = lean_dropped live (remove ls at) p _ rooted (parent_left live ls at p r some lt none up) (lean_removed live ls at p r some lt none up lean) in
    subst (IsLean live) (sym (c.drop_mark_of.ensures
    ∙ ap (λ (ms : List Delta). delta_changed ms p (λ l. record l { marks = stored_without_mark_of c.as_str.result.now l.marks })) left)) one
