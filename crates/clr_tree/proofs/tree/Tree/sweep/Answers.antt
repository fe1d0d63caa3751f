use Rattle.std.proofs.Common.{◌≡◌, ◌<◌, ◌∙◌, ℕ, [], sym, subst, length}
use Rattle.clr_contents.proofs.ReadLemmas.{within_deltas}
use Rattle.clr_workspaces.specs.Roots.{IsRooted}
use Rattle.clr_deltas.specs.Deltas.{delta_at, stored_in}
use Rattle.clr_tree.specs.Trees.{Tree, needed, needed_delta, needed_of_marks, saved_at, stored_count_at, stored_of_marks}
use Rattle.clr_tree.proofs.LeanLemmas.{lean_count, lean_delta, lean_saved}
use Rattle.clr_tree.proofs.SweepLemmas.{told_at}
use Rattle.clr_tree.proofs.tree.Tree.sweep.Goals as goal

pub returns-then-self-clause-deltas : goal.returns-then-self-clause-deltas
returns-then-self-clause-deltas c =
    let live = c.self.inside.live in
    let ls = c.self.inside.map in
    subst (λ (t : Tree). (at : ℕ) → 0 < at → at < length t.list → delta_at t.deltas at ≡ needed_delta t.list at) c.self.view_is
    (λ at some lt. let in_ls = within_deltas live ls at lt in lean_delta live ls at c.self.invariant.0.rooted some in_ls
    (c.self.invariant.1 c.if-self.true at some in_ls))

pub returns-then-self-clause-counts : goal.returns-then-self-clause-counts
returns-then-self-clause-counts c =
    let live = c.self.inside.live in
    let ls = c.self.inside.map in
    subst (λ (t : Tree). (at : ℕ) → 0 < at → at < length t.list → stored_count_at t.stored at ≡ needed t.list at) c.self.view_is
    (λ at some lt. let in_ls = within_deltas live ls at lt in told_at stored_in 0 ls at in_ls
    ∙ lean_count live ls at c.self.invariant.0.rooted some in_ls (c.self.invariant.1 c.if-self.true at some in_ls))

pub returns-then-self-clause-saved : goal.returns-then-self-clause-saved
returns-then-self-clause-saved c =
    let live = c.self.inside.live in
    let ls = c.self.inside.map in
    subst (λ (t : Tree). (at : ℕ) → 0 < at → at < length t.list → saved_at t.saved at ≡ needed_of_marks t.list at) c.self.view_is
    (λ at some lt. let in_ls = within_deltas live ls at lt in told_at stored_of_marks [] ls at in_ls
    ∙ lean_saved live ls at c.self.invariant.0.rooted some in_ls (c.self.invariant.1 c.if-self.true at some in_ls))

pub returns-clause-deltas : goal.returns-clause-deltas
returns-clause-deltas c = λ at some lt.
    let live = c.self.inside.live in
    let ls = c.sweep.new.map in
    let in_ls = within_deltas live ls at lt in
    let rooted = subst IsRooted (sym c.sweep.ensures.seen) c.self.invariant.0.rooted in
    lean_delta live ls at rooted some in_ls (c.sweep.ensures.lean at some in_ls)

pub returns-clause-counts : goal.returns-clause-counts
returns-clause-counts c = λ at some lt.
    let live = c.self.inside.live in
    let ls = c.sweep.new.map in
    let in_ls = within_deltas live ls at lt in
    let rooted = subst IsRooted (sym c.sweep.ensures.seen) c.self.invariant.0.rooted in
    told_at stored_in 0 ls at in_ls ∙ lean_count live ls at rooted some in_ls (c.sweep.ensures.lean at some in_ls)

pub returns-clause-saved : goal.returns-clause-saved
returns-clause-saved c = λ at some lt.
    let live = c.self.inside.live in
    let ls = c.sweep.new.map in
    let in_ls = within_deltas live ls at lt in
    let rooted = subst IsRooted (sym c.sweep.ensures.seen) c.self.invariant.0.rooted in
    told_at stored_of_marks [] ls at in_ls ∙ lean_saved live ls at rooted some in_ls (c.sweep.ensures.lean at some in_ls)
