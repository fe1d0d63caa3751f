use Rattle.std.proofs.Common.{◌∙◌, ◌<◌, ◌≤◌, ◌+◌, ◌++◌, List, ℕ, ap, arith, length, sym}
use Rattle.clr_asked_members.specs.Members.{child_in}
use Rattle.clr_steps.specs.Readings.{name_at}
use Rattle.clr_asked_members.proofs.ChildLemmas.{all, more, none}
use Rattle.clr_asked_members.proofs.children.children_of.Goals as goal

pub loop-below-init : goal.loop-below-init
loop-below-init c = c.new-names.ensures.items ∙ none c.args.office.now c.args.root.now

pub loop-below-preserved : goal.loop-below-preserved
loop-below-preserved c =
    let less : c.loop-below.below < length c.args.office.now.workspaces = omega (arith, c.loop-below-test.true, c.len-count.ensures.count) in
    c.in_ok-add_child.ensures ∙ ap (λ (l : List (List ℕ)). l ++ child_in c.args.office.now c.args.root.now
    (name_at c.args.office.now (c.loop-below.below + 1))) c.loop-below.invariant
    ∙ sym (more c.args.office.now c.args.root.now c.loop-below.below less)

pub returns : goal.returns
returns c =
    let past : length c.args.office.now.workspaces ≤ c.loop-below.below = omega (arith, c.loop-below-test.false, c.len-count.ensures.count) in
    c.new.ensures ∙ c.loop-below.invariant ∙ all c.args.office.now c.args.root.now c.loop-below.below past
