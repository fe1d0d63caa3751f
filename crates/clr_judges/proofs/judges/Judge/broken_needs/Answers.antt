use Rattle.std.proofs.Common.{◌≡◌, length, List, subst, sym, arith}
use Rattle.clr_rules.specs.declared.needs.Broken.{Broken}
use Rattle.clr_judges.specs.BrokenNeeds.{AreBrokenBelow}
use Rattle.clr_judges.proofs.BrokenBelow.{none_below}
use Rattle.clr_judges.proofs.Fits.{fit_current}
use Rattle.clr_judges.proofs.judges.Judge.broken_needs.Goals as goal

pub loop-at-init : goal.loop-at-init
loop-at-init c =
    subst (λ (list : List Broken). AreBrokenBelow c.args.self.now c.args.tree.now.list 0 list) (sym c.new-list.ensures.items)
    (none_below c.args.self.now c.args.tree.now.list)

pub add_broken_at-requires-clause-fit : goal.add_broken_at-requires-clause-fit
add_broken_at-requires-clause-fit c = fit_current c.args.self.now c.args.tree.now.list c.requires c.loop-at.at

pub returns-clause-broken : goal.returns-clause-broken
returns-clause-broken c =
    let all : c.loop-at.at ≡ length c.args.tree.now.list = omega (arith, c.loop-at-test.false, c.loop-at.auto.at-end, c.len-at-end.ensures.count) in
    subst (λ n. AreBrokenBelow c.args.self.now c.args.tree.now.list n c.loop-at.list.items) all c.loop-at.invariant
