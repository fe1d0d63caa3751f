use Rattle.std.proofs.Common.{◌<◌, ◌≤◌, ◌∙◌, None, Some, length, refl, sym, subst}
use Rattle.clr_judges.proofs.Fits.{fit_current}
use Rattle.clr_judges.proofs.Unheld.{none_past, unheld_here}
use Rattle.clr_judges.proofs.judges.Judge.unheld.Goals as goal

pub loop-at-init : goal.loop-at-init
loop-at-init c = refl

pub unknown_at-requires-clause-fit : goal.unknown_at-requires-clause-fit
unknown_at-requires-clause-fit c = fit_current c.args.self.now c.args.tree.now.list c.requires c.loop-at.at

pub loop-at-preserved : goal.loop-at-preserved
loop-at-preserved c =
    let ws = c.args.tree.now.list in
    let at = c.loop-at.at in
    let lt : at < length ws = subst (λ n. at < n) c.len-at-end.ensures.count c.loop-at-test.true in
    c.loop-at.invariant ∙ unheld_here c.args.self.now c.args.known.now ws at None lt (sym c.in_ok-need.ensures ∙ c.in_default.is)

pub returns-in-Some-clause-first : goal.returns-in-Some-clause-first
returns-in-Some-clause-first c =
    let ws = c.args.tree.now.list in
    let at = c.loop-at.at in
    let lt : at < length ws = subst (λ n. at < n) c.len-at-end.ensures.count c.loop-at-test.true in
    sym (c.loop-at.invariant ∙ unheld_here c.args.self.now c.args.known.now ws at (Some c.in-Some.need) lt (sym c.in_ok-need.ensures ∙ c.in-Some.is))

pub returns-clause-first : goal.returns-clause-first
returns-clause-first c =
    sym (c.loop-at.invariant ∙ none_past c.args.self.now c.args.known.now c.args.tree.now.list c.loop-at.at (subst (λ n. n ≤ c.loop-at.at)
    c.len-at-end.ensures.count c.loop-at-test.false))
