use Rattle.std.proofs.Common.{◌<◌, ◌≤◌, ◌≡◌, ◌∙◌, None, Some, length, ap, refl, sym, subst, arith, take}
use Rattle.std.specs.Result.{result_err}
use Rattle.clr_grid.specs.Finders.{AreFinders}
use Rattle.clr_judges.specs.KeptContents.{kept_contents}
use Rattle.clr_judges.proofs.Fits.{fit_current}
use Rattle.clr_judges.proofs.Found.{all_found, one_found}
use Rattle.clr_judges.proofs.Unheld.{none_past, unheld_here}
use Rattle.clr_judges.proofs.judges.Judge.finders.Goals as goal

pub loop-at-init : goal.loop-at-init
loop-at-init c = record {
  left = refl;
  are = subst (AreFinders c.args.self.now (take 0 (kept_contents c.args.tree.now.list))) (sym c.new-finders.ensures) tt;
}

pub finder_at-requires-clause-fit : goal.finder_at-requires-clause-fit
finder_at-requires-clause-fit c = fit_current c.args.self.now c.args.tree.now.list c.requires c.loop-at.at

pub loop-at-preserved : goal.loop-at-preserved
loop-at-preserved c =
    let book = c.args.self.now in
    let ws = c.args.tree.now.list in
    let at = c.loop-at.at in
    let lt : at < length ws = subst (λ n. at < n) c.len-at-end.ensures.count c.loop-at-test.true in
    record {
      left = c.loop-at.invariant.left ∙ unheld_here book c.args.known.now ws at None lt (sym c.in_ok-finder.ensures.need ∙ ap result_err c.in-Ok.is);
      are = one_found book ws at c.loop-at.finders c.push.new.self c.in-Ok.finder lt c.loop-at.invariant.are
          (rw c.in-Ok.is at c.in_ok-finder.ensures.finder) c.in_ok-push-in-Ok.ensures.ok;
    }

pub returns-in-Err-clause-first : goal.returns-in-Err-clause-first
returns-in-Err-clause-first c =
    let ws = c.args.tree.now.list in
    let at = c.loop-at.at in
    let lt : at < length ws = subst (λ n. at < n) c.len-at-end.ensures.count c.loop-at-test.true in
    sym (c.loop-at.invariant.left ∙ unheld_here c.args.self.now c.args.known.now ws at (Some c.in-Err.need) lt (sym c.in_ok-finder.ensures.need
    ∙ ap result_err c.in-Err.is))

pub returns-clause-first : goal.returns-clause-first
returns-clause-first c =
    sym (c.loop-at.invariant.left ∙ none_past c.args.self.now c.args.known.now c.args.tree.now.list c.loop-at.at (subst (λ n. n ≤ c.loop-at.at) c.len-at-end.ensures.count
    c.loop-at-test.false))

pub returns-clause-finders : goal.returns-clause-finders
returns-clause-finders c =
    let all : c.loop-at.at ≡ length c.args.tree.now.list = omega (arith, c.loop-at-test.false, c.loop-at.auto.at-end, c.len-at-end.ensures.count) in
    all_found c.args.self.now c.args.tree.now.list c.loop-at.at c.loop-at.finders all c.loop-at.invariant.are
