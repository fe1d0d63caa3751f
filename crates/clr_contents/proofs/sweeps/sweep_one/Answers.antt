use Rattle.std.proofs.Common.{sym, subst}
use Rattle.clr_deltas.specs.Differences.{without_neutral}
use Rattle.clr_deltas.proofs.SweepLemmas.{seen-swept}
use Rattle.clr_deltas.specs.Deltas.{wholes}
use Rattle.clr_contents.specs.Lean.{IsLeanOver}
use Rattle.clr_contents.specs.Lean.{swept_marks}
use Rattle.clr_contents.proofs.LeanLemmas.{lean_swept}
use Rattle.clr_contents.proofs.SweepLemmas.{rooted_one, rooted_two, seen_three, here_three, others_three, seen-swept_marks}
use Rattle.clr_contents.proofs.sweeps.sweep_one.Goals as goal

pub sweep_current-requires-clause-rooted : goal.sweep_current-requires-clause-rooted
sweep_current-requires-clause-rooted c =
    rooted_one without_neutral swept_marks seen-swept seen-swept_marks c.args.live.now c.args.map.now c.args.at c.requires.rooted c.requires.child
    c.requires.within c.sweep_base.new.map c.sweep_base.ensures

pub sweep_saved-requires-clause-rooted : goal.sweep_saved-requires-clause-rooted
sweep_saved-requires-clause-rooted c =
    rooted_two without_neutral swept_marks seen-swept seen-swept_marks c.args.live.now c.args.map.now c.args.at c.requires.rooted c.requires.child
    c.requires.within c.sweep_base.new.map c.sweep_base.ensures
    c.sweep_current.new.map c.sweep_current.ensures

pub returns-clause-seen : goal.returns-clause-seen
returns-clause-seen c =
    seen_three without_neutral swept_marks seen-swept seen-swept_marks c.args.live.now c.args.map.now c.args.at c.requires.rooted c.requires.child
    c.requires.within c.sweep_base.new.map c.sweep_base.ensures
    c.sweep_current.new.map c.sweep_current.ensures c.sweep_saved.new.map c.sweep_saved.ensures

pub returns-clause-lean : goal.returns-clause-lean
returns-clause-lean c =
    let here = here_three without_neutral swept_marks seen-swept seen-swept_marks c.args.live.now c.args.map.now c.args.at c.requires.rooted c.requires.child
    c.requires.within c.sweep_base.new.map c.sweep_base.ensures
    c.sweep_current.new.map c.sweep_current.ensures c.sweep_saved.new.map c.sweep_saved.ensures in
    subst (IsLeanOver (wholes c.args.live.now c.args.map.now) c.args.at) (sym here) (lean_swept c.args.live.now c.args.map.now c.args.at c.requires.rooted
    c.requires.child c.requires.within)

pub returns-clause-others : goal.returns-clause-others
returns-clause-others c =
    others_three without_neutral swept_marks seen-swept seen-swept_marks c.args.live.now c.args.map.now c.args.at c.requires.rooted c.requires.child
    c.requires.within c.sweep_base.new.map c.sweep_base.ensures
    c.sweep_current.new.map c.sweep_current.ensures c.sweep_saved.new.map c.sweep_saved.ensures
