use Rattle.clr_deltas.specs.Differences.{swept_at}
use Rattle.clr_deltas.proofs.SweepLemmas.{seen-swept_at}
use Rattle.clr_contents.specs.Lean.{swept_marks_at}
use Rattle.clr_contents.proofs.LeanLemmas.{seen-swept_marks_at}
use Rattle.clr_contents.proofs.SweepLemmas.{rooted_one, rooted_two, seen_three, here_three, others_three}
use Rattle.clr_contents.proofs.sweeps.sweep_one_at.Goals as goal

pub sweep_current_at-requires-clause-rooted : goal.sweep_current_at-requires-clause-rooted
sweep_current_at-requires-clause-rooted c =
    rooted_one (λ m d. swept_at m c.args.cells.now d) (λ m ms. swept_marks_at m c.args.cells.now ms) (λ m d. seen-swept_at m c.args.cells.now d)
    (seen-swept_marks_at c.args.cells.now) c.args.live.now c.args.map.now c.args.at c.requires.rooted c.requires.child c.requires.within
    c.sweep_base_at.new.map c.sweep_base_at.ensures

pub sweep_saved_at-requires-clause-rooted : goal.sweep_saved_at-requires-clause-rooted
sweep_saved_at-requires-clause-rooted c =
    rooted_two (λ m d. swept_at m c.args.cells.now d) (λ m ms. swept_marks_at m c.args.cells.now ms) (λ m d. seen-swept_at m c.args.cells.now d)
    (seen-swept_marks_at c.args.cells.now) c.args.live.now c.args.map.now c.args.at c.requires.rooted c.requires.child c.requires.within
    c.sweep_base_at.new.map c.sweep_base_at.ensures
    c.sweep_current_at.new.map c.sweep_current_at.ensures

pub returns-clause-seen : goal.returns-clause-seen
returns-clause-seen c =
    seen_three (λ m d. swept_at m c.args.cells.now d) (λ m ms. swept_marks_at m c.args.cells.now ms) (λ m d. seen-swept_at m c.args.cells.now d)
    (seen-swept_marks_at c.args.cells.now) c.args.live.now c.args.map.now c.args.at c.requires.rooted c.requires.child c.requires.within
    c.sweep_base_at.new.map c.sweep_base_at.ensures
    c.sweep_current_at.new.map c.sweep_current_at.ensures c.sweep_saved_at.new.map c.sweep_saved_at.ensures

pub returns-clause-here : goal.returns-clause-here
returns-clause-here c =
    here_three (λ m d. swept_at m c.args.cells.now d) (λ m ms. swept_marks_at m c.args.cells.now ms) (λ m d. seen-swept_at m c.args.cells.now d)
    (seen-swept_marks_at c.args.cells.now) c.args.live.now c.args.map.now c.args.at c.requires.rooted c.requires.child c.requires.within
    c.sweep_base_at.new.map c.sweep_base_at.ensures
    c.sweep_current_at.new.map c.sweep_current_at.ensures c.sweep_saved_at.new.map c.sweep_saved_at.ensures

pub returns-clause-others : goal.returns-clause-others
returns-clause-others c =
    others_three (λ m d. swept_at m c.args.cells.now d) (λ m ms. swept_marks_at m c.args.cells.now ms) (λ m d. seen-swept_at m c.args.cells.now d)
    (seen-swept_marks_at c.args.cells.now) c.args.live.now c.args.map.now c.args.at c.requires.rooted c.requires.child c.requires.within
    c.sweep_base_at.new.map c.sweep_base_at.ensures
    c.sweep_current_at.new.map c.sweep_current_at.ensures c.sweep_saved_at.new.map c.sweep_saved_at.ensures
