use Rattle.std.proofs.Common.{sym, subst, ◌∙◌}
use Rattle.std.proofs.lemmas.Bool.{both_ways, eqb-false, or_parts}
use Rattle.clr_deltas.specs.Deltas.{wholes}
use Rattle.clr_contents.specs.Lean.{IsLeanOver}
use Rattle.clr_contents.proofs.LeanLemmas.{lean_apart, lean_swept_at}
use Rattle.clr_contents.proofs.sweeps.sweep_near.Goals as goal

pub returns-then-not-is_near-clause-lean : goal.returns-then-not-is_near-clause-lean
returns-then-not-is_near-clause-lean c = λ beside.
    let both = or_parts _ _ (sym c.is_near.ensures ∙ c.if-not-is_near.true) in
    lean_apart c.args.live.now c.args.map.now c.args.one c.requires.rooted c.requires.child c.requires.one c.args.at c.args.cells.now (eqb-false _ _ both.0)
    (both_ways _ both.1) beside

pub returns-clause-lean : goal.returns-clause-lean
returns-clause-lean c = λ beside.
    subst (IsLeanOver (wholes c.args.live.now c.args.map.now) c.args.one) (sym c.sweep_one_at.ensures.here)
    (lean_swept_at c.args.live.now c.args.map.now c.args.one c.requires.rooted c.requires.child c.requires.one c.args.cells.now c.args.at beside)
