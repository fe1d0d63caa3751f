use Rattle.std.proofs.Common.{◌≡◌, ◌≢◌, ℕ, ⊎_elim, List, length, refl, ap, sym, subst, ◌∙◌, arith}
use Rattle.std.proofs.lemmas.Bool.{cases_eq}
use Rattle.std.proofs.lemmas.List.{length-set, get_or-set_other}
use Rattle.clr_deltas.specs.Deltas.{Delta, no_delta, delta_at, wholes}
use Rattle.clr_workspaces.specs.Workspaces.{Workspace}
use Rattle.clr_workspaces.specs.Roots.{IsRooted}
use Rattle.clr_contents.specs.Lean.{IsLeanBeside, IsLeanOver}
use Rattle.clr_contents.proofs.sweeps.sweep_at.Goals as goal

pub loop-one-init : goal.loop-one-init
loop-one-init c = record { seen = refl; long = refl; lean = λ j some lt beside. absurd (omega arith); later = λ j le. refl }

pub sweep_near-requires-clause-one : goal.sweep_near-requires-clause-one
sweep_near-requires-clause-one c = let long = c.loop-one.invariant.long in let all = c.len-one-end.ensures in omega (arith, long, all)

pub sweep_near-requires-clause-within : goal.sweep_near-requires-clause-within
sweep_near-requires-clause-within c = let long = c.loop-one.invariant.long in let within = c.requires.within in omega (arith, long, within)

pub sweep_near-requires-clause-rooted : goal.sweep_near-requires-clause-rooted
sweep_near-requires-clause-rooted c = subst IsRooted (sym c.loop-one.invariant.seen) c.requires.rooted

pub loop-one-preserved : goal.loop-one-preserved
loop-one-preserved c =
    let live = c.args.live.now in
    let ls = c.args.map.now in
    let old = c.loop-one.map in
    let new = c.sweep_near.new.map in
    let k = c.loop-one.one in
    let at = c.args.at in
    let cells = c.args.cells.now in
    let i = c.loop-one.invariant in
    let e = c.sweep_near.ensures in
    let other : (j : ℕ) → j ≢ k → delta_at new j ≡ delta_at old j = λ j n. ap (λ (ns : List Delta). delta_at ns j) e.others
    ∙ get_or-set_other old k j _ no_delta n in
    record {
      seen = e.seen ∙ i.seen;
      long = ap (λ (ms : List Delta). length ms) e.others ∙ length-set old k _ ∙ i.long;
      lean = λ j some lt beside. ⊎_elim
          (λ (same : j ≡ k).
          let here : IsLeanBeside (wholes live ls) at cells k (delta_at ls k) = subst (λ n. IsLeanBeside (wholes live ls) at cells n (delta_at ls n)) same
          beside in
          let was : IsLeanBeside (wholes live old) at cells k (delta_at old k) = subst (λ (ws : List Workspace). IsLeanBeside ws at cells k (delta_at old k))
          (sym i.seen) (subst (IsLeanBeside (wholes live ls) at cells k) (sym (i.later k (omega arith))) here) in
          subst (λ n. IsLeanOver (wholes live ls) n (delta_at new n)) (sym same) (subst (λ (ws : List Workspace). IsLeanOver ws k (delta_at new k)) i.seen
          (e.lean was)))
          (λ (n : j ≢ k). subst (IsLeanOver (wholes live ls) j) (sym (other j n)) (i.lean j some (omega (arith, n, lt)) beside))
          (cases_eq j k);
      later = λ j le. other j (omega (arith, le)) ∙ i.later j (omega (arith, le));
    }

pub returns-clause-lean : goal.returns-clause-lean
returns-clause-lean c = λ but j some lt.
    let i = c.loop-one.invariant in
    let long = i.long in
    let all = c.len-one-end.ensures in
    subst (λ (ws : List Workspace). IsLeanOver ws j (delta_at c.loop-one.map j)) (sym i.seen) (i.lean j some (omega (arith, long, all, lt))
    (but j some (omega (arith, long, lt))))
