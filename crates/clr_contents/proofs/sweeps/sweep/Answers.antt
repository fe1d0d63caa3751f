use Rattle.std.proofs.Common.{◌≡◌, ◌≢◌, ⊎_elim, List, length, refl, ap, sym, subst, ◌∙◌, arith}
use Rattle.std.proofs.lemmas.Bool.{cases_eq}
use Rattle.std.proofs.lemmas.List.{length-set, get_or-set_other}
use Rattle.clr_deltas.specs.Deltas.{Delta, no_delta, delta_at, wholes}
use Rattle.clr_workspaces.specs.Workspaces.{Workspace}
use Rattle.clr_workspaces.specs.Roots.{IsRooted}
use Rattle.clr_contents.specs.Lean.{IsLeanOver}
use Rattle.clr_contents.proofs.sweeps.sweep.Goals as goal

pub loop-at-init : goal.loop-at-init
loop-at-init c = record { seen = refl; long = refl; lean = λ j some lt. absurd (omega arith) }

pub sweep_one-requires-clause-within : goal.sweep_one-requires-clause-within
sweep_one-requires-clause-within c = let long = c.loop-at.invariant.long in let all = c.len-at-end.ensures in omega (arith, long, all)

pub sweep_one-requires-clause-rooted : goal.sweep_one-requires-clause-rooted
sweep_one-requires-clause-rooted c = subst IsRooted (sym c.loop-at.invariant.seen) c.requires

pub loop-at-preserved : goal.loop-at-preserved
loop-at-preserved c =
    let live = c.args.live.now in
    let ls = c.args.map.now in
    let old = c.loop-at.map in
    let new = c.sweep_one.new.map in
    let at = c.loop-at.at in
    let i = c.loop-at.invariant in
    let e = c.sweep_one.ensures in
    record {
      seen = e.seen ∙ i.seen;
      long = ap (λ (ms : List Delta). length ms) e.others ∙ length-set old at _ ∙ i.long;
      lean = λ j some lt. ⊎_elim
          (λ (same : j ≡ at). subst (λ n. IsLeanOver (wholes live ls) n (delta_at new n)) (sym same)
          (subst (λ (ws : List Workspace). IsLeanOver ws at (delta_at new at)) i.seen e.lean))
          (λ (n : j ≢ at). subst (IsLeanOver (wholes live ls) j) (sym (ap (λ (ns : List Delta). delta_at ns j) e.others
          ∙ get_or-set_other old at j _ no_delta n)) (i.lean j some (omega (arith, n, lt))))
          (cases_eq j at);
    }

pub returns-clause-lean : goal.returns-clause-lean
returns-clause-lean c = λ j some lt.
    let i = c.loop-at.invariant in
    let long = i.long in
    let all = c.len-at-end.ensures in
    subst (λ (ws : List Workspace). IsLeanOver ws j (delta_at c.loop-at.map j)) (sym i.seen) (i.lean j some (omega (arith, long, all, lt)))
