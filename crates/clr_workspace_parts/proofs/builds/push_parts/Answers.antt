use Rattle.std.proofs.Common.{◌≡◌, ℕ, suc, ◌+◌, ◌<◌, take, length, map, ap, sym, ◌∙◌, subst, arith}
use Rattle.std.proofs.lemmas.List.{length-map}
use Rattle.clr_deltas.specs.Deltas.{wholes}
use Rattle.clr_workspace_parts.specs.Parts.{workspace_of, list_of, part_name_fault_at, first_part_name_fault, IsFirstPartFault}
use Rattle.clr_workspaces.specs.Roots.{IsRooted}
use Rattle.clr_deltas.proofs.Meaning.{root_made}
use Rattle.clr_workspace_parts.proofs.FaultLemmas.{below_none, below_next, below_all, length-parts, shaped_take}
use Rattle.clr_workspace_parts.proofs.BuildLemmas.{refused_at}
use Rattle.clr_workspace_parts.proofs.builds.push_parts.Goals as goal

pub loop-at-init : goal.loop-at-init
loop-at-init c = record {
  made = ap (wholes c.args.live.now) c.in_ok-map.ensures.made ∙ root_made c.args.live.now;
  clear = below_none (part_name_fault_at (list_of c.args.live.now c.args.parts.now));
}

pub push_part-requires-clause-rooted : goal.push_part-requires-clause-rooted
push_part-requires-clause-rooted c =
    let live = c.args.live.now in
    let parts = c.args.parts.now in
    let long = length-parts live parts in
    subst IsRooted (sym c.loop-at.invariant.made) (shaped_take live (map workspace_of parts) c.loop-at.at (omega (arith, long))
    c.loop-at.invariant.clear).rooted

pub returns-in-Err-clause-refused : goal.returns-in-Err-clause-refused
returns-in-Err-clause-refused c =
    let parts = c.args.parts.now in
    let wrong = part_name_fault_at (list_of c.args.live.now parts) in
    let many = length-map parts workspace_of in
    let lt : c.loop-at.at < length (map workspace_of parts) = omega (arith, many) in
    subst (λ n. IsFirstPartFault (first_part_name_fault c.args.live.now (map workspace_of parts)) (n, c.in-Err.fault)) (sym c.fault_number.ensures)
    (refused_at wrong c.loop-at.at (length (map workspace_of parts)) c.in-Err.fault lt c.loop-at.invariant.clear c.in-Err.ensures.refused)

pub loop-at-preserved : goal.loop-at-preserved
loop-at-preserved c =
    let ws = list_of c.args.live.now c.args.parts.now in
    let next : suc (suc c.loop-at.at) ≡ suc (c.loop-at.at + 1) = omega arith in
    record {
      made = c.in_default.ensures.ok ∙ ap (λ (n : ℕ). take n ws) next;
      clear = below_next (part_name_fault_at ws) c.loop-at.at c.loop-at.invariant.clear c.in_default.ensures.passed;
    }

pub returns-clause-passed : goal.returns-clause-passed
returns-clause-passed c =
    let parts = c.args.parts.now in
    let many = length-map parts workspace_of in
    below_all (part_name_fault_at (list_of c.args.live.now parts)) c.loop-at.at (length (map workspace_of parts)) (omega (arith, many))
    c.loop-at.invariant.clear
