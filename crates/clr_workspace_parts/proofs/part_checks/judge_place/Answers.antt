use Rattle.std.proofs.Common.{◌<◌, ◌≤◌, is_some, ap, sym, ◌∙◌, subst, arith}
use Rattle.clr_deltas.specs.Deltas.{wholes}
use Rattle.clr_deltas.proofs.Meaning.{length-wholes, find-wholes}
use Rattle.clr_workspaces.specs.declared.limits.TheConstants.{MOST_LEVELS}
use Rattle.clr_workspace_parts.proofs.PartLemmas.{none_found, taken, orphan, fits, too_many, too_deep}
use Rattle.clr_workspace_parts.proofs.part_checks.judge_place.Goals.{else-len-lt-MOST_WORKSPACES-via-then-len-lt-MOST_WORKSPACES+else-depth_at-lt-MOST_LEVELS}
use Rattle.clr_workspace_parts.proofs.part_checks.judge_place.Goals.{else-len-lt-MOST_WORKSPACES-via-else-len-lt-MOST_WORKSPACES}
use Rattle.clr_workspace_parts.proofs.part_checks.judge_place.Goals as goal

pub returns-then-is_some-clause-refused : goal.returns-then-is_some-clause-refused
returns-then-is_some-clause-refused c =
    let ws = wholes c.args.live.now c.args.map.now in
    let good = sym c.good_name.ensures ∙ c.if-not-good_name.false in
    let found = find-wholes c.args.live.now c.args.map.now c.args.name.now ∙ sym c.find.ensures.found in
    taken ws c.args.name.now c.args.parent.now good (ap is_some found ∙ sym c.is_some.ensures ∙ c.if-is_some.true)

pub returns-in-None-clause-refused : goal.returns-in-None-clause-refused
returns-in-None-clause-refused c =
    let ws = wholes c.args.live.now c.args.map.now in
    let good = sym c.good_name.ensures ∙ c.if-not-good_name.false in
    let found = find-wholes c.args.live.now c.args.map.now c.args.name.now ∙ sym c.find.ensures.found in
    let parent = find-wholes c.args.live.now c.args.map.now c.args.parent.now ∙ sym c.find-2.ensures.found ∙ c.in-None.is in
    orphan ws c.args.name.now c.args.parent.now good (ap is_some found ∙ sym c.is_some.ensures ∙ c.if-is_some.false) parent

pub returns-then-depth_at-lt-MOST_LEVELS-clause-found : goal.returns-then-depth_at-lt-MOST_LEVELS-clause-found
returns-then-depth_at-lt-MOST_LEVELS-clause-found c = find-wholes c.args.live.now c.args.map.now c.args.parent.now ∙ sym c.find-2.ensures.found ∙ c.in-Some.is

pub returns-then-depth_at-lt-MOST_LEVELS-clause-absent : goal.returns-then-depth_at-lt-MOST_LEVELS-clause-absent
returns-then-depth_at-lt-MOST_LEVELS-clause-absent c =
    let found = find-wholes c.args.live.now c.args.map.now c.args.name.now ∙ sym c.find.ensures.found in
    none_found _ (ap is_some found ∙ sym c.is_some.ensures ∙ c.if-is_some.false)

pub returns-then-depth_at-lt-MOST_LEVELS-clause-passed : goal.returns-then-depth_at-lt-MOST_LEVELS-clause-passed
returns-then-depth_at-lt-MOST_LEVELS-clause-passed c =
    let ws = wholes c.args.live.now c.args.map.now in
    let good = sym c.good_name.ensures ∙ c.if-not-good_name.false in
    let found = find-wholes c.args.live.now c.args.map.now c.args.name.now ∙ sym c.find.ensures.found in
    let parent = find-wholes c.args.live.now c.args.map.now c.args.parent.now ∙ sym c.find-2.ensures.found ∙ c.in-Some.is in
    let same = length-wholes c.args.live.now c.args.map.now in
    let count = c.len.ensures in
    let few = c.if-len-lt-MOST_WORKSPACES.true in
    fits ws c.args.name.now c.args.parent.now good (ap is_some found ∙ sym c.is_some.ensures ∙ c.if-is_some.false) c.in-Some.above parent
    (omega (arith, same, count, few)) (subst (λ n. n < MOST_LEVELS) c.depth_at.ensures c.if-depth_at-lt-MOST_LEVELS.true)

pub returns-else-len-lt-MOST_WORKSPACES-clause-refused : goal.returns-else-len-lt-MOST_WORKSPACES-clause-refused
returns-else-len-lt-MOST_WORKSPACES-clause-refused c =
    let ws = wholes c.args.live.now c.args.map.now in
    let good = sym c.good_name.ensures ∙ c.if-not-good_name.false in
    let found = find-wholes c.args.live.now c.args.map.now c.args.name.now ∙ sym c.find.ensures.found in
    let parent = find-wholes c.args.live.now c.args.map.now c.args.parent.now ∙ sym c.find-2.ensures.found ∙ c.in-Some.is in
    let none = ap is_some found ∙ sym c.is_some.ensures ∙ c.if-is_some.false in
    let same = length-wholes c.args.live.now c.args.map.now in
    let count = c.len.ensures in
    elim c.else-len-lt-MOST_WORKSPACES.branch [
      | else-len-lt-MOST_WORKSPACES-via-then-len-lt-MOST_WORKSPACES+else-depth_at-lt-MOST_LEVELS w ↦
          too_deep ws c.args.name.now c.args.parent.now good none c.in-Some.above parent
          (subst (λ n. MOST_LEVELS ≤ n) w.depth_at.ensures w.if-depth_at-lt-MOST_LEVELS.false)
      | else-len-lt-MOST_WORKSPACES-via-else-len-lt-MOST_WORKSPACES w ↦
          too_many ws c.args.name.now c.args.parent.now good none c.in-Some.above parent (let many = w.if-len-lt-MOST_WORKSPACES.false in
          omega (arith, same, count, many))
    ]
