use Rattle.std.proofs.Common.{◌∙◌, arith, sym}
use Rattle.clr_steps.specs.Names.{same_name}
use Rattle.clr_clearance.proofs.ClearLemmas.{all_differ}
use Rattle.clr_merge_sets.proofs.NameLemmas.{one_fails}
use Rattle.clr_merge_sets.proofs.PrecedenceLemmas.{found_position, no_position, unlike_text}
use Rattle.clr_merge_sets.proofs.precedence_pairs.position_of.Goals as goal

pub returns-then-eq : goal.returns-then-eq
returns-then-eq c =
    let names = c.args.members.now in
    found_position names (all_differ names c.requires) c.loop-position.position c.name_at.result.now c.args.name.now c.name_at.ensures
    (sym c.eq.ensures ∙ c.if-eq.true)

pub loop-position-preserved : goal.loop-position-preserved
loop-position-preserved c =
    let name = c.args.name.now in
    one_fails (λ n. same_name n name) c.args.members.now c.loop-position.position c.name_at.result.now c.name_at.ensures
    (unlike_text c.name_at.result.now name (sym c.eq.ensures ∙ c.if-eq.false)) c.loop-position.invariant

pub returns : goal.returns
returns c = no_position c.args.members.now c.loop-position.position c.args.name.now (omega arith) c.loop-position.invariant
