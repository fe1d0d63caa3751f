use Rattle.std.proofs.Common.{◌≡◌, ◌∙◌, ap, arith, length, not, sym}
use Rattle.std.proofs.lemmas.List.{length-map}
use Rattle.clr_cert.specs.declared.certificates.Precedence.{Precedence}
use Rattle.clr_steps.specs.Names.{same_name}
use Rattle.clr_ordered_needs.specs.Turns.{is_earlier}
use Rattle.clr_merge_sets.specs.Certificates.{pairs_in}
use Rattle.clr_merge_sets.proofs.NameLemmas.{first_passes, none_passes, one_fails}
use Rattle.clr_merge_sets.proofs.PrecedenceLemmas.{pair_at}
use Rattle.clr_merge_sets.proofs.certificate_faults.first_misplaced.Goals as goal

pub returns-then-not-is_well_placed : goal.returns-then-not-is_well_placed
returns-then-not-is_well_placed c =
    let names = c.args.members.now in
    let before = c.args.before.now in
    let k = c.loop-position.position in
    let p = c.index-before-position.result in
    first_passes (λ q. not (is_earlier same_name names q.0 q.1)) (pairs_in before) k (p.earlier, p.later)
    (pair_at before k p c.loop-position-test.true c.index-before-position.is) (ap not (sym c.is_well_placed.ensures ∙ c.if-not-is_well_placed.true))
    c.loop-position.invariant

pub loop-position-preserved : goal.loop-position-preserved
loop-position-preserved c =
    let names = c.args.members.now in
    let before = c.args.before.now in
    let k = c.loop-position.position in
    let p = c.index-before-position.result in
    one_fails (λ q. not (is_earlier same_name names q.0 q.1)) (pairs_in before) k (p.earlier, p.later)
    (pair_at before k p c.loop-position-test.true c.index-before-position.is) (ap not (sym c.is_well_placed.ensures ∙ c.if-not-is_well_placed.false))
    c.loop-position.invariant

pub returns : goal.returns
returns c =
    let before = c.args.before.now in
    let long : length (pairs_in before) ≡ length before = length-map before (λ (p : Precedence). (p.earlier, p.later)) in
    none_passes (λ q. not (is_earlier same_name c.args.members.now q.0 q.1)) (pairs_in before) c.loop-position.position (omega (arith, long))
    c.loop-position.invariant
