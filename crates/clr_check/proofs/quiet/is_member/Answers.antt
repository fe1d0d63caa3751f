use Rattle.std.proofs.Common.{◌∙◌, ap, refl, sym}
use Rattle.std.specs.Prelude.{slice_get}
use Rattle.std.specs.Str.{bytes_eq}
use Rattle.std.proofs.lemmas.Option.{slice_get_read}
use Rattle.clr_merge_sets.proofs.RepeatLemmas.{found_in, not_earlier}
use Rattle.clr_check.proofs.quiet.is_member.Goals as goal

pub returns-then-eq : goal.returns-then-eq
returns-then-eq c =
    let items = c.as_slice-member-items.result.now in
    let k = c.loop-member.member-index in
    let at = slice_get_read items _ k c.member-item.result refl c.loop-member-test.true c.member-item.is in
    found_in c.args.certificate.now.members k c.member-item.result c.args.name.now (ap (λ names. slice_get names k) (sym c.as_slice-member-items.ensures) ∙ at)
    (ap (λ name. bytes_eq name c.args.name.now) (sym c.as_str.ensures) ∙ sym c.eq.ensures ∙ c.if-eq.true)

pub loop-member-preserved : goal.loop-member-preserved
loop-member-preserved c =
    let items = c.as_slice-member-items.result.now in
    let k = c.loop-member.member-index in
    not_earlier items k c.member-item.result c.args.name.now (slice_get_read items _ k c.member-item.result refl c.loop-member-test.true c.member-item.is)
    (ap (λ name. bytes_eq name c.args.name.now) (sym c.as_str.ensures) ∙ sym c.eq.ensures ∙ c.if-eq.false) c.loop-member.invariant
