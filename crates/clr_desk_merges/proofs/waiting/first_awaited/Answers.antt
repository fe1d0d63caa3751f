use Rattle.std.proofs.Common.{◌≡◌, ◌∙◌, Some, ap, get_or, map, sym}
use Rattle.std.specs.Prelude.{find}
use Rattle.clr_merge_sets.specs.Certificates.{ordered_merge_set_of}
use Rattle.clr_desk_merges.specs.Waiting.{is_awaited}
use Rattle.clr_desk_merges.proofs.WaitingLemmas.{first_passes, none_passes, one_more_fails}
use Rattle.clr_desk_merges.proofs.waiting.first_awaited.Goals as goal

pub returns-then-is_awaited : goal.returns-then-is_awaited
returns-then-is_awaited c =
    let waits = is_awaited (ordered_merge_set_of c.args.certificate.now) (map (λ other. other.now) c.args.done.now) c.args.name.now in
    let items = c.as_slice-member-items.result.now in
    let k = c.loop-member.member-index in
    let d = c.member-item.result in
    let read : c.as_str.result.now ≡ get_or items k d = c.as_str.ensures ∙ c.member-item.is in
    ap Some (c.as_str-then-is_awaited.ensures ∙ c.member-item.is)
    ∙ sym (first_passes waits items k d c.loop-member-test.true (ap waits (sym read) ∙ sym c.is_awaited.ensures ∙ c.if-is_awaited.true) c.loop-member.invariant)
    ∙ ap (find waits) c.as_slice-member-items.ensures

pub loop-member-preserved : goal.loop-member-preserved
loop-member-preserved c =
    let waits = is_awaited (ordered_merge_set_of c.args.certificate.now) (map (λ other. other.now) c.args.done.now) c.args.name.now in
    let items = c.as_slice-member-items.result.now in
    let k = c.loop-member.member-index in
    let d = c.member-item.result in
    let read : c.as_str.result.now ≡ get_or items k d = c.as_str.ensures ∙ c.member-item.is in
    one_more_fails waits items k d c.loop-member-test.true (ap waits (sym read) ∙ sym c.is_awaited.ensures ∙ c.if-is_awaited.false) c.loop-member.invariant

pub returns : goal.returns
returns c =
    let waits = is_awaited (ordered_merge_set_of c.args.certificate.now) (map (λ other. other.now) c.args.done.now) c.args.name.now in
    sym (none_passes waits c.as_slice-member-items.result.now c.loop-member.member-index c.loop-member-test.false c.loop-member.invariant)
    ∙ ap (find waits) c.as_slice-member-items.ensures
