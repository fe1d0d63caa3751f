use Rattle.std.proofs.Common.{◌≡◌, ◌∙◌, ◌+◌, ◌≤◌, ap, arith, cond, get_or, length, refl}
use Rattle.clr_layer_faults.specs.FieldPlaces.{Scan, ends_before, next_scan, seen}
use Rattle.clr_layer_faults.proofs.PlaceLemmas.{begins_here, begins_later, few_ended, scan_more}
use Rattle.clr_layer_faults.proofs.RangeLemmas.{first_from_zero}
use Rattle.clr_layer_faults.proofs.field_places.field_offset.Goals as goal

pub loop-at-init : goal.loop-at-init
loop-at-init c = record {
  scan = refl;
  left = first_from_zero (ends_before c.args.bytes.now c.args.field) (length c.args.bytes.now + 1);
  small = omega arith;
}

pub loop-at-preserved : goal.loop-at-preserved
loop-at-preserved c =
    let bytes = c.args.bytes.now in
    let at = c.loop-at.at in
    let inv = c.loop-at.invariant in
    let ended = c.one_more_if-ended.ensures ∙ ap (λ b. cond b (c.loop-at.ended + 1) c.loop-at.ended) c.behind-next.ensures.ends in
    let next : ◌≡◌ {A = Scan} (seen c.behind-next.result.0, c.one_more_if-ended.result) (next_scan (seen c.loop-at.reading, c.loop-at.ended) (get_or bytes at 0)) =
    (λ i. (c.behind-next.ensures.state i, ended i)) in
    let le : at ≤ length bytes = omega (arith, c.loop-at-test.true) in
    record {
      scan = next ∙ scan_more bytes at (seen c.loop-at.reading, c.loop-at.ended) c.loop-at-test.true inv.scan;
      left = begins_later bytes c.args.field at c.loop-at.ended (seen c.loop-at.reading) inv.scan inv.left le c.if-ended-field.false;
      small = few_ended c.behind-next.result.1 c.loop-at.ended c.one_more_if-ended.result at inv.small c.one_more_if-ended.ensures;
    }

pub returns-then-ended-field-clause-value : goal.returns-then-ended-field-clause-value
returns-then-ended-field-clause-value c =
    let bytes = c.args.bytes.now in
    let inv = c.loop-at.invariant in
    let le : c.loop-at.at ≤ length bytes = omega (arith, c.loop-at-test.true) in
    begins_here bytes c.args.field c.loop-at.at c.loop-at.ended (seen c.loop-at.reading) inv.scan inv.left le c.if-ended-field.true
