use Rattle.std.proofs.Common.{arith}
use Rattle.clr_records.specs.Writing.{written_by}
use Rattle.clr_skipped_records.proofs.WalkLemmas.{counted_within, walk_begins, walk_ends, walk_goes_on}
use Rattle.clr_skipped_records.proofs.sound_records.add_sound.Goals as goal

pub loop-i-init : goal.loop-i-init
loop-i-init c = record {
  between = c.requires.between;
  small = omega arith;
  written = walk_begins c.args.faults.now c.args.records.now (written_by c.args.writer.now);
}

pub loop-i-preserved : goal.loop-i-preserved
loop-i-preserved c =
    let inv = c.loop-i.invariant in
    record {
      between = c.in_ok-add_unless.ensures.between;
      small = counted_within c.loop-i.next c.one_more_if-next.result c.loop-i.i c.is_of_record-has_fault.result inv.small c.one_more_if-next.ensures;
      written = walk_goes_on c.args.faults.now c.args.records.now _ _ _ c.loop-i.next c.one_more_if-next.result c.loop-i.i c.index-records-i.result
          c.is_of_record-has_fault.result c.loop-i-test.true c.index-records-i.is c.is_of_record-has_fault.ensures c.one_more_if-next.ensures
          c.in_ok-add_unless.ensures.written inv.written;
    }

pub returns-clause-written : goal.returns-clause-written
returns-clause-written c =
    walk_ends c.args.faults.now c.args.records.now _ _ c.loop-i.next c.loop-i.i c.loop-i-test.false c.loop-i.invariant.written
