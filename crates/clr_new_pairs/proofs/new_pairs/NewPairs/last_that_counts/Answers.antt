use Rattle.std.proofs.Common.{◌-◌, length}
use Rattle.clr_new_pairs.proofs.NewPairLaws.{break_told}
use Rattle.clr_new_pairs.proofs.new_pairs.NewPairs.last_that_counts.Goals as goal

pub returns-then-is_of_two_new : goal.returns-then-is_of_two_new
returns-then-is_of_two_new g c =
    break_told c.args.self.now.versions.book.now c.args.leaves_out c.args.rule c.args.needs.now (length c.args.needs.now - 1) c.in_ok-need.need
    c.is_unserved_by_number.result
    c.is_of_two_new.result c.if-not-leaves_out.false
    c.is_unserved_by_number.ensures c.if-not-is_unserved_by_number.false c.in_ok-need.ensures c.is_of_two_new.ensures c.if-is_of_two_new.true
