use Rattle.std.proofs.Common.{refl}
use Rattle.clr_finders.specs.Sharing.{rule_spots}
use Rattle.clr_finders.proofs.CountedLists.{counted_more}
use Rattle.clr_finders.proofs.row_spots.RowSpots.new.Goals as goal

pub loop-rule-preserved : goal.loop-rule-preserved
loop-rule-preserved c =
    counted_more (λ n. rule_spots c.args.book.now n (c.args.held.cell, c.args.held.row.now)) c.loop-rule.rule _ c.loop-rule.list.items c.push.new.self.items
    c.in_ok-new.field-0 refl c.loop-rule.invariant c.in_ok-push.ensures.items c.in_ok-new.ensures
