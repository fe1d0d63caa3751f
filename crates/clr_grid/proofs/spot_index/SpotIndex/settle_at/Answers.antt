use Rattle.std.specs.Option.{option_copied}
use Rattle.clr_grid.proofs.IndexLemmas.{filed_settled, others_settled}
use Rattle.clr_grid.proofs.spot_index.SpotIndex.settle_at.Goals as goal

pub invariant_of-self : goal.invariant_of-self
invariant_of-self c = record {
  filed = filed_settled c.self.inside.rows c.settle_at-before.new.self c.args.cell (option_copied c.settled_row.result) c.self.inside.rules.items
      c.unfile_row.new.rules.items
      c.self.invariant.filed c.unfile_row.ensures.kept c.settle_at-before.ensures.after c.settled_row.ensures;
  others = others_settled c.self.inside.rows c.settle_at-before.new.self c.args.cell c.settle_at-before.result (option_copied c.settled_row.result)
      c.self.inside.rules.items c.unfile_row.new.rules.items
      c.self.invariant.others c.unfile_row.ensures.fewer c.unfile_row.ensures.gone c.settle_at-before.ensures.before c.settle_at-before.ensures.after
      c.settled_row.ensures;
  lean = c.unfile_row.ensures.lean c.self.invariant.lean;
}
