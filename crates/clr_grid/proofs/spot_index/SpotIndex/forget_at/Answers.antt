use Rattle.std.specs.Option.{option_copied}
use Rattle.clr_grid.proofs.IndexLemmas.{filed_left, others_left}
use Rattle.clr_grid.proofs.spot_index.SpotIndex.forget_at.Goals as goal

pub invariant_of-self : goal.invariant_of-self
invariant_of-self c = record {
  filed = filed_left c.self.inside.rows c.forget_at-row.new.self c.args.cell (option_copied c.settled_row.result) c.self.inside.rules.items
      c.unfile_row.new.rules.items
      c.self.invariant.filed c.unfile_row.ensures.kept c.forget_at-row.ensures.after c.settled_row.ensures;
  others = others_left c.self.inside.rows c.forget_at-row.new.self c.args.cell c.forget_at-row.result (option_copied c.settled_row.result)
      c.self.inside.rules.items c.unfile_row.new.rules.items
      c.self.invariant.others c.unfile_row.ensures.fewer c.unfile_row.ensures.gone c.forget_at-row.ensures.before c.forget_at-row.ensures.after
      c.settled_row.ensures;
  lean = c.unfile_row.ensures.lean c.self.invariant.lean;
}
