use borrow.Author.Count.{below_more}
use Rattle.std.proofs.Common.{arith}
use Rattle.clr_row_versions.specs.RootVersions.{setting_in}
use Rattle.clr_needs.specs.Witnesses.{HasPair}
use Rattle.clr_row_versions.proofs.root_versions.RootVersions.first_pair.Goals as goal

pub loop-position-preserved : goal.loop-position-preserved
loop-position-preserved g c =
    below_more (λ x. HasPair (setting_in g.V.RowView.content c.args.self.now) c.args.ids.now x → ⊥) c.loop-position.position c.loop-position.invariant
    c.in_default.ensures

pub returns : goal.returns
returns g c = λ x less. c.loop-position.invariant x (omega arith)
