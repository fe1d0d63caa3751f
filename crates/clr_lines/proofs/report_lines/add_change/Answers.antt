use Rattle.std.proofs.Common.{rules, ◌≡◌, ◌++◌, codes}
use Rattle.clr_lines.specs.Pieces.{cell_text}
use Rattle.clr_lines.specs.Reports.{verb_name}
use Rattle.clr_rows.proofs.BeginningLaws.{begun_before, begun_behind}
use Rattle.clr_lines.proofs.report_lines.add_change.Goals as goal

pub returns-in_err-add_cell-clause-begun : goal.returns-in_err-add_cell-clause-begun
returns-in_err-add_cell-clause-begun c =
    let old = c.args.lines.now.items in
    let verb = verb_name c.args.change.now.before c.args.change.now.after in
    let cell = cell_text c.args.schema.now c.args.cell in
    let mid = c.extend_from_slice.new.self.items in
    let is : mid ≡ old ++ verb = search rules in
    begun_before old (verb ++ cell) (codes "\n") _ (begun_behind old verb cell mid _ is c.in_err-add_cell.ensures.begun)
