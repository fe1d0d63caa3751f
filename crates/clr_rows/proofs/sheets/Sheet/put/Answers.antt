use Rattle.std.proofs.Common.{◌≡◌, true, sym, ◌∙◌, ap, subst}
use Rattle.std.proofs.lemmas.Bool.{false≢true}
use Rattle.std.specs.FinMap as finite
use Rattle.std.specs.Option.{IsSome}
use Rattle.clr_rows.specs.Cells.{cell_cmp}
use Rattle.clr_rows.specs.Contents.{Content, row_at}
use Rattle.clr_rows.specs.Ranges.{AreWithin, is_within}
use Rattle.clr_rows.proofs.CellOrder.{cell_cmp_total, cell_cmp_exact}
use Rattle.clr_rows.proofs.SortedMaps.{get_sorted, one_put, sorted_from_ordered}
use Rattle.clr_rows.proofs.FitLemmas.{put_keeps}
use Rattle.clr_rows.proofs.sheets.Sheet.put.Goals as goal

pub returns-in_err-before-clause-held : goal.returns-in_err-before-clause-held
returns-in_err-before-clause-held c =
    let none = ap (λ m. row_at m c.args.cell) (sym c.self.view_is) ∙ get_sorted cell_cmp c.self.inside.rows.entries c.args.cell c.self.invariant.ascending
    ∙ c.in_err-before.ensures.absent in
    λ some. absurd (false≢true (subst IsSome none some))

pub invariant_of-self-2 : goal.invariant_of-self-2
invariant_of-self-2 c =
    let es = c.self.inside.rows.entries in
    let fs = c.insert.new.self.entries in
    let ascending = sorted_from_ordered cell_cmp fs c.in_ok-before.ensures.ordered in
    let put = one_put cell_cmp_total cell_cmp_exact es fs c.args.cell c.args.row c.self.invariant.ascending ascending c.in_ok-before.ensures.updates.0 in
    record {
      ascending = ascending;
      within = subst AreWithin (sym put) (put_keeps (λ c r. is_within c r ≡ true) _ c.args.cell c.args.row c.self.invariant.within
          c.read_row.ensures);
    }

pub returns-clause-before : goal.returns-clause-before
returns-clause-before c = c.in_ok-before.ensures.old ∙ sym (get_sorted cell_cmp c.self.inside.rows.entries c.args.cell c.self.invariant.ascending)
    ∙ ap (λ m. row_at m c.args.cell) c.self.view_is

pub returns-clause-ok : goal.returns-clause-ok
returns-clause-ok c =
    one_put cell_cmp_total cell_cmp_exact c.self.inside.rows.entries c.insert.new.self.entries c.args.cell c.args.row c.self.invariant.ascending
    (sorted_from_ordered cell_cmp _ c.in_ok-before.ensures.ordered) c.in_ok-before.ensures.updates.0
    ∙ ap (λ (m : Content). finite.insert m c.args.cell c.args.row) c.self.view_is
