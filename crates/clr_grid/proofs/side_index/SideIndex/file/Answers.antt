use Rattle.std.proofs.Common.{inl, inr, ◌∙◌, ap, sym}
use Rattle.std.specs.List.{list_any}
use Rattle.clr_grid.specs.SpotNumbers.{has_number}
use Rattle.clr_grid.proofs.FilingLemmas.{kept_by, filed_by, only_by}
use Rattle.clr_grid.proofs.side_index.SideIndex.file.Goals as goal

pub returns-clause-kept : goal.returns-clause-kept
returns-clause-kept c =
    kept_by c.args.self.now (record { by_spot = c.file_at_each.new.by_spot; wide = c.add_if.new.self }) c.in_ok-add_if.ensures.kept
    c.in_ok-file_at_each.ensures.kept

pub returns-clause-filed : goal.returns-clause-filed
returns-clause-filed c = filed_by (record { by_spot = c.file_at_each.new.by_spot; wide = c.add_if.new.self }) c.args.spots.now c.args.cell
    c.in_ok-add_if.ensures.added
    (λ y e. c.in_ok-file_at_each.ensures.filed y (ap (list_any (has_number y)) c.as_slice.ensures ∙ e))

pub returns-in_err-add_if-clause-kept : goal.returns-in_err-add_if-clause-kept
returns-in_err-add_if-clause-kept c =
    kept_by c.args.self.now (record { by_spot = c.args.self.now.by_spot; wide = c.add_if.new.self }) c.in_err-add_if.ensures.kept (λ x q e. e)

pub returns-in_err-file_at_each-clause-kept : goal.returns-in_err-file_at_each-clause-kept
returns-in_err-file_at_each-clause-kept c =
    kept_by c.args.self.now (record { by_spot = c.file_at_each.new.by_spot; wide = c.add_if.new.self }) c.in_ok-add_if.ensures.kept
    c.in_err-file_at_each.ensures.kept

pub returns-clause-only : goal.returns-clause-only
returns-clause-only c =
    only_by c.args.self.now (record { by_spot = c.file_at_each.new.by_spot; wide = c.add_if.new.self }) c.args.spots.now c.args.cell c.in_ok-add_if.ensures.only
    (λ y q e. elim (c.in_ok-file_at_each.ensures.only y q e) [
      | inl old ↦ inl old
      | inr new ↦
          inr (new.0, sym (ap (list_any (has_number y)) c.as_slice.ensures) ∙ new.1)
    ])

pub returns-in_err-add_if-clause-only : goal.returns-in_err-add_if-clause-only
returns-in_err-add_if-clause-only c =
    only_by c.args.self.now (record { by_spot = c.args.self.now.by_spot; wide = c.add_if.new.self }) c.args.spots.now c.args.cell c.in_err-add_if.ensures.only
    (λ y q e. inl e)

pub returns-in_err-file_at_each-clause-only : goal.returns-in_err-file_at_each-clause-only
returns-in_err-file_at_each-clause-only c =
    only_by c.args.self.now (record { by_spot = c.file_at_each.new.by_spot; wide = c.add_if.new.self }) c.args.spots.now c.args.cell c.in_ok-add_if.ensures.only
    (λ y q e. elim (c.in_err-file_at_each.ensures.only y q e) [
      | inl old ↦ inl old
      | inr new ↦
          inr (new.0, sym (ap (list_any (has_number y)) c.as_slice.ensures) ∙ new.1)
    ])
