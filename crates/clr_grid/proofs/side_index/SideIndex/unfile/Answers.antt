use Rattle.std.proofs.Common.{◌∙◌, ap, not, ◌&&◌, Bool}
use Rattle.std.specs.List.{list_any}
use Rattle.clr_grid.specs.SpotNumbers.{has_number}
use Rattle.std.specs.Option.{option_copied}
use Rattle.clr_grid.specs.CellSets.{is_one}
use Rattle.clr_grid.proofs.FilingLemmas.{gone_by, kept_by, stays_by}
use Rattle.clr_grid.proofs.side_index.SideIndex.unfile.Goals as goal

pub returns-clause-kept : goal.returns-clause-kept
returns-clause-kept c = stays_by c.args.self.now (record { by_spot = c.take_at_each.new.by_spot; wide = c.remove_if.new.self }) c.args.cell
    (option_copied c.args.kept)
    (λ q p. c.remove_if.ensures.kept q (ap (λ (b : Bool). is_one c.args.cell q && not b) c.keeps_wide.ensures ∙ p))
    c.take_at_each.ensures.kept

pub returns-clause-fewer : goal.returns-clause-fewer
returns-clause-fewer c = kept_by (record { by_spot = c.take_at_each.new.by_spot; wide = c.remove_if.new.self }) c.args.self.now
    c.remove_if.ensures.fewer c.take_at_each.ensures.fewer

pub returns-clause-gone : goal.returns-clause-gone
returns-clause-gone c =
    gone_by (record { by_spot = c.take_at_each.new.by_spot; wide = c.remove_if.new.self }) c.args.spots.now c.args.cell (option_copied c.args.kept)
    (λ p. c.remove_if.ensures.gone (ap not c.keeps_wide.ensures ∙ p))
    (λ y among. c.take_at_each.ensures.gone y (ap (list_any (has_number y)) c.as_slice.ensures ∙ among))
