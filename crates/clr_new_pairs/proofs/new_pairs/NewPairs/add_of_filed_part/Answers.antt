use Rattle.std.proofs.Common.{◌∙◌, None, sym}
use Rattle.clr_row_versions.specs.Candidates.{IsNeedAmong}
use Rattle.clr_new_pairs.specs.NewPairs.{IsNeedOfFiledPart}
use Rattle.clr_new_pairs.proofs.NewPairLaws.{filed_part_past, gains_up_to, got_in, its_filed_part, no_filed_part}
use Rattle.clr_new_pairs.proofs.new_pairs.NewPairs.add_of_filed_part.Goals as goal

pub returns-in-None : goal.returns-in-None
returns-in-None g c =
    let rules = c.args.self.now.versions.book.now in
    gains_up_to c.args.last (IsNeedAmong rules c.args.rule None c.args.one c.args.fresh.now)
    (IsNeedOfFiledPart rules c.args.rule c.args.fresh.now c.args.one c.args.part c.args.filed_part) c.args.needs.now.items c.args.needs.now.items
    (no_filed_part rules c.args.rule c.args.fresh.now c.args.one c.args.part c.args.filed_part c.args.needs.now.items c.in-None.ensures)

pub returns-then-are_past : goal.returns-then-are_past
returns-then-are_past g c = filed_part_past c.args.self.now.versions.book.now c.args.rule c.args.fresh.now c.args.one c.args.part c.args.last c.args.filed_part
    c.in-Some.other c.args.needs.now.items c.in-Some.ensures (sym c.are_past.ensures ∙ c.if-are_past.true)

pub add_of_parts-requires-clause-other : goal.add_of_parts-requires-clause-other
add_of_parts-requires-clause-other g c = c.requires.fresh c.in-Some.other (got_in c.args.fresh.now c.args.filed_part.position c.in-Some.other c.in-Some.ensures)

pub returns-in_ok-add_of_parts-in-Some : goal.returns-in_ok-add_of_parts-in-Some
returns-in_ok-add_of_parts-in-Some g c =
    let rules = c.args.self.now.versions.book.now in
    gains_up_to c.args.last (IsNeedAmong rules c.args.rule None c.args.one c.args.fresh.now)
    (IsNeedOfFiledPart rules c.args.rule c.args.fresh.now c.args.one c.args.part c.args.filed_part) _ _
    (its_filed_part rules c.args.rule c.args.fresh.now c.args.one c.args.part c.args.filed_part c.in-Some.other _ _ c.in-Some.ensures
    c.in_ok-add_of_parts-in-Some.ensures)
