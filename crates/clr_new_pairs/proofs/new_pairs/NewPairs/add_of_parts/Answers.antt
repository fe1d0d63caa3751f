use Rattle.std.proofs.Common.{◌∙◌, refl, sym}
use Rattle.clr_new_pairs.proofs.NewPairLaws.{opposed_parts, parts_in_order, parts_in_turned_order, parts_of_one}
use Rattle.clr_new_pairs.proofs.new_pairs.NewPairs.add_of_parts.Goals as goal

pub returns-then-are_opposed : goal.returns-then-are_opposed
returns-then-are_opposed g c =
    opposed_parts c.args.self.now.versions.book.now c.args.rule c.args.one c.args.part c.args.other c.args.other_part c.args.needs.now.items
    (sym c.are_opposed.ensures
    ∙ c.if-are_opposed.true)

pub returns-in_ok-add_of_ask-in-Less : goal.returns-in_ok-add_of_ask-in-Less
returns-in_ok-add_of_ask-in-Less g c =
    parts_in_order c.args.self.now.versions.book.now c.args.rule c.args.one c.args.part c.args.other c.args.other_part _ _ _ refl (sym c.are_opposed.ensures
    ∙ c.if-are_opposed.false) (sym c.cmp.ensures ∙ c.in-Less.is)
    c.in_ok-add_of_ask-in-Less.ensures.ok

pub returns-in_ok-add_of_ask-in-Greater : goal.returns-in_ok-add_of_ask-in-Greater
returns-in_ok-add_of_ask-in-Greater g c =
    parts_in_turned_order c.args.self.now.versions.book.now c.args.rule c.args.one c.args.part c.args.other c.args.other_part _ _ _ refl
    (sym c.are_opposed.ensures
    ∙ c.if-are_opposed.false) (sym c.cmp.ensures ∙ c.in-Greater.is)
    c.in_ok-add_of_ask-in-Greater.ensures.ok

pub returns-in-Equal : goal.returns-in-Equal
returns-in-Equal g c = parts_of_one c.args.self.now.versions.book.now c.args.rule c.args.one c.args.part c.args.other c.args.other_part c.args.needs.now.items
    (sym c.cmp.ensures ∙ c.in-Equal.is)
