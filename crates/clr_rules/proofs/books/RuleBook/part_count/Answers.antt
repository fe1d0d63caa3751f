use Rattle.std.proofs.Common.{◌∙◌, rules}
use Rattle.clr_rules.specs.Calls.{part_count}
use Rattle.clr_rules.proofs.FittingLemmas.{counted_parts, first_sound}
use Rattle.clr_rules.proofs.books.RuleBook.part_count.Goals as goal

pub returns-in-Crossing : goal.returns-in-Crossing
unfolding part_count
returns-in-Crossing c = let counted = c.parts.ensures ∙ counted_parts _ (first_sound _ _ _ c.requires.fit) in search rules
