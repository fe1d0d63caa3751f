use Rattle.std.proofs.Common.{◌≡◌, ◌≤◌, None, List, length, subst, arith}
use Rattle.clr_rules.specs.declared.limits.TheConstants.{MOST_RULES}
use Rattle.clr_rules.specs.declared.rules.Rule.{Rule}
use Rattle.clr_rules.specs.Books.{first_fault}
use Rattle.clr_rules.proofs.FittingLemmas.{book_within}
use Rattle.clr_rules.proofs.books.RuleBook.new.Goals as goal

pub invariant_of-result : goal.invariant_of-result
invariant_of-result c =
    let few : length c.args.rules.items ≤ MOST_RULES = omega arith in
    let none = subst (λ (rules : List Rule). first_fault c.args.schema.now 0 rules ≡ None) c.as_slice.ensures.value c.in-Ok.ensures in
    book_within c.args.schema.now c.args.rules.items few none
