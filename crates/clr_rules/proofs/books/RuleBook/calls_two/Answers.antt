use Rattle.clr_rules.proofs.FittingLemmas.{first_sound, second_sound, distance_fits}
use Rattle.clr_rules.proofs.books.RuleBook.calls_two.Goals as goal

pub are_subjects-requires-clause-distance : goal.are_subjects-requires-clause-distance
are_subjects-requires-clause-distance c = distance_fits c.args.self.now _ c.args.ask.rule _ c.requires.fit c.rule.ensures

pub are_subjects-requires-clause-first : goal.are_subjects-requires-clause-first
are_subjects-requires-clause-first c = first_sound _ _ _ c.requires.fit

pub are_subjects-requires-clause-second : goal.are_subjects-requires-clause-second
are_subjects-requires-clause-second c = second_sound _ _ _ _ c.requires.fit
