use Rattle.clr_rules.proofs.FittingLemmas.{first_sound, second_sound, third_if_any}
use Rattle.clr_rules.proofs.books.RuleBook.serves.Goals as goal

pub is_server-requires-clause-first : goal.is_server-requires-clause-first
is_server-requires-clause-first c = first_sound _ _ _ c.requires.fit

pub is_server-requires-clause-second : goal.is_server-requires-clause-second
is_server-requires-clause-second c = third_if_any _ _ _ c.args.second c.requires.fit

pub is_server-requires-clause-server : goal.is_server-requires-clause-server
is_server-requires-clause-server c = second_sound _ _ _ _ c.requires.fit
