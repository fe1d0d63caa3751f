use Rattle.clr_hints.proofs.NearestLemmas.{likeness_is}
use Rattle.clr_hints.proofs.names.likeness.Goals as goal

pub returns-clause-value : goal.returns-clause-value
returns-clause-value c = likeness_is c.args.name.now c.args.other.now c.jaro_winkler.result c.jaro_winkler.ensures.same c.jaro_winkler.ensures.value
