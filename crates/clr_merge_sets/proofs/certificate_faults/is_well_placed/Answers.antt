use Rattle.clr_clearance.proofs.ClearLemmas.{all_differ}
use Rattle.clr_merge_sets.proofs.PrecedenceLemmas.{no_pair, rising_pair}
use Rattle.clr_merge_sets.proofs.certificate_faults.is_well_placed.Goals as goal

pub returns-in-Some : goal.returns-in-Some
returns-in-Some c =
    let names = c.args.members.now in
    let p = c.args.precedence.now in
    rising_pair names (all_differ names c.requires) p.earlier p.later c.in-Some.pair c.in-Some.ensures

pub returns-in-None : goal.returns-in-None
returns-in-None c =
    let names = c.args.members.now in
    let p = c.args.precedence.now in
    no_pair names (all_differ names c.requires) p.earlier p.later c.in-None.ensures
