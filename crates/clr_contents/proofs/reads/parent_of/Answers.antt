use Rattle.std.proofs.Common.{◌<◌, ap, sym, subst, ◌∙◌, is_some}
use Rattle.std.proofs.lemmas.Option.{same_Some}
use Rattle.clr_deltas.specs.Deltas.{find_delta}
use Rattle.clr_contents.proofs.ReadLemmas.{parent_here, parent_delta}
use Rattle.clr_contents.proofs.reads.parent_of.Goals as goal

pub unwrap-requires : goal.unwrap-requires
unwrap-requires c =
    let q = parent_delta c.args.live.now c.args.map.now c.args.at c.requires.rooted c.requires.child c.requires.within in
    ap is_some (c.find.ensures.found ∙ ap (find_delta c.args.map.now) c.parent_name.ensures ∙ q.1)

pub returns-clause-found : goal.returns-clause-found
returns-clause-found c = parent_here c.args.live.now c.args.map.now c.args.at ∙ ap (find_delta c.args.map.now) (sym c.parent_name.ensures)
    ∙ sym c.find.ensures.found ∙ c.unwrap.ensures

pub returns-clause-earlier : goal.returns-clause-earlier
returns-clause-earlier c =
    let q = parent_delta c.args.live.now c.args.map.now c.args.at c.requires.rooted c.requires.child c.requires.within in
    let found = sym q.1 ∙ ap (find_delta c.args.map.now) (sym c.parent_name.ensures) ∙ sym c.find.ensures.found ∙ c.unwrap.ensures in
    subst (λ k. k < c.args.at) (same_Some _ _ found) q.2
