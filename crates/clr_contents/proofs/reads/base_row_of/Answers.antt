use Rattle.std.proofs.Common.{ap, sym, ◌∙◌}
use Rattle.std.specs.FinMap as finite
use Rattle.std.specs.Option.{option_copied}
use Rattle.clr_deltas.specs.Differences.{Differences}
use Rattle.clr_contents.proofs.ReadLemmas.{found_base, none_base}
use Rattle.clr_contents.proofs.reads.base_row_of.Goals as goal

pub returns-in-Some : goal.returns-in-Some
returns-in-Some c =
    let found = ap (λ (d : Differences). finite.get d c.args.cell) (sym c.base.ensures) ∙ sym c.get.ensures ∙ ap option_copied c.in-Some.is in
    c.as_ref.ensures.value ∙ found_base c.args.live.now c.args.map.now c.args.at c.args.cell _ c.requires.rooted c.requires.child c.requires.within found

pub returns : goal.returns
returns c =
    let none = ap (λ (d : Differences). finite.get d c.args.cell) (sym c.base.ensures) ∙ sym c.get.ensures ∙ ap option_copied c.in_default.is in
    c.row_of.ensures ∙ none_base c.args.live.now c.args.map.now c.args.at c.requires.child c.requires.within _ c.parent_of.ensures.found
    c.parent_of.ensures.earlier c.args.cell none
