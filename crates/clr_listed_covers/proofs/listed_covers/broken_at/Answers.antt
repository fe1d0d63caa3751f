use Rattle.std.proofs.Common.{◌∙◌, Some, ap, subst, sym}
use Rattle.std.proofs.lemmas.Option.{slice_get-get_or}
use Rattle.clr_listed_covers.specs.Late.{IsEndOf}
use Rattle.clr_listed_covers.proofs.listed_covers.broken_at.Goals as goal

pub returns : goal.returns
returns c = (
  c.index.result.now,
  slice_get-get_or c.args.found.now.needs.items c.args.at c.index-need.result.now c.requires.needs ∙ ap Some (sym c.index-need.ensures),
  slice_get-get_or c.args.found.now.sides.items c.args.at c.index.result.now c.requires.sides ∙ ap Some (sym c.index.ensures),
  subst (λ members. IsEndOf members c.end_of-count.result) c.as_slice.ensures.value c.end_of-count.ensures,
)
