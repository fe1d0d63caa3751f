use Rattle.std.proofs.Common.{◌++◌, ap, ◌∙◌, codes}
use Rattle.clr_geojson.specs.Collections.{collection_text, without_comma}
use Rattle.clr_geojson.proofs.Begun.{last_comma_goes}
use Rattle.clr_geojson.proofs.collections.end_collection.Goals as goal

pub returns : goal.returns
unfolding collection_text
returns c system features begun =
    c.in_ok-extend_from_slice.ensures.items
    ∙ ap (λ t. t ++ codes "\n]}\n") (c.drop_comma.ensures ∙ ap without_comma begun ∙ last_comma_goes system features)
