use Rattle.std.proofs.Common.{◌∙◌, List, ap, subst}
use Rattle.clr_rows.specs.Contents.{Changes}
use Rattle.clr_map_scenes.specs.Designs.{sets_of}
use Rattle.clr_small_maps.specs.SmallMaps.{ShowsLines}
use Rattle.clr_small_maps.proofs.maps.page_of.Goals as goal

pub returns : goal.returns
returns c =
    let same = ap (λ field. sets_of field.designs.now) c.scene_of-scene.ensures in
    record {
      title = c.in_ok-from_slice.ensures.items ∙ c.as_bytes.ensures.value;
      description = c.in_ok-from_slice-2.ensures.items ∙ c.as_bytes-2.ensures.value;
      lines = subst (λ (sets : List Changes). ShowsLines sets c.in_ok-layers.layers.items) same c.in_ok-layers.ensures;
    }
