use Rattle.std.proofs.Common.{◌∙◌, ap, sym}
use Rattle.clr_small_maps.specs.SmallMaps.{is_any_somewhere}
use Rattle.clr_small_maps.proofs.maps.small_map.Goals as goal

pub returns-then-not-is_any_somewhere : goal.returns-then-not-is_any_somewhere
returns-then-not-is_any_somewhere c =
    record { map = sym (c.is_any_somewhere.ensures ∙ ap is_any_somewhere c.as_slice.ensures.value) ∙ c.if-not-is_any_somewhere.true }

pub returns : goal.returns
returns c =
    record {
      map = (
        sym (c.is_any_somewhere.ensures ∙ ap is_any_somewhere c.as_slice.ensures.value) ∙ c.if-not-is_any_somewhere.false,
        c.in_ok-page.page,
        c.in_ok-page.ensures,
        c.in_ok-text.ensures.written,
      );
    }
