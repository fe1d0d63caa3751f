use Rattle.std.proofs.Common.{◌∙◌, ◌+◌, ◌++◌, ap, drop, inl, inr, refl, sym}
use Rattle.std.proofs.lemmas.Option.{slice_get-get_or}
use Rattle.clr_order_answers.specs.Pairs.{are_served}
use Rattle.clr_order_answers.proofs.Choices.{both_served}
use Rattle.clr_order_answers.proofs.pairs.keep_needed.Goals as goal

pub returns-then-are_served_without : goal.returns-then-are_served_without
returns-then-are_served_without c =
    let rest = drop (c.args.at + 1) c.args.pairs.now in
    let needs = c.args.needs.now in
    inl (
      ap (λ ks. are_served (ks ++ rest) needs) (sym c.as_slice.ensures.value) ∙ sym (both_served c.as_slice.result.now rest needs)
          ∙ sym c.are_served_without.ensures ∙ c.if-are_served_without.true,
      refl,
    )

pub returns : goal.returns
returns c =
    let rest = drop (c.args.at + 1) c.args.pairs.now in
    let needs = c.args.needs.now in
    inr (
      _,
      slice_get-get_or c.args.pairs.now c.args.at _ c.requires,
      ap (λ ks. are_served (ks ++ rest) needs) (sym c.as_slice.ensures.value) ∙ sym (both_served c.as_slice.result.now rest needs)
          ∙ sym c.are_served_without.ensures ∙ c.if-are_served_without.false,
      c.in_ok-push.ensures.items,
    )
