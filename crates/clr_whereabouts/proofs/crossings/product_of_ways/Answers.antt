use Rattle.std.proofs.Common.{◌≡◌, ◌≤◌, ◌*ℤ◌, ◌-ℤ◌, ℤ, ◌∙◌, ap₂, unsigned_abs}
use Rattle.clr_segments.specs.Sizes.{greatest_difference}
use Rattle.clr_segments.proofs.Words64.{difference_is}
use Rattle.clr_phrases.proofs.Words128.{difference_fits, minus_fits, minus_kept, two_words, word_value}
use Rattle.clr_whereabouts.proofs.crossings.product_of_ways.Goals as goal

pub overflow_sub-result : goal.overflow_sub-result
overflow_sub-result c = minus_fits c.product.result c.product-2.result c.product.ensures.bound c.product-2.ensures.bound

pub returns : goal.returns
returns c =
    let in_a = c.requires.a_in in
    let in_b = c.requires.b_in in
    let in_c = c.requires.c_in in
    let in_d = c.requires.d_in in
    let a = c.args.a in
    let b = c.args.b in
    let d = c.args.d in
    let times : (x y : ℤ) → unsigned_abs x ≤ greatest_difference → unsigned_abs y ≤ greatest_difference → word_value x *ℤ word_value y ≡ x *ℤ y =
    λ x y h k. two_words (λ (m n : ℤ). m *ℤ n) x y (difference_fits x h) (difference_fits y k) in
    let first =
    c.product.ensures.value ∙ times c.way.result c.way-2.result c.way.ensures.bound c.way-2.ensures.bound
    ∙ ap₂ (λ (m n : ℤ). m *ℤ n)
    (difference_is b.x a.x c.way.result in_b.in_x in_a.in_x c.way.ensures.value)
    (difference_is d.y c.args.c.y c.way-2.result in_d.in_y in_c.in_y c.way-2.ensures.value) in
    let second =
    c.product-2.ensures.value ∙ times c.way-3.result c.way-4.result c.way-3.ensures.bound c.way-4.ensures.bound
    ∙ ap₂ (λ (m n : ℤ). m *ℤ n)
    (difference_is b.y a.y c.way-3.result in_b.in_y in_a.in_y c.way-3.ensures.value)
    (difference_is d.x c.args.c.x c.way-4.result in_d.in_x in_c.in_x c.way-4.ensures.value) in
    let kept = minus_kept c.product.result c.product-2.result c.product.ensures.bound c.product-2.ensures.bound in
    record { value = kept.0 ∙ ap₂ (λ (m n : ℤ). m -ℤ n) first second; bound = kept.1 }
