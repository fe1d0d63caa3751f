use Rattle.std.proofs.Common.{◌*ℤ◌, ◌-ℤ◌, ℤ, ◌∙◌, ap₂}
use Rattle.clr_segments.proofs.Words64.{minus_fits, minus_in_word, product_is, difference_is}
use Rattle.clr_segments.proofs.sides.doubled_area.Goals as goal

pub overflow_sub-result : goal.overflow_sub-result
overflow_sub-result c = minus_fits c.product.result c.product-2.result c.product.ensures.bound c.product-2.ensures.bound

pub returns : goal.returns
returns c =
    let a = c.args.a in
    let b = c.args.b in
    let in_a = c.requires.a_in in
    let in_b = c.requires.b_in in
    let in_c = c.requires.c_in in
    let ux = c.difference in
    let wy = c.difference-2 in
    let uy = c.difference-3 in
    let wx = c.difference-4 in
    let first =
    product_is ux.result wy.result c.product.result ux.ensures.bound wy.ensures.bound c.product.ensures.value
    ∙ ap₂ (λ (m n : ℤ). m *ℤ n)
    (difference_is b.x a.x ux.result in_b.in_x in_a.in_x ux.ensures.value)
    (difference_is c.args.c.y a.y wy.result in_c.in_y in_a.in_y wy.ensures.value) in
    let second =
    product_is uy.result wx.result c.product-2.result uy.ensures.bound wx.ensures.bound c.product-2.ensures.value
    ∙ ap₂ (λ (m n : ℤ). m *ℤ n)
    (difference_is b.y a.y uy.result in_b.in_y in_a.in_y uy.ensures.value)
    (difference_is c.args.c.x a.x wx.result in_c.in_x in_a.in_x wx.ensures.value) in
    minus_in_word c.product.result c.product-2.result c.product.ensures.bound c.product-2.ensures.bound ∙ ap₂ (λ (m n : ℤ). m -ℤ n) first second
