use Rattle.std.proofs.Common.{◌≤◌, ◌≤ℤ◌, ◌*ℤ◌, ◌+ℤ◌, ℤ, pos, ◌∙◌, ap₂, arith, unsigned_abs, to_z-of_z}
use Rattle.std.proofs.lemmas.Int.{ints}
use Rattle.clr_segments.specs.declared.limits.TheConstants.{GREATEST_DISTANCE}
use Rattle.clr_segments.specs.Sizes.{greatest_difference}
use Rattle.clr_segments.specs.Turns.{squared_distance}
use Rattle.clr_segments.proofs.Words64.{word_value, plus_fits, plus_in_word, product_is, product_fits, difference_is, difference_fits, less_by}
use Rattle.clr_segments.proofs.points.near.Goals as goal

distance_bound : (d : ℤ) → pos 1 ≤ℤ d → d ≤ℤ GREATEST_DISTANCE → unsigned_abs d ≤ greatest_difference
distance_bound d h k = omega (arith, ints)

distance_in_word : (d : ℤ) → pos 1 ≤ℤ d → d ≤ℤ GREATEST_DISTANCE → unsigned_abs (word_value d) ≤ greatest_difference
distance_in_word d h k = rw (to_z-of_z (difference_fits d (distance_bound d h k))) (distance_bound d h k)

pub overflow_add-result : goal.overflow_add-result
overflow_add-result c = plus_fits c.product.result c.product-2.result c.product.ensures.bound c.product-2.ensures.bound

pub product-requires-3-clause-m_in : goal.product-requires-3-clause-m_in
product-requires-3-clause-m_in c = distance_in_word c.args.d c.requires.d_least c.requires.d_most

pub product-requires-3-clause-n_in : goal.product-requires-3-clause-n_in
product-requires-3-clause-n_in c = distance_in_word c.args.d c.requires.d_least c.requires.d_most

pub returns : goal.returns
returns c =
    let in_p = c.requires.p_in in
    let in_q = c.requires.q_in in
    let d = c.args.d in
    let x = c.difference-x in
    let y = c.difference-y in
    let x_is = difference_is c.args.q.x c.args.p.x x.result in_q.in_x in_p.in_x x.ensures.value in
    let y_is = difference_is c.args.q.y c.args.p.y y.result in_q.in_y in_p.in_y y.ensures.value in
    let d_bound = distance_bound d c.requires.d_least c.requires.d_most in
    let squares =
    ap₂ (λ (m n : ℤ). m +ℤ n)
    (product_is x.result x.result c.product.result x.ensures.bound x.ensures.bound c.product.ensures.value ∙ ap₂ (λ (m n : ℤ). m *ℤ n) x_is x_is)
    (product_is y.result y.result c.product-2.result y.ensures.bound y.ensures.bound c.product-2.ensures.value ∙ ap₂ (λ (m n : ℤ). m *ℤ n) y_is y_is) in
    less_by _ _ (squared_distance c.args.p c.args.q) (d *ℤ d)
    (plus_in_word c.product.result c.product-2.result c.product.ensures.bound c.product-2.ensures.bound ∙ squares)
    (to_z-of_z (product_fits c.product-3.result c.product-3.ensures.bound) ∙ product_is d d c.product-3.result d_bound d_bound c.product-3.ensures.value)
