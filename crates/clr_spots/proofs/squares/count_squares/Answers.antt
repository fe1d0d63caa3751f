use Rattle.std.proofs.Common.{ℕ, ℤ, ◌*◌, ◌∙◌, sym, ap₂}
use Rattle.clr_segments.proofs.Words64.{four_words, difference_fits}
use Rattle.clr_spots.specs.Spots.{span}
use Rattle.clr_spots.proofs.SquareLemmas.{count_of_squares}
use Rattle.clr_spots.proofs.squares.count_squares.Goals as goal

pub returns : goal.returns
returns c =
    let b = c.args.bounds in
    let least = c.requires.least in
    let most = c.requires.most in
    ap₂ (λ (m n : ℕ). m * n) c.span.ensures.value c.span-2.ensures.value
    ∙ four_words (λ (p q r u : ℤ). span p q * span r u) b.least.x b.most.x b.least.y b.most.y (difference_fits _ least.in_x) (difference_fits _ most.in_x)
    (difference_fits _ least.in_y) (difference_fits _ most.in_y)
    ∙ sym (count_of_squares b)
