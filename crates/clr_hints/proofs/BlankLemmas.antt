-- Blank lines, found from the front of a text.
use Rattle.std.proofs.Common.{◌≡◌, ◌∙◌, ℕ, suc, ◌+◌, ◌<◌, Bool, true, false, cond, not, ◌&&◌, ◌||◌, List, [], ◌∷◌}
use Rattle.std.proofs.Common.{drop, filter, length, get_or, refl, ap, arith}
use Rattle.std.proofs.Math.Seq.{drop-cons}
use Rattle.clr_text_positions.specs.Places.{is_line_end}
use Rattle.clr_hints.specs.BlankLines.{is_carriage_return, repeats_line_end}

abbrev without_returns : List ℕ → List ℕ
without_returns rest = filter (λ byte. not (is_carriage_return byte)) rest

-- a blank line ends in the rest of a text, before which a line has begun or not
abbrev pub ends_blank : Bool → List ℕ → Bool
ends_blank begun rest = repeats_line_end (cond begun 0 10 ∷ without_returns rest)

kind_of_end : (ends : Bool) → ends ≡ is_line_end (cond (not ends) 0 10)
kind_of_end true = refl
kind_of_end false = refl

-- of the first byte it matters only whether it is a line end
first_by_kind : (byte : ℕ) (rest : List ℕ) → repeats_line_end (byte ∷ rest) ≡ repeats_line_end (cond (not (is_line_end byte)) 0 10 ∷ rest)
first_by_kind byte [] = refl
first_by_kind byte (next ∷ rest) =
    ap (λ (ends : Bool). (ends && is_line_end next) || repeats_line_end (next ∷ rest)) (kind_of_end (is_line_end byte))

pub return_stays : (begun : Bool) (byte : ℕ) (rest : List ℕ) → is_carriage_return byte ≡ true → ends_blank begun (byte ∷ rest) ≡ ends_blank begun rest
return_stays begun byte rest returns =
    ap (λ (left_out : Bool). repeats_line_end (cond begun 0 10 ∷ cond (not left_out) (byte ∷ without_returns rest) (without_returns rest))) returns

ends_not : (ends : Bool) → ends && not false ≡ false → ends ≡ false
ends_not true both = both
ends_not false both = refl

first_passes : (begun : Bool) (byte : ℕ) (rest : List ℕ) → is_line_end byte && not begun ≡ false
    → repeats_line_end (cond begun 0 10 ∷ byte ∷ rest) ≡ repeats_line_end (byte ∷ rest)
first_passes true byte rest ends = refl
first_passes false byte rest ends = ap (λ (now : Bool). now || repeats_line_end (byte ∷ rest)) (ends_not (is_line_end byte) ends)

pub other_passes : (begun : Bool) (byte : ℕ) (rest : List ℕ) → is_carriage_return byte ≡ false → is_line_end byte && not begun ≡ false
    → ends_blank begun (byte ∷ rest) ≡ ends_blank (not (is_line_end byte)) rest
other_passes begun byte rest stays ends =
    ap (λ (left_out : Bool). repeats_line_end (cond begun 0 10 ∷ cond (not left_out) (byte ∷ without_returns rest) (without_returns rest))) stays
    ∙ (first_passes begun byte (without_returns rest) ends ∙ first_by_kind byte (without_returns rest))

pub line_ends : (byte : ℕ) (rest : List ℕ) → byte ≡ 10 → ends_blank false (byte ∷ rest) ≡ true
line_ends byte rest ends = ap (λ (ending : ℕ). ends_blank false (ending ∷ rest)) ends

module _ (text : List ℕ) (at : ℕ) (begun : Bool) (within : at < length text) where
  next_stands : drop at text ≡ get_or text at 0 ∷ drop (at + 1) text
  next_stands =
      let more : suc at ≡ at + 1 = omega arith in
      drop-cons text at 0 within ∙ ap (λ (next : ℕ). get_or text at 0 ∷ drop next text) more

  pub turn_stays : is_carriage_return (get_or text at 0) ≡ true → ends_blank begun (drop at text) ≡ ends_blank begun (drop (at + 1) text)
  turn_stays returns = ap (ends_blank begun) next_stands ∙ return_stays begun (get_or text at 0) (drop (at + 1) text) returns

  pub turn_passes : is_carriage_return (get_or text at 0) ≡ false → is_line_end (get_or text at 0) && not begun ≡ false
      → ends_blank begun (drop at text) ≡ ends_blank (not (is_line_end (get_or text at 0))) (drop (at + 1) text)
  turn_passes stays ends = ap (ends_blank begun) next_stands ∙ other_passes begun (get_or text at 0) (drop (at + 1) text) stays ends
