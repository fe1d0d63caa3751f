-- What a sketch says, line by line.
use Rattle.std.proofs.Common.{◌≡◌, ◌∙◌, ◌++◌, ◌∷◌, ℕ, List, [], ap, append_assoc, codes, inr, refl, sym}
use Rattle.clr_svg.specs.declared.elements.Element.{Element}
use Rattle.clr_map_frames.specs.HeadingLines.{IsShown, SaysHeading, SaysNames, SaysSentence, one, said, two}

-- a text that is cut behind some of its bytes
pub cut_shown : (text cut rest shown : List ℕ) → cut ++ rest ≡ text → shown ≡ cut ++ codes " .." → IsShown text shown
cut_shown text cut rest shown whole is = inr (cut, rest, sym whole, is)

-- a sentence on one line
pub on_one : (sentence : List ℕ) (old new : List Element) → said new ≡ said old ++ sentence ∷ [] → SaysSentence sentence old new
on_one sentence old new says = (sentence ∷ [], one refl, says)

-- a sentence on two lines
pub on_two : (sentence first rest second : List ℕ) (old middle new : List Element) → first ++ rest ≡ sentence → IsShown rest second
    → said middle ≡ said old ++ first ∷ [] → said new ≡ said middle ++ second ∷ [] → SaysSentence sentence old new
on_two sentence first rest second old middle new whole shown e f = (
  first ∷ second ∷ [],
  two first rest second whole shown refl,
  f ∙ ap (λ (lines : List (List ℕ)). lines ++ second ∷ []) e ∙ append_assoc (said old) (first ∷ []) (second ∷ []),
)

-- the names, and the sentence behind them
pub heading : (names sentence : List ℕ) (old middle new : List Element) → SaysNames names old middle → SaysSentence sentence middle new
    → SaysHeading names sentence old new
heading names sentence old middle new (shown, of_names, e) (lines, of_sentence, f) = record {
  shown = shown;
  lines = lines;
  of_names = of_names;
  of_sentence = of_sentence;
  says = f ∙ ap (λ (words : List (List ℕ)). words ++ lines) e ∙ append_assoc (said old) (shown ∷ []) lines;
}
