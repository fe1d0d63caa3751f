-- What a heading says, in lines.
use Rattle.std.specs.Prelude.{◌≡◌, ◌⊎◌, ℕ, List, [], ◌∷◌, ◌++◌, codes, flat_map, string_bytes}
use Rattle.clr_svg.specs.declared.elements.Element.{Element}
use Rattle.clr_svg.specs.declared.elements.Element.TheVariants.{Path, Circle, Rectangle, Words}

-- the words of an element, if it has some
abbrev pub words_of : Element → List (List ℕ)
words_of (Path steps ink) = []
words_of (Circle middle radius ink) = []
words_of (Rectangle corner width height radius ink) = []
words_of (Words label) = string_bytes label.words ∷ []

-- the words of elements, in the order in which they are drawn
abbrev pub said : List Element → List (List ℕ)
said elements = flat_map words_of elements

-- a text, or the beginning of it with ".." behind, where it is cut
abbrev pub IsShown : List ℕ → List ℕ → Type 0
IsShown text shown = (shown ≡ text) ⊎ ((cut : List ℕ) × (rest : List ℕ) × (text ≡ cut ++ rest) × (shown ≡ cut ++ codes " .."))

-- a sentence on one line, or on two, of which the second may be cut
pub data AreLinesOf (sentence : List ℕ) (lines : List (List ℕ)) : Type 0 where
  one : lines ≡ sentence ∷ [] → AreLinesOf sentence lines
  two : (first rest second : List ℕ) → first ++ rest ≡ sentence → IsShown rest second → lines ≡ first ∷ second ∷ [] → AreLinesOf sentence lines

abbrev pub SaysNames : List ℕ → List Element → List Element → Type 0
SaysNames names old new = (shown : List ℕ) × IsShown names shown × (said new ≡ said old ++ shown ∷ [])

abbrev pub SaysSentence : List ℕ → List Element → List Element → Type 0
SaysSentence sentence old new = (lines : List (List ℕ)) × AreLinesOf sentence lines × (said new ≡ said old ++ lines)

-- more is said: the names, and then the lines of the sentence
pub record SaysHeading (names sentence : List ℕ) (old new : List Element) : Type 0 where
  pub shown : List ℕ
  pub lines : List (List ℕ)
  pub of_names : IsShown names shown
  pub of_sentence : AreLinesOf sentence lines
  pub says : said new ≡ said old ++ shown ∷ lines
