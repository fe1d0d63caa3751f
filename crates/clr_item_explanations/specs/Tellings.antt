-- What is said of a value that is wrong: the steps to it, a sentence, and a hint where one helps.
use Rattle.std.specs.Prelude.{◌≡◌, ℕ, List, [], ◌∷◌, ◌++◌, codes, Option, Some, None, is_some, MatchOption, if◌then◌else◌}
use Rattle.std.specs.Option.{option_map, option_or}
use Rattle.std.specs.List.{enumerate_from}
use Rattle.serde_json.specs.Data.{Data, string}
use Rattle.serde_json.specs.Find.{as_number}
use Rattle.clr_hints.specs.Metres.{metres_hint}
use Rattle.clr_hints.specs.Names.{IsHintAtName}
use Rattle.clr_hints.specs.Values.{IsWritten, short_text}
use Rattle.clr_text_positions.specs.declared.paths.Key.{Key}
use Rattle.clr_text_positions.specs.declared.paths.PathStep.{PathStep}
use Rattle.clr_text_positions.specs.declared.paths.PathStep.TheVariants as step
use Rattle.clr_item_explanations.specs.Slips.{Said, said}
use Rattle.clr_item_explanations.specs.Values.{items_at}
use Rattle.clr_item_explanations.specs.declared.slips.Slip.{Slip}

-- what is told -------------------------------------------------------------------------------

-- what is told of a value
pub data Telling : Type 0 where
  -- these words, without a hint
  Plain : List ℕ → Telling
  -- these words, and a hint at the name that may be meant by one, among those that are known
  OfName : List ℕ → List ℕ → List (List ℕ) → Telling
  -- the value as it is written, with words before it and behind it
  OfValue : List ℕ → Data → List ℕ → Telling
  -- that a word is none of those that may stand there, and a hint at the one that may be meant
  OfWord : List ℕ → List (List ℕ) → Telling
  -- that the value is no coordinate, and a hint where it may be meant in metres
  OfCoordinate : Data → Telling

-- a value as it is written, cut where it is long
abbrev pub IsShown : Data → List ℕ → Type 0
IsShown d shown = (text : List ℕ) × IsWritten d text × (shown ≡ short_text text)

-- only a number may be meant in metres
abbrev pub coordinate_hint : Data → List ℕ → Option (List ℕ)
coordinate_hint d shown = if is_some (as_number d) then metres_hint shown else None

-- the sentence and the hint in which this is told
abbrev pub IsTold : Telling → List ℕ → Option (List ℕ) → Type 0
IsTold (Plain words) sentence hint = (sentence ≡ words) × (hint ≡ None)
IsTold (OfName words name names) sentence hint = (sentence ≡ words) × IsHintAtName name names hint
IsTold (OfValue before d behind) sentence hint = (shown : List ℕ) × IsShown d shown × (sentence ≡ before ++ shown ++ behind) × (hint ≡ None)
IsTold (OfWord word words) sentence hint =
    (shown : List ℕ) × IsShown (string word) shown × (sentence ≡ shown ++ codes " is no word that may stand here") × IsHintAtName word words hint
IsTold (OfCoordinate d) sentence hint =
    (shown : List ℕ) × IsShown d shown × (sentence ≡ shown ++ codes " is no whole number; coordinates are whole millimetres")
    × (hint ≡ coordinate_hint d shown)

-- what is wrong ------------------------------------------------------------------------------

-- what is wrong within an item: the steps from it to the value, and what is told of that
pub record Wrong : Type 0 where
  pub steps : List PathStep
  pub telling : Telling

pub record Tells (wrong : Wrong) (s : Said) : Type 0 where
  pub at : s.steps ≡ wrong.steps
  pub told : IsTold wrong.telling s.sentence s.hint

-- a slip tells what is wrong
pub record TellsFound (found : Option Wrong) (slip : Slip) : Type 0 where
  pub wrong : Wrong
  pub is : found ≡ Some wrong
  pub told : Tells wrong (said slip)

-- a slip tells what is wrong, and there is none where nothing is
pub record TellsIfAny (found : Option Wrong) (slip : Option Slip) : Type 0 where
  pub told : MatchOption slip (found ≡ None) (TellsFound found)

-- the name of a fault and a colon stand before the sentence
pub record TellsNamed (name : List ℕ) (wrong : Wrong) (s : Said) : Type 0 where
  pub sentence : List ℕ
  pub named : s.sentence ≡ name ++ codes ": " ++ sentence
  pub tells : Tells wrong (record { steps = s.steps; sentence = sentence; hint = s.hint })

-- where it is wrong --------------------------------------------------------------------------

-- the item itself is wrong
abbrev pub itself : Telling → Wrong
itself telling = record { steps = []; telling = telling }

-- the value at a key is wrong
abbrev pub at_key : Key → Telling → Wrong
at_key k telling = record { steps = step.Key k ∷ []; telling = telling }

-- what is wrong with a value is so of what holds it, some steps further
abbrev pub below : List PathStep → Option Wrong → Option Wrong
below steps found = option_map (λ wrong. record { steps = steps ++ wrong.steps; telling = wrong.telling }) found

-- the first that is found
unfoldable pub first_wrong : {A : Type 0} → (A → Option Wrong) → List A → Option Wrong
first_wrong f [] = None
first_wrong f (x ∷ xs) = option_or (f x) (first_wrong f xs)

-- what is wrong with the first item of the list at a key with which anything is, by its place in the list and its value
unfoldable pub wrong_in_list : Key → (ℕ → Data → Option Wrong) → Data → Option Wrong
wrong_in_list k f d = first_wrong (λ p. below (step.Key k ∷ step.At p.0 ∷ []) (f p.0 p.1)) (enumerate_from 0 (items_at k d))
