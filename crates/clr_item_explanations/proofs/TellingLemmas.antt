-- What is told of what is wrong.
use Rattle.std.proofs.Common.{◌≡◌, ◌∙◌, ℕ, List, [], ◌∷◌, ◌++◌, codes, string_bytes, Bool, true, false, Option, Some, None, refl, sym, subst, ap}
use Rattle.std.specs.Prelude.{option_map, unwrap_or, if◌then◌else◌}
use Rattle.std.specs.Option.{option_or}
use Rattle.serde_json.specs.Data.{Data, string}
use Rattle.clr_hints.specs.Names.{IsHintAtName}
use Rattle.clr_text_positions.specs.declared.paths.Key.{Key}
use Rattle.clr_text_positions.specs.declared.paths.PathStep.{PathStep}
use Rattle.clr_text_positions.specs.declared.paths.PathStep.TheVariants as step
use Rattle.clr_item_explanations.specs.declared.slips.Slip.{Slip}
use Rattle.clr_item_explanations.specs.Slips.{Said, said}
use Rattle.clr_item_explanations.specs.Fields.{unknown_word}
use Rattle.clr_item_explanations.specs.Values.{stands_among}
use Rattle.clr_item_explanations.specs.Tellings.{IsShown, IsTold, OfCoordinate, OfName, OfValue, OfWord, Plain, Tells, TellsFound, TellsIfAny, TellsNamed}
use Rattle.clr_item_explanations.specs.Tellings.{Wrong, below, coordinate_hint, itself}

-- one value ----------------------------------------------------------------------------------

-- a slip has these parts
pub tells : (wrong : Wrong) (slip : Slip) → slip.steps.items ≡ wrong.steps
    → IsTold wrong.telling (string_bytes slip.sentence) (option_map string_bytes slip.hint) → Tells wrong (said slip)
tells wrong slip at told = record { at = at; told = told }

-- a slip has these words and no hint
pub plain_told : (steps : List PathStep) (words : List ℕ) (slip : Slip) → slip.steps.items ≡ steps → string_bytes slip.sentence ≡ words → slip.hint ≡ None
    → Tells (record { steps = steps; telling = Plain words }) (said slip)
plain_told steps words slip at told none = record { at = at; told = (told, ap (option_map string_bytes) none) }

pub named_told : (name : List ℕ) (wrong : Wrong) (steps : List PathStep) (sentence : List ℕ) (hint : Option (List ℕ)) (s : Said) → s.steps ≡ steps
    → s.sentence ≡ name ++ codes ": " ++ sentence → s.hint ≡ hint → Tells wrong (record { steps = steps; sentence = sentence; hint = hint })
    → TellsNamed name wrong s
named_told name wrong steps sentence hint s at named same told = record {
  sentence = sentence;
  named = named;
  tells = record { at = at ∙ told.at; told = subst (λ h. IsTold wrong.telling sentence h) (sym same) told.told };
}

-- if any -------------------------------------------------------------------------------------

pub nothing : (found : Option Wrong) → found ≡ None → TellsIfAny found None
nothing found is = record { told = is }

pub something : (found : Option Wrong) (wrong : Wrong) (slip : Slip) → found ≡ Some wrong → Tells wrong (said slip) → TellsIfAny found (Some slip)
something found wrong slip is told = record { told = record { wrong = wrong; is = is; told = told } }

pub is_nothing : {found : Option Wrong} → TellsIfAny found None → found ≡ None
is_nothing t = t.told

pub is_something : {found : Option Wrong} {slip : Slip} → TellsIfAny found (Some slip) → TellsFound found slip
is_something t = t.told

pub right_if : (b : Bool) (wrong : Wrong) → b ≡ true → TellsIfAny (if b then None else Some wrong) None
right_if b wrong is = record { told = rw is refl }

pub wrong_else : (b : Bool) (wrong : Wrong) (slip : Slip) → b ≡ false → Tells wrong (said slip) → TellsIfAny (if b then None else Some wrong) (Some slip)
wrong_else b wrong slip is told = record { told = record { wrong = wrong; is = rw is refl; told = told } }

pub wrong_if : (b : Bool) (wrong : Wrong) (slip : Slip) → b ≡ true → Tells wrong (said slip) → TellsIfAny (if b then Some wrong else None) (Some slip)
wrong_if b wrong slip is told = record { told = record { wrong = wrong; is = rw is refl; told = told } }

pub right_else : (b : Bool) (wrong : Wrong) → b ≡ false → TellsIfAny (if b then Some wrong else None) None
right_else b wrong is = record { told = rw is refl }

pub ruleset right_or_wrong = (right_if, wrong_else)

pub ruleset wrong_or_right = (wrong_if, right_else)

-- one after another --------------------------------------------------------------------------

pub first_told : (one other : Option Wrong) (slip : Slip) → TellsIfAny one (Some slip) → TellsIfAny (option_or one other) (Some slip)
first_told one other slip t = let so = t.told in record { told = record { wrong = so.wrong; is = rw so.is refl; told = so.told } }

pub behind_told : (one other : Option Wrong) (slip : Option Slip) → TellsIfAny one None → TellsIfAny other slip → TellsIfAny (option_or one other) slip
behind_told one other slip t told = let is : one ≡ None = t.told in rw is told

pub ruleset one_after_another = (first_told, behind_told)

-- further ------------------------------------------------------------------------------------

pub below_told : (steps : List PathStep) (found : Option Wrong) (slip new : Slip) → new.steps.items ≡ steps ++ slip.steps.items → new.sentence ≡ slip.sentence
    → new.hint ≡ slip.hint → TellsIfAny found (Some slip) → TellsIfAny (below steps found) (Some new)
below_told steps found slip new at sentence hint t = let so = t.told in record {
  told = record {
    wrong = record { steps = steps ++ so.wrong.steps; telling = so.wrong.telling };
    is = rw so.is refl;
    told = record {
      at = at ∙ ap (λ s. steps ++ s) so.told.at;
      told = subst (λ s. IsTold so.wrong.telling (string_bytes s) (option_map string_bytes new.hint)) (sym sentence)
          (subst (λ h. IsTold so.wrong.telling (string_bytes slip.sentence) (option_map string_bytes h)) (sym hint) so.told.told);
    };
  };
}

pub below_none : (steps : List PathStep) (found : Option Wrong) → TellsIfAny found None → TellsIfAny (below steps found) None
below_none steps found t = let is : found ≡ None = t.told in record { told = rw is refl }

-- by what is told ----------------------------------------------------------------------------

pub plain_else : (b : Bool) (steps : List PathStep) (words : List ℕ) (slip : Slip) → b ≡ false → slip.steps.items ≡ steps
    → string_bytes slip.sentence ≡ words → slip.hint ≡ None
    → TellsIfAny (if b then None else Some (record { steps = steps; telling = Plain words })) (Some slip)
plain_else b steps words slip is at told none = wrong_else b _ slip is (plain_told steps words slip at told none)

pub plain_if : (b : Bool) (steps : List PathStep) (words : List ℕ) (slip : Slip) → b ≡ true → slip.steps.items ≡ steps
    → string_bytes slip.sentence ≡ words → slip.hint ≡ None
    → TellsIfAny (if b then Some (record { steps = steps; telling = Plain words }) else None) (Some slip)
plain_if b steps words slip is at told none = wrong_if b _ slip is (plain_told steps words slip at told none)

pub value_told : (steps : List PathStep) (before behind shown : List ℕ) (d : Data) (slip : Slip) → IsShown d shown → slip.steps.items ≡ steps
    → string_bytes slip.sentence ≡ before ++ shown ++ behind → slip.hint ≡ None
    → Tells (record { steps = steps; telling = OfValue before d behind }) (said slip)
value_told steps before behind shown d slip is at told none = record { at = at; told = (shown, is, told, ap (option_map string_bytes) none) }

pub coordinate_told : (steps : List PathStep) (shown : List ℕ) (hint : Option (List ℕ)) (d : Data) (slip : Slip) → IsShown d shown → slip.steps.items ≡ steps
    → string_bytes slip.sentence ≡ shown ++ codes " is no whole number; coordinates are whole millimetres"
    → option_map string_bytes slip.hint ≡ coordinate_hint d shown
    → Tells (record { steps = steps; telling = OfCoordinate d }) (said slip)
coordinate_told steps shown hint d slip is at told near = record { at = at; told = (shown, is, told, near) }

pub word_told : (steps : List PathStep) (shown word : List ℕ) (words : List (List ℕ)) (d : Data) (slip : Slip) → d ≡ string word → IsShown d shown
    → slip.steps.items ≡ steps → string_bytes slip.sentence ≡ shown ++ codes " is no word that may stand here"
    → IsHintAtName word words (option_map string_bytes slip.hint)
    → Tells (record { steps = steps; telling = OfWord word words }) (said slip)
word_told steps shown word words d slip same is at told near = record { at = at; told = (shown, subst (λ x. IsShown x shown) same is, told, near) }

pub name_told : (steps : List PathStep) (words name : List ℕ) (names given : List (List ℕ)) (slip : Slip) → slip.steps.items ≡ steps
    → string_bytes slip.sentence ≡ words → given ≡ names → IsHintAtName name given (option_map string_bytes slip.hint)
    → Tells (record { steps = steps; telling = OfName words name names }) (said slip)
name_told steps words name names given slip at told are near =
    record { at = at; told = (told, subst (λ n. IsHintAtName name n (option_map string_bytes slip.hint)) are near) }

pub name_else : (b : Bool) (steps : List PathStep) (words name : List ℕ) (names : List (List ℕ)) (slip : Slip) → b ≡ false → slip.steps.items ≡ steps
    → string_bytes slip.sentence ≡ words → IsHintAtName name names (option_map string_bytes slip.hint)
    → TellsIfAny (if b then None else Some (record { steps = steps; telling = OfName words name names })) (Some slip)
name_else b steps words name names slip is at told near = wrong_else b _ slip is (name_told steps words name names names slip at told refl near)

pub part_told : (steps : List PathStep) (there : Bool) (k : Key) (words : List ℕ) (slip : Slip) → slip.steps.items ≡ (if there then step.Key k ∷ [] else [])
    → string_bytes slip.sentence ≡ words → slip.hint ≡ None
    → Tells (record { steps = (if there then step.Key k ∷ [] else []); telling = Plain words }) (said slip)
part_told steps there k words slip at told none = plain_told _ words slip at told none

pub unless : (b : Bool) (found : Option Wrong) (wrong : Wrong) (slip : Option Slip) → b ≡ true → TellsIfAny found slip
    → TellsIfAny (if b then found else Some wrong) slip
unless b found wrong slip is told = rw is told

pub otherwise : (b : Bool) (found : Option Wrong) (wrong : Wrong) (slip : Option Slip) → b ≡ false → TellsIfAny found slip
    → TellsIfAny (if b then Some wrong else found) slip
otherwise b found wrong slip is told = rw is told

pub plain_unless : (b : Bool) (found : Option Wrong) (steps : List PathStep) (words : List ℕ) (slip : Slip) → b ≡ false → slip.steps.items ≡ steps
    → string_bytes slip.sentence ≡ words → slip.hint ≡ None
    → TellsIfAny (if b then found else Some (record { steps = steps; telling = Plain words })) (Some slip)
plain_unless b found steps words slip is at told none =
    rw is (something _ (record { steps = steps; telling = Plain words }) slip refl (plain_told steps words slip at told none))

pub plain_or : (b : Bool) (found : Option Wrong) (steps : List PathStep) (words : List ℕ) (slip : Slip) → b ≡ true → slip.steps.items ≡ steps
    → string_bytes slip.sentence ≡ words → slip.hint ≡ None
    → TellsIfAny (if b then Some (record { steps = steps; telling = Plain words }) else found) (Some slip)
plain_or b found steps words slip is at told none =
    rw is (something _ (record { steps = steps; telling = Plain words }) slip refl (plain_told steps words slip at told none))

pub ruleset words_unless = (unless, plain_unless)

pub ruleset words_if = (plain_or, otherwise)

pub found_told : (wrong : Option Wrong) (otherwise : Wrong) (slip : Slip) → TellsIfAny wrong (Some slip) → Tells (unwrap_or wrong otherwise) (said slip)
found_told wrong otherwise slip t = let so = t.told in rw so.is so.told

pub else_told : (wrong : Option Wrong) (otherwise : Wrong) (slip : Slip) → TellsIfAny wrong None → Tells otherwise (said slip)
    → Tells (unwrap_or wrong otherwise) (said slip)
else_told wrong otherwise slip t told = let is : wrong ≡ None = t.told in rw is told

-- words --------------------------------------------------------------------------------------

pub known_word : (words : List (List ℕ)) (word : List ℕ) (found : Option (List ℕ)) (no_text : Option Wrong) → Some word ≡ found
    → stands_among words word ≡ true → TellsIfAny (unknown_word words found no_text) None
known_word words word found no_text is stands = rw (← is, stands) (nothing None refl)

pub unknown_told : (words : List (List ℕ)) (word : List ℕ) (found : Option (List ℕ)) (no_text : Option Wrong) (slip : Slip) → Some word ≡ found
    → stands_among words word ≡ false → Tells (itself (OfWord word words)) (said slip) → TellsIfAny (unknown_word words found no_text) (Some slip)
unknown_told words word found no_text slip is stands told =
    rw (← is, stands) (something (Some (itself (OfWord word words))) (itself (OfWord word words)) slip refl told)

pub no_text_told : (words : List (List ℕ)) (found : Option (List ℕ)) (no_text : Option Wrong) (slip : Option Slip) → None ≡ found → TellsIfAny no_text slip
    → TellsIfAny (unknown_word words found no_text) slip
no_text_told words found no_text slip is told = rw (← is) told

pub ruleset word_or_none = (known_word, unknown_told, no_text_told)

-- a value as it is written, with words around it
pub around_told : (steps : List PathStep) (before behind : List ℕ) (d : Data) (slip : Slip) (sentence : List ℕ)
    → (shown : List ℕ) × IsShown d shown × (sentence ≡ before ++ shown ++ behind) → slip.steps.items ≡ steps → string_bytes slip.sentence ≡ sentence
    → slip.hint ≡ None → Tells (record { steps = steps; telling = OfValue before d behind }) (said slip)
around_told steps before behind d slip sentence is at told none = record { at = at; told = (is.0, is.1, told ∙ is.2, ap (option_map string_bytes) none) }

pub words_told : (steps : List PathStep) (behind : List ℕ) (d : Data) (slip : Slip) (sentence : List ℕ)
    → (shown : List ℕ) × IsShown d shown × (sentence ≡ shown ++ behind) → slip.steps.items ≡ steps → string_bytes slip.sentence ≡ sentence
    → slip.hint ≡ None → Tells (record { steps = steps; telling = OfValue [] d behind }) (said slip)
words_told steps behind d slip sentence is at told none = around_told steps [] behind d slip sentence is at told none

pub else_plain : (wrong : Option Wrong) (steps : List PathStep) (words : List ℕ) (slip : Slip) → slip.steps.items ≡ steps → string_bytes slip.sentence ≡ words
    → slip.hint ≡ None → TellsIfAny wrong None → Tells (unwrap_or wrong (record { steps = steps; telling = Plain words })) (said slip)
else_plain wrong steps words slip at told none t =
    else_told wrong (record { steps = steps; telling = Plain words }) slip t (plain_told steps words slip at told none)
