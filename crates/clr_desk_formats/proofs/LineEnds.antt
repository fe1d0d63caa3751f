-- A JSON text in lines, byte by byte.
use Rattle.std.proofs.Common.{◌≡◌, ◌∙◌, ◌<◌, ◌+◌, ℕ, List, [], ◌∷◌, ◌++◌, ap, append_assoc, get_or, length, refl, sym, take}
use Rattle.std.proofs.lemmas.List.{take_more}
use Rattle.clr_desk_formats.specs.declared.line_ends.JsonState.{JsonState}
use Rattle.clr_desk_formats.specs.declared.line_ends.JsonState.TheVariants.{Between}
use Rattle.clr_desk_formats.specs.LineEnds.{behind, ends_line, line_end_if, lined_from}

-- the place behind bytes
abbrev pub place_of : JsonState → List ℕ → JsonState
place_of place [] = place
place_of place (byte ∷ bytes) = place_of (behind place byte) bytes

-- the last of bytes behind one
abbrev pub last_of : ℕ → List ℕ → ℕ
last_of before [] = before
last_of before (byte ∷ bytes) = last_of byte bytes

pub place-append : (p : JsonState) (xs ys : List ℕ) → place_of p (xs ++ ys) ≡ place_of (place_of p xs) ys
place-append p [] ys = refl
place-append p (x ∷ xs) ys = place-append (behind p x) xs ys

pub last-append : (b : ℕ) (xs ys : List ℕ) → last_of b (xs ++ ys) ≡ last_of (last_of b xs) ys
last-append b [] ys = refl
last-append b (x ∷ xs) ys = last-append x xs ys

pub lined-append : (p : JsonState) (b : ℕ) (xs ys : List ℕ) → lined_from p b (xs ++ ys) ≡ lined_from p b xs ++ lined_from (place_of p xs) (last_of b xs) ys
lined-append p b [] ys = refl
lined-append p b (x ∷ xs) ys =
    ap (λ l. line_end_if (ends_line p b x) ++ x ∷ l) (lined-append (behind p x) x xs ys)
    ∙ sym (append_assoc (line_end_if (ends_line p b x)) (x ∷ lined_from (behind p x) x xs) (lined_from (place_of (behind p x) xs) (last_of x xs) ys))

-- one more byte of a text
module _ (text : List ℕ) (at : ℕ) (less : at < length text) where
  abbrev front : List ℕ
  front = take at text

  abbrev here : ℕ
  here = get_or text at 0

  next : take (at + 1) text ≡ front ++ here ∷ []
  next = take_more text at 0 less

  pub more_lines : (old new : List ℕ) (p : JsonState) (b : ℕ) → old ≡ lined_from Between 10 front → p ≡ place_of Between front → b ≡ last_of 10 front
      → new ≡ old ++ line_end_if (ends_line p b here) ++ here ∷ [] → new ≡ lined_from Between 10 (take (at + 1) text)
  more_lines old new p b lines place last added =
      added ∙ append_assoc old (line_end_if (ends_line p b here)) (here ∷ [])
      ∙ (λ i. lines i ++ (line_end_if (ends_line (place i) (last i) here) ++ here ∷ []))
      ∙ sym (ap (lined_from Between 10) next ∙ lined-append Between 10 front (here ∷ []))

  pub more_place : (old new : JsonState) → old ≡ place_of Between front → new ≡ behind old here → new ≡ place_of Between (take (at + 1) text)
  more_place old new place is = is ∙ ap (λ p. behind p here) place ∙ sym (ap (place_of Between) next ∙ place-append Between front (here ∷ []))

  pub more_last : here ≡ last_of 10 (take (at + 1) text)
  more_last = sym (ap (last_of 10) next ∙ last-append 10 front (here ∷ []))
