-- Escaped texts are harmless.
use Rattle.std.proofs.Common.{◌≡◌, ◌⊎◌, inl, inr, ℕ, zero, suc, Bool, true, false, List, [], ◌∷◌, ◌++◌, sym, nat_eq, nat_lt, cond, codes, refl, arith}
use Rattle.clr_svg.specs.Escapes.{begins_forbidden, escaped, escaped_behind, escaped_byte, is_control, is_forbidden, IsHarmless, Nothing, Begins}
use Rattle.clr_svg.specs.Escapes.{IsHarmlessPiece, Less, Greater, Ampersand, Quote, Apostrophe, Byte}

-- one of two texts, each of which is harmless where it is the one
either : (test : Bool) (one another : List ℕ) → (test ≡ true → IsHarmlessPiece one) → (test ≡ false → IsHarmlessPiece another)
    → IsHarmlessPiece (cond test one another)
either true one another this that = this refl
either false one another this that = that refl

harmless_byte : (b : ℕ) → IsHarmlessPiece (escaped_byte b)
harmless_byte b =
    either (nat_eq b 60) _ _ (λ _. Less) (λ less.
    either (nat_eq b 62) _ _ (λ _. Greater) (λ greater.
    either (nat_eq b 38) _ _ (λ _. Ampersand) (λ ampersand.
    either (nat_eq b 34) _ _ (λ _. Quote) (λ quote.
    either (nat_eq b 39) _ _ (λ _. Apostrophe) (λ apostrophe.
    either (is_control b) _ _ (λ _. Byte 32 refl refl) (λ plain.
    Byte b (rw (less, greater, ampersand, quote, apostrophe) refl) plain))))))

-- what stands for a byte: the byte itself, or a text that begins with ASCII
abbrev IsFronted : ℕ → List ℕ → Type 0
IsFronted b piece = (piece ≡ b ∷ []) ⊎ ((first : ℕ) × (rest : List ℕ) × (piece ≡ first ∷ rest) × (nat_lt 127 first ≡ false))

one_of : (b : ℕ) (test : Bool) (one another : List ℕ) → IsFronted b one → IsFronted b another → IsFronted b (cond test one another)
one_of b true one another this that = this
one_of b false one another this that = that

fronted_byte : (b : ℕ) → IsFronted b (escaped_byte b)
fronted_byte b =
    one_of b (nat_eq b 60) _ _ (inr (38, _, refl, refl)) (
    one_of b (nat_eq b 62) _ _ (inr (38, _, refl, refl)) (
    one_of b (nat_eq b 38) _ _ (inr (38, _, refl, refl)) (
    one_of b (nat_eq b 34) _ _ (inr (38, _, refl, refl)) (
    one_of b (nat_eq b 39) _ _ (inr (38, _, refl, refl)) (
    one_of b (is_control b) _ _ (inr (32, _, refl, refl)) (inl refl))))))

-- a text begins with a byte above ASCII, which stands for itself
abbrev IsBegun : List ℕ → ℕ → List ℕ → Type 0
IsBegun words x out = (rest : List ℕ) × (words ≡ x ∷ rest) × (out ≡ escaped_behind 0 rest)

begun_byte : (b : ℕ) (rest : List ℕ) (piece : List ℕ) → IsFronted b piece → (x : ℕ) (out : List ℕ) → piece ++ escaped_behind 0 rest ≡ x ∷ out
    → nat_lt 127 x ≡ true → IsBegun (b ∷ rest) x out
begun_byte b rest piece (inl is) x out e above = grind (arith, is, e, above)
begun_byte b rest piece (inr (first, more, is, low)) x out e above = grind (arith, is, low, e, above)

begun_by : (b : ℕ) (rest : List ℕ) (test : Bool) (x : ℕ) (out : List ℕ)
    → cond test (codes " " ++ escaped_behind 2 rest) (escaped_byte b ++ escaped_behind 0 rest) ≡ x ∷ out → nat_lt 127 x ≡ true → IsBegun (b ∷ rest) x out
begun_by b rest true x out e above = grind (arith, e, above)
begun_by b rest false x out e above = begun_byte b rest (escaped_byte b) (fronted_byte b) x out e above

begun : (words : List ℕ) (x : ℕ) (out : List ℕ) → escaped_behind 0 words ≡ x ∷ out → nat_lt 127 x ≡ true → IsBegun words x out
begun [] x out e above = grind (arith, e)
begun (b ∷ rest) x out e above = begun_by b rest (begins_forbidden (b ∷ rest)) x out e above

-- the two bytes behind the first of a forbidden character are above ASCII
abbrev AreTwo : ℕ → List ℕ → Type 0
AreTwo b out = (x : ℕ) × (y : ℕ) × (rest : List ℕ) × (out ≡ x ∷ y ∷ rest) × (is_forbidden b x y ≡ true) × (nat_lt 127 x ≡ true) × (nat_lt 127 y ≡ true)

two : (b : ℕ) (out : List ℕ) → begins_forbidden (b ∷ out) ≡ true → AreTwo b out
two b [] h = grind (arith, h)
two b (x ∷ []) h = grind (arith, h)
two b (x ∷ y ∷ rest) h = (x, y, rest, refl, h, grind (arith, h), grind (arith, h))

same_begin : (b : ℕ) (words : List ℕ) (test : Bool) → begins_forbidden (b ∷ escaped_behind 0 words) ≡ test → begins_forbidden (b ∷ words) ≡ false → test ≡ false
same_begin b words false e h = refl
same_begin b words true e h =
    let (x, y, rest, is, bad, xs, ys) = two b (escaped_behind 0 words) e in
    let (more, first, behind) = begun words x (y ∷ rest) is xs in
    let (others, second, last) = begun more y rest (sym behind) ys in
    grind (arith, h, bad, first, second)

-- no forbidden character begins with ASCII
low_begin : (first : ℕ) (rest : List ℕ) → nat_lt 127 first ≡ false → begins_forbidden (first ∷ rest) ≡ false
low_begin first [] low = refl
low_begin first (x ∷ []) low = refl
low_begin first (x ∷ y ∷ rest) low = grind (arith, low)

-- whatever stands for a byte, no forbidden character begins there
begins_well : (b : ℕ) (rest : List ℕ) (piece : List ℕ) → IsFronted b piece → begins_forbidden (b ∷ rest) ≡ false
    → begins_forbidden (piece ++ escaped_behind 0 rest) ≡ false
begins_well b rest piece (inl is) h = rw is (same_begin b rest (begins_forbidden (b ∷ escaped_behind 0 rest)) refl h)
begins_well b rest piece (inr (first, more, is, low)) h = rw is (low_begin first (more ++ escaped_behind 0 rest) low)

-- a space for a forbidden character, or what stands for a byte, before a harmless text
harmless_front : (b : ℕ) (rest : List ℕ) (test : Bool) → begins_forbidden (b ∷ rest) ≡ test → IsHarmless (escaped_behind 2 rest)
    → IsHarmless (escaped_behind 0 rest) → IsHarmless (cond test (codes " " ++ escaped_behind 2 rest) (escaped_byte b ++ escaped_behind 0 rest))
harmless_front b rest true e after next = Begins (32 ∷ []) (escaped_behind 2 rest) (Byte 32 refl refl) (low_begin 32 (escaped_behind 2 rest) refl) after
harmless_front b rest false e after next =
    Begins (escaped_byte b) (escaped_behind 0 rest) (harmless_byte b) (begins_well b rest (escaped_byte b) (fronted_byte b) e) next

harmless_behind : (count : ℕ) (words : List ℕ) → IsHarmless (escaped_behind count words)
harmless_behind zero [] = Nothing
harmless_behind (suc count) [] = Nothing
harmless_behind (suc count) (b ∷ rest) = harmless_behind count rest
harmless_behind zero (b ∷ rest) = harmless_front b rest (begins_forbidden (b ∷ rest)) refl (harmless_behind 2 rest) (harmless_behind 0 rest)

pub harmless : (words : List ℕ) → IsHarmless (escaped words)
unfolding escaped
harmless words = harmless_behind 0 words
