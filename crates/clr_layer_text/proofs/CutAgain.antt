-- Texts that are put together with marks are cut at them again.
use Rattle.std.proofs.Common.{◌≡◌, ℕ, ◌<◌, ◌^◌, true, false, List, [], ◌∷◌, ◌++◌, length, Some, None, refl, arith, ltb}
use Rattle.std.specs.Fmt.{decimal}
use Rattle.std.specs.List.{AllByRecursion, position_or_len}
use Rattle.std.specs.Str.Parse.{AllDigits}
use Rattle.std.proofs.lemmas.Bool.{eq-eqb, ne_eqb, lt-ltb}
use Rattle.std.proofs.lemmas.Bool.Decides.{nat_tests}
use Rattle.std.proofs.lemmas.List.{length-append, take_at}
use Rattle.std.proofs.lemmas.List.Elements.{All-from_recursion}
use Rattle.std.proofs.lemmas.List.Splits.{slice_split_at, slice_split_none}
use Rattle.std.proofs.lemmas.Fmt.{decimal_is_IsNumeral}
use Rattle.std.proofs.lemmas.Str.Parse.{digit_from_value}
use Rattle.std.proofs.Math.Seq.{drop-append-add}
use Rattle.clr_layer_text.specs.Pieces.{cut_of, is_mark, pieces_of}

-- no byte of a text is this mark
abbrev pub Lacks : ℕ → List ℕ → Type 0
Lacks mark text = AllByRecursion (λ b. is_mark mark b ≡ false) text

pub each_so : {A : Type 0} (P Q : A → Type 0) (xs : List A) → ((x : A) → P x → Q x) → AllByRecursion P xs → AllByRecursion Q xs
each_so P Q [] so all = tt
each_so P Q (x ∷ xs) so all = (so x all.0, each_so P Q xs so all.1)

mark_at : (mark : ℕ) (s rest : List ℕ) → Lacks mark s → position_or_len (is_mark mark) (s ++ mark ∷ rest) ≡ length s
mark_at mark [] rest all = rw (eq-eqb mark mark refl) refl
mark_at mark (b ∷ s) rest all = rw (all.0, mark_at mark s rest all.1) (omega arith)

no_mark_at : (mark : ℕ) (s : List ℕ) → Lacks mark s → position_or_len (is_mark mark) s ≡ length s
no_mark_at mark [] all = refl
no_mark_at mark (b ∷ s) all = rw (all.0, no_mark_at mark s all.1) (omega arith)

-- a text is cut at its first mark
pub cut_again : (mark : ℕ) (s rest : List ℕ) → Lacks mark s → cut_of mark (s ++ mark ∷ rest) ≡ Some (s, rest)
unfolding cut_of
cut_again mark s rest all =
    let lt : ltb (length s) (length (s ++ mark ∷ rest)) ≡ true = lt-ltb (length s) (length (s ++ mark ∷ rest)) (omega (arith, length-append s (mark ∷ rest))) in
    rw (mark_at mark s rest all, lt, take_at s (mark ∷ rest) (length s) refl, drop-append-add s (mark ∷ rest) 1) refl

not_below : (n : ℕ) → ltb n n ≡ false
not_below n = grind (arith, nat_tests)

-- a text without the mark isn't cut
pub not_cut : (mark : ℕ) (s : List ℕ) → Lacks mark s → cut_of mark s ≡ None
unfolding cut_of
not_cut mark s all = rw (no_mark_at mark s all, not_below (length s)) refl

-- the first piece ends at the first mark
pub first_piece : (mark : ℕ) (s rest : List ℕ) → Lacks mark s → pieces_of mark (s ++ mark ∷ rest) ≡ s ∷ pieces_of mark rest
first_piece mark s rest all = slice_split_at (is_mark mark) s mark rest (All-from_recursion _ s all) (eq-eqb mark mark refl)

pub one_piece : (mark : ℕ) (s : List ℕ) → Lacks mark s → pieces_of mark s ≡ s ∷ []
one_piece mark s all = slice_split_none (is_mark mark) s (All-from_recursion _ s all)

-- bytes of numbers -------------------------------------------------------------------------------

-- a digit, a point or a minus
abbrev pub IsNumberByte : ℕ → Type 0
IsNumberByte b = (44 < b) × (b < 58)

pub no_number_byte : (mark b : ℕ) → mark < 45 → IsNumberByte b → is_mark mark b ≡ false
no_number_byte mark b low is = let above = is.0 in ne_eqb b mark (λ e. omega arith)

-- a mark below the bytes of numbers stands in no number
pub lacks_mark : (mark : ℕ) (s : List ℕ) → mark < 45 → AllByRecursion IsNumberByte s → Lacks mark s
lacks_mark mark s low all = each_so IsNumberByte (λ b. is_mark mark b ≡ false) s (λ b is. no_number_byte mark b low is) all

-- the bytes of a decimal are digits
abbrev pub IsDigitByte : ℕ → Type 0
IsDigitByte b = (47 < b) × (b < 58)

pub digit_bytes : (ds : List ℕ) → AllDigits 10 ds → AllByRecursion IsDigitByte ds
digit_bytes [] all = tt
digit_bytes (d ∷ ds) all = let r = digit_from_value d all.0 in ((omega arith, omega arith), digit_bytes ds all.1)

pub decimal_bytes : (n : ℕ) → n < 2 ^ 64 → AllByRecursion IsDigitByte (decimal n)
decimal_bytes n lt = digit_bytes (decimal n) (decimal_is_IsNumeral n lt).0.1
