-- An office text with a line end behind it is read as the same office.
use Rattle.std.proofs.Common.{◌≡◌, ℕ, suc, ◌+◌, ◌-◌, ◌≤◌, Bool, true, false, cond, ◌&&◌, ◌||◌, ◌==◌, List, [], ◌∷◌, ◌++◌, length, take, drop, Option, Some}
use Rattle.std.proofs.Common.{None, option_and_then, option_map, Result, Ok, Err, refl, sym, ap, ap₂, ◌∙◌, arith, length-append, nat_eq, nat_lt}
use Rattle.std.proofs.Math.Bool.{and-false}
use Rattle.std.specs.Cmp.Lexicographic.{pointwise}
use Rattle.std.specs.List.{prefix_len}
use Rattle.std.specs.Char.{encode_utf8, is_ascii_digit, is_digit}
use Rattle.std.specs.Str.{is_utf8}
use Rattle.std.proofs.lemmas.List.{take-append-le}
use Rattle.std.proofs.lemmas.Str.{IsUtf8-append, IsUtf8-from_is_utf8, is_utf8-from_IsUtf8}
use Rattle.json.specs.Token.{Token, bad, boolean, null, number}
use Rattle.json.specs.Text.{Within, after_backslash, after_high, after_u, code_unit, content, is_high_surrogate, is_low_surrogate, plain, prepend, short_escape}
use Rattle.json.specs.Text.{surrogate_pair}
use Rattle.json.specs.Word.{after_digits, after_exponent, after_fraction, after_minus, after_number, after_sign, after_whole, ends_word, literal, number_before}
use Rattle.json.specs.Word.{word}
use Rattle.json.specs.Lex.{Class, Lexeme, Mode, backslash, between, class, in_escape, in_string, in_word, lex, lex_byte, operator, operator_lexeme, other}
use Rattle.json.specs.Lex.{punctuate, fresh, quote, space, string_token, token}
use Rattle.json.specs.Json as json
use Rattle.json.proofs.Printed.Utf8.{IsUtf8-are_ascii}
use Rattle.serde_json.specs.Read.{max_depth, of_json, read}
use Rattle.clr_steps.specs.Offices.{Office}
use Rattle.clr_readings.specs.Readings.{◌>>=◌}
use Rattle.clr_office_reading.specs.Offices.{OfficeText, known_if_read, known_in, office_if_read, office_in}
use Rattle.clr_rule_text.specs.declared.faults.TextFault.{TextFault}
use Rattle.clr_rule_text.specs.declared.faults.TextFault.TheVariants.{NotJson}
use Rattle.clr_office_texts.specs.Drafts.{draft_in, if_standing, opened_in, whole_office}

-- a text with a line end behind it
abbrev pub ended : List ℕ → List ℕ
ended t = t ++ 10 ∷ []

-- strings: what isn't closed before the line end isn't closed behind it ----------------------------------------------

no_unit : (a b c : ℕ) → code_unit a b c 10 ≡ None
unfolding code_unit
no_unit a b c = rw (and-false (is_digit a 16 && is_digit b 16 && is_digit c 16)) refl

content-ended : (w : Within) (t : List ℕ) → content w (ended t) ≡ content w t
unfolding content short_escape
content-ended plain [] = refl
content-ended plain (x ∷ xs) =
    λ i. cond (x == 34) (Some []) (cond (x == 92) (content-ended after_backslash xs i) (cond (nat_lt x 32) None (prepend (x ∷ []) (content-ended plain xs i))))
content-ended after_backslash [] = refl
content-ended after_backslash (x ∷ xs) =
    λ i. cond (x == 117) (content-ended after_u xs i) (option_and_then (λ c. prepend (c ∷ []) (content-ended plain xs i)) (short_escape x))
content-ended after_u [] = refl
content-ended after_u (a ∷ []) = refl
content-ended after_u (a ∷ b ∷ []) = refl
content-ended after_u (a ∷ b ∷ c ∷ []) = rw (no_unit a b c) refl
content-ended after_u (a ∷ b ∷ c ∷ d ∷ xs) =
    λ i. option_and_then (λ u. cond (is_high_surrogate u) (content-ended (after_high u) xs i)
    (cond (is_low_surrogate u) None (prepend (encode_utf8 u) (content-ended plain xs i)))) (code_unit a b c d)
content-ended (after_high h) [] = refl
content-ended (after_high h) (s ∷ []) = refl
content-ended (after_high h) (s ∷ u ∷ []) = refl
content-ended (after_high h) (s ∷ u ∷ a ∷ []) = refl
content-ended (after_high h) (s ∷ u ∷ a ∷ b ∷ []) = refl
content-ended (after_high h) (s ∷ u ∷ a ∷ b ∷ c ∷ []) = rw (no_unit a b c) (elim ((s == 92) && (u == 117)) as (λ b. cond {A = Option (List ℕ)} b None None
    ≡ None) [ true ↦ refl | false ↦ refl ])
content-ended (after_high h) (s ∷ u ∷ a ∷ b ∷ c ∷ d ∷ xs) =
    λ i. cond ((s == 92) && (u == 117)) (option_and_then (λ l. cond (is_low_surrogate l) (prepend (encode_utf8 (surrogate_pair h l)) (content-ended plain xs i))
    None) (code_unit a b c d)) None

-- words ---------------------------------------------------------------------------------------------------------------

ends_word-ended : (t : List ℕ) → ends_word (ended t) ≡ ends_word t
ends_word-ended [] = refl
ends_word-ended (x ∷ t) = refl

-- no line end stands in a name
abbrev IsOneLine : List ℕ → Type 0
IsOneLine [] = Unit {0}
IsOneLine (n ∷ ns) = (nat_eq n 10 ≡ false) × IsOneLine ns

abbrev begins : List ℕ → List ℕ → Bool
begins name t = pointwise nat_eq name (take (length name) t) && ends_word (drop (length name) t)

begins-ended : (name t : List ℕ) → IsOneLine name → begins name (ended t) ≡ begins name t
begins-ended [] t one = ends_word-ended t
begins-ended (n ∷ ns) [] one = rw one.0 refl
begins-ended (n ∷ ns) (x ∷ t) one = by (nat_eq n x) (begins-ended ns t one.1)
  where
    by : (b : Bool) → begins ns (ended t) ≡ begins ns t
        → ((b && pointwise nat_eq ns (take (length ns) (ended t))) && ends_word (drop (length ns) (ended t))) ≡ ((b && pointwise nat_eq ns (take (length ns) t))
        && ends_word (drop (length ns) t))
    by true rest = rest
    by false rest = refl

literal-ended : (name : List ℕ) (of : Token) (t : List ℕ) → IsOneLine name → literal name of (ended t) ≡ literal name of t
literal-ended name of t one = ap (λ b. cond b of bad) (begins-ended name t one)

-- what a part of a number leaves, with the line end behind it
abbrev more : Option (List ℕ) → Option (List ℕ)
more rest = option_map ended rest

digits-ended : (t : List ℕ) → prefix_len is_ascii_digit (ended t) ≡ prefix_len is_ascii_digit t
digits-ended [] = refl
digits-ended (x ∷ t) = ap (λ n. cond (is_ascii_digit x) (1 + n) 0) (digits-ended t)

drop-ended : (t : List ℕ) → drop (prefix_len is_ascii_digit t) (ended t) ≡ ended (drop (prefix_len is_ascii_digit t) t)
drop-ended [] = refl
drop-ended (x ∷ t) = by (is_ascii_digit x) (prefix_len is_ascii_digit t) (drop-ended t)
  where
    by : (b : Bool) (n : ℕ) → drop n (ended t) ≡ ended (drop n t) → drop (cond b (1 + n) 0) (ended (x ∷ t)) ≡ ended (drop (cond b (1 + n) 0) (x ∷ t))
    by true n rest = let one : 1 + n ≡ suc n = omega arith in rw one rest
    by false n rest = refl

after_digits-ended : (t : List ℕ) → after_digits (ended t) ≡ more (after_digits t)
after_digits-ended t = rw (digits-ended t) (by (prefix_len is_ascii_digit t == 0) (drop-ended t))
  where
    by : (b : Bool) → drop (prefix_len is_ascii_digit t) (ended t) ≡ ended (drop (prefix_len is_ascii_digit t) t)
        → cond b None (Some (drop (prefix_len is_ascii_digit t) (ended t))) ≡ more (cond b None (Some (drop (prefix_len is_ascii_digit t) t)))
    by true e = refl
    by false e = ap Some e

after_minus-ended : (t : List ℕ) → after_minus (ended t) ≡ ended (after_minus t)
after_minus-ended [] = refl
after_minus-ended (x ∷ t) = elim (x == 45) as (λ b. cond b (ended t) (ended (x ∷ t)) ≡ ended (cond b t (x ∷ t))) [ true ↦ refl | false ↦ refl ]

after_sign-ended : (t : List ℕ) → after_sign (ended t) ≡ ended (after_sign t)
after_sign-ended [] = refl
after_sign-ended (x ∷ t) = elim ((x == 45) || (x == 43)) as (λ b. cond b (ended t) (ended (x ∷ t)) ≡ ended (cond b t (x ∷ t))) [ true ↦ refl | false ↦ refl ]

after_whole-ended : (t : List ℕ) → after_whole (ended t) ≡ more (after_whole t)
after_whole-ended [] = refl
after_whole-ended (x ∷ t) = by (x == 48) (after_digits-ended (x ∷ t))
  where
    by : (b : Bool) → after_digits (ended (x ∷ t)) ≡ more (after_digits (x ∷ t)) → cond b (Some (ended t)) (after_digits (ended (x ∷ t)))
        ≡ more (cond b (Some t) (after_digits (x ∷ t)))
    by true e = refl
    by false e = e

after_fraction-ended : (t : List ℕ) → after_fraction (ended t) ≡ more (after_fraction t)
after_fraction-ended [] = refl
after_fraction-ended (x ∷ t) = by (x == 46) (after_digits-ended t)
  where
    by : (b : Bool) → after_digits (ended t) ≡ more (after_digits t) → cond b (after_digits (ended t)) (Some (ended (x ∷ t)))
        ≡ more (cond b (after_digits t) (Some (x ∷ t)))
    by true e = e
    by false e = refl

after_exponent-ended : (t : List ℕ) → after_exponent (ended t) ≡ more (after_exponent t)
after_exponent-ended [] = refl
after_exponent-ended (x ∷ t) = by ((x == 101) || (x == 69)) (ap after_digits (after_sign-ended t) ∙ after_digits-ended (after_sign t))
  where
    by : (b : Bool) → after_digits (after_sign (ended t)) ≡ more (after_digits (after_sign t))
        → cond b (after_digits (after_sign (ended t))) (Some (ended (x ∷ t))) ≡ more (cond b (after_digits (after_sign t)) (Some (x ∷ t)))
    by true e = e
    by false e = refl

then-ended : (f : List ℕ → Option (List ℕ)) → ((t : List ℕ) → f (ended t) ≡ more (f t)) → (o : Option (List ℕ)) → option_and_then f (more o)
    ≡ more (option_and_then f o)
then-ended f each None = refl
then-ended f each (Some t) = each t

after_number-ended : (t : List ℕ) → after_number (ended t) ≡ more (after_number t)
unfolding after_number
after_number-ended t =
    let whole = ap after_whole (after_minus-ended t) ∙ after_whole-ended (after_minus t) in
    let fraction = ap (option_and_then after_fraction) whole ∙ then-ended after_fraction after_fraction-ended (after_whole (after_minus t)) in
    ap (option_and_then after_exponent) fraction ∙ then-ended after_exponent after_exponent-ended (option_and_then after_fraction (after_whole (after_minus t)))

number-ended : (t : List ℕ) (rest : Option (List ℕ)) → number_before (ended t) (more rest) ≡ number_before t rest
number-ended t None = refl
number-ended t (Some rest) =
    let size : length (ended t) - length (ended rest) ≡ length t - length rest = omega (arith, length-append t (10 ∷ []), length-append rest (10 ∷ [])) in
    let within : length t - length rest ≤ length t = omega arith in
    let digits : take (length (ended t) - length (ended rest)) (ended t) ≡ take (length t - length rest) t =
    ap (λ n. take n (ended t)) size ∙ take-append-le (length t - length rest) t (10 ∷ []) within in
    ap₂ (λ b s. cond b (number s) bad) (ends_word-ended rest) digits

word-ended : (x : ℕ) (t : List ℕ) → word (x ∷ ended t) ≡ word (x ∷ t)
unfolding word
word-ended x t =
    let u = x ∷ t in
    let as_number : number_before (ended u) (after_number (ended u)) ≡ number_before u (after_number u) =
    ap (number_before (ended u)) (after_number-ended u) ∙ number-ended u (after_number u) in
    λ i. cond (x == 116) (literal-ended (116 ∷ 114 ∷ 117 ∷ 101 ∷ []) (boolean true) u (refl, (refl, (refl, (refl, tt)))) i)
    (cond (x == 102) (literal-ended (102 ∷ 97 ∷ 108 ∷ 115 ∷ 101 ∷ []) (boolean false) u (refl, (refl, (refl, (refl, (refl, tt))))) i)
    (cond (x == 110) (literal-ended (110 ∷ 117 ∷ 108 ∷ 108 ∷ []) null u (refl, (refl, (refl, (refl, tt)))) i) (as_number i)))

-- a whole text ----------------------------------------------------------------------------------------------------------

byte-ended : (m : Mode) (c : Class) (x : ℕ) (t : List ℕ) (k l : Mode → List Lexeme) → ((n : Mode) → k n ≡ l n) → lex_byte m c x (ended t) k ≡ lex_byte m c x t l
byte-ended between quote x t k l same = ap₂ (λ s rest. token (string_token s) ∷ rest) (content-ended plain t) (same in_string)
byte-ended between backslash x t k l same = ap (λ rest. token bad ∷ rest) (same in_word)
byte-ended between operator x t k l same = ap (λ rest. operator_lexeme x ∷ rest) (same between)
byte-ended between space x t k l same = same between
byte-ended between other x t k l same = ap₂ (λ w rest. token w ∷ rest) (word-ended x t) (same in_word)
byte-ended in_word quote x t k l same = same in_word
byte-ended in_word backslash x t k l same = same in_word
byte-ended in_word operator x t k l same = ap (λ rest. operator_lexeme x ∷ rest) (same between)
byte-ended in_word space x t k l same = same between
byte-ended in_word other x t k l same = same in_word
byte-ended in_string quote x t k l same = same between
byte-ended in_string backslash x t k l same = same in_escape
byte-ended in_string operator x t k l same = same in_string
byte-ended in_string space x t k l same = same in_string
byte-ended in_string other x t k l same = same in_string
byte-ended in_escape c x t k l same = same in_string

lex-ended : (m : Mode) (t : List ℕ) → lex m (ended t) ≡ lex m t
unfolding lex
lex-ended between [] = refl
lex-ended in_word [] = refl
lex-ended in_string [] = refl
lex-ended in_escape [] = refl
lex-ended m (x ∷ t) = byte-ended m (class x) x t (λ n. lex n (ended t)) (λ n. lex n t) (λ n. lex-ended n t)

read-ended : (t : List ℕ) → read (ended t) ≡ read t
read-ended t = ap (λ (ls : List Lexeme). option_and_then of_json (option_and_then (λ p. json.if_last p.0 p.1) (json.value max_depth (punctuate fresh ls))))
    (lex-ended between t)

utf8-ended : (t : List ℕ) → is_utf8 t ≡ true → is_utf8 (ended t) ≡ true
utf8-ended t h = is_utf8-from_IsUtf8 (ended t) (IsUtf8-append t (10 ∷ []) (IsUtf8-from_is_utf8 t h) (IsUtf8-are_ascii (10 ∷ []) refl))

office-ended : (t : List ℕ) → is_utf8 t ≡ true → office_in (ended t) ≡ office_in t
unfolding office_in
office-ended t h = rw (utf8-ended t h, h) (ap office_if_read (read-ended t))

no_office : (t : List ℕ) → is_utf8 t ≡ false → office_in t ≡ Err NotJson
unfolding office_in
no_office t h = rw h refl

pub draft-ended : (t : List ℕ) (o : Office) → draft_in t ≡ Ok o → draft_in (ended t) ≡ Ok o
unfolding draft_in
draft-ended t o is = by (is_utf8 t) refl
  where
    standing : Result OfficeText TextFault → Result Office TextFault
    standing read = read >>= λ text. if_standing (whole_office text)

    by : (b : Bool) → is_utf8 t ≡ b → draft_in (ended t) ≡ Ok o
    by true e = ap standing (office-ended t e) ∙ is
    by false e = let never : ◌≡◌ {A = Result Office TextFault} (Err NotJson) (Ok o) = sym (ap standing (no_office t e)) ∙ is in cc

pub known-ended : (t : List ℕ) (o : Office) → draft_in t ≡ Ok o → known_in (ended t) ≡ known_in t
unfolding draft_in known_in
known-ended t o is = by (is_utf8 t) refl
  where
    standing : Result OfficeText TextFault → Result Office TextFault
    standing read = read >>= λ text. if_standing (whole_office text)

    by : (b : Bool) → is_utf8 t ≡ b → known_if_read (office_in (ended t)) ≡ known_if_read (office_in t)
    by true e = ap known_if_read (office-ended t e)
    by false e = absurd (let never : ◌≡◌ {A = Result Office TextFault} (Err NotJson) (Ok o) = sym (ap standing (no_office t e)) ∙ is in cc)

pub opened-ended : (t : List ℕ) (o : Office) → draft_in t ≡ Ok o → opened_in (ended t) ≡ opened_in t
unfolding opened_in
opened-ended t o is = rw (draft-ended t o is, is, known-ended t o is) refl
