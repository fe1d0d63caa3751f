-- SQL reads a text in quotes as that text.
use Rattle.std.proofs.Common.{◌≡◌, ◌∙◌, ℕ, List, [], ◌∷◌, ◌++◌, Bool, true, false, Some, ap, arith, refl}
use Rattle.std.specs.Prelude.{nat_eq}
use Rattle.std.specs.List.{flat_map}
use Rattle.std.proofs.lemmas.Bool.Decides.{nat_tests}
use Rattle.clr_sql.specs.Quoting.{begins_with, behind_byte, quoted, quoted_byte, read_quoted, read_within}
use Rattle.clr_sql.specs.Laws.{QuotingLaw}

-- a byte that is no quote is one of the text
other_byte : (quote a : ℕ) (rest : List ℕ) → nat_eq a quote ≡ false → read_within quote (a ∷ rest) ≡ behind_byte a (read_within quote rest)
other_byte quote a [] e = rw e refl
other_byte quote a (b ∷ rest) e = rw e refl

-- two quotes are one of the text
two_quotes : (quote : ℕ) (rest : List ℕ) → read_within quote (quote ∷ quote ∷ rest) ≡ behind_byte quote (read_within quote rest)
two_quotes quote rest = let e : nat_eq quote quote ≡ true = grind (arith, nat_tests) in rw e refl

-- a quote that no other follows closes the text
closing_quote : (quote : ℕ) (rest : List ℕ) → begins_with quote rest ≡ false → read_within quote (quote ∷ rest) ≡ Some ([], rest)
closing_quote quote [] other = let e : nat_eq quote quote ≡ true = grind (arith, nat_tests) in rw e refl
closing_quote quote (b ∷ rest) other = let e : nat_eq quote quote ≡ true = grind (arith, nat_tests) in rw (e, other) refl

within : (quote : ℕ) (text rest : List ℕ) → begins_with quote rest ≡ false
    → read_within quote ((flat_map (quoted_byte quote) text ++ quote ∷ []) ++ rest) ≡ Some (text, rest)
within quote [] rest other = closing_quote quote rest other
within quote (a ∷ text) rest other = by (within quote text rest other) (nat_eq a quote) refl
  where
    behind : List ℕ
    behind = (flat_map (quoted_byte quote) text ++ quote ∷ []) ++ rest

    by : read_within quote behind ≡ Some (text, rest) → (b : Bool) → nat_eq a quote ≡ b
        → read_within quote ((flat_map (quoted_byte quote) (a ∷ text) ++ quote ∷ []) ++ rest) ≡ Some (a ∷ text, rest)
    by again true e =
        let same : quote ≡ a = grind (arith, nat_tests) in
        rw e (two_quotes quote behind ∙ ap (behind_byte quote) again ∙ ap (λ byte. Some (byte ∷ text, rest)) same)
    by again false e = rw e (other_byte quote a behind e ∙ ap (behind_byte a) again)

pub quoting : QuotingLaw
quoting quote text rest other =
    let e : nat_eq quote quote ≡ true = grind (arith, nat_tests) in
    rw e (within quote text rest other)
