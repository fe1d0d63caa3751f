-- Texts behind texts.
use Rattle.std.proofs.Common.{◌≡◌, ◌∙◌, ◌++◌, ◌==◌, ◌+◌, ◌<◌, ℕ, Bool, false, true, cond, List, [], ◌∷◌, add-one, ap, append_assoc, arith, codes}
use Rattle.std.proofs.Common.{Result, Ok, Err, drop, drop-cons, get_or, length, length-append, refl, sym}
use Rattle.std.specs.Prelude.{OnOk, decimal, if◌then◌else◌}
use Rattle.std.specs.Result.{is_ok}
use Rattle.std.specs.List.{enumerate_from, flat_map}
use Rattle.std.proofs.lemmas.Bool.Decides.{Decides-eqb}
use Rattle.clr_member_changes.specs.declared.counts.Counts.{Counts}
use Rattle.clr_workspaces.specs.Marks.{Name}
use Rattle.clr_page_parts.specs.Counts.{counts_text}
use Rattle.clr_page_parts.specs.Shown.{Paragraph, said}
use Rattle.clr_board_page.specs.Clashes.{helps_words}
use Rattle.clr_board_page.specs.Links.{designs_text}
use Rattle.clr_board_page.specs.States.{waiting_text}

module _ {X : Type 0} where
  -- a text that is added last: whether there was memory for it is whether there was some for the whole
  pub last_text : {T E : Type 0} (r : Result T E) (end with without : List X) → end ≡ (if is_ok r then with else without) → OnOk r (end ≡ with)
  last_text (Ok x) end with without is = is
  last_text (Err e) end with without is = tt

  -- two texts
  pub two_texts : (old first second mid end : List X) → mid ≡ old ++ first → end ≡ mid ++ second → end ≡ old ++ (first ++ second)
  two_texts old first second mid end one other = other ∙ ap (λ text. text ++ second) one ∙ append_assoc old first second

  -- four texts, from the last one on
  pub four_texts : (a b c d : List X) → a ++ (b ++ (c ++ d)) ≡ a ++ b ++ c ++ d
  four_texts a b c d = sym (append_assoc (a ++ b) c d ∙ append_assoc a b (c ++ d))

  -- seven texts
  pub seven_texts : (old a b c d e f g one two three four five six end : List X) → one ≡ old ++ a → two ≡ one ++ b → three ≡ two ++ c → four ≡ three ++ d
      → five ≡ four ++ e → six ≡ five ++ f → end ≡ six ++ g → end ≡ old ++ (a ++ b ++ c ++ d ++ e ++ f ++ g)
  seven_texts old a b c d e f g one two three four five six end h i j k l m n =
      two_texts old (a ++ b ++ c ++ d ++ e ++ f) g six end (two_texts old (a ++ b ++ c ++ d ++ e) f five six (two_texts old (a ++ b ++ c ++ d) e four five
      (two_texts old (a ++ b ++ c) d three four (two_texts old (a ++ b) c two three (two_texts old a b one two h i) j) k) l) m) n

-- words that end in a letter are a paragraph
pub said_some : (words : List ℕ) (letter : ℕ) (more : List ℕ) → said (words ++ letter ∷ more) ≡ Paragraph (words ++ letter ∷ more) ∷ []
said_some words letter more = by (length (words ++ letter ∷ more) == 0) refl
  where
    by : (b : Bool) → (length (words ++ letter ∷ more) == 0) ≡ b
        → cond b [] (Paragraph (words ++ letter ∷ more) ∷ []) ≡ Paragraph (words ++ letter ∷ more) ∷ []
    by true e = absurd (omega (arith, length-append words (letter ∷ more), (Decides-eqb (length (words ++ letter ∷ more)) 0).0 e))
    by false e = refl

pub counts_said : (k : Counts) → said (counts_text k) ≡ Paragraph (counts_text k) ∷ []
counts_said k =
    said_some (decimal k.added ++ codes " added, " ++ decimal k.changed ++ codes " changed, " ++ decimal k.removed) 32 (codes "removed")

-- designs that help, behind words for them
pub some_help : (names : List Name) (helpers : List ℕ) (old mid end : List ℕ) → (length helpers == 0) ≡ false
    → mid ≡ old ++ codes "Each of these helps, if it is merged first: " → end ≡ mid ++ designs_text names helpers → end ≡ old ++ helps_words names helpers
some_help names [] old mid end some one other = absurd (cc)
some_help names (x ∷ xs) old mid end some one other =
    two_texts old (codes "Each of these helps, if it is merged first: ") (designs_text names (x ∷ xs)) mid end one other

-- a design that waits, where no order is found
pub waits_told : (names : List Name) (earlier helpers : List ℕ) (old mid end : List ℕ) → (length earlier == 0) ≡ true
    → mid ≡ old ++ codes "<b>waits</b>; each of these helps: " → end ≡ mid ++ designs_text names helpers
    → end ≡ old ++ waiting_text names earlier helpers
waits_told names [] helpers old mid end none one other =
    two_texts old (codes "<b>waits</b>; each of these helps: ") (designs_text names helpers) mid end one other
waits_told names (x ∷ xs) helpers old mid end none one other = absurd (omega (arith, (Decides-eqb (length (x ∷ xs)) 0).0 none))

-- and where one is found
pub goes_told : (names : List Name) (earlier helpers : List ℕ) (old mid end : List ℕ) → (length earlier == 0) ≡ false
    → mid ≡ old ++ codes "<b>goes after</b> " → end ≡ mid ++ designs_text names earlier → end ≡ old ++ waiting_text names earlier helpers
goes_told names [] helpers old mid end some one other = absurd (cc)
goes_told names (x ∷ xs) helpers old mid end some one other =
    two_texts old (codes "<b>goes after</b> ") (designs_text names (x ∷ xs)) mid end one other

-- the next of numbered elements is told; what is told so far, with what is left, is all
pub told_on : {X Y : Type 0} (f : ℕ × X → List Y) (xs : List X) (at : ℕ) (x : X) (so next all : List Y) → at < length xs → x ≡ get_or xs at x
    → next ≡ so ++ f (at, x) → so ++ flat_map f (enumerate_from at (drop at xs)) ≡ all → next ++ flat_map f (enumerate_from (at + 1) (drop (at + 1) xs)) ≡ all
told_on f xs at x so next all within is added whole =
    ap (λ text. text ++ flat_map f (enumerate_from (at + 1) (drop (at + 1) xs))) (added ∙ ap (λ y. so ++ f (at, y)) is)
    ∙ append_assoc so (f (at, get_or xs at x)) (flat_map f (enumerate_from (at + 1) (drop (at + 1) xs)))
    ∙ ap (λ k. so ++ (f (at, get_or xs at x) ++ flat_map f (enumerate_from (at + 1) (drop k xs)))) (add-one at)
    ∙ ap (λ rest. so ++ flat_map f (enumerate_from at rest)) (sym (drop-cons xs at x within)) ∙ whole
