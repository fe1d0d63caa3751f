-- Rows beside which a book fits, and some of them.
use Rattle.std.proofs.Common.{◌≡◌, ◌<◌, ◌+◌, ◌∙◌, inl, inr, ℕ, length, map, take, List, [], ◌∷◌, ◌++◌, Option, sym, ap, subst}
use Rattle.std.proofs.lemmas.List.{map-append, take_more}
use Rattle.std.specs.List.{slice_index_or}
use Rattle.std.specs.Prelude.{option_to_list}
use Rattle.clr_rows.specs.declared.cells.Held.{Held as Borrowed}
use Rattle.clr_rows.specs.Held.{Held, held_of}
use Rattle.clr_rules.specs.declared.rules.Rule.{Rule}
use Rattle.clr_rules.specs.Books.{FitTogether}
use Rattle.clr_rules.proofs.Elements.{Among, among_left, among_right}
use Rattle.clr_rules.proofs.Fits.{AreAmong, fit_part}

-- the subjects and one of the rows
pub fit_served : (rules : List Rule) (s r : Held) (t : Option Held) (rows : List Held) → FitTogether rules (s ∷ (option_to_list t ++ rows)) → Among r rows
    → FitTogether rules (s ∷ r ∷ option_to_list t)
fit_served rules s r t rows fit h = fit_part rules (s ∷ r ∷ option_to_list t) (s ∷ (option_to_list t ++ rows)) fit each
  where
    each : AreAmong (s ∷ r ∷ option_to_list t) (s ∷ (option_to_list t ++ rows))
    each x (inl e) = inl e
    each x (inr (inl e)) = inr (among_right x (option_to_list t) rows (subst (λ y. Among y rows) e h))
    each x (inr (inr k)) = inr (among_left x (option_to_list t) rows k)

-- one of the rows beside them all
pub fit_beside : (rules : List Rule) (s r : Held) (rows : List Held) → FitTogether rules (s ∷ rows) → Among r rows → FitTogether rules (s ∷ r ∷ rows)
fit_beside rules s r rows fit h = fit_part rules (s ∷ r ∷ rows) (s ∷ rows) fit each
  where
    each : AreAmong (s ∷ r ∷ rows) (s ∷ rows)
    each x (inl e) = inl e
    each x (inr (inl e)) = inr (subst (λ y. Among y rows) e h)
    each x (inr (inr k)) = inr k

-- the first row alone
pub fit_first : (rules : List Rule) (s : Held) (rows : List Held) → FitTogether rules (s ∷ rows) → FitTogether rules (s ∷ [])
fit_first rules s rows fit = fit_part rules (s ∷ []) (s ∷ rows) fit each
  where
    each : AreAmong (s ∷ []) (s ∷ rows)
    each x (inl e) = inl e
    each x (inr h) = absurd h

-- the first two rows
pub fit_both : (rules : List Rule) (s t : Held) (rows : List Held) → FitTogether rules (s ∷ t ∷ rows) → FitTogether rules (s ∷ t ∷ [])
fit_both rules s t rows fit = fit_part rules (s ∷ t ∷ []) (s ∷ t ∷ rows) fit each
  where
    each : AreAmong (s ∷ t ∷ []) (s ∷ t ∷ rows)
    each x (inl e) = inl e
    each x (inr (inl e)) = inr (inl e)
    each x (inr (inr h)) = absurd h

-- one of the rows before them all
pub fit_again : (rules : List Rule) (s : Held) (rows : List Held) → FitTogether rules rows → Among s rows → FitTogether rules (s ∷ rows)
fit_again rules s rows fit h = fit_part rules (s ∷ rows) rows fit each
  where
    each : AreAmong (s ∷ rows) rows
    each x (inl e) = subst (λ y. Among y rows) e h
    each x (inr k) = k

-- the rows up to one of them
pub rows_more : (rows : List Borrowed) (k : ℕ) (row : Borrowed) → k < length rows → row ≡ slice_index_or rows k row → map held_of (take (k + 1) rows)
    ≡ map held_of (take k rows) ++ held_of row ∷ []
rows_more rows k row less is = ap (map held_of) (take_more rows k row less ∙ ap (λ r. take k rows ++ r ∷ []) (sym is))
    ∙ map-append held_of (take k rows) (row ∷ [])
