-- Finders, by position, of contents that change.
use Rattle.std.proofs.Common.{◌≡◌, ◌∙◌, ◌++◌, ℕ, zero, suc, List, [], ◌∷◌, length, remove, Option, Some, None, refl, sym, ap, subst, slice_index_or, slice_set}
use Rattle.std.proofs.Common.{unwrap_or}
use Rattle.std.specs.FinMap as finite
use Rattle.std.specs.Option.{option_map}
use Rattle.std.proofs.lemmas.List.{set-get_or}
use Rattle.std.proofs.lemmas.List.Elements.{All-nil, All-cons}
use Rattle.clr_rows.specs.declared.cells.CellId.{CellId}
use Rattle.clr_rows.specs.declared.cells.Change.{Change}
use Rattle.clr_rows.specs.declared.rows.Row.{Row}
use Rattle.clr_rows.specs.Contents.{Changes, Content, row_at, taken_over}
use Rattle.clr_rows.proofs.ChangeLemmas.{after_of, row-taken_over}
use Rattle.clr_rules.specs.Books.{FitTogether, FitsCell, FitsContent}
use Rattle.clr_rules.specs.declared.rules.Rule.{Rule}
use Rattle.clr_finders.specs.declared.row_spots.RuleSpots.{RuleSpots}
use Rattle.clr_finders.specs.RowMaps.{FiledRows}
use Rattle.clr_finders.specs.Sharing.{next_of, row_spots, rows_at}
use Rattle.clr_grid.specs.Finders.{AreFinders, FitAfter, HasForgotten, HasNoted, HasSettled, IsChangedAt, IsFinderAt, IsFinderOf, spots_after}

-- ---- rows that fit

pub content_row : (book : List Rule) (content : Content) → FitsContent book content → (q : CellId) (row : Row) → row_at content q ≡ Some row
    → FitTogether book ((q, row) ∷ [])
content_row book content fit q row is = record {
  tables = fit.tables;
  book = fit.book;
  each = All-cons (FitsCell fit.tables) (q, row) [] (fit.rows q row is)
      (All-nil (FitsCell fit.tables));
}

pub fit_after : (book : List Rule) (content : Content) (changed : Changes) → FitsContent book (taken_over content changed) → FitAfter book changed
fit_after book content changed fit q change is = by change.after refl
  where
    by : (after : Option Row) → change.after ≡ after → FitTogether book (rows_at q after)
    by None e = record { tables = fit.tables; book = fit.book; each = All-nil (FitsCell fit.tables) }
    by (Some row) e = content_row book (taken_over content changed) fit q row (row-taken_over content changed q
        ∙ ap (λ found. unwrap_or (option_map after_of found) (row_at content q)) is ∙ e)

-- ---- one finder

-- what a finder keeps of a row
abbrev pub row_kept : List Rule → CellId → Row → List RuleSpots
row_kept book q row = row_spots book (q, row)

module _ (book : List Rule) (changed : Changes) where
  -- a content with the changes over it, where there is one
  abbrev pub once_changed : Option Content → Option Content
  once_changed = option_map (λ content. taken_over content changed)

  next_is : (content : Content) (old mid new : FiledRows) → IsFinderOf book content old → HasNoted book changed (Some old) (Some mid)
      → HasSettled (Some mid) (Some new)
      → IsFinderOf book (taken_over content changed) new
  next_is content old mid new is noted settled = (λ q. at q, settled.1)
    where
      by : (q : CellId) (change : Option Change) → next_of (option_map (λ row. row_spots book (q, row)) (row_at content q))
          (option_map (spots_after book q) change)
          ≡ option_map (λ row. row_spots book (q, row)) (unwrap_or (option_map after_of change) (row_at content q))
      by q None = refl
      by q (Some change) = refl

      at : (q : CellId) → finite.get new.settled q ≡ option_map (λ row. row_spots book (q, row)) (row_at (taken_over content changed) q)
      at q =
          settled.0 q ∙ (λ i. next_of (finite.get (noted.0 i) q) (noted.1 q i)) ∙ ap (λ o. next_of o (option_map (spots_after book q) (finite.get changed q)))
          (is.0 q)
          ∙ by q (finite.get changed q) ∙ ap (option_map (λ row. row_spots book (q, row))) (sym (row-taken_over content changed q))

  one_settled : (content : Option Content) (old mid new : Option FiledRows) → IsFinderAt book content old → HasNoted book changed old mid → HasSettled mid new
      → IsFinderAt book (once_changed content) new
  one_settled None None None None is noted settled = tt
  one_settled (Some content) (Some old) (Some mid) (Some new) is noted settled = next_is content old mid new is noted settled
  one_settled None (Some old) mid new is noted settled = absurd is
  one_settled (Some content) None mid new is noted settled = absurd is
  one_settled None None (Some mid) new is noted settled = absurd noted
  one_settled None None None (Some new) is noted settled = absurd settled
  one_settled (Some content) (Some old) None new is noted settled = absurd noted
  one_settled (Some content) (Some old) (Some mid) None is noted settled = absurd settled

  one_forgotten : (content : Option Content) (old mid new : Option FiledRows) → IsFinderAt book content old → HasNoted book changed old mid →
      HasForgotten mid new
      → IsFinderAt book content new
  one_forgotten None None None None is noted forgotten = tt
  one_forgotten (Some content) (Some old) (Some mid) (Some new) is noted forgotten = (
    λ q. ap (λ m. finite.get m q) (forgotten.0 ∙ noted.0)
        ∙ is.0 q,
    forgotten.1,
  )
  one_forgotten None (Some old) mid new is noted forgotten = absurd is
  one_forgotten (Some content) None mid new is noted forgotten = absurd is
  one_forgotten None None (Some mid) new is noted forgotten = absurd noted
  one_forgotten None None None (Some new) is noted forgotten = absurd forgotten
  one_forgotten (Some content) (Some old) None new is noted forgotten = absurd noted
  one_forgotten (Some content) (Some old) (Some mid) None is noted forgotten = absurd forgotten

-- ---- finders by position
abbrev pub one_at : {X : Type 0} → List (Option X) → ℕ → Option X
one_at xs at = slice_index_or xs at None

module _ (book : List Rule) where
  pub finder_at : (contents : List (Option Content)) (finders : List (Option FiledRows)) → AreFinders book contents finders → (at : ℕ)
      → IsFinderAt book (one_at contents at) (one_at finders at)
  finder_at [] [] are at = tt
  finder_at [] (f ∷ fs) are at = absurd are
  finder_at (c ∷ cs) [] are at = absurd are
  finder_at (c ∷ cs) (f ∷ fs) are zero = are.0
  finder_at (c ∷ cs) (f ∷ fs) are (suc at) = finder_at cs fs are.1 at

  pub as_many : (contents : List (Option Content)) (finders : List (Option FiledRows)) → AreFinders book contents finders → length finders ≡ length contents
  as_many [] [] are = refl
  as_many [] (f ∷ fs) are = absurd are
  as_many (c ∷ cs) [] are = absurd are
  as_many (c ∷ cs) (f ∷ fs) are = ap suc (as_many cs fs are.1)

  pub one_more : (contents : List (Option Content)) (finders : List (Option FiledRows)) → AreFinders book contents finders
      → (content : Option Content) (finder : Option FiledRows) → IsFinderAt book content finder
      → AreFinders book (contents ++ content ∷ []) (finders ++ finder ∷ [])
  one_more [] [] are content finder is = (is, tt)
  one_more [] (f ∷ fs) are content finder is = absurd are
  one_more (c ∷ cs) [] are content finder is = absurd are
  one_more (c ∷ cs) (f ∷ fs) are content finder is = (are.0, one_more cs fs are.1 content finder is)

  pub one_less : (contents : List (Option Content)) (finders : List (Option FiledRows)) → AreFinders book contents finders → (at : ℕ)
      → AreFinders book (remove contents at) (remove finders at)
  one_less [] [] are zero = tt
  one_less [] [] are (suc at) = tt
  one_less [] (f ∷ fs) are at = absurd are
  one_less (c ∷ cs) [] are at = absurd are
  one_less (c ∷ cs) (f ∷ fs) are zero = are.1
  one_less (c ∷ cs) (f ∷ fs) are (suc at) = (are.0, one_less cs fs are.1 at)

  pub one_set : (contents : List (Option Content)) (finders : List (Option FiledRows)) → AreFinders book contents finders
      → (at : ℕ) (content : Option Content) (finder : Option FiledRows) → IsFinderAt book content finder
      → AreFinders book (slice_set contents at content) (slice_set finders at finder)
  one_set [] [] are at content finder is = tt
  one_set [] (f ∷ fs) are at content finder is = absurd are
  one_set (c ∷ cs) [] are at content finder is = absurd are
  one_set (c ∷ cs) (f ∷ fs) are zero content finder is = (is, are.1)
  one_set (c ∷ cs) (f ∷ fs) are (suc at) content finder is = (are.0, one_set cs fs are.1 at content finder is)

  -- two steps of one of them
  two_steps : (next : Option Content → Option Content) (before after : Option FiledRows → Option FiledRows → Type 0)
      → ((content : Option Content) (old mid new : Option FiledRows) → IsFinderAt book content old → before old mid → after mid new
      → IsFinderAt book (next content) new)
      → (contents : List (Option Content)) (finders : List (Option FiledRows)) → AreFinders book contents finders → (at : ℕ) (mid new : Option FiledRows)
      → before (one_at finders at) mid → after (one_at (slice_set finders at mid) at) new
      → AreFinders book (slice_set contents at (next (one_at contents at))) (slice_set (slice_set finders at mid) at new)
  two_steps next before after one [] [] are at mid new h k = tt
  two_steps next before after one [] (f ∷ fs) are at mid new h k = absurd are
  two_steps next before after one (c ∷ cs) [] are at mid new h k = absurd are
  two_steps next before after one (c ∷ cs) (f ∷ fs) are zero mid new h k = (one c f mid new are.0 h k, are.1)
  two_steps next before after one (c ∷ cs) (f ∷ fs) are (suc at) mid new h k = (are.0, two_steps next before after one cs fs are.1 at mid new h k)

  module _ (contents : List (Option Content)) (old mid new : List (Option FiledRows)) (changed : Changes) (at : ℕ) (are : AreFinders book contents old)
      (noted : IsChangedAt (HasNoted book changed) at old mid) where
    pub all_settled : IsChangedAt HasSettled at mid new → AreFinders book (slice_set contents at (once_changed book changed (one_at contents at))) new
    all_settled settled =
        subst (AreFinders book (slice_set contents at (once_changed book changed (one_at contents at)))) (sym (settled.2
        ∙ ap (λ m. slice_set m at settled.0) noted.2))
        (two_steps (once_changed book changed) (HasNoted book changed) HasSettled (one_settled book changed) contents old are at noted.0 settled.0 noted.1
        (subst (λ m. HasSettled (one_at m at) settled.0) noted.2 settled.1))

    pub all_forgotten : IsChangedAt HasForgotten at mid new → AreFinders book contents new
    all_forgotten forgotten =
        subst (λ cs. AreFinders book cs new) (set-get_or contents at None)
        (subst (AreFinders book (slice_set contents at (one_at contents at))) (sym (forgotten.2 ∙ ap (λ m. slice_set m at forgotten.0) noted.2))
        (two_steps (λ c. c) (HasNoted book changed) HasForgotten (one_forgotten book changed) contents old are at noted.0 forgotten.0 noted.1
        (subst (λ m. HasForgotten (one_at m at) forgotten.0) noted.2 forgotten.1)))
