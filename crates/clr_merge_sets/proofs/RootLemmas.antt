-- A root that is kept: where an office has it, its rows and its finder.
use Rattle.std.proofs.Common.{◌≡◌, ℕ, Bool, true, false, cond, Option, Some, None, Bor, refl, sym, ap, ◌∙◌, subst}
use Rattle.std.specs.Option.{IfSome, IsSome, is_some, option_copied}
use Rattle.std.proofs.lemmas.Bool.{false≢true}
use Rattle.clr_rows.specs.Contents.{Content}
use Rattle.clr_workspaces.specs.Marks.{Name}
use Rattle.clr_finders.specs.RowMaps.{FiledRows}
use Rattle.clr_finders.specs.Sharing.{IsSettledFor}
use Rattle.clr_steps.specs.Offices.{Office, content_of, is_kept, stands}
use Rattle.clr_grid.specs.Finders.{IsFinderAt}
use Rattle.clr_engine.specs.KeptContents.{IsPositionOf, current_at, kept_content_at}
use Rattle.clr_merge_sets.proofs.NameLemmas.{not_kept}

module _ (o : Office) (name : Name) where
  -- what is found under the name, if it is
  pub position_is : (found : Option ℕ) (at : ℕ) → IfSome found (IsPositionOf o name) → found ≡ Some at → IsPositionOf o name at
  position_is found at is e = subst (λ r. IfSome r (IsPositionOf o name)) e is

  pub rows_there : (at : ℕ) (rows : Option Content) → IsPositionOf o name at → rows ≡ current_at o at → IsSome rows
  rows_there at rows is e = ap is_some (e ∙ is.current)

  pub rows_are : (at : ℕ) (rows : Content) → IsPositionOf o name at → Some rows ≡ current_at o at → rows ≡ content_of o name
  rows_are at rows is e = let both : Some rows ≡ Some (content_of o name) = e ∙ is.current in cc

  module _ (kept : is_kept o name ≡ true) where
    pub kept_stands : stands o name ≡ true
    kept_stands = by (stands o name) refl
      where
        by : (b : Bool) → stands o name ≡ b → b ≡ true
        by true e = refl
        by false e = absurd (false≢true (sym (not_kept o name e) ∙ kept))

    -- a finder that has settled the rows
    abbrev pub IsOfRows : Option (Bor FiledRows) → Type 0
    IsOfRows None = ⊥
    IsOfRows (Some finder) = IsSettledFor finder.now.settled o.book (content_of o name)

    pub finder_is : (at : ℕ) (finder : Option (Bor FiledRows)) → IsPositionOf o name at → IsFinderAt o.book (kept_content_at o at) (option_copied finder) →
        IsOfRows finder
    finder_is at finder is e = by finder (subst (λ content. IsFinderAt o.book content (option_copied finder)) (is.kept
        ∙ ap (λ b. cond b (Some (content_of o name)) None) kept) e)
      where
        by : (r : Option (Bor FiledRows)) → IsFinderAt o.book (Some (content_of o name)) (option_copied r) → IsOfRows r
        by None h = absurd h
        by (Some f) h = h.0

    pub finder_there : (finder : Option (Bor FiledRows)) → IsOfRows finder → IsSome finder
    finder_there None h = absurd h
    finder_there (Some f) h = refl
