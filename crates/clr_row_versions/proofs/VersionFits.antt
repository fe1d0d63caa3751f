-- Versions of a setting that fits a schema fit it, one or more together.
use Rattle.std.proofs.Common.{◌≡◌, ℕ, true, List, [], ◌∷◌, All, Option, Some, None, sym, subst}
use Rattle.std.specs.Prelude.{option_to_list, option_map}
use Rattle.std.proofs.lemmas.List.Elements.{All-nil, All-cons}
use Rattle.clr_rows.specs.Contents.{Changes, Content}
use Rattle.clr_rows.specs.Held.{Held}
use Rattle.clr_rules.specs.declared.rules.Rule.{Rule}
use Rattle.clr_rules.specs.Books.{FitTogether, FitsCell}
use Rattle.clr_row_versions.specs.declared.versions.Version.{Version}
use Rattle.clr_needs.specs.Members.{setting}
use Rattle.clr_needs.specs.Settings.{Setting, version}
use Rattle.clr_row_versions.specs.Versions.{FitNewRows, FitsSetting, IsAt, IsAtIfAny, row_and_life, row_of, version_of}

module _ (c : Setting ℕ) (fits : FitsSetting c) where
  abbrev Fits : Held → Type 0
  Fits x = FitsCell fits.tables x

  fits_cell : (v : Version) (x : Held) → IsAt c v → x ≡ row_of v → Fits x
  fits_cell v x at is = subst Fits (sym is) (fits.each v.id (row_and_life v) at)

  fits_too : (v : Option Version) (x : Option Held) → IsAtIfAny c v → x ≡ option_map row_of v → All Fits (option_to_list x)
  fits_too v None at is = All-nil Fits
  fits_too None (Some x) at is = cc
  fits_too (Some v) (Some x) at is = All-cons Fits x [] (fits_cell v x at cc) (All-nil Fits)

  together : (rows : List Held) → All Fits rows → FitTogether c.rules rows
  together rows all = record { tables = fits.tables; book = fits.book; each = all }

  pub fit_one : (v : Version) (x : Held) → IsAt c v → x ≡ row_of v → FitTogether c.rules (x ∷ [])
  fit_one v x at is = together (x ∷ []) (All-cons Fits x [] (fits_cell v x at is) (All-nil Fits))

  pub fit_two : (v w : Version) (x y : Held) → IsAt c v → IsAt c w → x ≡ row_of v → y ≡ row_of w → FitTogether c.rules (x ∷ y ∷ [])
  fit_two v w x y at at_too is is_too =
      together (x ∷ y ∷ []) (All-cons Fits x (y ∷ []) (fits_cell v x at is) (All-cons Fits y [] (fits_cell w y at_too is_too) (All-nil Fits)))

  pub fit_three : (v w : Version) (u : Option Version) (x y : Held) (z : Option Held) → IsAt c v → IsAt c w → IsAtIfAny c u → x ≡ row_of v → y ≡ row_of w → z
      ≡ option_map row_of u
      → FitTogether c.rules (x ∷ y ∷ option_to_list z)
  fit_three v w u x y z at at_too at_third is is_too is_third =
      let rest = All-cons Fits y (option_to_list z) (fits_cell w y at_too is_too) (fits_too u z at_third is_third) in
      together (x ∷ y ∷ option_to_list z) (All-cons Fits x (y ∷ option_to_list z) (fits_cell v x at is) rest)

-- the rows that members bring are among the versions
pub fit_new_rows : (rules : List Rule) (root : Content) (sets : List Changes) → FitsSetting (setting rules root sets) → FitNewRows rules sets
unfolding version
fit_new_rows rules root sets fits q l is =
    record {
      tables = fits.tables;
      book = fits.book;
      each = All-cons (FitsCell fits.tables) (q, l.row) [] (fits.each (version_of true q) l is)
          (All-nil (FitsCell fits.tables));
    }
