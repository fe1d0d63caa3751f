-- What is written of an office is read as the same.
use Rattle.std.proofs.Common.{◌≡◌, ℕ, List, ◌∷◌, Some, None, Ok, refl, ap, ◌∙◌}
use Rattle.std.specs.Str.{IsUtf8}
use Rattle.std.proofs.lemmas.Str.{is_utf8-from_IsUtf8}
use Rattle.json.specs.Lex.{tokens}
use Rattle.serde_json.specs.Data.{Data}
use Rattle.serde_json.specs.Read.{read}
use Rattle.clr_rows.specs.Schemas.{schema_fault}
use Rattle.clr_workspaces.specs.Workspaces.{live_workspace}
use Rattle.clr_workspaces.specs.Soundness.{IsSound}
use Rattle.clr_steps.specs.Offices.{Office}
use Rattle.clr_engine.specs.Fitting.{IsFitting}
use Rattle.clr_office_reading.specs.Fits.{FitsOffice}
use Rattle.clr_office_reading.specs.Offices.{known_if_read, known_in, office_in}
use Rattle.clr_office_writing.specs.OfficeData.{office_data}
use Rattle.clr_office_writing.specs.Tokens.{tokens_of}
use Rattle.clr_office_writing.proofs.OfficesRead.{offices_read}
use Rattle.clr_office_writing.proofs.Reread.{text_reread}
use Rattle.clr_office_texts.specs.BrokenNow.{broken_now}
use Rattle.clr_office_texts.specs.Drafts.{draft_in, if_standing, opened_in, whole_office}
use Rattle.clr_office_texts.proofs.Standing.{stands}
use Rattle.clr_office_texts.specs.Writing.{text_of}
use Rattle.clr_office_texts.proofs.BrokenNowLemmas.{held_now, known_fits}
use Rattle.clr_office_texts.proofs.Places.{have_parents, text_fits, workspaces_again}
use Rattle.clr_office_texts.proofs.StandingParts.{no_fault}

module _ (o : Office) where
  text_stands : schema_fault o.schema ≡ None → IsFitting o → FitsOffice (text_of o)
  text_stands schema fit = record { schema = schema; book = fit.book; live = fit.rows.live; deltas = text_fits o fit.rows }

  read_again : (bytes : List ℕ) (d : Data) → IsUtf8 bytes → read bytes ≡ Some d → d ≡ office_data (text_of o) → schema_fault o.schema ≡ None → IsFitting o
      → IsSound (live_workspace o.live ∷ o.workspaces) → office_in bytes ≡ Ok (text_of o)
  unfolding office_in
  read_again bytes d utf8 is is_data schema fit sound = rw (is_utf8-from_IsUtf8 bytes utf8, is, is_data) (offices_read (text_of o) (text_stands schema fit)
      (known_fits o fit.rows) (have_parents o sound))

  whole_again : IsSound (live_workspace o.live ∷ o.workspaces) → whole_office (text_of o) ≡ o
  whole_again sound = ap (λ ws. record o { workspaces = ws }) (workspaces_again o sound)

  pub drafted_again : (bytes : List ℕ) → IsUtf8 bytes → tokens bytes ≡ tokens_of (office_data (text_of o)) → schema_fault o.schema ≡ None → IsFitting o
      → IsSound (live_workspace o.live ∷ o.workspaces) → draft_in bytes ≡ Ok o
  unfolding draft_in
  drafted_again bytes utf8 is schema fit sound =
      rw (read_again bytes (office_data (text_of o)) utf8 (text_reread (text_of o) bytes (text_stands schema fit) (known_fits o fit.rows) is) refl schema fit sound)
      (ap if_standing (whole_again sound) ∙ stands o (no_fault o.live o.workspaces sound))

  -- the needs that the text names are those that are broken
  pub known_again : (bytes : List ℕ) → IsUtf8 bytes → tokens bytes ≡ tokens_of (office_data (text_of o)) → schema_fault o.schema ≡ None → IsFitting o
      → IsSound (live_workspace o.live ∷ o.workspaces) → known_in bytes ≡ broken_now o
  unfolding known_in
  known_again bytes utf8 is schema fit sound =
      ap known_if_read (read_again bytes (office_data (text_of o)) utf8 (text_reread (text_of o) bytes (text_stands schema fit) (known_fits o fit.rows) is) refl
      schema fit sound)

  -- and it is admitted
  pub admitted_again : (bytes : List ℕ) → draft_in bytes ≡ Ok o → known_in bytes ≡ broken_now o → opened_in bytes ≡ Ok (o, None)
  unfolding opened_in
  admitted_again bytes drafted known = rw (drafted, known, held_now o) refl
