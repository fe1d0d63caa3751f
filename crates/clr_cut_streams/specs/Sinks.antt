-- What went out to two sinks: one of a text, and one of notes.
use Rattle.std.specs.Prelude.{◌≡◌, ◌⊎◌, ℕ, Bool, true, false, List, Option}
use Rattle.std.specs.Io.KnownBytes.{Appends}

-- what each held before and holds now, where it tells, and whether it has failed
pub record Sinks : Type 0 where
  pub text_held : Option (List ℕ)
  pub text_holds : Option (List ℕ)
  pub text_failed : Bool
  pub notes_held : Option (List ℕ)
  pub notes_hold : Option (List ℕ)
  pub notes_failed : Bool

-- two sinks before and after
abbrev pub sinks_between : {W N : Type 0} → (W → Option (List ℕ)) → (W → Bool) → (N → Option (List ℕ)) → (N → Bool) → (old new : W) → (before after : N)
    → Sinks
sinks_between contents failed noted notes_failed old new before after = record {
  text_held = contents old;
  text_holds = contents new;
  text_failed = failed new;
  notes_held = noted before;
  notes_hold = noted after;
  notes_failed = notes_failed after;
}

-- a text and notes went out
pub record WentOut (sinks : Sinks) (text notes : List ℕ) : Type 0 where
  pub text_out : Appends sinks.text_held sinks.text_holds text
  pub notes_out : Appends sinks.notes_held sinks.notes_hold notes
  pub text_sink : sinks.text_failed ≡ false
  pub notes_sink : sinks.notes_failed ≡ false

abbrev pub HasFailed : Sinks → Type 0
HasFailed sinks = (sinks.text_failed ≡ true) ⊎ (sinks.notes_failed ≡ true)

-- nothing went out
abbrev pub IsSilent : Sinks → Type 0
IsSilent sinks = (sinks.text_holds ≡ sinks.text_held) × (sinks.notes_hold ≡ sinks.notes_held) × (sinks.text_failed ≡ false) × (sinks.notes_failed ≡ false)
