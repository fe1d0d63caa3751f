-- The value that bytes are, and what is found in it.
use Rattle.std.proofs.Common.{◌≡◌, ℕ, Bool, true, false, cond, List, Some, None, refl}
use Rattle.std.specs.Str.{IsUtf8, is_utf8}
use Rattle.std.proofs.lemmas.Str.{IsUtf8-from_is_utf8, is_utf8-from_IsUtf8}
use Rattle.serde_json.specs.Data.{Data}
use Rattle.serde_json.specs.Read.{read}
use Rattle.clr_rule_text.specs.declared.faults.TextFault.{TextFault}
use Rattle.clr_faults.specs.declared.spots.FaultyItem.{FaultyItem}
use Rattle.clr_faults.specs.declared.spots.FaultyItem.TheVariants.{Whole}
use Rattle.clr_faults.specs.Spots.{IsFaultAt, IsFoundIn, value_in}

pub found_in_value : (bytes : List ℕ) (d : Data) (e : TextFault) (spot : FaultyItem) → IsUtf8 bytes → read bytes ≡ Some d → IsFaultAt d e spot →
    IsFoundIn bytes e spot
unfolding value_in
found_in_value bytes d e spot utf8 is found = rw (is_utf8-from_IsUtf8 bytes utf8, is) found

pub no_value : (bytes : List ℕ) → (IsUtf8 bytes → read bytes ≡ None) → value_in bytes ≡ None
unfolding value_in
no_value bytes none = by (is_utf8 bytes) refl
  where
    by : (test : Bool) → is_utf8 bytes ≡ test → cond test (read bytes) None ≡ None
    by true is = none (IsUtf8-from_is_utf8 bytes is)
    by false is = refl

pub found_in_none : (bytes : List ℕ) (e : TextFault) → (IsUtf8 bytes → read bytes ≡ None) → IsFoundIn bytes e Whole
found_in_none bytes e none = rw (no_value bytes none) refl
