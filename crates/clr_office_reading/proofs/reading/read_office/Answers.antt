use Rattle.std.proofs.Common.{◌≡◌, ℕ, Bool, true, false, cond, List, Option, Some, None, Ok, Err, refl, subst}
use Rattle.std.specs.Str.{IsUtf8, is_utf8}
use Rattle.std.proofs.lemmas.Str.{IsUtf8-from_is_utf8, is_utf8-from_IsUtf8}
use Rattle.serde_json.specs.Data.{Data}
use Rattle.serde_json.specs.Read.{read}
use Rattle.clr_rule_text.specs.declared.faults.TextFault.TheVariants.{NotJson}
use Rattle.clr_readings.specs.Readings.{◌>>=◌}
use Rattle.clr_rule_text.specs.Seen.{seen, value_if_read}
use Rattle.clr_office_reading.specs.Offices.{office_if_read, office_in, office_of}
use Rattle.clr_office_reading.proofs.reading.read_office.Goals as goal

-- the value first, and then the office
value_first : (o : Option Data) → office_if_read o ≡ value_if_read o >>= office_of
value_first None = refl
value_first (Some d) = refl

of_text : (bytes : List ℕ) → IsUtf8 bytes → office_in bytes ≡ value_if_read (read bytes) >>= office_of
unfolding office_in
of_text bytes utf8 = rw (is_utf8-from_IsUtf8 bytes utf8) (value_first (read bytes))

-- bytes that aren't a text
of_no_text : (bytes : List ℕ) → (IsUtf8 bytes → ⊥) → office_in bytes ≡ Err NotJson
unfolding office_in
of_no_text bytes none = by (is_utf8 bytes) refl
  where
    by : (test : Bool) → is_utf8 bytes ≡ test → cond test (office_if_read (read bytes)) (Err NotJson) ≡ Err NotJson
    by true is = absurd (none (IsUtf8-from_is_utf8 bytes is))
    by false is = refl

pub returns-in_default-clause-value : goal.returns-in_default-clause-value
returns-in_default-clause-value c = of_no_text c.args.bytes.now c.in_default.ensures.cases.0

pub returns-clause-value : goal.returns-clause-value
returns-clause-value c =
    let text = c.in-Ok.ensures.cases in
    let found : value_if_read (read c.args.bytes.now) ≡ Ok (seen c.in_ok-json.json) = subst (λ s. value_if_read (read s) ≡ Ok (seen c.in_ok-json.json)) text.0
    c.in_ok-json.ensures in
    rw (of_text c.args.bytes.now text.1, found) c.office.ensures.value
