-- The values of a row are read from their fields again, which are in UTF-8.
use Rattle.std.proofs.Common.{◌≡◌, true, List, [], ◌∷◌, map, Some, refl}
use Rattle.std.specs.Prelude.{IsUtf8}
use Rattle.std.specs.List.{AllByRecursion, list_all}
use Rattle.std.proofs.lemmas.Bool.{and_parts}
use Rattle.clr_rows.specs.declared.rows.Value.{Value}
use Rattle.clr_rows.specs.declared.rows.Value.TheVariants.{Int, Words}
use Rattle.clr_rows.specs.declared.tables.Kind.{Kind}
use Rattle.clr_rows.specs.declared.tables.Kind.TheVariants as kind
use Rattle.clr_rows.specs.Numbers.{is_i64}
use Rattle.clr_rows.specs.Schemas.{is_number, is_of_kind}
use Rattle.clr_records.specs.Values.{IsText, value_field, value_of_kind}
use Rattle.clr_records.proofs.Decimals.{number_again}
use Rattle.clr_records.proofs.Utf8.{number_utf8}

pub value_again : (k : Kind) (value : Value) → is_of_kind k value ≡ true → is_number value ≡ true → value_of_kind k (value_field value) ≡ Some value
value_again kind.Int (Int n) of number = rw (number_again n number) refl
value_again kind.Int (Words text) of number = absurd cc
value_again kind.Words (Int n) of number = absurd cc
value_again kind.Words (Words text) of number = refl

pub values_utf8 : (values : List Value) → list_all is_number values ≡ true → AllByRecursion IsText values → AllByRecursion IsUtf8 (map value_field values)
values_utf8 [] numbers texts = tt
values_utf8 (Int n ∷ values) numbers texts = let t = and_parts (is_i64 n) (list_all is_number values) numbers in
    (number_utf8 n t.0, values_utf8 values t.1 texts.1)
values_utf8 (Words text ∷ values) numbers texts = (texts.0, values_utf8 values numbers texts.1)
