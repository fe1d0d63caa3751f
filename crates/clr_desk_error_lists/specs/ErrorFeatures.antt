-- The broken needs of LIVE as features of a map.
use Rattle.std.specs.Prelude.{◌≡◌, ℕ, ℤ, pos, false, List, [], ◌∷◌, ◌++◌, codes, map, Option, Some, None, Result, slice_get}
use Rattle.clr_rows.specs.declared.cells.CellId.{CellId}
use Rattle.clr_rows.specs.declared.places.Place.{Place}
use Rattle.clr_rows.specs.declared.places.Shape.{Shape}
use Rattle.clr_rows.specs.declared.places.Shape.TheVariants.{At, Bare}
use Rattle.clr_rows.specs.declared.tables.TableDef.{TableDef}
use Rattle.clr_rows.specs.Schemas.{name_of_table}
use Rattle.clr_rules.specs.declared.needs.Broken.{Broken}
use Rattle.clr_rules.specs.declared.rules.Rule.{Rule}
use Rattle.clr_steps.specs.Offices.{Office}
use Rattle.clr_geojson.specs.declared.features.Feature.{Feature}
use Rattle.clr_geojson.specs.declared.features.Property.{Property}
use Rattle.clr_geojson.specs.Collections.{collection_text}
use Rattle.clr_geojson.specs.Properties.{flag_property, number_property, text_property}
use Rattle.clr_phrases.specs.Rules.{rule_sentence}
use Rattle.clr_rule_text.specs.declared.faults.TextFault.{TextFault}
use Rattle.clr_desk_prints.specs.Printing.{PrintoutOrFault, printout_of}
use Rattle.clr_desk_prints.specs.Systems.{IsInSystem}
use Rattle.clr_desk_errors.specs.Accepting.{IsPrintoutOfDraft}
use Rattle.clr_listed_errors.specs.declared.listed_errors.ListedError.{ListedError}
use Rattle.clr_listed_errors.specs.ListedErrors.{AreListed, is_any_unknown}

abbrev pub point_at : Option Place → Shape
point_at None = Bare
point_at (Some p) = At p

-- what a rule asks for, and nothing where there is none
abbrev pub asked_words : List TableDef → Option Rule → List ℕ
asked_words tables None = []
asked_words tables (Some rule) = rule_sentence tables rule

abbrev pub second_table : List TableDef → Option CellId → List ℕ
second_table tables None = []
second_table tables (Some cell) = name_of_table tables cell.table

abbrev pub second_key : Option CellId → ℤ
second_key None = pos 0
second_key (Some cell) = cell.key

-- the rule of a need, its first row and the part of this
unfoldable pub first_properties : List TableDef → Broken → List Property
first_properties tables need =
    number_property (codes "rule") (pos need.rule)
    ∷ text_property (codes "table") (name_of_table tables need.first.table)
    ∷ number_property (codes "key") need.first.key
    ∷ number_property (codes "part") (pos need.first_part) ∷ []

-- its second row and the part of this
unfoldable pub second_properties : List TableDef → Broken → List Property
second_properties tables need =
    text_property (codes "table2") (second_table tables need.second)
    ∷ number_property (codes "key2") (second_key need.second)
    ∷ number_property (codes "part2") (pos need.second_part) ∷ []

-- whether an error is known, what a map would say, and what its rule asks for
unfoldable pub told_properties : List ℕ → ListedError → List Property
told_properties asks e =
    flag_property (codes "known") e.is_known
    ∷ text_property (codes "says") e.says
    ∷ text_property (codes "asks") asks ∷ []

abbrev pub error_properties : List TableDef → List ℕ → ListedError → List Property
error_properties tables asks e = (first_properties tables e.need ++ second_properties tables e.need) ++ told_properties asks e

-- an error as a point where it is, or without a shape
abbrev pub error_feature : Office → ListedError → Feature
error_feature o e = record {
  properties = error_properties o.schema (asked_words o.schema (slice_get o.book e.need.rule)) e;
  shape = point_at e.place;
}

-- the errors of LIVE beside needs that are known, in a system of coordinates if one is given; an error that isn't known counts as a refusal
abbrev pub AreErrorFeatures : Option ℕ → List Broken → Office → PrintoutOrFault → Type 0
AreErrorFeatures system known o print =
    (errors : List ListedError) × AreListed o known errors
    × (print ≡ printout_of (collection_text system (map (error_feature o) errors)) [] (is_any_unknown errors) false)

-- what is printed of an office text and the text of a system, if one is given
abbrev pub IsErrorFeaturesAnswer : List Broken → Option (List ℕ) → Result Office TextFault → PrintoutOrFault → Type 0
IsErrorFeaturesAnswer known system given = IsInSystem (λ code. IsPrintoutOfDraft (AreErrorFeatures code known) given) system
