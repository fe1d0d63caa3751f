-- Which designs go before a design, as a property.
use Rattle.std.specs.Prelude.{ℕ, List, [], ◌∷◌, ◌++◌, codes, filter, map, Option, Some, None}
use Rattle.clr_workspaces.specs.Marks.{Name}
use Rattle.clr_steps.specs.Names.{same_name}
use Rattle.clr_cert.specs.declared.certificates.Precedence.{Precedence}
use Rattle.clr_geojson.specs.declared.features.Feature.{Feature}
use Rattle.clr_geojson.specs.Features.{with_commas}
use Rattle.clr_geojson.specs.Properties.{text_property}

-- the names that go before a name, in the order of the precedences
abbrev pub names_before : Name → List Precedence → List Name
names_before name before = map (λ (p : Precedence). p.earlier) (filter (λ (p : Precedence). same_name p.later name) before)

-- with commas between them
abbrev pub names_before_text : Name → List Precedence → List ℕ
names_before_text name before = with_commas (λ (earlier : Name). earlier) (names_before name before)

-- a feature with the names of those that go before its design, if that is told
abbrev pub told_after : Option (List ℕ) → Feature → Feature
told_after None f = f
told_after (Some names) f = record f { properties = f.properties ++ text_property (codes "after") names ∷ [] }
