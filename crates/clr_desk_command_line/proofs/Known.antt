-- Where words have no fault, something is asked.
use Rattle.std.proofs.Common.{◌≡◌, ◌∙◌, ◌&&◌, ◌||◌, ap, Bool, not, List, [], ◌∷◌, ◌++◌, map, Option, Some, None, true, false, is_some, option_map, refl, sym}
use Rattle.std.specs.Prelude.{⊤, fold, if◌then◌else◌}
use Rattle.std.specs.List.{list_all}
use Rattle.clap.specs.Simple.{built, label_of}
use Rattle.clap.specs.Words.{Row, Shape, Text, subcommand_of}
use Rattle.clap.specs.Faults.{fault_of, is_simple_and_free}
use Rattle.clap.proofs.OnLiterals.{clap_on_literals}
use Rattle.clr_command_line.proofs.Entering.{AllAsk, IsAsking, asked_of, asks_something, known_by_names, labels, simple_if_free}
use Rattle.clr_desk_command_line.specs.declared.asks.Asked.{Asked}
use Rattle.clr_desk_command_line.specs.Asks.{ask_of_texts, asked_by_name, asked_of_office, geographic_asked, imports_asked, is_readable, members_ask, pictures_ask, reads_values}
use Rattle.clr_desk_command_line.specs.Databases.{database_asked}
use Rattle.clr_desk_subcommands.specs.Program.{certificates, choices, cuts, exports, groups, imports, old_errors, pictures, program, tellings}

-- the groups of subcommands, written out
unfoldable all_groups : ⊤
unfolding certificates choices tellings pictures exports imports old_errors cuts
all_groups = tt

-- something is asked, or more values are read
abbrev known : Text → List Row → Option (Unit {0})
known name rows = if reads_values name then Some (tt {0}) else option_map (λ asked. tt {0}) (asked_by_name name rows)

abbrev subcommands : List Shape
subcommands = fold (λ (all : List Shape) (group : List Shape). all ++ group) [] groups

abbrev names : List Text
names = map (λ (s : Shape). s.name) subcommands

-- whatever is found, something is asked by each name
all_known : (rows : List Row) → list_all (λ name. is_some (known name rows)) names ≡ true
unfolding all_groups ask_of_texts asked_by_name asked_of_office database_asked geographic_asked imports_asked members_ask pictures_ask
all_known rows = refl

both : (a b : Bool) → (a && b) ≡ true → (a ≡ true) × (b ≡ true)
both true b e = (refl, e)
both false b e = absurd cc

one_by_one : (names : List Text) → ((rows : List Row) → list_all (λ name. is_some (known name rows)) names ≡ true)
    → AllAsk known names
one_by_one [] each = tt
one_by_one (name ∷ names) each =
    let split = λ (rows : List Row). both (is_some (known name rows)) (list_all (λ name. is_some (known name rows)) names) (each rows) in
    ((λ rows. (split rows).0), one_by_one names (λ rows. (split rows).1))

all_named : map label_of (built program).subs ≡ labels names
unfolding clap_on_literals all_groups
all_named = refl

free : is_simple_and_free program ≡ true
unfolding clap_on_literals all_groups
free = refl

-- the command line is one whose matches are known from the words
pub program_asks : IsAsking known program
unfolding clap_on_literals all_groups
program_asks = record {
  known = known_by_names known names (built program).subs all_named (one_by_one names all_known);
  demands = refl;
  has_help = refl;
  simple = simple_if_free program free;
  free = free;
}

either : (b : Bool) (o : Option (Asked × List Text)) → is_some (if b then Some (tt {0}) else option_map (λ asked. tt {0}) o) ≡ true
    → (not b || is_some o) ≡ true → is_some o ≡ true
either true o some readable = readable
either false (Some asked) some readable = refl
either false None some readable = absurd cc

pub something_is_asked : (words : List Text) (name : Text) (rows : List Row) → fault_of program words ≡ [] → subcommand_of program words ≡ Some (name, rows)
    → is_readable (Some (name, rows)) ≡ true → is_some (asked_by_name name rows) ≡ true
something_is_asked words name rows e found readable =
    let some = ap (λ o. is_some (asked_of known o)) (sym found) ∙ asks_something known program program_asks words e in
    either (reads_values name) (asked_by_name name rows) some readable

found_if : (found : Option (Text × List Row)) → is_some (asked_of known found) ≡ true → is_some found ≡ true
found_if None e = absurd cc
found_if (Some p) e = refl

-- where words have no fault, they name a subcommand
pub something_is_found : (words : List Text) → fault_of program words ≡ [] → is_some (subcommand_of program words) ≡ true
something_is_found words e = found_if (subcommand_of program words) (asks_something known program program_asks words e)

-- what is made of nothing is nothing
pub nothing_made : {A B : Type 0} (f : A → B) (o : Option A) → is_some o ≡ false → is_some (option_map f o) ≡ false
nothing_made f None e = refl
nothing_made f (Some x) e = absurd cc
