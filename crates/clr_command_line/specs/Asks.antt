-- What a subcommand and its values ask for.
use Rattle.std.specs.Prelude.{◌≡◌, Bool, false, List, [], ◌∷◌, codes, Option, Some, None, if◌then◌else◌, option_and_then, unwrap_or}
use Rattle.std.specs.Option.{option_map_or}
use Rattle.std.specs.Str.{bytes_eq}
use Rattle.clap.specs.Words.{Row, Text, all_of, first_of}
use Rattle.clr_command_line.specs.declared.asks.Ask.{Ask}
use Rattle.clr_command_line.specs.declared.asks.Ask.TheVariants.{Audit, Run, Plan, PlanUnder, Check, Merge}
use Rattle.clr_command_line.specs.declared.asks.Orders.{Orders}
use Rattle.clr_command_line.specs.declared.asks.Orders.TheVariants.{Every, AsNamed}
use Rattle.clr_command_line.specs.declared.asks.AskFault.{AskFault}
use Rattle.clr_command_line.specs.declared.asks.AskFault.TheVariants as fault

-- the value of a name, or no bytes where there is none
abbrev pub given_value : Text → List Row → Text
given_value id rows = unwrap_or (first_of id rows) []

-- the names that are given, none or more
abbrev pub given_names : List Row → List Text
given_names rows = unwrap_or (all_of (codes "NAME") rows) []

-- an option without a value is given
abbrev pub is_set : Text → List Row → Bool
is_set name rows = option_map_or (λ value. bytes_eq value (codes "true")) (first_of name rows) false

-- the order of the names where the option asks for it, and else every order
abbrev pub given_orders : List Row → Orders
given_orders rows = if is_set (codes "in-order") rows then AsNamed else Every

abbrev pub plan_ask : List Row → Ask
plan_ask rows = Plan (given_orders rows) (given_names rows)

abbrev pub plan_under_ask : List Row → Ask
plan_under_ask rows = PlanUnder (given_orders rows) (given_value (codes "ROOT") rows) (given_names rows)

-- the file of the office text, and the file of another name
abbrev pub database_of : List Row → List Text
database_of rows = given_value (codes "DB") rows ∷ []

abbrev pub database_and : Text → List Row → List Text
database_and id rows = given_value (codes "DB") rows ∷ given_value id rows ∷ []

-- what a subcommand asks for, and its files
unfoldable pub ask_by_name : Text → List Row → Option (Ask × List Text)
ask_by_name name rows =
    if bytes_eq name (codes "audit") then Some (Audit, database_of rows)
    else (if bytes_eq name (codes "run") then Some (Run, database_and (codes "SCRIPT") rows)
    else (if bytes_eq name (codes "plan") then Some (plan_ask rows, database_of rows)
    else (if bytes_eq name (codes "planunder") then Some (plan_under_ask rows, database_of rows)
    else (if bytes_eq name (codes "check") then Some (Check, database_and (codes "CERT") rows)
    else (if bytes_eq name (codes "merge") then Some (Merge (given_names rows), database_and (codes "CERT") rows)
    else None)))))

-- what the subcommand that words name asks for, if they name one
abbrev pub ask_of : Option (Text × List Row) → Option (Ask × List Text)
ask_of found = option_and_then (λ p. ask_by_name p.0 p.1) found

abbrev pub IsMemory : AskFault → Type 0
IsMemory e = e ≡ fault.OutOfMemory
