-- Where words have no fault, something is asked.
use Rattle.std.proofs.Common.{◌≡◌, List, [], ◌∷◌, codes, map, true, is_some, refl}
use Rattle.clap.specs.Simple.{built, label_of}
use Rattle.clap.specs.Words.{Text, subcommand_of}
use Rattle.clap.specs.Faults.{fault_of, is_simple_and_free}
use Rattle.clap.proofs.OnLiterals.{clap_on_literals}
use Rattle.clr_command_line.proofs.Entering.{AllAsk, IsAsking, asks_something, known_by_names, labels, simple_if_free}
use Rattle.clr_command_line.specs.Asks.{ask_by_name, ask_of}
use Rattle.clr_command_line.specs.Program.{program}

abbrev names : List Text
names = codes "audit" ∷ codes "run" ∷ codes "plan" ∷ codes "planunder" ∷ codes "check" ∷ codes "merge" ∷ []

all_ask : AllAsk ask_by_name names
unfolding ask_by_name
all_ask = (λ rows. refl, (λ rows. refl, (λ rows. refl, (λ rows. refl, (λ rows. refl, (λ rows. refl, tt))))))

all_named : map label_of (built program).subs ≡ labels names
unfolding clap_on_literals
all_named = refl

free : is_simple_and_free program ≡ true
unfolding clap_on_literals
free = refl

-- the command line is one whose matches are known from the words
pub program_asks : IsAsking ask_by_name program
unfolding clap_on_literals
program_asks = record {
  known = known_by_names ask_by_name names (built program).subs all_named all_ask;
  demands = refl;
  has_help = refl;
  simple = simple_if_free program free;
  free = free;
}

pub something_is_asked : (words : List Text) → fault_of program words ≡ [] → is_some (ask_of (subcommand_of program words)) ≡ true
something_is_asked words e = asks_something ask_by_name program program_asks words e
