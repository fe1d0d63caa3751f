-- A parse that succeeds has entered one of the subcommands that something is asked by, of a program of which one is demanded.
use Rattle.std.proofs.Common.{◌≡◌, ◌∙◌, ◌⊎◌, inl, inr, ℕ, Bool, true, false, not, ◌&&◌, ◌||◌, cond, List, [], ◌∷◌, Option, Some, None, is_some, option_map}
use Rattle.std.proofs.Common.{Box, codes, map, refl, sym}
use Rattle.std.specs.Prelude.{⊤, fold, find, if◌then◌else◌, option_and_then}
use Rattle.std.specs.Box.{box_value}
use Rattle.std.specs.List.{AllByRecursion, list_any}
use Rattle.std.specs.Str.{bytes_eq}
use Rattle.std.proofs.lemmas.Slice.Eq.{bytes_eq-Decides}
use Rattle.clap.specs.Walk.{Held, Names, Outcome, Row, Rule, Step, Text, Waiting, Walk}
use Rattle.clap.specs.Walk.{done, waits, plain, refused, next, trailing, subcommand, value, idle, option, positional}
use Rattle.clap.specs.Walk.{after_flag, after_step, answers_to, arg_by_index, finished, long_or_other, nothing_held, plain_word, settled, short_or_plain}
use Rattle.clap.specs.Walk.{subcommand_met, subcommand_or_other, to_positional, walk, walk_from, walked, walked_from, word_met}
use Rattle.clap.specs.Lexer.{long_of, short_of}
use Rattle.clap.specs.Simple.{Shape, argument_words, built, entered, is_simple, label_of, names_of, rows_at, subcommand_of}
use Rattle.clap.specs.Kinds.{Kinds, check_kinds, or_else}
use Rattle.clap.specs.Facts.{explicit_source}
use Rattle.clap.specs.Takes.{is_given}
use Rattle.clap.specs.Faults.{check_fault, defaults_fault, entered_fault, fault_of, is_simple_and_free, level_fault, other_fault, settle_fault, step_fault}
use Rattle.clap.specs.Faults.{turn_fault, walk_fault, word_fault}
use Rattle.clap.specs.declared.error.kind.ErrorKind.TheVariants as kind
use Rattle.clap.specs.declared.parser.matches.ArgMatches.TheViews.{out-SubCommand}
use Rattle.clap.specs.declared.parser.matches.SubCommand.{SubCommand}
use Rattle.clap.specs.Words.{App, subcommand_rows}

-- the walk doesn't stop at `help` --------------------------------------------------------------------

-- where the walk stopped, if it did, it isn't at `help`
abbrev IsNoHelp : Option (Text × List Text) → Type 0
IsNoHelp None = ⊤
IsNoHelp (Some p) = bytes_eq p.0 (codes "help") ≡ false

-- the step doesn't enter `help`
abbrev StaysOff : Step → Type 0
StaysOff (next waiting) = ⊤
StaysOff (trailing position) = ⊤
StaysOff (subcommand name) = bytes_eq name (codes "help") ≡ false
StaysOff value = ⊤

both_empty : (a b : Kinds) → or_else a b ≡ [] → (a ≡ []) × (b ≡ [])
both_empty [] b e = (refl, e)
both_empty (k ∷ ks) b e = absurd cc

plain_off : (c : List Rule) (waiting : Waiting) (word : Text) (h : Held) → StaysOff (plain_word c waiting word h).1
plain_off c idle word h = tt
plain_off c (option id) word h = tt
plain_off c positional word h = tt

flag_off : (c : List Rule) (waiting : Waiting) (word : Text) (h : Held) (o : Outcome) → StaysOff (after_flag c waiting word h o).1
flag_off c waiting word h done = tt
flag_off c waiting word h (waits id) = tt
flag_off c waiting word h plain = plain_off c waiting word h
flag_off c waiting word h refused = plain_off c waiting word h

short_off : (c : List Rule) (waiting : Waiting) (word : Text) (o : Option Text) (h : Held) → StaysOff (short_or_plain c waiting word o h).1
short_off c waiting word (Some flags) h = flag_off c waiting word _ _
short_off c waiting word None h = plain_off c waiting word h

long_off : (c : List Rule) (waiting : Waiting) (word : Text) (o : Option (Text × Option Text)) (h : Held) → StaysOff (long_or_other c waiting word o h).1
long_off c waiting word (Some p) h = flag_off c waiting word _ _
long_off c waiting word None h = short_off c waiting word (short_of word) h

dashes_off : (c : List Rule) (b : Bool) (waiting : Waiting) (position : ℕ) (word : Text) (h : Held)
    → StaysOff (if b then (h, trailing position) else long_or_other c waiting word (long_of word) h).1
dashes_off c true waiting position word h = tt
dashes_off c false waiting position word h = long_off c waiting word (long_of word) h

name_off : (b d : Bool) → d ≡ false → (if b && not d then kind.DisplayHelp ∷ kind.InvalidSubcommand ∷ [] else []) ≡ [] → b ≡ false
name_off false d e f = refl
name_off true false e f = absurd cc
name_off true true e f = absurd cc

other_off : (s : Shape) (o : Option Text) (waiting : Waiting) (position : ℕ) (word : Text) (h : Held) → s.disable_help_subcommand ≡ false
    → other_fault s o word h ≡ []
    → StaysOff (subcommand_or_other s.rules o waiting position word h).1
other_off s (Some name) waiting position word h e f = name_off (bytes_eq name (codes "help")) s.disable_help_subcommand e f
other_off s None waiting position word h e f = dashes_off s.rules (bytes_eq word (45 ∷ 45 ∷ [])) waiting position word h

word_off : (s : Shape) (names : Names) (is_trailing : Bool) (waiting : Waiting) (position : ℕ) (word : Text) (h : Held) → s.disable_help_subcommand ≡ false
    → word_fault s names is_trailing waiting word h ≡ [] → StaysOff (word_met s.rules names is_trailing waiting position word h).1
word_off s names true waiting position word h e f = tt
word_off s names false waiting position word h e f = other_off s (subcommand_met names waiting word) waiting position word h e f

positional_off : (c : List Rule) (o : Option Rule) (word : Text) (w : Walk) (h : Held) → w.stopped ≡ None → IsNoHelp (to_positional c o word w h).stopped
positional_off c None word w h e = rw e tt
positional_off c (Some a) word w h e = tt

step_off : (c : List Rule) (word : Text) (w : Walk) (h : Held) (s : Step) → w.stopped ≡ None → StaysOff s → IsNoHelp (after_step c word w h s).stopped
step_off c word w h (next waiting) e off = rw e tt
step_off c word w h (trailing position) e off = rw e tt
step_off c word w h (subcommand name) e off = off
step_off c word w h value e off = positional_off c (arg_by_index c w.position) word w h e

turn_off : (s : Shape) (names : Names) (w : Walk) (word : Text) → s.disable_help_subcommand ≡ false → IsNoHelp w.stopped → turn_fault s names w word ≡ []
    → IsNoHelp (walked s.rules names w word).stopped
unfolding walked
turn_off s names w word d off f = go w.stopped refl off f
  where
    go : (o : Option (Text × List Text)) → w.stopped ≡ o → IsNoHelp o
        → (let met = word_met s.rules names w.is_trailing w.waiting w.position word w.held in
        if is_some o then [] else or_else (word_fault s names w.is_trailing w.waiting word w.held) (step_fault s w.position met.0 met.1)) ≡ []
        → IsNoHelp (walked_from s.rules names o w word).stopped
    go (Some p) e ok none = ok
    go None e ok none =
        let parts = both_empty (word_fault s names w.is_trailing w.waiting word w.held) _ none in
        step_off s.rules word w _ _ e (word_off s names w.is_trailing w.waiting w.position word w.held d parts.0)

walk_off : (s : Shape) (names : Names) (w : Walk) (words : List Text) → s.disable_help_subcommand ≡ false → IsNoHelp w.stopped → walk_fault s names w words ≡ []
    → IsNoHelp (fold (walked s.rules names) w words).stopped
unfolding walk_fault
walk_off s names w [] d off f = off
walk_off s names w (word ∷ rest) d off f =
    let parts = both_empty (turn_fault s names w word) (walk_fault s names (walked s.rules names w word) rest) f in
    walk_off s names (walked s.rules names w word) rest d (turn_off s names w word d off parts.0) parts.1

-- a subcommand is entered ----------------------------------------------------------------------------

enters : (x has r y : Bool) → r ≡ true → check_kinds x (not has && r) y ≡ [] → has ≡ true
enters x true r y e f = refl
enters true false r y e f = absurd cc
enters false false true y e f = absurd cc
enters false false false y e f = absurd cc

-- a command that demands a subcommand has one, where its checks find no fault
has_one : (s : Shape) (rows : List Row) (has : Bool) → s.subcommand_required ≡ true → check_fault s rows has ≡ [] → has ≡ true
has_one s rows has e f =
    enters (not has && (s.arg_required_else_help && not (list_any (λ r. explicit_source r.source) rows))) has s.subcommand_required
    (not (s.subcommand_negates_reqs && has) && list_any (λ a. a.required && not (is_given a.id rows)) s.rules) e f

or_false : (b : Bool) → (b || false) ≡ true → b ≡ true
or_false true e = refl
or_false false e = e

name_met : (name word : Text) (aliases : List Text) → aliases ≡ [] → answers_to word (name, aliases) ≡ true → name ≡ word
name_met name word [] e is = (bytes_eq-Decides name word).0 (or_false (bytes_eq name word) is)
name_met name word (alias ∷ aliases) e is = absurd cc

-- the subcommand that answers to a name, with what is found in the words after it
abbrev met : List Shape → Text → List Text → Option (Text × List Row)
met subs name rest = option_map (λ s. rows_at s rest) (find (λ s. answers_to name (label_of s)) subs)

each_empty : (w below settle defaults checks : Kinds) → or_else w (or_else below (or_else settle (or_else defaults checks))) ≡ [] → (w ≡ []) × (checks ≡ [])
each_empty [] [] [] [] checks e = (refl, e)
each_empty [] [] [] (d ∷ ds) checks e = absurd cc
each_empty [] [] (s ∷ ss) defaults checks e = absurd cc
each_empty [] (b ∷ bs) settle defaults checks e = absurd cc
each_empty (k ∷ ks) below settle defaults checks e = absurd cc

-- where a level has no fault, neither its walk nor its last checks have one
level_empty : (s : Shape) (names : Names) (h : Held) (words : List Text) (has : Bool) (below : Kinds) → level_fault s names h words has below ≡ []
    → (walk_fault s names (walk_from h) words ≡ []) × (check_fault s (finished s.rules (walk s.rules names h words).held) has ≡ [])
level_empty s names h words has below e =
    let end = (walk s.rules names h words).held in
    each_empty (walk_fault s names (walk_from h) words) below (settle_fault s.rules s.args_override_self end)
    (defaults_fault (settled s.rules end).rows s.rules)
    (check_fault s (finished s.rules end) has) e

-- what the subcommand that was entered asks for
abbrev pub asked_of : {A : Type 0} → (Text → List Row → Option A) → Option (Text × List Row) → Option A
asked_of {A} ask found = option_and_then (λ p. ask p.0 p.1) found

-- something is asked by a subcommand, or it is `help`
abbrev pub IsKnown : {A : Type 0} → (Text → List Row → Option A) → Shape → Type 0
IsKnown {A} ask s = (s.aliases ≡ []) × (((rows : List Row) → is_some (ask s.name rows) ≡ true) ⊎ (s.name ≡ codes "help"))

-- the names of subcommands, `help` behind them, none with another name
abbrev pub labels : List Text → List (Text × List Text)
labels [] = (codes "help", []) ∷ []
labels (name ∷ names) = (name, []) ∷ labels names

-- something is asked by each of these names
abbrev pub AllAsk : {A : Type 0} → (Text → List Row → Option A) → List Text → Type 0
AllAsk {A} ask names = AllByRecursion (λ name. (rows : List Row) → is_some (ask name rows) ≡ true) names

-- subcommands with these names are known
pub known_by_names : {A : Type 0} (ask : Text → List Row → Option A) (names : List Text) (subs : List Shape) → map label_of subs ≡ labels names
    → AllAsk ask names → AllByRecursion (IsKnown ask) subs
known_by_names ask [] [] e each = absurd cc
known_by_names ask [] (s ∷ []) e each =
    let here : label_of s ≡ (codes "help", []) = cc in
    (((λ i. (here i).1), inr (λ i. (here i).0)), tt)
known_by_names ask [] (s ∷ t ∷ subs) e each = absurd cc
known_by_names ask (name ∷ names) [] e each = absurd cc
known_by_names ask (name ∷ names) (s ∷ subs) e each =
    let here : label_of s ≡ (name, []) = cc in
    let rest : map label_of subs ≡ labels names = cc in
    (((λ i. (here i).1), inl (λ rows. (λ i. is_some (ask (here i).0 rows)) ∙ each.0 rows)), known_by_names ask names subs rest each.1)

-- a command of which no argument has a rule on another is simple
pub simple_if_free : (program : App) → is_simple_and_free program ≡ true → is_simple program ≡ true
simple_if_free program e = first (is_simple program) _ e
  where
    first : (a b : Bool) → (a && b) ≡ true → a ≡ true
    first true b e = refl
    first false b e = e

-- each subcommand is known, one of them is demanded, and no argument has a rule on another
pub record IsAsking {A : Type 0} (ask : Text → List Row → Option A) (program : App) : Type 0 where
  pub known : AllByRecursion (IsKnown ask) (built program).subs
  pub demands : (built program).top.subcommand_required ≡ true
  pub has_help : (built program).top.disable_help_subcommand ≡ false
  pub simple : is_simple program ≡ true
  pub free : is_simple_and_free program ≡ true

module _ {A : Type 0} (ask : Text → List Row → Option A) where
  asks : (subs : List Shape) (name : Text) (rest : List Text) → AllByRecursion (IsKnown ask) subs → bytes_eq name (codes "help") ≡ false
      → is_some (met subs name rest) ≡ true
      → is_some (asked_of ask (met subs name rest)) ≡ true
  asks [] name rest known off e = absurd cc
  asks (s ∷ subs) name rest known off e = go (answers_to name (label_of s)) refl (λ some. asks subs name rest known.1 off some) e
    where
      here : answers_to name (label_of s) ≡ true → ((rows : List Row) → is_some (ask s.name rows) ≡ true) ⊎ (s.name ≡ codes "help")
          → is_some (ask s.name (rows_at s rest).1) ≡ true
      here is (inl each) = each (rows_at s rest).1
      here is (inr help) =
          let same : name ≡ codes "help" = sym (name_met s.name name s.aliases known.0.0 is) ∙ help in
          let no : true ≡ false = rw same at off in
          absurd cc

      go : (b : Bool) → answers_to name (label_of s) ≡ b → (is_some (met subs name rest) ≡ true → is_some (asked_of ask (met subs name rest)) ≡ true)
          → is_some (option_map (λ s. rows_at s rest) (cond b (Some s) (find (λ s. answers_to name (label_of s)) subs))) ≡ true
          → is_some (asked_of ask (option_map (λ s. rows_at s rest) (cond b (Some s) (find (λ s. answers_to name (label_of s)) subs)))) ≡ true
      go true is later some = here is known.0.1
      go false is later some = later some

  module _ (program : App) (is : IsAsking ask program) where
    stop_asks : (stop : Option (Text × List Text)) → IsNoHelp stop → is_some (entered (built program) stop) ≡ true
        → is_some (asked_of ask (entered (built program) stop)) ≡ true
    stop_asks None off e = absurd cc
    stop_asks (Some p) off e = asks (built program).subs p.0 p.1 is.known off e

    -- where the words have no fault, something is asked
    pub asks_something : (words : List Text) → fault_of program words ≡ [] → is_some (asked_of ask (subcommand_of program words)) ≡ true
    asks_something words e =
        let a = built program in
        let given = argument_words program words in
        let end = walk a.top.rules (names_of a) nothing_held given in
        let has = is_some (entered a end.stopped) in
        let parts = level_empty a.top (names_of a) nothing_held given has (entered_fault a end.stopped) e in
        let off = walk_off a.top (names_of a) (walk_from nothing_held) given is.has_help tt parts.0 in
        stop_asks end.stopped off (has_one a.top (finished a.top.rules end.held) has is.demands parts.1)

-- the name and the matches of the subcommand that is found
pub pair_is : {Z : Type 0} (o : Option (Box SubCommand Z)) (n : Text) (r : List Row) → Some n ≡ option_map (λ b. (out-SubCommand (box_value b)).name.now) o
    → Some r ≡ option_map (λ p. p.1) (subcommand_rows o) → subcommand_rows o ≡ Some (n, r)
pair_is None n r e h = absurd cc
pair_is (Some b) n r e h = cc
