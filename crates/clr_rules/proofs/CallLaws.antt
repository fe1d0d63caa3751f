-- What is known of rows that call under a rule or serve there: the rule, their roles in it, and their parts.
use Rattle.std.proofs.Common.{◌≡◌, ◌⊎◌, ℕ, suc, ◌<◌, true, List, Option, Some, None, slice_get, refl}
use Rattle.std.proofs.lemmas.Bool.{and_parts, false≢true}
use Rattle.clr_rows.specs.Held.{Held}
use Rattle.clr_rules.specs.declared.needs.Ask.{Ask}
use Rattle.clr_rules.specs.declared.rules.Rule.{Rule}
use Rattle.clr_rules.specs.Calls as call
use Rattle.clr_rules.specs.Calls.{is_plain, are_subjects, is_server, calls, serves, part_count}
use Rattle.clr_rules.specs.Roles.{roles, roles_under}
use Rattle.clr_rules.specs.Sides.{is_of, sides}
use Rattle.clr_rules.proofs.AskLemmas.{alone_plain, first_part_by, plain_parts, second_part_by}
use Rattle.clr_rules.proofs.RoleLemmas.{beside}

-- the rule that rows call
pub called_by : (rules : List Rule) (ask : Ask) (s : Held) (t : Option Held) → calls rules ask s t ≡ true → (rule : Rule)
    × (slice_get rules ask.rule ≡ Some rule)
    × (are_subjects rule ask s t ≡ true)
unfolding calls
called_by rules ask s t e = go (slice_get rules ask.rule) refl e
  where
    go : (r : Option Rule) → slice_get rules ask.rule ≡ r → call.are_subjects_of r ask s t ≡ true → (rule : Rule) × (slice_get rules ask.rule ≡ Some rule)
        × (are_subjects rule ask s t ≡ true)
    go None at f = absurd (false≢true f)
    go (Some rule) at f = (rule, at, f)

there_served : (rules : List Rule) (ask : Ask) (s : Held) (t : Option Held) (r : Held) → serves rules ask s t r ≡ true → (rule : Rule)
    × (slice_get rules ask.rule ≡ Some rule) × (is_server rule ask s t r ≡ true)
unfolding serves
there_served rules ask s t r e = go (slice_get rules ask.rule) refl e
  where
    go : (o : Option Rule) → slice_get rules ask.rule ≡ o → call.is_server_of o ask s t r ≡ true → (rule : Rule) × (slice_get rules ask.rule ≡ Some rule)
        × (is_server rule ask s t r ≡ true)
    go None at f = absurd (false≢true f)
    go (Some rule) at f = (rule, at, f)

-- a row that calls alone may
pub subject_alone : (rules : List Rule) (ask : Ask) (s : Held) → calls rules ask s None ≡ true → (roles_under rules ask.rule s).alone ≡ true
unfolding roles_under roles are_subjects
subject_alone rules ask s e = let (rule, at, called) = called_by rules ask s None e in rw at (and_parts (is_plain ask) _ called).1

-- of two rows that call the one may be the first subject and the other the second
pub subjects_beside : (rules : List Rule) (ask : Ask) (s t : Held) → calls rules ask s (Some t) ≡ true
    → (((roles_under rules ask.rule s).first ≡ true) × ((roles_under rules ask.rule t).second ≡ true)) ⊎ (((roles_under rules ask.rule t).first ≡ true)
    × ((roles_under rules ask.rule s).second ≡ true))
unfolding roles_under roles
subjects_beside rules ask s t e = let (rule, at, called) = called_by rules ask s (Some t) e in rw at (beside rule ask s t called)

-- a row that serves may
pub server_role : (rules : List Rule) (ask : Ask) (s : Held) (t : Option Held) (r : Held) → serves rules ask s t r ≡ true
    → (roles_under rules ask.rule r).server ≡ true
unfolding roles_under roles is_server
server_role rules ask s t r e = let (rule, at, served) = there_served rules ask s t r e in rw at (and_parts (is_of (sides rule).server r) _ served).0

-- the parts that are asked about are there
pub first_part_there : (rules : List Rule) (ask : Ask) (s : Held) (t : Option Held) → calls rules ask s t ≡ true → (k : ℕ) × (k < part_count rules ask.rule s)
    × (ask.first_part ≡ suc k)
unfolding part_count
first_part_there rules ask s t e = let (rule, at, called) = called_by rules ask s t e in rw at (first_part_by rule ask s t called)

pub second_part_there : (rules : List Rule) (ask : Ask) (s t : Held) → calls rules ask s (Some t) ≡ true → (k : ℕ) × (k < part_count rules ask.rule t)
    × (ask.second_part ≡ suc k)
unfolding part_count
second_part_there rules ask s t e = let (rule, at, called) = called_by rules ask s (Some t) e in rw at (second_part_by rule ask s t called)

-- a row alone is asked about as a whole
pub alone_parts : (rules : List Rule) (ask : Ask) (s : Held) → calls rules ask s None ≡ true → (ask.first_part ≡ 1) × (ask.second_part ≡ 1)
unfolding calls
alone_parts rules ask s e = plain_parts ask (alone_plain (slice_get rules ask.rule) ask s e)
