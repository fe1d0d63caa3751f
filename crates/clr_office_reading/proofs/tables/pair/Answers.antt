use Rattle.std.proofs.Common.{◌≡◌, List, [], ◌∷◌, length, Err, refl, arith}
use borrow.Author.Tests.{ltb-true, ltb-false}
use Rattle.clr_rule_text.specs.Seen.{items_seen}
use Rattle.serde_json.specs.Data.{Data}
use Rattle.clr_rule_text.specs.declared.faults.TextFault.TheVariants.{BadField}
use Rattle.clr_office_reading.specs.Tables.{pair_of}
use Rattle.clr_office_reading.proofs.tables.pair.Goals as goal
use Rattle.clr_office_reading.proofs.tables.pair.Goals.{in_default-via-then-items-lt2, in_default-via-else-items-lt2+else-items-lt3}

-- a list of another length than two
other_length : {J : Type 0} (view : J → Data) (vs : List J) → (length vs ≡ 2 → ⊥) → pair_of (items_seen view vs) ≡ Err BadField
unfolding pair_of
other_length view [] two = refl
other_length view (a ∷ []) two = refl
other_length view (a ∷ b ∷ []) two = absurd (two refl)
other_length view (a ∷ b ∷ d ∷ vs) two = refl

pub returns-in_default : goal.returns-in_default
returns-in_default g c = elim c.in_default.branch [
  | in_default-via-then-items-lt2 w ↦ other_length g.J.JsonValue.stands_for _ (λ e. omega (arith, ltb-true))
  | in_default-via-else-items-lt2+else-items-lt3 w ↦ other_length g.J.JsonValue.stands_for _ (λ e. omega (arith, ltb-false))
]
