use Rattle.std.proofs.Common.{◌≡◌, List, [], ◌∷◌, length, refl, subst, arith}
use Rattle.serde_json.specs.Data.{Data}
use Rattle.clr_readings.specs.Readings.{Gives}
use Rattle.clr_rule_text.specs.Fields.{text_lacks_memory}
use Rattle.clr_rule_text.specs.Known.{keys_and_parts, two_keys}
use Rattle.clr_rule_text.specs.Seen.{items_seen}
use Rattle.clr_rule_text.proofs.need_names.keys_and_parts.Goals as goal
use Rattle.clr_rule_text.proofs.need_names.keys_and_parts.Goals.{in_default-via-then-items-lt4, in_default-via-else-items-lt4+else-items-lt5}
use borrow.Author.Tests.{ltb-true, ltb-false}

-- a list of another length than four
other_length : {J : Type 0} (view : J → Data) (vs : List J) → (length vs ≡ 4 → ⊥) → two_keys (items_seen view vs) ≡ keys_and_parts (items_seen view vs)
unfolding keys_and_parts
other_length view [] four = refl
other_length view (a ∷ []) four = refl
other_length view (a ∷ b ∷ []) four = refl
other_length view (a ∷ b ∷ d ∷ []) four = refl
other_length view (a ∷ b ∷ d ∷ e ∷ []) four = absurd (four refl)
other_length view (a ∷ b ∷ d ∷ e ∷ f ∷ vs) four = refl

pub returns-in_default : goal.returns-in_default
returns-in_default g c =
    let view = g.J.JsonValue.stands_for in
    let vs = c.args.items.now in
    let other : two_keys (items_seen view vs) ≡ keys_and_parts (items_seen view vs) = elim c.in_default.branch [
      | in_default-via-then-items-lt4 w ↦ other_length view vs (λ e. omega (arith, ltb-true))
      | in_default-via-else-items-lt4+else-items-lt5 w ↦ other_length view vs (λ e. omega (arith, ltb-false))
    ] in
    subst (λ read. Gives text_lacks_memory (λ n. n) c.two_keys.result read) other c.two_keys.ensures
