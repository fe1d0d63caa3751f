use Rattle.std.proofs.Common.{◌≡◌, List, [], ◌∷◌, length, Err, refl, arith}
use Rattle.serde_json.specs.Data.{Data}
use Rattle.clr_rule_text.specs.declared.faults.TextFault.TheVariants.{BadField}
use Rattle.clr_rule_text.specs.Known.{one_key}
use Rattle.clr_rule_text.specs.Seen.{items_seen}
use Rattle.clr_rule_text.proofs.need_names.one_key.Goals as goal

-- a list of another length than one
other_length : {J : Type 0} (view : J → Data) (vs : List J) → (length vs ≡ 1 → ⊥) → one_key (items_seen view vs) ≡ Err BadField
unfolding one_key
other_length view [] one = refl
other_length view (a ∷ []) one = absurd (one refl)
other_length view (a ∷ b ∷ vs) one = refl

pub returns-in_default : goal.returns-in_default
returns-in_default g c = other_length g.J.JsonValue.stands_for c.args.items.now (λ e. omega (arith, c.in_default.len_below))

pub returns-in_default-2 : goal.returns-in_default-2
returns-in_default-2 g c = other_length g.J.JsonValue.stands_for c.args.items.now (λ e. omega (arith, c.in_default.len_at_least))
