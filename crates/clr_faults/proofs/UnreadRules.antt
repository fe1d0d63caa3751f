-- Rules that name what the schema hasn't have no fault of a book, and no known need with a fault.
use Rattle.std.proofs.Common.{◌≡◌, ◌≢◌, ℕ, IfOk, List, map, Option, None, Result, Ok, Err, refl, sym, ap, ◌∙◌}
use Rattle.std.proofs.lemmas.Result.{IfOk-weaker}
use Rattle.serde_json.specs.Data.{Data}
use Rattle.clr_rows.specs.declared.tables.TableDef.{TableDef}
use Rattle.clr_rules.specs.declared.books.faults.RuleFault.{RuleFault}
use Rattle.clr_readings.specs.Readings.{Fails}
use Rattle.clr_rule_text.specs.declared.faults.TextFault.{TextFault}
use Rattle.clr_rule_text.specs.declared.faults.TextFault.TheVariants as fault
use Rattle.clr_rule_text.specs.declared.formats.Format.{Format}
use Rattle.clr_rule_text.specs.declared.named_rules.NamedRule.{NamedRule}
use Rattle.clr_rule_text.specs.declared.stated_rules.StatedRule.{StatedRule}
use Rattle.clr_rule_text.specs.Fields.{each_in, text_lacks_memory}
use Rattle.clr_rule_text.specs.Rules.{rule_over, stated_rules_of}
use Rattle.clr_faults.specs.declared.known_faults.BadNeed.{BadNeed}
use Rattle.clr_faults.specs.InnerFaults.{book_fault_of}
use Rattle.clr_faults.specs.KnownFaults.{bad_need_stated}
use Rattle.clr_faults.proofs.Lost.{fails_exactly}

-- the rules that are stated can't be read over the schema, as the rules that were parted from them
unread : (tables : List TableDef) (stated : List StatedRule) (named : List NamedRule) (e : TextFault) → named ≡ map (λ s. s.rule) stated
    → Fails text_lacks_memory e (each_in (rule_over tables) named) → e ≢ fault.OutOfMemory
    → each_in (rule_over tables) (map (λ s. s.rule) stated) ≡ Err e
unread tables stated named e rules failed kept = ap (each_in (rule_over tables)) (sym rules) ∙ fails_exactly e (each_in (rule_over tables) named) kept failed

pub no_book : {E : Type 0} (format : Format) (tables : List TableDef) (d : Data) (stated : List StatedRule) (named : List NamedRule) (e : TextFault)
    (given : Result (Option (ℕ × RuleFault)) E) → stated_rules_of format d ≡ Ok stated → named ≡ map (λ s. s.rule) stated
    → Fails text_lacks_memory e (each_in (rule_over tables) named) → IfOk given (λ x. (x ≡ None) × (e ≢ fault.OutOfMemory))
    → IfOk given (λ x. x ≡ book_fault_of format tables d)
unfolding book_fault_of
no_book format tables d stated named e given read rules failed told =
    IfOk-weaker given _ _ (λ x h. h.0 ∙ rw (read, unread tables stated named e rules failed h.1) refl) told

pub no_needs : {E : Type 0} (tables : List TableDef) (stated : List StatedRule) (named : List NamedRule) (e : TextFault)
    (given : Result (Option BadNeed) E) → named ≡ map (λ s. s.rule) stated → Fails text_lacks_memory e (each_in (rule_over tables) named)
    → IfOk given (λ x. (x ≡ None) × (e ≢ fault.OutOfMemory)) → IfOk given (λ x. x ≡ bad_need_stated tables stated)
unfolding bad_need_stated
no_needs tables stated named e given rules failed told =
    IfOk-weaker given _ _ (λ x h. h.0 ∙ rw (unread tables stated named e rules failed h.1) refl) told
