use Rattle.std.proofs.Common.{◌≡◌, ◌<◌, ◌∷◌, List, [], Option, None, Some, ap, arith, length, map, refl, subst, sym, ◌∙◌}
use Rattle.std.specs.Option.{option_map}
use Rattle.csv.specs.Records.{fields_of}
use Rattle.csv.specs.declared.record.StringRecord.{StringRecord}
use Rattle.clr_records.specs.Records.{records_in}
use Rattle.clr_layer_faults.specs.FoundFaults.{Record}
use Rattle.clr_skipped_records.specs.Splits.{IsSplitText}
use Rattle.clr_skipped_records.proofs.SplitLemmas.{none_split}
use Rattle.clr_skipped_records.proofs.splits.split_text.Goals as goal

no_elements : {A : Type 0} (xs : List A) → length xs < 1 → xs ≡ []
no_elements [] lt = refl
no_elements (x ∷ xs) lt = absurd (omega (arith, lt))

pub returns : goal.returns
returns c =
    let none : c.in-Some.records.items ≡ [] = sym c.as_slice-records.ensures.value ∙ no_elements c.as_slice-records.result.now c.in-empty.len_below in
    let read : Some (map fields_of c.in-Some.records.items) ≡ records_in c.args.text.now =
    sym (ap (option_map (λ v. map fields_of v.items)) c.in-Some.is) ∙ c.in_ok-records.ensures in
    subst (λ (found : Option (List Record)). IsSplitText c.args.schema.now c.args.at c.args.table.now c.args.rounded None found)
    (ap (λ (rows : List StringRecord). Some (map fields_of rows)) (sym none) ∙ read)
    (none_split c.args.schema.now c.args.at c.args.table.now c.args.rounded)
