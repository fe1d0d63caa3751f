use Rattle.std.proofs.Common.{◌≡◌, ◌∙◌, ℕ, List, None, Option, Some, ap, length, refl, slice_get, sym, unwrap_or}
use Rattle.std.proofs.lemmas.Option.{slice_get_past, slice_get_read}
use Rattle.clr_layer_faults.specs.FieldPlaces.{record_starts}
use Rattle.clr_layer_faults.proofs.PlaceLemmas.{start_within}
use Rattle.clr_layer_faults.proofs.field_places.record_start.Goals as goal

pub returns-in-Some-clause-within : goal.returns-in-Some-clause-within
returns-in-Some-clause-within c =
    let starts = c.args.starts.now in
    let k = c.saturating_sub.result in
    let start = c.in-Some.start.now in
    let read : slice_get starts k ≡ Some start =
    slice_get_read starts (length starts) k start refl c.in-Some.ensures.lookup.3.0 (c.in-Some.ensures.lookup.3.1 start) in
    start_within c.args.bytes.now k start (ap (λ (ss : List ℕ). slice_get ss k) (sym c.requires) ∙ read)

pub returns-in-None-clause-value : goal.returns-in-None-clause-value
returns-in-None-clause-value c =
    let starts = c.args.starts.now in
    let all = record_starts c.args.bytes.now in
    let k = c.saturating_sub.result in
    let none : slice_get starts k ≡ None = slice_get_past starts k c.in-None.ensures.lookup.3 in
    sym (ap (λ (o : Option ℕ). unwrap_or o 0) (ap (slice_get all) (sym c.saturating_sub.ensures) ∙ ap (λ (ss : List ℕ). slice_get ss k) (sym c.requires) ∙ none))
