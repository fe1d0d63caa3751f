-- Reading places two numbers at a time, as a loop does.
use Rattle.std.proofs.Common.{◌≡◌, ◌==◌, ◌-◌, ◌≤◌, ◌<◌, true, false, List, [], ◌∷◌, ◌++◌, length, get_or, take, drop, Result, Ok, Err, refl, sym, ap, ◌∙◌}
use Rattle.std.proofs.Common.{arith}
use Rattle.std.proofs.lemmas.List.{append-nil, take_all}
use Rattle.std.proofs.lemmas.Bool.{ne_eqb}
use Rattle.serde_json.specs.Data.{Data}
use Rattle.clr_rule_text.specs.Seen.{items_seen}
use Rattle.clr_rows.specs.declared.places.Place.{Place}
use Rattle.clr_rule_text.specs.declared.faults.TextFault.{TextFault}
use Rattle.clr_rule_text.specs.declared.faults.TextFault.TheVariants as fault
use Rattle.clr_readings.specs.Readings.{◌>>=◌, Fails}
use Rattle.clr_rule_text.specs.Fields.{text_lacks_memory}
use Rattle.clr_office_reading.specs.Cells.{place_of, places_of}
use Rattle.clr_readings.proofs.FaultTurns.{fails_with}
use Rattle.clr_readings.proofs.Fronts.{regroup_after, with_front}

next : {J : Type 0} (view : J → Data) (front : List Place) (vs : List J) (x y : J) → 2 ≤ length vs → x ≡ get_or vs 0 x → y ≡ get_or vs 1 y
    → with_front front (places_of (items_seen view vs)) ≡ place_of (view x) (view y) >>= λ p. with_front (front ++ p
    ∷ []) (places_of (items_seen view (take (length vs - 2) (drop 2 vs))))
unfolding places_of
next view front [] x y two first second = absurd (omega (arith, two))
next view front (a ∷ []) x y two first second = absurd (omega (arith, two))
next view front (a ∷ b ∷ vs) x y two first second =
    let rest : take (length (a ∷ b ∷ vs) - 2) vs ≡ vs = take_all (length (a ∷ b ∷ vs) - 2) vs (omega arith) in
    rw (rest, first, second) (regroup_after front (place_of (view a) (view b)) (places_of (items_seen view vs)))

-- one more place is read
pub goes_on : {J : Type 0} (view : J → Data) (front : List Place) (vs : List J) (x y : J) (p : Place) (whole : Result (List Place) TextFault) → 2 ≤ length vs
    → x ≡ get_or vs 0 x → y ≡ get_or vs 1 y → place_of (view x) (view y) ≡ Ok p
    → with_front front (places_of (items_seen view vs)) ≡ whole → with_front (front ++ p ∷ []) (places_of (items_seen view (take (length vs - 2) (drop 2 vs))))
    ≡ whole
goes_on view front vs x y p whole two first second was so_far = sym (next view front vs x y two first second ∙ rw was refl) ∙ so_far

-- a place has a fault, and so has the whole
pub stops : {J : Type 0} (view : J → Data) (e : TextFault) (front : List Place) (vs : List J) (x y : J) (whole : Result (List Place) TextFault) → 2 ≤ length vs
    → x ≡ get_or vs 0 x → y ≡ get_or vs 1 y → Fails text_lacks_memory e (place_of (view x) (view y))
    → with_front front (places_of (items_seen view vs)) ≡ whole → Fails text_lacks_memory e whole
stops view e front vs x y whole two first second failed so_far = fails_with text_lacks_memory e (place_of (view x) (view y)) _ whole failed
    (sym (next view front vs x y two first second) ∙ so_far)

-- a number is left over
pub left_over : {J : Type 0} (view : J → Data) (front : List Place) (vs : List J) (whole : Result (List Place) TextFault) → false ≡ (length vs == 0)
    → length vs < 2 → with_front front (places_of (items_seen view vs)) ≡ whole → whole ≡ Err fault.BadField
unfolding places_of
left_over view front [] whole some one so_far = absurd cc
left_over view front (a ∷ []) whole some one so_far = sym so_far
left_over view front (a ∷ b ∷ vs) whole some one so_far = absurd (omega (arith, one))

-- no number is left
pub is_done : {J : Type 0} (view : J → Data) (front : List Place) (vs : List J) (whole : Result (List Place) TextFault) → true ≡ (length vs == 0)
    → with_front front (places_of (items_seen view vs)) ≡ whole → whole ≡ Ok front
unfolding places_of
is_done view front [] whole none so_far = sym so_far ∙ ap (λ ys. Ok ys) (append-nil front)
is_done view front (a ∷ vs) whole none so_far =
    let some : (length (a ∷ vs) == 0) ≡ false = ne_eqb (length (a ∷ vs)) 0 (λ e. omega (arith, e)) in
    let both : true ≡ false = none ∙ some in
    absurd cc
