use Rattle.std.proofs.Common.{◌≡◌, ◌∙◌, ◌++◌, ◌∷◌, ℕ, ℤ, List, Result, Ok, Err, append_assoc, rules, FitsSigned, w64}
use Rattle.std.specs.Prelude.{OnOk}
use Rattle.std.proofs.lemmas.Int.{to_z-of_z}
use Rattle.clr_rows.specs.declared.places.Place.{Place}
use Rattle.clr_metres.specs.Metres.{metres_text}
use Rattle.clr_layer_text.specs.Pieces.{space}
use Rattle.clr_layer_text.specs.Wkt.{place_text}
use Rattle.clr_sql.proofs.shapes.add_place.Goals as goal

joined : (p : Place) (old between now : List ℕ) (x y : ℤ) → x ≡ p.x → y ≡ p.y → between ≡ old ++ metres_text x → now ≡ between ++ space ∷ metres_text y → now
    ≡ old ++ place_text p
joined p old between now x y is_x is_y first second =
    rw (← is_x, ← is_y) (second ∙ rw first (append_assoc old (metres_text x) (space ∷ metres_text y)))

-- where a call adds the second number behind the first one, both are added
both_added : {T E : Type 0} (r : Result T E) (p : Place) (old between now : List ℕ) (x y : ℤ) → x ≡ p.x → y ≡ p.y → between ≡ old ++ metres_text x
    → OnOk r (now ≡ between ++ space ∷ metres_text y) → OnOk r (now ≡ old ++ place_text p)
both_added (Ok done) p old between now x y is_x is_y first second = joined p old between now x y is_x is_y first second
both_added (Err e) p old between now x y is_x is_y first second = tt

pub returns : goal.returns
returns c =
    let p = c.args.place in
    let fits_x : FitsSigned w64 p.x = search rules in
    let fits_y : FitsSigned w64 p.y = search rules in
    both_added c.add_spaced.result p _ _ _ _ _ (to_z-of_z w64 p.x fits_x) (to_z-of_z w64 p.y fits_y) c.in_ok-add_metres.ensures c.add_spaced.ensures
