use Rattle.std.proofs.Common.{◌≡◌, ◌++◌, ◌∷◌, [], ℕ, ℤ, List, rules, arith, append_assoc, ap, w64, SFits, to_z-of_z}
use Rattle.std.proofs.Output.{has_written_of_eq}
use Rattle.clr_rows.specs.declared.places.Place.{Place}
use Rattle.clr_metres.specs.Metres.{metres_text}
use Rattle.clr_phrases.specs.Places.{place_text}
use Rattle.clr_phrases.proofs.measures.AtDisplay.fmt.Goals as goal

regrouped : (a b : List ℕ) → a ++ (44 ∷ 32 ∷ (b ++ (41 ∷ []))) ≡ ((a ++ (44 ∷ 32 ∷ [])) ++ b) ++ (41 ∷ [])
regrouped a b = grind (arith, append_assoc)

place_by_coordinates : (p : Place) (x y : ℤ) → x ≡ p.x → y ≡ p.y → 40 ∷ (metres_text x ++ (44 ∷ 32 ∷ (metres_text y ++ (41 ∷ [])))) ≡ place_text p
place_by_coordinates p x y e f = rw (e, f) (ap (λ t. 40 ∷ t) (regrouped (metres_text p.x) (metres_text p.y)))

pub returns-clause-writes : goal.returns-clause-writes
returns-clause-writes g c plain ok =
    let fits_x : SFits w64 c.args.self.now.0.x = search rules in
    let fits_y : SFits w64 c.args.self.now.0.y = search rules in
    has_written_of_eq _ _ _ _ _ (place_by_coordinates c.args.self.now.0 _ _ (to_z-of_z fits_x) (to_z-of_z fits_y)) (c.write.ensures.writes plain ok)
