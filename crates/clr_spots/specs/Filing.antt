-- Parts of rows, filed by the spots of their rows.
use Rattle.std.specs.Prelude.{◌≡◌, ℕ, Bool, List, [], ◌∷◌, ◌++◌, Option, Some, true, Contains, take, unwrap_or, refl, if◌then◌else◌}
use Rattle.std.specs.Coded.{Coded, code_by, coded×, coded_list, coded_ℕ}
use Rattle.std.specs.FinMap as finite
use Rattle.std.specs.List.{flat_map}
use Rattle.clr_rows.specs.Beginnings.{IsBegun}
use Rattle.clr_spots.specs.declared.spots.Spot.{Spot}
use Rattle.clr_spots.specs.contracts.spots.Spot as spot_type
use Rattle.clr_spots.specs.SpotOrder.{same_spot, spot_cmp}
use Rattle.clr_spots.specs.Spots.{are_many, unless_many}
use Rattle.clr_spots.specs.declared.spot_maps.FiledPart.{FiledPart}

abbrev pub coded_part : Coded FiledPart
coded_part = code_by (ℕ × ℕ) (coded× coded_ℕ coded_ℕ) (λ e. (e.position, e.part)) (λ p. record { position = p.0; part = p.1 }) (λ _. refl)

abbrev pub PartsBySpot : Type 0
PartsBySpot = finite.FinMap spot_cmp (List FiledPart)

-- the parts at each spot, those of wide rows, and all, in the order in which they are filed
pub record Filed : Type 0 where
  pub by_spot : PartsBySpot
  pub wide : List FiledPart
  pub all : List FiledPart

abbrev pub coded_filed : Coded Filed
coded_filed = code_by (PartsBySpot × (List FiledPart × List FiledPart))
    (coded× (finite.code spot_type.the_row.coded (coded_list coded_part)) (coded× (coded_list coded_part) (coded_list coded_part)))
    (λ i. (i.by_spot, (i.wide, i.all)))
    (λ p. record { by_spot = p.0; wide = p.1.0; all = p.1.1 })
    (λ _. refl)

abbrev pub nothing_filed : Filed
nothing_filed = record { by_spot = finite.empty; wide = []; all = [] }

abbrev pub parts_at : PartsBySpot → Spot → List FiledPart
parts_at by_spot x = unwrap_or (finite.get by_spot x) []

abbrev pub filed_at : PartsBySpot → Spot → FiledPart → PartsBySpot
filed_at by_spot x e = finite.insert by_spot x (parts_at by_spot x ++ e ∷ [])

-- a part filed at each of some spots
abbrev pub filed_at_all : PartsBySpot → List Spot → FiledPart → PartsBySpot
filed_at_all by_spot [] e = by_spot
filed_at_all by_spot (x ∷ xs) e = filed_at_all (filed_at by_spot x e) xs e

-- a part of a row of these spots, wide or not, filed
abbrev pub with_filed : Filed → FiledPart → List Spot → Bool → Filed
with_filed m e xs wide = record {
  by_spot = filed_at_all m.by_spot xs e;
  wide = if wide then m.wide ++ e ∷ [] else m.wide;
  all = m.all ++ e ∷ [];
}

-- the parts that may stand in a need with a row of these spots, wide or not
abbrev pub near : Filed → List Spot → Bool → List FiledPart
near m xs wide = if wide then m.all else m.wide ++ flat_map (parts_at m.by_spot) xs

-- a part of a row is filed where it is to be, at the first of these places or at none; all that was filed stays
pub record IsPartlyFiled (m : Filed) (e : FiledPart) (xs : List Spot) (many : Bool) (n : Filed) : Type 0 where
  pub by_spot : (k : ℕ) × (n.by_spot ≡ filed_at_all m.by_spot (take k xs) e)
  pub wide : IsBegun m.wide (if many then e ∷ [] else []) n.wide
  pub all : IsBegun m.all (e ∷ []) n.all

-- one more part at a spot, and the others as before
abbrev pub HasMore : Spot → FiledPart → (Spot → Option (List FiledPart)) → (Spot → Option (List FiledPart)) → Type 0
HasMore x e before after = (y : Spot) → after y ≡ (if same_spot x y then Some (unwrap_or (before x) [] ++ e ∷ []) else before y)

-- a part of a row of these spots is filed
pub record IsFiled (m : Filed) (e : FiledPart) (xs : List Spot) : Type 0 where
  pub wide : are_many xs ≡ true → Contains m.wide e
  pub at : (x : Spot) → Contains (unless_many xs) x → Contains (parts_at m.by_spot x) e
  pub all : Contains m.all e
