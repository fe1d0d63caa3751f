-- Lists to which the first of some elements were added.
use Rattle.std.proofs.Common.{◌≡◌, ◌∙◌, ℕ, Bool, true, false, cond, List, [], ◌∷◌, ◌++◌, append_assoc, ap, drop, subst, sym, take}
use Rattle.std.specs.List.{flat_map}
use Rattle.std.proofs.lemmas.Grind.{flat_map-append}
use Rattle.std.proofs.lemmas.List.{take-append-drop}
use Rattle.clr_spots.specs.declared.spots.Spot.{Spot}
use Rattle.clr_spots.specs.declared.spot_maps.FiledPart.{FiledPart}
use Rattle.clr_rows.specs.Beginnings.{IsBegun}
use Rattle.clr_rows.proofs.BeginningLaws.{all_begun, none_begun, some_begun}
use Rattle.clr_spots.specs.Filing.{Filed, parts_at, near}

module _ {X : Type 0} where
  -- one element was added, if there is to be one
  pub one_begun : (b : Bool) (old : List X) (x : X) (new : List X) → new ≡ cond b (old ++ x ∷ []) old → IsBegun old (cond b (x ∷ []) []) new
  one_begun true old x new is = all_begun old (x ∷ []) new is
  one_begun false old x new is = none_begun old [] new is

module _ {X Y : Type 0} (f : Y → List X) where
  -- what is made of the first of some things, and of the others
  pub flat_parts : (ys : List Y) (k : ℕ) → flat_map f ys ≡ flat_map f (take k ys) ++ flat_map f (drop k ys)
  flat_parts ys k = ap (flat_map f) (sym (take-append-drop k ys)) ∙ flat_map-append f (take k ys) (drop k ys)

-- the parts of wide rows and those of the first spots were added
pub near_begun : (m : Filed) (xs : List Spot) (wide : Bool) (old mid new : List FiledPart) (k : ℕ) → wide ≡ false
    → mid ≡ (old ++ m.wide) ++ flat_map (parts_at m.by_spot) (take k xs) → new ≡ mid → IsBegun old (near m xs wide) new
near_begun m xs wide old mid new k few is same =
    subst (λ b. IsBegun old (cond b m.all (m.wide ++ flat_map (parts_at m.by_spot) xs)) new) (sym few)
    (some_begun old (m.wide ++ flat_map (parts_at m.by_spot) xs) new (m.wide ++ flat_map (parts_at m.by_spot) (take k xs))
    (flat_map (parts_at m.by_spot) (drop k xs))
    (same ∙ is ∙ append_assoc old m.wide (flat_map (parts_at m.by_spot) (take k xs)))
    (ap (λ es. m.wide ++ es) (flat_parts (parts_at m.by_spot) xs k)
    ∙ sym (append_assoc m.wide (flat_map (parts_at m.by_spot) (take k xs)) (flat_map (parts_at m.by_spot) (drop k xs)))))
