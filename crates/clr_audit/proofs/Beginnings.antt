-- Lists to which the first of some elements were added.
use Rattle.std.proofs.Common.{◌≡◌, ◌∙◌, ℕ, Bool, true, false, cond, List, [], ◌∷◌, ◌++◌, append-nil, append_assoc, ap, drop, refl, sym, take}
use Rattle.std.specs.List.{flat_map}
use Rattle.clr_rules.specs.declared.roles.Roles.{Roles}
use Rattle.clr_spots.specs.declared.spots.Spot.{Spot}
use Rattle.clr_spots.specs.declared.spot_maps.FiledPart.{FiledPart}
use Rattle.clr_audit.specs.declared.role_index.RoleIndex.{RoleIndex}
use Rattle.clr_rows.specs.Beginnings.{IsBegun}
use Rattle.clr_rows.proofs.BeginningLaws.{some_begun, then_begun}
use Rattle.clr_spots.specs.Filing.{near}
use Rattle.clr_spots.proofs.Beginnings.{flat_parts}
use Rattle.clr_audit.specs.RoleFiling.{partners}

-- what is made of the first of some things was added
module _ {X Y : Type 0} (f : Y → List X) where
  pub flat_begun : (old mid new : List X) (ys : List Y) (k : ℕ) → mid ≡ old ++ flat_map f (take k ys) → new ≡ mid → IsBegun old (flat_map f ys) new
  flat_begun old mid new ys k is same = some_begun old (flat_map f ys) new (flat_map f (take k ys)) (flat_map f (drop k ys)) (same ∙ is) (flat_parts f ys k)

-- the subjects that may stand beside a row: of three maps, one after another
module _ (index : RoleIndex) (roles : Roles) (xs : List Spot) (wide : Bool) (old : List FiledPart) where
  pub partners_begun : (new : List FiledPart) → IsBegun old (near index.boths xs wide) new → IsBegun old (partners index roles xs wide) new
  partners_begun new begun = then_begun old (partners index roles xs wide) old new [] (near index.boths xs wide)
      (cond roles.second (near index.firsts xs wide) [] ++ cond roles.first (near index.seconds xs wide) []) (sym (append-nil old)) refl begun

  pub firsts_begun : (mid new : List FiledPart) → roles.second ≡ true → mid ≡ old ++ near index.boths xs wide → IsBegun mid (near index.firsts xs wide) new
      → IsBegun old (partners index roles xs wide) new
  firsts_begun mid new second is begun = then_begun old (partners index roles xs wide) mid new (near index.boths xs wide) (near index.firsts xs wide)
      (cond roles.first (near index.seconds xs wide) []) is
      (ap (λ b. near index.boths xs wide ++ (cond b (near index.firsts xs wide) [] ++ cond roles.first (near index.seconds xs wide) [])) second) begun

  pub seconds_begun : (mid new : List FiledPart) → roles.first ≡ true → mid ≡ (old ++ near index.boths xs wide)
      ++ cond roles.second (near index.firsts xs wide) []
      → IsBegun mid (near index.seconds xs wide) new → IsBegun old (partners index roles xs wide) new
  seconds_begun mid new first is begun =
      let firsts = cond roles.second (near index.firsts xs wide) [] in
      then_begun old (partners index roles xs wide) mid new (near index.boths xs wide ++ firsts) (near index.seconds xs wide) [] (is
      ∙ append_assoc old (near index.boths xs wide) firsts)
      (ap (λ b. near index.boths xs wide ++ (firsts ++ cond b (near index.seconds xs wide) [])) first
      ∙ sym (append_assoc (near index.boths xs wide) firsts (near index.seconds xs wide)) ∙ ap (λ es. (near index.boths xs wide ++ firsts)
      ++ es) (sym (append-nil (near index.seconds xs wide)))) begun
