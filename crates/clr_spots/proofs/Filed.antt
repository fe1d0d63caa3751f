-- Parts that are filed stay, and are near the spots that their rows share.
use Rattle.std.proofs.Common.{◌≡◌, inl, inr, Bool, true, false, cond, List, [], ◌∷◌, ◌++◌, Some, refl, sym, ap, subst, ◌∙◌, unwrap_or, Contains}
use Rattle.std.proofs.lemmas.Bool.{cases_Bool}
use Rattle.std.specs.Cmp.{Equal-is, tied_itself}
use Rattle.std.specs.FinMap as finite
use Rattle.std.specs.List.{flat_map}
use Rattle.std.specs.Ordering.{eq_by_cmp}
use Rattle.clr_spots.specs.declared.spots.Spot.{Spot}
use Rattle.clr_spots.specs.SpotOrder.{spot_cmp, same_spot}
use Rattle.clr_spots.specs.SpotOrderLaws.{spot_cmp_total, spot_cmp_exact, same_spot_is}
use Rattle.clr_spots.specs.Spots.{unless_many, are_many}
use Rattle.clr_rules.proofs.Elements.{Among, among, among_left, among_right, contained, flat_among, some_of}
use Rattle.clr_spots.proofs.SharedSpots.{Common, Listed}
use Rattle.clr_spots.specs.declared.spot_maps.FiledPart.{FiledPart}
use Rattle.clr_spots.specs.Filing.{Filed, PartsBySpot, IsFiled, parts_at, filed_at, filed_at_all, with_filed, near}

spot_itself : (x : Spot) → eq_by_cmp spot_cmp x x ≡ true
spot_itself x = (Equal-is (spot_cmp x x)).1 (tied_itself spot_cmp_total x)

parts_after : (m : PartsBySpot) (y x : Spot) (e : FiledPart) → parts_at (filed_at m y e) x
    ≡ unwrap_or (cond (eq_by_cmp spot_cmp x y) (Some (parts_at m y ++ e ∷ [])) (finite.get m x)) []
parts_after m y x e = ap (λ o. unwrap_or o []) (finite.get-insert spot_cmp_total m y (parts_at m y ++ e ∷ []) x)

stays_at : (m : PartsBySpot) (y x : Spot) (e q : FiledPart) → Among q (parts_at m x) → Among q (parts_at (filed_at m y e) x)
stays_at m y x e q h = subst (Among q) (sym (parts_after m y x e)) (go (eq_by_cmp spot_cmp x y) refl)
  where
    go : (b : Bool) → eq_by_cmp spot_cmp x y ≡ b → Among q (unwrap_or (cond b (Some (parts_at m y ++ e ∷ [])) (finite.get m x)) [])
    go true tie = let same : x ≡ y = spot_cmp_exact x y ((Equal-is (spot_cmp x y)).0 tie) in among_left q (parts_at m y) (e
        ∷ []) (subst (λ z. Among q (parts_at m z)) same h)
    go false tie = h

stays_at_all : (m : PartsBySpot) (ys : List Spot) (x : Spot) (e q : FiledPart) → Among q (parts_at m x) → Among q (parts_at (filed_at_all m ys e) x)
stays_at_all m [] x e q h = h
stays_at_all m (y ∷ ys) x e q h = stays_at_all (filed_at m y e) ys x e q (stays_at m y x e q h)

put_at : (m : PartsBySpot) (x : Spot) (e : FiledPart) → Among e (parts_at (filed_at m x e) x)
put_at m x e = subst (Among e) (sym (parts_after m x x e ∙ ap (λ b. unwrap_or (cond b (Some (parts_at m x ++ e ∷ [])) (finite.get m x)) [])
    (spot_itself x)))
    (among_right e (parts_at m x) (e ∷ []) (inl refl))

put_at_each : (m : PartsBySpot) (ys : List Spot) (x : Spot) (e : FiledPart) → Among x ys → Among e (parts_at (filed_at_all m ys e) x)
put_at_each m [] x e h = absurd h
put_at_each m (y ∷ ys) x e (inl is) = stays_at_all (filed_at m y e) ys x e e (subst (λ z. Among e (parts_at (filed_at m y e) z)) is (put_at m y e))
put_at_each m (y ∷ ys) x e (inr h) = put_at_each (filed_at m y e) ys x e h

in_wide : (b : Bool) (wide : List FiledPart) (e q : FiledPart) → Among q wide → Among q (cond b (wide ++ e ∷ []) wide)
in_wide true wide e q h = among_left q wide (e ∷ []) h
in_wide false wide e q h = h

pub part_stays : (m : Filed) (e q : FiledPart) (xs ys : List Spot) (wide : Bool) → IsFiled m q ys → IsFiled (with_filed m e xs wide) q ys
part_stays m e q xs ys wide h = record {
  wide = λ many. contained q (cond wide (m.wide ++ e ∷ []) m.wide) (in_wide wide m.wide e q (among q m.wide (h.wide many)));
  at = λ x k. contained q (parts_at (filed_at_all m.by_spot xs e) x) (stays_at_all m.by_spot xs x e q (among q (parts_at m.by_spot x) (h.at x k)));
  all = contained q (m.all ++ e ∷ []) (among_left q m.all (e ∷ []) (among q m.all h.all));
}

pub new_part_filed : (m : Filed) (e : FiledPart) (xs : List Spot) → IsFiled (with_filed m e (unless_many xs) (are_many xs)) e xs
new_part_filed m e xs = record {
  wide = λ many. contained e (cond (are_many xs) (m.wide ++ e ∷ []) m.wide) (subst (λ b. Among e (cond b (m.wide ++ e ∷ []) m.wide)) (sym many)
      (among_right e m.wide (e ∷ []) (inl refl)));
  at = λ x k. contained e (parts_at (filed_at_all m.by_spot (unless_many xs) e) x) (put_at_each m.by_spot (unless_many xs) x e (among x (unless_many xs) k));
  all = contained e (m.all ++ e ∷ []) (among_right e m.all (e ∷ []) (inl refl));
}

-- a spot that is listed is one of the list
listed_among : (x : Spot) (xs : List Spot) → Listed x xs → Among x xs
listed_among x xs h = let (y, k, same) = some_of (same_spot x) xs h in subst (λ z. Among z xs) (sym (same_spot_is x y same)) k

few_kept : (xs : List Spot) (x : Spot) → are_many xs ≡ false → Among x xs → Among x (unless_many xs)
few_kept xs x few h = subst (λ b. Among x (cond b [] xs)) (sym few) h

-- a part is near the spots that its row shares
pub found_near : (m : Filed) (e : FiledPart) (xs ys : List Spot) → IsFiled m e ys → Common xs ys → Contains (near m (unless_many xs) (are_many xs)) e
found_near m e xs ys h w = contained e (near m (unless_many xs) (are_many xs)) (elim (cases_Bool (are_many xs)) [
  | inl many ↦ subst (λ b. Among e (cond b m.all (m.wide ++ flat_map (parts_at m.by_spot) (unless_many xs)))) (sym many) (among e m.all h.all)
  | inr few ↦ subst (λ b. Among e (cond b m.all (m.wide ++ flat_map (parts_at m.by_spot) (unless_many xs)))) (sym few) (elim (cases_Bool (are_many ys)) [
    | inl many ↦ among_left e m.wide (flat_map (parts_at m.by_spot) (unless_many xs)) (among e m.wide (h.wide many))
    | inr low ↦ among_right e m.wide (flat_map (parts_at m.by_spot) (unless_many xs))
        (flat_among (parts_at m.by_spot) w.0 e (unless_many xs) (few_kept xs w.0 few (listed_among w.0 xs w.1))
        (among e (parts_at m.by_spot w.0) (h.at w.0 (contained w.0 (unless_many ys) (few_kept ys w.0 low (listed_among w.0 ys w.2))))))
  ])
])
