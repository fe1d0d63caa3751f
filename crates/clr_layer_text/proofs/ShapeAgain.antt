-- Shapes that are written as WKT are read as the same.
use Rattle.std.proofs.Common.{◌≡◌, ℕ, ◌+◌, ◌<◌, ◌≤◌, Bool, true, false, List, [], ◌∷◌, ◌++◌, map, codes, Ok, refl, ap, ◌∙◌}
use Rattle.std.proofs.Common.{◌/◌, ◌%◌, ltb, ℤ, pos, negsuc, arith, append-nil}
use Rattle.std.specs.Prelude.{unsigned_abs}
use Rattle.std.specs.List.{AllByRecursion, flat_map, list_all}
use Rattle.std.proofs.lemmas.Bool.{and_parts, leb-true, ltb-true, ne_eqb}
use Rattle.std.proofs.lemmas.List.{length-append}
use Rattle.std.specs.Fmt.{decimal}
use Rattle.clr_rows.specs.declared.limits.TheConstants.{GREATEST_COORDINATE}
use Rattle.clr_rows.specs.declared.places.Place.{Place}
use Rattle.clr_rows.specs.declared.places.Shape.{Shape}
use Rattle.clr_rows.specs.declared.places.Shape.TheVariants.{Bare, At, Line, Chain}
use Rattle.clr_rows.specs.declared.tables.Form.{Form}
use Rattle.clr_rows.specs.declared.tables.Form.TheVariants as form
use Rattle.clr_rows.specs.Schemas.{has_coordinates, is_bad_path, is_coordinate, is_of_form, is_place}
use Rattle.clr_records.specs.Records.{in_turn}
use Rattle.clr_metres.specs.Metres.{metres_text, three_digits}
use Rattle.clr_layer_text.specs.Pieces.{is_empty, is_mark, pieces_of, spaced_words_of}
use Rattle.clr_layer_text.specs.Wkt.{closed_of, line_as, line_text, next_text, place_of, place_text, places_of, places_text, point_text, shape_of, shape_text}
use Rattle.clr_records.proofs.Turns.{joined}
use Rattle.clr_layer_text.proofs.CutAgain.{IsNumberByte, Lacks, cut_again, each_so, first_piece, lacks_mark, one_piece}
use Rattle.clr_layer_text.proofs.MetresAgain.{metres_again, metres_bytes}

coordinate_low : (p : Place) → is_place p ≡ true → (unsigned_abs p.x ≤ GREATEST_COORDINATE) × (unsigned_abs p.y ≤ GREATEST_COORDINATE)
coordinate_low p e =
    let t = and_parts (is_coordinate p.x) (is_coordinate p.y) e in
    (leb-true (unsigned_abs p.x) GREATEST_COORDINATE t.0, leb-true (unsigned_abs p.y) GREATEST_COORDINATE t.1)

-- places -----------------------------------------------------------------------------------------

-- a mark other than a space, below the bytes of numbers, stands in no place
place_lacks : (mark : ℕ) (p : Place) → mark < 45 → is_mark mark 32 ≡ false → is_place p ≡ true → Lacks mark (place_text p)
place_lacks mark p low other e =
    let is = coordinate_low p e in
    joined (λ b. is_mark mark b ≡ false) (metres_text p.x) (32 ∷ metres_text p.y) (lacks_mark mark (metres_text p.x) low (metres_bytes p.x is.0))
    (other, lacks_mark mark (metres_text p.y) low (metres_bytes p.y is.1))

-- a number has a byte
has_byte : (z : ℤ) → is_empty (metres_text z) ≡ false
has_byte (pos n) = ne_eqb _ 0 (λ e. omega (arith, length-append (decimal (n / 1000)) (46 ∷ three_digits (n % 1000))))
has_byte (negsuc n) = ne_eqb _ 0 (λ e. omega arith)

two_words : (p : Place) → is_place p ≡ true → spaced_words_of (place_text p) ≡ metres_text p.x ∷ metres_text p.y ∷ []
two_words p e =
    let is = coordinate_low p e in
    rw (
      first_piece 32 (metres_text p.x) (metres_text p.y) (lacks_mark 32 (metres_text p.x) (omega arith) (metres_bytes p.x is.0)),
      one_piece 32 (metres_text p.y) (lacks_mark 32 (metres_text p.y) (omega arith) (metres_bytes p.y is.1)),
      has_byte p.x,
      has_byte p.y,
    ) refl

place_again : (rounded : Bool) (p : Place) → is_place p ≡ true → place_of rounded (place_text p) ≡ Ok p
place_again rounded p e =
    let is = coordinate_low p e in
    rw (two_words p e, metres_again rounded p.x is.0, metres_again rounded p.y is.1) refl

-- a place is read as it was written behind a space
next_again : (rounded : Bool) (p : Place) → is_place p ≡ true → place_of rounded (32 ∷ place_text p) ≡ Ok p
next_again rounded p e =
    let is = coordinate_low p e in
    let words : spaced_words_of (32 ∷ place_text p) ≡ spaced_words_of (place_text p) = refl in
    rw (words, two_words p e, metres_again rounded p.x is.0, metres_again rounded p.y is.1) refl

-- lists of places --------------------------------------------------------------------------------

abbrev spaced : Place → List ℕ
spaced p = 32 ∷ place_text p

pieces_again : (front : List ℕ) (ps : List Place) → Lacks 44 front → list_all is_place ps ≡ true → pieces_of 44 (front ++ flat_map next_text ps) ≡ front
    ∷ map spaced ps
pieces_again front [] all e = rw (append-nil front) (one_piece 44 front all)
pieces_again front (p ∷ ps) all e =
    let t = and_parts (is_place p) (list_all is_place ps) e in
    first_piece 44 front (spaced p ++ flat_map next_text ps) all
    ∙ ap (λ pieces. front ∷ pieces) (pieces_again (spaced p) ps (refl, place_lacks 44 p (omega arith) refl t.0) t.1)

others_again : (rounded : Bool) (n : ℕ) (ps : List Place) → list_all is_place ps ≡ true → in_turn (λ _. place_of rounded) n (map spaced ps) ≡ Ok ps
unfolding in_turn
others_again rounded n [] e = refl
others_again rounded n (p ∷ ps) e =
    let t = and_parts (is_place p) (list_all is_place ps) e in
    rw (next_again rounded p t.0, others_again rounded (n + 1) ps t.1) refl

places_again : (rounded : Bool) (p : Place) (ps : List Place) → is_place p ≡ true → list_all is_place ps ≡ true → places_of rounded (places_text (p ∷ ps))
    ≡ Ok (p ∷ ps)
unfolding in_turn
places_again rounded p ps e all =
    rw (pieces_again (place_text p) ps (place_lacks 44 p (omega arith) refl e) all, place_again rounded p e, others_again rounded (0 + 1) ps all) refl

-- what stands in parentheses ---------------------------------------------------------------------

closed_again : (s : List ℕ) → Lacks 41 s → closed_of (s ++ 41 ∷ []) ≡ Ok s
unfolding closed_of
closed_again s all = rw (cut_again 41 s [] all) refl

others_lack : (mark : ℕ) (ps : List Place) → mark < 45 → is_mark mark 32 ≡ false → is_mark mark 44 ≡ false → list_all is_place ps ≡ true
    → Lacks mark (flat_map next_text ps)
others_lack mark [] low space comma e = tt
others_lack mark (p ∷ ps) low space comma e =
    let t = and_parts (is_place p) (list_all is_place ps) e in
    joined (λ b. is_mark mark b ≡ false) (next_text p) (flat_map next_text ps) (comma, (space, place_lacks mark p low space t.0))
    (others_lack mark ps low space comma t.1)

places_lack : (mark : ℕ) (p : Place) (ps : List Place) → mark < 45 → is_mark mark 32 ≡ false → is_mark mark 44 ≡ false → is_place p ≡ true
    → list_all is_place ps ≡ true
    → Lacks mark (places_text (p ∷ ps))
places_lack mark p ps low space comma e all =
    joined (λ b. is_mark mark b ≡ false) (place_text p) (flat_map next_text ps) (place_lacks mark p low space e) (others_lack mark ps low space comma all)

-- shapes -----------------------------------------------------------------------------------------

point_again : (rounded : Bool) (wanted : Form) (p : Place) → is_place p ≡ true → shape_of rounded wanted (point_text p) ≡ Ok (At p)
unfolding shape_of
point_again rounded wanted p e =
    rw (
      cut_again 40 (codes "POINT ") (place_text p ++ 41 ∷ []) (refl, (refl, (refl, (refl, (refl, (refl, tt)))))),
      closed_again (place_text p) (place_lacks 41 p (omega arith) refl e),
      place_again rounded p e,
    ) refl

line_again : (rounded : Bool) (wanted : Form) (p : Place) (ps : List Place) → is_place p ≡ true → list_all is_place ps ≡ true
    → shape_of rounded wanted (line_text (p ∷ ps)) ≡ line_as wanted (p ∷ ps)
unfolding shape_of
line_again rounded wanted p ps e all =
    rw (
      cut_again 40 (codes "LINESTRING ") (places_text (p ∷ ps) ++ 41
          ∷ []) (refl, (refl, (refl, (refl, (refl, (refl, (refl, (refl, (refl, (refl, (refl, tt))))))))))),
      closed_again (places_text (p ∷ ps)) (places_lack 41 p ps (omega arith) refl refl e all),
      places_again rounded p ps e all,
    ) refl

-- a shape of a form, other than none, is read as the same
pub shape_again : (rounded : Bool) (wanted : Form) (shape : Shape) → is_of_form wanted shape ≡ true → has_coordinates shape ≡ true → is_bad_path shape ≡ false
    → (shape ≡ Bare → ⊥)
    → shape_of rounded wanted (shape_text shape) ≡ Ok shape
shape_again rounded wanted Bare of low good some = absurd (some refl)
shape_again rounded wanted (At p) of low good some = point_again rounded wanted p low
shape_again rounded form.Segment (Line p q) of low good some =
    let t = and_parts (is_place p) (is_place q) low in
    line_again rounded form.Segment p (q ∷ []) t.0 (rw t.1 refl)
shape_again rounded form.Bare (Line p q) of low good some = absurd cc
shape_again rounded form.Point (Line p q) of low good some = absurd cc
shape_again rounded form.Path (Line p q) of low good some = absurd cc
shape_again rounded form.Path (Chain []) of low good some = absurd cc
shape_again rounded form.Path (Chain (p ∷ ps)) of low good some =
    let t = and_parts (is_place p) (list_all is_place ps) low in
    line_again rounded form.Path p ps t.0 t.1
shape_again rounded form.Bare (Chain vertices) of low good some = absurd cc
shape_again rounded form.Point (Chain vertices) of low good some = absurd cc
shape_again rounded form.Segment (Chain vertices) of low good some = absurd cc

-- the text of a shape is in ASCII ----------------------------------------------------------------

abbrev IsLow : ℕ → Type 0
IsLow b = b < 128

number_low : (z : ℤ) → unsigned_abs z ≤ GREATEST_COORDINATE → AllByRecursion IsLow (metres_text z)
number_low z le = each_so IsNumberByte IsLow (metres_text z) (λ b is. let below = is.1 in omega arith) (metres_bytes z le)

place_low : (p : Place) → is_place p ≡ true → AllByRecursion IsLow (place_text p)
place_low p e = let is = coordinate_low p e in joined IsLow (metres_text p.x) (32 ∷ metres_text p.y) (number_low p.x is.0) (omega arith, number_low p.y is.1)

others_low : (ps : List Place) → list_all is_place ps ≡ true → AllByRecursion IsLow (flat_map next_text ps)
others_low [] e = tt
others_low (p ∷ ps) e =
    let t = and_parts (is_place p) (list_all is_place ps) e in
    joined IsLow (next_text p) (flat_map next_text ps) (omega arith, (omega arith, place_low p t.0)) (others_low ps t.1)

places_low : (ps : List Place) → list_all is_place ps ≡ true → AllByRecursion IsLow (places_text ps)
places_low [] e = tt
places_low (p ∷ ps) e =
    let t = and_parts (is_place p) (list_all is_place ps) e in
    joined IsLow (place_text p) (flat_map next_text ps) (place_low p t.0) (others_low ps t.1)

word_low : (s : List ℕ) → list_all (λ b. ltb b 128) s ≡ true → AllByRecursion IsLow s
word_low [] e = tt
word_low (b ∷ s) e = let t = and_parts (ltb b 128) (list_all (λ c. ltb c 128) s) e in (ltb-true b 128 t.0, word_low s t.1)

line_low : (ps : List Place) → list_all is_place ps ≡ true → AllByRecursion IsLow (line_text ps)
line_low ps e = joined IsLow (codes "LINESTRING (") (places_text ps ++ 41
    ∷ []) (word_low (codes "LINESTRING (") refl) (joined IsLow (places_text ps) (41 ∷ []) (places_low ps e) (omega arith, tt))

pub shape_ascii : (shape : Shape) → has_coordinates shape ≡ true → AllByRecursion (λ b. b < 128) (shape_text shape)
shape_ascii Bare low = tt
shape_ascii (At p) low = joined IsLow (codes "POINT (") (place_text p ++ 41
    ∷ []) (word_low (codes "POINT (") refl) (joined IsLow (place_text p) (41 ∷ []) (place_low p low) (omega arith, tt))
shape_ascii (Line p q) low = let t = and_parts (is_place p) (is_place q) low in line_low (p ∷ q ∷ []) (rw (t.0, t.1) refl)
shape_ascii (Chain ps) low = line_low ps low
