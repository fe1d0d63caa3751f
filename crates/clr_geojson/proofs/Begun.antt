-- The comma behind the last feature.
use Rattle.std.proofs.Common.{◌≡◌, ℕ, ◌-◌, List, [], ◌∷◌, ◌++◌, length, drop, Option, codes, refl, sym, ap, ◌∙◌, arith, append_assoc, append-nil, length-append}
use Rattle.std.proofs.Math.Seq.{take-append_seam, drop-append_seam}
use Rattle.std.specs.List.{flat_map}
use Rattle.clr_geojson.specs.declared.features.Feature.{Feature}
use Rattle.clr_geojson.specs.declared.marks.TheConstants.{COLLECTION, FEATURES}
use Rattle.clr_geojson.specs.Collections.{begun_text, head_text, line_of, line_with_comma, system_text, without_comma}
use Rattle.clr_geojson.specs.Features.{after_comma, with_commas}

one_less : (front : List ℕ) (b : ℕ) → length (front ++ b ∷ []) - 1 ≡ length front
one_less front b = rw length-append (omega arith)

last_is : (front : List ℕ) (b : ℕ) → drop (length (front ++ b ∷ []) - 1) (front ++ b ∷ []) ≡ b ∷ []
last_is front b = rw one_less (drop-append_seam front (b ∷ []))

comma_goes : (front : List ℕ) → without_comma (front ++ codes ",") ≡ front
comma_goes front = rw (last_is front 44, one_less front 44) (take-append_seam front (44 ∷ []))

bracket_stays : (front : List ℕ) → without_comma (front ++ codes "[") ≡ front ++ codes "["
bracket_stays front = rw (last_is front 91)

head_stays : (system : Option ℕ) → without_comma (head_text system) ≡ head_text system
unfolding head_text
head_stays system = bracket_stays (COLLECTION.now ++ system_text system ++ FEATURES.now)

commas_move : (features : List Feature) → codes "," ++ flat_map line_with_comma features ≡ flat_map (after_comma line_of) features ++ codes ","
unfolding line_with_comma
commas_move [] = refl
commas_move (f ∷ fs) =
    ap (λ t. codes "," ++ t) (append_assoc (line_of f) (codes ",") (flat_map line_with_comma fs) ∙ ap (λ t. line_of f ++ t) (commas_move fs))
    ∙ sym (append_assoc (codes "," ++ line_of f) (flat_map (after_comma line_of) fs) (codes ","))

some_lines : (f : Feature) (fs : List Feature) → flat_map line_with_comma (f ∷ fs) ≡ with_commas line_of (f ∷ fs) ++ codes ","
unfolding line_with_comma
some_lines f fs =
    append_assoc (line_of f) (codes ",") (flat_map line_with_comma fs) ∙ ap (λ t. line_of f ++ t) (commas_move fs)
    ∙ sym (append_assoc (line_of f) (flat_map (after_comma line_of) fs) (codes ","))

pub last_comma_goes : (system : Option ℕ) (features : List Feature) → without_comma (begun_text system features) ≡ head_text system
    ++ with_commas line_of features
last_comma_goes system [] = ap without_comma (append-nil (head_text system)) ∙ head_stays system ∙ sym (append-nil (head_text system))
last_comma_goes system (f ∷ fs) =
    ap without_comma (ap (λ t. head_text system ++ t) (some_lines f fs) ∙ sym (append_assoc (head_text system) (with_commas line_of (f ∷ fs)) (codes ",")))
    ∙ comma_goes (head_text system ++ with_commas line_of (f ∷ fs))
