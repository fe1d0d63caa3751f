-- Names and values in a sentence.
use Rattle.std.proofs.Common.{◌≡◌, ◌∙◌, ℕ, ◌-◌, List, [], ◌∷◌, ◌++◌, Bor, codes, length, map, append-nil, refl, sym, ap}
use Rattle.std.proofs.Math.Nat.{zero-sub}
use Rattle.std.specs.List.{join_by}
use Rattle.std.specs.Fmt.{char_count, fill_text, format_spec, padded, take_chars}
use Rattle.std.proofs.lemmas.List.Folds.{flat_map-map}
use Rattle.std.proofs.lemmas.List.{length-map}
use Rattle.clr_hints.specs.Names.{hint_at_all, hint_listing}

-- names that are lent are joined as the names are
pub joined_lent : (between : List ℕ) (names : List (Bor (List ℕ))) →
    join_by (λ name. name) between (map (λ (name : Bor (List ℕ)). name.now) names) ≡ join_by (λ name. name.now) between names
joined_lent between [] = refl
joined_lent between (name ∷ names) =
    ap (λ (rest : List ℕ). name.now ++ rest) (flat_map-map (λ (other : List ℕ). between ++ other) (λ (other : Bor (List ℕ)). other.now) names)

pub lent_hint : (names : List (Bor (List ℕ))) →
    hint_listing (length names) (join_by (λ name. name.now) (codes ", ") names) ≡ hint_at_all (map (λ (name : Bor (List ℕ)). name.now) names)
lent_hint names =
    ap (λ (listed : List ℕ). hint_listing (length names) listed) (sym (joined_lent (codes ", ") names))
    ∙ ap (λ (count : ℕ). hint_listing count (join_by (λ name. name) (codes ", ") (map (λ (name : Bor (List ℕ)). name.now) names)))
    (sym (length-map names (λ (name : Bor (List ℕ)). name.now)))

-- a text that is cut behind its first characters is filled with nothing
pub cut_text : (fill count : ℕ) (text : List ℕ) → padded (format_spec fill 0 0 0 count) text ≡ take_chars count text
unfolding padded
cut_text fill count text =
    ap (λ (filled : ℕ). take_chars count text ++ fill_text (format_spec fill 0 0 0 count) (filled - 0)) (zero-sub (char_count (take_chars count text)))
    ∙ append-nil (take_chars count text)
