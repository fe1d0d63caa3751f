use Rattle.std.proofs.Common.{◌≡◌, ◌∙◌, ◌+◌, ◌++◌, ℕ, List, [], ◌∷◌, ap, append-nil, append_assoc, arith, sym}
use Rattle.std.specs.Prelude.{flat_map}
use Rattle.std.specs.List.{range_with_len}
use Rattle.std.proofs.lemmas.Grind.{flat_map-append}
use Rattle.std.proofs.lemmas.List.{map-id}
use Rattle.std.proofs.lemmas.List.FromFn.{map-range_with_len_more}
use Rattle.clr_map_scenes.specs.Designs.{follower, followers}

-- one position more
next_position : (n : ℕ) → range_with_len 0 (n + 1) ≡ range_with_len 0 n ++ n ∷ []
next_position n =
    sym (map-id (range_with_len 0 (n + 1))) ∙ (map-range_with_len_more (λ (at : ℕ). at) 0 n n (omega arith)
    ∙ ap (λ (ns : List ℕ). ns ++ n ∷ []) (map-id (range_with_len 0 n)))

pub no_followers : (leaders old : List ℕ) → old ≡ leaders → old ≡ leaders ++ followers leaders 0
unfolding followers
no_followers leaders old is = is ∙ sym (append-nil leaders)

-- the next position follows the others, if it doesn't lead
pub with_follower : (leaders old : List ℕ) (n : ℕ) → old ≡ leaders ++ followers leaders n
    → old ++ follower leaders n ≡ leaders ++ followers leaders (n + 1)
unfolding followers
with_follower leaders old n is =
    let more : flat_map (follower leaders) (range_with_len 0 (n + 1)) ≡ flat_map (follower leaders) (range_with_len 0 n) ++ follower leaders n =
    ap (flat_map (follower leaders)) (next_position n) ∙ (flat_map-append (follower leaders) (range_with_len 0 n) (n ∷ [])
    ∙ ap (λ (ns : List ℕ). flat_map (follower leaders) (range_with_len 0 n) ++ ns) (append-nil (follower leaders n))) in
    ap (λ (ns : List ℕ). ns ++ follower leaders n) is
    ∙ (append_assoc leaders (flat_map (follower leaders) (range_with_len 0 n)) (follower leaders n) ∙ ap (λ (ns : List ℕ). leaders ++ ns) (sym more))
