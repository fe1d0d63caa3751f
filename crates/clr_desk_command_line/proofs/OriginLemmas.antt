-- Texts without a comma.
use Rattle.std.proofs.Common.{◌≡◌, ℕ, ◌+◌, ◌||◌, Bool, true, false, not, cond, List, [], ◌∷◌, length, arith, refl}
use Rattle.std.specs.List.{list_any, position_or_len}
use Rattle.clr_desk_command_line.specs.Databases.{is_comma}

-- a text in which no comma is found has none
pub has_no_comma : (text : List ℕ) → position_or_len is_comma text ≡ length text → list_any is_comma text ≡ false
has_no_comma [] e = refl
has_no_comma (x ∷ xs) e = go (is_comma x) (has_no_comma xs) e
  where
    go : (b : Bool) → (position_or_len is_comma xs ≡ length xs → list_any is_comma xs ≡ false) → cond (not b) (1 + position_or_len is_comma xs) 0
        ≡ length (x ∷ xs)
        → (b || list_any is_comma xs) ≡ false
    go true rest e = absurd (omega arith)
    go false rest e = rest (omega arith)
