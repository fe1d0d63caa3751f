-- Lines and bytes of a text, one after another.
use Rattle.std.proofs.Common.{◌≡◌, ◌∙◌, ℕ, zero, suc, ◌+◌, ◌-◌, ◌<◌, Bool, true, false, cond, not, List, [], ◌∷◌, ◌++◌, length, drop, take, filter, get_or}
use Rattle.std.proofs.Common.{Option, Some, None, append-nil, refl, sym, ap, arith}
use Rattle.std.specs.List.{last_or}
use Rattle.std.proofs.lemmas.List.Elements.{filter_more}
use Rattle.clr_text_positions.specs.Places.{next_line_length}
use Rattle.clr_hints.specs.JsonFaults.{behind_line_ends, is_space, last_byte}

nothing_behind : (count : ℕ) → behind_line_ends count [] ≡ []
unfolding behind_line_ends
nothing_behind zero = refl
nothing_behind (suc count) = nothing_behind count

-- one line end further
pub one_behind : (count passed : ℕ) (text : List ℕ) → passed < count
    → behind_line_ends (count - passed) text ≡ behind_line_ends (count - (passed + 1)) (drop (next_line_length text + 1) text)
unfolding behind_line_ends
one_behind count passed text less =
    let left : count - passed ≡ suc (count - (passed + 1)) = omega arith in
    ap (λ n. behind_line_ends n text) left

-- nothing is left
pub none_behind : (count : ℕ) (text : List ℕ) → length text ≡ 0 → text ≡ behind_line_ends count text
none_behind count [] none = sym (nothing_behind count)
none_behind count (x ∷ xs) none = absurd (omega arith)

-- no line end is to be passed
pub all_passed : (count : ℕ) (text : List ℕ) → count ≡ 0 → text ≡ behind_line_ends count text
unfolding behind_line_ends
all_passed count text none = rw none refl

-- the last byte that is no white space ------------------------------------------------------------

last_pushed : (o : Option ℕ) (xs : List ℕ) (x : ℕ) → last_or o (xs ++ x ∷ []) ≡ Some x
last_pushed o [] x = refl
last_pushed o (y ∷ ys) x = last_pushed (Some y) ys x

module _ (text : List ℕ) (at : ℕ) (less : at < length text) where
  abbrev is_text : ℕ → Bool
  is_text byte = not (is_space byte)

  one_more : (b : Bool) → is_space (get_or text at 0) ≡ b
      → last_byte (take (at + 1) text) ≡ last_or None (filter is_text (take at text) ++ cond (not b) (get_or text at 0 ∷ []) [])
  one_more b is =
      ap (last_or None) (filter_more is_text text at 0 less
      ∙ ap (λ t. filter is_text (take at text) ++ cond (not t) (get_or text at 0 ∷ []) []) is)

  pub is_last : is_space (get_or text at 0) ≡ false → last_byte (take (at + 1) text) ≡ Some (get_or text at 0)
  is_last e = one_more false e ∙ last_pushed None (filter is_text (take at text)) (get_or text at 0)

  pub is_passed : is_space (get_or text at 0) ≡ true → last_byte (take (at + 1) text) ≡ last_byte (take at text)
  is_passed e = one_more true e ∙ ap (last_or None) (append-nil (filter is_text (take at text)))
