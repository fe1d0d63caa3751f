-- A text in double quotes, byte by byte.
use Rattle.std.proofs.Common.{◌≡◌, ◌∙◌, ℕ, suc, ◌+◌, ◌<◌, ◌≤◌, List, [], ◌∷◌, length, length-drop, drop, get_or, take, ◌-◌, Some, refl, ap, add-one, arith}
use Rattle.std.proofs.Math.Seq.{drop-cons}
use Rattle.std.proofs.lemmas.List.{take_all}
use Rattle.clr_hints.specs.declared.quoted_texts.QuotedFault.TheVariants as fault
use Rattle.clr_hints.specs.declared.quoted_texts.QuotedStep.{QuotedStep}
use Rattle.clr_hints.specs.QuotedTexts.{by_step, quoted_fault_from, quoted_step}

module _ (text : List ℕ) (at : ℕ) (less : at < length text) where
  -- a byte of an escape
  pub passed : (skipped : ℕ) → quoted_fault_from at (suc skipped) (drop at text) ≡ quoted_fault_from (at + 1) skipped (drop (at + 1) text)
  unfolding quoted_fault_from
  passed skipped = rw (add-one, drop-cons text at 0) refl

  -- a byte of no escape before it
  pub stepped : quoted_fault_from at 0 (drop at text)
      ≡ by_step at (quoted_step (get_or text at 0) (drop (at + 1) text)) (λ count. quoted_fault_from (at + 1) count (drop (at + 1) text))
  unfolding quoted_fault_from
  stepped = rw (add-one, drop-cons text at 0) refl

-- a slice from a place up to the end
pub whole_rest : (text : List ℕ) (at : ℕ) → take (length text - at) (drop at text) ≡ drop at text
whole_rest text at = take_all (length text - at) (drop at text) (omega (arith, length-drop at text))

-- what is found from a byte of no escape on, by what it is
pub found : (text : List ℕ) (at skipped : ℕ) (step : QuotedStep) → at < length text → skipped ≤ 0
    → step ≡ quoted_step (get_or text at 0) (drop (at + 1) text)
    → quoted_fault_from at skipped (drop at text) ≡ by_step at step (λ count. quoted_fault_from (at + 1) count (drop (at + 1) text))
found text at skipped step less none is =
    let zeroed : skipped ≡ 0 = omega arith in
    rw (zeroed, is) (stepped text at less)

nothing_left : (rest : List ℕ) (at skipped : ℕ) → length rest ≡ 0 → quoted_fault_from at skipped rest ≡ Some (at, fault.NoEnd)
unfolding quoted_fault_from
nothing_left [] at skipped none = refl
nothing_left (x ∷ xs) at skipped none = absurd (omega arith)

-- nothing is left
pub ended : (text : List ℕ) (at skipped : ℕ) → length text ≤ at → at ≤ length text → quoted_fault_from at skipped (drop at text) ≡ Some (length text, fault.NoEnd)
ended text at skipped most least =
    let same : at ≡ length text = omega arith in
    nothing_left (drop at text) at skipped (omega (arith, length-drop at text)) ∙ ap (λ n. Some (n, fault.NoEnd)) same
