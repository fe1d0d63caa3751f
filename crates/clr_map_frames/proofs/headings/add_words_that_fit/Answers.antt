use Rattle.std.proofs.Common.{◌≡◌, ◌∙◌, ◌++◌, ◌∷◌, ℕ, List, Some, ap, append_assoc, arith, codes, rules, string_bytes, sym}
use Rattle.std.proofs.lemmas.Str.Pattern.{split_parts}
use Rattle.clr_map_frames.proofs.headings.add_words_that_fit.Goals as goal

pub loop-word-preserved : goal.loop-word-preserved
loop-word-preserved c =
    let rest = c.loop-word.rest.now in
    let word = c.in-Some.word.now in
    let behind = c.in-Some.behind.now in
    let held = string_bytes c.loop-word.line in
    let parts = split_parts 32 rest (Some (c.in-Some.word, c.in-Some.behind)) c.in-Some.ensures.cases (omega arith) in
    let added = c.in_ok-push_str-2.ensures.bytes ∙ ap (λ (bytes : List ℕ). bytes ++ codes " ") c.in_ok-push_str.ensures.bytes in
    let moved : ((held ++ word) ++ codes " ") ++ behind ≡ held ++ (word ++ 32 ∷ behind) =
    append_assoc (held ++ word) (codes " ") behind ∙ append_assoc held word (codes " " ++ behind) in (
      search rules,
      ap (λ (bytes : List ℕ). bytes ++ behind) added ∙ moved ∙ ap (λ (bytes : List ℕ). held ++ bytes) (sym parts.0) ∙ c.loop-word.invariant.1,
    )
