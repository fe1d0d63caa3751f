use Rattle.std.proofs.Common.{◌≡◌, ◌∙◌, List, ℕ, ◌++◌, None, Some, ap, append_assoc, arith, rules, string_bytes, sym}
use Rattle.std.proofs.lemmas.Str.Pattern.{split_parts}
use Rattle.clr_plan_map.specs.Sentences.{end_before, one_line}
use Rattle.clr_plan_map.proofs.LineEndLemmas.{line_and_rest, line_stays}
use Rattle.clr_plan_map.proofs.sentences.one_line.Goals as goal

pub loop-part-preserved : goal.loop-part-preserved
loop-part-preserved c =
    let rest = c.loop-part.rest.now in
    let part = c.in-Some.part.now in
    let behind = c.in-Some.behind.now in
    let held = string_bytes c.loop-part.line in
    let parts = split_parts 10 rest (Some (c.in-Some.part, c.in-Some.behind)) c.in-Some.ensures.cases (omega arith) in
    let whole : one_line rest ≡ part ++ (end_before behind ++ one_line behind) = ap one_line parts.0 ∙ line_and_rest part behind parts.1 in
    let added : string_bytes c.add_space_before.new.line ≡ (held ++ part) ++ end_before behind =
    c.in_ok-add_space_before.ensures ∙ ap (λ (bytes : List ℕ). bytes ++ end_before behind) c.in_ok-push_str.ensures.bytes in
    let moved : ((held ++ part) ++ end_before behind) ++ one_line behind ≡ held ++ (part ++ (end_before behind ++ one_line behind)) =
    simp append_assoc in (
      search rules,
      ap (λ (bytes : List ℕ). bytes ++ one_line behind) added ∙ moved ∙ ap (λ (bytes : List ℕ). held ++ bytes) (sym whole) ∙ c.loop-part.invariant.1,
    )

pub returns : goal.returns
returns c =
    let rest = c.loop-part.rest.now in
    let held = string_bytes c.loop-part.line in
    let none = split_parts 10 rest None c.in_default.ensures.cases (omega arith) in
    c.in_ok-push_str-2.ensures.bytes ∙ ap (λ (bytes : List ℕ). held ++ bytes) (sym (line_stays rest none)) ∙ c.loop-part.invariant.1
