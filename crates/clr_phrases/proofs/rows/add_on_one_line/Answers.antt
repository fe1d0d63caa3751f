use Rattle.std.proofs.Common.{◌≡◌, ◌∙◌, [], ◌∷◌, ◌++◌, None, Some, ap, append_assoc, arith, map, rules, string_bytes, sym}
use Rattle.std.proofs.lemmas.Str.Pattern.{split_parts}
use Rattle.clr_phrases.specs.Rows.{byte_on_one_line}
use Rattle.clr_phrases.proofs.LineEndLemmas.{line_and_rest, line_stays}
use Rattle.clr_phrases.proofs.rows.add_on_one_line.Goals as goal

pub loop-line-preserved : goal.loop-line-preserved
loop-line-preserved c =
    let rest = c.loop-line.rest.now in
    let line = c.in-Some.line.now in
    let behind = c.in-Some.behind.now in
    let held = string_bytes c.loop-line.text in
    let parts = split_parts 10 rest (Some (c.in-Some.line, c.in-Some.behind)) c.in-Some.ensures.cases (omega arith) in
    let whole : map byte_on_one_line rest ≡ line ++ 32 ∷ map byte_on_one_line behind =
    ap (map byte_on_one_line) parts.0 ∙ line_and_rest line behind parts.1 in
    let blank = c.in_ok-push.ensures.ascii (omega arith) in
    let added : string_bytes c.push.new.self ≡ (held ++ line) ++ 32 ∷ [] =
    c.in_ok-push.ensures.bytes ∙ ap (λ bytes. string_bytes c.push_str.new.self ++ bytes) blank
    ∙ ap (λ bytes. bytes ++ 32 ∷ []) c.in_ok-push_str.ensures.bytes in
    let moved : ((held ++ line) ++ 32 ∷ []) ++ map byte_on_one_line behind ≡ held ++ (line ++ 32 ∷ map byte_on_one_line behind) = simp append_assoc in
    (search rules, ap (λ bytes. bytes ++ map byte_on_one_line behind) added ∙ moved ∙ ap (λ bytes. held ++ bytes) (sym whole) ∙ c.loop-line.invariant.1)

pub returns : goal.returns
returns c =
    let rest = c.loop-line.rest.now in
    let held = string_bytes c.loop-line.text in
    let none = split_parts 10 rest None c.in_default.ensures.cases (omega arith) in
    c.in_ok-push_str-2.ensures.bytes ∙ ap (λ bytes. held ++ bytes) (sym (line_stays rest none)) ∙ c.loop-line.invariant.1
