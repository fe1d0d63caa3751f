use Rattle.std.proofs.Common.{◌≡◌, ◌++◌, ◌∙◌, ℤ, SFits, ap, codes, rules, string_bytes, to_z-of_z, w64}
use Rattle.clr_whereabouts.specs.Words.{rounded_length}
use Rattle.clr_whereabouts.proofs.GapLemmas.{five_pieces}
use Rattle.clr_whereabouts.proofs.words.add_lengths.Goals as goal

pub returns : goal.returns
returns c =
    let gap = c.args.gap in
    let distance : SFits w64 gap.distance = search rules in
    let missing : SFits w64 gap.missing = search rules in
    five_pieces (string_bytes c.args.text.now) (codes "  They are ") (rounded_length gap gap.distance) (codes " m apart, ")
    (rounded_length gap gap.missing) (codes " m too near.\n") _ _ _ _ _ c.in_ok-push_str.ensures.bytes
    (c.in_ok-add_length.ensures ∙ ap (λ (z : ℤ). string_bytes c.push_str.new.self ++ rounded_length gap z) (to_z-of_z distance))
    c.in_ok-push_str-2.ensures.bytes
    (c.in_ok-add_length-2.ensures ∙ ap (λ (z : ℤ). string_bytes c.push_str-2.new.self ++ rounded_length gap z) (to_z-of_z missing))
    c.in_ok-push_str-3.ensures.bytes
