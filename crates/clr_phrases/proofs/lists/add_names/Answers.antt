use Rattle.std.proofs.Common.{◌≡◌, ◌++◌, ap, drop, take, length, string_bytes, take_all, ◌-◌, ◌∙◌}
use Rattle.std.proofs.lemmas.Result.{on_ok_weaker}
use Rattle.std.specs.List.{flat_map}
use Rattle.clr_phrases.proofs.NameLemmas.{added_by_ends, behind_comma, first_on_ok}
use Rattle.clr_phrases.proofs.lists.add_names.Goals as goal

pub returns-in_ok-push_str-in-len2-up-4 : goal.returns-in_ok-push_str-in-len2-up-4
returns-in_ok-push_str-in-len2-up-4 c =
    let names = c.args.names.now in
    let between = take (length names - 1 - 1) (drop 1 names) in
    let all : take c.loop-name.name-index between ≡ between = take_all c.loop-name.name-index between c.loop-name-test.false in
    let added = c.loop-name.invariant ∙ ap (λ some. string_bytes c.push_str-in-len2-up.new.self ++ flat_map behind_comma some) all in
    on_ok_weaker c.push_str-in-len2-up-3.result (λ last. added_by_ends _ _ names _ _ _ _ _ c.in-len2-up.len_at_least
    c.in_ok-push_str-in-len2-up.ensures.bytes added c.in_ok-push_str-in-len2-up-4.ensures.bytes last)
    (first_on_ok c.push_str-in-len2-up-3.result _ _ _ c.push_str-in-len2-up-3.ensures.bytes)
