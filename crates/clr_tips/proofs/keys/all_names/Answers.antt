use Rattle.std.proofs.Common.{◌∙◌, ◌<◌, ◌∷◌, [], Bor, ℕ, List, ap, arith, length, map, sym}
use Rattle.std.specs.Option.{option_map}
use Rattle.std.proofs.lemmas.List.{length-map, map-append}
use Rattle.clr_tips.specs.Keys.{all_names}
use Rattle.clr_tips.proofs.KeyLemmas.{name_is, none_left, one_more}
use Rattle.clr_tips.proofs.keys.all_names.Goals as goal
use Rattle.clr_tips.proofs.keys.all_names.Goals.{in-Some+in_ok-push-in-Some, in-None}

pub loop-at-preserved : goal.loop-at-preserved
loop-at-preserved c =
    let o = c.args.office.now in
    let at = c.loop-at.at in
    let read = sym (name_is o at) ∙ sym c.name_at.ensures in
    let less : at < length (all_names o) = omega (arith, length-map o.workspaces (λ w. w.name), c.loop-at-test.true, c.len-at-end.ensures.count) in
    elim c.match-name_at.branch [
      | in-Some+in_ok-push-in-Some w ↦
          let there = read ∙ ap (option_map (λ (name : Bor (List ℕ)). name.now)) w.in-Some.is in
          ap (λ names. map (λ name. name.now) names.items) w.names-is
          ∙ ap (map (λ name. name.now)) w.in_ok-push-in-Some.ensures.items
          ∙ map-append (λ name. name.now) c.loop-at.names.items (w.in-Some.name ∷ [])
          ∙ one_more (all_names o) at w.in-Some.name.now (map (λ name. name.now) c.loop-at.names.items) there c.loop-at.invariant
      | in-None w ↦
          absurd (none_left (all_names o) at less (read ∙ ap (option_map (λ (name : Bor (List ℕ)). name.now)) w.in-None.is))
    ]
