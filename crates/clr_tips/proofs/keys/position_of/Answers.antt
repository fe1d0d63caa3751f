use Rattle.std.proofs.Common.{◌≡◌, ◌∙◌, ◌<◌, ℕ, List, ap, arith, length, map, sym}
use Rattle.std.specs.Str.{bytes_eq}
use Rattle.std.proofs.lemmas.List.{length-map}
use borrow.Author.Count.{below_more}
use Rattle.clr_tips.proofs.KeyLemmas.{found_at, found_none, named_at}
use Rattle.clr_tips.proofs.keys.position_of.Goals as goal

pub returns-then-eq : goal.returns-then-eq
returns-then-eq c =
    let names = map (λ name. name.now) c.args.names.now in
    let at = c.loop-at.at in
    let less : at < length names = omega (arith, length-map c.args.names.now (λ name. name.now), c.loop-at-test.true) in
    let here = ap (λ (t : List ℕ). bytes_eq t c.args.name.now) (named_at c.args.names.now at _ c.loop-at-test.true) in
    found_at names c.args.name.now at less c.loop-at.invariant (here ∙ sym c.eq.ensures ∙ c.if-eq.true)

pub loop-at-preserved : goal.loop-at-preserved
loop-at-preserved c =
    let names = map (λ name. name.now) c.args.names.now in
    let at = c.loop-at.at in
    let here = ap (λ (t : List ℕ). bytes_eq t c.args.name.now) (named_at c.args.names.now at _ c.loop-at-test.true) in
    below_more _ at c.loop-at.invariant (here ∙ sym c.eq.ensures ∙ c.if-eq.false)

pub returns : goal.returns
returns c =
    let names = map (λ name. name.now) c.args.names.now in
    let all : length names ≡ length c.args.names.now = length-map c.args.names.now (λ name. name.now) in
    found_none names c.args.name.now (λ k less. c.loop-at.invariant k (omega (arith, less, all, c.loop-at-test.false)))
