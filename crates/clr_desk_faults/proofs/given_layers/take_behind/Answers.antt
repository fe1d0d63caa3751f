use Rattle.std.proofs.Common.{◌≡◌, ◌∙◌, ◌<◌, [], ◌∷◌, List, ℕ, zero, suc, Vec, Global, ap, arith, drop, length, map, refl, sym}
use Rattle.std.specs.List.{zip}
use Rattle.std.proofs.lemmas.List.{drop-map}
use Rattle.std.proofs.lemmas.Result.{IfOk-weaker}
use Rattle.clr_desk_faults.specs.GivenLayers.{pair_of}
use Rattle.clr_desk_faults.proofs.given_layers.take_behind.Goals as goal

zip_of_none : {A B : Type 0} (xs : List A) (ys : List B) → ys ≡ [] → zip xs ys ≡ []
zip_of_none [] ys e = refl
zip_of_none (x ∷ xs) ys e = ap (zip (x ∷ xs)) e

-- fewer texts than are passed over
none_left : {C B : Type 0} (f : C → B) (n : ℕ) (ys : List C) → length ys < n → drop n (map f ys) ≡ []
none_left f zero ys lt = absurd (omega (arith, lt))
none_left f (suc n) [] lt = refl
none_left f (suc n) (y ∷ ys) lt = none_left f n ys (omega (arith, lt))

pub returns-then-len-count-clause-layers : goal.returns-then-len-count-clause-layers
returns-then-len-count-clause-layers c =
    let none = none_left (λ (text : Vec ℕ Global). text.items) c.args.count c.args.texts.now.items (omega arith) in
    ap (map pair_of) c.new-then-len-count.ensures.items ∙ sym (zip_of_none c.args.tables.now (drop c.args.count (map (λ (text : Vec ℕ Global). text.items) c.args.texts.now.items)) none)

pub returns-clause-layers : goal.returns-clause-layers
returns-clause-layers c =
    let texts = c.args.texts.now.items in
    let behind = ap (map (λ (text : Vec ℕ Global). text.items)) c.in_ok-behind.ensures.tail
    ∙ sym (drop-map (λ (text : Vec ℕ Global). text.items) c.args.count texts) in
    IfOk-weaker c.with_texts.result _ _ (λ layers is. is ∙ ap (zip c.args.tables.now) behind) c.with_texts.ensures
