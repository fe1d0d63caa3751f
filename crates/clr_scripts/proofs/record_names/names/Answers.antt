use Rattle.std.proofs.Common.{◌≡◌, ℕ, ◌+◌, List, [], ◌∷◌, ◌++◌, drop, Ok, refl, sym, ap, ◌∙◌, append_assoc, arith}
use Rattle.std.proofs.lemmas.List.{append-nil, drop_all}
use Rattle.csv.specs.Records.{fields_of}
use Rattle.clr_records.specs.Records.{field_of}
use Rattle.clr_scripts.proofs.Fields.{begins}
use Rattle.clr_scripts.proofs.record_names.names.Goals as goal

pub loop-at-init : goal.loop-at-init
loop-at-init c = rw c.new-list.ensures.items refl

pub loop-at-preserved : goal.loop-at-preserved
loop-at-preserved c =
    let fields = fields_of c.args.fields.now in
    let at = c.loop-at.at in
    let read : Ok (field_of fields at) ≡ Ok c.in_ok-words.field-0 = c.in_ok-words.ensures in
    let name : field_of fields at ≡ c.in_ok-words.field-0 = cc in
    let next = begins fields at (omega (arith, c.len-at-end.ensures)) in
    rw c.in_ok-push.ensures.items (append_assoc c.loop-at.list.items (c.in_ok-words.field-0 ∷ []) (drop (at + 1) fields)
    ∙ ap (λ (n : List ℕ). c.loop-at.list.items ++ n ∷ drop (at + 1) fields) (sym name) ∙ ap (λ (ns : List (List ℕ)). c.loop-at.list.items ++ ns) (sym next)
    ∙ c.loop-at.invariant)

pub returns : goal.returns
returns c =
    let fields = fields_of c.args.fields.now in
    let whole = ap (λ (ns : List (List ℕ)). c.loop-at.list.items ++ ns) (drop_all c.loop-at.at fields (omega (arith, c.len-at-end.ensures)))
    ∙ append-nil c.loop-at.list.items in
    ap (λ (ns : List (List ℕ)). Ok ns) (sym c.loop-at.invariant ∙ whole ∙ sym c.new.ensures)
