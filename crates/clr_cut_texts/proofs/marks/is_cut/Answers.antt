use Rattle.std.proofs.Common.{◌≡◌, Bool, true, false, List, ℕ, cond, refl, sym, ap, ◌∙◌}
use Rattle.std.specs.Option.{option_map_or}
use Rattle.std.specs.Str.{IsUtf8, is_utf8}
use Rattle.std.proofs.lemmas.Result.{IfOk-weaker}
use Rattle.std.proofs.lemmas.Str.{IsUtf8-from_is_utf8, is_utf8-from_IsUtf8}
use Rattle.serde_json.specs.Read.{read}
use Rattle.clr_cut_texts.specs.Marks.{is_marked}
use Rattle.clr_cut_texts.proofs.marks.is_cut.Goals as goal

not_utf8 : (bytes : List ℕ) → (IsUtf8 bytes → ⊥) → is_utf8 bytes ≡ false
not_utf8 bytes other = by (is_utf8 bytes) refl
  where
    by : (b : Bool) → is_utf8 bytes ≡ b → is_utf8 bytes ≡ false
    by true is = absurd (other (IsUtf8-from_is_utf8 bytes is))
    by false is = is

pub returns-in-Ok : goal.returns-in-Ok
returns-in-Ok c =
    let bytes = c.args.bytes.now in
    let utf8 = is_utf8-from_IsUtf8 bytes c.in-Ok.ensures.cases.1 in
    IfOk-weaker c.is_marked_text.result _ _
    (λ marked is. is ∙ ap (λ text. option_map_or is_marked (read text) false) c.in-Ok.ensures.cases.0
    ∙ ap (λ b. cond b (option_map_or is_marked (read bytes) false) false) (sym utf8)) c.is_marked_text.ensures

pub returns-in-Err : goal.returns-in-Err
returns-in-Err c =
    let bytes = c.args.bytes.now in
    ap (λ b. cond b (option_map_or is_marked (read bytes) false) false) (sym (not_utf8 bytes c.in-Err.ensures.cases.0))
