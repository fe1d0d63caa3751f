-- What is shown of a text is showable, and what is showable is shown as it stands.
use Rattle.std.proofs.Common.{◌≡◌, ℕ, Bool, true, false, List, [], ◌∷◌, refl, ap, cond, arith}
use Rattle.std.proofs.lemmas.Bool.Decides.{nat_tests}
use Rattle.clr_streams.specs.Shown.{IsShowableBehind, ShowableTextsStay, ShownTextsAreShowable, ends_control, ends_isolate, ends_turn, is_control}
use Rattle.clr_streams.specs.Shown.{is_obeyed, shown_behind, shown_byte}

isolate_ends : (k : Bool) (f s b : ℕ) → ends_isolate f s b ≡ true → is_obeyed k f s 159 ≡ false
isolate_ends k f s b is = grind (arith, nat_tests)

turn_ends : (k : Bool) (f s : ℕ) → is_obeyed k f s 175 ≡ false
turn_ends k f s = refl

control_ends : (k : Bool) (f s : ℕ) → is_obeyed k f s 160 ≡ false
control_ends k f s = refl

blank_ends : (k : Bool) (f s : ℕ) → is_obeyed k f s 32 ≡ false
blank_ends k f s = refl

by_isolate : (v k : Bool) (f s b : ℕ) → ends_isolate f s b ≡ v → is_control k b ≡ false → ends_control s b ≡ false → ends_turn f s b ≡ false
    → is_obeyed k f s (cond v 159 b) ≡ false
by_isolate true k f s b is _ _ _ = isolate_ends k f s b is
by_isolate false k f s b is control ends turn = rw (control, ends, turn, is) refl

by_turn : (v k : Bool) (f s b : ℕ) → ends_turn f s b ≡ v → is_control k b ≡ false → ends_control s b ≡ false
    → is_obeyed k f s (cond v 175 (cond (ends_isolate f s b) 159 b)) ≡ false
by_turn true k f s b _ _ _ = turn_ends k f s
by_turn false k f s b turn control ends = by_isolate (ends_isolate f s b) k f s b refl control ends turn

by_control : (v k : Bool) (f s b : ℕ) → ends_control s b ≡ v → is_control k b ≡ false
    → is_obeyed k f s (cond v 160 (cond (ends_turn f s b) 175 (cond (ends_isolate f s b) 159 b))) ≡ false
by_control true k f s b _ _ = control_ends k f s
by_control false k f s b ends control = by_turn (ends_turn f s b) k f s b refl control ends

by_byte : (v k : Bool) (f s b : ℕ) → is_control k b ≡ v
    → is_obeyed k f s (cond v 32 (cond (ends_control s b) 160 (cond (ends_turn f s b) 175 (cond (ends_isolate f s b) 159 b)))) ≡ false
by_byte true k f s b _ = blank_ends k f s
by_byte false k f s b control = by_control (ends_control s b) k f s b refl control

byte_is_showable : (k : Bool) (f s b : ℕ) → is_obeyed k f s (shown_byte k f s b) ≡ false
byte_is_showable k f s b = by_byte (is_control k b) k f s b refl

showable_behind : (k : Bool) (f s : ℕ) (text : List ℕ) → IsShowableBehind k f s (shown_behind k f s text)
unfolding IsShowableBehind shown_behind
showable_behind k f s [] = tt
showable_behind k f s (b ∷ text) = (byte_is_showable k f s b, showable_behind k s (shown_byte k f s b) text)

pub shown_is_showable : ShownTextsAreShowable
shown_is_showable k text = showable_behind k 0 0 text

byte_stays : (k : Bool) (f s b : ℕ) → is_obeyed k f s b ≡ false → shown_byte k f s b ≡ b
byte_stays k f s b is = grind (arith, nat_tests)

stays_behind : (k : Bool) (f s : ℕ) (text : List ℕ) → IsShowableBehind k f s text → shown_behind k f s text ≡ text
unfolding IsShowableBehind shown_behind
stays_behind k f s [] _ = refl
stays_behind k f s (b ∷ text) is = rw (byte_stays k f s b is.0) (ap (λ rest. b ∷ rest) (stays_behind k s b text is.1))

pub showable_stays : ShowableTextsStay
showable_stays k text is = stays_behind k 0 0 text is
