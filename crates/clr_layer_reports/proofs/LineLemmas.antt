-- Lines that grow, and lists that are taken.
use Rattle.std.proofs.Common.{◌≡◌, ◌∙◌, ℕ, ◌+◌, ◌<◌, ◌≤◌, List, [], ◌++◌, Result, Ok, Err, ap, append_assoc, arith, get_or, length, sym, take}
use Rattle.std.proofs.lemmas.List.{length-take-le, take_all}
use Rattle.std.proofs.lemmas.List.Sums.{fold_more}
use Rattle.std.proofs.lemmas.Result.{on_ok_weaker}
use Rattle.std.specs.List.{fold}
use Rattle.std.specs.Prelude.{if◌then◌else◌}
use Rattle.std.specs.Result.{OnOk, is_ok}
use Rattle.clr_layer_faults.specs.declared.found.FoundFault.{FoundFault}
use Rattle.clr_layer_reports.specs.Reports.{with_kind}

-- a text behind another one, both behind a line
pub add_two : {T E : Type 0} (result : Result T E) (line front now one other : List ℕ) → front ≡ line ++ one → OnOk result (now ≡ front ++ other)
    → OnOk result (now ≡ line ++ (one ++ other))
add_two result line front now one other first second =
    on_ok_weaker result (λ e. e ∙ ap (λ text. text ++ other) first ∙ append_assoc line one other) second

-- what a call leaves where it doesn't fail
when_ok : {T E : Type 0} (result : Result T E) (now put left : List ℕ) → now ≡ (if is_ok result then put else left) → OnOk result (now ≡ put)
when_ok (Ok x) now put left e = e
when_ok (Err x) now put left e = tt

-- words, and a text behind them
pub words_and_text : {T E : Type 0} (result : Result T E) (line front now words given text : List ℕ) → front ≡ line ++ words → given ≡ text
    → now ≡ (if is_ok result then front ++ given else front) → OnOk result (now ≡ line ++ (words ++ text))
words_and_text result line front now words given text first same second =
    on_ok_weaker result (λ e. e ∙ (λ i. first i ++ same i) ∙ append_assoc line words text) (when_ok result now (front ++ given) front second)

-- a text between words
pub text_between : {T E : Type 0} (result : Result T E) (line front middle now words given text last : List ℕ) → front ≡ line ++ words
    → middle ≡ front ++ given → given ≡ text → now ≡ (if is_ok result then middle ++ last else middle) → OnOk result (now ≡ line ++ ((words ++ text) ++ last))
text_between result line front middle now words given text last first second same third =
    let begun : middle ≡ line ++ (words ++ text) = second ∙ (λ i. first i ++ same i) ∙ append_assoc line words text in
    add_two result line middle now (words ++ text) last begun (when_ok result now (middle ++ last) middle third)

-- two texts, each behind words
pub two_texts : {T E : Type 0} (result : Result T E) (line front middle behind now words given text others last end : List ℕ) → front ≡ line ++ words
    → middle ≡ front ++ given → given ≡ text → behind ≡ middle ++ others → last ≡ end → now ≡ (if is_ok result then behind ++ last else behind)
    → OnOk result (now ≡ line ++ (((words ++ text) ++ others) ++ end))
two_texts result line front middle behind now words given text others last end first second same third ended fourth =
    let begun : middle ≡ line ++ (words ++ text) = second ∙ (λ i. first i ++ same i) ∙ append_assoc line words text in
    let more : behind ≡ line ++ ((words ++ text) ++ others) = third ∙ ap (λ t. t ++ others) begun ∙ append_assoc line (words ++ text) others in
    words_and_text result line behind now ((words ++ text) ++ others) last end more ended fourth

-- the first kinds among faults so far and one more
pub kinds_more : (faults kinds now : List FoundFault) (i : ℕ) (d : FoundFault) → i < length faults → kinds ≡ fold with_kind [] (take i faults)
    → now ≡ with_kind kinds (get_or faults i d) → now ≡ fold with_kind [] (take (i + 1) faults)
kinds_more faults kinds now i d lt so_far one =
    one ∙ ap (λ ks. with_kind ks (get_or faults i d)) so_far ∙ sym (fold_more with_kind [] faults i d lt)

pub most_taken : {X : Type 0} (n : ℕ) (xs : List X) → n < length xs → n ≡ length (take n xs)
most_taken n xs lt = let le : n ≤ length xs = omega (arith, lt) in sym (length-take-le n xs le)

pub all_taken : {X : Type 0} (n : ℕ) (xs : List X) → length xs ≤ n → xs ≡ take n xs
all_taken n xs le = sym (take_all n xs le)
