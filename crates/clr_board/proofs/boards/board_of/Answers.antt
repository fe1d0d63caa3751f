use Rattle.std.proofs.Common.{◌≡◌, ◌∙◌, ℕ, List, ap, length, subst, sym}
use Rattle.std.specs.List.{range_with_len}
use Rattle.std.proofs.lemmas.List.{length-map}
use Rattle.clr_merge_sets.specs.MemberChanges.{set_of}
use Rattle.clr_merge_clashes.specs.ClashSets.{positions_of}
use Rattle.clr_merge_clashes.specs.declared.clash_sets.MergeClash.{MergeClash}
use Rattle.clr_clash_helpers.specs.declared.helped.HelpedClash.{HelpedClash}
use Rattle.clr_clash_helpers.specs.Helpers.{AreHelped}
use Rattle.clr_board.specs.Boards.{Settled, states_of, turns_of}
use Rattle.clr_board.specs.Settling.{goers_of}
use Rattle.clr_board.proofs.boards.board_of.Goals as goal

pub returns : goal.returns
returns c =
    let o = c.args.office.now in
    let s = set_of c.args.members.now in
    let found = c.args.found.now in
    let helped = c.in_ok-helped.helped.items in
    let goers = c.in_ok-goers.goers.items in
    let order = c.in_ok-goers.order in
    let numbers : range_with_len 0 (length c.args.members.now.names.now) ≡ positions_of s.members =
    ap (range_with_len 0) (sym (length-map c.args.members.now.names.now (λ name. name.now))) in
    let going : c.in_ok-going.going.items ≡ goers_of helped (positions_of s.members) =
    c.in_ok-going.ensures ∙ (λ i. goers_of (c.as_slice-3.ensures.value i) (numbers i)) in
    record {
      board = record {
        helped = subst (λ (clashes : List MergeClash). AreHelped o s clashes helped) c.as_slice.ensures.value c.in_ok-helped.ensures;
        states = c.in_ok-states.ensures ∙ (λ i. states_of (c.as_slice-2.ensures.value i) (numbers i));
        order = subst (λ (going : List ℕ). Settled o s helped going goers order) going
            (subst (λ (helped : List HelpedClash). Settled o s helped c.in_ok-going.going.items goers order) c.as_slice-4.ensures.value c.in_ok-goers.ensures);
        turns = c.in_ok-turns.ensures ∙ ap (λ (goers : List ℕ). turns_of goers order) c.as_slice-5.ensures.value;
      };
    }
