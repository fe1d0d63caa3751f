use Rattle.std.proofs.Common.{◌≡◌, ◌-◌, ◌∙◌, true, false, Contains, ap, drop, rules, subst, sym, take}
use Rattle.std.specs.List.Sorted.{IsPartitionPoint}
use Rattle.std.proofs.lemmas.List.Sorted.{IsPartitionPoint-from_clause}
use Rattle.clr_needs.proofs.NeedOrder.{need_exact, need_total}
use Rattle.clr_check.proofs.EntryLemmas.{in_turn, is_before, is_part, is_up_to, part_is, parted_before, parted_up_to}
use Rattle.clr_check.proofs.JudgeLemmas.{no_entry}
use Rattle.clr_check.proofs.entries.entries_of.Goals as goal

pub overflow_sub-to : goal.overflow_sub-to
overflow_sub-to c =
    let entries = c.args.entries.now in
    let n = c.args.need.now in
    let low = c.partition_point-from.result in
    let high = c.partition_point-to.result in
    let before : IsPartitionPoint (λ k. is_before n k ≡ true) (λ k. is_before n k ≡ false) entries low =
    IsPartitionPoint-from_clause (is_before n) entries low c.partition_point-from.ensures.partitioned (parted_before need_total entries c.requires n)
    (λ a r f' k. search rules) in
    let after : IsPartitionPoint (λ k. is_up_to n k ≡ true) (λ k. is_up_to n k ≡ false) entries high =
    IsPartitionPoint-from_clause (is_up_to n) entries high c.partition_point-to.ensures.partitioned (parted_up_to need_total entries c.requires n)
    (λ a r f' k. search rules) in
    in_turn need_total entries c.requires n need_exact low high before after c.partition_point-from.ensures.bound no_entry

pub returns : goal.returns
returns c =
    let entries = c.args.entries.now in
    let n = c.args.need.now in
    let low = c.partition_point-from.result in
    let high = c.partition_point-to.result in
    let before : IsPartitionPoint (λ k. is_before n k ≡ true) (λ k. is_before n k ≡ false) entries low =
    IsPartitionPoint-from_clause (is_before n) entries low c.partition_point-from.ensures.partitioned (parted_before need_total entries c.requires n)
    (λ a r f' k. search rules) in
    let after : IsPartitionPoint (λ k. is_up_to n k ≡ true) (λ k. is_up_to n k ≡ false) entries high =
    IsPartitionPoint-from_clause (is_up_to n) entries high c.partition_point-to.ensures.partitioned (parted_up_to need_total entries c.requires n)
    (λ a r f' k. search rules) in
    let within = c.partition_point-to.ensures.bound in
    let le = in_turn need_total entries c.requires n need_exact low high before after c.partition_point-from.ensures.bound no_entry in
    let whole : c.split_at-2.result.0.now ≡ take (high - low) (drop low entries) = c.split_at-2.ensures.front
    ∙ ap (take (high - low)) c.split_at.ensures.back in
    λ k. (
      λ h. part_is need_total entries c.requires n need_exact low high before after within le k (subst (λ xs. Contains xs k) whole h),
      λ h. subst (λ xs. Contains xs k) (sym whole) (is_part need_total entries c.requires n need_exact low high before after within le k h),
    )
