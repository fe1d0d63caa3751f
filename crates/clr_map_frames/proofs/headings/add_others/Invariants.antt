use Rattle.std.proofs.Common.{◌≡◌, ◌++◌, take, string_bytes}
use Rattle.clr_map_frames.specs.Headings.{behind_commas, design_names}
use Rattle.clr_map_frames.proofs.headings.add_others.Given as goal

-- the names so far are added
abbrev pub invariant-loop-at : goal.invariant-loop-at
invariant-loop-at l = string_bytes l.text ≡ string_bytes l.initial.text ++ behind_commas (design_names l.designs) (take l.at-index l.positions)
