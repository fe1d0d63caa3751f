-- A tree built of deltas, one after another.
use Rattle.std.proofs.Common.{◌≡◌, ℕ, suc, ◌+◌, ◌-◌, ◌<◌, List, [], ◌∷◌, ◌++◌, length, take, None, refl, ap, sym, ◌∙◌, subst, append_assoc, arith}
use Rattle.std.specs.declared.option.Option.{Option}
use Rattle.std.proofs.lemmas.List.{append-nil, length-append}
use Rattle.clr_rows.specs.Contents.{Content}
use Rattle.clr_rows.specs.Names.{live_name}
use Rattle.clr_deltas.specs.Deltas.{Delta, above_in, grow, leaf, whole_of, wholes, workspaces_over}
use Rattle.clr_workspaces.specs.Workspaces.{Workspace, live_workspace, workspace_at}
use Rattle.clr_deltas.proofs.Meaning.{length-wholes, name-whole, parent-whole}
use Rattle.clr_workspaces.specs.Roots.{IsRooted}
use Rattle.clr_workspace_parts.specs.Parts.{place_fault, part_name_fault_at, first_below, first_part_name_fault, fault_number, IsPartFault, IsFirstPartFault}
use Rattle.clr_workspace_parts.specs.declared.parts.PartFault.{PartFault}
use Rattle.clr_deltas.proofs.Meaning.{root_made}
use Rattle.clr_workspace_parts.proofs.FaultLemmas.{below_none, below_next, below_all, shaped_take}
use Rattle.clr_workspace_parts.proofs.BuildLemmas.{refused_at}

take_front : {A : Type 0} (xs ys : List A) → take (length xs) (xs ++ ys) ≡ xs
take_front [] ys = refl
take_front (x ∷ xs) ys = ap (λ zs. x ∷ zs) (take_front xs ys)

at_front : (ws : List Workspace) (w : Workspace) (others : List Workspace) → workspace_at (ws ++ w ∷ others) (length ws) ≡ w
at_front [] w others = refl
at_front (v ∷ ws) w others = at_front ws w others

-- the next workspace
abbrev pub next_whole : List Workspace → Delta → Workspace
next_whole ws l = whole_of (above_in ws l) l

grow-next : (ws : List Workspace) (l : Delta) (ls : List Delta) → grow ws (l ∷ ls) ≡ next_whole ws l ∷ grow (ws ++ next_whole ws l ∷ []) ls
unfolding grow
grow-next ws l ls = refl

grow-none : (ws : List Workspace) → grow ws [] ≡ []
unfolding grow
grow-none ws = refl

-- some deltas stand, none of them has a fault of its name or place, and with the others after them they mean all workspaces
pub record ArePushed (live : Content) (rest : List Workspace) (ls others : List Delta) : Type 0 where
  pub made : wholes live ls ++ grow (wholes live ls) others ≡ live_workspace live ∷ rest
  pub filled : 0 < length ls
  pub clear : first_below (part_name_fault_at (live_workspace live ∷ rest)) (length ls - 1) ≡ None

pub pushed_first : (live : Content) (ls others : List Delta) → ls ≡ leaf live_name [] ∷ [] → ArePushed live (workspaces_over live others) ls others
pushed_first live ls others is =
    let wrong = part_name_fault_at (live_workspace live ∷ workspaces_over live others) in
    record {
      made = ap (λ (ks : List Delta). wholes live ks ++ grow (wholes live ks) others) is ∙ ap (λ (vs : List Workspace). vs ++ grow vs others) (root_made live);
      filled = subst (λ (ks : List Delta). 0 < length ks) (sym is) (omega arith);
      clear = ap (λ (ks : List Delta). first_below wrong (length ks - 1)) is ∙ below_none wrong;
    }

module _ (live : Content) (rest : List Workspace) (ls : List Delta) where
  abbrev ws : List Workspace
  ws = wholes live ls

  abbrev wrong : ℕ → Option PartFault
  wrong = part_name_fault_at (live_workspace live ∷ rest)

  module _ (others : List Delta) (p : ArePushed live rest ls others) where
    position : suc (length ls - 1) ≡ length ws
    position = let same = length-wholes live ls in let some = p.filled in omega (arith, same, some)

    room : length ws + length (grow ws others) ≡ suc (length rest)
    room = sym (length-append ws (grow ws others)) ∙ ap length p.made

    so_far : take (suc (length ls - 1)) (live_workspace live ∷ rest) ≡ ws
    so_far = (λ i. take (position i) (sym p.made i)) ∙ take_front ws (grow ws others)

    pub pushed_rooted : IsRooted (wholes live ls)
    pushed_rooted = let all = room in let here = position in subst IsRooted so_far (shaped_take live rest (length ls - 1) (omega (arith, all, here))
        p.clear).rooted

  -- all of them stand
  pub pushed_all : ArePushed live rest ls [] → (wholes live ls ≡ live_workspace live ∷ rest) × (first_part_name_fault live rest ≡ None)
  pushed_all p =
      let made : ws ≡ live_workspace live ∷ rest = sym (append-nil ws) ∙ ap (λ (vs : List Workspace). ws ++ vs) (sym (grow-none ws)) ∙ p.made in
      let here = position [] p in
      let count : length ws ≡ suc (length rest) = ap length made in
      (made, below_all wrong (length ls - 1) (length rest) (omega (arith, here, count)) p.clear)

  module _ (l : Delta) (others : List Delta) (p : ArePushed live rest ls (l ∷ others)) where
    next_made : ws ++ next_whole ws l ∷ grow (ws ++ next_whole ws l ∷ []) others ≡ live_workspace live ∷ rest
    next_made = ap (λ (vs : List Workspace). ws ++ vs) (sym (grow-next ws l others)) ∙ p.made

    next_is : workspace_at (live_workspace live ∷ rest) (suc (length ls - 1)) ≡ next_whole ws l
    next_is = (λ i. workspace_at (sym next_made i) (position (l ∷ others) p i)) ∙ at_front ws (next_whole ws l) (grow (ws ++ next_whole ws l ∷ []) others)

    next_wrong : wrong (length ls - 1) ≡ place_fault ws l.name l.parent
    next_wrong =
        (λ i. place_fault (so_far (l ∷ others) p i) (next_is i).name (next_is i).parent)
        ∙ (λ i. place_fault ws (name-whole (above_in ws l) l i) (parent-whole (above_in ws l) l i))

    pub pushed_next : (ms : List Delta) → wholes live ms ≡ ws ++ next_whole ws l ∷ [] → place_fault ws l.name l.parent ≡ None → ArePushed live rest ms others
    pushed_next ms is none =
        let w = next_whole ws l in
        let more : length (wholes live ms) ≡ length ws + 1 = ap length is ∙ length-append ws (w ∷ []) in
        let long = length-wholes live ms in
        let here = position (l ∷ others) p in
        record {
          made = ap (λ (vs : List Workspace). vs ++ grow vs others) is ∙ append_assoc ws (w ∷ []) (grow (ws ++ w ∷ []) others) ∙ next_made;
          filled = omega (arith, more, long);
          clear = below_all wrong ((length ls - 1) + 1) (length ms - 1) (omega (arith, more, long, here)) (below_next wrong (length ls - 1) p.clear (next_wrong
              ∙ none));
        }

    pub pushed_not : (why : PartFault) → IsPartFault (place_fault ws l.name l.parent) why
        → IsFirstPartFault (first_part_name_fault live rest) (fault_number (length ls - 1) why, why)
    pushed_not why e =
        let all = room (l ∷ others) p in
        let here = position (l ∷ others) p in
        let one : length (grow ws (l ∷ others)) ≡ suc (length (grow (ws ++ next_whole ws l ∷ []) others)) = ap length (grow-next ws l others) in
        refused_at wrong (length ls - 1) (length rest) why (omega (arith, all, here, one)) p.clear (subst (λ f. IsPartFault f why) (sym next_wrong) e)
