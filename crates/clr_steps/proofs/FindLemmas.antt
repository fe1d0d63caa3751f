-- What is found under a name, after changes of the list of workspaces.
use Rattle.std.proofs.Common.{◌≡◌, Bool, true, false, not, cond, List, [], ◌∷◌, ◌++◌, refl, sym, ap, ◌∙◌, Option, Some, None, is_some}
use Rattle.std.specs.Option.{option_map}
use Rattle.std.specs.Cmp.Lexicographic.{bytes_decides}
use Rattle.std.proofs.lemmas.Bool.{true≢false}
use Rattle.clr_workspaces.specs.Marks.{Name, Mark}
use Rattle.clr_workspaces.specs.Workspaces.{Workspace}
use Rattle.clr_steps.specs.Names.{same_name, is_live, has}
use Rattle.clr_steps.specs.Offices.{Office, find_name, workspace, modify, modify_marks, without}
use Rattle.clr_steps.proofs.ModifyLemmas.{LeavesName}

pub same_is : (a b : Name) → same_name a b ≡ true → a ≡ b
unfolding same_name
same_is a b e = (bytes_decides a b).0 e

pub same_itself : (a : Name) → same_name a a ≡ true
unfolding same_name
same_itself a = (bytes_decides a a).1 refl

-- names that a third tells apart
pub differ : (a b c : Name) → same_name a b ≡ false → same_name a c ≡ true → same_name b c ≡ true → ⊥
differ a b c apart one two = true≢false (sym (same_itself a) ∙ ap (same_name a) (same_is a c one ∙ sym (same_is b c two)) ∙ apart)

pub other_way : (a b : Name) → same_name a b ≡ false → same_name b a ≡ false
other_way a b h = by (same_name b a) refl
  where
    by : (x : Bool) → same_name b a ≡ x → x ≡ false
    by false e = refl
    by true e = absurd (differ a b a h (same_itself a) e)

-- one name is in a list, and another isn't
pub has_apart : (names : List Name) (n m : Name) → has names n ≡ false → has names m ≡ true → same_name n m ≡ false
has_apart names n m h k = by (same_name n m) refl
  where
    by : (x : Bool) → same_name n m ≡ x → x ≡ false
    by false e = refl
    by true e = absurd (true≢false (sym k ∙ sym (ap (has names) (same_is n m e)) ∙ h))

-- what g sees of the workspace of a name
abbrev pub seen_by : {B : Type 0} → (Workspace → B) → Name → List Workspace → Option B
seen_by g n ws = option_map g (find_name n ws)

module _ {B : Type 0} (g : Workspace → B) (n : Name) where
  -- a modification that g can't see at the name
  pub seen_modify : (m : Name) (f : Workspace → Workspace) → LeavesName f → ((w : Workspace) → same_name m w.name ≡ true → same_name n w.name ≡ true → g (f w)
      ≡ g w) → (ws : List Workspace) → seen_by g n (modify m f ws) ≡ seen_by g n ws
  seen_modify m f leaves blind [] = refl
  seen_modify m f leaves blind (w ∷ ws) = by (same_name m w.name) refl (same_name n w.name) refl (seen_modify m f leaves blind ws)
    where
      by : (b : Bool) → same_name m w.name ≡ b → (d : Bool) → same_name n w.name ≡ d → seen_by g n (modify m f ws) ≡ seen_by g n ws
          → option_map g (cond (same_name n (cond b (f w) w).name) (Some (cond b (f w) w)) (find_name n (modify m f ws)))
          ≡ option_map g (cond d (Some w) (find_name n ws))
      by true p true q rest = let here : same_name n (f w).name ≡ true = ap (same_name n) (leaves w) ∙ q in rw here (ap Some (blind w p q))
      by true p false q rest = let here : same_name n (f w).name ≡ false = ap (same_name n) (leaves w) ∙ q in rw here rest
      by false p true q rest = rw q refl
      by false p false q rest = rw q rest

  pub seen_other : (m : Name) (f : Workspace → Workspace) → LeavesName f → same_name m n ≡ false → (ws : List Workspace) → seen_by g n (modify m f ws)
      ≡ seen_by g n ws
  seen_other m f leaves apart ws = seen_modify m f leaves (λ w p q. absurd (differ m n w.name apart p q)) ws

  pub seen_marks : ((w : Workspace) (marks : List Mark) → g (record w { marks = marks }) ≡ g w) → (m : Name) (f : List Mark → List Mark) (ws : List Workspace)
      → seen_by g n (modify_marks m f ws) ≡ seen_by g n ws
  seen_marks blind m f ws = seen_modify m (λ w. record w { marks = f w.marks }) (λ w. refl) (λ w p q. blind w (f w.marks)) ws

  pub seen_without : (m : Name) → same_name m n ≡ false → (ws : List Workspace) → seen_by g n (without m ws) ≡ seen_by g n ws
  seen_without m apart [] = refl
  seen_without m apart (w ∷ ws) = by (same_name m w.name) refl (same_name n w.name) refl (seen_without m apart ws)
    where
      by : (b : Bool) → same_name m w.name ≡ b → (d : Bool) → same_name n w.name ≡ d → seen_by g n (without m ws) ≡ seen_by g n ws
          → seen_by g n (cond (not b) (w ∷ without m ws) (without m ws)) ≡ option_map g (cond d (Some w) (find_name n ws))
      by true p true q rest = absurd (differ m n w.name apart p q)
      by true p false q rest = rest
      by false p true q rest = rw q refl
      by false p false q rest = rw q rest

  -- one more at the end, of another name, or where the name stands already
  pub seen_append : (w : Workspace) → same_name n w.name ≡ false → (ws : List Workspace) → seen_by g n (ws ++ w ∷ []) ≡ seen_by g n ws
  seen_append w apart [] = rw apart refl
  seen_append w apart (v ∷ ws) = by (same_name n v.name) (seen_append w apart ws)
    where
      by : (b : Bool) → seen_by g n (ws ++ w ∷ []) ≡ seen_by g n ws → option_map g (cond b (Some v) (find_name n (ws ++ w ∷ [])))
          ≡ option_map g (cond b (Some v) (find_name n ws))
      by true rest = refl
      by false rest = rest

  pub seen_behind : (w : Workspace) (ws : List Workspace) → is_some (find_name n ws) ≡ true → seen_by g n (ws ++ w ∷ []) ≡ seen_by g n ws
  seen_behind w [] h = absurd (true≢false (sym h))
  seen_behind w (v ∷ ws) h = by (same_name n v.name) h (seen_behind w ws)
    where
      by : (b : Bool) → is_some (cond b (Some v) (find_name n ws)) ≡ true → (is_some (find_name n ws) ≡ true → seen_by g n (ws ++ w ∷ []) ≡ seen_by g n ws)
          → option_map g (cond b (Some v) (find_name n (ws ++ w ∷ []))) ≡ option_map g (cond b (Some v) (find_name n ws))
      by true h rest = refl
      by false h rest = rest h

-- a modification under the name itself
pub find_modify : (n : Name) (f : Workspace → Workspace) → LeavesName f → (ws : List Workspace) → find_name n (modify n f ws) ≡ option_map f (find_name n ws)
find_modify n f leaves [] = refl
find_modify n f leaves (w ∷ ws) = by (same_name n w.name) refl (find_modify n f leaves ws)
  where
    by : (b : Bool) → same_name n w.name ≡ b → find_name n (modify n f ws) ≡ option_map f (find_name n ws)
        → cond (same_name n (cond b (f w) w).name) (Some (cond b (f w) w)) (find_name n (modify n f ws)) ≡ option_map f (cond b (Some w) (find_name n ws))
    by true e rest = let here : same_name n (f w).name ≡ true = ap (same_name n) (leaves w) ∙ e in rw here refl
    by false e rest = rw e rest

pub find_without : (n : Name) (ws : List Workspace) → find_name n (without n ws) ≡ None
find_without n [] = refl
find_without n (w ∷ ws) = by (same_name n w.name) refl (find_without n ws)
  where
    by : (b : Bool) → same_name n w.name ≡ b → find_name n (without n ws) ≡ None → find_name n (cond (not b) (w ∷ without n ws) (without n ws)) ≡ None
    by true e rest = rest
    by false e rest = rw e rest

-- the workspace that is found has the name
pub found_name : (o : Office) (n : Name) (w : Workspace) → workspace o n ≡ Some w → w.name ≡ n
unfolding workspace
found_name o n w e = sym (same_is n w.name (by_list o.workspaces (beside (is_live n) (find_name n o.workspaces) e)))
  where
    beside : (b : Bool) (r : Option Workspace) → cond b None r ≡ Some w → r ≡ Some w
    beside true r e = absurd (cc)
    beside false r e = e

    by_list : (ws : List Workspace) → find_name n ws ≡ Some w → same_name n w.name ≡ true
    by_list [] e = absurd (cc)
    by_list (v ∷ ws) e = by (same_name n v.name) refl e (by_list ws)
      where
        by : (b : Bool) → same_name n v.name ≡ b → cond b (Some v) (find_name n ws) ≡ Some w → (find_name n ws ≡ Some w → same_name n w.name ≡ true)
            → same_name n w.name ≡ true
        by true p d rest = let one : v ≡ w = cc in ap (λ (x : Workspace). same_name n x.name) (sym one) ∙ p
        by false p d rest = rest d
