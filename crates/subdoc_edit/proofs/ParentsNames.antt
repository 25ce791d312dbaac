-- The text of new members under names.
use Rattle.std.proofs.Common.{◌≡◌, ℕ, zero, suc, ◌+◌, ◌-◌, ◌<◌, ◌≤◌, List, [], ◌∷◌, ◌++◌, length, get_or, take, drop, Option, Some, None, refl, sym, ap, ◌∙◌, arith, append_assoc, append-nil}
use Rattle.std.specs.Prelude.{option_map}
use Rattle.std.proofs.lemmas.List.{take_all, take_more}
use Rattle.std.proofs.Math.ListN.{replicate}
use Rattle.json_model.specs.declared.asked.Part.{Part}
use Rattle.json_model.specs.declared.asked.Part.TheVariants.{Member, At, Last}
use Rattle.json_model.specs.Spelled.{Tree, text, parts_text, depth}
use Rattle.json_model.specs.Edit.{key_text, member, nested, names_of}
use Rattle.subdoc_edit.specs.Parents.{openers, closers}

-- ---- names

-- a name before these, where all are names
abbrev with_name : List ℕ → Option (List (List ℕ)) → Option (List (List ℕ))
with_name name o = option_map (λ names. name ∷ names) o

-- a name behind these, where all are names
abbrev name_behind : List ℕ → Option (List (List ℕ)) → Option (List (List ℕ))
name_behind name o = option_map (λ names. names ++ name ∷ []) o

behind_before : (first name : List ℕ) (o : Option (List (List ℕ))) → with_name first (name_behind name o) ≡ name_behind name (with_name first o)
behind_before first name None = refl
behind_before first name (Some names) = refl

names_behind : (ps : List Part) (name : List ℕ) → names_of (ps ++ Member name ∷ []) ≡ name_behind name (names_of ps)
names_behind [] name = refl
names_behind (Member first ∷ ps) name = ap (with_name first) (names_behind ps name) ∙ behind_before first name (names_of ps)
names_behind (At n ∷ ps) name = refl
names_behind (Last ∷ ps) name = refl

names_push : (ps : List Part) (names : List (List ℕ)) (name : List ℕ) → names_of ps ≡ Some names → names_of (ps ++ Member name ∷ []) ≡ Some (names ++ name ∷ [])
names_push ps names name e = names_behind ps name ∙ ap (name_behind name) e

openers_push : (names : List (List ℕ)) (name : List ℕ) → openers (names ++ name ∷ []) ≡ openers names ++ (0x7b ∷ (key_text name ++ 0x3a ∷ []))
openers_push [] name = refl
openers_push (first ∷ names) name = ap (λ (l : List ℕ). 0x7b ∷ (key_text first ++ 0x3a ∷ l)) (openers_push names name) ∙ ap (λ (l : List ℕ). 0x7b ∷ l) (sym (append_assoc (key_text first) (0x3a ∷ openers names) (0x7b ∷ (key_text name ++ 0x3a ∷ []))))

-- the names of the parts that were gone through
pub record Named (parts : List Part) (old now : List ℕ) : Type 0 where
  pub names : List (List ℕ)
  pub are : names_of parts ≡ Some names
  pub put : now ≡ old ++ openers names

pub named_more : (ps : List Part) (i : ℕ) (p : Part) (name old now key : List ℕ) → i < length ps → p ≡ get_or ps i p → p ≡ Member name → Named (take i ps) old now → key ≡ key_text name → Named (take (i + 1) ps) old (((now ++ 0x7b ∷ []) ++ key) ++ 0x3a ∷ [])
named_more ps i p name old now key less is e n k =
    let at : get_or ps i p ≡ Member name = sym is ∙ e in
    record {
      names = n.names ++ name ∷ [];
      are = ap names_of (take_more ps i p less ∙ ap (λ (q : Part). take i ps ++ q ∷ []) at) ∙ names_push (take i ps) n.names name n.are;
      put = ap (λ (l : List ℕ). ((l ++ 0x7b ∷ []) ++ key) ++ 0x3a ∷ []) n.put ∙ ap (λ (l : List ℕ). (((old ++ openers n.names) ++ 0x7b ∷ []) ++ l) ++ 0x3a ∷ []) k
          ∙ regroup old (openers n.names) (key_text name) ∙ ap (λ (l : List ℕ). old ++ l) (sym (openers_push n.names name));
    }
  where
    regroup : (a b k : List ℕ) → (((a ++ b) ++ 0x7b ∷ []) ++ k) ++ 0x3a ∷ [] ≡ a ++ (b ++ (0x7b ∷ (k ++ 0x3a ∷ [])))
    regroup a b k = simp append_assoc

pub no_names : (ps : List Part) (i : ℕ) (p : Part) → i < length ps → p ≡ get_or ps i p → names_of (p ∷ []) ≡ None → names_of ps ≡ None
no_names [] i p less is e = absurd (omega arith)
no_names (Member name ∷ ps) zero p less is e = let x : names_of (Member name ∷ []) ≡ None = ap (λ (q : Part). names_of (q ∷ [])) (sym is) ∙ e in cc
no_names (Member name ∷ ps) (suc i) p less is e = ap (with_name name) (no_names ps i p (omega arith) is e)
no_names (At n ∷ ps) i p less is e = refl
no_names (Last ∷ ps) i p less is e = refl

-- ---- what stands round a value

member_text : (name : List ℕ) (t : Tree) → parts_text (member name t) ≡ key_text name ++ 0x3a ∷ text t
member_text name t = append_assoc (key_text name) (0x3a ∷ []) (text t ++ []) ∙ ap (λ (l : List ℕ). key_text name ++ 0x3a ∷ l) (append-nil (text t))

text_nested : (names : List (List ℕ)) (t : Tree) → text (nested names t) ≡ openers names ++ (text t ++ closers names)
text_nested [] t = sym (append-nil (text t))
text_nested (name ∷ names) t =
    ap (λ (l : List ℕ). 0x7b ∷ (l ++ 0x7d ∷ [])) (member_text name (nested names t) ∙ ap (λ (l : List ℕ). key_text name ++ 0x3a ∷ l) (text_nested names t))
    ∙ ap (λ (l : List ℕ). 0x7b ∷ l) (regroup (key_text name) (openers names) (text t) (closers names))
    ∙ ap (λ (l : List ℕ). 0x7b ∷ ((key_text name ++ 0x3a ∷ openers names) ++ (text t ++ l))) (closers_push names)
  where
    regroup : (k a l b : List ℕ) → (k ++ 0x3a ∷ (a ++ (l ++ b))) ++ 0x7d ∷ [] ≡ (k ++ 0x3a ∷ a) ++ (l ++ (b ++ 0x7d ∷ []))
    regroup k a l b = simp append_assoc

    closers_push : (names : List (List ℕ)) → closers names ++ 0x7d ∷ [] ≡ 0x7d ∷ closers names
    closers_push [] = refl
    closers_push (name ∷ names) = ap (λ (l : List ℕ). 0x7d ∷ l) (closers_push names)

closers_are : (names : List (List ℕ)) → closers names ≡ replicate (length names) 0x7d
closers_are [] = refl
closers_are (name ∷ names) = ap (λ (l : List ℕ). 0x7d ∷ l) (closers_are names)

names_count : (ps : List Part) (names : List (List ℕ)) → names_of ps ≡ Some names → length names ≡ length ps
names_count [] names e = let n : [] ≡ names = cc in ap (λ (l : List (List ℕ)). length l) (sym n)
names_count (Member name ∷ ps) names e = counted name ps names (names_of ps) e (names_count ps)
  where
    counted : (name : List ℕ) (ps : List Part) (names : List (List ℕ)) (o : Option (List (List ℕ))) → with_name name o ≡ Some names → ((l : List (List ℕ)) → o ≡ Some l → length l ≡ length ps) → length names ≡ suc (length ps)
    counted name ps names None e more = cc
    counted name ps names (Some l) e more = let n : name ∷ l ≡ names = cc in ap (λ (m : List (List ℕ)). length m) (sym n) ∙ ap suc (more l refl)
names_count (At n ∷ ps) names e = cc
names_count (Last ∷ ps) names e = cc

-- the bytes round the value of a new member
pub round_value : (name : List ℕ) (further : List Part) (names : List (List ℕ)) (before behind : List ℕ) → names_of further ≡ Some names → before ≡ (key_text name ++ 0x3a ∷ []) ++ openers names → behind ≡ replicate (length further) 0x7d
    → (t : Tree) → parts_text (member name (nested names t)) ≡ before ++ (text t ++ behind)
round_value name further names before behind are b e t =
    member_text name (nested names t) ∙ ap (λ (l : List ℕ). key_text name ++ 0x3a ∷ l) (text_nested names t) ∙ regroup (key_text name) (openers names) (text t) (closers names)
    ∙ ap (λ (l : List ℕ). l ++ (text t ++ closers names)) (sym b) ∙ ap (λ (l : List ℕ). before ++ (text t ++ l)) (closers_are names ∙ ap (λ (n : ℕ). replicate n 0x7d) (names_count further names are) ∙ sym e)
  where
    regroup : (k a l b : List ℕ) → k ++ 0x3a ∷ (a ++ (l ++ b)) ≡ ((k ++ 0x3a ∷ []) ++ a) ++ (l ++ b)
    regroup k a l b = simp append_assoc

pub nested_depth : (names : List (List ℕ)) (t : Tree) → depth (nested names t) ≡ length names + depth t
nested_depth [] t = omega arith
nested_depth (name ∷ names) t = omega (arith, nested_depth names t)

-- a list with a first part, as that part and the rest
pub first_part : (ps : List Part) (p : Part) (name : List ℕ) (names : List (List ℕ)) → 1 ≤ length ps → p ≡ get_or ps 0 p → p ≡ Member name → names_of (take (length ps - 1) (drop 1 ps)) ≡ Some names → names_of ps ≡ Some (name ∷ names)
first_part [] p name names some is e are = absurd (omega arith)
first_part (q ∷ ps) p name names some is e are =
    ap (λ (r : Part). names_of (r ∷ ps)) (sym is ∙ e) ∙ ap (λ (l : List Part). with_name name (names_of l)) (sym (take_all (length (q ∷ ps) - 1) ps (omega arith))) ∙ ap (with_name name) are
