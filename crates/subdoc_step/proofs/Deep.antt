-- A tree that nests too deep is refused by its place, or by the depth of what it would make.
use Rattle.std.proofs.Common.{◌≡◌, ℕ, ◌+◌, ◌<◌, ◌≤◌, List, [], ◌∷◌, length, Bool, true, false, cond, Option, Some, None, Result, Ok, Err, inl, inr, refl, sym, ap, subst, ◌∙◌, arith}
use Rattle.std.specs.Prelude.{nat_le, ◌||◌, ◌==◌}
use Rattle.std.proofs.lemmas.Bool.Decides.{nat_tests}
use Rattle.doc_model.specs.declared.status.Status.{Status}
use Rattle.doc_model.specs.declared.status.TheConstants.Status as status
use Rattle.json_model.specs.declared.TheConstants.{MOST_DEEP}
use Rattle.json_model.specs.declared.asked.Part.{Part}
use Rattle.json_model.specs.Spelled.{Tree, leaf, empty, group, depth}
use Rattle.json_model.specs.Follow.{Outcome, reached, missing, mismatch, over, Follows}
use Rattle.json_model.specs.Moves.{Change, put, push, changed}
use Rattle.json_model.specs.Splices.{Reaches}
use Rattle.json_model.specs.Edit.{Asked, Act, act_at, is_leaf, member, nested, names_of, made, make}
use Rattle.json_model.specs.Order.{Edited, done_to, shallow}
use Rattle.json_model.proofs.Depths.{ended_depth, pushed_depth, trail_depth}
use Rattle.json_model.proofs.Following.{reached_trail, missing_trail}
use Rattle.subdoc_step.specs.Answers.{◌>>=◌}
use Rattle.subdoc_step.proofs.Given.{BothDeep, add, upsert, put_there}

-- ---- a value in which parts name nothing holds others

holds_here : (t u : Tree) (trail : List ℕ) (absent rest : List Part) → missing trail u absent ≡ missing [] t rest → is_leaf t ≡ false → is_leaf u ≡ false
holds_here t u trail absent rest e h = let same : u ≡ t = cc in ap is_leaf same ∙ h

holds_over : (k : ℕ) (u : Tree) (trail : List ℕ) (absent : List Part) (next : Outcome) → ((ks : List ℕ) (v : Tree) (rest : List Part) → next ≡ missing ks v rest → is_leaf v ≡ false)
    → missing trail u absent ≡ over k next → is_leaf u ≡ false
holds_over k u trail absent (missing ks v rest) law e = let same : u ≡ v = cc in ap is_leaf same ∙ law ks v rest refl
holds_over k u trail absent (reached ks v) law e = cc
holds_over k u trail absent (mismatch d) law e = cc

pub missing_holds : (ps : List Part) (t : Tree) (trail : List ℕ) (u : Tree) (absent : List Part) → Follows ps t (missing trail u absent) → is_leaf u ≡ false
missing_holds [] t trail u absent e = cc
missing_holds (p ∷ ps) (leaf kind s) trail u absent e = cc
missing_holds (p ∷ ps) (empty shape gap) trail u absent (inl a) = let e : missing trail u absent ≡ mismatch 0 = a.1 in cc
missing_holds (p ∷ ps) (empty shape gap) trail u absent (inr a) = holds_here (empty shape gap) u trail absent (p ∷ ps) a.1 refl
missing_holds (p ∷ ps) (group shape parts) trail u absent (inl a) = let e : missing trail u absent ≡ mismatch 0 = a.1 in cc
missing_holds (p ∷ ps) (group shape parts) trail u absent (inr (inl a)) = holds_here (group shape parts) u trail absent (p ∷ ps) a.2 refl
missing_holds (p ∷ ps) (group shape parts) trail u absent (inr (inr (s, k, t, next, named, c, f, e))) =
    holds_over k u trail absent next (λ ks v rest same. missing_holds ps t ks v rest (subst (Follows ps t) same f)) e

-- ---- what nests too deep

abbrev pub refused : Status → Result Edited Status
refused s = Err s

-- the rest of an edit: what is done, and the depth of what it leaves
abbrev pub finish : Tree → Result Act Status → Result Edited Status
finish tree r = r >>= λ a. shallow (done_to tree a)

-- a change at the end of a trail
abbrev an_act : List ℕ → Change → Act
an_act trail change = record { trail = trail; change = change; number = None }

refused_by : (e : Edited) (b : Bool) → nat_le (depth e.tree) MOST_DEEP ≡ b → (depth e.tree ≤ MOST_DEEP → ⊥) → cond b (Ok e) (refused status.VALUE_ETOODEEP) ≡ refused status.VALUE_ETOODEEP
refused_by e true is far = absurd (far (within (depth e.tree) MOST_DEEP is))
  where
    within : (a b : ℕ) → nat_le a b ≡ true → a ≤ b
    within a b h = grind (arith, nat_tests)
refused_by e false is far = refl

-- a change that leaves too deep a value is refused
deep_refused : (trail : List ℕ) (tree t : Tree) (change : Change) → Reaches trail tree t → depth tree ≤ MOST_DEEP → MOST_DEEP < depth (changed change t)
    → shallow (done_to tree (an_act trail change)) ≡ refused status.VALUE_ETOODEEP
deep_refused trail tree t change r room far =
    let e : Edited = done_to tree (an_act trail change) in
    refused_by e (nat_le (depth e.tree) MOST_DEEP) refl (λ h. beyond ((trail_depth trail tree t (changed change) MOST_DEEP r room).forth h))
  where
    beyond : length trail + depth (changed change t) ≤ MOST_DEEP → ⊥
    beyond h = omega (arith, h, far)

nested_depth : (names : List (List ℕ)) (v : Tree) → depth v ≤ depth (nested names v)
nested_depth [] v = omega arith
nested_depth (name ∷ names) v = omega (arith, nested_depth names v)

pub push_depth : (t v : Tree) (name : List ℕ) (names : List (List ℕ)) → is_leaf t ≡ false → depth v ≤ depth (changed (push (member name (nested names v))) t)
push_depth (leaf kind s) v name names h = cc
push_depth (empty shape gap) v name names h = omega (arith, ended_depth gap (member name (nested names v)), nested_depth names v)
push_depth (group shape ps) v name names h = omega (arith, pushed_depth (member name (nested names v)) ps, nested_depth names v)

-- the place of a value, in a tree that isn't too deep
pub record Led (path : List Part) (tree : Tree) (o : Outcome) : Type 0 where
  pub follows : Follows path tree o
  pub room : depth tree ≤ MOST_DEEP

put_deep : (path : List Part) (tree : Tree) (trail : List ℕ) (t u v : Tree) → Led path tree (reached trail t) → MOST_DEEP < depth u → MOST_DEEP < depth v
    → shallow (done_to tree (an_act trail (put u))) ≡ shallow (done_to tree (an_act trail (put v)))
put_deep path tree trail t u v l a b =
    let r = reached_trail path tree trail t l.follows in
    deep_refused trail tree t (put u) r l.room a ∙ sym (deep_refused trail tree t (put v) r l.room b)

made_deep : (path : List Part) (tree : Tree) (trail : List ℕ) (t u v : Tree) (absent : List Part) (names : Option (List (List ℕ))) → Led path tree (missing trail t absent) → MOST_DEEP < depth u → MOST_DEEP < depth v
    → finish tree (made trail u names) ≡ finish tree (made trail v names)
made_deep path tree trail t u v absent None l a b = refl
made_deep path tree trail t u v absent (Some []) l a b = refl
made_deep path tree trail t u v absent (Some (name ∷ names)) l a b =
    let r = missing_trail path tree trail t absent l.follows in
    let holds = missing_holds path tree trail t absent l.follows in
    deep_refused trail tree t (push (member name (nested names u))) r l.room (omega (arith, a, push_depth t u name names holds))
    ∙ sym (deep_refused trail tree t (push (member name (nested names v))) r l.room (omega (arith, b, push_depth t v name names holds)))

make_deep : (path : List Part) (tree : Tree) (trail : List ℕ) (t u v : Tree) (absent : List Part) (may : Bool) → Led path tree (missing trail t absent) → MOST_DEEP < depth u → MOST_DEEP < depth v
    → finish tree (make may trail absent u) ≡ finish tree (make may trail absent v)
make_deep path tree trail t u v absent true l a b = made_deep path tree trail t u v absent (names_of absent) l a b
make_deep path tree trail t u v absent false l a b = refl

-- whichever tree nests too deep, the answer is the same
pub deep_same : (x y : Asked) (several : Bool) (path : List Part) (tree : Tree) (o : Outcome) → BothDeep x y → Led path tree o → finish tree (act_at x several o) ≡ finish tree (act_at y several o)
deep_same x y several path tree (reached trail t) (add u v a b) l = refl
deep_same x y several path tree (missing trail t absent) (add u v a b) l = make_deep path tree trail t u v absent (several || length absent == 1) l a b
deep_same x y several path tree (mismatch d) (add u v a b) l = refl
deep_same x y several path tree (reached trail t) (upsert u v a b) l = put_deep path tree trail t u v l a b
deep_same x y several path tree (missing trail t absent) (upsert u v a b) l = make_deep path tree trail t u v absent (several || length absent == 1) l a b
deep_same x y several path tree (mismatch d) (upsert u v a b) l = refl
deep_same x y several path tree (reached trail t) (put_there u v a b) l = put_deep path tree trail t u v l a b
deep_same x y several path tree (missing trail t absent) (put_there u v a b) l = refl
deep_same x y several path tree (mismatch d) (put_there u v a b) l = refl
