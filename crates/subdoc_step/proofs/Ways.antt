-- The way of a path into a tree, which a change at its end leaves.
use Rattle.std.proofs.Common.{◌≡◌, ℕ, zero, suc, ◌<◌, List, [], ◌∷◌, Some, inl, inr, refl, sym, ap, subst, ◌∙◌}
use Rattle.json_model.specs.declared.kinds.Shape.{Shape}
use Rattle.json_model.specs.declared.asked.Part.{Part}
use Rattle.json_model.specs.declared.asked.Part.TheVariants.{Member, At, Last}
use Rattle.json_model.specs.Spelled.{Tree, leaf, empty, group, Parts, last, more, count, Fits}
use Rattle.json_model.specs.Follow.{IsFirstCalled, Names, asks, child, Outcome, reached, missing, mismatch, over, Follows}
use Rattle.json_model.specs.Moves.{at_part, at_trail}
use Rattle.subdoc_step.proofs.Followed.{child_fits}
use Rattle.subdoc_step.proofs.Names.{NamesUtf8}
use Rattle.subdoc_step.proofs.Trails.{over_reached, over_missing, names_behind}

-- The first parts of a path lead from a tree by a trail to this value, and these parts are left.
pub data Way : List Part → Tree → List ℕ → Tree → List Part → Type 0 where
  at_end : (rest : List Part) (t : Tree) → Way rest t [] t rest
  down : (p : Part) (ps : List Part) (shape : Shape) (parts : Parts) (k : ℕ) (inner : Tree) (ks : List ℕ) (t : Tree) (rest : List Part)
      → asks p ≡ shape → Names p parts k → child parts k ≡ Some inner → Way ps inner ks t rest → Way (p ∷ ps) (group shape parts) (k ∷ ks) t rest

-- ---- a path's way

way_here : (rest : List Part) (root t : Tree) (trail : List ℕ) → reached trail t ≡ reached [] root → Way rest root trail t rest
way_here rest root t trail e =
    let a : [] ≡ trail = cc in
    let b : root ≡ t = cc in
    subst (λ (ks : List ℕ). Way rest root ks t rest) a (subst (λ (v : Tree). Way rest root [] v rest) b (at_end rest root))

-- the way to a value that is reached
pub reached_way : (path : List Part) (tree : Tree) (trail : List ℕ) (t : Tree) → Follows path tree (reached trail t) → Way path tree trail t []
reached_way [] tree trail t e = way_here [] tree t trail e
reached_way (p ∷ ps) (leaf kind s) trail t e = cc
reached_way (p ∷ ps) (empty shape gap) trail t (inl a) = let e : reached trail t ≡ mismatch 0 = a.1 in cc
reached_way (p ∷ ps) (empty shape gap) trail t (inr a) = let e : reached trail t ≡ missing [] (empty shape gap) (p ∷ ps) = a.1 in cc
reached_way (p ∷ ps) (group shape parts) trail t (inl a) = let e : reached trail t ≡ mismatch 0 = a.1 in cc
reached_way (p ∷ ps) (group shape parts) trail t (inr (inl a)) = let e : reached trail t ≡ missing [] (group shape parts) (p ∷ ps) = a.2 in cc
reached_way (p ∷ ps) (group shape parts) trail t (inr (inr (s, k, inner, next, named, c, f, e))) =
    let d = over_reached k next trail t e in
    subst (λ (ks : List ℕ). Way (p ∷ ps) (group shape parts) ks t []) (sym d.trail_is)
    (down p ps shape parts k inner d.rest t [] s named c (reached_way ps inner d.rest t (subst (Follows ps inner) d.next_is f)))

-- the way to a value in which a part names nothing
pub record Stop (path : List Part) (tree : Tree) (trail : List ℕ) (u : Tree) (absent : List Part) : Type 0 where
  pub way : Way path tree trail u absent
  pub stops : Follows absent u (missing [] u absent)

stop_here : (p : Part) (ps : List Part) (tree u : Tree) (trail : List ℕ) (absent : List Part) → missing trail u absent ≡ missing [] tree (p ∷ ps) → Follows (p ∷ ps) tree (missing [] tree (p ∷ ps)) → Stop (p ∷ ps) tree trail u absent
stop_here p ps tree u trail absent e f =
    let a : [] ≡ trail = cc in
    let b : tree ≡ u = cc in
    let c : p ∷ ps ≡ absent = cc in
    subst (λ (ks : List ℕ). Stop (p ∷ ps) tree ks u absent) a
    (subst (λ (v : Tree). Stop (p ∷ ps) tree [] v absent) b
    (subst (λ (l : List Part). Stop (p ∷ ps) tree [] tree l) c (record { way = at_end (p ∷ ps) tree; stops = f })))

pub missing_way : (path : List Part) (tree : Tree) (trail : List ℕ) (u : Tree) (absent : List Part) → Follows path tree (missing trail u absent) → Stop path tree trail u absent
missing_way [] tree trail u absent e = cc
missing_way (p ∷ ps) (leaf kind s) trail u absent e = cc
missing_way (p ∷ ps) (empty shape gap) trail u absent (inl a) = let e : missing trail u absent ≡ mismatch 0 = a.1 in cc
missing_way (p ∷ ps) (empty shape gap) trail u absent (inr a) = stop_here p ps (empty shape gap) u trail absent a.1 (inr (a.0, refl))
missing_way (p ∷ ps) (group shape parts) trail u absent (inl a) = let e : missing trail u absent ≡ mismatch 0 = a.1 in cc
missing_way (p ∷ ps) (group shape parts) trail u absent (inr (inl a)) = stop_here p ps (group shape parts) u trail absent a.2 (inr (inl (a.0, a.1, refl)))
missing_way (p ∷ ps) (group shape parts) trail u absent (inr (inr (s, k, inner, next, named, c, f, e))) =
    let g = over_missing k next trail u absent e in
    let below = missing_way ps inner g.rest u absent (subst (Follows ps inner) g.next_is f) in
    record {
      way = subst (λ (ks : List ℕ). Way (p ∷ ps) (group shape parts) ks u absent) (sym g.trail_is) (down p ps shape parts k inner g.rest u absent s named c below.way);
      stops = below.stops;
    }

-- ---- following along a way

-- an outcome at the end of a trail
abbrev pub overs : List ℕ → Outcome → Outcome
overs [] o = o
overs (k ∷ ks) o = over k (overs ks o)

pub way_follows : (path : List Part) (tree : Tree) (trail : List ℕ) (t : Tree) (rest : List Part) (o : Outcome) → Way path tree trail t rest → Follows rest t o → Follows path tree (overs trail o)
way_follows path tree trail t rest o (at_end ps u) f = f
way_follows path tree trail t rest o (down p ps shape parts k inner ks u qs s named c w) f =
    inr (inr (s, k, inner, overs ks o, named, c, way_follows ps inner ks u qs o w f, refl))

pub overs_reached : (trail others : List ℕ) (t : Tree) → (ks : List ℕ) × (overs trail (reached others t) ≡ reached ks t)
overs_reached [] others t = (others, refl)
overs_reached (k ∷ ks) others t = let r = overs_reached ks others t in (k ∷ r.0, ap (over k) r.1)

-- ---- a change of one part's value

-- the first part of a name keeps its number
pub first_kept : (name : List ℕ) (k : ℕ) (f : Tree → Tree) (ps : Parts) (j : ℕ) → IsFirstCalled name ps j → IsFirstCalled name (at_part k f ps) j
first_kept name zero f (last h t g) j is = is
first_kept name (suc k) f (last h t g) j is = is
first_kept name zero f (more h t g ps) j is = is
first_kept name (suc k) f (more h t g ps) j (inl is) = inl is
first_kept name (suc k) f (more h t g ps) j (inr (n, i, e, is)) = inr (n, i, e, first_kept name k f ps i is)

pub first_back : (name : List ℕ) (k : ℕ) (f : Tree → Tree) (ps : Parts) (j : ℕ) → IsFirstCalled name (at_part k f ps) j → IsFirstCalled name ps j
first_back name zero f (last h t g) j is = is
first_back name (suc k) f (last h t g) j is = is
first_back name zero f (more h t g ps) j is = is
first_back name (suc k) f (more h t g ps) j (inl is) = inl is
first_back name (suc k) f (more h t g ps) j (inr (n, i, e, is)) = inr (n, i, e, first_back name k f ps i is)

count_kept : (k : ℕ) (f : Tree → Tree) (ps : Parts) → count (at_part k f ps) ≡ count ps
count_kept zero f (last h t g) = refl
count_kept (suc k) f (last h t g) = refl
count_kept zero f (more h t g ps) = refl
count_kept (suc k) f (more h t g ps) = ap suc (count_kept k f ps)

-- a part of a path names the same part
pub names_kept : (p : Part) (k : ℕ) (f : Tree → Tree) (ps : Parts) (j : ℕ) → Names p ps j → Names p (at_part k f ps) j
names_kept (Member name) k f ps j is = first_kept name k f ps j is
names_kept (At n) k f ps j is = (is.0, subst (λ (c : ℕ). n < c) (sym (count_kept k f ps)) is.1)
names_kept Last k f ps j is = is ∙ sym (count_kept k f ps)

pub child_changed : (k : ℕ) (f : Tree → Tree) (ps : Parts) (u : Tree) → child ps k ≡ Some u → child (at_part k f ps) k ≡ Some (f u)
child_changed zero f (last h t g) u e = let same : t ≡ u = cc in ap (λ (v : Tree). Some (f v)) same
child_changed (suc k) f (last h t g) u e = cc
child_changed zero f (more h t g ps) u e = let same : t ≡ u = cc in ap (λ (v : Tree). Some (f v)) same
child_changed (suc k) f (more h t g ps) u e = child_changed k f ps u e

-- a change at the end of a way leaves the way
pub way_changed : (path : List Part) (tree : Tree) (trail : List ℕ) (t : Tree) (rest : List Part) (f : Tree → Tree) → Way path tree trail t rest → Way path (at_trail trail f tree) trail (f t) rest
way_changed path tree trail t rest f (at_end ps u) = at_end ps (f u)
way_changed path tree trail t rest f (down p ps shape parts k inner ks u qs s named c w) =
    down p ps shape (at_part k (at_trail ks f) parts) k (at_trail ks f inner) ks (f u) qs s (names_kept p k (at_trail ks f) parts k named) (child_changed k (at_trail ks f) parts inner c) (way_changed ps inner ks u qs f w)

-- the names that are left are among the path's
pub way_names : (path : List Part) (tree : Tree) (trail : List ℕ) (t : Tree) (rest : List Part) → Way path tree trail t rest → NamesUtf8 path → NamesUtf8 rest
way_names path tree trail t rest (at_end ps u) n = n
way_names path tree trail t rest (down p ps shape parts k inner ks u qs s named c w) n = way_names ps inner ks u qs w (names_behind p ps n)

-- the value at the end of a way in JSON is JSON
pub way_fits : (path : List Part) (tree : Tree) (trail : List ℕ) (t : Tree) (rest : List Part) → Way path tree trail t rest → Fits tree → Fits t
way_fits path tree trail t rest (at_end ps u) f = f
way_fits path tree trail t rest (down p ps shape parts k inner ks u qs s named c w) f = way_fits ps inner ks u qs w (child_fits shape k parts inner c f)
