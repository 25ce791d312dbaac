-- Values at the ends of trails, and where following parts leads.
use Rattle.std.proofs.Common.{◌≡◌, ℕ, List, [], ◌∷◌, true, Option, Some, None, inl, inr, refl, sym, ap, subst, ◌∙◌}
use Rattle.json_model.specs.declared.kinds.Shape.{Shape}
use Rattle.json_model.specs.declared.kinds.Shape.TheVariants as shapes
use Rattle.json_model.specs.declared.asked.Part.{Part}
use Rattle.json_model.specs.declared.asked.Part.TheVariants.{Member, At, Last}
use Rattle.json_model.specs.Spelled.{Tree, leaf, empty, group, Parts, PartsFit}
use Rattle.json_model.specs.Follow.{asks, child, Outcome, reached, missing, mismatch, over, Follows}
use Rattle.json_model.specs.Moves.{Takes}
use Rattle.json_model.specs.Splices.{Reaches, here, there}
use Rattle.json_model.specs.Edit.{above}
use Rattle.json_model.specs.Order.{ends_in_index}
use Rattle.subdoc_step.proofs.Names.{NamesUtf8}

-- ---- the value at the end of a trail

abbrev pub within : Option Tree → (Tree → Option Tree) → Option Tree
within None next = None
within (Some t) next = next t

-- the value at the end of a trail
abbrev pub found_at : List ℕ → Tree → Option Tree
found_at [] t = Some t
found_at (k ∷ ks) (leaf kind s) = None
found_at (k ∷ ks) (empty shape gap) = None
found_at (k ∷ ks) (group shape ps) = within (child ps k) (found_at ks)

abbrev pub this : Tree → Option Tree
this t = Some t

pub same_tree : (t u : Tree) → this t ≡ this u → t ≡ u
same_tree t u e = cc

pub reaches_found : (trail : List ℕ) (root t : Tree) → Reaches trail root t → found_at trail root ≡ this t
reaches_found trail root t (here u) = refl
reaches_found trail root t (there k ks shape ps u v e r) = ap (λ (o : Option Tree). within o (found_at ks)) e ∙ reaches_found ks u v r

pub reaches_one : (trail : List ℕ) (root t u : Tree) → Reaches trail root t → Reaches trail root u → t ≡ u
reaches_one trail root t u r s = same_tree t u (sym (reaches_found trail root t r) ∙ reaches_found trail root u s)

-- ---- a step of following

-- one step down of what is reached
pub record Down (k : ℕ) (next : Outcome) (trail : List ℕ) (u : Tree) : Type 0 where
  pub rest : List ℕ
  pub next_is : next ≡ reached rest u
  pub trail_is : trail ≡ k ∷ rest

pub over_reached : (k : ℕ) (next : Outcome) (trail : List ℕ) (u : Tree) → reached trail u ≡ over k next → Down k next trail u
over_reached k (reached ks v) trail u e =
    let same : u ≡ v = cc in
    record { rest = ks; next_is = ap (reached ks) (sym same); trail_is = cc }
over_reached k (missing ks v rest) trail u e = cc
over_reached k (mismatch d) trail u e = cc

-- one step down of what is missing
pub record Gone (k : ℕ) (next : Outcome) (trail : List ℕ) (u : Tree) (absent : List Part) : Type 0 where
  pub rest : List ℕ
  pub next_is : next ≡ missing rest u absent
  pub trail_is : trail ≡ k ∷ rest

pub over_missing : (k : ℕ) (next : Outcome) (trail : List ℕ) (u : Tree) (absent : List Part) → missing trail u absent ≡ over k next → Gone k next trail u absent
over_missing k (missing ks v rest) trail u absent e =
    let same : u ≡ v = cc in
    let same_rest : absent ≡ rest = cc in
    record { rest = ks; next_is = ap (λ (w : Tree). missing ks w rest) (sym same) ∙ ap (missing ks u) (sym same_rest); trail_is = cc }
over_missing k (reached ks v) trail u absent e = cc
over_missing k (mismatch d) trail u absent e = cc

-- a part leads one number further at least
pub record Some_trail (ks : List ℕ) : Type 0 where
  pub first : ℕ
  pub others : List ℕ
  pub is : ks ≡ first ∷ others

pub some_trail : (p : Part) (ps : List Part) (t : Tree) (ks : List ℕ) (u : Tree) → Follows (p ∷ ps) t (reached ks u) → Some_trail ks
some_trail p ps (leaf kind s) ks u e = cc
some_trail p ps (empty shape gap) ks u (inl a) = let e : reached ks u ≡ mismatch 0 = a.1 in cc
some_trail p ps (empty shape gap) ks u (inr a) = let e : reached ks u ≡ missing [] (empty shape gap) (p ∷ ps) = a.1 in cc
some_trail p ps (group shape parts) ks u (inl a) = let e : reached ks u ≡ mismatch 0 = a.1 in cc
some_trail p ps (group shape parts) ks u (inr (inl a)) = let e : reached ks u ≡ missing [] (group shape parts) (p ∷ ps) = a.2 in cc
some_trail p ps (group shape parts) ks u (inr (inr (s, k, t, next, named, c, f, e))) =
    let d = over_reached k next ks u e in record { first = k; others = d.rest; is = d.trail_is }

-- ---- behind an index stands an array

-- elements may stand in a value
abbrev pub TakesElements : Tree → Type 0
TakesElements t = (vs : Parts) → PartsFit shapes.Array vs → Takes t vs

group_takes : (shape : Shape) (parts : Parts) → shapes.Array ≡ shape → TakesElements (group shape parts)
group_takes shape parts e vs fits = subst (λ (s : Shape). PartsFit s vs) e fits

pub ends_more : (p q : Part) (ps : List Part) → ends_in_index (p ∷ q ∷ ps) ≡ ends_in_index (q ∷ ps)
ends_more (Member name) q ps = refl
ends_more (At n) q ps = refl
ends_more Last q ps = refl

pub index_asks : (p : Part) → ends_in_index (p ∷ []) ≡ true → asks p ≡ shapes.Array
index_asks (Member name) e = cc
index_asks (At n) e = refl
index_asks Last e = refl

-- the value above the last part, where that is an index
last_above : (p : Part) (shape : Shape) (parts : Parts) (k : ℕ) (inner t u : Tree) (next : Outcome) (trail : List ℕ) → asks p ≡ shape → ends_in_index (p ∷ []) ≡ true → next ≡ reached [] inner → reached trail u ≡ over k next
    → found_at (above trail) (group shape parts) ≡ this t → TakesElements t
last_above p shape parts k inner t u next trail s i f e found =
    let d = over_reached k next trail u e in
    let none : d.rest ≡ [] = let h : reached d.rest u ≡ reached [] inner = sym d.next_is ∙ f in cc in
    let path : trail ≡ k ∷ [] = d.trail_is ∙ ap (λ (l : List ℕ). k ∷ l) none in
    let same : group shape parts ≡ t = same_tree (group shape parts) t (ap (λ (l : List ℕ). found_at (above l) (group shape parts)) (sym path) ∙ found) in
    subst TakesElements same (group_takes shape parts (sym (index_asks p i) ∙ s))

-- the value above the last of several parts
more_above : (q : Part) (ps : List Part) (shape : Shape) (parts : Parts) (k : ℕ) (inner t u : Tree) (next : Outcome) (trail : List ℕ) → child parts k ≡ Some inner → Follows (q ∷ ps) inner next → reached trail u ≡ over k next
    → ((ks : List ℕ) → Follows (q ∷ ps) inner (reached ks u) → found_at (above ks) inner ≡ this t → TakesElements t)
    → found_at (above trail) (group shape parts) ≡ this t → TakesElements t
more_above q ps shape parts k inner t u next trail c f e law found =
    let d = over_reached k next trail u e in
    let g : Follows (q ∷ ps) inner (reached d.rest u) = subst (Follows (q ∷ ps) inner) d.next_is f in
    let s = some_trail q ps inner d.rest u g in
    let path : trail ≡ k ∷ s.first ∷ s.others = d.trail_is ∙ ap (λ (l : List ℕ). k ∷ l) s.is in
    law d.rest g (
    ap (λ (l : List ℕ). found_at (above l) inner) s.is
    ∙ ap (λ (o : Option Tree). within o (found_at (above (s.first ∷ s.others)))) (sym c)
    ∙ ap (λ (l : List ℕ). found_at (above l) (group shape parts)) (sym path) ∙ found
    )

pub index_above : (path : List Part) (tree : Tree) (trail : List ℕ) (u t : Tree) → Follows path tree (reached trail u) → ends_in_index path ≡ true → found_at (above trail) tree ≡ this t → TakesElements t
index_above [] tree trail u t f i found = cc
index_above (p ∷ ps) (leaf kind s) trail u t f i found = cc
index_above (p ∷ ps) (empty shape gap) trail u t (inl a) i found = let e : reached trail u ≡ mismatch 0 = a.1 in cc
index_above (p ∷ ps) (empty shape gap) trail u t (inr a) i found = let e : reached trail u ≡ missing [] (empty shape gap) (p ∷ ps) = a.1 in cc
index_above (p ∷ ps) (group shape parts) trail u t (inl a) i found = let e : reached trail u ≡ mismatch 0 = a.1 in cc
index_above (p ∷ ps) (group shape parts) trail u t (inr (inl a)) i found = let e : reached trail u ≡ missing [] (group shape parts) (p ∷ ps) = a.2 in cc
index_above (p ∷ []) (group shape parts) trail u t (inr (inr (s, k, inner, next, named, c, f, e))) i found = last_above p shape parts k inner t u next trail s i f e found
index_above (p ∷ q ∷ ps) (group shape parts) trail u t (inr (inr (s, k, inner, next, named, c, f, e))) i found =
    more_above q ps shape parts k inner t u next trail c f e (λ ks g h. index_above (q ∷ ps) inner ks u t g (sym (ends_more p q ps) ∙ i) h) found

-- ---- where a part names nothing

-- a value of this shape
abbrev pub HasShape : Tree → Shape → Type 0
HasShape (leaf kind s) shape = ⊥
HasShape (empty own gap) shape = shape ≡ own
HasShape (group own parts) shape = shape ≡ own

-- the value in which a part names nothing has the shape that the part asks for
pub record Gap (path : List Part) (u : Tree) (absent : List Part) : Type 0 where
  pub part : Part
  pub others : List Part
  pub absent_is : absent ≡ part ∷ others
  pub shape_is : HasShape u (asks part)
  pub names : NamesUtf8 path → NamesUtf8 absent

gap_here : (p : Part) (ps : List Part) (t u : Tree) (trail : List ℕ) (absent : List Part) → HasShape t (asks p) → missing trail u absent ≡ missing [] t (p ∷ ps) → Gap (p ∷ ps) u absent
gap_here p ps t u trail absent has e =
    let same : t ≡ u = cc in
    let rest : absent ≡ p ∷ ps = cc in
    record { part = p; others = ps; absent_is = rest; shape_is = subst (λ (v : Tree). HasShape v (asks p)) same has; names = λ n. subst NamesUtf8 (sym rest) n }

pub names_behind : (p : Part) (ps : List Part) → NamesUtf8 (p ∷ ps) → NamesUtf8 ps
names_behind (Member name) ps n = n.1
names_behind (At k) ps n = n
names_behind Last ps n = n

gap_below : (p : Part) (ps : List Part) (u : Tree) (absent : List Part) → Gap ps u absent → Gap (p ∷ ps) u absent
gap_below p ps u absent g = record { part = g.part; others = g.others; absent_is = g.absent_is; shape_is = g.shape_is; names = λ n. g.names (names_behind p ps n) }

pub missing_gap : (path : List Part) (tree : Tree) (trail : List ℕ) (u : Tree) (absent : List Part) → Follows path tree (missing trail u absent) → Gap path u absent
missing_gap [] tree trail u absent e = cc
missing_gap (p ∷ ps) (leaf kind s) trail u absent e = cc
missing_gap (p ∷ ps) (empty shape gap) trail u absent (inl a) = let e : missing trail u absent ≡ mismatch 0 = a.1 in cc
missing_gap (p ∷ ps) (empty shape gap) trail u absent (inr a) = gap_here p ps (empty shape gap) u trail absent a.0 a.1
missing_gap (p ∷ ps) (group shape parts) trail u absent (inl a) = let e : missing trail u absent ≡ mismatch 0 = a.1 in cc
missing_gap (p ∷ ps) (group shape parts) trail u absent (inr (inl a)) = gap_here p ps (group shape parts) u trail absent a.0 a.2
missing_gap (p ∷ ps) (group shape parts) trail u absent (inr (inr (s, k, inner, next, named, c, f, e))) =
    let g = over_missing k next trail u absent e in
    gap_below p ps u absent (missing_gap ps inner g.rest u absent (subst (Follows ps inner) g.next_is f))
