-- What stands on the way of a path.
use Rattle.std.proofs.Common.{◌≡◌, ℕ, zero, suc, ◌+◌, ◌<◌, List, [], ◌∷◌, length, take, drop, true, Option, Some, inl, inr, refl, sym, ap, subst, ◌∙◌, arith}
use Rattle.std.specs.Prelude.{option_map, unwrap_or}
use Rattle.json_model.specs.declared.kinds.Shape.{Shape}
use Rattle.json_model.specs.declared.kinds.Shape.TheVariants as shapes
use Rattle.json_model.specs.declared.asked.Part.{Part}
use Rattle.json_model.specs.declared.asked.Part.TheVariants.{Member, At, Last}
use Rattle.json_model.specs.Spelled.{Tree, leaf, empty, group, Parts, last, more, count, Document}
use Rattle.json_model.specs.Follow.{asks, child, Outcome, reached, missing, mismatch, over, Follows}
use Rattle.json_model.specs.Edit.{above, final}
use Rattle.json_model.specs.Order.{ends_in_index}
use Rattle.json_model.proofs.Following.{follows_one}
use Rattle.subdoc_path.specs.declared.led.Led.{Led}
use Rattle.subdoc_path.specs.declared.led.Led.TheVariants as led
use Rattle.subdoc_path.specs.Led.{StandsAt, TellsPlace, LeadsAt}
use Rattle.subdoc_edit.specs.Splicing.{value_in}
use Rattle.subdoc_edit.proofs.Spots.{text_place}

-- ---- outcomes apart

reached_missing : (ks js : List ℕ) (t u : Tree) (absent : List Part) → reached ks t ≡ missing js u absent → ⊥
reached_missing ks js t u absent e = cc

reached_mismatch : (ks : List ℕ) (t : Tree) (n : ℕ) → reached ks t ≡ mismatch n → ⊥
reached_mismatch ks t n e = cc

missing_reached : (ks js : List ℕ) (t u : Tree) (absent : List Part) → missing js u absent ≡ reached ks t → ⊥
missing_reached ks js t u absent e = cc

missing_mismatch : (ks : List ℕ) (t : Tree) (absent : List Part) (n : ℕ) → missing ks t absent ≡ mismatch n → ⊥
missing_mismatch ks t absent n e = cc

-- a value was reached, over a part
record Over (k : ℕ) (next : Outcome) (ks : List ℕ) (t : Tree) : Type 0 where
  pub rest : List ℕ
  pub trail_is : ks ≡ k ∷ rest
  pub next_is : next ≡ reached rest t

over_reached : (k : ℕ) (next : Outcome) (ks : List ℕ) (t : Tree) → reached ks t ≡ over k next → Over k next ks t
over_reached k (reached rest u) ks t e =
    let tree : u ≡ t = cc in
    record { rest = rest; trail_is = cc; next_is = ap (reached rest) tree }
over_reached k (missing rest u absent) ks t e = absurd (reached_missing ks (k ∷ rest) t u absent e)
over_reached k (mismatch n) ks t e = absurd (reached_mismatch ks t (suc n) e)

-- a value without what is named was reached, over a part
record OverGap (k : ℕ) (next : Outcome) (ks : List ℕ) (t : Tree) (absent : List Part) : Type 0 where
  pub rest : List ℕ
  pub trail_is : ks ≡ k ∷ rest
  pub next_is : next ≡ missing rest t absent

over_missing : (k : ℕ) (next : Outcome) (ks : List ℕ) (t : Tree) (absent : List Part) → missing ks t absent ≡ over k next → OverGap k next ks t absent
over_missing k (reached rest u) ks t absent e = absurd (missing_reached (k ∷ rest) ks u t absent e)
over_missing k (missing rest u other) ks t absent e =
    let tree : u ≡ t = cc in
    let parts : other ≡ absent = cc in
    record { rest = rest; trail_is = cc; next_is = ap (λ (v : Tree). missing rest v other) tree ∙ ap (missing rest t) parts }
over_missing k (mismatch n) ks t absent e = absurd (missing_mismatch ks t absent (suc n) e)

-- ---- as many parts as numbers

pub trail_long : (ps : List Part) (root : Tree) (ks : List ℕ) (t : Tree) → Follows ps root (reached ks t) → length ks ≡ length ps
trail_long [] root ks t f = let e : ks ≡ [] = cc in ap (λ (l : List ℕ). length l) e
trail_long (p ∷ ps) (leaf kind s) ks t f = absurd (reached_mismatch ks t 0 f)
trail_long (p ∷ ps) (empty shape gap) ks t (inl f) = absurd (reached_mismatch ks t 0 f.1)
trail_long (p ∷ ps) (empty shape gap) ks t (inr f) = absurd (reached_missing ks [] t (empty shape gap) (p ∷ ps) f.1)
trail_long (p ∷ ps) (group shape qs) ks t (inl f) = absurd (reached_mismatch ks t 0 f.1)
trail_long (p ∷ ps) (group shape qs) ks t (inr (inl f)) = absurd (reached_missing ks [] t (group shape qs) (p ∷ ps) f.2)
trail_long (p ∷ ps) (group shape qs) ks t (inr (inr (same, k, u, next, names, c, f, e))) =
    let o = over_reached k next ks t e in
    let inner = trail_long ps u o.rest t (subst (λ (q : Outcome). Follows ps u q) o.next_is f) in
    omega (arith, inner, ap (λ (l : List ℕ). length l) o.trail_is)

-- ---- the value that holds the one that was reached

-- all parts but the last
abbrev pub fronts : List Part → List Part
fronts [] = []
fronts (p ∷ []) = []
fronts (p ∷ q ∷ ps) = p ∷ fronts (q ∷ ps)

pub fronts_take : (ps : List Part) (n : ℕ) → suc n ≡ length ps → take n ps ≡ fronts ps
fronts_take [] n e = absurd (omega (arith, e))
fronts_take (p ∷ []) zero e = refl
fronts_take (p ∷ []) (suc n) e = absurd (omega (arith, e))
fronts_take (p ∷ q ∷ ps) zero e = absurd (omega (arith, e))
fronts_take (p ∷ q ∷ ps) (suc n) e = ap (λ (l : List Part). p ∷ l) (fronts_take (q ∷ ps) n (omega (arith, e)))

-- the value at the end of a trail is a part of another, to which all parts but the last lead
pub record Inner (ps : List Part) (root : Tree) (ks : List ℕ) (t : Tree) : Type 0 where
  pub shape : Shape
  pub parts : Parts
  pub head : ℕ
  pub tail : List ℕ
  pub trail_is : ks ≡ head ∷ tail
  pub front : Follows (fronts ps) root (reached (above ks) (group shape parts))
  pub child : child parts (final ks) ≡ Some t
  pub place_is : text_place ks root ≡ text_place (above ks) root + 1 + value_in (final ks) parts
  pub indexed : ends_in_index ps ≡ true → shape ≡ shapes.Array

array_asked : (p : Part) (shape : Shape) → asks p ≡ shape → ends_in_index (p ∷ []) ≡ true → shape ≡ shapes.Array
array_asked (Member name) shape e i = cc
array_asked (At n) shape e i = sym e
array_asked Last shape e i = cc

place_one : (shape : Shape) (qs : Parts) (k : ℕ) (t : Tree) → child qs k ≡ Some t → text_place (k ∷ []) (group shape qs) ≡ 0 + 1 + value_in k qs
place_one shape qs k t c =
    let below : unwrap_or (option_map (text_place []) (child qs k)) 0 ≡ 0 = ap (λ (x : Option Tree). unwrap_or (option_map (text_place []) x) 0) c in
    omega (arith, below)

place_more : (shape : Shape) (qs : Parts) (k : ℕ) (ks : List ℕ) (u : Tree) → child qs k ≡ Some u → text_place (k ∷ ks) (group shape qs) ≡ suc (value_in k qs + text_place ks u)
place_more shape qs k ks u c = ap (λ (x : Option Tree). suc (value_in k qs + unwrap_or (option_map (text_place ks) x) 0)) c

pub inner : (p : Part) (ps : List Part) (root : Tree) (ks : List ℕ) (t : Tree) → Follows (p ∷ ps) root (reached ks t) → Inner (p ∷ ps) root ks t
inner p ps (leaf kind s) ks t f = absurd (reached_mismatch ks t 0 f)
inner p ps (empty shape gap) ks t (inl f) = absurd (reached_mismatch ks t 0 f.1)
inner p ps (empty shape gap) ks t (inr f) = absurd (reached_missing ks [] t (empty shape gap) (p ∷ ps) f.1)
inner p ps (group shape qs) ks t (inl f) = absurd (reached_mismatch ks t 0 f.1)
inner p ps (group shape qs) ks t (inr (inl f)) = absurd (reached_missing ks [] t (group shape qs) (p ∷ ps) f.2)
inner p [] (group shape qs) ks t (inr (inr (same, k, u, next, names, c, f, e))) =
    let o = over_reached k next ks t e in
    let ends : reached o.rest t ≡ reached [] u = sym o.next_is ∙ f in
    let trail : ks ≡ k ∷ [] = let none : o.rest ≡ [] = cc in o.trail_is ∙ ap (λ (l : List ℕ). k ∷ l) none in
    let tree : u ≡ t = cc in
    subst (λ (l : List ℕ). Inner (p ∷ []) (group shape qs) l t) (sym trail) (record {
      shape = shape;
      parts = qs;
      head = k;
      tail = [];
      trail_is = refl;
      front = refl;
      child = c ∙ ap (λ (x : Tree). Some x) tree;
      place_is = place_one shape qs k u c;
      indexed = array_asked p shape same;
    })
inner p (q ∷ ps) (group shape qs) ks t (inr (inr (same, k, u, next, names, c, f, e))) =
    let o = over_reached k next ks t e in
    let i = inner q ps u o.rest t (subst (λ (x : Outcome). Follows (q ∷ ps) u x) o.next_is f) in
    let trail : ks ≡ k ∷ (i.head ∷ i.tail) = o.trail_is ∙ ap (λ (l : List ℕ). k ∷ l) i.trail_is in
    let up : List ℕ = above (i.head ∷ i.tail) in
    let front : Follows (fronts (q ∷ ps)) u (reached up (group i.shape i.parts)) = subst (λ (l : List ℕ). Follows (fronts (q ∷ ps)) u (reached (above l) (group i.shape i.parts))) i.trail_is i.front in
    let place_is : text_place (i.head ∷ i.tail) u ≡ text_place up u + 1 + value_in (final (i.head ∷ i.tail)) i.parts = subst (λ (l : List ℕ). text_place l u ≡ text_place (above l) u + 1 + value_in (final l) i.parts) i.trail_is i.place_is in
    let child : child i.parts (final (i.head ∷ i.tail)) ≡ Some t = subst (λ (l : List ℕ). child i.parts (final l) ≡ Some t) i.trail_is i.child in
    subst (λ (l : List ℕ). Inner (p ∷ q ∷ ps) (group shape qs) l t) (sym trail) (record {
      shape = i.shape;
      parts = i.parts;
      head = k;
      tail = i.head ∷ i.tail;
      trail_is = refl;
      front = inr (inr (same, k, u, reached up (group i.shape i.parts), names, c, front, refl));
      child = child;
      place_is = omega (arith, place_more shape qs k (i.head ∷ i.tail) u c, place_more shape qs k up u c, place_is);
      indexed = i.indexed;
    })

pub child_few : (qs : Parts) (k : ℕ) (t : Tree) → child qs k ≡ Some t → k < count qs
child_few (last h u g) zero t e = omega arith
child_few (last h u g) (suc k) t e = cc
child_few (more h u g qs) zero t e = omega arith
child_few (more h u g qs) (suc k) t e = omega (arith, child_few qs k t e)

pub above_long : (k : ℕ) (ks : List ℕ) → length (above (k ∷ ks)) + 1 ≡ length (k ∷ ks)
above_long k [] = omega arith
above_long k (j ∷ ks) = omega (arith, above_long j ks)

-- ---- the value that has nothing of the name

-- a value of this shape
abbrev pub IsShaped : Tree → Shape → Type 0
IsShaped (leaf kind s) shape = ⊥
IsShaped (empty other gap) shape = shape ≡ other
IsShaped (group other parts) shape = shape ≡ other

-- the first parts lead to the value at the end of the trail, and the others are absent there
pub record Lacks (ps : List Part) (root : Tree) (ks : List ℕ) (t : Tree) (absent : List Part) : Type 0 where
  pub front : Follows (take (length ks) ps) root (reached ks t)
  pub absent_is : absent ≡ drop (length ks) ps
  pub first : Part
  pub rest : List Part
  pub some : absent ≡ first ∷ rest
  pub total : length ps ≡ length ks + length absent
  pub shaped : IsShaped t (asks first)

lacks_here : (p : Part) (ps : List Part) (root : Tree) (ks : List ℕ) (t : Tree) (absent : List Part) → missing ks t absent ≡ missing [] root (p ∷ ps) → IsShaped root (asks p) → Lacks (p ∷ ps) root ks t absent
lacks_here p ps root ks t absent e shaped =
    let a : ks ≡ [] = cc in
    let b : t ≡ root = cc in
    let c : absent ≡ p ∷ ps = cc in
    subst (λ (l : List ℕ). Lacks (p ∷ ps) root l t absent) (sym a)
    (subst (λ (u : Tree). Lacks (p ∷ ps) root [] u absent) (sym b)
    (subst (λ (l : List Part). Lacks (p ∷ ps) root [] root l) (sym c)
    (record { front = refl; absent_is = refl; first = p; rest = ps; some = refl; total = omega arith; shaped = shaped })))

pub lacks : (ps : List Part) (root : Tree) (ks : List ℕ) (t : Tree) (absent : List Part) → Follows ps root (missing ks t absent) → Lacks ps root ks t absent
lacks [] root ks t absent f = absurd (missing_reached [] ks root t absent f)
lacks (p ∷ ps) (leaf kind s) ks t absent f = absurd (missing_mismatch ks t absent 0 f)
lacks (p ∷ ps) (empty shape gap) ks t absent (inl f) = absurd (missing_mismatch ks t absent 0 f.1)
lacks (p ∷ ps) (empty shape gap) ks t absent (inr f) = lacks_here p ps (empty shape gap) ks t absent f.1 f.0
lacks (p ∷ ps) (group shape qs) ks t absent (inl f) = absurd (missing_mismatch ks t absent 0 f.1)
lacks (p ∷ ps) (group shape qs) ks t absent (inr (inl f)) = lacks_here p ps (group shape qs) ks t absent f.2 f.0
lacks (p ∷ ps) (group shape qs) ks t absent (inr (inr (same, k, u, next, names, c, f, e))) =
    let o = over_missing k next ks t absent e in
    let i = lacks ps u o.rest t absent (subst (λ (x : Outcome). Follows ps u x) o.next_is f) in
    subst (λ (l : List ℕ). Lacks (p ∷ ps) (group shape qs) l t absent) (sym o.trail_is) (record {
      front = inr (inr (same, k, u, reached o.rest t, names, c, i.front, refl));
      absent_is = i.absent_is;
      first = i.first;
      rest = i.rest;
      some = i.some;
      total = omega (arith, i.total);
      shaped = i.shaped;
    })

-- ---- what is told of following

at_same : (n m : ℕ) → led.At n ≡ led.At m → n ≡ m
at_same n m e = cc

missing_same : (n m : ℕ) → led.Missing n ≡ led.Missing m → n ≡ m
missing_same n m e = cc

stands_told : (bytes : List ℕ) (d : Document) (t : Tree) (ks : List ℕ) (n : ℕ) → TellsPlace bytes d (reached ks t) (led.At n) → StandsAt bytes d ks t n
stands_told bytes d t ks n (at, e, s) = subst (λ (k : ℕ). StandsAt bytes d ks t k) (sym (at_same n at e)) s

-- what is told, under another name
pub led_as : (bytes : List ℕ) (ps : List Part) (d : Document) (l m : Led) → l ≡ m → LeadsAt ps bytes d l → LeadsAt ps bytes d m
led_as bytes ps d l m e h = subst (λ (x : Led). LeadsAt ps bytes d x) e h

-- where parts lead to a value, its place is told
pub told_at : (bytes : List ℕ) (ps : List Part) (d : Document) (t : Tree) (ks : List ℕ) (n : ℕ) → Follows ps d.tree (reached ks t) → LeadsAt ps bytes d (led.At n) → StandsAt bytes d ks t n
told_at bytes ps d t ks n f (o, g, tells) = stands_told bytes d t ks n (subst (λ (q : Outcome). TellsPlace bytes d q (led.At n)) (follows_one ps d.tree o (reached ks t) g f) tells)

pub told_missing : (bytes : List ℕ) (ps : List Part) (d : Document) (t : Tree) (ks : List ℕ) (absent : List Part) (n : ℕ) → Follows ps d.tree (missing ks t absent) → LeadsAt ps bytes d (led.Missing n) → n ≡ length ks
told_missing bytes ps d t ks absent n f (o, g, tells) = missing_same n (length ks) (subst (λ (q : Outcome). TellsPlace bytes d q (led.Missing n)) (follows_one ps d.tree o (missing ks t absent) g f) tells)

-- a value was reached
pub record Reached (bytes : List ℕ) (ps : List Part) (d : Document) (at : ℕ) : Type 0 where
  pub trail : List ℕ
  pub tree : Tree
  pub follows : Follows ps d.tree (reached trail tree)
  pub stands : StandsAt bytes d trail tree at

by_reached : (bytes : List ℕ) (ps : List Part) (d : Document) (at : ℕ) (o : Outcome) → Follows ps d.tree o → TellsPlace bytes d o (led.At at) → Reached bytes ps d at
by_reached bytes ps d at (reached ks t) f e = record { trail = ks; tree = t; follows = f; stands = stands_told bytes d t ks at e }
by_reached bytes ps d at (missing ks t absent) f e = cc
by_reached bytes ps d at (mismatch n) f e = cc

pub leads_at : (bytes : List ℕ) (ps : List Part) (d : Document) (at : ℕ) → LeadsAt ps bytes d (led.At at) → Reached bytes ps d at
leads_at bytes ps d at (o, f, e) = by_reached bytes ps d at o f e

-- a value lacks what is named
pub record Missed (ps : List Part) (root : Tree) (n : ℕ) : Type 0 where
  pub trail : List ℕ
  pub tree : Tree
  pub absent : List Part
  pub follows : Follows ps root (missing trail tree absent)
  pub long : n ≡ length trail

missing_at : (bytes : List ℕ) (d : Document) (ks : List ℕ) (t : Tree) (n : ℕ) → TellsPlace bytes d (reached ks t) (led.Missing n) → ⊥
missing_at bytes d ks t n (at, e, s) = cc

by_missed : (bytes : List ℕ) (ps : List Part) (d : Document) (n : ℕ) (o : Outcome) → Follows ps d.tree o → TellsPlace bytes d o (led.Missing n) → Missed ps d.tree n
by_missed bytes ps d n (reached ks t) f e = absurd (missing_at bytes d ks t n e)
by_missed bytes ps d n (missing ks t absent) f e = record { trail = ks; tree = t; absent = absent; follows = f; long = missing_same n (length ks) e }
by_missed bytes ps d n (mismatch m) f e = cc

pub leads_missing : (bytes : List ℕ) (ps : List Part) (d : Document) (n : ℕ) → LeadsAt ps bytes d (led.Missing n) → Missed ps d.tree n
leads_missing bytes ps d n (o, f, e) = by_missed bytes ps d n o f e
