-- The value that one part of a path names, by the places of a text.
use Rattle.std.proofs.Common.{◌≡◌, ℕ, zero, suc, ◌+◌, ◌-◌, ◌<◌, ◌≤◌, List, length, take, drop, Option, Some, None, inl, inr, refl, sym, ap, subst, ◌∙◌, arith}
use Rattle.json_model.specs.declared.kinds.Shape.{Shape}
use Rattle.json_model.specs.declared.kinds.Shape.TheVariants as shapes
use Rattle.json_model.specs.declared.asked.Part.{Part}
use Rattle.json_model.specs.declared.asked.Part.TheVariants.{Member, At, Last}
use Rattle.json_model.specs.Spelled.{Head, plain, keyed, Tree, leaf, empty, group, Parts, last, more, count, HeadFits, PartsFit}
use Rattle.json_model.specs.Decoding.{StandsFor}
use Rattle.json_model.specs.Grammar.{IsString}
use Rattle.json_model.specs.Follow.{IsCalled, IsFirstCalled, asks}
use Rattle.json_spell.specs.Nodes.{kind_of}
use Rattle.json_walk.specs.declared.places.PartAt.{PartAt}
use Rattle.json_walk.specs.Places.{IsAt, ArePartsAt}
use Rattle.json_walk.specs.Telling.{tree_kind, tree_end, first_head, first_tree, key_of, part_at, end_at, parts_behind, parts_from, told, part_of}
use Rattle.json_walk.proofs.Standing.{first_value, inside, behind_comma, key_at}
use Rattle.subdoc_path.specs.Naming.{FindsIn, Finds}

-- ---- an object or array with parts

pub same_shape : (a b : Shape) → kind_of a ≡ kind_of b → a ≡ b
same_shape shapes.Object shapes.Object e = refl
same_shape shapes.Object shapes.Array e = cc
same_shape shapes.Array shapes.Object e = cc
same_shape shapes.Array shapes.Array e = refl

pub none_there : (p : Part) (t : Tree) (at : ℕ) → None ≡ part_of 0 at t → Finds p at t None
none_there p (leaf kind s) at e = refl
none_there p (empty shape gap) at e = refl
none_there p (group shape ps) at e = cc

-- ---- parts that are left

-- A part stands at these places; what is found of it and the parts behind it is found of the whole value.
pub record Going (bytes : List ℕ) (p : Part) (at : ℕ) (t : Tree) (place : PartAt) : Type 0 where
  pub from : ℕ
  pub left : Parts
  pub there : ArePartsAt bytes from (asks p) left
  pub place_is : place ≡ part_at from left
  pub finds : (found : Option ℕ) → FindsIn p from left found → Finds p at t found

pub going_first : (bytes : List ℕ) (p : Part) (at : ℕ) (t : Tree) (place : PartAt) → IsAt bytes at t → tree_kind t ≡ kind_of (asks p) → Some place ≡ part_of 0 at t → Going bytes p at t place
going_first bytes p at (leaf kind s) place is k e = cc
going_first bytes p at (empty shape gap) place is k e = cc
going_first bytes p at (group shape ps) place is k e = record {
  from = at + 1;
  left = ps;
  there = subst (λ s. ArePartsAt bytes (at + 1) s ps) (same_shape shape (asks p) k) (inside bytes at shape ps is);
  place_is = cc;
  finds = λ found f. f;
}

-- where the value of the part ends
pub end_here : (bytes : List ℕ) (p : Part) (at : ℕ) (t : Tree) (place : PartAt) (end : ℕ) (g : Going bytes p at t place) → ((u : Tree) → IsAt bytes place.value u → end ≡ tree_end place.value u) → end ≡ end_at g.from g.left
end_here bytes p at t place end g ended =
    let value : place.value ≡ (part_at g.from g.left).value = ap (λ (q : PartAt). q.value) g.place_is in
    let stands : IsAt bytes place.value (first_tree g.left) = subst (λ n. IsAt bytes n (first_tree g.left)) (sym value) (first_value bytes g.from (asks p) g.left g.there) in
    ended (first_tree g.left) stands ∙ ap (λ n. tree_end n (first_tree g.left)) value

-- the first of the parts isn't the one that is named, where others are behind it
abbrev pub Passes : Part → Head → Type 0
Passes (Member name) h = IsCalled name h → ⊥
Passes (At n) h = ⊥
Passes Last h = Unit {0}

some_parts : (ps : Parts) → 1 ≤ count ps
some_parts (last h t g) = omega arith
some_parts (more h t g ps) = omega arith

finds_more : (p : Part) (from : ℕ) (h : Head) (t : Tree) (g : List ℕ) (ps : Parts) (found : Option ℕ) → Passes p h → FindsIn p (end_at from (more h t g ps) + length g + 1) ps found → FindsIn p from (more h t g ps) found
finds_more (Member name) from h t g ps None isnt none = by_first
  where
    by_first : (k : ℕ) → IsFirstCalled name (more h t g ps) k → ⊥
    by_first k (inl (is, z)) = isnt is
    by_first k (inr (isnot, j, e, first)) = none j first
finds_more (Member name) from h t g ps (Some place) isnt (k, at, left, names, e, v) = (suc k, at, left, inr (isnt, k, refl, names), e, v)
finds_more (At n) from h t g ps found isnt f = absurd isnt
finds_more Last from h t g ps None isnt none = by_number
  where
    by_number : (k : ℕ) → suc k ≡ suc (count ps) → ⊥
    by_number zero e = absurd (omega (arith, e, some_parts ps))
    by_number (suc k) e = none k (omega (arith, e))
finds_more Last from h t g ps (Some place) isnt (k, at, left, names, e, v) = (suc k, at, left, ap suc names, e, v)

pub going_next : (bytes : List ℕ) (p : Part) (at : ℕ) (t : Tree) (place : PartAt) (end : ℕ) (next : PartAt) (g : Going bytes p at t place) → Passes p (first_head g.left)
    → ((u : Tree) → IsAt bytes place.value u → end ≡ tree_end place.value u)
    → ((from : ℕ) (left : Parts) → ArePartsAt bytes from (asks p) left → end ≡ end_at from left → Some next ≡ told (parts_behind from left)) → Going bytes p at t next
going_next bytes p at t place end next g passes ended step = by_left g.left g.there passes g.finds (step g.from g.left g.there (end_here bytes p at t place end g ended))
  where
    by_left : (left : Parts) → ArePartsAt bytes g.from (asks p) left → Passes p (first_head left) → ((found : Option ℕ) → FindsIn p g.from left found → Finds p at t found) → Some next ≡ told (parts_behind g.from left) → Going bytes p at t next
    by_left (last h u gap) s passes finds e = cc
    by_left (more h u gap rest) s passes finds e = record {
      from = end_at g.from (more h u gap rest) + length gap + 1;
      left = rest;
      there = behind_comma bytes g.from (asks p) h u gap rest s;
      place_is = cc;
      finds = λ found f. finds found (finds_more p g.from h u gap rest found passes f);
    }

-- ---- members

called_is : (name : List ℕ) (h : Head) → HeadFits shapes.Object h → StandsFor (key_of h) name → IsCalled name h
called_is name (plain gap) f s = absurd f
called_is name (keyed gap key behind before) f s = s

called_for : (name : List ℕ) (h : Head) → IsCalled name h → StandsFor (key_of h) name
called_for name (plain gap) s = absurd s
called_for name (keyed gap key behind before) s = s

first_fits : (shape : Shape) (ps : Parts) → PartsFit shape ps → HeadFits shape (first_head ps)
first_fits shape (last h t g) f = f.0
first_fits shape (more h t g ps) f = f.0

-- the bytes of the key that stands there
pub record KeyIs (bytes : List ℕ) (key : List ℕ) (h : Head) : Type 0 where
  pub inside : key ≡ key_of h
  pub string : IsString key

pub key_is : (bytes name key : List ℕ) (at : ℕ) (t : Tree) (place : PartAt) (g : Going bytes (Member name) at t place) → key ≡ take (place.key_to - place.start) (drop place.start bytes) → KeyIs bytes key (first_head g.left)
key_is bytes name key at t place g e =
    let k = key_at bytes g.from g.left g.there in
    let same : key ≡ key_of (first_head g.left) = e ∙ ap (λ (q : PartAt). take (q.key_to - q.start) (drop q.start bytes)) g.place_is ∙ k.inside in
    record { inside = same; string = subst IsString (sym same) k.string }

called_first : (name : List ℕ) (from : ℕ) (ps : Parts) → IsCalled name (first_head ps) → IsFirstCalled name ps 0
called_first name from (last h t g) is = (is, refl)
called_first name from (more h t g ps) is = inl (is, refl)

pub member_here : (bytes name key : List ℕ) (at : ℕ) (t : Tree) (place : PartAt) → Going bytes (Member name) at t place → key ≡ take (place.key_to - place.start) (drop place.start bytes) → StandsFor key name → Finds (Member name) at t (Some place.value)
member_here bytes name key at t place g e s =
    let k = key_is bytes name key at t place g e in
    let is : IsCalled name (first_head g.left) = called_is name (first_head g.left) (first_fits shapes.Object g.left g.there.fits) (subst (λ (l : List ℕ). StandsFor l name) k.inside s) in
    g.finds (Some place.value) (0, g.from, g.left, called_first name g.from g.left is, refl, ap (λ (q : PartAt). q.value) g.place_is)

-- a member of another name
pub member_passed : (bytes name key : List ℕ) (at : ℕ) (t : Tree) (place : PartAt) (g : Going bytes (Member name) at t place) → key ≡ take (place.key_to - place.start) (drop place.start bytes) → (StandsFor key name → ⊥) → Passes (Member name) (first_head g.left)
member_passed bytes name key at t place g e isnt is =
    let k = key_is bytes name key at t place g e in
    isnt (subst (λ (l : List ℕ). StandsFor l name) (sym k.inside) (called_for name (first_head g.left) is))

pub member_none : (bytes name : List ℕ) (at : ℕ) (t : Tree) (place : PartAt) (end : ℕ) (g : Going bytes (Member name) at t place) → Passes (Member name) (first_head g.left)
    → ((u : Tree) → IsAt bytes place.value u → end ≡ tree_end place.value u)
    → ((from : ℕ) (left : Parts) → ArePartsAt bytes from shapes.Object left → end ≡ end_at from left → None ≡ told (parts_behind from left)) → Finds (Member name) at t None
member_none bytes name at t place end g passes ended step = g.finds None (by_left g.left passes (step g.from g.left g.there (end_here bytes (Member name) at t place end g ended)))
  where
    by_left : (left : Parts) → (IsCalled name (first_head left) → ⊥) → None ≡ told (parts_behind g.from left) → (k : ℕ) → IsFirstCalled name left k → ⊥
    by_left (last h u gap) isnt e k first = isnt first.0
    by_left (more h u gap rest) isnt e k first = cc

-- ---- elements

pub last_here : (bytes : List ℕ) (at : ℕ) (t : Tree) (place : PartAt) (end : ℕ) (g : Going bytes Last at t place)
    → ((u : Tree) → IsAt bytes place.value u → end ≡ tree_end place.value u)
    → ((from : ℕ) (left : Parts) → ArePartsAt bytes from shapes.Array left → end ≡ end_at from left → None ≡ told (parts_behind from left)) → Finds Last at t (Some place.value)
last_here bytes at t place end g ended step = g.finds (Some place.value) (by_left g.left g.place_is (step g.from g.left g.there (end_here bytes Last at t place end g ended)))
  where
    by_left : (left : Parts) → place ≡ part_at g.from left → None ≡ told (parts_behind g.from left) → FindsIn Last g.from left (Some place.value)
    by_left (last h u gap) is e = (0, g.from, last h u gap, refl, refl, ap (λ (q : PartAt). q.value) is)
    by_left (more h u gap rest) is e = cc

from_within : (k at : ℕ) (ps : Parts) (from : ℕ) (left : Parts) → parts_from k at ps ≡ Some (from, left) → k < count ps
from_within zero at ps from left e = some_parts ps
from_within (suc k) at (last h t g) from left e = cc
from_within (suc k) at (more h t g ps) from left e = let less : k < count ps = from_within k (end_at at (more h t g ps) + length g + 1) ps from left e in omega arith

none_within : (k at : ℕ) (ps : Parts) → None ≡ told (parts_from k at ps) → k < count ps → ⊥
none_within zero at ps e less = cc
none_within (suc k) at (last h t g) e less = absurd (omega (arith, less))
none_within (suc k) at (more h t g ps) e less = none_within k (end_at at (more h t g ps) + length g + 1) ps e (omega (arith, less))

pub element_none : (n at : ℕ) (t : Tree) → None ≡ part_of n at t → Finds (At n) at t None
element_none n at (leaf kind s) e = refl
element_none n at (empty shape gap) e = refl
element_none n at (group shape ps) e = λ k names. none_within n (at + 1) ps e names.1

pub element_here : (n at : ℕ) (t : Tree) (place : PartAt) → Some place ≡ part_of n at t → Finds (At n) at t (Some place.value)
element_here n at (leaf kind s) place e = cc
element_here n at (empty shape gap) place e = cc
element_here n at (group shape ps) place e = by_found (parts_from n (at + 1) ps) refl e
  where
    by_found : (found : Option (ℕ × Parts)) → parts_from n (at + 1) ps ≡ found → Some place ≡ told found → FindsIn (At n) (at + 1) ps (Some place.value)
    by_found None f e = cc
    by_found (Some x) f e =
        let same : place ≡ part_at x.0 x.1 = cc in
        (n, x.0, x.1, (refl, from_within n (at + 1) ps x.0 x.1 f), f, ap (λ (q : PartAt). q.value) same)
