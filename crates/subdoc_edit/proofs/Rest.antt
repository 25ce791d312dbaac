-- Elements of an array looked at one by one.
use Rattle.std.proofs.Common.{◌≡◌, ℕ, nat_eq, ◌+◌, List, [], ◌∷◌, length, Bool, true, false, ◌&&◌, ◌||◌, None, Some, refl, sym, ap, subst, ◌∙◌}
use Rattle.std.specs.List.{list_all, list_any}
use Rattle.std.specs.Cmp.Lexicographic.{pointwise}
use Rattle.json_model.specs.declared.kinds.Kind.{Kind}
use Rattle.json_model.specs.declared.kinds.Shape.TheVariants as shapes
use Rattle.json_model.specs.Spelled.{Tree, leaf, empty, group, Parts, last, more, text, Fits}
use Rattle.json_model.specs.Edit.{elements, array_elements, is_leaf}
use Rattle.json_walk.specs.declared.places.PartAt.{PartAt}
use Rattle.json_walk.specs.Places.{IsAt, ArePartsAt}
use Rattle.json_walk.specs.Telling.{tree_kind, tree_end, first_tree, part_at, end_at, parts_behind, told, part_of}
use Rattle.json_walk.proofs.Standing.{first_value, inside, behind_comma}
use Rattle.subdoc_edit.specs.Kinds.{holds_others}
use Rattle.subdoc_edit.proofs.Looks.{shape_holds, leaf_holds}

-- the elements behind the first one
abbrev pub behind : Parts → List Tree
behind (last h t g) = []
behind (more h t g ps) = elements ps

pub elements_first : (ps : Parts) → elements ps ≡ first_tree ps ∷ behind ps
elements_first (last h t g) = refl
elements_first (more h t g ps) = refl

-- ---- the first one

none_trees : (trees : List Tree) → None ≡ Some trees → ⊥
none_trees trees e = cc

none_part : (p : PartAt) → None ≡ Some p → ⊥
none_part p e = cc

some_part : (p q : PartAt) → Some p ≡ Some q → p ≡ q
some_part p q e = cc

some_none : (p : PartAt) → Some p ≡ None → ⊥
some_none p e = cc

some_trees : (trees others : List Tree) → Some trees ≡ Some others → trees ≡ others
some_trees trees others e = cc

-- an array without elements
pub no_first : (t : Tree) (at : ℕ) (trees : List Tree) → array_elements t ≡ Some trees → None ≡ part_of 0 at t → trees ≡ []
no_first (leaf kind s) at trees e n = absurd (none_trees trees e)
no_first (empty shapes.Object gap) at trees e n = absurd (none_trees trees e)
no_first (empty shapes.Array gap) at trees e n = sym (some_trees [] trees e)
no_first (group shapes.Object ps) at trees e n = absurd (none_trees trees e)
no_first (group shapes.Array ps) at trees e n = absurd (none_part (part_at (at + 1) ps) n)

-- the elements of an array that has some
pub record Firsts (bytes : List ℕ) (at : ℕ) (trees : List Tree) (first : PartAt) : Type 0 where
  pub parts : Parts
  pub there : ArePartsAt bytes (at + 1) shapes.Array parts
  pub first_is : first ≡ part_at (at + 1) parts
  pub trees_is : trees ≡ elements parts

pub firsts : (bytes : List ℕ) (t : Tree) (at : ℕ) (trees : List Tree) (first : PartAt) → IsAt bytes at t → array_elements t ≡ Some trees → Some first ≡ part_of 0 at t → Firsts bytes at trees first
firsts bytes (leaf kind s) at trees first st e n = absurd (none_trees trees e)
firsts bytes (empty shape gap) at trees first st e n = absurd (some_none first n)
firsts bytes (group shapes.Object ps) at trees first st e n = absurd (none_trees trees e)
firsts bytes (group shapes.Array ps) at trees first st e n = record { parts = ps; there = inside bytes at shapes.Array ps st; first_is = some_part first (part_at (at + 1) ps) n; trees_is = sym (some_trees (elements ps) trees e) }

-- ---- those that are left

-- what is asked of all elements is what is asked of those behind the one that ends here
pub record Rest (h : List Tree → Bool) (bytes : List ℕ) (trees : List Tree) (end : ℕ) : Type 0 where
  pub from : ℕ
  pub left : Parts
  pub there : ArePartsAt bytes from shapes.Array left
  pub end_is : end ≡ end_at from left
  pub asked : h trees ≡ h (behind left)

-- an element that is there
pub record Element (h : List Tree → Bool) (bytes : List ℕ) (trees : List Tree) (p : PartAt) : Type 0 where
  pub from : ℕ
  pub left : Parts
  pub there : ArePartsAt bytes from shapes.Array left
  pub stands : IsAt bytes p.value (first_tree left)
  pub part_is : p ≡ part_at from left
  pub asked : h trees ≡ h (first_tree left ∷ behind left)

element_of : (h : List Tree → Bool) (bytes : List ℕ) (trees : List Tree) (p : PartAt) (from : ℕ) (ps : Parts) → ArePartsAt bytes from shapes.Array ps → p ≡ part_at from ps → h trees ≡ h (elements ps) → Element h bytes trees p
element_of h bytes trees p from ps s e asked = record {
  from = from;
  left = ps;
  there = s;
  stands = subst (λ (q : PartAt). IsAt bytes q.value (first_tree ps)) (sym e) (first_value bytes from shapes.Array ps s);
  part_is = e;
  asked = asked ∙ ap h (elements_first ps);
}

-- the first one
pub element_first : (h : List Tree → Bool) (bytes : List ℕ) (t : Tree) (at : ℕ) (trees : List Tree) (first : PartAt) → IsAt bytes at t → array_elements t ≡ Some trees → Some first ≡ part_of 0 at t → Element h bytes trees first
element_first h bytes t at trees first st e n =
    let f = firsts bytes t at trees first st e n in
    element_of h bytes trees first (at + 1) f.parts f.there f.first_is (ap h f.trees_is)

-- the next one
next_of : (h : List Tree → Bool) (bytes : List ℕ) (trees : List Tree) (from : ℕ) (left : Parts) (p : PartAt) → ArePartsAt bytes from shapes.Array left → Some p ≡ told (parts_behind from left) → h trees ≡ h (behind left) → Element h bytes trees p
next_of h bytes trees from (last d t g) p s n e = absurd (some_none p n)
next_of h bytes trees from (more d t g ps) p s n e =
    let place : ℕ = end_at from (more d t g ps) + length g + 1 in
    element_of h bytes trees p place ps (behind_comma bytes from shapes.Array d t g ps s) (some_part p (part_at place ps) n) e

pub element_next : (h : List Tree → Bool) (bytes : List ℕ) (trees : List Tree) (end : ℕ) (p : PartAt) → Rest h bytes trees end → ((at : ℕ) (ps : Parts) → ArePartsAt bytes at shapes.Array ps → end ≡ end_at at ps → Some p ≡ told (parts_behind at ps)) → Element h bytes trees p
element_next h bytes trees end p r n = next_of h bytes trees r.from r.left p r.there (n r.from r.left r.there r.end_is) r.asked

-- behind an element that leaves the question open
pub rest_behind : (h : List Tree → Bool) (bytes : List ℕ) (trees : List Tree) (end : ℕ) (p : PartAt) (e : Element h bytes trees p) → end ≡ tree_end p.value (first_tree e.left) → h (first_tree e.left ∷ behind e.left) ≡ h (behind e.left) → Rest h bytes trees end
rest_behind h bytes trees end p e ends skip = record {
  from = e.from;
  left = e.left;
  there = e.there;
  end_is = ends ∙ ap (λ (q : PartAt). tree_end q.value (first_tree e.left)) e.part_is;
  asked = e.asked ∙ skip;
}

none_of : (h : List Tree → Bool) (from : ℕ) (left : Parts) → None ≡ told (parts_behind from left) → h (behind left) ≡ h []
none_of h from (last d t g) n = refl
none_of h from (more d t g ps) n = absurd (none_part (part_at (end_at from (more d t g ps) + length g + 1) ps) n)

pub rest_none : (h : List Tree → Bool) (bytes : List ℕ) (trees : List Tree) (end : ℕ) → Rest h bytes trees end → ((at : ℕ) (ps : Parts) → ArePartsAt bytes at shapes.Array ps → end ≡ end_at at ps → None ≡ told (parts_behind at ps)) → h trees ≡ h []
rest_none h bytes trees end r n = r.asked ∙ none_of h r.from r.left (n r.from r.left r.there r.end_is)

-- ---- leaves

no_both : true ≡ false → ⊥
no_both e = cc

-- whether a value holds others, by its kind
pub leaf_is : (t : Tree) (kind : Kind) → kind ≡ tree_kind t → holds_others kind ≡ false → is_leaf t ≡ true
leaf_is (leaf other s) kind h e = refl
leaf_is (empty shape gap) kind h e = absurd (no_both (sym (shape_holds shape) ∙ ap holds_others (sym h) ∙ e))
leaf_is (group shape ps) kind h e = absurd (no_both (sym (shape_holds shape) ∙ ap holds_others (sym h) ∙ e))

pub leaf_not : (t : Tree) (kind : Kind) → Fits t → kind ≡ tree_kind t → holds_others kind ≡ true → is_leaf t ≡ false
leaf_not (leaf other s) kind fits h e = absurd (no_both (sym e ∙ ap holds_others h ∙ leaf_holds other s fits))
leaf_not (empty shape gap) kind fits h e = refl
leaf_not (group shape ps) kind fits h e = refl

abbrev pub leaves : List Tree → Bool
leaves ts = list_all is_leaf ts

pub leaves_skip : (t : Tree) (ts : List Tree) → is_leaf t ≡ true → leaves (t ∷ ts) ≡ leaves ts
leaves_skip t ts e = ap (λ (b : Bool). b && leaves ts) e

pub leaves_stop : (t : Tree) (ts : List Tree) → is_leaf t ≡ false → leaves (t ∷ ts) ≡ false
leaves_stop t ts e = ap (λ (b : Bool). b && leaves ts) e

-- ---- texts

abbrev pub texts : List ℕ → List Tree → Bool
texts wanted ts = list_any (λ t. pointwise nat_eq (text t) wanted) ts

pub texts_skip : (wanted : List ℕ) (t : Tree) (ts : List Tree) → pointwise nat_eq (text t) wanted ≡ false → texts wanted (t ∷ ts) ≡ texts wanted ts
texts_skip wanted t ts e = ap (λ (b : Bool). b || texts wanted ts) e

pub texts_stop : (wanted : List ℕ) (t : Tree) (ts : List Tree) → pointwise nat_eq (text t) wanted ≡ true → texts wanted (t ∷ ts) ≡ true
texts_stop wanted t ts e = ap (λ (b : Bool). b || texts wanted ts) e
