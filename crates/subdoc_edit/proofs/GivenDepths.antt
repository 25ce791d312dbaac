-- Going through the values at the front of a list of nodes.
use Rattle.std.proofs.Common.{◌≡◌, ℕ, suc, ◌+◌, ◌-◌, ◌<◌, ◌≤◌, List, [], ◌∷◌, ◌++◌, length, get_or, take, drop, Bool, true, false, ◌⊎◌, inl, inr, refl, sym, ap, subst, ◌∙◌, arith, append_assoc}
use Rattle.std.specs.Prelude.{max, min}
use Rattle.std.specs.Ordering.{ord_max, nat_cmp}
use Rattle.std.proofs.lemmas.List.{take_all}
use Rattle.std.proofs.lemmas.Bool.Decides.{nat_tests}
use Rattle.json_model.specs.declared.TheConstants.{MOST_DEEP}
use Rattle.json_model.specs.declared.kinds.Kind.{Kind}
use Rattle.json_model.specs.declared.kinds.Kind.TheVariants as kinds
use Rattle.json_model.specs.declared.kinds.Shape.{Shape}
use Rattle.json_model.specs.declared.kinds.Shape.TheVariants as shapes
use Rattle.json_model.specs.Grammar.{IsLeaf}
use Rattle.json_model.specs.Spelled.{Head, Tree, leaf, empty, group, Parts, last, more, head_text, text, depth, parts_depth, size, count, Fits}
use Rattle.json_spell.specs.declared.node.Node.{Node}
use Rattle.json_spell.specs.declared.node.Span.{Span}
use Rattle.json_spell.specs.Nodes.{kind_of, key_span, tree_nodes, parts_nodes}
use Rattle.subdoc_path.proofs.Walking.{tree_says}
use Rattle.subdoc_edit.specs.Kinds.{holds_others}
use Rattle.subdoc_edit.specs.GivenDepths.{LeadParts, value_end, first_end, IsDepth, ArePassed}

-- ---- the parts of a loop

-- some parts are left, and what was told of those before is right
pub record LeftParts (from : ℕ) (ps : Parts) (shape : Shape) (behind : List Node) (done told : ℕ) (rest : List Node) : Type 0 where
  pub at : ℕ
  pub index : ℕ
  pub parts : Parts
  pub lead : LeadParts rest at index shape parts behind
  pub counted : done + count parts ≡ count ps
  pub deepest : max told (parts_depth parts) ≡ parts_depth ps
  pub ends : value_end at parts ≡ value_end from ps

-- none is left, and what was told is right
pub record NoneLeft (from : ℕ) (ps : Parts) (behind : List Node) (done told end : ℕ) (rest : List Node) : Type 0 where
  pub counted : done ≡ count ps
  pub deepest : told ≡ parts_depth ps
  pub ends : end ≡ value_end from ps
  pub rest_is : rest ≡ behind

abbrev pub Goes : ℕ → Parts → Shape → List Node → ℕ → ℕ → ℕ → List Node → Type 0
Goes from ps shape behind done told end rest = LeftParts from ps shape behind done told rest ⊎ NoneLeft from ps behind done told end rest

pub goes_init : (nodes : List Node) (at index : ℕ) (shape : Shape) (ps : Parts) (behind : List Node) → LeadParts nodes at index shape ps behind → Goes at ps shape behind 0 0 0 nodes
goes_init nodes at index shape ps behind l = inl (record { at = at; index = index; parts = ps; lead = l; counted = omega arith; deepest = omega arith; ends = refl })

-- the end of a value at the front of a list
front_end : (nodes : List Node) (at index : ℕ) (key : Span) (t : Tree) (behind : List Node) → nodes ≡ tree_nodes at index key t ++ behind → first_end nodes ≡ at + length (text t)
front_end nodes at index key t behind e =
    let s = tree_says at index key t in
    ap first_end (e ∙ ap (λ (l : List Node). l ++ behind) s.1.whole) ∙ s.2.to

goes_last : (from : ℕ) (ps : Parts) (shape : Shape) (behind : List Node) (done told end deep : ℕ) (rest next : List Node) (at index : ℕ) (h : Head) (t : Tree) (g : List ℕ)
    → LeadParts rest at index shape (last h t g) behind → done + 1 ≡ count ps → max told (depth t) ≡ parts_depth ps → value_end at (last h t g) ≡ value_end from ps
    → IsDepth rest deep next → end ≡ first_end rest → NoneLeft from ps behind (done + 1) (max told deep) end next
goes_last from ps shape behind done told end deep rest next at index h t g l c m v is e =
    let d = is (at + length (head_text h)) index (key_span at h) t behind (record { listed = l.listed; fits = l.fits.1; shallow = l.shallow }) in
    record {
      counted = c;
      deepest = ap (λ (n : ℕ). max told n) d.0 ∙ m;
      ends = omega (arith, e, v, front_end rest (at + length (head_text h)) index (key_span at h) t behind l.listed);
      rest_is = d.1;
    }

goes_more : (from : ℕ) (ps : Parts) (shape : Shape) (behind : List Node) (done told deep : ℕ) (rest next : List Node) (at index : ℕ) (h : Head) (t : Tree) (g : List ℕ) (qs : Parts)
    → LeadParts rest at index shape (more h t g qs) behind → done + suc (count qs) ≡ count ps → max told (max (depth t) (parts_depth qs)) ≡ parts_depth ps → value_end at (more h t g qs) ≡ value_end from ps
    → IsDepth rest deep next → LeftParts from ps shape behind (done + 1) (max told deep) next
goes_more from ps shape behind done told deep rest next at index h t g qs l c m v is =
    let place : ℕ = at + (length (head_text h) + (length (text t) + (length g + 1))) in
    let mine : List Node = tree_nodes (at + length (head_text h)) index (key_span at h) t in
    let others : List Node = parts_nodes place (index + size t) qs in
    let deep_enough : max (depth t) (parts_depth qs) ≤ MOST_DEEP = l.shallow in
    let d = is (at + length (head_text h)) index (key_span at h) t (others ++ behind) (record { listed = l.listed ∙ append_assoc mine others behind; fits = l.fits.1; shallow = omega (arith, deep_enough) }) in
    record {
      at = place;
      index = index + size t;
      parts = qs;
      lead = record { listed = d.1; fits = l.fits.3; shallow = omega (arith, deep_enough) };
      counted = omega (arith, c);
      deepest = omega (arith, d.0, m);
      ends = v;
    }

goes_left : (from : ℕ) (ps : Parts) (shape : Shape) (behind : List Node) (done told end deep : ℕ) (rest next : List Node) (at index : ℕ) (qs : Parts)
    → LeadParts rest at index shape qs behind → done + count qs ≡ count ps → max told (parts_depth qs) ≡ parts_depth ps → value_end at qs ≡ value_end from ps
    → IsDepth rest deep next → end ≡ first_end rest → Goes from ps shape behind (done + 1) (max told deep) end next
goes_left from ps shape behind done told end deep rest next at index (last h t g) l c m v is e = inr (goes_last from ps shape behind done told end deep rest next at index h t g l c m v is e)
goes_left from ps shape behind done told end deep rest next at index (more h t g qs) l c m v is e = inl (goes_more from ps shape behind done told deep rest next at index h t g qs l c m v is)

pub goes_turn : (from : ℕ) (ps : Parts) (shape : Shape) (behind : List Node) (done told before end deep : ℕ) (rest next : List Node)
    → Goes from ps shape behind done told before rest → done < count ps → IsDepth rest deep next → end ≡ first_end rest → Goes from ps shape behind (done + 1) (max told deep) end next
goes_turn from ps shape behind done told before end deep rest next (inl l) less is e = goes_left from ps shape behind done told end deep rest next l.at l.index l.parts l.lead l.counted l.deepest l.ends is e
goes_turn from ps shape behind done told before end deep rest next (inr n) less is e = absurd (omega (arith, n.counted, less))

some_parts : (ps : Parts) → 1 ≤ count ps
some_parts (last h t g) = omega arith
some_parts (more h t g ps) = omega arith

pub goes_end : (from : ℕ) (ps : Parts) (shape : Shape) (behind : List Node) (done told end : ℕ) (rest : List Node) → Goes from ps shape behind done told end rest → done ≡ count ps → NoneLeft from ps behind done told end rest
goes_end from ps shape behind done told end rest (inl l) e = absurd (omega (arith, l.counted, e, some_parts l.parts))
goes_end from ps shape behind done told end rest (inr n) e = n

-- ---- a tree

some_nodes : (at index : ℕ) (key : Span) (t : Tree) (behind : List Node) → [] ≡ tree_nodes at index key t ++ behind → ⊥
some_nodes at index key (leaf kind s) behind e = cc
some_nodes at index key (empty shape g) behind e = cc
some_nodes at index key (group shape ps) behind e = cc

pub no_tree : (nodes : List Node) (told : ℕ) (rest : List Node) → length nodes ≡ 0 → IsDepth nodes told rest
no_tree [] told rest z at index key t behind l = absurd (some_nodes at index key t behind l.listed)
no_tree (n ∷ ns) told rest z at index key t behind l = absurd (omega (arith, z))

head_is : (n m : Node) (ns ms : List Node) → n ∷ ns ≡ m ∷ ms → (n ≡ m) × (ns ≡ ms)
head_is n m ns ms e = (cc, cc)

pub not_leaf : (kind : Kind) (s : List ℕ) → IsLeaf kind s → holds_others kind ≡ false
not_leaf kinds.Object s h = absurd h
not_leaf kinds.Array s h = absurd h
not_leaf kinds.Text s h = refl
not_leaf kinds.Number s h = refl
not_leaf kinds.True s h = refl
not_leaf kinds.False s h = refl
not_leaf kinds.Null s h = refl

pub shape_holds : (shape : Shape) → holds_others (kind_of shape) ≡ true
shape_holds shapes.Object = refl
shape_holds shapes.Array = refl

pub true_or : (b : Bool) → b ≡ true → b ≡ false → ⊥
true_or b t f = let e : true ≡ false = sym t ∙ f in cc

leaf_depth : (n : Node) (inner : List Node) (at index : ℕ) (key : Span) (t : Tree) (behind : List Node) → holds_others n.kind ≡ false → Fits t → n ∷ inner ≡ tree_nodes at index key t ++ behind → (0 ≡ depth t) × (inner ≡ behind)
leaf_depth n inner at index key (leaf kind s) behind k f e = (refl, cc)
leaf_depth n inner at index key (empty shape g) behind k f e =
    let h = head_is n _ inner _ e in
    absurd (true_or (holds_others n.kind) (ap (λ (m : Node). holds_others m.kind) h.0 ∙ shape_holds shape) k)
leaf_depth n inner at index key (group shape ps) behind k f e =
    let h = head_is n _ inner _ e in
    absurd (true_or (holds_others n.kind) (ap (λ (m : Node). holds_others m.kind) h.0 ∙ shape_holds shape) k)

pub leaf_told : (n : Node) (inner : List Node) → holds_others n.kind ≡ false → IsDepth (n ∷ inner) 0 inner
leaf_told n inner k at index key t behind l = leaf_depth n inner at index key t behind k l.fits l.listed

-- a list with a first node, as its first node and the rest
pub first_and : (nodes : List Node) (d : Node) → 1 ≤ length nodes → nodes ≡ get_or nodes 0 d ∷ take (length nodes - 1) (drop 1 nodes)
first_and [] d some = absurd (omega arith)
first_and (n ∷ ns) d some = ap (λ (l : List Node). n ∷ l) (sym (take_all (length (n ∷ ns) - 1) ns (omega arith)))

pub leaf_at : (nodes : List Node) (d : Node) → 1 ≤ length nodes → holds_others (get_or nodes 0 d).kind ≡ false → IsDepth nodes 0 (take (length nodes - 1) (drop 1 nodes))
leaf_at nodes d some k = subst (λ (l : List Node). IsDepth l 0 (take (length nodes - 1) (drop 1 nodes))) (sym (first_and nodes d some)) (leaf_told (get_or nodes 0 d) (take (length nodes - 1) (drop 1 nodes)) k)

group_depth : (n : Node) (inner : List Node) (told end : ℕ) (rest : List Node) (at index : ℕ) (key : Span) (t : Tree) (behind : List Node)
    → holds_others n.kind ≡ true → (n.children ≡ 0 → ⊥) → ArePassed inner n.children told end rest → Fits t → depth t ≤ MOST_DEEP → n ∷ inner ≡ tree_nodes at index key t ++ behind → (told + 1 ≡ depth t) × (rest ≡ behind)
group_depth n inner told end rest at index key (leaf kind s) behind k some a f deep e =
    let h = head_is n _ inner _ e in
    absurd (true_or (holds_others kind) (ap (λ (m : Node). holds_others m.kind) (sym h.0) ∙ k) (not_leaf kind s f))
group_depth n inner told end rest at index key (empty shape g) behind k some a f deep e =
    let h = head_is n _ inner _ e in
    absurd (some (ap (λ (m : Node). m.children) h.0))
group_depth n inner told end rest at index key (group shape ps) behind k some a f deep e =
    let h = head_is n _ inner _ e in
    let p = a (at + 1) (index + 1) shape ps behind (record { listed = h.1; fits = f; shallow = omega (arith, deep) }) (ap (λ (m : Node). m.children) h.0) in
    (omega (arith, p.0), p.2)

shallow_told : (told saturated d : ℕ) → saturated ≡ min (told + 1) 255 → told + 1 ≡ d → d ≤ MOST_DEEP → saturated ≡ d
shallow_told told saturated d s e deep = omega arith

pub group_at : (nodes : List Node) (d : Node) (told saturated end : ℕ) (rest : List Node) → 1 ≤ length nodes → holds_others (get_or nodes 0 d).kind ≡ true → ((get_or nodes 0 d).children ≡ 0 → ⊥)
    → ArePassed (take (length nodes - 1) (drop 1 nodes)) (get_or nodes 0 d).children told end rest → saturated ≡ min (told + 1) 255 → IsDepth nodes saturated rest
group_at nodes d told saturated end rest some k parts a s at index key t behind l =
    let g = group_depth (get_or nodes 0 d) (take (length nodes - 1) (drop 1 nodes)) told end rest at index key t behind k parts a l.fits l.shallow (sym (first_and nodes d some) ∙ l.listed) in
    (shallow_told told saturated (depth t) s g.0 l.shallow, g.1)

empty_depth : (n : Node) (inner : List Node) (at index : ℕ) (key : Span) (t : Tree) (behind : List Node) → holds_others n.kind ≡ true → n.children ≡ 0 → Fits t → n ∷ inner ≡ tree_nodes at index key t ++ behind → (1 ≡ depth t) × (inner ≡ behind)
empty_depth n inner at index key (leaf kind s) behind k none f e =
    let h = head_is n _ inner _ e in
    absurd (true_or (holds_others kind) (ap (λ (m : Node). holds_others m.kind) (sym h.0) ∙ k) (not_leaf kind s f))
empty_depth n inner at index key (empty shape g) behind k none f e = (refl, cc)
empty_depth n inner at index key (group shape ps) behind k none f e =
    let h = head_is n _ inner _ e in
    absurd (omega (arith, some_parts ps, ap (λ (m : Node). m.children) h.0, none))

pub empty_at : (nodes : List Node) (d : Node) → 1 ≤ length nodes → holds_others (get_or nodes 0 d).kind ≡ true → (get_or nodes 0 d).children ≡ 0 → IsDepth nodes 1 (take (length nodes - 1) (drop 1 nodes))
empty_at nodes d some k none at index key t behind l = empty_depth (get_or nodes 0 d) (take (length nodes - 1) (drop 1 nodes)) at index key t behind k none l.fits (sym (first_and nodes d some) ∙ l.listed)

pub max_is : (a b : ℕ) → ord_max nat_cmp a b ≡ max a b
max_is a b = grind (arith, nat_tests)
