-- The bytes of the value at the end of a trail.
use Rattle.std.proofs.Common.{◌≡◌, ℕ, zero, suc, ◌+◌, ◌-◌, ◌<◌, List, [], ◌∷◌, ◌++◌, length, take, drop, get_or, Option, Some, None, refl, sym, ap, subst, ◌∙◌, arith, append_assoc, length-append}
use Rattle.std.specs.Prelude.{option_map, unwrap_or}
use Rattle.std.proofs.lemmas.List.{take_at, drop_at}
use Rattle.json_model.specs.declared.TheConstants.{MOST_DEEP}
use Rattle.json_spell.specs.declared.node.Node.{Node}
use Rattle.json_spell.specs.declared.node.Span.{Span}
use Rattle.json_model.specs.declared.kinds.Shape.{Shape}
use Rattle.json_model.specs.Spelled.{Head, Tree, group, Parts, last, more, opening, closing, text, head_text, parts_text, size, parts_size, count, Document, IsText}
use Rattle.json_model.specs.Follow.{child, earlier, place}
use Rattle.json_model.specs.Moves.{at_part, at_trail}
use Rattle.json_model.specs.Splices.{Reaches, here, there}
use Rattle.json_spell.specs.Nodes.{kind_of, key_span, tree_nodes, parts_nodes, document_nodes}
use Rattle.json_spell.proofs.Loops.{nodes_size}
use Rattle.json_spell.proofs.Exact.{one_text}
use Rattle.subdoc_path.specs.Cutting.{IsCut}
use Rattle.subdoc_path.proofs.Walking.{tree_says}

append_none : {A : Type 0} (l : List A) → l ++ [] ≡ l
append_none [] = refl
append_none (x ∷ l) = ap (λ m. x ∷ m) (append_none l)

some_tree : (t u : Tree) → Some t ≡ Some u → t ≡ u
some_tree t u e = cc

none_tree : (t : Tree) → None ≡ Some t → ⊥
none_tree t e = cc

-- ---- a value among parts

-- where the value of one part stands among those of all
pub record Among (at index : ℕ) (ps : Parts) (k : ℕ) (u : Tree) : Type 0 where
  pub front : List ℕ
  pub back : List ℕ
  pub above : List Node
  pub below : List Node
  pub key : Span
  pub texted : (g : Tree → Tree) → parts_text (at_part k g ps) ≡ front ++ (text (g u) ++ back)
  pub listed : parts_nodes at index ps ≡ above ++ (tree_nodes (at + length front) (index + length above) key u ++ below)
  pub earlier_is : length above ≡ earlier ps k

same_place : (at index j : ℕ) (key : Span) (u : Tree) → j ≡ index → tree_nodes at index key u ≡ tree_nodes at j key u
same_place at index j key u e = ap (λ (i : ℕ). tree_nodes at i key u) (sym e)

same_at : (at a index : ℕ) (key : Span) (u : Tree) → a ≡ at → tree_nodes at index key u ≡ tree_nodes a index key u
same_at at a index key u e = ap (λ (i : ℕ). tree_nodes i index key u) (sym e)

among_last : (at index : ℕ) (h : Head) (t : Tree) (g : List ℕ) → Among at index (last h t g) zero t
among_last at index h t g =
    let a : ℕ = at + length (head_text h) in
    record {
      front = head_text h;
      back = g;
      above = [];
      below = [];
      key = key_span at h;
      texted = λ f. refl;
      listed = same_place a index (index + 0) (key_span at h) t (omega arith) ∙ sym (append_none (tree_nodes a (index + 0) (key_span at h) t));
      earlier_is = refl;
    }

among_first : (at index : ℕ) (h : Head) (t : Tree) (g : List ℕ) (ps : Parts) → Among at index (more h t g ps) zero t
among_first at index h t g ps =
    let a : ℕ = at + length (head_text h) in
    let rest : List Node = parts_nodes (at + (length (head_text h) + (length (text t) + (length g + 1)))) (index + size t) ps in
    record {
      front = head_text h;
      back = g ++ 0x2c ∷ parts_text ps;
      above = [];
      below = rest;
      key = key_span at h;
      texted = λ f. refl;
      listed = ap (λ (l : List Node). l ++ rest) (same_place a index (index + 0) (key_span at h) t (omega arith));
      earlier_is = refl;
    }

among_later : (at index : ℕ) (h : Head) (t : Tree) (g : List ℕ) (ps : Parts) (k : ℕ) (u : Tree) → Among (at + (length (head_text h) + (length (text t) + (length g + 1)))) (index + size t) ps k u → Among at index (more h t g ps) (suc k) u
among_later at index h t g ps k u a =
    let next : ℕ = at + (length (head_text h) + (length (text t) + (length g + 1))) in
    let mine : List Node = tree_nodes (at + length (head_text h)) index (key_span at h) t in
    let front : List ℕ = head_text h ++ (text t ++ (g ++ 0x2c ∷ a.front)) in
    let above : List Node = mine ++ a.above in
    let many : length mine ≡ size t = nodes_size (at + length (head_text h)) index (key_span at h) t in
    let long : length front ≡ length (head_text h) + (length (text t) + (length g + (1 + length a.front))) =
    omega (arith, length-append (head_text h) (text t ++ (g ++ 0x2c ∷ a.front)), length-append (text t) (g ++ 0x2c ∷ a.front), length-append g (0x2c ∷ a.front)) in
    let tall : length above ≡ size t + length a.above = omega (arith, length-append mine a.above, many) in
    record {
      front = front;
      back = a.back;
      above = above;
      below = a.below;
      key = a.key;
      texted = λ f. ap (λ (l : List ℕ). head_text h ++ (text t ++ (g ++ 0x2c ∷ l))) (a.texted f) ∙ simp append_assoc;
      listed =
          ap (λ (l : List Node). mine ++ l) (a.listed ∙ ap (λ (l : List Node). a.above ++ (l ++ a.below))
          (same_at (next + length a.front) (at + length front) (index + size t + length a.above) a.key u (omega (arith, long)) ∙ same_place (at + length front) (index + size t + length a.above) (index + length above) a.key u (omega (arith, tall))))
          ∙ sym (append_assoc mine a.above (tree_nodes (at + length front) (index + length above) a.key u ++ a.below));
      earlier_is = omega (arith, tall, a.earlier_is);
    }

pub among : (at index : ℕ) (ps : Parts) (k : ℕ) (u : Tree) → child ps k ≡ Some u → Among at index ps k u
among at index (last h t g) zero u e = subst (λ (v : Tree). Among at index (last h t g) zero v) (some_tree t u e) (among_last at index h t g)
among at index (last h t g) (suc k) u e = absurd (none_tree u e)
among at index (more h t g ps) zero u e = subst (λ (v : Tree). Among at index (more h t g ps) zero v) (some_tree t u e) (among_first at index h t g ps)
among at index (more h t g ps) (suc k) u e = among_later at index h t g ps k u (among (at + (length (head_text h) + (length (text t) + (length g + 1)))) (index + size t) ps k u e)

-- ---- a value at the end of a trail

-- where a value stands in the whole text and list
pub record Placed (nodes : List Node) (front back : List ℕ) (index : ℕ) (t : Tree) : Type 0 where
  pub above : List Node
  pub below : List Node
  pub key : Span
  pub listed : nodes ≡ above ++ (tree_nodes (length front) index key t ++ below)
  pub index_is : length above ≡ index

-- where the value at the end of a trail stands, and what becomes of the text of a tree when it becomes another
pub record Trailed (nodes : List Node) (front back : List ℕ) (index : ℕ) (trail : List ℕ) (root t : Tree) : Type 0 where
  pub before : List ℕ
  pub behind : List ℕ
  pub placed : Placed nodes before behind (index + place trail root) t
  pub texted : (f : Tree → Tree) → front ++ (text (at_trail trail f root) ++ back) ≡ before ++ (text (f t) ++ behind)

place_there : (k : ℕ) (ks : List ℕ) (shape : Shape) (ps : Parts) (u : Tree) → child ps k ≡ Some u → place (k ∷ ks) (group shape ps) ≡ suc (earlier ps k + place ks u)
place_there k ks shape ps u e = ap (λ (x : Option Tree). suc (earlier ps k + unwrap_or (option_map (place ks) x) 0)) e

inner_placed : (nodes : List Node) (front back : List ℕ) (index : ℕ) (shape : Shape) (ps : Parts) (k : ℕ) (u : Tree) → Placed nodes front back index (group shape ps) → (a : Among (length front + 1) (index + 1) ps k u)
    → Placed nodes (front ++ (opening shape ∷ a.front)) (a.back ++ (closing shape ∷ back)) (index + suc (earlier ps k)) u
inner_placed nodes front back index shape ps k u p a =
    let first : Node = record { kind = kind_of shape; from = length front; to = length front + (length (parts_text ps) + 2); key_from = p.key.from; key_to = p.key.to; children = count ps; after = index + (parts_size ps + 1) } in
    let before : List ℕ = front ++ (opening shape ∷ a.front) in
    let long : length before ≡ length front + 1 + length a.front = omega (arith, length-append front (opening shape ∷ a.front)) in
    let node : tree_nodes (length front + 1 + length a.front) (index + 1 + length a.above) a.key u ≡ tree_nodes (length before) (index + suc (earlier ps k)) a.key u =
    same_at (length front + 1 + length a.front) (length before) (index + 1 + length a.above) a.key u long ∙ same_place (length before) (index + 1 + length a.above) (index + suc (earlier ps k)) a.key u (omega (arith, a.earlier_is)) in
    let tree : List Node = tree_nodes (length before) (index + suc (earlier ps k)) a.key u in
    record {
      above = p.above ++ (first ∷ a.above);
      below = a.below ++ p.below;
      key = a.key;
      listed = p.listed ∙ ap (λ (l : List Node). p.above ++ (first ∷ (l ++ p.below))) (a.listed ∙ ap (λ (l : List Node). a.above ++ (l ++ a.below)) node) ∙ simp append_assoc;
      index_is = omega (arith, length-append p.above (first ∷ a.above), p.index_is, a.earlier_is);
    }

pub trailed : (nodes : List Node) (front back : List ℕ) (index : ℕ) (trail : List ℕ) (root t : Tree) → Reaches trail root t → Placed nodes front back index root → Trailed nodes front back index trail root t
trailed nodes front back index trail root t (here u) p =
    record { before = front; behind = back; placed = subst (λ (i : ℕ). Placed nodes front back i u) (omega arith) p; texted = λ f. refl }
trailed nodes front back index trail root t (there k ks shape ps u v e r) p =
    let a = among (length front + 1) (index + 1) ps k u e in
    let before : List ℕ = front ++ (opening shape ∷ a.front) in
    let behind : List ℕ = a.back ++ (closing shape ∷ back) in
    let i = trailed nodes before behind (index + suc (earlier ps k)) ks u v r (inner_placed nodes front back index shape ps k u p a) in
    record {
      before = i.before;
      behind = i.behind;
      placed = subst (λ (n : ℕ). Placed nodes i.before i.behind n v) (omega (arith, place_there k ks shape ps u e)) i.placed;
      texted = λ f.
          ap (λ (l : List ℕ). front ++ ((opening shape ∷ (l ++ closing shape ∷ [])) ++ back)) (a.texted (at_trail ks f)) ∙ around front back (opening shape) (closing shape) a.front (text (at_trail ks f u)) a.back ∙ i.texted f;
    }
  where
    around : (front back : List ℕ) (x y : ℕ) (inner middle behind : List ℕ) → front ++ ((x ∷ ((inner ++ (middle ++ behind)) ++ y ∷ [])) ++ back) ≡ (front ++ (x ∷ inner)) ++ (middle ++ (behind ++ (y ∷ back)))
    around front back x y inner middle behind = simp append_assoc

-- ---- the node of a value

nth_above : (above : List Node) (n : Node) (rest : List Node) (d : Node) → get_or (above ++ n ∷ rest) (length above) d ≡ n
nth_above [] n rest d = refl
nth_above (x ∷ above) n rest d = nth_above above n rest d

-- a trail that leads nowhere in the tree itself
at_itself : (trail : List ℕ) (root t : Tree) → Reaches trail root t → at_trail trail (λ v. v) root ≡ root
at_itself trail root t (here u) = refl
at_itself trail root t (there k ks shape ps u v e r) = ap (λ (qs : Parts). group shape qs) (part_itself k (at_trail ks (λ v. v)) ps u e (at_itself ks u v r))
  where
    part_itself : (k : ℕ) (g : Tree → Tree) (ps : Parts) (u : Tree) → child ps k ≡ Some u → g u ≡ u → at_part k g ps ≡ ps
    part_itself zero g (last h t gap) u e same = ap (λ (x : Tree). last h x gap) (ap g (some_tree t u e) ∙ same ∙ sym (some_tree t u e))
    part_itself (suc k) g (last h t gap) u e same = refl
    part_itself zero g (more h t gap ps) u e same = ap (λ (x : Tree). more h x gap ps) (ap g (some_tree t u e) ∙ same ∙ sym (some_tree t u e))
    part_itself (suc k) g (more h t gap ps) u e same = ap (λ (qs : Parts). more h t gap qs) (part_itself k g ps u e same)

abbrev no_key : Span
no_key = record { from = 0; to = 0 }

placed_root : (nodes : List Node) (d : Document) → nodes ≡ document_nodes d → Placed nodes d.before d.after 0 d.tree
placed_root nodes d e = record { above = []; below = []; key = no_key; listed = e ∙ sym (append_none (tree_nodes (length d.before) 0 no_key d.tree)); index_is = refl }

-- what the list has at a value's place
pub record NodeOf (nodes : List Node) (front : List ℕ) (index : ℕ) (t : Tree) : Type 0 where
  pub node : Node
  pub from : node.from ≡ length front
  pub to : node.to ≡ length front + length (text t)
  pub is : (m : Node) → get_or nodes index m ≡ node
  pub within : index < length nodes

node_of : (nodes : List Node) (front back : List ℕ) (index : ℕ) (t : Tree) → Placed nodes front back index t → NodeOf nodes front index t
node_of nodes front back index t p =
    let s = tree_says (length front) index p.key t in
    let rest : List Node = s.1.rest ++ p.below in
    let whole : nodes ≡ p.above ++ (s.0 ∷ rest) = p.listed ∙ ap (λ (l : List Node). p.above ++ (l ++ p.below)) s.1.whole in
    record {
      node = s.0;
      from = s.2.from;
      to = s.2.to;
      is = λ m. ap (λ (l : List Node). get_or l index m) whole ∙ ap (λ (i : ℕ). get_or (p.above ++ (s.0 ∷ rest)) i m) (sym p.index_is) ∙ nth_above p.above s.0 rest m;
      within = omega (arith, ap (λ (l : List Node). length l) whole, length-append p.above (s.0 ∷ rest), p.index_is);
    }

cut_out : (bytes : List ℕ) (d : Document) (trail : List ℕ) (t : Tree) (from to : ℕ) (front back : List ℕ) → bytes ≡ front ++ (text t ++ back) → from ≡ length front → to ≡ length front + length (text t)
    → ((f : Tree → Tree) → d.before ++ (text (at_trail trail f d.tree) ++ d.after) ≡ front ++ (text (f t) ++ back)) → IsCut bytes d trail t (record { from = from; to = to })
cut_out bytes d trail t from to front back whole f u texted =
    let n : to - from ≡ length (text t) = omega (arith, f, u) in
    let before : take from bytes ≡ front = ap (λ (l : List ℕ). take from l) whole ∙ take_at front (text t ++ back) from (sym f) in
    let rest : drop from bytes ≡ text t ++ back = ap (λ (l : List ℕ). drop from l) whole ∙ drop_at front (text t ++ back) from (sym f) in
    let long : length (front ++ text t) ≡ to = omega (arith, length-append front (text t), u) in
    let behind : drop to bytes ≡ back = ap (λ (l : List ℕ). drop to l) (whole ∙ sym (append_assoc front (text t) back)) ∙ drop_at (front ++ text t) back to long in
    record {
      ordered = omega (arith, f, u);
      within = omega (arith, u, ap (λ (l : List ℕ). length l) whole, length-append front (text t ++ back), length-append (text t) back);
      inside = ap (λ (l : List ℕ). take (to - from) l) rest ∙ take_at (text t) back (to - from) (sym n);
      spliced = λ g. texted g ∙ ap (λ (l : List ℕ). l ++ (text (g t) ++ back)) (sym before) ∙ ap (λ (l : List ℕ). take from bytes ++ (text (g t) ++ l)) (sym behind);
    }

pub cut_there : (bytes : List ℕ) (nodes : List Node) (d : Document) (trail : List ℕ) (t : Tree) (index : ℕ) → nodes ≡ document_nodes d → Reaches trail d.tree t → index ≡ place trail d.tree → index < length nodes
cut_there bytes nodes d trail t index e r i =
    let tr = trailed nodes d.before d.after 0 trail d.tree t r (placed_root nodes d e) in
    let n = node_of nodes tr.before tr.behind (0 + place trail d.tree) t tr.placed in
    omega (arith, n.within, i)

pub cut_is : (bytes : List ℕ) (nodes : List Node) (d : Document) (trail : List ℕ) (t : Tree) (index : ℕ) (n : Node) → IsText MOST_DEEP d bytes → nodes ≡ document_nodes d → Reaches trail d.tree t → index ≡ place trail d.tree → n ≡ get_or nodes index n
    → IsCut bytes d trail t (record { from = n.from; to = n.to })
cut_is bytes nodes d trail t index n is e r i g =
    let tr = trailed nodes d.before d.after 0 trail d.tree t r (placed_root nodes d e) in
    let m = node_of nodes tr.before tr.behind (0 + place trail d.tree) t tr.placed in
    let at : 0 + place trail d.tree ≡ index = omega (arith, i) in
    let same : n ≡ m.node = g ∙ ap (λ (j : ℕ). get_or nodes j n) (sym at) ∙ m.is n in
    let from : n.from ≡ length tr.before = ap (λ (x : Node). x.from) same ∙ m.from in
    let to : n.to ≡ length tr.before + length (text t) = ap (λ (x : Node). x.to) same ∙ m.to in
    let whole : bytes ≡ tr.before ++ (text t ++ tr.behind) = is.spelled ∙ ap (λ (v : Tree). d.before ++ (text v ++ d.after)) (sym (at_itself trail d.tree t r)) ∙ tr.texted (λ v. v) in
    cut_out bytes d trail t n.from n.to tr.before tr.behind whole from to tr.texted

pub one_document : (bytes : List ℕ) (nodes : List Node) (d e : Document) → IsText MOST_DEEP d bytes → IsText MOST_DEEP e bytes → nodes ≡ document_nodes d → nodes ≡ document_nodes e
one_document bytes nodes d e a b n = n ∙ ap document_nodes (one_text MOST_DEEP bytes d e a b)
