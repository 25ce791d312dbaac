-- From one part to the next by the list of nodes.
use Rattle.std.proofs.Common.{◌≡◌, ℕ, suc, ◌+◌, ◌-◌, ◌<◌, ◌≤◌, List, [], ◌∷◌, ◌++◌, length, get_or, take, drop, Option, Some, None, ◌⊎◌, inl, inr, refl, sym, ap, subst, ◌∙◌, arith, append_assoc, length-append}
use Rattle.json_spell.specs.declared.node.Node.{Node}
use Rattle.json_spell.specs.declared.node.Span.{Span}
use Rattle.json_model.specs.declared.kinds.Shape.{Shape}
use Rattle.json_model.specs.declared.kinds.Shape.TheVariants as shapes
use Rattle.json_model.specs.Decoding.{StandsFor}
use Rattle.std.proofs.lemmas.List.{take_at, drop_at}
use Rattle.json_model.specs.Grammar.{IsString}
use Rattle.json_model.specs.Spelled.{Head, plain, keyed, Tree, leaf, empty, group, Parts, last, more, text, head_text, parts_text, HeadFits, PartsFit}
use Rattle.json_spell.specs.Nodes.{key_span, tree_nodes, parts_nodes}
use Rattle.json_model.specs.Spelled.{size, parts_size}
use Rattle.json_spell.proofs.Loops.{nodes_size}
use Rattle.json_model.specs.Follow.{IsCalled, IsFirstCalled}
use Rattle.subdoc_path.specs.Standing.{StandsParts, Answers}

-- the first part, and what is behind it
abbrev pub head_of : Parts → Head
head_of (last h t g) = h
head_of (more h t g ps) = h

abbrev pub tree_of : Parts → Tree
tree_of (last h t g) = t
tree_of (more h t g ps) = t

-- the first node of a tree
abbrev pub node_of : ℕ → ℕ → Span → Tree → Node
node_of at index key t = get_or (tree_nodes at index key t) 0 (record { kind = Rattle.json_model.specs.declared.kinds.Kind.TheVariants.Null; from = 0; to = 0; key_from = 0; key_to = 0; children = 0; after = 0 })

-- what a node says of its tree
pub record Says (n : Node) (at index : ℕ) (key : Span) (t : Tree) : Type 0 where
  pub from : n.from ≡ at
  pub to : n.to ≡ at + length (text t)
  pub key_from : n.key_from ≡ key.from
  pub key_to : n.key_to ≡ key.to
  pub after : n.after ≡ index + size t

-- a list begins with this node
pub record Begins (nodes : List Node) (n : Node) : Type 0 where
  pub rest : List Node
  pub whole : nodes ≡ n ∷ rest

pub tree_says : (at index : ℕ) (key : Span) (t : Tree) → (n : Node) × Begins (tree_nodes at index key t) n × Says n at index key t
tree_says at index key (leaf kind s) = (_, record { rest = []; whole = refl }, record { from = refl; to = refl; key_from = refl; key_to = refl; after = refl })
tree_says at index key (empty shape g) = (_, record { rest = []; whole = refl }, record { from = refl; to = omega (arith, length-append g); key_from = refl; key_to = refl; after = refl })
tree_says at index key (group shape ps) = (_, record { rest = parts_nodes (at + 1) (index + 1) ps; whole = refl }, record { from = refl; to = omega (arith, length-append (parts_text ps)); key_from = refl; key_to = refl; after = omega arith })

-- ---- the node at the front

nth_above : (above : List Node) (n : Node) (rest : List Node) (d : Node) → get_or (above ++ n ∷ rest) (length above) d ≡ n
nth_above [] n rest d = refl
nth_above (x ∷ above) n rest d = nth_above above n rest d

-- a list of parts begins with its first part's values
abbrev pub behind_first : ℕ → ℕ → Parts → List Node
behind_first at index (last h t g) = []
behind_first at index (more h t g ps) = parts_nodes (at + (length (head_text h) + (length (text t) + (length g + 1)))) (index + size t) ps

parts_split : (at index : ℕ) (ps : Parts) → parts_nodes at index ps ≡ tree_nodes (at + length (head_text (head_of ps))) index (key_span at (head_of ps)) (tree_of ps) ++ behind_first at index ps
parts_split at index (last h t g) = sym (append_none (tree_nodes (at + length (head_text h)) index (key_span at h) t))
  where
    append_none : (l : List Node) → l ++ [] ≡ l
    append_none [] = refl
    append_none (x ∷ l) = ap (λ m. x ∷ m) (append_none l)
parts_split at index (more h t g ps) = refl

-- what the list has at the first part's place
pub record FirstNode (nodes : List Node) (at index : ℕ) (ps : Parts) : Type 0 where
  pub node : Node
  pub is : (d : Node) → get_or nodes index d ≡ node
  pub within : index < length nodes
  pub says : Says node (at + length (head_text (head_of ps))) index (key_span at (head_of ps)) (tree_of ps)

pub first_node : (bytes : List ℕ) (nodes : List Node) (at index : ℕ) (shape : Shape) (ps : Parts) → StandsParts bytes nodes at index shape ps → FirstNode nodes at index ps
first_node bytes nodes at index shape ps s =
    let t = tree_says (at + length (head_text (head_of ps))) index (key_span at (head_of ps)) (tree_of ps) in
    let whole : nodes ≡ s.above ++ t.0 ∷ (t.1.rest ++ behind_first at index ps ++ s.below) =
    s.listed ∙ ap (λ l. s.above ++ (l ++ s.below)) (parts_split at index ps ∙ ap (λ l. l ++ behind_first at index ps) t.1.whole) in
    record {
      node = t.0;
      is = λ d. ap (λ l. get_or l index d) whole ∙ ap (λ (i : ℕ). get_or (s.above ++ t.0 ∷ (t.1.rest ++ behind_first at index ps ++ s.below)) i d) (sym s.index_is) ∙ nth_above s.above t.0 (t.1.rest ++ behind_first at index ps ++ s.below) d;
      within = omega (arith, ap (λ (l : List Node). length l) whole, length-append s.above (t.0 ∷ (t.1.rest ++ behind_first at index ps ++ s.below)), s.index_is);
      says = t.2;
    }

-- ---- the parts behind the first

pub next_parts : (bytes : List ℕ) (nodes : List Node) (at index : ℕ) (shape : Shape) (h : Head) (t : Tree) (g : List ℕ) (ps : Parts) → StandsParts bytes nodes at index shape (more h t g ps)
    → StandsParts bytes nodes (at + (length (head_text h) + (length (text t) + (length g + 1)))) (index + size t) shape ps
next_parts bytes nodes at index shape h t g ps s =
    let before : List ℕ = head_text h ++ (text t ++ (g ++ 0x2c ∷ [])) in
    let mine : List Node = tree_nodes (at + length (head_text h)) index (key_span at h) t in
    let rest : List Node = parts_nodes (at + (length (head_text h) + (length (text t) + (length g + 1)))) (index + size t) ps in
    record {
      fits = s.fits.3;
      front = s.front ++ before;
      back = s.back;
      above = s.above ++ mine;
      below = s.below;
      spelled = s.spelled ∙ simp append_assoc;
      at_is = omega (arith, length-append s.front before, length-append (head_text h) (text t ++ (g ++ 0x2c ∷ [])), length-append (text t) (g ++ 0x2c ∷ []), length-append g (0x2c ∷ []), s.at_is);
      listed = s.listed ∙ ap (λ l. s.above ++ l) (append_assoc mine rest s.below) ∙ sym (append_assoc s.above mine (rest ++ s.below));
      index_is = omega (arith, length-append s.above mine, nodes_size (at + length (head_text h)) index (key_span at h) t, s.index_is);
    }

-- ---- answers

pub answers_first : (name : List ℕ) (index : ℕ) (ps : Parts) → IsCalled name (head_of ps) → Answers name index ps (Some index)
answers_first name index (last h t g) is = (0, t, (is, refl), refl, omega arith)
answers_first name index (more h t g ps) is = (0, t, inl (is, refl), refl, omega arith)

answers_last : (name : List ℕ) (index : ℕ) (h : Head) (t : Tree) (g : List ℕ) → (IsCalled name h → ⊥) → Answers name index (last h t g) None
answers_last name index h t g isnt k first = isnt first.0

answers_more : (name : List ℕ) (index : ℕ) (h : Head) (t : Tree) (g : List ℕ) (ps : Parts) (r : Option ℕ) → (IsCalled name h → ⊥) → Answers name (index + size t) ps r → Answers name index (more h t g ps) r
answers_more name index h t g ps None isnt none = λ k first. by_first k first
  where
    by_first : (k : ℕ) → IsFirstCalled name (more h t g ps) k → ⊥
    by_first k (inl (is, z)) = isnt is
    by_first k (inr (isnot, j, e, first)) = none j first
answers_more name index h t g ps (Some i) isnt (k, tree, first, c, e) = (suc k, tree, inr (isnt, k, refl, first), c, omega (arith, e))

-- ---- the walk

-- What is left of the parts: some, whose answer is that of all; or none, and no part has the name.
abbrev pub Going : List ℕ → List Node → Shape → List ℕ → ℕ → ℕ → Parts → ℕ → Type 0
Going bytes nodes shape name from end ps next =
    ((at : ℕ) × (qs : Parts) × StandsParts bytes nodes at next shape qs × (end ≡ next + parts_size qs) × ((r : Option ℕ) → Answers name next qs r → Answers name from ps r))
    ⊎ ((end ≤ next) × Answers name from ps None)

pub going_init : (bytes : List ℕ) (nodes : List Node) (shape : Shape) (name : List ℕ) (from end at : ℕ) (ps : Parts) → StandsParts bytes nodes at from shape ps → end ≡ from + parts_size ps → Going bytes nodes shape name from end ps from
going_init bytes nodes shape name from end at ps s e = inl (at, ps, s, e, λ r a. a)

step_parts : (bytes : List ℕ) (nodes : List Node) (shape : Shape) (name : List ℕ) (from end next after at : ℕ) (ps qs : Parts) → StandsParts bytes nodes at next shape qs → end ≡ next + parts_size qs → ((r : Option ℕ) → Answers name next qs r → Answers name from ps r)
    → after ≡ next + size (tree_of qs) → (IsCalled name (head_of qs) → ⊥) → Going bytes nodes shape name from end ps after
step_parts bytes nodes shape name from end next after at ps (last h t g) s e answers a isnt = inr (omega (arith, e, a), answers None (answers_last name next h t g isnt))
step_parts bytes nodes shape name from end next after at ps (more h t g qs) s e answers a isnt =
    let place : ℕ = at + (length (head_text h) + (length (text t) + (length g + 1))) in
    inl (place, qs, subst (λ (i : ℕ). StandsParts bytes nodes place i shape qs) (sym a) (next_parts bytes nodes at next shape h t g qs s), omega (arith, e, a), λ r x. answers r (answers_more name next h t g qs r isnt (subst (λ (i : ℕ). Answers name i qs r) a x)))

-- ---- keys

abbrev pub key_of : Head → List ℕ
key_of (plain g) = []
key_of (keyed g k b v) = k

-- where a member's key is
pub record KeyStands (bytes : List ℕ) (from to : ℕ) (k : List ℕ) : Type 0 where
  pub slice : take (to - from) (drop from bytes) ≡ k
  pub ordered : from ≤ to
  pub within : to ≤ length bytes
  pub fits : IsString k

cut_out : (a k r bytes : List ℕ) (from to : ℕ) → bytes ≡ a ++ (k ++ r) → from ≡ length a → to ≡ length a + length k → IsString k → KeyStands bytes from to k
cut_out a k r bytes from to e f t is =
    let n : to - from ≡ length k = omega (arith, f, t) in
    let d : drop from bytes ≡ k ++ r = ap (λ (l : List ℕ). drop from l) e ∙ drop_at a (k ++ r) from (sym f) in
    record {
      slice = ap (λ l. take (to - from) l) d ∙ take_at k r (to - from) (sym n);
      ordered = omega (arith, f, t);
      within = omega (arith, t, ap (λ (l : List ℕ). length l) e, length-append a (k ++ r), length-append k r);
      fits = is;
    }

head_key : (bytes front back : List ℕ) (at : ℕ) (h : Head) (rest : List ℕ) → HeadFits shapes.Object h → bytes ≡ front ++ (head_text h ++ (rest ++ back)) → length front ≡ at → KeyStands bytes (key_span at h).from (key_span at h).to (key_of h)
head_key bytes front back at (plain g) rest f e l = absurd f
head_key bytes front back at (keyed g k b v) rest f e l =
    let whole : bytes ≡ (front ++ g) ++ (k ++ ((b ++ 0x3a ∷ v) ++ (rest ++ back))) = e ∙ simp append_assoc in
    cut_out (front ++ g) k ((b ++ 0x3a ∷ v) ++ (rest ++ back)) bytes (at + length g) (at + length g + length k) whole (omega (arith, length-append front g, l)) (omega (arith, length-append front g, l)) f.1

pub parts_key : (bytes : List ℕ) (nodes : List Node) (at index : ℕ) (ps : Parts) → StandsParts bytes nodes at index shapes.Object ps → KeyStands bytes (key_span at (head_of ps)).from (key_span at (head_of ps)).to (key_of (head_of ps))
parts_key bytes nodes at index (last h t g) s = head_key bytes s.front s.back at h (text t ++ g) s.fits.0 (s.spelled ∙ ap (λ l. s.front ++ l) (append_assoc (head_text h) (text t ++ g) s.back)) s.at_is
parts_key bytes nodes at index (more h t g ps) s = head_key bytes s.front s.back at h (text t ++ (g ++ 0x2c ∷ parts_text ps)) s.fits.0 (s.spelled ∙ ap (λ l. s.front ++ l) (append_assoc (head_text h) (text t ++ (g ++ 0x2c ∷ parts_text ps)) s.back)) s.at_is

pub called_is : (name : List ℕ) (shape : Shape) (ps : Parts) → PartsFit shapes.Object ps → StandsFor (key_of (head_of ps)) name → IsCalled name (head_of ps)
called_is name shape (last (plain g) t b) f s = absurd f.0
called_is name shape (last (keyed g k c v) t b) f s = s
called_is name shape (more (plain g) t b ps) f s = absurd f.0
called_is name shape (more (keyed g k c v) t b ps) f s = s

pub called_for : (name : List ℕ) (h : Head) → IsCalled name h → StandsFor (key_of h) name
called_for name (plain g) s = absurd s
called_for name (keyed g k b v) s = s

-- each tree has a value
pub size_some : (t : Tree) → 1 ≤ size t
size_some (leaf kind s) = omega arith
size_some (empty shape g) = omega arith
size_some (group shape ps) = omega arith

-- the key's bytes that a node tells
pub record KeyFits (bytes : List ℕ) (n : Node) : Type 0 where
  pub ordered : n.key_from ≤ n.key_to
  pub within : n.key_to ≤ length bytes
  pub fits : IsString (take (n.key_to - n.key_from) (drop n.key_from bytes))

-- ---- what the loop needs

pub record Looked (bytes : List ℕ) (nodes : List Node) (next : ℕ) (qs : Parts) : Type 0 where
  pub node : Node
  pub is : (d : Node) → get_or nodes next d ≡ node
  pub within : next < length nodes
  pub after : node.after ≡ next + size (tree_of qs)
  pub key : KeyStands bytes node.key_from node.key_to (key_of (head_of qs))

pub look : (bytes : List ℕ) (nodes : List Node) (at next : ℕ) (qs : Parts) → StandsParts bytes nodes at next shapes.Object qs → Looked bytes nodes next qs
look bytes nodes at next qs s =
    let f = first_node bytes nodes at next shapes.Object qs s in
    let k = parts_key bytes nodes at next qs s in
    record { node = f.node; is = f.is; within = f.within; after = f.says.after; key = rw (f.says.key_from, f.says.key_to) k }

-- the parts that are left, where some are
pub left_parts : (bytes : List ℕ) (nodes : List Node) (name : List ℕ) (from end : ℕ) (ps : Parts) (next : ℕ) → Going bytes nodes shapes.Object name from end ps next → next < end
    → (at : ℕ) × (qs : Parts) × StandsParts bytes nodes at next shapes.Object qs × (end ≡ next + parts_size qs) × ((r : Option ℕ) → Answers name next qs r → Answers name from ps r)
left_parts bytes nodes name from end ps next (inl g) less = g
left_parts bytes nodes name from end ps next (inr g) less = absurd (omega (arith, g.0, less))

pub left_none : (bytes : List ℕ) (nodes : List Node) (name : List ℕ) (from end : ℕ) (ps : Parts) (next : ℕ) → Going bytes nodes shapes.Object name from end ps next → end ≤ next → Answers name from ps None
left_none bytes nodes name from end ps next (inl (at, qs, s, e, g)) done = absurd (omega (arith, e, done, some qs))
  where
    some : (qs : Parts) → 1 ≤ parts_size qs
    some (last h t g) = size_some t
    some (more h t g ps) = omega (arith, size_some t)
left_none bytes nodes name from end ps next (inr g) done = g.1

-- a node that was looked at
pub looked : (bytes : List ℕ) (nodes : List Node) (name : List ℕ) (from end : ℕ) (ps : Parts) (next : ℕ) → Going bytes nodes shapes.Object name from end ps next → next < end → (qs : Parts) × Looked bytes nodes next qs
looked bytes nodes name from end ps next g less = let l = left_parts bytes nodes name from end ps next g less in (l.1, look bytes nodes l.0 next l.1 l.2)

pub found_here : (bytes : List ℕ) (nodes : List Node) (name : List ℕ) (from end : ℕ) (ps : Parts) (next : ℕ) (n : Node) (key : List ℕ) → Going bytes nodes shapes.Object name from end ps next → next < end
    → n ≡ get_or nodes next n → key ≡ take (n.key_to - n.key_from) (drop n.key_from bytes) → StandsFor key name → Answers name from ps (Some next)
found_here bytes nodes name from end ps next n key g less is k s =
    let l = left_parts bytes nodes name from end ps next g less in
    let f = look bytes nodes l.0 next l.1 l.2 in
    let same : n ≡ f.node = is ∙ f.is n in
    let key_is : key ≡ key_of (head_of l.1) = k ∙ ap (λ (m : Node). take (m.key_to - m.key_from) (drop m.key_from bytes)) same ∙ f.key.slice in
    l.4 (Some next) (answers_first name next l.1 (called_is name shapes.Object l.1 l.2.fits (subst (λ (x : List ℕ). StandsFor x name) key_is s)))

pub not_here : (bytes : List ℕ) (nodes : List Node) (name : List ℕ) (from end : ℕ) (ps : Parts) (next : ℕ) (n : Node) (key : List ℕ) → Going bytes nodes shapes.Object name from end ps next → next < end
    → n ≡ get_or nodes next n → key ≡ take (n.key_to - n.key_from) (drop n.key_from bytes) → (StandsFor key name → ⊥) → Going bytes nodes shapes.Object name from end ps n.after
not_here bytes nodes name from end ps next n key g less is k s =
    let l = left_parts bytes nodes name from end ps next g less in
    let f = look bytes nodes l.0 next l.1 l.2 in
    let same : n ≡ f.node = is ∙ f.is n in
    let key_is : key ≡ key_of (head_of l.1) = k ∙ ap (λ (m : Node). take (m.key_to - m.key_from) (drop m.key_from bytes)) same ∙ f.key.slice in
    step_parts bytes nodes shapes.Object name from end next n.after l.0 ps l.1 l.2 l.3 l.4 (ap (λ (m : Node). m.after) same ∙ f.after) (λ c. s (subst (λ (x : List ℕ). StandsFor x name) (sym key_is) (called_for name (head_of l.1) c)))

pub after_more : (bytes : List ℕ) (nodes : List Node) (next : ℕ) (qs : Parts) (n : Node) → Looked bytes nodes next qs → n ≡ get_or nodes next n → next < n.after
after_more bytes nodes next qs n f is = let same : n ≡ f.node = is ∙ f.is n in omega (arith, ap (λ (m : Node). m.after) same, f.after, size_some (tree_of qs))

pub key_fits : (bytes : List ℕ) (nodes : List Node) (next : ℕ) (qs : Parts) (n : Node) → Looked bytes nodes next qs → n ≡ get_or nodes next n → KeyFits bytes n
key_fits bytes nodes next qs n f is =
    let same : n ≡ f.node = is ∙ f.is n in
    subst (λ (m : Node). KeyFits bytes m) (sym same) (record { ordered = f.key.ordered; within = f.key.within; fits = subst (λ (l : List ℕ). IsString l) (sym f.key.slice) f.key.fits })
