-- Objects and arrays: what stands behind the bracket, and the node that is completed.
use Rattle.std.proofs.Common.{◌≡◌, ℕ, zero, suc, ◌+◌, ◌-◌, ◌<◌, ◌≤◌, List, [], ◌∷◌, ◌++◌, length, drop, Option, Some, None, Result, Ok, Err, refl, sym, ap, subst, ◌∙◌, arith, append_assoc, length-append, set, take, get_or}
use Rattle.std.proofs.lemmas.List.{set_at, take_all}
use Rattle.std.specs.Borrow.{Bor}
use Rattle.json_model.specs.declared.kinds.Kind.{Kind}
use Rattle.json_model.specs.declared.kinds.Kind.TheVariants as kinds
use Rattle.json_model.specs.declared.kinds.Shape.{Shape}
use Rattle.json_model.specs.declared.kinds.Shape.TheVariants as shapes
use Rattle.json_spell.specs.declared.node.Span.{Span}
use Rattle.json_spell.specs.declared.node.Node.{Node}
use Rattle.json_spell.specs.declared.tokens.Stop.{Stop}
use Rattle.json_spell.specs.declared.tokens.Stop.TheVariants as stops
use Rattle.json_model.specs.Spelled.{Tree, leaf, empty, group, Parts, closing, text, parts_text}
use Rattle.json_spell.specs.Nodes.{kind_of, tree_nodes, parts_nodes}
use Rattle.json_model.specs.Spelled.{parts_size, count}
use Rattle.json_spell.specs.Tokens.{gap, behind_gap, kind_at}
use Rattle.json_spell.specs.Reading.{Read, parts, grouped, closed, empty_or, group_at, by_kind, value_at, leaf_at, inner_nodes, children, shape_of, IsAt, Writes, WritesCount}
use Rattle.json_spell.proofs.Values.{fine, stop, value_took}
use Rattle.json_spell.proofs.Loops.{ToldParts, parts_nodes_size}

-- ---- behind the bracket

empty_at : (v : List ℕ → Read Tree) (shape : Shape) (bytes rest : List ℕ) → Some rest ≡ closed shape (behind_gap bytes) → group_at v shape bytes ≡ Ok (empty shape (gap bytes), rest)
unfolding group_at
empty_at v shape bytes rest e = ap (λ o. empty_or shape (gap bytes) o (grouped shape (parts v shape (suc (length bytes)) bytes))) (sym e)

parts_at : (v : List ℕ → Read Tree) (shape : Shape) (bytes : List ℕ) → None ≡ closed shape (behind_gap bytes) → group_at v shape bytes ≡ grouped shape (parts v shape (suc (length bytes)) bytes)
unfolding group_at
parts_at v shape bytes e = ap (λ o. empty_or shape (gap bytes) o (grouped shape (parts v shape (suc (length bytes)) bytes))) (sym e)

-- what is told of the reading behind a bracket
abbrev pub ToldInner : (List ℕ → Read Tree) → Shape → ℕ → List ℕ → List Node → List Node → Result (Bor (List ℕ) × ℕ) Stop → Type 0
ToldInner v shape end bytes old new r = WritesCount (group_at v shape bytes) (λ t. inner_nodes (end - length bytes) (length old) t) (λ t. children t) old new r

append_none : (l : List Node) → l ≡ l ++ []
append_none [] = refl
append_none (x ∷ l) = ap (λ m. x ∷ m) (append_none l)

pub inner_empty : (v : List ℕ → Read Tree) (shape : Shape) (end : ℕ) (bytes : List ℕ) (old : List Node) (rest : List ℕ) → Some rest ≡ closed shape (behind_gap bytes)
    → (t : Tree) × (group_at v shape bytes ≡ Ok (t, rest)) × (old ≡ old ++ inner_nodes (end - length bytes) (length old) t) × (0 ≡ children t)
inner_empty v shape end bytes old rest e = (empty shape (gap bytes), empty_at v shape bytes rest e, append_none old, refl)

pub inner_parts : (v : List ℕ → Read Tree) (shape : Shape) (end : ℕ) (bytes : List ℕ) (old new : List Node) (r : Result (Bor (List ℕ) × ℕ) Stop) → None ≡ closed shape (behind_gap bytes) → ToldParts v shape end bytes old new r → ToldInner v shape end bytes old new r
inner_parts v shape end bytes old new (Ok told) e (ps, read, made, many) = (group shape ps, parts_at v shape bytes e ∙ ap (grouped shape) read, made, many)
inner_parts v shape end bytes old new (Err (stops.Not n)) e read = parts_at v shape bytes e ∙ ap (grouped shape) read
inner_parts v shape end bytes old new (Err (stops.Deep n)) e read = parts_at v shape bytes e ∙ ap (grouped shape) read
inner_parts v shape end bytes old new (Err stops.NoMemory) e read = tt

-- ---- a value

pub value_deep : (room : ℕ) (shape : Shape) (bytes : List ℕ) → room ≡ 0 → IsAt (kind_of shape) bytes → value_at room bytes ≡ Err (stops.Deep (length bytes))
unfolding value_at
value_deep room shape bytes z (byte, behind, e, k) = ap (λ (n : ℕ). value_at n bytes) z ∙ ap (value_at 0) e ∙ by_shape shape k ∙ ap (λ (l : List ℕ). stop (stops.Deep (length l))) (sym e)
  where
    deep : Shape → Read Tree
    deep shape = stop (stops.Deep (length (byte ∷ behind)))

    by_shape : (shape : Shape) → kind_at byte ≡ Some (kind_of shape) → by_kind deep (kind_at byte) (byte ∷ behind) ≡ stop (stops.Deep (length (byte ∷ behind)))
    by_shape shapes.Object k = ap (λ o. by_kind deep o (byte ∷ behind)) k
    by_shape shapes.Array k = ap (λ o. by_kind deep o (byte ∷ behind)) k

value_inner : (room byte : ℕ) (behind : List ℕ) (shape : Shape) → kind_at byte ≡ Some (kind_of shape) → value_at (suc room) (byte ∷ behind) ≡ group_at (value_at room) shape behind
unfolding value_at
value_inner room byte behind shapes.Object k = ap (λ o. by_kind (λ shape. group_at (value_at room) shape behind) o (byte ∷ behind)) k
value_inner room byte behind shapes.Array k = ap (λ o. by_kind (λ shape. group_at (value_at room) shape behind) o (byte ∷ behind)) k

pub value_group : (room : ℕ) (shape : Shape) (bytes : List ℕ) → (room ≡ 0 → ⊥) → IsAt (kind_of shape) bytes → value_at room bytes ≡ group_at (value_at (room - 1)) shape (drop 1 bytes)
value_group zero shape bytes some at = absurd (some refl)
value_group (suc room) shape bytes some (byte, behind, e, k) =
    let n : suc room - 1 ≡ room = omega arith in
    ap (value_at (suc room)) e ∙ value_inner room byte behind shape k ∙ ap (λ (n : ℕ). group_at (value_at n) shape behind) (sym n) ∙ ap (λ (l : List ℕ). group_at (value_at (suc room - 1)) shape (drop 1 l)) (sym e)

pub value_none : (room : ℕ) → value_at room [] ≡ Err (stops.Not 0)
unfolding value_at
value_none zero = refl
value_none (suc room) = refl

pub value_not : (room byte : ℕ) (behind : List ℕ) → None ≡ kind_at byte → value_at room (byte ∷ behind) ≡ Err (stops.Not (length (byte ∷ behind)))
unfolding value_at
value_not zero byte behind e = ap (λ o. by_kind (λ shape. stop (stops.Deep (length (byte ∷ behind)))) o (byte ∷ behind)) (sym e)
value_not (suc room) byte behind e = ap (λ o. by_kind (λ shape. group_at (value_at room) shape behind) o (byte ∷ behind)) (sym e)

by_leaf : (inner : Shape → Read Tree) (kind : Kind) (bytes : List ℕ) → None ≡ shape_of kind → by_kind inner (Some kind) bytes ≡ leaf_at kind bytes
by_leaf inner kinds.Object bytes e = cc
by_leaf inner kinds.Array bytes e = cc
by_leaf inner kinds.Text bytes e = refl
by_leaf inner kinds.Number bytes e = refl
by_leaf inner kinds.True bytes e = refl
by_leaf inner kinds.False bytes e = refl
by_leaf inner kinds.Null bytes e = refl

pub value_leaf : (room byte : ℕ) (behind : List ℕ) (kind : Kind) → Some kind ≡ kind_at byte → None ≡ shape_of kind → value_at room (byte ∷ behind) ≡ leaf_at kind (byte ∷ behind)
unfolding value_at
value_leaf zero byte behind kind k e = let inner : Shape → Read Tree = λ shape. stop (stops.Deep (length (byte ∷ behind))) in ap (λ o. by_kind inner o (byte ∷ behind)) (sym k) ∙ by_leaf inner kind (byte ∷ behind) e
value_leaf (suc room) byte behind kind k e = let inner : Shape → Read Tree = λ shape. group_at (value_at room) shape behind in ap (λ o. by_kind inner o (byte ∷ behind)) (sym k) ∙ by_leaf inner kind (byte ∷ behind) e

pub shape_kind : (kind : Kind) (shape : Shape) → Some shape ≡ shape_of kind → kind ≡ kind_of shape
shape_kind kinds.Object shape e = let same : shape ≡ shapes.Object = cc in ap kind_of (sym same)
shape_kind kinds.Array shape e = let same : shape ≡ shapes.Array = cc in ap kind_of (sym same)
shape_kind kinds.Text shape e = cc
shape_kind kinds.Number shape e = cc
shape_kind kinds.True shape e = cc
shape_kind kinds.False shape e = cc
shape_kind kinds.Null shape e = cc

-- ---- the node of an object or an array

-- a tree that isn't a leaf, of this shape
abbrev pub IsGroup : Shape → Tree → Type 0
IsGroup shape (leaf kind s) = ⊥
IsGroup shape (empty other g) = other ≡ shape
IsGroup shape (group other ps) = other ≡ shape

group_is : (v : List ℕ → Read Tree) (shape : Shape) (bytes : List ℕ) (x : Tree × List ℕ) → group_at v shape bytes ≡ Ok x → IsGroup shape x.0
unfolding group_at
group_is v shape bytes x e = by_closed (closed shape (behind_gap bytes)) (parts v shape (suc (length bytes)) bytes) e
  where
    to : (y : Tree × List ℕ) → IsGroup shape y.0 → fine y ≡ Ok x → IsGroup shape x.0
    to y is e = let same : y ≡ x = cc in subst (λ (z : Tree × List ℕ). IsGroup shape z.0) same is

    by_closed : (o : Option (List ℕ)) (r : Read Parts) → empty_or shape (gap bytes) o (grouped shape r) ≡ Ok x → IsGroup shape x.0
    by_closed None (Ok ps) e = to (group shape ps.0, ps.1) refl e
    by_closed None (Err s) e = cc
    by_closed (Some rest) r e = to (empty shape (gap bytes), rest) refl e

abbrev pub node_of : Kind → Span → ℕ → ℕ → ℕ → ℕ → Node
node_of kind key from to many after = record { kind = kind; from = from; to = to; key_from = key.from; key_to = key.to; children = many; after = after }

same_nodes : (kind kind2 : Kind) (key : Span) (from to to2 many after after2 : ℕ) (made made2 : List Node) → kind ≡ kind2 → to ≡ to2 → after ≡ after2 → made ≡ made2
    → node_of kind key from to many after ∷ made ≡ node_of kind2 key from to2 many after2 ∷ made2
same_nodes kind kind2 key from to to2 many after after2 made made2 a b c d = rw (a, b, c, d) refl

group_nodes : (shape : Shape) (t : Tree) (at index end rest : ℕ) (key : Span) → IsGroup shape t → at + length (text t) ≡ end
    → node_of (kind_of shape) key at end (children t) (index + suc (length (inner_nodes (at + 1) (index + 1) t))) ∷ inner_nodes (at + 1) (index + 1) t ≡ tree_nodes at index key t
group_nodes shape (leaf kind s) at index end rest key is e = absurd is
group_nodes shape (empty other g) at index end rest key is e =
    same_nodes (kind_of shape) (kind_of other) key at end (at + (length g + 2)) 0 (index + 1) (index + 1) [] [] (ap kind_of (sym is)) (omega (arith, e, length-append g (closing other ∷ []))) refl refl
group_nodes shape (group other ps) at index end rest key is e =
    same_nodes (kind_of shape) (kind_of other) key at end (at + (length (parts_text ps) + 2)) (count ps) (index + suc (length (parts_nodes (at + 1) (index + 1) ps))) (index + (parts_size ps + 1)) (parts_nodes (at + 1) (index + 1) ps) (parts_nodes (at + 1) (index + 1) ps)
    (ap kind_of (sym is)) (omega (arith, e, length-append (parts_text ps) (closing other ∷ []))) (omega (arith, parts_nodes_size (at + 1) (index + 1) ps)) refl

tail_length : (bytes : List ℕ) → take (length bytes - 1) (drop 1 bytes) ≡ drop 1 bytes
tail_length [] = refl
tail_length (x ∷ xs) = take_all (length (x ∷ xs) - 1) xs (omega arith)

-- what is known where a bracket was read: `behind` stands for the bytes behind it, as the code cuts them
pub record AtGroup (room : ℕ) (shape : Shape) (end : ℕ) (bytes : List ℕ) : Type 0 where
  pub some : room ≡ 0 → ⊥
  pub at : IsAt (kind_of shape) bytes
  pub within : length bytes ≤ end

abbrev pub behind : List ℕ → List ℕ
behind bytes = take (length bytes - 1) (drop 1 bytes)

behind_one : (bytes : List ℕ) (kind : Kind) → IsAt kind bytes → length (behind bytes) + 1 ≡ length bytes
behind_one bytes kind (byte, rest, e, k) = omega (arith, ap (λ (l : List ℕ). length l) e, ap (λ (l : List ℕ). length (drop 1 l)) e, ap (λ (l : List ℕ). length l) (tail_length bytes))

pub group_reading : (room : ℕ) (shape : Shape) (end : ℕ) (bytes : List ℕ) → AtGroup room shape end bytes → value_at room bytes ≡ group_at (value_at (room - 1)) shape (behind bytes)
group_reading room shape end bytes g = value_group room shape bytes g.some g.at ∙ ap (group_at (value_at (room - 1)) shape) (sym (tail_length bytes))

pub group_short : (room : ℕ) (shape : Shape) (end : ℕ) (bytes rest : List ℕ) (t : Tree) → AtGroup room shape end bytes → group_at (value_at (room - 1)) shape (behind bytes) ≡ Ok (t, rest) → length rest ≤ end
group_short room shape end bytes rest t g read =
    let whole : bytes ≡ text t ++ rest = (value_took room bytes (t, rest) (group_reading room shape end bytes g ∙ read)).whole in
    omega (arith, g.within, ap (λ (l : List ℕ). length l) whole, length-append (text t) rest)

-- a stop behind the bracket
pub group_stop : (room : ℕ) (shape : Shape) (end : ℕ) (key : Span) (bytes : List ℕ) (old new old2 : List Node) (made : Tree → List Node) (many : Tree → ℕ) (s : Stop) (r : Result (Bor (List ℕ)) Stop) → AtGroup room shape end bytes → r ≡ Err s
    → WritesCount (group_at (value_at (room - 1)) shape (behind bytes)) made many old2 new (Err s) → Writes (value_at room bytes) (λ t. tree_nodes (end - length bytes) (length old) key t) old new r
group_stop room shape end key bytes old new old2 made many s r g e h = subst (λ r. Writes (value_at room bytes) (λ t. tree_nodes (end - length bytes) (length old) key t) old new r) (sym e) (by_stop s h)
  where
    by_stop : (s : Stop) → WritesCount (group_at (value_at (room - 1)) shape (behind bytes)) made many old2 new (Err s) → Writes (value_at room bytes) (λ t. tree_nodes (end - length bytes) (length old) key t) old new (Err s)
    by_stop (stops.Not n) h = group_reading room shape end bytes g ∙ h
    by_stop (stops.Deep n) h = group_reading room shape end bytes g ∙ h
    by_stop stops.NoMemory h = tt

-- the list with the completed node
pub group_adds : (room : ℕ) (shape : Shape) (end : ℕ) (key : Span) (bytes rest : List ℕ) (old before made : List Node) (first : Node) (t : Tree) (kind : Kind) (index many after : ℕ)
    → AtGroup room shape end bytes → group_at (value_at (room - 1)) shape (behind bytes) ≡ Ok (t, rest)
    → before ≡ old ++ first ∷ [] → made ≡ before ++ inner_nodes (end - length (behind bytes)) (length before) t
    → kind ≡ kind_of shape → index ≡ length old → many ≡ children t → after ≡ length made
    → (x : Tree) × (value_at room bytes ≡ Ok (x, rest)) × (set made index (node_of kind key (end - length bytes) (end - length rest) many after) ≡ old ++ tree_nodes (end - length bytes) (length old) key x)
group_adds room shape end key bytes rest old before made first t kind index many after g read b is ki ix m a =
    let value_is : value_at room bytes ≡ Ok (t, rest) = group_reading room shape end bytes g ∙ read in
    let whole : bytes ≡ text t ++ rest = (value_took room bytes (t, rest) value_is).whole in
    let within : length bytes ≤ end = g.within in
    let one : length (behind bytes) + 1 ≡ length bytes = behind_one bytes (kind_of shape) g.at in
    let inner : List Node = inner_nodes (end - length bytes + 1) (length old + 1) t in
    let node : Node = node_of kind key (end - length bytes) (end - length rest) many after in
    let n1 : end - length (behind bytes) ≡ end - length bytes + 1 = omega (arith, one, within, text_one shape t rest bytes (group_is (value_at (room - 1)) shape (behind bytes) (t, rest) read) whole) in
    let n2 : length before ≡ length old + 1 = omega (arith, ap (λ (l : List Node). length l) b, length-append old (first ∷ [])) in
    let made_is : made ≡ old ++ first ∷ inner = is ∙ rw (n1, n2) (ap (λ l. l ++ inner) b ∙ append_assoc old (first ∷ []) inner) in
    let n3 : after ≡ length old + suc (length inner) = omega (arith, a, ap (λ (l : List Node). length l) made_is, length-append old (first ∷ inner)) in
    let to : end - length bytes + length (text t) ≡ end - length rest = omega (arith, ap (λ (l : List ℕ). length l) whole, length-append (text t) rest, within) in
    let set_is : set made index node ≡ old ++ node ∷ inner = ap (λ n. set made n node) ix ∙ ap (λ l. set l (length old) node) made_is ∙ set_at old first inner node (length old) refl in
    let node_is : node ≡ node_of (kind_of shape) key (end - length bytes) (end - length rest) (children t) (length old + suc (length inner)) = rw (ki, m, n3) refl in
    let nodes_are = group_nodes shape t (end - length bytes) (length old) (end - length rest) 0 key (group_is (value_at (room - 1)) shape (behind bytes) (t, rest) read) to in
    (t, value_is, set_is ∙ ap (λ x. old ++ x ∷ inner) node_is ∙ ap (λ l. old ++ l) nodes_are)
  where
    text_one : (shape : Shape) (t : Tree) (rest bytes : List ℕ) → IsGroup shape t → bytes ≡ text t ++ rest → 1 ≤ length bytes
    text_one shape (leaf kind s) rest bytes is e = absurd is
    text_one shape (empty other g) rest bytes is e = omega (arith, ap (λ (l : List ℕ). length l) e)
    text_one shape (group other ps) rest bytes is e = omega (arith, ap (λ (l : List ℕ). length l) e)

-- ---- a value, by its first byte as the code reads it

pub empty_value : (room : ℕ) (bytes : List ℕ) → length bytes < 1 → value_at room bytes ≡ Err (stops.Not 0)
empty_value room [] short = value_none room
empty_value room (x ∷ xs) short = absurd (omega arith)

pub wrong_value : (room : ℕ) (bytes : List ℕ) → 1 ≤ length bytes → None ≡ kind_at (get_or bytes 0 0) → value_at room bytes ≡ Err (stops.Not (length bytes))
wrong_value room [] long e = absurd (omega arith)
wrong_value room (x ∷ xs) long e = value_not room x xs e

pub leaf_value : (room : ℕ) (bytes : List ℕ) (kind : Kind) → 1 ≤ length bytes → Some kind ≡ kind_at (get_or bytes 0 0) → None ≡ shape_of kind → value_at room bytes ≡ leaf_at kind bytes
leaf_value room [] kind long e s = absurd (omega arith)
leaf_value room (x ∷ xs) kind long e s = value_leaf room x xs kind e s

pub at_kind : (bytes : List ℕ) (kind : Kind) → 1 ≤ length bytes → Some kind ≡ kind_at (get_or bytes 0 0) → IsAt kind bytes
at_kind [] kind long e = absurd (omega arith)
at_kind (x ∷ xs) kind long e = (x, xs, refl, sym e)
