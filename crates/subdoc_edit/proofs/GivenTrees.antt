-- A value that is one JSON text: its tree, its bytes and its depth.
use Rattle.std.proofs.Common.{◌≡◌, ℕ, suc, zero, ◌+◌, ◌<◌, List, [], ◌++◌, get_or, length, true, false, Ok, Err, inl, inr, refl, sym, ap, subst, ◌∙◌, arith, append-nil}
use Rattle.std.specs.Prelude.{pos}
use Rattle.json_model.specs.declared.TheConstants.{MOST_DEEP}
use Rattle.json_model.specs.declared.kinds.Kind.{Kind}
use Rattle.json_model.specs.declared.kinds.Shape.TheVariants as shapes
use Rattle.json_model.specs.Fronts.{IsDeep}
use Rattle.json_model.specs.Spelled.{Tree, leaf, empty, group, Document, IsText, depth, text, Fits}
use Rattle.json_model.specs.Splices.{here}
use Rattle.json_model.specs.Edit.{Asked, element}
use Rattle.json_model.specs.Values.{GivesTree, GivesLeaf}
use Rattle.doc_model.specs.declared.status.TheConstants.Status as status
use Rattle.json_spell.specs.declared.node.Node.{Node}
use Rattle.json_spell.specs.declared.node.Span.{Span}
use Rattle.json_spell.specs.Nodes.{tree_nodes, document_nodes}
use Rattle.json_spell.specs.Places.{Spans}
use Rattle.json_spell.proofs.Exact.{one_text}
use Rattle.subdoc_path.specs.Cutting.{IsValueAt, CutsOut, IsCut}
use Rattle.subdoc_path.proofs.Following.{stands_root, described, Describes}
use Rattle.subdoc_edit.specs.Kinds.{holds_others}
use Rattle.subdoc_edit.specs.GivenDepths.{IsDepth}
use Rattle.subdoc_edit.specs.Given.{IsTree, IsOneLeaf}
use Rattle.subdoc_edit.proofs.GivenDepths.{not_leaf, shape_holds, true_or}

-- the whole value of a text stands first
pub root_there : (bytes : List ℕ) (nodes : List Node) → Spans bytes nodes → IsValueAt bytes nodes 0
root_there bytes nodes (d, is, e) = (d, [], d.tree, is, e, here d.tree, refl)

root_cut : (bytes : List ℕ) (span : Span) (d : Document) → IsText MOST_DEEP d bytes → CutsOut bytes 0 span → IsCut bytes d [] d.tree span
root_cut bytes span d is cut = cut d [] d.tree is (here d.tree) refl

-- ---- a tree

pub tree_read : (bytes : List ℕ) (nodes rest : List Node) (span : Span) (told : ℕ) → Spans bytes nodes → CutsOut bytes 0 span → IsDepth nodes told rest
    → (t : Tree) × IsTree bytes (record { from = span.from; to = span.to; depth = told; delta = pos 0 }) t × ((asked : Tree → Asked) → GivesTree asked bytes (Ok (asked t)))
tree_read bytes nodes rest span told (d, is, e) cut deep =
    let c = root_cut bytes span d is cut in
    let all : nodes ≡ tree_nodes (length d.before) 0 (record { from = 0; to = 0 }) d.tree ++ [] = e ∙ sym (append-nil (document_nodes d)) in
    let told_is : told ≡ depth d.tree = (deep (length d.before) 0 (record { from = 0; to = 0 }) d.tree [] (record { listed = all; fits = is.tree; shallow = is.depth })).0 in
    (d.tree, inl (is.tree, record { ordered = c.ordered; within = c.within }, sym c.inside, sym told_is, omega (arith, told_is, is.depth)), λ asked. inl (d, is, refl))

-- empty arrays, one in the other
deep_array : ℕ → Tree
deep_array zero = empty shapes.Array []
deep_array (suc n) = group shapes.Array (element (deep_array n))

deep_array_depth : (n : ℕ) → depth (deep_array n) ≡ n + 1
unfolding deep_array
deep_array_depth zero = refl
deep_array_depth (suc n) = omega (arith, deep_array_depth n)

pub tree_deep : (bytes : List ℕ) (place : ℕ) → IsDeep bytes place
    → (t : Tree) × IsTree bytes (record { from = 0; to = 0; depth = MOST_DEEP + 1; delta = pos 0 }) t × ((asked : Tree → Asked) → GivesTree asked bytes (Ok (asked t)))
tree_deep bytes place deep =
    let below : MOST_DEEP < depth (deep_array MOST_DEEP) = omega (arith, deep_array_depth MOST_DEEP) in
    (deep_array MOST_DEEP, inr (below, omega arith), λ asked. inr (inl (place, deep_array MOST_DEEP, deep, below, refl)))

-- ---- a leaf

-- what the first node says of a leaf
leaf_in : (bytes : List ℕ) (span : Span) (d : Document) (t : Tree) (n : Node) → IsText MOST_DEEP d bytes → t ≡ d.tree → IsCut bytes d [] d.tree span → Describes n 0 t → holds_others n.kind ≡ false
    → (kind : Kind) × (s : List ℕ) × IsOneLeaf bytes (record { from = span.from; to = span.to; depth = 0; delta = pos 0 }) kind s × ((asked : Kind → List ℕ → Asked) → GivesLeaf asked bytes (Ok (asked kind s)))
leaf_in bytes span d (leaf kind s) n is t c says holds =
    (kind, s, (subst (λ (u : Tree). Fits u) (sym t) is.tree, record { ordered = c.ordered; within = c.within }, ap text t ∙ sym c.inside, refl), λ asked. inl (d, kind, s, is, sym t, refl))
leaf_in bytes span d (empty shape g) n is t c says holds = absurd (true_or (holds_others n.kind) (ap holds_others says.0 ∙ shape_holds shape) holds)
leaf_in bytes span d (group shape ps) n is t c says holds = absurd (true_or (holds_others n.kind) (ap holds_others says.0 ∙ shape_holds shape) holds)

pub leaf_read : (bytes : List ℕ) (nodes : List Node) (span : Span) (n : Node) → Spans bytes nodes → n ≡ get_or nodes 0 n → CutsOut bytes 0 span → holds_others n.kind ≡ false
    → (kind : Kind) × (s : List ℕ) × IsOneLeaf bytes (record { from = span.from; to = span.to; depth = 0; delta = pos 0 }) kind s × ((asked : Kind → List ℕ → Asked) → GivesLeaf asked bytes (Ok (asked kind s)))
leaf_read bytes nodes span n (d, is, e) first cut holds =
    leaf_in bytes span d d.tree n is refl (root_cut bytes span d is cut) (described bytes nodes (length d.before) 0 (record { from = 0; to = 0 }) d.tree n (stands_root bytes nodes d is e) first) holds

no_leaf : (t : Tree) (n : Node) (kind : Kind) (s : List ℕ) → Fits t → Describes n 0 t → holds_others n.kind ≡ true → t ≡ leaf kind s → ⊥
no_leaf (leaf other r) n kind s fits says holds e = true_or (holds_others n.kind) holds (ap holds_others says ∙ not_leaf other r fits)
no_leaf (empty shape g) n kind s fits says holds e = cc
no_leaf (group shape ps) n kind s fits says holds e = cc

pub leaf_refused : (bytes : List ℕ) (nodes : List Node) (n : Node) → Spans bytes nodes → n ≡ get_or nodes 0 n → holds_others n.kind ≡ true → (asked : Kind → List ℕ → Asked) → GivesLeaf asked bytes (Err status.VALUE_CANT_INSERT)
leaf_refused bytes nodes n (d, is, e) first holds asked =
    let says = described bytes nodes (length d.before) 0 (record { from = 0; to = 0 }) d.tree n (stands_root bytes nodes d is e) first in
    inr (λ other kind s it t. no_leaf d.tree n kind s is.tree says holds (ap (λ (x : Document). x.tree) (one_text MOST_DEEP bytes d other is it) ∙ t), refl)
