-- What is told of a value that stands at a place.
use Rattle.std.specs.Prelude.{ℕ, zero, suc, ◌+◌, ◌≤◌, List, [], length, Option, Some, None, option_map}
use Rattle.json_model.specs.declared.kinds.Kind.{Kind}
use Rattle.json_model.specs.declared.kinds.Shape.{Shape}
use Rattle.json_model.specs.Spelled.{Head, plain, keyed, Tree, leaf, empty, group, Parts, last, more, text, head_text, count}
use Rattle.json_model.specs.Moves.{gap_before}
use Rattle.json_spell.specs.Nodes.{kind_of}
use Rattle.json_walk.specs.declared.places.PartAt.{PartAt}

-- what a value is
abbrev pub tree_kind : Tree → Kind
tree_kind (leaf kind s) = kind
tree_kind (empty shape gap) = kind_of shape
tree_kind (group shape ps) = kind_of shape

-- the place behind a value that stands at this one
abbrev pub tree_end : ℕ → Tree → ℕ
tree_end at t = at + length (text t)

-- the shape of a value that holds parts
abbrev pub filled : Tree → Option Shape
filled (leaf kind s) = None
filled (empty shape gap) = None
filled (group shape ps) = Some shape

-- the places of a part are in order, and lie from one place on up to another
pub record LiesWithin (least most : ℕ) (p : PartAt) : Type 0 where
  pub low : least ≤ p.start
  pub keyed : p.start ≤ p.key_to
  pub valued : p.key_to ≤ p.value
  pub high : p.value ≤ most

-- ---- the first of some parts

-- what stands before its value
abbrev pub first_head : Parts → Head
first_head (last head tree gap) = head
first_head (more head tree gap ps) = head

-- its value
abbrev pub first_tree : Parts → Tree
first_tree (last head tree gap) = tree
first_tree (more head tree gap ps) = tree

-- the text of the key; nothing of an element
abbrev pub key_of : Head → List ℕ
key_of (plain gap) = []
key_of (keyed gap key behind before) = key

-- where it stands, of parts that begin at this place
abbrev pub part_at : ℕ → Parts → PartAt
part_at at ps = record {
  start = at + length (gap_before (first_head ps));
  key_to = at + length (gap_before (first_head ps)) + length (key_of (first_head ps));
  value = at + length (head_text (first_head ps));
}

-- the place behind its value
abbrev pub end_at : ℕ → Parts → ℕ
end_at at ps = at + length (head_text (first_head ps)) + length (text (first_tree ps))

-- ---- further parts

-- the parts behind the comma, and the place at which they begin
abbrev pub parts_behind : ℕ → Parts → Option (ℕ × Parts)
parts_behind at (last head tree gap) = None
parts_behind at (more head tree gap ps) = Some (end_at at (more head tree gap ps) + length gap + 1, ps)

-- the parts from the one of this number on, and the place at which they begin
abbrev pub parts_from : ℕ → ℕ → Parts → Option (ℕ × Parts)
parts_from zero at ps = Some (at, ps)
parts_from (suc k) at (last head tree gap) = None
parts_from (suc k) at (more head tree gap ps) = parts_from k (end_at at (more head tree gap ps) + length gap + 1) ps

-- where the first of such parts stands
abbrev pub told : Option (ℕ × Parts) → Option PartAt
told found = option_map (λ x. part_at x.0 x.1) found

-- the place behind the last part's value
abbrev pub last_end_at : ℕ → Parts → ℕ
last_end_at at (last head tree gap) = end_at at (last head tree gap)
last_end_at at (more head tree gap ps) = last_end_at (end_at at (more head tree gap ps) + length gap + 1) ps

-- ---- parts of the value at a place

-- where its part of this number stands
abbrev pub part_of : ℕ → ℕ → Tree → Option PartAt
part_of k at (leaf kind s) = None
part_of k at (empty shape gap) = None
part_of k at (group shape ps) = told (parts_from k (at + 1) ps)

-- how many it has
abbrev pub many_of : Tree → ℕ
many_of (leaf kind s) = 0
many_of (empty shape gap) = 0
many_of (group shape ps) = count ps

-- the place behind its last part's value
abbrev pub last_end_of : ℕ → Tree → Option ℕ
last_end_of at (leaf kind s) = None
last_end_of at (empty shape gap) = None
last_end_of at (group shape ps) = Some (last_end_at (at + 1) ps)
