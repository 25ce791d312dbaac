-- The list of a tree's values, in order of their first byte, with the places at which they stand in a text.
use Rattle.std.specs.Prelude.{ℕ, ◌+◌, List, [], ◌∷◌, ◌++◌, length}
use Rattle.json_model.specs.declared.kinds.Kind.{Kind}
use Rattle.json_model.specs.declared.kinds.Kind.TheVariants as kinds
use Rattle.json_model.specs.declared.kinds.Shape.{Shape}
use Rattle.json_model.specs.declared.kinds.Shape.TheVariants as shapes
use Rattle.json_spell.specs.declared.node.Span.{Span}
use Rattle.json_spell.specs.declared.node.Node.{Node}
use Rattle.json_model.specs.Spelled.{Head, plain, keyed, Tree, leaf, empty, group, Parts, last, more, Document, head_text, text, parts_text, size, parts_size, count}

-- the kind of a shape
abbrev pub kind_of : Shape → Kind
kind_of shapes.Object = kinds.Object
kind_of shapes.Array = kinds.Array

-- where the key stands in a head that begins at this place; 0 and 0 where there is none
abbrev pub key_span : ℕ → Head → Span
key_span at (plain gap) = record { from = 0; to = 0 }
key_span at (keyed gap key behind before) = record { from = at + length gap; to = at + length gap + length key }

-- The values of a tree whose text begins at `at`, whose key stands at `key`, and that is number `index` of the list.
abbrev mutual
  pub tree_nodes : ℕ → ℕ → Span → Tree → List Node
  tree_nodes at index key (leaf kind s) =
      record { kind = kind; from = at; to = at + length s; key_from = key.from; key_to = key.to; children = 0; after = index + 1 } ∷ []
  tree_nodes at index key (empty shape gap) =
      record { kind = kind_of shape; from = at; to = at + (length gap + 2); key_from = key.from; key_to = key.to; children = 0; after = index + 1 } ∷ []
  tree_nodes at index key (group shape parts) =
      record {
        kind = kind_of shape;
        from = at;
        to = at + (length (parts_text parts) + 2);
        key_from = key.from;
        key_to = key.to;
        children = count parts;
        after = index + (parts_size parts + 1);
      } ∷ parts_nodes (at + 1) (index + 1) parts

  pub parts_nodes : ℕ → ℕ → Parts → List Node
  parts_nodes at index (last head tree gap) = tree_nodes (at + length (head_text head)) index (key_span at head) tree
  parts_nodes at index (more head tree gap parts) =
      tree_nodes (at + length (head_text head)) index (key_span at head) tree
      ++ parts_nodes (at + (length (head_text head) + (length (text tree) + (length gap + 1)))) (index + size tree) parts

-- the values of a whole text
abbrev pub document_nodes : Document → List Node
document_nodes d = tree_nodes (length d.before) 0 (record { from = 0; to = 0 }) d.tree
