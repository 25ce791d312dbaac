-- Reading a value's tree from left to right.
use Rattle.std.specs.Prelude.{◌≡◌, ℕ, zero, suc, ◌-◌, List, [], ◌∷◌, ◌++◌, length, take, Bool, true, false, Option, Some, None, Result, Ok, Err, ◌==◌, if◌then◌else◌, codes}
use Rattle.std.specs.Borrow.{Bor}
use Rattle.json_model.specs.declared.kinds.Kind.{Kind}
use Rattle.json_model.specs.declared.kinds.Kind.TheVariants as kinds
use Rattle.json_model.specs.declared.kinds.Shape.{Shape}
use Rattle.json_model.specs.declared.kinds.Shape.TheVariants as shapes
use Rattle.json_spell.specs.declared.node.Span.{Span}
use Rattle.json_spell.specs.declared.node.Node.{Node}
use Rattle.json_spell.specs.declared.tokens.Stop.{Stop}
use Rattle.json_spell.specs.declared.tokens.Stop.TheVariants as stops
use Rattle.json_spell.specs.declared.tokens.Mode.TheVariants as modes
use Rattle.json_model.specs.Spelled.{Head, plain, keyed, Tree, leaf, empty, group, Parts, last, more, Document, closing}
use Rattle.json_spell.specs.Nodes.{key_span, tree_nodes, parts_nodes, document_nodes}
use Rattle.json_model.specs.Spelled.{count}
use Rattle.json_spell.specs.Tokens.{run, spelled_at, gap, behind_gap, kind_at}

infixl 10 ◌>>=◌
-- a reading, and then another of what it gives
abbrev pub ◌>>=◌ : {A B : Type 0} → Result A Stop → (A → Result B Stop) → Result B Stop
(Ok x) >>= f = f x
(Err e) >>= f = Err e

-- what is read, and the bytes behind it
abbrev pub Read : Type 0 → Type 0
Read A = Result (A × List ℕ) Stop

-- the first of these bytes is wrong, or there is none
abbrev pub not_at : {A : Type 0} → List ℕ → Result A Stop
not_at bytes = Err (stops.Not (length bytes))

-- the bytes before those that are left
abbrev pub cut : List ℕ → List ℕ → List ℕ
cut bytes rest = take (length bytes - length rest) bytes

-- ---- leaves

-- the bytes behind a string, of which the first byte is known
abbrev pub string_end : List ℕ → Result (List ℕ) Stop
string_end [] = not_at []
string_end (x ∷ xs) = run modes.Inside xs

-- the bytes behind a leaf of this kind, of which the first byte is known
abbrev pub leaf_end : Kind → List ℕ → Result (List ℕ) Stop
leaf_end kinds.Object bytes = not_at bytes
leaf_end kinds.Array bytes = not_at bytes
leaf_end kinds.Text bytes = string_end bytes
leaf_end kinds.Number bytes = run modes.Start bytes
leaf_end kinds.True bytes = spelled_at (codes "true") bytes
leaf_end kinds.False bytes = spelled_at (codes "false") bytes
leaf_end kinds.Null bytes = spelled_at (codes "null") bytes

-- a leaf of this kind, of which the first byte is known
abbrev pub leaf_at : Kind → List ℕ → Read Tree
leaf_at kind bytes = leaf_end kind bytes >>= λ rest. Ok (leaf kind (cut bytes rest), rest)

-- ---- what stands round a part's value

-- the bytes behind this byte
abbrev pub behind_byte : ℕ → List ℕ → Result (List ℕ) Stop
behind_byte x [] = not_at []
behind_byte x (y ∷ ys) = if y == x then Ok ys else not_at (y ∷ ys)

-- the bytes behind a key
abbrev pub key_end : List ℕ → Result (List ℕ) Stop
key_end bytes = behind_byte 0x22 bytes >>= λ inner. run modes.Inside inner

-- what stands before a part's value
unfoldable pub head_at : Shape → List ℕ → Read Head
head_at shapes.Array bytes = Ok (plain (gap bytes), behind_gap bytes)
head_at shapes.Object bytes = do
  rest ← key_end (behind_gap bytes)
  behind ← behind_byte 0x3a (behind_gap rest)
  Ok (keyed (gap bytes) (cut (behind_gap bytes) rest) (gap rest) (gap behind), behind_gap behind)

-- where the key stands in the head of a part that begins at this place
abbrev pub key_at : ℕ → Shape → List ℕ → Read Span
key_at at shape bytes = head_at shape bytes >>= λ h. Ok (key_span at h.0, h.1)

-- behind a part's value stands a comma, and another part follows, or the bracket
abbrev pub part_end : Shape → List ℕ → Read Bool
part_end shape [] = not_at []
part_end shape (x ∷ xs) = if x == 0x2c then Ok (true, xs) else if x == closing shape then Ok (false, xs) else not_at (x ∷ xs)

-- ---- values

-- a part, and those behind it where a comma follows
abbrev pub join_parts : Head → Tree → List ℕ → (List ℕ → Read Parts) → Bool × List ℕ → Read Parts
join_parts head tree blanks further (false, rest) = Ok (last head tree blanks, rest)
join_parts head tree blanks further (true, rest) = further rest >>= λ ps. Ok (more head tree blanks ps.0, ps.1)

-- parts, with a value's reading; at most so many
unfoldable pub parts : (List ℕ → Read Tree) → Shape → ℕ → List ℕ → Read Parts
parts value shape zero bytes = not_at bytes
parts value shape (suc n) bytes = do
  head ← head_at shape bytes
  tree ← value head.1
  end ← part_end shape (behind_gap tree.1)
  join_parts head.0 tree.0 (gap tree.1) (λ rest. parts value shape n rest) end

-- an object or an array of the parts that are read
abbrev pub grouped : Shape → Read Parts → Read Tree
grouped shape read = read >>= λ ps. Ok (group shape ps.0, ps.1)

-- the bytes behind the closing bracket where it is first
abbrev pub closed : Shape → List ℕ → Option (List ℕ)
closed shape [] = None
closed shape (x ∷ xs) = if x == closing shape then Some xs else None

-- an empty object or array where its bracket is first, else what is read
abbrev pub empty_or : Shape → List ℕ → Option (List ℕ) → Read Tree → Read Tree
empty_or shape blanks None read = read
empty_or shape blanks (Some rest) read = Ok (empty shape blanks, rest)

-- what stands behind an opening bracket
unfoldable pub group_at : (List ℕ → Read Tree) → Shape → List ℕ → Read Tree
group_at value shape bytes = empty_or shape (gap bytes) (closed shape (behind_gap bytes)) (grouped shape (parts value shape (suc (length bytes)) bytes))

-- a value of this kind
abbrev pub by_kind : (Shape → Read Tree) → Option Kind → List ℕ → Read Tree
by_kind inner None bytes = not_at bytes
by_kind inner (Some kinds.Object) bytes = inner shapes.Object
by_kind inner (Some kinds.Array) bytes = inner shapes.Array
by_kind inner (Some kinds.Text) bytes = leaf_at kinds.Text bytes
by_kind inner (Some kinds.Number) bytes = leaf_at kinds.Number bytes
by_kind inner (Some kinds.True) bytes = leaf_at kinds.True bytes
by_kind inner (Some kinds.False) bytes = leaf_at kinds.False bytes
by_kind inner (Some kinds.Null) bytes = leaf_at kinds.Null bytes

-- a value, in which objects and arrays nest at most so deep
unfoldable pub value_at : ℕ → List ℕ → Read Tree
value_at room [] = not_at []
value_at zero (x ∷ xs) = by_kind (λ shape. Err (stops.Deep (length (x ∷ xs)))) (kind_at x) (x ∷ xs)
value_at (suc room) (x ∷ xs) = by_kind (λ shape. group_at (value_at room) shape xs) (kind_at x) (x ∷ xs)

-- ---- readings that write nodes

-- the values in a tree, where what stands behind its bracket begins at `at`
abbrev pub inner_nodes : ℕ → ℕ → Tree → List Node
inner_nodes at index (leaf kind s) = []
inner_nodes at index (empty shape blanks) = []
inner_nodes at index (group shape ps) = parts_nodes at index ps

-- how many parts a tree has
abbrev pub children : Tree → ℕ
children (leaf kind s) = 0
children (empty shape blanks) = 0
children (group shape ps) = count ps

-- What a reading gives that writes nodes: the bytes behind what is read, and its nodes behind those that were there.
abbrev pub Writes : {A : Type 0} → Read A → (A → List Node) → List Node → List Node → Result (Bor (List ℕ)) Stop → Type 0
Writes {A} read made old new (Ok rest) = (x : A) × (read ≡ Ok (x, rest.now)) × (new ≡ old ++ made x)
Writes read made old new (Err (stops.Not left)) = read ≡ Err (stops.Not left)
Writes read made old new (Err (stops.Deep left)) = read ≡ Err (stops.Deep left)
Writes read made old new (Err stops.NoMemory) = Unit {0}

-- the same, with how many parts there are
abbrev pub WritesCount : {A : Type 0} → Read A → (A → List Node) → (A → ℕ) → List Node → List Node → Result (Bor (List ℕ) × ℕ) Stop → Type 0
WritesCount {A} read made many old new (Ok told) = (x : A) × (read ≡ Ok (x, told.0.now)) × (new ≡ old ++ made x) × (told.1 ≡ many x)
WritesCount read made many old new (Err (stops.Not left)) = read ≡ Err (stops.Not left)
WritesCount read made many old new (Err (stops.Deep left)) = read ≡ Err (stops.Deep left)
WritesCount read made many old new (Err stops.NoMemory) = Unit {0}

-- a leaf of this kind, with its key's span, in a text that ends at `end`
abbrev pub WritesLeaf : Kind → ℕ → Span → List ℕ → List Node → List Node → Result (Bor (List ℕ)) Stop → Type 0
WritesLeaf kind end key bytes old new result = Writes (leaf_at kind bytes) (λ t. tree_nodes (end - length bytes) (length old) key t) old new result

-- a value, in which objects and arrays nest at most so deep
abbrev pub WritesValue : ℕ → ℕ → Span → List ℕ → List Node → List Node → Result (Bor (List ℕ)) Stop → Type 0
WritesValue room end key bytes old new result = Writes (value_at room bytes) (λ t. tree_nodes (end - length bytes) (length old) key t) old new result

-- the parts of an object or an array, with its closing bracket
abbrev pub WritesParts : ℕ → Shape → ℕ → List ℕ → List Node → List Node → Result (Bor (List ℕ) × ℕ) Stop → Type 0
WritesParts room shape end bytes old new result =
    WritesCount (parts (value_at room) shape (suc (length bytes)) bytes) (λ ps. parts_nodes (end - length bytes) (length old) ps) (λ ps. count ps) old new result

-- what stands behind an opening bracket
abbrev pub WritesInner : ℕ → Shape → ℕ → List ℕ → List Node → List Node → Result (Bor (List ℕ) × ℕ) Stop → Type 0
WritesInner room shape end bytes old new result =
    WritesCount (group_at (value_at room) shape bytes) (λ t. inner_nodes (end - length bytes) (length old) t) (λ t. children t) old new result

-- the shape of a kind that holds values
abbrev pub shape_of : Kind → Option Shape
shape_of kinds.Object = Some shapes.Object
shape_of kinds.Array = Some shapes.Array
shape_of kinds.Text = None
shape_of kinds.Number = None
shape_of kinds.True = None
shape_of kinds.False = None
shape_of kinds.Null = None

-- the first byte begins a value of this kind
abbrev pub IsAt : Kind → List ℕ → Type 0
IsAt kind bytes = (byte : ℕ) × (behind : List ℕ) × (bytes ≡ byte ∷ behind) × (kind_at byte ≡ Some kind)

-- ---- a whole text

-- nothing but blanks is left
abbrev pub ended : List ℕ → Document → Result Document Stop
ended [] d = Ok d
ended (x ∷ xs) d = not_at (x ∷ xs)

-- the text that the bytes are, all of them
unfoldable pub document_at : ℕ → List ℕ → Result Document Stop
document_at room bytes = do
  tree ← value_at room (behind_gap bytes)
  ended (behind_gap tree.1) (record { before = gap bytes; tree = tree.0; after = gap tree.1 })

-- what is told of the reading of a whole text
abbrev pub WritesDocument : Result Document Stop → List Node → Result (Unit {0}) Stop → Type 0
WritesDocument read made (Ok u) = (d : Document) × (read ≡ Ok d) × (made ≡ document_nodes d)
WritesDocument read made (Err (stops.Not left)) = read ≡ Err (stops.Not left)
WritesDocument read made (Err (stops.Deep left)) = read ≡ Err (stops.Deep left)
WritesDocument read made (Err stops.NoMemory) = Unit {0}
