-- Layouts of bytes, and where bytes break one.
use Rattle.std.specs.Prelude.{◌≡◌, ◌≢◌, ◌⊎◌, ℕ, ◌+◌, ◌≤◌, ◌<◌, ◌^◌, is_some, Bool, List, [], ◌∷◌, ◌++◌, length, IsTrue}
use Rattle.std.specs.Int.{Width, w32, w64, to_be_bytes}
use Rattle.xattr_body.specs.Section.{Pair, IsSection}
use Rattle.manifest_rules.specs.Catalog.{Catalog}
use Rattle.manifest_rules.specs.Form.{manifest_in}
use Rattle.manifest_rules.specs.State.{is_kept, state_of, Breaks as StateBreaks}
use Rattle.doc_model.specs.declared.key.DocKey.{DocKey}
use Rattle.vb_log.specs.Keys.{IsAllowedKey, spelt_key}

-- how many bytes a number has
pub data Size : Type 0 where
  four : Size
  eight : Size

abbrev pub width_of : Size → Width
width_of four = w32
width_of eight = w64

-- the least number that has more
abbrev pub limit_of : Size → ℕ
limit_of four = 2 ^ 32
limit_of eight = 2 ^ 64

-- what a run of bytes spells
pub data Form : Type 0 where
  as_value : Form
  as_key : Form
  as_section : Form
  as_manifest : Form

-- the bytes of a value are any, those of a key spell one that a document may have, those of a
-- section are the section of some attributes, those of a manifest are read as one
abbrev pub Spells : Form → List ℕ → Type 0
Spells as_value bytes = Unit {0}
Spells as_key bytes = (k : DocKey) × (IsAllowedKey k) × (bytes ≡ spelt_key k)
Spells as_section bytes = (pairs : List Pair) × IsSection pairs bytes
Spells as_manifest bytes = IsTrue (is_some (manifest_in bytes))

-- A layout is fields one after another, where what follows a field may depend on it: a byte from a
-- least to a greatest, a big-endian number of four or eight bytes from a least to a greatest, a run of so
-- many bytes that spell something, a run of so many bytes that spell a key which passes a test, the
-- state of a manifest. At the end nothing follows.
pub data Layout : Type 0 where
  end : Layout
  byte : ℕ → ℕ → (ℕ → Layout) → Layout
  number : Size → ℕ → ℕ → (ℕ → Layout) → Layout
  run : ℕ → Form → Layout → Layout
  key_field : ℕ → (DocKey → Bool) → (DocKey → Layout) → Layout
  state_field : (Catalog → Layout) → Layout

-- a byte within bounds stands at the front
pub record ByteAt (least most : ℕ) (bytes : List ℕ) (n : ℕ) (behind : List ℕ) : Type 0 where
  pub front : bytes ≡ n ∷ behind
  pub above : least ≤ n
  pub below : n ≤ most

-- a number within bounds stands at the front
pub record NumberAt (size : Size) (least most : ℕ) (bytes : List ℕ) (n : ℕ) (behind : List ℕ) : Type 0 where
  pub front : bytes ≡ to_be_bytes (width_of size) n ++ behind
  pub above : least ≤ n
  pub below : n ≤ most
  pub small : n < limit_of size

-- so many bytes that spell something stand at the front
pub record RunAt (size : ℕ) (form : Form) (bytes piece behind : List ℕ) : Type 0 where
  pub front : bytes ≡ piece ++ behind
  pub whole : length piece ≡ size
  pub spells : Spells form piece

-- so many bytes stand at the front that spell a key which passes a test
pub record PassingKeyAt (size : ℕ) (test : DocKey → Bool) (bytes : List ℕ) (key : DocKey) (behind : List ℕ) : Type 0 where
  pub front : bytes ≡ spelt_key key ++ behind
  pub whole : length (spelt_key key) ≡ size
  pub allowed : IsAllowedKey key
  pub passes : IsTrue (test key)

-- the state of a manifest that may be kept stands at the front
pub record StateAt (bytes : List ℕ) (manifest : Catalog) (behind : List ℕ) : Type 0 where
  pub front : bytes ≡ state_of manifest ++ behind
  pub kept : IsTrue (is_kept manifest)

-- the bytes break the layout of a state where so many of them are left
pub record StateBreaksWith (bytes : List ℕ) (left : ℕ) : Type 0 where
  pub place : ℕ
  pub parts : place + left ≡ length bytes
  pub breaks : StateBreaks bytes place

-- the bytes are fields of the layout, and nothing follows
abbrev pub Fits : Layout → List ℕ → Type 0
Fits end bytes = bytes ≡ []
Fits (byte least most next) bytes =
    (n : ℕ) × (behind : List ℕ) × ByteAt least most bytes n behind × Fits (next n) behind
Fits (number size least most next) bytes =
    (n : ℕ) × (behind : List ℕ) × NumberAt size least most bytes n behind × Fits (next n) behind
Fits (run size form next) bytes =
    (piece : List ℕ) × (behind : List ℕ) × RunAt size form bytes piece behind × Fits next behind
Fits (key_field size test next) bytes =
    (key : DocKey) × (behind : List ℕ) × PassingKeyAt size test bytes key behind × Fits (next key) behind
Fits (state_field next) bytes =
    (manifest : Catalog) × (behind : List ℕ) × StateAt bytes manifest behind × Fits (next manifest) behind

-- The bytes break the layout where so many of them are left: the fields before stand there, and the
-- one that has to begin there doesn't, or something follows where nothing may.
abbrev pub Breaks : Layout → List ℕ → ℕ → Type 0
Breaks end bytes left = (left ≡ length bytes) × (bytes ≢ [])
Breaks (byte least most next) bytes left =
    ((left ≡ length bytes) × ((n : ℕ) (behind : List ℕ) → ByteAt least most bytes n behind → ⊥))
    ⊎ ((n : ℕ) × (behind : List ℕ) × ByteAt least most bytes n behind × Breaks (next n) behind left)
Breaks (number size least most next) bytes left =
    ((left ≡ length bytes) × ((n : ℕ) (behind : List ℕ) → NumberAt size least most bytes n behind → ⊥))
    ⊎ ((n : ℕ) × (behind : List ℕ) × NumberAt size least most bytes n behind × Breaks (next n) behind left)
Breaks (run size form next) bytes left =
    ((left ≡ length bytes) × ((piece behind : List ℕ) → RunAt size form bytes piece behind → ⊥))
    ⊎ ((piece : List ℕ) × (behind : List ℕ) × RunAt size form bytes piece behind × Breaks next behind left)
Breaks (key_field size test next) bytes left =
    ((left ≡ length bytes) × ((key : DocKey) (behind : List ℕ) → PassingKeyAt size test bytes key behind → ⊥))
    ⊎ ((key : DocKey) × (behind : List ℕ) × PassingKeyAt size test bytes key behind × Breaks (next key) behind left)
Breaks (state_field next) bytes left =
    StateBreaksWith bytes left
    ⊎ ((manifest : Catalog) × (behind : List ℕ) × StateAt bytes manifest behind × Breaks (next manifest) behind left)
