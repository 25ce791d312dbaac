-- Layouts of a message's bytes, and where bytes break one.
use Rattle.std.specs.Prelude.{◌≡◌, ◌⊎◌, ℕ, ◌+◌, ◌<◌, ◌^◌, nat_le, Bool, false, ◌&&◌, List, [], ◌∷◌, ◌++◌, length, IsTrue}
use Rattle.std.specs.Int.{w16, w32, w64, to_be_bytes}
use Rattle.vb_log.specs.declared.entry.Entry.{Entry}
use Rattle.vb_log.specs.declared.reading.ContentFault.TheVariants as reasons
use Rattle.vb_log.specs.Content.{Content}
use Rattle.vb_log.specs.Contents.{IsContent}
use Rattle.vb_log.specs.Faults.{IsNoEntry, IsNoContent}
use Rattle.vb_log.specs.Spelling.{IsSpelled}

-- ---- numbers

-- how many bytes a number has
pub data Size : Type 0 where
  one : Size
  two : Size
  four : Size
  eight : Size

abbrev pub bytes_in : Size → ℕ
bytes_in one = 1
bytes_in two = 2
bytes_in four = 4
bytes_in eight = 8

-- the least number that has more
abbrev pub limit_of : Size → ℕ
limit_of one = 2 ^ 8
limit_of two = 2 ^ 16
limit_of four = 2 ^ 32
limit_of eight = 2 ^ 64

-- a number's bytes, the highest first
abbrev pub digits : Size → ℕ → List ℕ
digits one n = n ∷ []
digits two n = to_be_bytes w16 n
digits four n = to_be_bytes w32 n
digits eight n = to_be_bytes w64 n

-- whether a number is from a least to a greatest
abbrev pub within : ℕ → ℕ → ℕ → Bool
within least most n = nat_le least n && nat_le n most

-- a number stands at the front
pub record NumberAt (size : Size) (bytes : List ℕ) (n : ℕ) (behind : List ℕ) : Type 0 where
  pub front : bytes ≡ digits size n ++ behind
  pub small : n < limit_of size

-- a number that passes a test stands at the front
pub record RightAt (size : Size) (test : ℕ → Bool) (bytes : List ℕ) (n : ℕ) (behind : List ℕ) : Type 0 where
  pub number : NumberAt size bytes n behind
  pub passes : IsTrue (test n)

-- the number at the front fails a test; all of the bytes are left
pub record WrongAt (size : Size) (test : ℕ → Bool) (bytes : List ℕ) (left : ℕ) : Type 0 where
  pub n : ℕ
  pub behind : List ℕ
  pub number : NumberAt size bytes n behind
  pub fails : test n ≡ false
  pub all : left ≡ length bytes

-- ---- layouts

-- A layout is numbers one after another, each of which has to pass a test; what follows one may depend on it. Behind them
-- stands an entry, a content, or whatever may.
pub data Layout : Type 0 where
  anything : Layout
  an_entry : Layout
  a_content : Layout
  number : Size → (ℕ → Bool) → (ℕ → Layout) → Layout

-- the bytes are no entry's, and of them so many are left where they break its layout
pub record NoEntryWith (bytes : List ℕ) (left : ℕ) : Type 0 where
  pub place : ℕ
  pub parts : place + left ≡ length bytes
  pub none : IsNoEntry bytes (reasons.Bad place)

-- the bytes are no content's, and of them so many are left where they break its layout, or all
pub record NoContentWith (bytes : List ℕ) (left : ℕ) : Type 0 where
  pub place : ℕ
  pub parts : place + left ≡ length bytes
  pub none : IsNoContent bytes (reasons.Bad place)

-- the bytes keep the layout
abbrev pub Fits : Layout → List ℕ → Type 0
Fits anything bytes = Unit {0}
Fits an_entry bytes = (e : Entry) × IsSpelled e bytes
Fits a_content bytes = (c : Content) × IsContent c bytes
Fits (number size test next) bytes =
    (n : ℕ) × (behind : List ℕ) × RightAt size test bytes n behind × Fits (next n) behind

-- The bytes break the layout where so many of them are left: the fields before are right, and the one that begins there
-- is wrong.
abbrev pub Breaks : Layout → List ℕ → ℕ → Type 0
Breaks anything bytes left = ⊥
Breaks an_entry bytes left = NoEntryWith bytes left
Breaks a_content bytes left = NoContentWith bytes left
Breaks (number size test next) bytes left =
    WrongAt size test bytes left
    ⊎ ((n : ℕ) × (behind : List ℕ) × RightAt size test bytes n behind × Breaks (next n) behind left)

-- the bytes end within the numbers of the layout, and those that they have are right
abbrev pub Ends : Layout → List ℕ → Type 0
Ends anything bytes = ⊥
Ends an_entry bytes = ⊥
Ends a_content bytes = ⊥
Ends (number size test next) bytes =
    (length bytes < bytes_in size)
    ⊎ ((n : ℕ) × (behind : List ℕ) × RightAt size test bytes n behind × Ends (next n) behind)
