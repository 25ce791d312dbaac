-- Where bytes stop to be a section.
use Rattle.std.specs.Prelude.{◌≡◌, ◌≢◌, ℕ, ◌+◌, ◌≤◌, ◌<◌, ◌^◌, List, [], ◌∷◌, ◌++◌, length}
use Rattle.std.specs.Int.{w32, to_be_bytes}
use Rattle.xattr_body.specs.declared.xattrs.XattrFault.{XattrFault}
use Rattle.xattr_body.specs.declared.xattrs.XattrFault.TheVariants as fault
use Rattle.xattr_body.specs.Section.{Pair, ArePairs, pair_bytes, pairs_bytes, IsSection}

-- the first four bytes are the length of all that follows them, of which there is some
pub record IsBehindLength (bytes behind : List ℕ) : Type 0 where
  pub some : 1 ≤ length behind
  pub fits : length behind < 2 ^ 32
  pub front : bytes ≡ to_be_bytes w32 (length behind) ++ behind

-- no pair that may stand behind these is at the front
abbrev pub NoPair : List Pair → List ℕ → Type 0
NoPair before bytes = (pair : Pair) (more : List ℕ) → ArePairs (before ++ pair ∷ []) → bytes ≡ pair_bytes pair ++ more → ⊥

-- Pairs break off at an offset: pairs that may stand together take the bytes before it, and where the next has to begin
-- none does that may stand with them.
pub record PairsBreak (bytes : List ℕ) (offset : ℕ) : Type 0 where
  pub before : List Pair
  pub rest : List ℕ
  pub taken : offset ≡ length (pairs_bytes before)
  pub front : bytes ≡ pairs_bytes before ++ rest
  pub together : ArePairs before
  pub some : rest ≢ []
  pub none : NoPair before rest

-- The bytes break off at a place: at 0 where they don't begin with the length of what follows, else where a pair has to
-- begin behind that length and none does.
pub data Breaks (bytes : List ℕ) (place : ℕ) : Type 0 where
  at_length : place ≡ 0 → bytes ≢ [] → ((behind : List ℕ) → IsBehindLength bytes behind → ⊥) → Breaks bytes place
  at_pair : (behind : List ℕ) (offset : ℕ) → place ≡ 4 + offset → IsBehindLength bytes behind → PairsBreak behind offset → Breaks bytes place

-- why no attributes were read: the bytes are no section, and break off at the place
abbrev pub IsNoSection : List ℕ → XattrFault → Type 0
IsNoSection bytes (fault.Bad place) = Breaks bytes place × ((pairs : List Pair) → IsSection pairs bytes → ⊥)
IsNoSection bytes fault.NoMemory = Unit {0}
