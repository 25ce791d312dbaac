-- The fields of a section, one by one.
use Rattle.std.specs.Prelude.{◌≡◌, ℕ, ◌+◌, ◌<◌, ◌^◌, List, ◌∷◌, ◌++◌, length, Bool, true, not, if◌then◌else◌}
use Rattle.std.specs.Int.{w32, to_be_bytes}
use Rattle.xattr_body.specs.declared.xattrs.XattrFault.{XattrFault}
use Rattle.xattr_body.specs.declared.xattrs.XattrFault.TheVariants as fault
use Rattle.xattr_body.specs.Section.{Pair, same_name, HasNoZero, IsPair, pair_body, pair_bytes}
use Rattle.xattr_body.specs.Faults.{PairsBreak}

-- a length stands at the front, then so many bytes, and then the rest
pub record SizedAt (bytes body rest : List ℕ) : Type 0 where
  pub fits : length body < 2 ^ 32
  pub front : bytes ≡ to_be_bytes w32 (length body) ++ (body ++ rest)

-- no length stands at the front with so many bytes behind it
abbrev pub NotSized : List ℕ → Type 0
NotSized bytes = (body rest : List ℕ) → SizedAt bytes body rest → ⊥

-- the first 00 stands between these bytes
pub record SplitAt (bytes front back : List ℕ) : Type 0 where
  pub no_zero : HasNoZero front
  pub parts : bytes ≡ front ++ 0 ∷ back

-- the bytes are a name without 00, 00, a text, 00
pub record PartsOf (body : List ℕ) (pair : Pair) : Type 0 where
  pub no_zero : HasNoZero pair.0
  pub spelled : body ≡ pair_body pair

-- they are not
abbrev pub NoParts : List ℕ → Type 0
NoParts body = (pair : Pair) → PartsOf body pair → ⊥

-- a pair stands at the front, and then the rest
pub record PairAt (bytes : List ℕ) (pair : Pair) (rest : List ℕ) : Type 0 where
  pub good : IsPair pair
  pub front : bytes ≡ pair_bytes pair ++ rest

-- no pair stands at the front
abbrev pub NoPairAt : List ℕ → Type 0
NoPairAt bytes = (pair : Pair) (rest : List ℕ) → PairAt bytes pair rest → ⊥

-- a set of names has one more, and it is told whether the set hadn't it before
pub record Adds (has now : List ℕ → Bool) (name : List ℕ) (added : Bool) : Type 0 where
  pub told : added ≡ not (has name)
  pub updates : (other : List ℕ) → now other ≡ (if same_name name other then true else has other)

-- why no pairs were read behind the length of a section: they break off at the place
abbrev pub IsNoPairs : List ℕ → XattrFault → Type 0
IsNoPairs behind (fault.Bad place) = (offset : ℕ) × (place ≡ 4 + offset) × PairsBreak behind offset
IsNoPairs behind fault.NoMemory = Unit {0}
