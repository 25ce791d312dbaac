-- Where bytes stop to be the front of a JSON text.
use Rattle.std.specs.Prelude.{ℕ, ◌+◌, ◌<◌, ◌≤◌, List, ◌++◌, length, take}
use Rattle.json_model.specs.declared.TheConstants.{MOST_DEEP}
use Rattle.json_model.specs.Spelled.{Document, IsText}

-- the bytes are the front of a JSON text at most so deep
abbrev pub Begins : ℕ → List ℕ → Type 0
Begins most bytes = (d : Document) × (behind : List ℕ) × IsText most d (bytes ++ behind)

-- No JSON text of any depth has the bytes up to and with this place as its front, while one at most 32 deep has the bytes
-- before it; or the place is the length, and the bytes are the front of a JSON text and none themselves.
pub record IsNot (bytes : List ℕ) (place : ℕ) : Type 0 where
  pub within : place ≤ length bytes
  pub front : Begins MOST_DEEP (take place bytes)
  pub wrong : place < length bytes → (deep : ℕ) → Begins deep (take (place + 1) bytes) → ⊥
  pub cut : (d : Document) → IsText MOST_DEEP d bytes → ⊥

-- A bracket that opens depth 33 stands at this place: a JSON text of depth 32 has the bytes before it as its front, one
-- of depth 33 the bytes up to and with it, and none of depth 32.
pub record IsDeep (bytes : List ℕ) (place : ℕ) : Type 0 where
  pub within : place < length bytes
  pub front : Begins MOST_DEEP (take place bytes)
  pub deeper : Begins (MOST_DEEP + 1) (take (place + 1) bytes)
  pub wrong : Begins MOST_DEEP (take (place + 1) bytes) → ⊥
