-- Gates that stand at the front of bytes.
use Rattle.std.specs.Prelude.{◌≡◌, ◌≢◌, ℕ, ◌<◌, ◌^◌, nat_eq, Bool, false, not, List, [], ◌∷◌, ◌++◌, length, Option, Some, None}
use Rattle.std.specs.Int.{w64, byte_len, to_be_bytes}
use Rattle.magma_store.specs.declared.journal.TheConstants.{OPEN}
use Rattle.magma_store.specs.Journal.{IsEnd}

-- whether a closed gate stands at the front
abbrev pub begins_shut : List ℕ → Bool
begins_shut [] = false
begins_shut (gate ∷ rest) = not (nat_eq gate OPEN)

-- what stands at the front of bytes: an open gate and the size of a record, or no record begins there
abbrev pub IsSized : Option ℕ → List ℕ → Type 0
IsSized None bytes = IsEnd bytes
IsSized (Some size) bytes = (size < 2 ^ 64) × (rest : List ℕ) × (bytes ≡ OPEN ∷ (to_be_bytes w64 size ++ rest))

-- an open gate stands at the front, and behind it so many bytes, fewer than a size has
pub record IsCut (bytes : List ℕ) (found : ℕ) : Type 0 where
  pub rest : List ℕ
  pub gate : bytes ≡ OPEN ∷ rest
  pub more : rest ≢ []
  pub count : found ≡ length rest
  pub short : found < byte_len w64
