-- The pairs of a section as a function, for definitions that say what a document comes to. Of bytes that are no section it
-- gives the pairs at their front.
use Rattle.std.specs.Prelude.{ℕ, zero, suc, ◌+◌, ◌-◌, nat_eq, List, [], ◌∷◌, length, take, drop, position, Option, Some, None}
use Rattle.std.specs.Option.{option_map_or}
use Rattle.std.specs.Int.{w32}
use Rattle.kv_edge.specs.Fields.{◌>>=◌, number_at, bytes_at}
use Rattle.xattr_body.specs.Section.{Pair}

-- the pair of what stands behind its length: a name up to the first 00, and a text up to the last byte
unfoldable pub pair_in : List ℕ → Option Pair
pair_in body = do
  at ← position (λ byte. nat_eq byte 0) body
  Some (take at body, take (length body - (at + 2)) (drop (at + 1) body))

-- the pair at the front, and what follows it
unfoldable pub pair_at : List ℕ → Option (Pair × List ℕ)
pair_at bytes = do
  size ← number_at w32 bytes
  body ← bytes_at size.0 size.1
  pair ← pair_in body.0
  Some (pair, body.1)

-- a pair that was read, and the pairs of what follows it
abbrev pub and_more : Option (Pair × List ℕ) → (List ℕ → List Pair) → List Pair
and_more None rest = []
and_more (Some read) rest = read.0 ∷ rest read.1

-- the pairs at the front of bytes, at most so many
unfoldable pub pairs_from : ℕ → List ℕ → List Pair
pairs_from zero bytes = []
pairs_from (suc most) bytes = and_more (pair_at bytes) (λ rest. pairs_from most rest)

-- the pairs behind the length of a section
unfoldable pub pairs_in : List ℕ → List Pair
pairs_in bytes = option_map_or (λ size. pairs_from (length bytes) size.1) (number_at w32 bytes) []
