-- Objects in memory that fail at chosen calls.
use Rattle.std.specs.Prelude.{ℕ, List}

-- What an object in memory has: its bytes (those left of a source, those written of a sink), how many it takes a call
-- at most, the numbers from 0 of the calls that fail, how many calls were made, how many of them failed, and how many
-- of these for want of memory (of a source none).
pub record Memory : Type 0 where
  pub bytes : List ℕ
  pub most : ℕ
  pub failing : List ℕ
  pub calls : ℕ
  pub failed : ℕ
  pub refused : ℕ
