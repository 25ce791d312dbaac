-- What reading a whole source and writing a whole piece leave.
use Rattle.std.specs.Prelude.{ℕ, ◌<◌, ◌≤◌, List, length, take, Option}
use Rattle.std.specs.Io.KnownBytes.{IsAtEnd}
use Rattle.kv_edge.specs.Edge.{TookAll, PutAll}
use Rattle.kv_edge.specs.declared.transfer.ReadAll.{ReadAll}
use Rattle.kv_edge.specs.declared.transfer.ReadAll.TheVariants as reading
use Rattle.kv_edge.specs.declared.transfer.WriteAll.{WriteAll}
use Rattle.kv_edge.specs.declared.transfer.WriteAll.TheVariants as writing

-- Reading up to a limit: all bytes, which end within the limit; or more bytes than the limit; or a fault behind at
-- most as many bytes as the limit.
abbrev pub ReadsAll : ℕ → Option (List ℕ) → Option (List ℕ) → ReadAll → Type 0
ReadsAll limit before now (reading.Whole bytes) = TookAll before now bytes × IsAtEnd now × (length bytes ≤ limit)
ReadsAll limit before now reading.TooLong = (bytes : List ℕ) × TookAll before now bytes × (limit < length bytes)
ReadsAll limit before now reading.Failed = (bytes : List ℕ) × TookAll before now bytes × (length bytes ≤ limit)
ReadsAll limit before now reading.NoMemory = (bytes : List ℕ) × TookAll before now bytes

-- Writing a piece: the whole piece, or a front of it and a fault.
abbrev pub WritesAll : List ℕ → Option (List ℕ) → Option (List ℕ) → WriteAll → Type 0
WritesAll piece before now writing.Done = PutAll before now piece
WritesAll piece before now writing.Failed = (n : ℕ) × (n ≤ length piece) × PutAll before now (take n piece)
