-- What is told of a look-up.
use Rattle.std.specs.Prelude.{◌≡◌, ℕ, ◌-◌, ◌≤◌, List, take, drop, length, Option, Some, None, Result, Ok, Err}
use Rattle.std.specs.Fmt.{decimal}
use Rattle.doc_model.specs.declared.status.Status.{Status}
use Rattle.doc_model.specs.declared.status.Refused.{Refused}
use Rattle.json_model.specs.declared.asked.Lookup.{Lookup}
use Rattle.json_model.specs.Edit.{looked, lookup_of}
use Rattle.json_model.specs.Order.{Looks}
use Rattle.json_model.specs.Spelled.{Tree}
use Rattle.subdoc_edit.specs.declared.looking.Piece.{Piece}
use Rattle.subdoc_edit.specs.Telling.{Told}

-- a count in decimal, or else the bytes of a text from one place to another
abbrev pub counted_or_cut : List ℕ → ℕ → ℕ → Option ℕ → List ℕ
counted_or_cut bytes from to None = take (to - from) (drop from bytes)
counted_or_cut bytes from to (Some count) = decimal count

-- the bytes that a piece of a text stands for
abbrev pub piece_text : List ℕ → Piece → List ℕ
piece_text bytes piece = counted_or_cut bytes piece.from piece.to piece.count

-- the places of a piece are in the text, in order
pub record IsWithin (bytes : List ℕ) (piece : Piece) : Type 0 where
  pub ordered : piece.from ≤ piece.to
  pub within : piece.to ≤ length bytes

-- a piece is what the look-up finds in a value
abbrev pub TellsLooked : Lookup → List ℕ → Tree → Result Piece Refused → Type 0
TellsLooked lookup bytes tree = Told (λ piece. IsWithin bytes piece × (looked lookup tree ≡ Ok (piece_text bytes piece))) (λ s. looked lookup tree ≡ Err s)

-- a piece is what the look-up answers, or the status is
abbrev pub TellsLook : Lookup → List ℕ → List ℕ → Result Piece Refused → Type 0
TellsLook lookup bytes path = Told (λ piece. IsWithin bytes piece × Looks lookup bytes path (Ok (piece_text bytes piece))) (λ s. Looks lookup bytes path (Err s))

-- a piece of a text is what the look-up of this opcode answers
abbrev pub Finds : ℕ → List ℕ → List ℕ → Piece → Type 0
Finds opcode bytes path piece = (lookup : Lookup) × (lookup_of opcode ≡ Some lookup) × IsWithin bytes piece × Looks lookup bytes path (Ok (piece_text bytes piece))

-- the look-up of this opcode is refused so
abbrev pub RefusesLook : ℕ → List ℕ → List ℕ → Status → Type 0
RefusesLook opcode bytes path s = (lookup : Lookup) × (lookup_of opcode ≡ Some lookup) × Looks lookup bytes path (Err s)
