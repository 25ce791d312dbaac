-- Records one after another on a device.
use Rattle.std.specs.Prelude.{◌≡◌, ◌≢◌, ◌⊎◌, ℕ, ◌<◌, ◌^◌, List, [], ◌∷◌, ◌++◌, length, Option, Some, None}
use Rattle.std.specs.List.{flat_map, AllByRecursion}
use Rattle.std.specs.Int.{w64, to_be_bytes}
use Rattle.magma_disk.specs.Device.{Device, settled}
use Rattle.magma_store.specs.declared.journal.TheConstants.{OPEN, SHUT}

-- the bytes of a record that counts: its open gate, how many bytes it holds, and these
abbrev pub record_bytes : List ℕ → List ℕ
record_bytes held = OPEN ∷ (to_be_bytes w64 (length held) ++ held)

-- what stands behind a record's gate: how many bytes it holds, these, and the closed gate of the next record
abbrev pub piece_bytes : List ℕ → List ℕ
piece_bytes held = to_be_bytes w64 (length held) ++ (held ++ SHUT ∷ [])

-- the bytes of records, one after another
abbrev pub journal_bytes : List (List ℕ) → List ℕ
journal_bytes records = flat_map record_bytes records

-- what each record holds can be counted in its eight bytes
abbrev pub CanBeCounted : List (List ℕ) → Type 0
CanBeCounted records = AllByRecursion (λ (held : List ℕ). length held < 2 ^ 64) records

-- No record begins here: nothing is left, the gate is closed, or it is the last byte of all.
abbrev pub IsEnd : List ℕ → Type 0
IsEnd [] = Unit {0}
IsEnd (gate ∷ rest) = (gate ≢ OPEN) ⊎ (rest ≡ [])

-- the bytes begin with these records, and no record begins behind them
pub record IsJournal (records : List (List ℕ)) (bytes : List ℕ) : Type 0 where
  pub rest : List ℕ
  pub parts : bytes ≡ journal_bytes records ++ rest
  pub counted : CanBeCounted records
  pub ends : IsEnd rest

-- A device has these records and behind them a closed gate, all of it on the disk. What stands behind that gate doesn't
-- count, so it may be anything, as what a crash left of a record.
pub record Rests (records : List (List ℕ)) (d : Device) : Type 0 where
  pub gate : ℕ
  pub behind : List ℕ
  pub is : d ≡ settled (journal_bytes records ++ gate ∷ behind)
  pub counted : CanBeCounted records
  pub shut : gate ≢ OPEN

-- the disk is such a device; one that doesn't tell its states isn't known to be
abbrev pub IsAtRest : List (List ℕ) → List Device → Type 0
IsAtRest records [] = ⊥
IsAtRest records (d ∷ past) = Rests records d

-- the disk has these bytes, all of them on the device; one that doesn't tell its states isn't known to have any
abbrev pub IsFile : List ℕ → List Device → Type 0
IsFile file [] = ⊥
IsFile file (d ∷ past) = d ≡ settled file

-- what stands at the front of bytes: a record that holds this, or none begins there
abbrev pub IsNext : Option (List ℕ) → List ℕ → Type 0
IsNext None bytes = IsEnd bytes
IsNext (Some held) bytes = (length held < 2 ^ 64) × (rest : List ℕ) × (bytes ≡ record_bytes held ++ rest)
