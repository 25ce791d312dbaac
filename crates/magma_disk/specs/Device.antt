-- A device between two syncs, and what a crash may leave of it.
use Rattle.std.specs.Prelude.{◌≡◌, ◌⊎◌, ℕ, ◌+◌, ◌-◌, ◌<◌, ◌≤◌, min, max, nat_eq, if◌then◌else◌, List, [], ◌∷◌, ◌++◌, length, take, drop, replicate, slice_index}

-- What a read gives; the ranges that were written since the last sync, each by its offset and length, in order; and the
-- least and the greatest length since then.
pub record Device : Type 0 where
  pub bytes : List ℕ
  pub touched : List (ℕ × ℕ)
  pub shortest : ℕ
  pub longest : ℕ

-- the range of this many bytes at an offset doesn't have the byte at i
abbrev pub IsBeside : ℕ → ℕ → ℕ → Type 0
IsBeside at count i = (i < at) ⊎ (at + count ≤ i)

-- no written range has the byte at i
abbrev pub IsUntouched : List (ℕ × ℕ) → ℕ → Type 0
IsUntouched [] i = Unit {0}
IsUntouched (range ∷ more) i = IsBeside range.0 range.1 i × IsUntouched more i

-- the byte at i is there, and as it was
abbrev pub StaysAt : ℕ → List ℕ → List ℕ → Type 0
StaysAt i old new = (i < length new) × (slice_index new i ≡ slice_index old i)

-- A crash may leave these bytes: what was there all the time since the last sync and in no written range stays; all else
-- may hold anything, or be missing at the end; and there are no more bytes than the device had at its longest.
pub record IsImage (d : Device) (image : List ℕ) : Type 0 where
  pub no_longer : length image ≤ d.longest
  pub stays : (i : ℕ) → i < d.shortest → IsUntouched d.touched i → StaysAt i d.bytes image

-- all that a read gives is on the disk, and nothing else
abbrev pub settled : List ℕ → Device
settled bytes = record { bytes = bytes; touched = []; shortest = length bytes; longest = length bytes }

-- The length after a write of this many bytes at an offset, from the length before. A write of no bytes leaves it, past
-- the end too.
abbrev pub grown : ℕ → ℕ → ℕ → ℕ
grown at count size = if nat_eq count 0 then size else max size (at + count)

-- so many bytes: the front, or the whole with zeros behind it
abbrev pub resized : ℕ → List ℕ → List ℕ
resized size bytes = take size bytes ++ replicate (size - length bytes) 0

-- these bytes with a piece written over them at an offset, and zeros between the old end and the piece
abbrev pub overlaid : List ℕ → ℕ → List ℕ → List ℕ
overlaid bytes at piece =
    let long = resized (grown at (length piece) (length bytes)) bytes in
    take at long ++ piece ++ drop (at + length piece) long

-- A write of this many bytes at an offset was done in part, or a crash broke it off: the range and all past the old end
-- may hold anything, and the rest stays.
pub record Torn (at count : ℕ) (old new : List ℕ) : Type 0 where
  pub no_longer : length new ≤ grown at count (length old)
  pub stays : (i : ℕ) → i < length old → IsBeside at count i → StaysAt i old new

-- A change of the length was done in part: all past the lesser length may hold anything, and the rest stays.
pub record TornCut (size : ℕ) (old new : List ℕ) : Type 0 where
  pub no_longer : length new ≤ max (length old) size
  pub stays : (i : ℕ) → i < length old → i < size → StaysAt i old new

-- after a write of this many bytes at an offset, whole or in part, that made of the bytes these
abbrev pub written : ℕ → ℕ → List ℕ → Device → Device
written at count bytes d = record { bytes = bytes; touched = d.touched ++ (at, count) ∷ []; shortest = d.shortest; longest = max d.longest (grown at count (length d.bytes)) }

-- after a change of the length, whole or in part, that made of the bytes these
abbrev pub cut_to : ℕ → List ℕ → Device → Device
cut_to size bytes d = record { bytes = bytes; touched = d.touched; shortest = min d.shortest size; longest = max d.longest size }
