-- What a call on the outside takes, writes and counts.
use Rattle.std.specs.Prelude.{◌≡◌, ℕ, ◌+◌, ◌-◌, ◌^◌, ◌<◌, ◌≤◌, min, List, take, Option}
use Rattle.std.specs.Io.KnownBytes.{prepend_known, append_known, IsAtEnd}
use Rattle.kv_edge.specs.declared.traits.Taken.{Taken}
use Rattle.kv_edge.specs.declared.traits.Taken.TheVariants as taken
use Rattle.kv_edge.specs.declared.traits.Put.{Put}
use Rattle.kv_edge.specs.declared.traits.Put.TheVariants as put

-- A count rose: it is at least one higher, or it stands at its end.
abbrev pub Rose : ℕ → ℕ → Type 0
Rose before now = min (before + 1) (2 ^ 64 - 1) ≤ now

-- these bytes were taken from the front of what was left
abbrev pub TookAll : Option (List ℕ) → Option (List ℕ) → List ℕ → Type 0
TookAll before now bytes = before ≡ prepend_known bytes now

-- these bytes were added to what was written
abbrev pub PutAll : Option (List ℕ) → Option (List ℕ) → List ℕ → Type 0
PutAll before now bytes = now ≡ append_known before bytes

-- `Got(n)` has n of at most the room, and at least 1 where there is room; `End` comes only where there is room.
abbrev pub IsTakenWithin : ℕ → Taken → Type 0
IsTakenWithin room (taken.Got n) = (n ≤ room) × (0 < room → 0 < n)
IsTakenWithin room taken.End = 0 < room
IsTakenWithin room taken.Failed = Unit {0}

-- `Got(n)` takes the first n bytes left into the buffer's front; at `End` none is left; `Failed` takes nothing.
abbrev pub Takes : Option (List ℕ) → Option (List ℕ) → Taken → List ℕ → Type 0
Takes before now (taken.Got n) buf = TookAll before now (take n buf)
Takes before now taken.End buf = (before ≡ now) × IsAtEnd now
Takes before now taken.Failed buf = before ≡ now

-- `Wrote(n)` has n of at most the piece's length, and at least 1 where the piece isn't empty.
abbrev pub IsPutWithin : ℕ → Put → Type 0
IsPutWithin size (put.Wrote n) = (n ≤ size) × (0 < size → 0 < n)
IsPutWithin size put.Failed = Unit {0}

-- `Wrote(n)` adds the first n bytes of the piece; `Failed` adds nothing.
abbrev pub Puts : Option (List ℕ) → Option (List ℕ) → Put → List ℕ → Type 0
Puts before now (put.Wrote n) piece = PutAll before now (take n piece)
Puts before now put.Failed piece = now ≡ before
