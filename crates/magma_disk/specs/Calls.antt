-- What the calls of a disk do to its states, of which the newest comes first. A disk that tells nothing has none.
use Rattle.std.specs.Prelude.{◌≡◌, ◌⊎◌, ℕ, ◌-◌, ◌≤◌, min, List, [], ◌∷◌, length, take, drop}
use Rattle.magma_disk.specs.declared.disk.DiskRead.{DiskRead}
use Rattle.magma_disk.specs.declared.disk.DiskRead.TheVariants as read
use Rattle.magma_disk.specs.declared.disk.DiskDone.{DiskDone}
use Rattle.magma_disk.specs.declared.disk.DiskDone.TheVariants as done
use Rattle.magma_disk.specs.Device.{Device, IsImage, settled, resized, overlaid, Torn, TornCut, written, cut_to}

-- what a read gives now, or nothing where the disk doesn't tell it
abbrev pub bytes_of : List Device → List ℕ
bytes_of [] = []
bytes_of (d ∷ past) = d.bytes

-- a crash now may leave these bytes
abbrev pub MayLeave : List Device → List ℕ → Type 0
MayLeave [] image = ⊥
MayLeave (d ∷ past) image = IsImage d image

-- `Got(n)` gives the n bytes at the offset: as many as there is room for, or all up to the device's end.
abbrev pub Reads : ℕ → DiskRead → List ℕ → List Device → Type 0
Reads at result buf [] = Unit {0}
Reads at (read.Got n) buf (d ∷ past) = (n ≡ min (length buf) (length d.bytes - at)) × (take n buf ≡ take n (drop at d.bytes))
Reads at read.Failed buf (d ∷ past) = Unit {0}

-- `Done` has the piece at the offset. `Failed` did nothing, or has anything in the range, and its length lies between the
-- old one and that of a whole write.
abbrev pub Writes : ℕ → List ℕ → DiskDone → List Device → List Device → Type 0
Writes at piece result [] now = now ≡ []
Writes at piece done.Done (d ∷ past) now = now ≡ written at (length piece) (overlaid d.bytes at piece) d ∷ d ∷ past
Writes at piece done.Failed (d ∷ past) now =
    (now ≡ d ∷ past) ⊎ ((bytes : List ℕ) × (length d.bytes ≤ length bytes) × Torn at (length piece) d.bytes bytes × (now ≡ written at (length piece) bytes d ∷ d ∷ past))

-- `Done` has this length. `Failed` did nothing, or has a length between.
abbrev pub Cuts : ℕ → DiskDone → List Device → List Device → Type 0
Cuts size result [] now = now ≡ []
Cuts size done.Done (d ∷ past) now = now ≡ cut_to size (resized size d.bytes) d ∷ d ∷ past
Cuts size done.Failed (d ∷ past) now =
    (now ≡ d ∷ past) ⊎ ((bytes : List ℕ) × (min (length d.bytes) size ≤ length bytes) × TornCut size d.bytes bytes × (now ≡ cut_to size bytes d ∷ d ∷ past))

-- the disk has these bytes and nothing else: it had it before, or this is its newest state
abbrev pub Settles : List ℕ → Device → List Device → List Device → Type 0
Settles bytes d past now = ((d ≡ settled bytes) × (now ≡ d ∷ past)) ⊎ (now ≡ settled bytes ∷ d ∷ past)

-- After `Done` a crash leaves what a read gives; `Failed` changes nothing.
abbrev pub Syncs : DiskDone → List Device → List Device → Type 0
Syncs result [] now = now ≡ []
Syncs done.Done (d ∷ past) now = Settles d.bytes d past now
Syncs done.Failed (d ∷ past) now = now ≡ d ∷ past

-- a crash leaves one image, which is then the only one
abbrev pub Crashes : List Device → List Device → Type 0
Crashes [] now = now ≡ []
Crashes (d ∷ past) now = (image : List ℕ) × IsImage d image × Settles image d past now

-- what a read gives is one of the images
abbrev pub SeesAnImage : List Device → Type 0
SeesAnImage [] = Unit {0}
SeesAnImage (d ∷ past) = IsImage d d.bytes

-- a read gives this file, and a crash may leave it, where the disk tells it
abbrev pub IsSeen : List ℕ → List Device → Type 0
IsSeen file [] = Unit {0}
IsSeen file (d ∷ past) = (file ≡ d.bytes) × IsImage d file
