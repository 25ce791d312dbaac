-- What a disk in memory has now and has had.
use Rattle.std.specs.Prelude.{◌≡◌, Bool, true, false, ◌&&◌, nat_eq, ◌<◌, Vec, vec_len, vec_capacity, List, [], ◌∷◌, length, map, reverse}
use Rattle.magma_disk.specs.Device.{Device}
use Rattle.magma_disk.specs.declared.contents.Contents.{Contents}
use Rattle.std.specs.declared.alloc.Global.{Global}
use Rattle.std.specs.declared.snapshot.Snapshot.{Snapshot}

-- as a device
abbrev pub device_of : Contents → Device
device_of c = record { bytes = c.bytes.items; touched = c.touched.items; shortest = c.shortest; longest = c.longest }

-- the states that were noted, of which the newest is last, with the newest first
abbrev pub past_of : List (Snapshot Contents) → List Device
past_of noted = reverse (map (λ s. device_of s.value) noted)

-- all states, the newest first
abbrev pub states_of : Contents → Vec (Snapshot Contents) Global → List Device
states_of c past = device_of c ∷ past_of past.items

-- a list without elements
abbrev pub is_empty : {A : Type 0} → List A → Bool
is_empty [] = true
is_empty (x ∷ more) = false

-- all is on the disk
abbrev pub is_settled : Device → Bool
is_settled d = is_empty d.touched && nat_eq d.shortest (length d.bytes) && nat_eq d.longest (length d.bytes)

-- there is room to note one more state, where not all is on the disk
abbrev pub HasRoom : Contents → Vec (Snapshot Contents) Global → Type 0
HasRoom c past = is_settled (device_of c) ≡ false → vec_len past < vec_capacity past
