-- Spots that are set where there is room for them, and room that is taken back.
use Rattle.std.specs.Prelude.{nat_eq, is_some, Bool, false, ◌&&◌, List, [], ◌∷◌, Option, Some, None, if◌then◌else◌}
use Rattle.std.specs.FinMap as map
use Rattle.doc_model.specs.Keys.{key_cmp}
use Rattle.magma_store.specs.declared.spot.Spot.{Spot}
use Rattle.magma_store.specs.declared.spot.Placed.{Placed}
use Rattle.magma_store.specs.Spots.{no_spot}

-- with room for a spot of a key
abbrev pub with_room_for : map.FinMap key_cmp Spot → Placed → map.FinMap key_cmp Spot
with_room_for spots p = if is_some (map.get spots p.key) then spots else map.insert spots p.key no_spot

-- with a spot of a key, where it has one
abbrev pub with_found_one : map.FinMap key_cmp Spot → Placed → map.FinMap key_cmp Spot
with_found_one spots p = if is_some (map.get spots p.key) then map.insert spots p.key p.spot else spots

-- with the spots of those keys that have one, the last of a key over those before it
abbrev pub with_found : map.FinMap key_cmp Spot → List Placed → map.FinMap key_cmp Spot
with_found spots [] = spots
with_found spots (p ∷ ps) = with_found (with_found_one spots p) ps

-- whether a spot is of no item
abbrev pub is_no_spot : Spot → Bool
is_no_spot spot = nat_eq spot.seqno 0 && (nat_eq spot.at 0 && (nat_eq spot.length 0 && (nat_eq spot.weight 0 && nat_eq spot.cas 0)))

-- whether a key has room alone
abbrev pub has_room : Option Spot → Bool
has_room None = false
has_room (Some spot) = is_no_spot spot

-- without the room of a key, where it has room alone
abbrev pub without_room_for : map.FinMap key_cmp Spot → Placed → map.FinMap key_cmp Spot
without_room_for spots p = if has_room (map.get spots p.key) then map.remove spots p.key else spots

-- without the room of these keys
abbrev pub without_room : map.FinMap key_cmp Spot → List Placed → map.FinMap key_cmp Spot
without_room spots [] = spots
without_room spots (p ∷ ps) = without_room (without_room_for spots p) ps
