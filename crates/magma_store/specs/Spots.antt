-- Where the items of a record stand, and a map of such spots.
use Rattle.std.specs.Prelude.{◌≢◌, ℕ, ◌+◌, is_some, List, [], ◌∷◌, length, Option, Some, if◌then◌else◌}
use Rattle.std.specs.FinMap as map
use Rattle.std.specs.List.{sum_by}
use Rattle.std.specs.Option.{option_map_or}
use Rattle.doc_model.specs.declared.key.DocKey.{DocKey}
use Rattle.doc_model.specs.declared.document.Item.{Item}
use Rattle.doc_model.specs.Keys.{key_cmp}
use Rattle.doc_model.specs.Values.{weight_of}
use Rattle.vb_log.specs.Content.{cas_of}
use Rattle.vb_log.specs.Contents.{item_bytes}
use Rattle.vb_log.specs.Held.{item_weight}
use Rattle.magma_store.specs.declared.spot.Spot.{Spot}
use Rattle.magma_store.specs.declared.spot.Placed.{Placed}

-- the spot of an item that stands at an offset
abbrev pub spot_at : ℕ → Item → Spot
spot_at at i = record { seqno = i.seqno; at = at; length = length (item_bytes i); weight = item_weight i; cas = cas_of i.what }

-- the spots of items that stand one after another from an offset on
abbrev pub placed : ℕ → List Item → List Placed
placed at [] = []
placed at (i ∷ is) =
    record { key = i.key; spot = spot_at at i }
    ∷ placed (at + length (item_bytes i)) is

-- with these spots over those that are there, the last of a key over those before it
abbrev pub with_spots : map.FinMap key_cmp Spot → List Placed → map.FinMap key_cmp Spot
with_spots spots [] = spots
with_spots spots (p ∷ ps) = with_spots (map.insert spots p.key p.spot) ps

-- a spot of no item, which keeps room for one
abbrev pub no_spot : Spot
no_spot = record { seqno = 0; at = 0; length = 0; weight = 0; cas = 0 }

-- with room for a spot of each of these keys
abbrev pub with_room : map.FinMap key_cmp Spot → List Placed → map.FinMap key_cmp Spot
with_room spots [] = spots
with_room spots (p ∷ ps) =
    with_room (if is_some (map.get spots p.key) then spots else map.insert spots p.key no_spot) ps

-- no key has room alone
abbrev pub AllLead : map.FinMap key_cmp Spot → Type 0
AllLead spots = (key : DocKey) → map.get spots key ≢ Some no_spot

-- ---- what items count

-- what the item at a spot counts
abbrev pub spot_weight : Spot → ℕ
spot_weight spot = spot.weight

-- what a key's item counts, where it has one
abbrev pub size_at : Option Spot → ℕ
size_at spot = option_map_or spot_weight spot 0

-- what the items at all spots count together
abbrev pub spots_size : map.FinMap key_cmp Spot → ℕ
spots_size spots = weight_of spot_weight spots

-- what the items of some places count together
abbrev pub places_size : List Placed → ℕ
places_size places = sum_by (λ (p : Placed). p.spot.weight) places
