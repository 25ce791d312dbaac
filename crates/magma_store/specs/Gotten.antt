-- What is read of an item whose bytes stand on a device.
use Rattle.std.specs.Prelude.{◌≡◌, ℕ, ◌^◌, nat_lt, filter, List, [], ◌∷◌}
use Rattle.std.specs.FinMap as map
use Rattle.doc_model.specs.declared.document.Item.{Item}
use Rattle.doc_model.specs.Keys.{key_cmp}
use Rattle.doc_model.specs.Values.{AreValues}
use Rattle.magma_disk.specs.Device.{Device}
use Rattle.vb_log.specs.Stored.{IsStorable}
use Rattle.magma_store.specs.declared.spot.Spot.{Spot}
use Rattle.magma_store.specs.Store.{StandsAt}

-- the item's bytes stand at a spot of the disk; one that doesn't tell its states isn't known to have any
abbrev pub Stands : Spot → Item → List Device → Type 0
Stands spot item [] = ⊥
Stands spot item (d ∷ past) = IsStorable item × StandsAt d.bytes (2 ^ 62) spot item

-- the items' bytes stand at these spots, one at each
abbrev pub AllStand : List Spot → List Item → List Device → Type 0
AllStand [] [] h = Unit {0}
AllStand [] (i ∷ is) h = ⊥
AllStand (s ∷ ss) [] h = ⊥
AllStand (s ∷ ss) (i ∷ is) h = Stands s i h × AllStand ss is h

-- spots are those of a map that are behind a sequence number, each key's once
pub record AreSpotsBehind (seqno : ℕ) (spots : map.FinMap key_cmp Spot) (found : List Spot) : Type 0 where
  pub values : List Spot
  pub are : AreValues spots values
  pub only : found ≡ filter (λ (s : Spot). nat_lt seqno s.seqno) values
