-- A vbucket with one entry more, which covers what some keys had.
use Rattle.std.specs.Prelude.{◌≡◌, ◌<◌, ◌^◌, ◌+◌, ◌-◌, ℕ, Bool, true, false, List, Option, Some, None, if◌then◌else◌}
use Rattle.std.specs.FinMap as map
use Rattle.doc_model.specs.declared.key.DocKey.{DocKey}
use Rattle.doc_model.specs.declared.document.Item.{Item}
use Rattle.doc_model.specs.Keys.{key_cmp, is_in}
use Rattle.vb_log.specs.declared.entry.Entry.{Entry}
use Rattle.vb_log.specs.Content.{Content, with_entry}
use Rattle.vb_log.specs.Sizes.{entry_length}
use Rattle.copy_model.specs.Copies.{Copy}
use Rattle.copy_model.specs.Disk.{must_flush}
use Rattle.copy_model.specs.Requests.{is_too_much}
use Rattle.magma_store.specs.declared.spot.Spot.{Spot}
use Rattle.magma_store.specs.Spots.{size_at, spots_size}
use Rattle.vb_core.specs.Means.{uncovered}
use Rattle.vb_core.specs.Shown.{ShownVb}

-- the spots of the items on disk that show: of keys that weren't changed of late, none where the log was begun anew
abbrev pub spots_shown : Bool → map.FinMap key_cmp Item → map.FinMap key_cmp Spot → map.FinMap key_cmp Spot
spots_shown is_anew recent spots = if is_anew then map.empty else uncovered recent spots

-- what the item of a key counts, or else what those of some collections count
abbrev pub size_among : map.FinMap key_cmp Spot → Option DocKey → List ℕ → ℕ
size_among spots (Some key) dropped = size_at (map.get spots key)
size_among spots None dropped = spots_size (map.retain_keys spots (is_in dropped))

-- what shows on disk of a key, or else of some collections
abbrev pub covered_size : {D : Type 0} → ShownVb D → Option DocKey → List ℕ → ℕ
covered_size vb covered dropped = size_among (spots_shown vb.is_anew vb.recent.items vb.store.spots) covered dropped

-- what the item at its key's spot counts, where its collection is one of these
abbrev pub size_within : List ℕ → map.FinMap key_cmp Spot → Item → ℕ
size_within dropped spots i = if is_in dropped i.key then size_at (map.get spots i.key) else 0

-- a vbucket that counts one entry more which isn't on disk, of which the spelling has so many bytes
abbrev pub counted : {D : Type 0} → ℕ → ShownVb D → ShownVb D
counted bytes vb = record vb { unflushed_entries = vb.unflushed_entries + 1; unflushed_bytes = vb.unflushed_bytes + bytes }

-- a vbucket with one entry more, in the place of the item of a key, or else of those of some collections
abbrev pub grown : {D : Type 0} → Entry → Option DocKey → List ℕ → ShownVb D → ShownVb D
grown e covered dropped vb = record vb {
  core = record vb.core { length = (with_entry vb.recent e).length };
  recent = with_entry vb.recent e;
  showing = vb.showing - covered_size vb covered dropped;
  unflushed_entries = vb.unflushed_entries + 1;
  unflushed_bytes = vb.unflushed_bytes + entry_length e;
}

-- one entry more can be counted, of which the spelling has fewer than 2^32 bytes
pub record CanCount {D : Type 0} (vb : ShownVb D) : Type 0 where
  pub entries : vb.unflushed_entries + 1 < 2 ^ 64
  pub bytes : vb.unflushed_bytes + 2 ^ 32 < 2 ^ 64

-- an entry isn't too much for a copy, which puts its log on disk before it is added
pub record IsFlushedFirst (copy : Copy Content ℕ) (cas : ℕ) (e : Entry) : Type 0 where
  pub small : is_too_much copy.log cas e ≡ false
  pub first : must_flush copy ≡ true
