-- Which copy a vbucket is.
use Rattle.std.specs.Prelude.{◌≡◌, ◌⊎◌, ◌≤◌, ◌<◌, ℕ, is_none, Bool, false, List, [], Option, Some, None}
use Rattle.std.specs.FinMap as map
use Rattle.doc_model.specs.declared.key.DocKey.{DocKey}
use Rattle.doc_model.specs.declared.document.Item.{Item}
use Rattle.doc_model.specs.Keys.{key_cmp}
use Rattle.manifest_rules.specs.Catalog.{Catalog}
use Rattle.vb_log.specs.Content.{Content}
use Rattle.vb_log.specs.Contents.{IsWhole}
use Rattle.vb_log.specs.Held.{items_size}
use Rattle.vb_log.specs.Logs.{folds}
use Rattle.copy_model.specs.Copies.{Copy}
use Rattle.copy_model.specs.Entries.{core_of}
use Rattle.replica_core.specs.declared.copy.Role.TheVariants as roles
use Rattle.magma_disk.specs.Device.{Device}
use Rattle.magma_disk.specs.Calls.{MayLeave}
use Rattle.magma_store.specs.Held.{Held, items_left}
use Rattle.magma_store.specs.Store.{IsOpen}
use Rattle.vb_core.specs.Pairs.{IsPair, IsTail, HoldsOf}
use Rattle.vb_core.specs.Shown.{ShownVb}

-- ---- what is in memory over what is on disk

-- what of the items on disk still shows: none where the log was begun anew, else those whose collection wasn't dropped
abbrev pub beneath : Bool → Catalog → map.FinMap key_cmp Item → map.FinMap key_cmp Item
beneath is_anew manifest items = items_left is_anew manifest.dropped_collections items

-- an item, or else the one beneath it
abbrev pub over : Option Item → Option Item → Option Item
over (Some item) under = Some item
over None under = under

-- what keys have that have no item which lies over it
abbrev pub uncovered : {X : Type 0} → map.FinMap key_cmp Item → map.FinMap key_cmp X → map.FinMap key_cmp X
uncovered recent under = map.retain_keys under (λ key. is_none (map.get recent key))

-- What was changed of late, over these items on disk, is a log's content; and those of them that no other lies over count so
-- much together.
pub record Shows (recent : Content) (showing : ℕ) (under : map.FinMap key_cmp Item) (log : Content) : Type 0 where
  pub items : (key : DocKey) → map.get log.items key ≡ over (map.get recent.items key) (map.get under key)
  pub count : showing ≡ items_size (uncovered recent.items under)
  pub others : recent ≡ record log { items = recent.items }

-- items were made up to a position, or behind one
abbrev pub MadeUpTo : ℕ → map.FinMap key_cmp Item → Type 0
MadeUpTo position items = (key : DocKey) (item : Item) → map.get items key ≡ Some item → item.seqno ≤ position

abbrev pub MadeBehind : ℕ → map.FinMap key_cmp Item → Type 0
MadeBehind position items = (key : DocKey) (item : Item) → map.get items key ≡ Some item → position < item.seqno

-- ---- the numbers

-- a vbucket has a copy's numbers
pub record HasNumbers {D : Type 0} (vb : ShownVb D) (copy : Copy Content ℕ) : Type 0 where
  pub core : vb.core ≡ core_of folds copy
  pub number : vb.number ≡ copy.number
  pub seen : vb.seen ≡ copy.seen

-- ---- the copy

-- An active copy. What it says to others and what it makes visible isn't kept of it, nor what others tell it.
pub record Stands {D : Type 0} (states : D → List Device) (vb : ShownVb D) (copy : Copy Content ℕ) : Type 0 where
  pub active : copy.role ≡ roles.Active
  pub numbers : HasNumbers vb copy
  -- the store holds the one pair that the copy's disk may hold
  pub held : Held
  pub is_open : IsOpen states held vb.store
  pub pair : IsPair held vb.store.layout copy.disk
  pub torn : copy.torn ≡ None
  -- the log comes to a content that has bytes, and the term's log on disk has its manifest there
  pub whole : IsWhole copy.log
  pub told : copy.disk.accepted ≡ copy.accepted → IsTail held.meta.tail copy.disk.log.manifest copy.disk.log.prepares
  -- the log is what was changed of late over what is on disk
  pub shows : Shows vb.recent vb.showing (beneath vb.is_anew copy.log.manifest held.items) copy.log
  pub made : MadeUpTo copy.log.length copy.log.items
  pub on_disk : vb.is_anew ≡ false → MadeUpTo held.meta.length held.items
  pub longer : vb.is_anew ≡ false → held.meta.length ≤ copy.log.length
  pub recently : vb.is_anew ≡ false → MadeBehind held.meta.length vb.recent.items
  pub anew : vb.is_anew ≡ copy.anew
  pub inherited : vb.inherited ≡ copy.inherited
  -- how much isn't on disk yet
  pub entries : vb.unflushed_entries ≡ copy.unflushed_entries
  pub bytes : vb.unflushed_bytes ≡ copy.unflushed_bytes

-- an active copy in whose log nothing waits
pub record Lives {D : Type 0} (states : D → List Device) (vb : ShownVb D) (copy : Copy Content ℕ) : Type 0 where
  pub stands : Stands states vb copy
  pub none_waits : copy.log.prepares ≡ []
  pub tickets : copy.tickets ≡ []
  pub deadlines : copy.deadlines ≡ []

-- A copy whose disk failed: a crash leaves one of the pairs that its disk may hold.
pub record Stopped {D : Type 0} (states : D → List Device) (vb : ShownVb D) (copy : Copy Content ℕ) : Type 0 where
  pub dead : copy.role ≡ roles.Dead
  pub numbers : HasNumbers vb copy
  pub leaves : (image : List ℕ) → MayLeave (states vb.store.disk) image → HoldsOf copy image

-- the vbucket is this copy
abbrev pub IsCopy : {D : Type 0} → (D → List Device) → ShownVb D → Copy Content ℕ → Type 0
IsCopy states vb copy = Lives states vb copy ⊎ Stopped states vb copy
