-- What a store's write of what was changed of late comes to.
use Rattle.std.specs.Prelude.{◌≡◌, ◌≤◌, ◌<◌, ℕ, ◌+◌, ◌^◌, Bool, List, [], ◌∷◌, length, IsTrue, Some, Result, Ok, Err, map as list_map, OnOk, IfErr}
use Rattle.std.specs.FinMap as map
use Rattle.std.specs.List.{AllByRecursion}
use Rattle.std.proofs.Common.{subst, Bor}
use Rattle.doc_model.specs.declared.document.Item.{Item}
use Rattle.doc_model.specs.Keys.{key_cmp}
use Rattle.manifest_rules.specs.Catalog.{Catalog}
use Rattle.manifest_rules.specs.State.{is_kept}
use Rattle.vb_log.specs.Content.{Content, has_collection}
use Rattle.vb_log.specs.Flushing.{AreByPosition}
use Rattle.vb_log.specs.Held.{StandAtKeys}
use Rattle.vb_log.specs.Prepares.{pending_bytes}
use Rattle.vb_log.specs.Stored.{IsStorable}
use Rattle.magma_disk.specs.Device.{Device}
use Rattle.magma_disk.specs.Moments.{Throughout}
use Rattle.magma_store.specs.declared.fault.StoreFault.{StoreFault}
use Rattle.magma_store.specs.declared.fault.StoreFault.TheVariants as fault
use Rattle.magma_store.specs.declared.meta.Meta.{Meta}
use Rattle.magma_store.specs.Changes.{AreNumbers}
use Rattle.magma_store.specs.Held.{Held, numbers_of}
use Rattle.magma_store.specs.Layout.{write_size, needed_for, free, LaysWrite}
use Rattle.magma_store.specs.Store.{Shown, IsOpen, Either, IsBatch, IsUnwritten, written}
use Rattle.vb_core.specs.Flat.{tail_of}
use Rattle.vb_core.specs.Noting.{IsBatchOf, PutsDown}
use Rattle.vb_core.specs.Shown.{AreStorable}

-- ---- the batch

-- the items behind references
abbrev pub shown : List (Bor Item) → List Item
shown refs = list_map (λ (i : Bor Item). i.now) refs

-- items that a map has can be kept, where all of its items can
pub own_storable : (own : map.FinMap key_cmp Item) (items : List Item) → AreStorable own → AllByRecursion (λ (i : Item). map.get own i.key ≡ Some i) items → AllByRecursion IsStorable items
own_storable own [] all has = tt
own_storable own (i ∷ is) all has = (all i.key i has.0, own_storable own is all has.1)

-- what is known of what is to be put on disk
pub record IsReady (recent : Content) (meta : Meta) : Type 0 where
  pub kept : IsTrue (is_kept recent.manifest)
  pub tail : meta.tail ≡ tail_of recent
  pub short : length meta.tail < 2 ^ 32
  pub numbers : AreNumbers (numbers_of meta)
  pub items : AreStorable recent.items

pub batch_of : (recent : Content) (meta : Meta) (batch : List Item) → IsReady recent meta → AreByPosition recent.items batch → StandAtKeys recent.items
    → AllByRecursion (λ (i : Item). IsTrue (has_collection recent.manifest i.key.collection)) batch → length batch < 2 ^ 32 → IsBatchOf recent meta batch
batch_of recent meta batch ready by stand present few = record {
  by = by;
  stand = stand;
  is = record {
    kept = ready.kept;
    rest = pending_bytes recent.prepares;
    tail = ready.tail;
    short = ready.short;
    few = few;
    storable = own_storable recent.items batch ready.items by.own;
    numbers = ready.numbers;
    present = present;
  };
}

-- ---- what the store answers

-- what a write ensures of a batch
pub record Wrote {D : Type 0} (states : D → List Device) (is_anew : Bool) (recent : Content) (meta : Meta) (batch : List Item) (old new : Shown D) (r : Result (Unit {0}) StoreFault) : Type 0 where
  pub any_moment : (held : Held) (manifest : Catalog) → IsOpen states held old → IsBatch manifest batch meta
      → (after : ℕ) × LaysWrite old.layout is_anew batch meta after × Throughout (Either held old.layout (written is_anew manifest batch meta held) after) (states old.disk) (states new.disk)
  pub done : OnOk r ((held : Held) (manifest : Catalog) → IsOpen states held old → IsBatch manifest batch meta → IsOpen states (written is_anew manifest batch meta held) new)
  pub layout : OnOk r (LaysWrite old.layout is_anew batch meta new.layout)
  pub room : OnOk r (needed_for old.layout (write_size meta.tail batch) ≤ free old.layout)
  pub refused : IfErr r (IsUnwritten states (needed_for old.layout (write_size meta.tail batch)) (free old.layout) old new)

moments : {D : Type 0} (states : D → List Device) (is_anew : Bool) (recent : Content) (meta : Meta) (batch : List Item) (old new : Shown D) (r : Result (Unit {0}) StoreFault) → Wrote states is_anew recent meta batch old new r → IsBatchOf recent meta batch
    → (held : Held) → IsOpen states held old → Throughout (Either held old.layout (written is_anew recent.manifest batch meta held) (old.layout + write_size meta.tail batch)) (states old.disk) (states new.disk)
moments states is_anew recent meta batch old new r w of held is =
    let m = w.any_moment held recent.manifest is of.is in
    subst (λ l. Throughout (Either held old.layout (written is_anew recent.manifest batch meta held) l) (states old.disk) (states new.disk)) m.1 m.2

pub puts_down : {D : Type 0} (states : D → List Device) (is_anew : Bool) (recent : Content) (meta : Meta) (batch : List Item) (old new : Shown D) (r : Result (Unit {0}) StoreFault)
    → Wrote states is_anew recent meta batch old new r → IsBatchOf recent meta batch → PutsDown states is_anew recent meta old new r
puts_down states is_anew recent meta batch old new (Ok u) w of = record {
  batch = batch;
  begun = record { of = of; moments = moments states is_anew recent meta batch old new (Ok u) w of };
  done = λ held is. w.done held recent.manifest is of.is;
  layout = w.layout;
  room = w.room;
}
puts_down states is_anew recent meta batch old new (Err fault.DiskFault) w of = record {
  batch = batch;
  begun = record { of = of; moments = moments states is_anew recent meta batch old new (Err fault.DiskFault) w of };
  room = w.refused;
}
puts_down states is_anew recent meta batch old new (Err (fault.Full asked left)) w of = record {
  batch = batch;
  of = of;
  same = (w.refused).0;
  asked_is = (w.refused).1;
  left_is = (w.refused).2;
  full = (w.refused).3;
}
puts_down states is_anew recent meta batch old new (Err (fault.Damaged place found expected)) w of = w.refused
puts_down states is_anew recent meta batch old new (Err (fault.Spent found)) w of = w.refused
puts_down states is_anew recent meta batch old new (Err fault.OtherChain) w of = w.refused
puts_down states is_anew recent meta batch old new (Err fault.NoMemory) w of = w.refused
