-- What putting its log on disk makes of a vbucket that is a copy.
use Rattle.std.specs.Prelude.{◌≡◌, ◌⊎◌, ◌≤◌, ◌<◌, ℕ, ◌+◌, nat_lt, Bool, true, false, cond, List, IsTrue, Option, Some, None, Ok, Err, if◌then◌else◌, refl}
use Rattle.std.specs.FinMap as map
use Rattle.std.proofs.Common.{sym, ◌∙◌, ap, ap₂, subst, subst₂, inl, inr, arith, le_refl}
use Rattle.std.specs.List.{AllByRecursion}
use Rattle.std.proofs.lemmas.Bool.Decides.{nat_tests}
use Rattle.kv_edge.specs.Edge.{Rose}
use Rattle.doc_model.specs.declared.document.Item.{Item}
use Rattle.doc_model.specs.declared.key.DocKey.{DocKey}
use Rattle.doc_model.specs.Keys.{key_cmp}
use Rattle.manifest_rules.specs.Catalog.{Catalog}
use Rattle.manifest_rules.specs.State.{is_kept}
use Rattle.replica_core.specs.declared.copy.CopyCore.{CopyCore}
use Rattle.replica_core.specs.declared.copy.Role.TheVariants as roles
use Rattle.magma_disk.specs.Calls.{MayLeave}
use Rattle.magma_disk.specs.Counting.{Counts}
use Rattle.magma_disk.specs.Device.{Device}
use Rattle.magma_disk.proofs.Moments.{weaker}
use Rattle.magma_store.specs.declared.fault.StoreFault.TheVariants as fault
use Rattle.magma_store.specs.declared.meta.Meta.{Meta}
use Rattle.magma_store.specs.Held.{Held, IsStore, with_items}
use Rattle.magma_store.specs.Layout as layouts
use Rattle.magma_store.specs.Layout.{write_size, needed_for}
use Rattle.magma_store.specs.Spots.{spots_size}
use Rattle.magma_store.specs.Store.{Shown, IsOpen, Either, written}
use Rattle.magma_store.proofs.Weights.{opened_size}
use Rattle.vb_log.specs.declared.entry.Pending.{Pending}
use Rattle.vb_log.specs.Content.{Content, has_collection}
use Rattle.vb_log.specs.Held.{items_size}
use Rattle.vb_log.specs.Logs.{folds}
use Rattle.vb_log.specs.Prepares.{IsAllowedPending}
use Rattle.copy_model.specs.Copies.{Copy, Pair, Luck, Fine, DiskFails, fails_disk}
use Rattle.copy_model.specs.Disk.{Put, Done, Failed, pair_at, on_disk, needed, free, without_room, write_log, dead_with}
use Rattle.vb_core.specs.Coming.{next_layout, Leaves, Rests}
use Rattle.vb_core.specs.Flat.{flat, size_of_write, tail_of}
use Rattle.vb_core.specs.Means.{Stands, Stopped, Shows, beneath, MadeUpTo}
use Rattle.vb_core.specs.Noting.{IsBatchOf, IsBegun, IsPutDown, HasNoRoom, IsStopped}
use Rattle.vb_core.specs.Pairs.{IsTail, IsPair, HoldsPair, HoldsOf}
use Rattle.vb_core.specs.Putting.{IsMetaOf, IsPut, Puts}
use Rattle.vb_core.specs.Shown.{ShownVb, IsFit}
use Rattle.vb_core.proofs.Batching.{items_are, size_is, log_is, shows_after}
use Rattle.vb_core.proofs.Resting.{IsOwnOf, own_of, store_holds, stands_leaves, stays_put, left_at_last}

-- ---- the pair

-- the pair that a copy's log makes on disk
abbrev pub next_pair : Copy Content ℕ → Pair Content ℕ
next_pair copy = pair_at copy.accepted (next_layout copy) copy

-- an active copy's log is to be put on disk, as this batch
pub record IsPutting {D : Type 0} (states : D → List Device) (vb : ShownVb D) (copy : Copy Content ℕ) (meta : Meta) (batch : List Item) : Type 0 where
  pub stands : Stands states vb copy
  pub fit : IsFit vb.store.meta vb.core vb.recent vb.seen
  pub meta_is : IsMetaOf vb.core vb.recent meta
  pub of : IsBatchOf vb.recent meta batch

manifest_is : {D : Type 0} (states : D → List Device) (vb : ShownVb D) (copy : Copy Content ℕ) → Stands states vb copy → vb.recent.manifest ≡ copy.log.manifest
manifest_is states vb copy s = ap (λ (c : Content). c.manifest) s.shows.others

tail_is : {D : Type 0} (states : D → List Device) (vb : ShownVb D) (copy : Copy Content ℕ) (meta : Meta) (batch : List Item) → IsPutting states vb copy meta batch → meta.tail ≡ tail_of copy.log
tail_is states vb copy meta batch p = p.meta_is.tail_is ∙ ap (λ (c : Content). tail_of c) p.stands.shows.others

written_size : {D : Type 0} (states : D → List Device) (vb : ShownVb D) (copy : Copy Content ℕ) (meta : Meta) (batch : List Item) → IsPutting states vb copy meta batch
    → write_size meta.tail batch ≡ size_of_write copy.anew copy.disk.log.length copy.log
written_size states vb copy meta batch p =
    let s = p.stands in
    let n : ℕ = s.held.meta.length in
    size_is vb.is_anew n vb.recent copy.log batch meta.tail p.of.by (tail_is states vb copy meta batch p)
    (items_are vb.is_anew n vb.recent copy.log vb.showing s.held.items s.shows s.on_disk s.recently)
    ∙ ap₂ (λ b k. size_of_write b k copy.log) s.anew (sym s.pair.length_is)

new_layout : {D : Type 0} (states : D → List Device) (vb : ShownVb D) (copy : Copy Content ℕ) (meta : Meta) (batch : List Item) → IsPutting states vb copy meta batch → vb.store.layout + write_size meta.tail batch ≡ next_layout copy
new_layout states vb copy meta batch p = ap₂ (λ a b. a + b) (sym p.stands.pair.layout_is) (written_size states vb copy meta batch p)

-- what the store is to hold
abbrev new_held : {D : Type 0} → ShownVb D → Meta → List Item → Held → Held
new_held vb meta batch held = written vb.is_anew vb.recent.manifest batch meta held

whole_items : {D : Type 0} (states : D → List Device) (vb : ShownVb D) (copy : Copy Content ℕ) (meta : Meta) (batch : List Item) (p : IsPutting states vb copy meta batch) → copy.log.items ≡ (new_held vb meta batch p.stands.held).items
whole_items states vb copy meta batch p =
    let s = p.stands in
    log_is vb.is_anew vb.recent copy.log vb.showing s.held.items batch s.shows p.of.stand p.of.by
    ∙ ap (λ (m : Catalog). with_items (beneath vb.is_anew m s.held.items) batch) (sym (manifest_is states vb copy s))

-- the manifest of the log, and what waits, stand beside the items
new_tail : {D : Type 0} (states : D → List Device) (vb : ShownVb D) (copy : Copy Content ℕ) (meta : Meta) (batch : List Item) (p : IsPutting states vb copy meta batch) → IsTail meta.tail copy.log.manifest copy.log.prepares
new_tail states vb copy meta batch p =
    let s = p.stands in
    record {
      kept = subst (λ (c : Catalog). IsTrue (is_kept c)) (manifest_is states vb copy s) p.of.is.kept;
      allowed = subst (λ (ps : List Pending). IsAllowedPending ps) (ap (λ (c : Content). c.prepares) s.shows.others) p.fit.waiting;
      spelled = tail_is states vb copy meta batch p;
    }

new_pair : {D : Type 0} (states : D → List Device) (vb : ShownVb D) (copy : Copy Content ℕ) (meta : Meta) (batch : List Item) (p : IsPutting states vb copy meta batch) → IsPair (new_held vb meta batch p.stands.held) (next_layout copy) (next_pair copy)
new_pair states vb copy meta batch p =
    let s = p.stands in
    let core = s.numbers.core in
    let m = p.meta_is in
    record {
      promise_is = sym (m.promise_is ∙ ap (λ (c : CopyCore). c.promise) core);
      accepted_is = sym (m.accepted_is ∙ ap (λ (c : CopyCore). c.accepted) core);
      incarnation_is = sym (m.incarnation_is ∙ ap (λ (c : CopyCore). c.incarnation) core);
      layout_is = refl;
      items_are = whole_items states vb copy meta batch p;
      tail_tells = inl (new_tail states vb copy meta batch p);
      cas_is = sym (m.cas_is ∙ ap (λ (c : Content). c.greatest_cas) s.shows.others);
      length_is = sym (m.length_is ∙ ap (λ (c : Content). c.length) s.shows.others);
    }

new_holds : {D : Type 0} (states : D → List Device) (vb : ShownVb D) (copy : Copy Content ℕ) (meta : Meta) (batch : List Item) (p : IsPutting states vb copy meta batch) (image : List ℕ)
    → IsStore (new_held vb meta batch p.stands.held) (vb.store.layout + write_size meta.tail batch) image → HoldsPair copy.chain copy.place (next_pair copy) image
new_holds states vb copy meta batch p image is = record {
  held = new_held vb meta batch p.stands.held;
  is_store = subst (λ l. IsStore (new_held vb meta batch p.stands.held) l image) (new_layout states vb copy meta batch p) is;
  pair = new_pair states vb copy meta batch p;
  chain_own = p.meta_is.chain_is ∙ ap (λ (c : CopyCore). c.chain) p.stands.numbers.core;
  place_own = p.meta_is.place_is ∙ ap (λ (c : CopyCore). c.place) p.stands.numbers.core;
}

-- a crash leaves the pair that was there, or the one that is put there
put_leaves : {D : Type 0} (states : D → List Device) (vb new : ShownVb D) (copy after : Copy Content ℕ) (meta : Meta) (batch : List Item) → IsPutting states vb copy meta batch → IsBegun states vb.is_anew vb.recent meta batch vb.store new.store
    → ((image : List ℕ) → HoldsPair copy.chain copy.place (next_pair copy) image → HoldsOf after image) → Leaves states copy after vb new
put_leaves states vb new copy after meta batch p begun holds =
    let s = p.stands in
    let old_one : Held = s.held in
    let new_one : Held = new_held vb meta batch s.held in
    weaker (Either old_one vb.store.layout new_one (vb.store.layout + write_size meta.tail batch)) (λ image. HoldsOf copy image ⊎ HoldsOf after image) (states vb.store.disk) (states new.store.disk) go
    (begun.moments s.held s.is_open)
  where
    go : (image : List ℕ) → Either p.stands.held vb.store.layout (new_held vb meta batch p.stands.held) (vb.store.layout + write_size meta.tail batch) image → HoldsOf copy image ⊎ HoldsOf after image
    go image (inl is) = inl (store_holds states vb copy p.stands image (own_of states vb copy p.fit p.stands) is)
    go image (inr is) = inr (holds image (new_holds states vb copy meta batch p image is))

-- ---- room

not_less : (a b : ℕ) → b ≤ a → nat_lt a b ≡ false
not_less a b most = grind (arith, nat_tests)

less : (a b : ℕ) → a < b → nat_lt a b ≡ true
less a b below = grind (arith, nat_tests)

needed_is : {D : Type 0} (states : D → List Device) (vb : ShownVb D) (copy : Copy Content ℕ) (meta : Meta) (batch : List Item) → IsPutting states vb copy meta batch
    → needed_for vb.store.layout (write_size meta.tail batch) ≡ needed folds (flat copy.chain) copy
needed_is states vb copy meta batch p = ap₂ needed_for (sym p.stands.pair.layout_is) (written_size states vb copy meta batch p)

free_is : {D : Type 0} (states : D → List Device) (vb : ShownVb D) (copy : Copy Content ℕ) → Stands states vb copy → layouts.free vb.store.layout ≡ free (flat copy.chain) copy
free_is states vb copy s = ap layouts.free (sym s.pair.layout_is)

-- a write where there is room, and where there is none
with_room : (copy : Copy Content ℕ) (luck : Luck ℕ) (term : ℕ) → needed folds (flat copy.chain) copy ≤ free (flat copy.chain) copy
    → write_log folds (flat copy.chain) luck term copy
    ≡ (if fails_disk luck.chance then Failed (dead_with (Some (pair_at term luck.layout copy)) copy) else Done (on_disk (pair_at term luck.layout copy) copy))
with_room copy luck term most =
    ap
    (λ (b : Bool). cond b (without_room folds (flat copy.chain) luck copy)
    (cond (fails_disk luck.chance) (Failed (dead_with (Some (pair_at term luck.layout copy)) copy)) (Done (on_disk (pair_at term luck.layout copy) copy))))
    (not_less (free (flat copy.chain) copy) (needed folds (flat copy.chain) copy) most)

with_none : (copy : Copy Content ℕ) (luck : Luck ℕ) (term : ℕ) → free (flat copy.chain) copy < needed folds (flat copy.chain) copy
    → write_log folds (flat copy.chain) luck term copy ≡ without_room folds (flat copy.chain) luck copy
with_none copy luck term below =
    ap
    (λ (b : Bool). cond b (without_room folds (flat copy.chain) luck copy)
    (cond (fails_disk luck.chance) (Failed (dead_with (Some (pair_at term luck.layout copy)) copy)) (Done (on_disk (pair_at term luck.layout copy) copy))))
    (less (free (flat copy.chain) copy) (needed folds (flat copy.chain) copy) below)

-- ---- done

-- a vbucket once its log is on disk
abbrev pub put_done : {D : Type 0} → ShownVb D → Shown D → ShownVb D
put_done vb store = record vb {
  store = store;
  recent = record vb.recent { items = map.empty };
  showing = spots_size store.spots;
  is_anew = false;
  unflushed_entries = 0;
  unflushed_bytes = 0;
}

up_to_all : (n : ℕ) (m o : map.FinMap key_cmp Item) → m ≡ o → MadeUpTo n m → MadeUpTo n o
up_to_all n m o same up key item at = up key item (ap (λ (x : map.FinMap key_cmp Item). map.get x key) same ∙ at)

none_at : (n : ℕ) (key : DocKey) (item : Item) → map.get (map.empty {X = Item} {R = key_cmp}) key ≡ Some item → n < item.seqno
none_at n key item at = let none : map.get (map.empty {X = Item} {R = key_cmp}) key ≡ None = map.get-empty key_cmp key in absurd (cc)

pub done_stands : {D : Type 0} (states : D → List Device) (vb : ShownVb D) (copy : Copy Content ℕ) (meta : Meta) (store : Shown D) (d : IsPutDown states vb.is_anew vb.recent meta vb.store store)
    → IsPutting states vb copy meta d.batch → Stands states (put_done vb store) (on_disk (next_pair copy) copy)
done_stands states vb copy meta store d p =
    let s = p.stands in
    let items : copy.log.items ≡ (new_held vb meta d.batch s.held).items = whole_items states vb copy meta d.batch p in
    let length_is : meta.length ≡ copy.log.length = p.meta_is.length_is ∙ ap (λ (c : Content). c.length) s.shows.others in
    let manifest : vb.recent.manifest ≡ copy.log.manifest = manifest_is states vb copy s in
    let is_open : IsOpen states (new_held vb meta d.batch s.held) store = d.done s.held s.is_open in
    record {
      active = s.active;
      numbers = record { core = s.numbers.core; number = s.numbers.number; seen = s.numbers.seen };
      held = new_held vb meta d.batch s.held;
      is_open = is_open;
      pair = subst (λ l. IsPair (new_held vb meta d.batch s.held) l (next_pair copy)) (sym (d.layout ∙ new_layout states vb copy meta d.batch p)) (new_pair states vb copy meta d.batch p);
      torn = s.torn;
      whole = s.whole;
      told = λ _. new_tail states vb copy meta d.batch p;
      shows =
          subst (λ (m : map.FinMap key_cmp Item). Shows (record vb.recent { items = map.empty }) (spots_size store.spots) (beneath false copy.log.manifest m) copy.log) items
          (shows_after vb.is_anew vb.recent copy.log vb.showing (spots_size store.spots) s.held.items d.batch s.shows p.of.stand p.of.by
          (subst (λ (c : Catalog). IsTrue (is_kept c)) manifest p.of.is.kept)
          (subst (λ (c : Catalog). AllByRecursion (λ (i : Item). IsTrue (has_collection c i.key.collection)) d.batch) manifest p.of.is.present)
          (opened_size store.spots (new_held vb meta d.batch s.held).items store.layout (states store.disk) is_open.spots ∙ ap items_size (sym items)));
      made = s.made;
      on_disk = λ e. up_to_all meta.length copy.log.items (new_held vb meta d.batch s.held).items items (subst (λ n. MadeUpTo n copy.log.items) (sym length_is) s.made);
      longer = λ e. subst (λ n. n ≤ copy.log.length) (sym length_is) (le_refl copy.log.length);
      recently = λ e key item at. none_at meta.length key item at;
      anew = refl;
      inherited = s.inherited;
      entries = refl;
      bytes = refl;
    }

-- the log was put on disk
pub puts_done : {D : Type 0} (states : D → List Device) (counts : D → Counts) (vb : ShownVb D) (copy : Copy Content ℕ) (meta : Meta) (store : Shown D)
    → IsPutDown states vb.is_anew vb.recent meta vb.store store → Stands states vb copy → IsFit vb.store.meta vb.core vb.recent vb.seen → IsMetaOf vb.core vb.recent meta
    → Puts states counts copy vb (put_done vb store) (Ok tt)
puts_done states counts vb copy meta store d s fit m =
    let p : IsPutting states vb copy meta d.batch = record { stands = s; fit = fit; meta_is = m; of = d.begun.of } in
    let luck : Luck ℕ = record { chance = Fine; layout = next_layout copy } in
    let room : needed folds (flat copy.chain) copy ≤ free (flat copy.chain) copy = subst₂ (λ a b. a ≤ b) (needed_is states vb copy meta d.batch p) (free_is states vb copy s) d.room in
    record {
      luck = luck;
      goes =
          subst (λ (w : Put (Copy Content ℕ)). IsPut states copy vb (put_done vb store) w (Ok tt)) (sym (with_room copy luck copy.accepted room))
          (done_stands states vb copy meta store d p, put_leaves states vb (put_done vb store) copy (on_disk (next_pair copy) copy) meta d.batch p d.begun (λ image h. (next_pair copy, inl refl, h)));
      layout = refl;
      sufficed = refl;
      cause = λ faulted. absurd (cc);
    }

-- ---- no room, and no memory

pub puts_full : {D : Type 0} (states : D → List Device) (counts : D → Counts) (vb new : ShownVb D) (copy : Copy Content ℕ) (meta : Meta) (store : Shown D) (asked left : ℕ)
    → HasNoRoom vb.recent meta vb.store store asked left → Stands states vb copy → IsFit vb.store.meta vb.core vb.recent vb.seen → IsMetaOf vb.core vb.recent meta → Rests states vb new
    → Puts states counts copy vb new (Err (fault.Full asked left))
puts_full states counts vb new copy meta store asked left h s fit m rests =
    let p : IsPutting states vb copy meta h.batch = record { stands = s; fit = fit; meta_is = m; of = h.of } in
    let luck : Luck ℕ = record { chance = Fine; layout = next_layout copy } in
    let needs = needed_is states vb copy meta h.batch p in
    let has = free_is states vb copy s in
    let full : free (flat copy.chain) copy < needed folds (flat copy.chain) copy = subst₂ (λ a b. a < b) has needs h.full in
    record {
      luck = luck;
      goes =
          subst (λ (w : Put (Copy Content ℕ)). IsPut states copy vb new w (Err (fault.Full asked left))) (sym (with_none copy luck copy.accepted full))
          (h.asked_is ∙ needs, h.left_is ∙ has, rests);
      layout = refl;
      sufficed = refl;
      cause = λ faulted. absurd (cc);
    }

pub puts_nothing : {D : Type 0} (states : D → List Device) (counts : D → Counts) (vb new : ShownVb D) (copy : Copy Content ℕ) → Rests states vb new → Puts states counts copy vb new (Err fault.NoMemory)
puts_nothing states counts vb new copy rests = record {
  luck = record { chance = Fine; layout = next_layout copy };
  goes = rests;
  layout = refl;
  sufficed = refl;
  cause = λ faulted. absurd (cc);
}

-- ---- the disk failed

-- a vbucket whose disk failed
abbrev pub put_stopped : {D : Type 0} → ShownVb D → Shown D → ShownVb D
put_stopped vb store = record vb { store = store; core = record vb.core { role = roles.Dead } }

stopped_with : {D : Type 0} (states : D → List Device) (vb : ShownVb D) (copy : Copy Content ℕ) (torn : Option (Pair Content ℕ)) (store : Shown D) → Stands states vb copy
    → ((image : List ℕ) → MayLeave (states store.disk) image → HoldsOf (dead_with torn copy) image) → Stopped states (put_stopped vb store) (dead_with torn copy)
stopped_with states vb copy torn store s leaves = record {
  dead = refl;
  numbers = record { core = ap (λ (c : CopyCore). record c { role = roles.Dead }) s.numbers.core; number = s.numbers.number; seen = s.numbers.seen };
  leaves = leaves;
}

-- a pair that the copy's disk may hold is one that it may hold once it is dead
holds_dead : {D : Type 0} (states : D → List Device) (vb : ShownVb D) (copy : Copy Content ℕ) (torn : Option (Pair Content ℕ)) (image : List ℕ) → Stands states vb copy → HoldsOf copy image → HoldsOf (dead_with torn copy) image
holds_dead states vb copy torn image s (d, may, h) = (d, go may, h)
  where
    go : (copy.disk ≡ d) ⊎ (copy.torn ≡ Some d) → (copy.disk ≡ d) ⊎ (torn ≡ Some d)
    go (inl e) = inl e
    go (inr e) = let none = s.torn in absurd (cc)

pub puts_stopped : {D : Type 0} (states : D → List Device) (counts : D → Counts) (vb : ShownVb D) (copy : Copy Content ℕ) (meta : Meta) (store : Shown D)
    → IsStopped states vb.is_anew vb.recent meta vb.store store → Stands states vb copy → IsFit vb.store.meta vb.core vb.recent vb.seen → IsMetaOf vb.core vb.recent meta
    → Rose (counts vb.store.disk).faults (counts store.disk).faults → Puts states counts copy vb (put_stopped vb store) (Err fault.DiskFault)
puts_stopped {D} states counts vb copy meta store h s fit m rose = record {
  luck = record { chance = DiskFails; layout = next_layout copy };
  goes = fares (nat_lt (free (flat copy.chain) copy) (needed folds (flat copy.chain) copy)) refl;
  layout = refl;
  sufficed = refl;
  cause = λ faulted. rose;
}
  where
    putting : IsPutting states vb copy meta h.batch
    putting = record { stands = s; fit = fit; meta_is = m; of = h.begun.of }

    own : IsOwnOf vb.store.meta copy
    own = own_of states vb copy fit s

    -- the write was begun
    moments : Leaves states copy (dead_with (Some (next_pair copy)) copy) vb (put_stopped vb store)
    moments = put_leaves states vb (put_stopped vb store) copy (dead_with (Some (next_pair copy)) copy) meta h.batch putting h.begun (λ image held. (next_pair copy, inr refl, held))

    merged : (image : List ℕ) → HoldsOf copy image ⊎ HoldsOf (dead_with (Some (next_pair copy)) copy) image → HoldsOf (dead_with (Some (next_pair copy)) copy) image
    merged image (inl old) = holds_dead states vb copy (Some (next_pair copy)) image s old
    merged image (inr now) = now

    begun : Stopped states (put_stopped vb store) (dead_with (Some (next_pair copy)) copy) × Leaves states copy (dead_with (Some (next_pair copy)) copy) vb (put_stopped vb store)
    begun = (
      stopped_with states vb copy (Some (next_pair copy)) store s
          (λ image left. merged image (left_at_last (λ i. HoldsOf copy i ⊎ HoldsOf (dead_with (Some (next_pair copy)) copy) i) (states vb.store.disk) (states store.disk) image moments left)),
      moments,
    )

    -- the disk failed before anything was written
    idle : states store.disk ≡ states vb.store.disk → Stopped states (put_stopped vb store) (dead_with None copy) × Leaves states copy (dead_with None copy) vb (put_stopped vb store)
    idle same = (
      stopped_with states vb copy None store s
          (λ image left. holds_dead states vb copy None image s (stands_leaves states vb copy s own image (subst (λ l. MayLeave l image) same left))),
      stays_put (λ image. HoldsOf copy image ⊎ HoldsOf (dead_with None copy) image) (states vb.store.disk) (states store.disk) same (λ image left. inl (stands_leaves states vb copy s own image left)),
    )

    contrary : (a b : ℕ) → nat_lt a b ≡ true → b ≤ a → ⊥
    contrary a b e most = let no_less = not_less a b most in absurd (cc)

    unwritten : nat_lt (free (flat copy.chain) copy) (needed folds (flat copy.chain) copy) ≡ true
        → (needed_for vb.store.layout (write_size meta.tail h.batch) ≤ layouts.free vb.store.layout) ⊎ (states store.disk ≡ states vb.store.disk) → states store.disk ≡ states vb.store.disk
    unwritten full (inl room) =
        absurd (contrary (free (flat copy.chain) copy) (needed folds (flat copy.chain) copy) full (subst₂ (λ a b. a ≤ b) (needed_is states vb copy meta h.batch putting) (free_is states vb copy s) room))
    unwritten full (inr same) = same

    fares : (b : Bool) → nat_lt (free (flat copy.chain) copy) (needed folds (flat copy.chain) copy) ≡ b
        → IsPut states copy vb (put_stopped vb store) (cond b (Failed (dead_with None copy)) (Failed (dead_with (Some (next_pair copy)) copy))) (Err fault.DiskFault)
    fares true full = idle (unwritten full h.room)
    fares false room = begun
