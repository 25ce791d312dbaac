-- The steps of an opening.
use Rattle.std.specs.Prelude.{◌≡◌, ◌⊎◌, ℕ, ◌+◌, ◌*◌, ◌≤◌, ◌<◌, List, [], ◌∷◌, ◌++◌, length, Option, Some, None, Result, Ok, Err, IfErr, IsErrAnd, refl}
use Rattle.std.specs.List.{flat_map, AllByRecursion}
use Rattle.std.specs.FinMap as map
use Rattle.std.proofs.Common.{inl, inr, sym, ◌∙◌, ap, subst, arith, length-append}
use Rattle.std.proofs.lemmas.Bool.Decides.{nat_tests}
use Rattle.durability_core.specs.declared.chain.Chain.{Chain}
use Rattle.durability_core.specs.Chains.{IsChain, IsName}
use Rattle.magma_disk.specs.declared.disk.DiskDone.{DiskDone}
use Rattle.magma_disk.specs.declared.disk.DiskDone.TheVariants as done
use Rattle.magma_disk.specs.Device.{Device, IsImage}
use Rattle.magma_disk.specs.Calls.{MayLeave, Syncs, Settles, SeesAnImage}
use Rattle.magma_disk.specs.Moments.{Throughout}
use Rattle.magma_disk.proofs.Moments.{weaker, onward, no_more}
use Rattle.magma_disk.proofs.SyncedCalls.{settle_moments}
use Rattle.magma_store.specs.declared.fault.StoreFault.{StoreFault}
use Rattle.magma_store.specs.declared.fault.StoreFault.TheVariants as fault
use Rattle.magma_store.specs.declared.kinds.TheConstants.{SPENT}
use Rattle.magma_store.specs.declared.loading.Loaded.{Loaded}
use Rattle.magma_store.specs.declared.meta.Meta.{Meta}
use Rattle.magma_store.specs.declared.opening.Opened.{Opened}
use Rattle.magma_store.specs.Changes.{Sets, AreNumbers, IsChange, name_bytes, made_bytes, change_bytes}
use Rattle.magma_store.specs.Held.{first_held, numbers_of, with_numbers, IsStore, IsUnused}
use Rattle.magma_store.specs.Journal.{IsJournal, IsAtRest, IsFile, journal_bytes, record_bytes}
use Rattle.magma_store.specs.Layout.{LaysNew, sets_size}
use Rattle.magma_store.specs.Loading.{LeadIn, Tells, TellsAll, IsLoaded, IsUnloaded}
use Rattle.magma_store.specs.Opening.{shown_at, IsFound, LeavesOpened, ComesOf, Finishes, IsOthers, MayOpen}
use Rattle.magma_store.specs.Store.{IsOwn, raised, spent_number, CanBeOpened, IsRefused, LeavesOpening, LeavesSame, LeavesDisk, Opens}
use Rattle.magma_store.proofs.Leading.{lead_none, lead_more}
use Rattle.magma_store.proofs.Growing.{journal_more, record_len}
use Rattle.magma_store.proofs.Storings.{IsBase, store_of, open_of, base_more, either_left}

-- ---- how long the record is that makes a store

names_len : (names : List (Option (List ℕ))) → AllByRecursion IsName names → length (flat_map name_bytes names) ≤ 256 * length names
names_len [] ok = omega arith
names_len (None ∷ names) ok = let rest = names_len names ok.1 in omega arith
names_len (Some name ∷ names) ok =
    let rest = names_len names ok.1 in
    let one = ok.0.1 in
    omega (arith, length-append name (flat_map name_bytes names))

pub made_len : (chain : Chain) (place : ℕ) → length (made_bytes chain place) ≡ 6 + length (flat_map name_bytes chain.names)
made_len chain place = let e = length-append (flat_map name_bytes chain.names) (place ∷ []) in omega arith

pub made_small : (chain : Chain) (place : ℕ) → IsChain chain → length (made_bytes chain place) ≤ 1030
made_small chain place ok = let l = made_len chain place in let n = names_len chain.names ok.names in let few = ok.few in omega arith

-- ---- nothing was done

pub refused : (file : List ℕ) (chain : Chain) (place : ℕ) (mid now : List Device) (why : StoreFault) → now ≡ mid → IsRefused file chain place why → Finishes file chain place mid now (Err why)
refused file chain place mid now why same is = record { moments = inl same; comes = is }

pub unloaded : (file : List ℕ) (chain : Chain) (place : ℕ) (why : StoreFault) → IsUnloaded file why → IsRefused file chain place why
unloaded file chain place fault.DiskFault is = tt
unloaded file chain place (fault.Full needed free) is = absurd is
unloaded file chain place (fault.Damaged at found expected) is = is
unloaded file chain place (fault.Spent found) is = absurd is
unloaded file chain place fault.OtherChain is = absurd is
unloaded file chain place fault.NoMemory is = tt

-- no store is there
pub none_there : (file : List ℕ) (loaded : Loaded) → loaded.meta ≡ None → IsLoaded file loaded → IsUnused file
none_there file loaded none is =
    let before : (is.0 ≡ []) × (loaded.spots ≡ map.empty) = subst (TellsAll is.0 loaded.spots) none is.1.tells in
    subst (λ rs. IsJournal rs file) before.0 is.2

-- one is
pub one_there : (file : List ℕ) (loaded : Loaded) (found : Opened) → loaded.meta ≡ Some found.meta → loaded.spots ≡ found.spots → loaded.filled ≡ found.filled → IsLoaded file loaded → IsFound file found
one_there file loaded found some spots filled is = record {
  records = is.0;
  tells = subst (λ s. Tells is.0 s found.meta) spots (subst (TellsAll is.0 loaded.spots) some is.1.tells);
  filled = sym filled ∙ is.1.filled;
  journal = is.2;
}

-- ---- a store is made

module _ (chain : Chain) (place : ℕ) (ok : IsChain chain) (there : place < length chain.names) where
  made_base : (filled : ℕ) → filled ≡ 9 + length (made_bytes chain place) → IsBase (made_bytes chain place ∷ []) (first_held chain place) filled
  made_base filled is = record {
    chain = chain;
    place = place;
    changes = [];
    records_are = refl;
    history = record { chain_allowed = ok; place_there = there; changes_allowed = tt; becomes = refl };
    size = let e = journal_more [] (made_bytes chain place) in let f = ap length e in let g = record_len (made_bytes chain place) in omega arith;
  }

  made_lays : (filled : ℕ) → filled ≡ 9 + length (made_bytes chain place) → LaysNew chain filled
  made_lays filled is = let a = made_len chain place in let b = made_len chain 0 in omega arith

  made_leaves : (file : List ℕ) (image : List ℕ) → IsUnused file → IsJournal [] image ⊎ IsJournal (made_bytes chain place ∷ []) image → LeavesOpened file chain place image
  made_leaves file image unused (inl j) = inr (unused, inl j)
  made_leaves file image unused (inr j) =
      let filled : ℕ = 9 + length (made_bytes chain place) in
      inr (unused, inr (filled, made_lays filled refl, store_of (made_bytes chain place ∷ []) (first_held chain place) filled image (made_base filled refl) j))

  pub made_stopped : (file : List ℕ) (mid now : List Device) → IsUnused file → Throughout (λ image. IsJournal [] image ⊎ IsJournal (made_bytes chain place ∷ []) image) mid now
      → Finishes file chain place mid now (Err fault.DiskFault)
  made_stopped file mid now unused run =
      record { moments = inr (weaker (λ image. IsJournal [] image ⊎ IsJournal (made_bytes chain place ∷ []) image) (LeavesOpened file chain place) mid now (λ image left. made_leaves file image unused left) run); comes = tt }

  pub made_done : (file : List ℕ) (mid now : List Device) (opened : Opened) → IsUnused file → Throughout (λ image. IsJournal [] image ⊎ IsJournal (made_bytes chain place ∷ []) image) mid now
      → IsAtRest (made_bytes chain place ∷ []) now → opened.meta ≡ (first_held chain place).meta → opened.spots ≡ map.empty → opened.filled ≡ 9 + length (made_bytes chain place)
      → Finishes file chain place mid now (Ok opened)
  made_done file mid now opened unused run rests meta spots filled = record {
    moments = inr (weaker (λ image. IsJournal [] image ⊎ IsJournal (made_bytes chain place ∷ []) image) (LeavesOpened file chain place) mid now (λ image left. made_leaves file image unused left) run);
    comes = inl (record {
      unused = unused;
      is_open =
          open_of (λ h. h) (made_bytes chain place ∷ []) (first_held chain place) (shown_at now opened) (made_base opened.filled filled) rests meta
          (subst (λ s. LeadIn s map.empty (journal_bytes (made_bytes chain place ∷ []))) (sym spots) (lead_none (journal_bytes (made_bytes chain place ∷ [])) (length (journal_bytes (made_bytes chain place ∷ [])))));
      lays = made_lays opened.filled filled;
    });
  }

-- ---- a store is opened once more

-- what stands beside the items, raised
abbrev pub raised_meta : Meta → Meta
raised_meta meta = record meta { incarnation = meta.incarnation + 1 }

unspent : (meta : Meta) → meta.promise < SPENT → meta.incarnation < SPENT → spent_number meta ≡ None
unspent meta p i = grind (arith, nat_tests)

pub others : (file : List ℕ) (chain : Chain) (place : ℕ) (found : Opened) (why : StoreFault) → IsFound file found → IsOthers found.meta chain place why → IsRefused file chain place why
others file chain place found why f is = go why is
  where
    t : Tells f.records found.spots found.meta
    t = f.tells

    store : IsStore t.held found.filled file
    store = store_of f.records t.held found.filled file (record { chain = t.chain; place = t.place; changes = t.changes; records_are = t.records_are; history = t.history; size = f.filled }) f.journal

    go : (why : StoreFault) → IsOthers found.meta chain place why → IsRefused file chain place why
    go fault.DiskFault is = absurd is
    go (fault.Full needed free) is = absurd is
    go (fault.Damaged at found expected) is = absurd is
    go (fault.Spent number) is = (t.held, found.filled, store, subst (λ (m : Meta). m.chain ≡ chain) t.meta_is is.0, subst (λ (m : Meta). m.place ≡ place) t.meta_is is.1, subst (λ (m : Meta). spent_number m ≡ Some number) t.meta_is is.2)
    go fault.OtherChain is = (t.held, found.filled, store, λ c p. is (subst (λ (m : Meta). m.chain ≡ chain) (sym t.meta_is) c) (subst (λ (m : Meta). m.place ≡ place) (sym t.meta_is) p))
    go fault.NoMemory is = absurd is

module _ (file : List ℕ) (chain : Chain) (place : ℕ) (found : Opened) (f : IsFound file found) (may : MayOpen found.meta chain place) (allowed : IsChange (Sets (numbers_of (raised_meta found.meta)))) where
  abbrev Raise : List ℕ
  Raise = change_bytes (Sets (numbers_of (raised_meta found.meta)))

  old_base : IsBase f.records f.tells.held found.filled
  old_base = record { chain = f.tells.chain; place = f.tells.place; changes = f.tells.changes; records_are = f.tells.records_are; history = f.tells.history; size = f.filled }

  new_base : (after : ℕ) → after ≡ found.filled + sets_size → IsBase (f.records ++ Raise ∷ []) (raised f.tells.held) after
  new_base after is =
      let held = f.tells.held in
      let becomes : raised held ≡ record held { meta = with_numbers (numbers_of (raised_meta found.meta)) held.meta.tail held.meta } =
      ap (λ (m : Meta). record held { meta = with_numbers (numbers_of (raised_meta m)) held.meta.tail held.meta }) (sym f.tells.meta_is) in
      base_more f.records held found.filled after (Sets (numbers_of (raised_meta found.meta))) (raised held) old_base allowed becomes (omega arith)

  can_open : CanBeOpened file chain place f.tells.held found.filled
  can_open = record {
    is_store = store_of f.records f.tells.held found.filled file old_base f.journal;
    chain_own = subst (λ (m : Meta). m.chain ≡ chain) f.tells.meta_is may.chain_own;
    place_own = subst (λ (m : Meta). m.place ≡ place) f.tells.meta_is may.place_own;
    unspent = subst (λ (m : Meta). spent_number m ≡ None) f.tells.meta_is (unspent found.meta may.promise may.incarnation);
  }

  raise_leaves : (image : List ℕ) → IsJournal f.records image ⊎ IsJournal (f.records ++ Raise ∷ []) image → LeavesOpened file chain place image
  raise_leaves image left =
      let after : ℕ = found.filled + sets_size in
      inl (f.tells.held, found.filled, after, can_open, refl, either_left f.records Raise f.tells.held found.filled (raised f.tells.held) after image old_base (new_base after refl) left)

  pub raise_stopped : (mid now : List Device) → Throughout (λ image. IsJournal f.records image ⊎ IsJournal (f.records ++ Raise ∷ []) image) mid now → Finishes file chain place mid now (Err fault.DiskFault)
  raise_stopped mid now run =
      record { moments = inr (weaker (λ image. IsJournal f.records image ⊎ IsJournal (f.records ++ Raise ∷ []) image) (LeavesOpened file chain place) mid now raise_leaves run); comes = tt }

  pub raise_done : (mid now : List Device) (opened : Opened) → Throughout (λ image. IsJournal f.records image ⊎ IsJournal (f.records ++ Raise ∷ []) image) mid now → IsAtRest (f.records ++ Raise ∷ []) now
      → opened.meta ≡ raised_meta found.meta → opened.spots ≡ found.spots → opened.filled ≡ found.filled + sets_size → Finishes file chain place mid now (Ok opened)
  raise_done mid now opened run rests meta spots filled =
      let grown = journal_bytes f.records ++ record_bytes Raise in
      record {
        moments = inr (weaker (λ image. IsJournal f.records image ⊎ IsJournal (f.records ++ Raise ∷ []) image) (LeavesOpened file chain place) mid now raise_leaves run);
        comes = inr (record {
          held = f.tells.held;
          layout = found.filled;
          before = can_open;
          is_open =
              open_of (λ h. h) (f.records ++ Raise ∷ []) (raised f.tells.held) (shown_at now opened) (new_base opened.filled filled) rests (meta ∙ ap raised_meta f.tells.meta_is)
              (subst (LeadIn opened.spots f.tells.held.items) (sym (journal_more f.records Raise))
              (subst (λ s. LeadIn s f.tells.held.items grown) (sym spots)
              (lead_more (journal_bytes f.records) (record_bytes Raise) (length grown) found.spots f.tells.held.items (omega (arith, length-append (journal_bytes f.records) (record_bytes Raise))) f.tells.lead)));
          lays = filled;
        });
      }

-- ---- the whole

-- the device has the bytes that a read gave, once it is synced
file_of : (d : Device) (past mid : List Device) → Syncs done.Done (d ∷ past) mid → IsFile d.bytes mid
file_of d past mid (inl same) = subst (IsFile d.bytes) (sym same.1) same.0
file_of d past mid (inr new) = subst (IsFile d.bytes) (sym new) refl

pub opening_comes : (h mid now : List Device) (chain : Chain) (place : ℕ) (result : Result Opened StoreFault) → Syncs done.Done h mid → ((file : List ℕ) → IsFile file mid → Finishes file chain place mid now result) → ComesOf h chain place now result
opening_comes [] mid now chain place result sync finishes = tt
opening_comes (d ∷ past) mid now chain place result sync finishes = (finishes d.bytes (file_of d past mid sync)).comes

silent_run : (P : List ℕ → Type 0) (now : List Device) → now ≡ [] → Throughout P [] now
silent_run P now is = record { added = []; goes_on = is; begins = tt; each = tt; silent = λ none. is }

leaves_first : (h : List Device) (chain : Chain) (place : ℕ) (image : List ℕ) → MayLeave h image → LeavesOpening h chain place image
leaves_first [] chain place image may = absurd may
leaves_first (d ∷ past) chain place image may = inl may

pub sync_moments : (r : DiskDone) (h mid : List Device) (chain : Chain) (place : ℕ) → SeesAnImage h → Syncs r h mid → Throughout (LeavesOpening h chain place) h mid
sync_moments r h mid chain place sees sync = weaker (MayLeave h) (LeavesOpening h chain place) h mid (leaves_first h chain place) (settle_moments r h mid sees sync)

pub opening_moments : (h mid now : List Device) (chain : Chain) (place : ℕ) (result : Result Opened StoreFault) → SeesAnImage h → Syncs done.Done h mid → (mid ≡ [] → now ≡ [])
    → ((file : List ℕ) → IsFile file mid → Finishes file chain place mid now result) → Throughout (LeavesOpening h chain place) h now
opening_moments [] mid now chain place result sees sync silent finishes = silent_run (LeavesOpening [] chain place) now (silent sync)
opening_moments (d ∷ past) mid now chain place result sees sync silent finishes = go (finishes d.bytes (file_of d past mid sync)).moments
  where
    first : Throughout (LeavesOpening (d ∷ past) chain place) (d ∷ past) mid
    first = sync_moments done.Done (d ∷ past) mid chain place sees sync

    go : (now ≡ mid) ⊎ Throughout (LeavesOpened d.bytes chain place) mid now → Throughout (LeavesOpening (d ∷ past) chain place) (d ∷ past) now
    go (inl same) = no_more (LeavesOpening (d ∷ past) chain place) (d ∷ past) mid now first same
    go (inr run) =
        onward (LeavesOpening (d ∷ past) chain place) (d ∷ past) mid now first
        (weaker (LeavesOpened d.bytes chain place) (LeavesOpening (d ∷ past) chain place) mid now (λ image left. inr (sees, left)) run)

pub stopped_left : (h now : List Device) → (h ≡ [] → now ≡ []) → LeavesDisk fault.DiskFault h now
stopped_left [] now silent = silent refl
stopped_left (d ∷ past) now silent = tt

-- a crash then leaves the bytes that a read gave
same_left : (d : Device) (past now : List Device) (image : List ℕ) → IsImage d d.bytes → Settles d.bytes d past now → MayLeave now image → LeavesSame d past image
same_left d past now image sees settles may =
    inl (subst (IsImage d) (sym (Rattle.magma_disk.proofs.Left.after_sync d past now image settles may)) sees)

pub opening_left : (h mid now : List Device) (chain : Chain) (place : ℕ) (why : StoreFault) → SeesAnImage h → Syncs done.Done h mid → (mid ≡ [] → now ≡ [])
    → ((file : List ℕ) → IsFile file mid → Finishes file chain place mid now (Err why)) → (why ≡ fault.DiskFault) ⊎ (now ≡ mid) → LeavesDisk why h now
opening_left h mid now chain place why sees sync silent finishes (inl stopped) = subst (λ w. LeavesDisk w h now) (sym stopped) (stopped_left h now (λ none. silent (subst (λ (l : List Device). Syncs done.Done l mid) none sync)))
opening_left [] mid now chain place why sees sync silent finishes (inr same) = same ∙ sync
opening_left (d ∷ past) mid now chain place why sees sync silent finishes (inr same) = go why (finishes d.bytes (file_of d past mid sync)).comes
  where
    settles : Settles d.bytes d past now
    settles = subst (Settles d.bytes d past) (sym same) sync

    go : (why : StoreFault) → IsRefused d.bytes chain place why → LeavesDisk why (d ∷ past) now
    go fault.DiskFault is = tt
    go (fault.Full needed free) is = absurd is
    go (fault.Damaged at found expected) is = settles
    go (fault.Spent found) is = settles
    go fault.OtherChain is = settles
    go fault.NoMemory is = λ image may. same_left d past now image sees settles may

-- ---- a store's own

pub raised_own : (chain : Chain) (place : ℕ) (meta new : Meta) → MayOpen meta chain place → AreNumbers (numbers_of meta) → new ≡ raised_meta meta → IsOwn chain place new
raised_own chain place meta new may numbers is =
    subst (IsOwn chain place) (sym is) (record {
      chain_own = may.chain_own;
      place_own = may.place_own;
      numbers = record { promised = numbers.promised; term = numbers.term };
      promise = may.promise;
      opened = omega arith;
      incarnation = let l = may.incarnation in omega arith;
    })

pub made_own : (chain : Chain) (place : ℕ) (new : Meta) → new ≡ (first_held chain place).meta → IsOwn chain place new
made_own chain place new is =
    subst (IsOwn chain place) (sym is) (record {
      chain_own = refl;
      place_own = refl;
      numbers = record { promised = omega arith; term = inl refl };
      promise = omega arith;
      opened = omega arith;
      incarnation = omega arith;
    })

-- ---- what is handed on

pub refused_on : (file : List ℕ) (chain : Chain) (place : ℕ) (mid now : List Device) (r : Result Opened StoreFault) (why : StoreFault) → IsErrAnd r (λ y. y ≡ why) → now ≡ mid → IsRefused file chain place why → Finishes file chain place mid now r
refused_on file chain place mid now (Ok opened) why handed same is = absurd handed
refused_on file chain place mid now (Err y) why handed same is = refused file chain place mid now y same (subst (IsRefused file chain place) (sym handed) is)

pub left_on : (h mid now : List Device) (chain : Chain) (place : ℕ) (r : Result Opened StoreFault) → SeesAnImage h → Syncs done.Done h mid → (mid ≡ [] → now ≡ []) → ((file : List ℕ) → IsFile file mid → Finishes file chain place mid now r)
    → IfErr r (λ why. (why ≡ fault.DiskFault) ⊎ (now ≡ mid)) → IfErr r (λ why. LeavesDisk why h now)
left_on h mid now chain place (Ok opened) sees sync silent finishes back = tt
left_on h mid now chain place (Err why) sees sync silent finishes back = opening_left h mid now chain place why sees sync silent finishes back

pub sync_failed : (h now : List Device) → Syncs done.Failed h now → now ≡ h
sync_failed [] now sync = sync
sync_failed (d ∷ past) now sync = sync

-- a store of a disk, as it was opened
pub opens_of : {D : Type 0} (states : D → List Device) (h : List Device) (chain : Chain) (place : ℕ) (disk : D) (opened : Opened) → ComesOf h chain place (states disk) (Ok opened)
    → Opens states h chain place (Ok (record { disk = disk; spots = opened.spots; meta = opened.meta; layout = opened.filled }))
opens_of states [] chain place disk opened comes = tt
opens_of states (d ∷ past) chain place disk opened (inl m) =
    inl (record { unused = m.unused; is_open = record { on_disk = m.is_open.on_disk; meta = m.is_open.meta; spots = m.is_open.spots }; lays = m.lays })
opens_of states (d ∷ past) chain place disk opened (inr m) =
    inr (record { held = m.held; layout = m.layout; before = m.before; is_open = record { on_disk = m.is_open.on_disk; meta = m.is_open.meta; spots = m.is_open.spots }; lays = m.lays })
