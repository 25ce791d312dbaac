-- A vbucket of which nothing changed but what its disk counts, and what a crash leaves of one.
use Rattle.std.specs.Prelude.{◌≡◌, ◌⊎◌, ℕ, List, [], ◌∷◌, ◌++◌, take, refl}
use Rattle.std.proofs.Common.{sym, ◌∙◌, ap, subst, inl, inr}
use Rattle.replica_core.specs.declared.copy.CopyCore.{CopyCore}
use Rattle.magma_disk.specs.Calls.{MayLeave}
use Rattle.magma_disk.specs.Device.{Device}
use Rattle.magma_disk.specs.Moments.{LeaveOnly, Throughout}
use Rattle.magma_disk.proofs.Moments.{started, no_more}
use Rattle.magma_store.specs.declared.meta.Meta.{Meta}
use Rattle.magma_store.specs.Held.{Held, IsOnDisk, IsStore}
use Rattle.magma_store.specs.Store.{Shown, IsOpen, LeadTo}
use Rattle.magma_store.proofs.OneStore.{survives}
use Rattle.vb_log.specs.Content.{Content}
use Rattle.copy_model.specs.Copies.{Copy}
use Rattle.vb_core.specs.Coming.{Leaves, Rests}
use Rattle.vb_core.specs.Means.{Stands, Lives, Stopped, IsCopy}
use Rattle.vb_core.specs.Openings.{IsAllOnDisk, HoldsSound}
use Rattle.vb_core.specs.Pairs.{IsPair, HoldsOf}
use Rattle.vb_log.specs.Contents.{IsWhole}
use Rattle.vb_core.specs.Shown.{ShownVb, IsFit}

-- ---- moments

-- what a crash now leaves has P
pub leave_now : (P : List ℕ → Type 0) (states : List Device) → ((image : List ℕ) → MayLeave states image → P image) → LeaveOnly P (take 1 states)
leave_now P [] h = tt
leave_now P (d ∷ past) h = (λ image left. h image left, tt)

-- nothing was written
pub stays_put : (P : List ℕ → Type 0) (old new : List Device) → new ≡ old → ((image : List ℕ) → MayLeave old image → P image) → Throughout P old new
stays_put P old new same h = no_more P old old new (started P old (leave_now P old h)) same

-- at the later of two moments a crash leaves what has P
pub left_at_last : (P : List ℕ → Type 0) (old new : List Device) (image : List ℕ) → Throughout P old new → MayLeave new image → P image
left_at_last P old new image run left = go run.added run.each (subst (λ l. MayLeave l image) run.goes_on left)
  where
    first : (states : List Device) → LeaveOnly P (take 1 states) → MayLeave states image → P image
    first [] only may = absurd may
    first (d ∷ past) only may = only.0 image may

    go : (added : List Device) → LeaveOnly P added → MayLeave (added ++ old) image → P image
    go [] each may = first old run.begins may
    go (d ∷ more) each may = each.0 image may

-- ---- a vbucket that rests

pub rests_open : {D : Type 0} (states : D → List Device) (held : Held) (old : Shown D) (disk : D) → states disk ≡ states old.disk → IsOpen states held old → IsOpen states held (record old { disk = disk })
rests_open states held old disk same is = record {
  on_disk = subst (IsOnDisk held old.layout) (sym same) is.on_disk;
  meta = is.meta;
  spots = subst (λ l. LeadTo old.spots held.items old.layout l) (sym same) is.spots;
}

pub rests_stands : {D : Type 0} (states : D → List Device) (old new : ShownVb D) (copy : Copy Content ℕ) → Rests states old new → Stands states old copy → Stands states new copy
rests_stands {D} states old new copy r s =
    subst (λ (v : ShownVb D). Stands states v copy) (sym r.all_else)
    record {
      active = s.active;
      numbers = record { core = s.numbers.core; number = s.numbers.number; seen = s.numbers.seen };
      held = s.held;
      is_open = rests_open states s.held old.store new.store.disk r.same s.is_open;
      pair = s.pair;
      torn = s.torn;
      whole = s.whole;
      told = s.told;
      shows = s.shows;
      made = s.made;
      on_disk = s.on_disk;
      longer = s.longer;
      recently = s.recently;
      anew = s.anew;
      inherited = s.inherited;
      entries = s.entries;
      bytes = s.bytes;
    }

pub rests_lives : {D : Type 0} (states : D → List Device) (old new : ShownVb D) (copy : Copy Content ℕ) → Rests states old new → Lives states old copy → Lives states new copy
rests_lives states old new copy r l = record { stands = rests_stands states old new copy r l.stands; none_waits = l.none_waits; tickets = l.tickets; deadlines = l.deadlines }

pub rests_stopped : {D : Type 0} (states : D → List Device) (old new : ShownVb D) (copy : Copy Content ℕ) → Rests states old new → Stopped states old copy → Stopped states new copy
rests_stopped {D} states old new copy r s =
    subst (λ (v : ShownVb D). Stopped states v copy) (sym r.all_else)
    record {
      dead = s.dead;
      numbers = record { core = s.numbers.core; number = s.numbers.number; seen = s.numbers.seen };
      leaves = λ image left. s.leaves image (subst (λ l. MayLeave l image) r.same left);
    }

pub rests_is : {D : Type 0} (states : D → List Device) (old new : ShownVb D) (copy : Copy Content ℕ) → Rests states old new → IsCopy states old copy → IsCopy states new copy
rests_is states old new copy r (inl l) = inl (rests_lives states old new copy r l)
rests_is states old new copy r (inr s) = inr (rests_stopped states old new copy r s)

-- ---- what a crash leaves

-- a store is that of a copy's place
pub record IsOwnOf (meta : Meta) (copy : Copy Content ℕ) : Type 0 where
  pub chain : meta.chain ≡ copy.chain
  pub place : meta.place ≡ copy.place

pub own_of : {D : Type 0} (states : D → List Device) (vb : ShownVb D) (copy : Copy Content ℕ) → IsFit vb.store.meta vb.core vb.recent vb.seen → Stands states vb copy → IsOwnOf vb.store.meta copy
own_of states vb copy fit s = record {
  chain = sym fit.chain ∙ ap (λ (c : CopyCore). c.chain) s.numbers.core;
  place = sym fit.place ∙ ap (λ (c : CopyCore). c.place) s.numbers.core;
}

-- bytes of the store that an active copy has are those of a pair that its disk may hold
pub store_holds : {D : Type 0} (states : D → List Device) (vb : ShownVb D) (copy : Copy Content ℕ) (s : Stands states vb copy) (image : List ℕ) → IsOwnOf vb.store.meta copy → IsStore s.held vb.store.layout image → HoldsOf copy image
store_holds states vb copy s image own is =
    let layout : vb.store.layout ≡ copy.disk.layout = sym s.pair.layout_is in (
      copy.disk,
      inl refl,
      record {
        held = s.held;
        is_store = subst (λ l. IsStore s.held l image) layout is;
        pair = subst (λ l. IsPair s.held l copy.disk) layout s.pair;
        chain_own = ap (λ (m : Meta). m.chain) (sym s.is_open.meta) ∙ own.chain;
        place_own = ap (λ (m : Meta). m.place) (sym s.is_open.meta) ∙ own.place;
      },
    )

-- what a crash leaves of an active copy
pub stands_leaves : {D : Type 0} (states : D → List Device) (vb : ShownVb D) (copy : Copy Content ℕ) → Stands states vb copy → IsOwnOf vb.store.meta copy → (image : List ℕ) → MayLeave (states vb.store.disk) image → HoldsOf copy image
stands_leaves states vb copy s own image left = store_holds states vb copy s image own (survives s.held vb.store.layout (states vb.store.disk) image s.is_open.on_disk left)

-- and of one whose log is all on disk
pub all_leaves : {D : Type 0} (states : D → List Device) (vb : ShownVb D) (copy : Copy Content ℕ) → IsFit vb.store.meta vb.core vb.recent vb.seen → Lives states vb copy → IsAllOnDisk copy → (image : List ℕ) → MayLeave (states vb.store.disk) image → HoldsSound copy image
all_leaves states vb copy fit l all image left =
    let s = l.stands in
    let own = own_of states vb copy fit s in
    let layout : vb.store.layout ≡ copy.disk.layout = sym s.pair.layout_is in
    record {
      held = s.held;
      is_store = subst (λ l. IsStore s.held l image) layout (survives s.held vb.store.layout (states vb.store.disk) image s.is_open.on_disk left);
      pair = subst (λ l. IsPair s.held l copy.disk) layout s.pair;
      chain_own = ap (λ (m : Meta). m.chain) (sym s.is_open.meta) ∙ own.chain;
      place_own = ap (λ (m : Meta). m.place) (sym s.is_open.meta) ∙ own.place;
      sound = record { whole = subst IsWhole (sym all.log) s.whole; told = inr (s.told all.accepted) };
    }

pub copy_leaves : {D : Type 0} (states : D → List Device) (vb : ShownVb D) (copy : Copy Content ℕ) → IsFit vb.store.meta vb.core vb.recent vb.seen → IsCopy states vb copy → (image : List ℕ) → MayLeave (states vb.store.disk) image → HoldsOf copy image
copy_leaves states vb copy fit (inl l) image left = stands_leaves states vb copy l.stands (own_of states vb copy fit l.stands) image left
copy_leaves states vb copy fit (inr s) image left = s.leaves image left

-- a vbucket whose disk has the states that it had leaves what its copy holds
pub same_leaves : {D : Type 0} (states : D → List Device) (old new : ShownVb D) (copy after : Copy Content ℕ) → states new.store.disk ≡ states old.store.disk → IsFit old.store.meta old.core old.recent old.seen → IsCopy states old copy
    → Leaves states copy after old new
same_leaves states old new copy after same fit is =
    stays_put (λ image. HoldsOf copy image ⊎ HoldsOf after image) (states old.store.disk) (states new.store.disk) same (λ image left. inl (copy_leaves states old copy fit is image left))
