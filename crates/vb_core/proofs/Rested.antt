-- What holds of a vbucket of which nothing changed but what its disk counts and plans.
use Rattle.std.specs.Prelude.{◌≡◌, ◌⊎◌, ◌≤◌, ℕ, true, false, List, [], ◌∷◌, take, refl}
use Rattle.std.proofs.Common.{inl, inr, sym, ◌∙◌, ap, subst, arith}
use Rattle.kv_edge.specs.Edge.{Rose}
use Rattle.replica_core.specs.declared.copy.CopyCore.{CopyCore}
use Rattle.magma_disk.specs.Counting.{Counts}
use Rattle.magma_disk.specs.Device.{Device}
use Rattle.magma_disk.specs.Calls.{MayLeave}
use Rattle.magma_disk.specs.Moments.{LeaveOnly, Throughout}
use Rattle.magma_disk.proofs.Moments.{started, no_more}
use Rattle.magma_store.specs.Held.{IsStore, IsOnDisk}
use Rattle.magma_store.specs.Store.{LeadTo}
use Rattle.magma_store.proofs.OneStore.{survives}
use Rattle.vb_log.specs.Content.{Content}
use Rattle.copy_model.specs.Copies.{Copy, Chance, Luck, lacks_memory}
use Rattle.copy_model.specs.Laying.{is_faulted}
use Rattle.vb_core.specs.Coming.{next_layout, Leaves, Comes, ComesWell, Rests}
use Rattle.vb_core.specs.Means.{Stands, Lives, Stopped, IsCopy}
use Rattle.vb_core.specs.Plans.{IsAtHome}
use Rattle.vb_core.specs.Pairs.{IsPair, HoldsOf}
use Rattle.vb_core.specs.Shown.{ShownVb, IsFit}

-- a vbucket that is fit is at home
pub home_of : {D : Type 0} (inside vb : ShownVb D) → inside ≡ vb
    → IsFit inside.store.meta inside.core inside.recent inside.seen → IsAtHome vb
home_of {D = D} inside vb is fit = subst (λ (v : ShownVb D). IsAtHome v) is (record { chain = fit.chain; place = fit.place })

-- luck with which nothing is written
abbrev pub luck_of : Chance → Copy Content ℕ → Luck ℕ
luck_of chance copy = record { chance = chance; layout = next_layout copy }

rose_on : (a b c : ℕ) → a ≤ b → Rose b c → Rose a c
rose_on a b c low rose = omega arith

-- a crash leaves only what has P, of a disk whose images have it
begins_so : (P : List ℕ → Type 0) (states : List Device) → ((image : List ℕ) → MayLeave states image → P image)
    → LeaveOnly P (take 1 states)
begins_so P [] h = tt
begins_so P (d ∷ past) h = (h, tt)

stays_so : (P : List ℕ → Type 0) (old new : List Device) → new ≡ old → ((image : List ℕ) → MayLeave old image → P image)
    → Throughout P old new
stays_so P old new same h = no_more P old old new (started P old (begins_so P old h)) same

module _ {D : Type 0} (states : D → List Device) where
  pub rests_none : (vb : ShownVb D) → Rests states vb vb
  rests_none vb = record { all_else = refl; same = refl }

  pub rests_then : (a b c : ShownVb D) → Rests states a b → Rests states b c → Rests states a c
  rests_then a b c first second = record {
    all_else = second.all_else ∙ ap (λ (v : ShownVb D). record v { store = record v.store { disk = c.store.disk } }) first.all_else;
    same = second.same ∙ first.same;
  }

  -- a vbucket on a disk with the same states is the same copy
  stands_on : (vb : ShownVb D) (disk : D) (copy : Copy Content ℕ) → states disk ≡ states vb.store.disk → Stands states vb copy
      → Stands states (record vb { store = record vb.store { disk = disk } }) copy
  stands_on vb disk copy same s = record {
    active = s.active;
    numbers = record { core = s.numbers.core; number = s.numbers.number; seen = s.numbers.seen };
    held = s.held;
    is_open = record {
      on_disk = subst (λ (l : List Device). IsOnDisk s.held vb.store.layout l) (sym same) s.is_open.on_disk;
      meta = s.is_open.meta;
      spots = subst (λ (l : List Device). LeadTo vb.store.spots s.held.items vb.store.layout l) (sym same) s.is_open.spots;
    };
    pair = s.pair;
    torn = s.torn;
    whole = s.whole;
    told = s.told;
    shows = s.shows;
    made = s.made;
    on_disk = s.on_disk;
    longer = s.longer;
    recently = s.recently;
    anew = s.anew;
    inherited = s.inherited;
    entries = s.entries;
    bytes = s.bytes;
  }

  lives_on : (vb : ShownVb D) (disk : D) (copy : Copy Content ℕ) → states disk ≡ states vb.store.disk → Lives states vb copy
      → Lives states (record vb { store = record vb.store { disk = disk } }) copy
  lives_on vb disk copy same l = record {
    stands = stands_on vb disk copy same l.stands;
    none_waits = l.none_waits;
    tickets = l.tickets;
    deadlines = l.deadlines;
  }

  stopped_on : (vb : ShownVb D) (disk : D) (copy : Copy Content ℕ) → states disk ≡ states vb.store.disk → Stopped states vb copy
      → Stopped states (record vb { store = record vb.store { disk = disk } }) copy
  stopped_on vb disk copy same s = record {
    dead = s.dead;
    numbers = record { core = s.numbers.core; number = s.numbers.number; seen = s.numbers.seen };
    leaves = subst (λ (l : List Device). (image : List ℕ) → MayLeave l image → HoldsOf copy image) (sym same) s.leaves;
  }

  pub lives_rest : (old new : ShownVb D) (copy : Copy Content ℕ) → Rests states old new → Lives states old copy → Lives states new copy
  lives_rest old new copy r l = subst (λ (v : ShownVb D). Lives states v copy) (sym r.all_else)
      (lives_on old new.store.disk copy r.same l)

  stopped_rest : (old new : ShownVb D) (copy : Copy Content ℕ) → Rests states old new → Stopped states old copy → Stopped states new copy
  stopped_rest old new copy r s = subst (λ (v : ShownVb D). Stopped states v copy) (sym r.all_else)
      (stopped_on old new.store.disk copy r.same s)

  pub copy_rests : (old new : ShownVb D) (copy : Copy Content ℕ) → Rests states old new → IsCopy states old copy → IsCopy states new copy
  copy_rests old new copy r is = elim is [ inl l ↦ inl (lives_rest old new copy r l) | inr s ↦ inr (stopped_rest old new copy r s) ]

  pub home_rests : (old new : ShownVb D) → Rests states old new → IsAtHome old → IsAtHome new
  home_rests old new r h = subst (λ (v : ShownVb D). IsAtHome v) (sym r.all_else) (record { chain = h.chain; place = h.place })

  -- ---- what a crash leaves

  living_leaves : (vb : ShownVb D) (copy : Copy Content ℕ) → IsAtHome vb → Stands states vb copy → (image : List ℕ)
      → MayLeave (states vb.store.disk) image → HoldsOf copy image
  living_leaves vb copy home s image on =
      let layout : vb.store.layout ≡ copy.disk.layout = sym s.pair.layout_is in
      let chain : s.held.meta.chain ≡ copy.chain = ap (λ m. m.chain) (sym s.is_open.meta) ∙ sym home.chain
      ∙ ap (λ (c : CopyCore). c.chain) s.numbers.core in
      let place : s.held.meta.place ≡ copy.place = ap (λ m. m.place) (sym s.is_open.meta) ∙ sym home.place
      ∙ ap (λ (c : CopyCore). c.place) s.numbers.core in (
        copy.disk,
        inl refl,
        record {
          held = s.held;
          is_store = subst (λ (n : ℕ). IsStore s.held n image) layout
              (survives s.held vb.store.layout (states vb.store.disk) image s.is_open.on_disk on);
          pair = subst (λ (n : ℕ). IsPair s.held n copy.disk) layout s.pair;
          chain_own = chain;
          place_own = place;
        },
      )

  pub copy_leaves : (vb : ShownVb D) (copy : Copy Content ℕ) → IsAtHome vb → IsCopy states vb copy → (image : List ℕ)
      → MayLeave (states vb.store.disk) image → HoldsOf copy image
  copy_leaves vb copy home is = elim is [ inl l ↦ living_leaves vb copy home l.stands | inr s ↦ s.leaves ]

  pub rests_leaves : (old new : ShownVb D) (copy : Copy Content ℕ) → IsAtHome old → IsCopy states old copy → Rests states old new
      → Leaves states copy copy old new
  rests_leaves old new copy home is r =
      stays_so (λ (image : List ℕ). HoldsOf copy image ⊎ HoldsOf copy image) (states old.store.disk) (states new.store.disk) r.same
      (λ image on. inl (copy_leaves old copy home is image on))

  -- ---- calls that change nothing, and calls behind such

  module _ (counts : D → Counts) where
    pub rests_comes : {A : Type 0} (chance : Chance) (copy : Copy Content ℕ) (step : Luck ℕ → Copy Content ℕ × A) (old new : ShownVb D)
        (told : A)
        → IsAtHome old → IsCopy states old copy → Rests states old new → step (luck_of chance copy) ≡ (copy, told)
        → (is_faulted chance ≡ true → Rose (counts old.store.disk).faults (counts new.store.disk).faults)
        → Comes states counts copy step old new told
    rests_comes chance copy step old new told home is r goes cause = record {
      luck = luck_of chance copy;
      after = copy;
      goes = goes;
      layout = refl;
      is = copy_rests old new copy r is;
      cause = cause;
      leaves = rests_leaves old new copy home is r;
    }

    pub rests_well : {A : Type 0} (chance : Chance) (copy : Copy Content ℕ) (step : Luck ℕ → Copy Content ℕ × A) (old new : ShownVb D)
        (told : A)
        → lacks_memory chance ≡ false → IsAtHome old → IsCopy states old copy → Rests states old new
        → step (luck_of chance copy) ≡ (copy, told)
        → (is_faulted chance ≡ true → Rose (counts old.store.disk).faults (counts new.store.disk).faults)
        → ComesWell states counts copy step old new told
    unfolding rests_comes
    rests_well chance copy step old new told enough home is r goes cause = record {
      comes = rests_comes chance copy step old new told
          home is r goes cause;
      sufficed = enough;
    }

    -- a call by another step that goes alike, perhaps with other luck, behind a call that changed nothing
    pub comes_behind : {A : Type 0} (copy : Copy Content ℕ) (step other : Luck ℕ → Copy Content ℕ × A) (old mid new : ShownVb D)
        (told : A) (fit : Luck ℕ → Luck ℕ)
        → Rests states old mid → (counts old.store.disk).faults ≤ (counts mid.store.disk).faults
        → ((luck : Luck ℕ) → other (fit luck) ≡ step luck)
        → ((luck : Luck ℕ) → (fit luck).layout ≡ luck.layout)
        → ((luck : Luck ℕ) → is_faulted (fit luck).chance ≡ true → is_faulted luck.chance ≡ true)
        → ((luck : Luck ℕ) → lacks_memory (fit luck).chance ≡ lacks_memory luck.chance)
        → ComesWell states counts copy step mid new told → ComesWell states counts copy other old new told
    comes_behind copy step other old mid new told fit r low same layout cause enough h = record {
      comes = record {
        luck = fit h.comes.luck;
        after = h.comes.after;
        goes = same h.comes.luck ∙ h.comes.goes;
        layout = layout h.comes.luck ∙ h.comes.layout;
        is = h.comes.is;
        cause = λ e. rose_on (counts old.store.disk).faults (counts mid.store.disk).faults (counts new.store.disk).faults low
            (h.comes.cause (cause h.comes.luck e));
        leaves = subst (λ (l : List Device). Throughout (λ image. HoldsOf copy image ⊎ HoldsOf h.comes.after image) l
            (states new.store.disk)) r.same h.comes.leaves;
      };
      sufficed = enough h.comes.luck ∙ h.sufficed;
    }
