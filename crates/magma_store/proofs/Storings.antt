-- What a record more makes of a store, on the disk and in memory.
use Rattle.std.specs.Prelude.{◌≡◌, ◌⊎◌, ℕ, ◌+◌, List, [], ◌∷◌, ◌++◌, length, take, refl}
use Rattle.std.specs.FinMap as map
use Rattle.std.specs.Int.{w64, to_be_bytes}
use Rattle.std.proofs.Common.{inl, inr, sym, ◌∙◌, ap, subst, arith, length-append}
use Rattle.doc_model.specs.declared.document.Item.{Item}
use Rattle.doc_model.specs.Keys.{key_cmp}
use Rattle.durability_core.specs.declared.chain.Chain.{Chain}
use Rattle.magma_disk.specs.Device.{Device, IsImage, settled}
use Rattle.magma_disk.specs.Moments.{Throughout, LeaveOnly}
use Rattle.magma_disk.proofs.Moments.{started, no_more}
use Rattle.magma_disk.proofs.Images.{settled_only}
use Rattle.magma_store.specs.declared.journal.TheConstants.{SHUT}
use Rattle.magma_store.specs.declared.spot.Spot.{Spot}
use Rattle.magma_store.specs.Changes.{Change, IsChange, change_bytes}
use Rattle.magma_store.specs.Held.{Held, Becomes, records_of, IsHistory, IsStore, IsOnDisk}
use Rattle.magma_store.specs.Journal.{piece_bytes, journal_bytes, IsJournal, IsAtRest, Rests}
use Rattle.magma_store.specs.Loading.{LeadIn}
use Rattle.magma_store.specs.Store.{Shown, LeadTo, IsOpen, Either}
use Rattle.magma_store.proofs.Leading.{lead_more, lead_within}
use Rattle.magma_store.proofs.Growing.{records_more, journal_len, history_more}

-- records are those of a store that holds this, and fill so many bytes
pub record IsBase (records : List (List ℕ)) (held : Held) (filled : ℕ) : Type 0 where
  pub chain : Chain
  pub place : ℕ
  pub changes : List Change
  pub records_are : records ≡ records_of chain place changes
  pub history : IsHistory held chain place changes
  pub size : filled ≡ length (journal_bytes records)

pub store_of : (records : List (List ℕ)) (held : Held) (filled : ℕ) (image : List ℕ) → IsBase records held filled → IsJournal records image → IsStore held filled image
store_of records held filled image b j = record {
  chain = b.chain;
  place = b.place;
  changes = b.changes;
  history = b.history;
  journal = subst (λ rs. IsJournal rs image) b.records_are j;
  size = b.size ∙ ap (λ rs. length (journal_bytes rs)) b.records_are;
}

pub disk_of : (records : List (List ℕ)) (held : Held) (filled : ℕ) (now : List Device) → IsBase records held filled → IsAtRest records now → IsOnDisk held filled now
disk_of records held filled [] b rests = absurd rests
disk_of records held filled (d ∷ past) b rests = record {
  chain = b.chain;
  place = b.place;
  changes = b.changes;
  history = b.history;
  rests = subst (λ rs. Rests rs d) b.records_are rests;
  size = b.size ∙ ap (λ rs. length (journal_bytes rs)) b.records_are;
}

pub lead_of : (records : List (List ℕ)) (filled : ℕ) (spots : map.FinMap key_cmp Spot) (items : map.FinMap key_cmp Item) (now : List Device) → filled ≡ length (journal_bytes records) → IsAtRest records now → LeadIn spots items (journal_bytes records)
    → LeadTo spots items filled now
lead_of records filled spots items [] size rests lead = absurd rests
lead_of records filled spots items (d ∷ past) size rests lead =
    subst (λ (e : Device). LeadTo spots items filled (e ∷ past)) (sym rests.is)
    (lead_more (journal_bytes records) (rests.gate ∷ rests.behind) filled spots items (omega arith) lead)

-- a store that holds this is open
pub open_of : {D : Type 0} (states : D → List Device) (records : List (List ℕ)) (held : Held) (store : Shown D) → IsBase records held store.layout → IsAtRest records (states store.disk) → store.meta ≡ held.meta
    → LeadIn store.spots held.items (journal_bytes records) → IsOpen states held store
open_of states records held store b rests meta lead = record {
  on_disk = disk_of records held store.layout (states store.disk) b rests;
  meta = meta;
  spots = lead_of records store.layout store.spots held.items (states store.disk) b.size rests lead;
}

-- ---- of a store that is open

-- its records, which are at rest
pub record IsBased (held : Held) (spots : map.FinMap key_cmp Spot) (filled : ℕ) (now : List Device) : Type 0 where
  pub records : List (List ℕ)
  pub base : IsBase records held filled
  pub rests : IsAtRest records now
  pub lead : LeadIn spots held.items (journal_bytes records)

based_on : (held : Held) (spots : map.FinMap key_cmp Spot) (filled : ℕ) (now : List Device) → IsOnDisk held filled now → LeadTo spots held.items filled now → IsBased held spots filled now
based_on held spots filled [] on lead = absurd on
based_on held spots filled (d ∷ past) on lead =
    let records = records_of on.chain on.place on.changes in
    record {
      records = records;
      base = record { chain = on.chain; place = on.place; changes = on.changes; records_are = refl; history = on.history; size = on.size };
      rests = on.rests;
      lead =
          lead_within (journal_bytes records) (on.rests.gate ∷ on.rests.behind) spots held.items
          (subst (λ n. LeadTo spots held.items n (settled (journal_bytes records ++ on.rests.gate ∷ on.rests.behind) ∷ past)) on.size
          (subst (λ (e : Device). LeadTo spots held.items filled (e ∷ past)) on.rests.is lead));
    }

pub based : {D : Type 0} (states : D → List Device) (held : Held) (store : Shown D) → IsOpen states held store → IsBased held store.spots store.layout (states store.disk)
based states held store is = based_on held store.spots store.layout (states store.disk) is.on_disk is.spots

-- a crash leaves the store that is at rest
rest_leaves : (records : List (List ℕ)) (d : Device) (image : List ℕ) → Rests records d → IsImage d image → IsJournal records image
rest_leaves records d image rests left =
    let whole : List ℕ = journal_bytes records ++ rests.gate ∷ rests.behind in
    let is : image ≡ whole = settled_only whole image (subst (λ (e : Device). IsImage e image) rests.is left) in
    record { rest = rests.gate ∷ rests.behind; parts = is; counted = rests.counted; ends = inl rests.shut }

begins : (P : List ℕ → Type 0) (records : List (List ℕ)) (now : List Device) → IsAtRest records now → ((image : List ℕ) → IsJournal records image → P image) → LeaveOnly P (take 1 now)
begins P records [] rests to = absurd rests
begins P records (d ∷ past) rests to = (λ image left. to image (rest_leaves records d image rests left), tt)

pub stays_same : (P : List ℕ → Type 0) (records : List (List ℕ)) (now : List Device) → IsAtRest records now → ((image : List ℕ) → IsJournal records image → P image) → Throughout P now now
stays_same P records now rests to = started P now (begins P records now rests to)

-- ---- one record more

pub base_more : (records : List (List ℕ)) (held : Held) (filled after : ℕ) (change : Change) (new : Held) → IsBase records held filled → IsChange change → Becomes change held new → after ≡ filled + (9 + length (change_bytes change))
    → IsBase (records ++ change_bytes change ∷ []) new after
base_more records held filled after change new b ok becomes grown = record {
  chain = b.chain;
  place = b.place;
  changes = b.changes ++ change ∷ [];
  records_are = ap (λ rs. rs ++ change_bytes change ∷ []) b.records_are ∙ sym (records_more b.chain b.place b.changes change);
  history = history_more held new b.chain b.place b.changes change b.history ok becomes;
  size = let s = b.size in let l = journal_len records (change_bytes change) in omega arith;
}

pub either_left : (records : List (List ℕ)) (bytes : List ℕ) (held : Held) (filled : ℕ) (new : Held) (after : ℕ) (image : List ℕ) → IsBase records held filled → IsBase (records ++ bytes ∷ []) new after
    → IsJournal records image ⊎ IsJournal (records ++ bytes ∷ []) image → Either held filled new after image
either_left records bytes held filled new after image old b (inl j) = inl (store_of records held filled image old j)
either_left records bytes held filled new after image old b (inr j) = inr (store_of (records ++ bytes ∷ []) new after image b j)

-- nothing changed
pub stays_either : (held : Held) (spots : map.FinMap key_cmp Spot) (layout : ℕ) (h now : List Device) (new : Held) (after : ℕ) → IsBased held spots layout h → now ≡ h → Throughout (Either held layout new after) h now
stays_either held spots layout h now new after b same =
    no_more (Either held layout new after) h h now (stays_same (Either held layout new after) b.records h b.rests (λ image j. inl (store_of b.records held layout image b.base j))) same

-- what stands behind a record's gate is as long as the record
pub piece_len : (held : List ℕ) → length (piece_bytes held) ≡ 9 + length held
piece_len held = let a = length-append (to_be_bytes w64 (length held)) (held ++ SHUT ∷ []) in let b = length-append held (SHUT ∷ []) in omega arith
