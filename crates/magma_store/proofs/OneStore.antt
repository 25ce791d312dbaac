-- A device is that of one store.
use Rattle.std.specs.Prelude.{◌≡◌, ℕ, List, [], ◌∷◌, ◌++◌, length, map as list_map}
use Rattle.std.proofs.Common.{inl, inr, sym, ap, ap₂, ◌∙◌, subst}
use Rattle.manifest_rules.specs.Catalog.{Catalog}
use Rattle.manifest_rules.proofs.States.{same_state}
use Rattle.magma_disk.specs.Device.{Device, IsImage}
use Rattle.magma_disk.specs.Calls.{MayLeave}
use Rattle.magma_disk.proofs.Images.{settled_only}
use Rattle.magma_store.specs.Changes.{Change, Sets, Writes, made_bytes, change_bytes}
use Rattle.magma_store.specs.Forms.{IsDamaged, next_form}
use Rattle.magma_store.specs.Held.{Held, first_held, with_numbers, with_items, items_left, AreDropped, Becomes, BecomesBy, records_of, IsStore, IsUnused, IsOnDisk}
use Rattle.magma_store.specs.Journal.{journal_bytes, IsJournal}
use Rattle.magma_store.proofs.OneJournal.{one_journal, GoesOn, goes_on, held_breaks}
use Rattle.magma_store.proofs.OneRecord.{one_making, one_changes, records_kept}

-- ---- what a store holds after its changes

-- a tail begins with one state at most
one_dropped : (tail a b : List ℕ) → AreDropped tail a → AreDropped tail b → a ≡ b
one_dropped tail a b (inl p) (inl q) =
    let m = p.manifest in
    let n = q.manifest in
    p.is ∙ ap (λ (c : Catalog). c.dropped_collections) (same_state m n _ _ p.at.kept q.at.kept (sym p.at.front ∙ q.at.front)) ∙ sym q.is
one_dropped tail a b (inl p) (inr q) = absurd (q.1 p.manifest p.size p.at)
one_dropped tail a b (inr p) (inl q) = absurd (p.1 q.manifest q.size q.at)
one_dropped tail a b (inr p) (inr q) = p.0 ∙ sym q.0

becomes_one : (c : Change) (old a b : Held) → Becomes c old a → Becomes c old b → a ≡ b
becomes_one (Sets numbers) old a b p q = p ∙ sym q
becomes_one (Writes is_anew numbers tail items) old a b p q =
    p.2 ∙ ap (λ dropped. written dropped) (one_dropped tail p.0 q.0 p.1 q.1) ∙ sym q.2
  where
    written : List ℕ → Held
    written dropped = record { items = with_items (items_left is_anew dropped old.items) items; meta = with_numbers numbers tail old.meta }

pub becomes_by_one : (cs : List Change) (old a b : Held) → BecomesBy cs old a → BecomesBy cs old b → a ≡ b
becomes_by_one [] old a b p q = p ∙ sym q
becomes_by_one (c ∷ cs) old a b p q = becomes_by_one cs p.0 a b p.2 (subst (λ mid. BecomesBy cs mid b) (sym (becomes_one c old p.0 q.0 p.1 q.1)) q.2)

-- ---- one store

pub one_store : (a b : Held) (m n : ℕ) (bytes : List ℕ) → IsStore a m bytes → IsStore b n bytes → (a ≡ b) × (m ≡ n)
one_store a b m n bytes p q =
    let records : records_of p.chain p.place p.changes ≡ records_of q.chain q.place q.changes = one_journal _ _ bytes p.journal q.journal in
    let first : made_bytes p.chain p.place ≡ made_bytes q.chain q.place = cc in
    let rest : list_map change_bytes p.changes ≡ list_map change_bytes q.changes = cc in
    let making = one_making p.chain q.chain p.place q.place p.history.chain_allowed q.history.chain_allowed first in
    let changes = one_changes p.changes q.changes p.history.changes_allowed q.history.changes_allowed rest in
    let begins : first_held p.chain p.place ≡ first_held q.chain q.place = ap₂ first_held making.chain making.place in (
      becomes_by_one p.changes (first_held p.chain p.place) a b p.history.becomes (subst (λ cs. BecomesBy cs (first_held p.chain p.place) b) (sym changes) (subst (λ h. BecomesBy q.changes h b) (sym begins) q.history.becomes)),
      p.size ∙ ap (λ l. length (journal_bytes l)) records ∙ sym q.size,
    )

-- ---- no store, and a damaged one

pub no_store : (held : Held) (m : ℕ) (bytes : List ℕ) → IsStore held m bytes → IsUnused bytes → ⊥
no_store held m bytes p unused =
    let none : records_of p.chain p.place p.changes ≡ [] = one_journal _ [] bytes p.journal unused in
    cc

damaged_goes_on : (ss : List (List ℕ)) (bytes : List ℕ) (place found expected : ℕ) → IsJournal ss bytes → (d : IsDamaged bytes place found expected) → GoesOn d.records ss d.rest
damaged_goes_on ss bytes place found expected j d = goes_on d.records ss d.rest j.rest d.counted j.counted d.more j.ends (sym d.parts ∙ j.parts)

pub none_damaged : (place found expected : ℕ) (bytes : List ℕ) → IsUnused bytes → IsDamaged bytes place found expected → ⊥
none_damaged place found expected bytes unused d = never d.records (damaged_goes_on [] bytes place found expected unused d)
  where
    never : (rs : List (List ℕ)) → GoesOn rs [] d.rest → ⊥
    never [] g = let all = g.all in cc
    never (r ∷ rs) g = let all = g.all in cc

pub whole_store : (held : Held) (m place found expected : ℕ) (bytes : List ℕ) → IsStore held m bytes → IsDamaged bytes place found expected → ⊥
whole_store held m place found expected bytes p d =
    let h = p.history in
    let g = damaged_goes_on (records_of p.chain p.place p.changes) bytes place found expected p.journal d in
    let b = held_breaks (next_form d.records) d.rest g.held g.behind d.left found expected g.counted g.front d.breaks in
    records_kept d.records g.held g.more p.chain p.place p.changes h.chain_allowed h.place_there h.changes_allowed g.all b.0 found expected b.1

-- ---- what is on disk

pub survives : (held : Held) (layout : ℕ) (states : List Device) (image : List ℕ) → IsOnDisk held layout states → MayLeave states image → IsStore held layout image
survives held layout [] image on left = absurd on
survives held layout (d ∷ past) image on left =
    let r = on.rests in
    let file = journal_bytes (records_of on.chain on.place on.changes) ++ r.gate ∷ r.behind in
    let same : image ≡ file = settled_only file image (subst (λ k. IsImage k image) r.is left) in
    record {
      chain = on.chain;
      place = on.place;
      changes = on.changes;
      history = on.history;
      journal = record { rest = r.gate ∷ r.behind; parts = same; counted = r.counted; ends = inl r.shut };
      size = on.size;
    }
