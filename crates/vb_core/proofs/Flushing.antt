-- What a flush makes of a vbucket that is a copy.
use Rattle.std.specs.Prelude.{◌≡◌, ℕ, nat_lt, Bool, true, false, cond, List, [], Some, None, Result, Ok, Err, refl}
use Rattle.std.proofs.Common.{sym, ◌∙◌, ap, ap₂, subst, inl, inr}
use Rattle.replica_core.specs.declared.copy.CopyCore.{CopyCore}
use Rattle.replica_core.specs.declared.copy.Role.{Role}
use Rattle.replica_core.specs.declared.copy.Role.TheVariants as roles
use Rattle.replica_core.specs.Terms.{is_active, is_dead}
use Rattle.magma_disk.specs.Counting.{Counts}
use Rattle.magma_disk.specs.Device.{Device}
use Rattle.magma_store.specs.declared.fault.StoreFault.{StoreFault}
use Rattle.magma_store.specs.declared.fault.StoreFault.TheVariants as fault
use Rattle.vb_log.specs.declared.entry.Pending.{Pending}
use Rattle.vb_log.specs.Content.{Content}
use Rattle.vb_log.specs.Logs.{folds}
use Rattle.copy_model.specs.declared.outcome.VbFault.{VbFault}
use Rattle.copy_model.specs.declared.outcome.VbFault.TheVariants as faults
use Rattle.copy_model.specs.Copies.{Copy, Luck, Fine, NoMemory, lacks_memory, fails_disk}
use Rattle.copy_model.specs.Disk.{Put, Done, NoRoom, Failed, put_then, pair_at, on_disk, needed, free, write_log, dead_with, after_flush, flushing, tells_flush}
use Rattle.copy_model.specs.Entries.{settled, committing, acknowledging}
use Rattle.copy_model.specs.Events.{flushes, flushed_to, put_told}
use Rattle.vb_core.specs.Coming.{Comes, Leaves, Rests, next_layout}
use Rattle.vb_core.specs.Flat.{flat}
use Rattle.vb_core.specs.Means.{Lives, IsCopy}
use Rattle.vb_core.specs.Noting.{fault_told}
use Rattle.vb_core.specs.Noting as noting
use Rattle.vb_core.specs.Putting.{IsPut, Puts}
use Rattle.vb_core.specs.Shown.{ShownVb, IsFit}
use Rattle.vb_core.proofs.Resting.{rests_lives, same_leaves}

-- ---- what is done

done_of : {C : Type 0} (a b : Bool) (x y z after : C) (n f : ℕ) → cond a (cond b (Failed x) (NoRoom n f)) (cond b (Failed y) (Done z)) ≡ Done after → after ≡ z
done_of true true x y z after n f e = absurd (cc)
done_of true false x y z after n f e = absurd (cc)
done_of false true x y z after n f e = absurd (cc)
done_of false false x y z after n f e = cc

-- a log that was put on disk is that of the copy
pub done_is : (copy after : Copy Content ℕ) (luck : Luck ℕ) (term : ℕ) → write_log folds (flat copy.chain) luck term copy ≡ Done after → after ≡ on_disk (pair_at term luck.layout copy) copy
done_is copy after luck term e =
    done_of (nat_lt (free (flat copy.chain) copy) (needed folds (flat copy.chain) copy)) (fails_disk luck.chance) (dead_with None copy) (dead_with (Some (pair_at term luck.layout copy)) copy)
    (on_disk (pair_at term luck.layout copy) copy) after (needed folds (flat copy.chain) copy) (free (flat copy.chain) copy) e

-- where nothing waits, nothing follows a flush
pub settles : (copy : Copy Content ℕ) → copy.role ≡ roles.Active → copy.log.prepares ≡ [] → after_flush folds copy ≡ copy
settles copy active none =
    ap (λ (r : Role). cond (is_active r) (settled folds copy) (cond (tells_flush copy) (acknowledging folds copy) copy)) active
    ∙ ap (λ (ps : List Pending). committing folds ps copy) none

-- ---- the flush

-- an active copy's flush, where memory suffices
flushes_as : (copy : Copy Content ℕ) (luck : Luck ℕ) → copy.role ≡ roles.Active → lacks_memory luck.chance ≡ false
    → flushes folds (flat copy.chain) luck copy ≡ put_told (flushed_to folds) copy (put_then (after_flush folds) (write_log folds (flat copy.chain) luck copy.accepted copy))
flushes_as copy luck active sufficed =
    let event : Copy Content ℕ × Result ℕ VbFault = put_told (flushed_to folds) copy (flushing folds (flat copy.chain) luck copy) in
    ap (λ (r : Role). cond (is_dead r) (copy, Err faults.Dead) (cond (lacks_memory luck.chance) (copy, Err faults.NoMemory) event)) active
    ∙ ap (λ (b : Bool). cond b (copy, Err faults.NoMemory) event) sufficed

-- a dead copy's flush
pub dead_flushes : (copy : Copy Content ℕ) (luck : Luck ℕ) → copy.role ≡ roles.Dead → flushes folds (flat copy.chain) luck copy ≡ (copy, Err faults.Dead)
dead_flushes copy luck dead =
    let event : Copy Content ℕ × Result ℕ VbFault = put_told (flushed_to folds) copy (flushing folds (flat copy.chain) luck copy) in
    ap (λ (r : Role). cond (is_dead r) (copy, Err faults.Dead) (cond (lacks_memory luck.chance) (copy, Err faults.NoMemory) event)) dead

-- where memory is refused
lacking_flushes : (copy : Copy Content ℕ) (layout : ℕ) → copy.role ≡ roles.Active → flushes folds (flat copy.chain) (record { chance = NoMemory; layout = layout }) copy ≡ (copy, Err faults.NoMemory)
lacking_flushes copy layout active =
    let luck : Luck ℕ = record { chance = NoMemory; layout = layout } in
    let event : Copy Content ℕ × Result ℕ VbFault = put_told (flushed_to folds) copy (flushing folds (flat copy.chain) luck copy) in
    ap (λ (r : Role). cond (is_dead r) (copy, Err faults.Dead) (cond (lacks_memory luck.chance) (copy, Err faults.NoMemory) event)) active

-- what a flush comes to, by what its write comes to
pub record Fares {D : Type 0} (states : D → List Device) (copy : Copy Content ℕ) (old new : ShownVb D) (put : Put (Copy Content ℕ)) (told : Result ℕ VbFault) : Type 0 where
  pub after : Copy Content ℕ
  pub goes : put_told (flushed_to folds) copy (put_then (after_flush folds) put) ≡ (after, told)
  pub is : IsCopy states new after
  pub leaves : Leaves states copy after old new

abbrev told : Copy Content ℕ → ℕ → Copy Content ℕ × Result ℕ VbFault
told copy n = (copy, Ok n)

abbrev full : Copy Content ℕ → ℕ → ℕ → Copy Content ℕ × Result ℕ VbFault
full copy asked left = (copy, Err (faults.Full asked left))

fares : {D : Type 0} (states : D → List Device) (copy : Copy Content ℕ) (old new : ShownVb D) (luck : Luck ℕ) (r : Result (Unit {0}) StoreFault) (put : Put (Copy Content ℕ)) → Lives states old copy
    → IsFit old.store.meta old.core old.recent old.seen → write_log folds (flat copy.chain) luck copy.accepted copy ≡ put → IsPut states copy old new put r → (r ≡ Err fault.NoMemory → ⊥)
    → Fares states copy old new put (noting.put_told new.core.length r)
fares states copy old new luck (Ok u) (Done after) l fit e is memory =
    let done = done_is copy after luck copy.accepted e in
    let s = is.0 in
    let log : after.log ≡ copy.log = ap (λ (c : Copy Content ℕ). c.log) done in
    let none : after.log.prepares ≡ [] = ap (λ (c : Content). c.prepares) log ∙ l.none_waits in
    let same : after_flush folds after ≡ after = settles after s.active none in
    let disk : after.disk.log ≡ after.log = ap (λ (c : Copy Content ℕ). c.disk.log) done ∙ sym log in
    let counted : after.disk.log.length ≡ new.core.length = ap (λ (c : Content). c.length) disk ∙ sym (ap (λ (c : CopyCore). c.length) s.numbers.core) in
    record {
      after = after;
      goes = ap (flushed_to folds) same ∙ ap (told after) counted;
      is = inl (record {
        stands = s;
        none_waits = none;
        tickets = ap (λ (c : Copy Content ℕ). c.tickets) done ∙ l.tickets;
        deadlines = ap (λ (c : Copy Content ℕ). c.deadlines) done ∙ l.deadlines;
      });
      leaves = is.1;
    }
fares states copy old new luck (Ok u) (NoRoom n f) l fit e is memory = absurd is
fares states copy old new luck (Ok u) (Failed after) l fit e is memory = absurd is
fares states copy old new luck (Err (fault.Full asked left)) (NoRoom n f) l fit e is memory = record {
  after = copy;
  goes = ap₂ (λ a b. full copy a b) (sym is.0) (sym is.1);
  is = inl (rests_lives states old new copy is.2 l);
  leaves = same_leaves states old new copy copy (is.2).same fit (inl l);
}
fares states copy old new luck (Err (fault.Full asked left)) (Done after) l fit e is memory = absurd is
fares states copy old new luck (Err (fault.Full asked left)) (Failed after) l fit e is memory = absurd is
fares states copy old new luck (Err fault.DiskFault) (Failed after) l fit e is memory = record { after = after; goes = refl; is = inr is.0; leaves = is.1 }
fares states copy old new luck (Err fault.DiskFault) (Done after) l fit e is memory = absurd is
fares states copy old new luck (Err fault.DiskFault) (NoRoom n f) l fit e is memory = absurd is
fares states copy old new luck (Err fault.NoMemory) put l fit e is memory = absurd (memory refl)
fares states copy old new luck (Err (fault.Damaged place found expected)) put l fit e is memory = absurd (nothing put is)
  where
    nothing : (put : Put (Copy Content ℕ)) → IsPut states copy old new put (Err (fault.Damaged place found expected)) → ⊥
    nothing (Done after) none = none
    nothing (NoRoom n f) none = none
    nothing (Failed after) none = none
fares states copy old new luck (Err (fault.Spent found)) put l fit e is memory = absurd (nothing put is)
  where
    nothing : (put : Put (Copy Content ℕ)) → IsPut states copy old new put (Err (fault.Spent found)) → ⊥
    nothing (Done after) none = none
    nothing (NoRoom n f) none = none
    nothing (Failed after) none = none
fares states copy old new luck (Err fault.OtherChain) put l fit e is memory = absurd (nothing put is)
  where
    nothing : (put : Put (Copy Content ℕ)) → IsPut states copy old new put (Err fault.OtherChain) → ⊥
    nothing (Done after) none = none
    nothing (NoRoom n f) none = none
    nothing (Failed after) none = none

-- a flush that put its log on disk, or couldn't
pub flush_comes : {D : Type 0} (states : D → List Device) (counts : D → Counts) (copy : Copy Content ℕ) (old new : ShownVb D) (r : Result (Unit {0}) StoreFault) → Lives states old copy
    → IsFit old.store.meta old.core old.recent old.seen → (r ≡ Err fault.NoMemory → Rests states old new) → Puts states counts copy old new r
    → Comes states counts copy (λ luck. flushes folds (flat copy.chain) luck copy) old new (noting.put_told new.core.length r)
flush_comes {D} states counts copy old new r l fit rests p = go r refl
  where
    well : (r ≡ Err fault.NoMemory → ⊥) → Comes states counts copy (λ luck. flushes folds (flat copy.chain) luck copy) old new (noting.put_told new.core.length r)
    well memory =
        let f = fares states copy old new p.luck r (write_log folds (flat copy.chain) p.luck copy.accepted copy) l fit refl p.goes memory in
        record {
          luck = p.luck;
          after = f.after;
          goes = flushes_as copy p.luck l.stands.active p.sufficed ∙ f.goes;
          layout = p.layout;
          is = f.is;
          cause = p.cause;
          leaves = f.leaves;
        }

    lacking : r ≡ Err fault.NoMemory → Comes states counts copy (λ luck. flushes folds (flat copy.chain) luck copy) old new (Err faults.NoMemory)
    lacking is = record {
      luck = record { chance = NoMemory; layout = next_layout copy };
      after = copy;
      goes = lacking_flushes copy (next_layout copy) l.stands.active;
      layout = refl;
      is = inl (rests_lives states old new copy (rests is) l);
      cause = λ faulted. absurd (cc);
      leaves = same_leaves states old new copy copy (rests is).same fit (inl l);
    }

    go : (q : Result (Unit {0}) StoreFault) → r ≡ q → Comes states counts copy (λ luck. flushes folds (flat copy.chain) luck copy) old new (noting.put_told new.core.length r)
    go (Ok u) e = well (λ f. absurd (cc))
    go (Err fault.DiskFault) e = well (λ f. absurd (cc))
    go (Err (fault.Full asked left)) e = well (λ f. absurd (cc))
    go (Err (fault.Damaged place found expected)) e = well (λ f. absurd (cc))
    go (Err (fault.Spent found)) e = well (λ f. absurd (cc))
    go (Err fault.OtherChain) e = well (λ f. absurd (cc))
    go (Err fault.NoMemory) e =
        subst (λ (told : Result ℕ VbFault). Comes states counts copy (λ luck. flushes folds (flat copy.chain) luck copy) old new told) (sym (ap (noting.put_told new.core.length) e)) (lacking e)

-- the flush of a dead copy, or of one whose disk failed
pub dead_comes : {D : Type 0} (states : D → List Device) (counts : D → Counts) (copy : Copy Content ℕ) (vb : ShownVb D) → IsCopy states vb copy → copy.role ≡ roles.Dead → IsFit vb.store.meta vb.core vb.recent vb.seen
    → Comes states counts copy (λ luck. flushes folds (flat copy.chain) luck copy) vb vb (Err faults.Dead)
dead_comes states counts copy vb is dead fit = record {
  luck = record { chance = Fine; layout = next_layout copy };
  after = copy;
  goes = dead_flushes copy (record { chance = Fine; layout = next_layout copy }) dead;
  layout = refl;
  is = is;
  cause = λ faulted. absurd (cc);
  leaves = same_leaves states vb vb copy copy refl fit is;
}

-- ---- a vbucket's part

pub role_of : {D : Type 0} (states : D → List Device) (vb : ShownVb D) (copy : Copy Content ℕ) → IsCopy states vb copy → vb.core.role ≡ copy.role
role_of states vb copy (inl l) = ap (λ (c : CopyCore). c.role) l.stands.numbers.core
role_of states vb copy (inr s) = ap (λ (c : CopyCore). c.role) s.numbers.core

-- one that isn't dead lives
pub lives : {D : Type 0} (states : D → List Device) (vb : ShownVb D) (copy : Copy Content ℕ) → IsCopy states vb copy → (vb.core.role ≡ roles.Dead → ⊥) → Lives states vb copy
lives states vb copy (inl l) alive = l
lives states vb copy (inr s) alive = absurd (alive (ap (λ (c : CopyCore). c.role) s.numbers.core ∙ s.dead))
