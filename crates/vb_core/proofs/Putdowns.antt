-- What putting down what was changed of late makes of a vbucket.
use Rattle.std.specs.Prelude.{◌≡◌, ℕ, List, None, Result, Ok, Err, IsErrAnd, IsErrOf, refl}
use Rattle.std.specs.FinMap as map
use Rattle.std.proofs.Common.{sym, ◌∙◌, ap, subst}
use Rattle.doc_model.specs.declared.document.Item.{Item}
use Rattle.doc_model.specs.Keys.{key_cmp}
use Rattle.replica_core.specs.declared.copy.CopyCore.{CopyCore}
use Rattle.magma_disk.specs.Counting.{Counts}
use Rattle.magma_disk.specs.Device.{Device}
use Rattle.magma_store.specs.declared.fault.StoreFault.{StoreFault}
use Rattle.magma_store.specs.declared.fault.StoreFault.TheVariants as fault
use Rattle.magma_store.specs.declared.meta.Meta.{Meta}
use Rattle.magma_store.specs.Counting.{CountsStore}
use Rattle.magma_store.specs.Store.{Shown}
use Rattle.vb_log.specs.Content.{Content}
use Rattle.copy_model.specs.Copies.{Copy}
use Rattle.vb_core.specs.Coming.{Rests}
use Rattle.vb_core.specs.Means.{Stands}
use Rattle.vb_core.specs.Noting.{PutsDown, stopped_at}
use Rattle.vb_core.specs.Putting.{IsMetaOf, Puts}
use Rattle.vb_core.specs.Shown.{ShownVb, IsFit}
use Rattle.vb_core.proofs.PutDown.{puts_nothing, puts_full, puts_stopped}

-- nothing changed at all
pub rests_whole : {D : Type 0} (states : D → List Device) (vb : ShownVb D) → Rests states vb vb
rests_whole states vb = record { all_else = refl; same = refl }

-- memory was refused before anything was done
pub puts_refused : {D : Type 0} (states : D → List Device) (counts : D → Counts) (vb : ShownVb D) (copy : Copy Content ℕ) (r : Result (Unit {0}) StoreFault) → IsErrAnd r (λ why. why ≡ fault.NoMemory) → Puts states counts copy vb vb r
puts_refused states counts vb copy (Ok u) h = absurd h
puts_refused states counts vb copy (Err why) h =
    subst (λ (f : StoreFault). Puts states counts copy vb vb (Err f)) (sym h) (puts_nothing states counts vb vb copy (rests_whole states vb))

-- the store is as it was
rests_back : {D : Type 0} (states : D → List Device) (vb : ShownVb D) (store : Shown D) → store ≡ vb.store → Rests states vb (record vb { store = store })
rests_back {D} states vb store same = record {
  all_else = ap (λ (s : Shown D). record vb { store = s }) same ∙ sym (ap (λ (s : Shown D). record vb { store = record vb.store { disk = s.disk } }) same);
  same = ap (λ (s : Shown D). states s.disk) same;
}

abbrev failed : StoreFault → Result (Unit {0}) StoreFault
failed why = Err why

-- nothing was put down
pub puts_failed : {D : Type 0} (states : D → List Device) (counts : D → Counts) (vb : ShownVb D) (copy : Copy Content ℕ) (meta : Meta) (store : Shown D) (why : StoreFault)
    → PutsDown states vb.is_anew vb.recent meta vb.store store (Err why) → Stands states vb copy → IsFit vb.store.meta vb.core vb.recent vb.seen → IsMetaOf vb.core vb.recent meta
    → CountsStore (IsErrOf (failed why) fault.DiskFault) (counts vb.store.disk) (counts store.disk)
    → Puts states counts copy vb (stopped_at why (record vb { store = store })) (Err why)
puts_failed states counts vb copy meta store fault.DiskFault h s fit m counted = puts_stopped states counts vb copy meta store h s fit m (counted.cause refl)
puts_failed states counts vb copy meta store (fault.Full asked left) h s fit m counted =
    puts_full states counts vb (record vb { store = store }) copy meta store asked left h s fit m (rests_back states vb store h.same)
puts_failed states counts vb copy meta store (fault.Damaged place found expected) h s fit m counted = absurd h
puts_failed states counts vb copy meta store (fault.Spent found) h s fit m counted = absurd h
puts_failed states counts vb copy meta store fault.OtherChain h s fit m counted = absurd h
puts_failed states counts vb copy meta store fault.NoMemory h s fit m counted =
    puts_nothing states counts vb (record vb { store = store }) copy (rests_back states vb store h)

-- ---- what holds of a vbucket

-- without items in memory
pub fit_emptied : (meta new : Meta) (core : CopyCore) (recent left : Content) (seen : ℕ) → IsFit meta core recent seen → (new.chain ≡ meta.chain) × (new.place ≡ meta.place)
    → left ≡ record recent { items = map.empty } → IsFit new core left seen
fit_emptied meta new core recent left seen fit own is =
    subst (λ (c : Content). IsFit new core c seen) (sym is)
    record {
      chain = fit.chain ∙ sym own.0;
      place = fit.place ∙ sym own.1;
      promised = fit.promised;
      term = fit.term;
      length = fit.length;
      items = λ key item at. let none : map.get (map.empty {X = Item} {R = key_cmp}) key ≡ None = map.get-empty key_cmp key in absurd (cc);
      waiting = fit.waiting;
      moment = fit.moment;
    }
