-- What committing what is ready makes of the copy that a memory is of.
use Rattle.std.specs.Prelude.{◌≡◌, ◌≢◌, ℕ, nat_eq, true, false, take_while, Option, Some, None, Result, Ok, Err, OnOk, IsTrue, refl}
use Rattle.std.proofs.Common.{sym, ◌∙◌, ap, subst, arith}
use Rattle.std.proofs.lemmas.Bool.{eqb-true}
use Rattle.std.proofs.lemmas.Bool.Decides.{nat_tests}
use Rattle.kv_edge.specs.declared.traits.NoMemory.{NoMemory}
use Rattle.durability_core.specs.Tracking.{Tracked, told, is_ready_by, positions as waiting_positions}
use Rattle.replica_core.specs.declared.copy.CopyCore.{CopyCore}
use Rattle.replica_core.specs.Terms.{is_active}
use Rattle.vb_log.specs.Content.{Content}
use Rattle.vb_log.specs.Held.{positions_rise}
use Rattle.vb_log.specs.Logs.{folds}
use Rattle.copy_model.specs.Copies.{Copy}
use Rattle.copy_model.specs.Entries.{log_length, disk_length, settled, counting}
use Rattle.copy_memory.specs.Remembers.{Remembers}
use Rattle.copy_memory.specs.Settling.{settles}
use Rattle.copy_memory.specs.Shown.{ShownMemory, Rests}
use Rattle.copy_memory.specs.Tracks.{Tracks, HasTracker}
use Rattle.copy_memory.proofs.Committing.{commits_all}
use Rattle.copy_memory.proofs.Telling.{HasMore, told_own, told_other, told_itself}

-- a memory with room for other messages is of the same copy
pub remembers_rest : (m new : ShownMemory) (c : Copy Content ℕ) → Rests m new → Remembers m c → Remembers new c
remembers_rest m new c same r = subst (λ x. Remembers x c) (sym same) record {
  core = r.core;
  number = r.number;
  log = r.log;
  seen = r.seen;
  inherited = r.inherited;
  tracker = r.tracker;
  tickets = r.tickets;
  unspoken = r.unspoken;
  entries = r.entries;
  bytes = r.bytes;
}

-- a memory is of a copy of which its tracker knows so, and that differs in what is known alone
pub with_tracker : (m : ShownMemory) (c : Copy Content ℕ) (t : Tracked) → Remembers m c → HasTracker (Some t) c → Remembers (record m { tracker = Some t }) c
with_tracker m c t r h = record {
  core = r.core;
  number = r.number;
  log = r.log;
  seen = r.seen;
  inherited = r.inherited;
  tracker = h;
  tickets = r.tickets;
  unspoken = r.unspoken;
  entries = r.entries;
  bytes = r.bytes;
}

-- an active copy has a tracker
pub active_tracker : (o : Option Tracked) (c : Copy Content ℕ) → is_active c.role ≡ true → HasTracker o c → (t : Tracked) × (o ≡ Some t) × Tracks t c
active_tracker None c active h = absurd (let z : true ≡ false = sym active ∙ h in cc)
active_tracker (Some t) c active h = (t, refl, h.1)

-- The tracker is told how far a place is, and what is ready then is committed.
pub settles_is : (m : ShownMemory) (place mem disk : ℕ) (t : Tracked) (d : Copy Content ℕ) → m.tracker ≡ Some t
    → Remembers (record m { tracker = Some (told place mem disk t) }) d → positions_rise m.content.prepares ≡ true
    → Remembers (settles place mem disk m) (settled folds d)
settles_is m place mem disk t d has r rise =
    subst (λ o. Remembers (settles place mem disk (record m { tracker = o })) (settled folds d)) (sym has)
    (commits_all t.waiting d.log.prepares (is_ready_by t.chain t.own (told place mem disk t).known)
    (waiting_positions (take_while (is_ready_by t.chain t.own (told place mem disk t).known) t.waiting)) (told place mem disk t)
    (record m { tracker = Some (told place mem disk t) }) d (λ w. refl) r refl refl refl
    (ap (λ (l : Content). positions_rise l.prepares) (sym r.log) ∙ rise))

-- a copy has as much on disk as it has
same_disk : (c : Copy Content ℕ) → HasMore c c
same_disk c = record {
  chain = refl;
  place = refl;
  known = refl;
  log_length_is = refl;
  prepares = refl;
  deadlines = refl;
  inherited = refl;
  more = (omega arith);
}

-- told how far its own copy is
pub settles_own : (m : ShownMemory) (c : Copy Content ℕ) (place mem on_disk : ℕ) → Remembers m c → is_active c.role ≡ true → place ≡ m.core.place → mem ≡ m.core.length
    → disk_length folds c ≡ on_disk → positions_rise m.content.prepares ≡ true → Remembers (settles place mem on_disk m) (settled folds c)
settles_own m c place mem on_disk r active is_place is_mem disk rise =
    let found = active_tracker m.tracker c active r.tracker in
    let t = found.0 in
    subst (λ p. Remembers (settles p mem on_disk m) (settled folds c)) (sym (is_place ∙ ap (λ (k : CopyCore). k.place) r.core))
    (subst (λ n. Remembers (settles c.place n on_disk m) (settled folds c)) (sym (is_mem ∙ ap (λ (k : CopyCore). k.length) r.core))
    (subst (λ n. Remembers (settles c.place (log_length folds c) n m) (settled folds c)) disk
    (settles_is m c.place (log_length folds c) (disk_length folds c) t c found.1
    (with_tracker m c (told c.place (log_length folds c) (disk_length folds c) t) r (active, told_own t c c found.2 (same_disk c))) rise)))

-- a memory of a copy is that of the one that counts how far a place is, but for the tracker
counts_too : (m : ShownMemory) (c : Copy Content ℕ) (t : Tracked) (place mem disk : ℕ) → Remembers m c → HasTracker (Some t) (counting place mem disk c)
    → Remembers (record m { tracker = Some t }) (counting place mem disk c)
counts_too m c t place mem disk r h = record {
  core = r.core;
  number = r.number;
  log = r.log;
  seen = r.seen;
  inherited = r.inherited;
  tracker = h;
  tickets = r.tickets;
  unspoken = r.unspoken;
  entries = r.entries;
  bytes = r.bytes;
}

-- told by another copy how far that is
pub settles_other : (m : ShownMemory) (c : Copy Content ℕ) (place mem disk : ℕ) → Remembers m c → is_active c.role ≡ true → nat_eq place m.core.place ≡ false
    → positions_rise m.content.prepares ≡ true → Remembers (settles place mem disk m) (settled folds (counting place mem disk c))
settles_other m c place mem disk r active apart rise =
    let found = active_tracker m.tracker c active r.tracker in
    let t = found.0 in
    settles_is m place mem disk t (counting place mem disk c) found.1
    (counts_too m c (told place mem disk t) place mem disk r (active, told_other t c found.2 place mem disk differs)) rise
  where
    same_number : (n : ℕ) → nat_eq n n ≡ true
    same_number n = grind (arith, nat_tests)

    differs : c.place ≢ place
    differs same =
        let z : nat_eq place m.core.place ≡ true = ap (λ n. nat_eq place n) (ap (λ (k : CopyCore). k.place) r.core ∙ same) ∙ same_number place in
        absurd (let y : true ≡ false = sym z ∙ apart in cc)

-- what is told of the own place changes nothing that counts
pub counts_itself : (m : ShownMemory) (c : Copy Content ℕ) (mem disk : ℕ) → Remembers m c → Remembers m (counting c.place mem disk c)
counts_itself m c mem disk r = by m.tracker refl r.tracker
  where
    by : (o : Option Tracked) → m.tracker ≡ o → HasTracker o c → Remembers m (counting c.place mem disk c)
    by None e h = record {
      core = r.core;
      number = r.number;
      log = r.log;
      seen = r.seen;
      inherited = r.inherited;
      tracker = subst (λ o. HasTracker o (counting c.place mem disk c)) (sym e) h;
      tickets = r.tickets;
      unspoken = r.unspoken;
      entries = r.entries;
      bytes = r.bytes;
    }
    by (Some t) e h = record {
      core = r.core;
      number = r.number;
      log = r.log;
      seen = r.seen;
      inherited = r.inherited;
      tracker = subst (λ o. HasTracker o (counting c.place mem disk c)) (sym e) (h.0, told_itself t c mem disk h.1);
      tickets = r.tickets;
      unspoken = r.unspoken;
      entries = r.entries;
      bytes = r.bytes;
    }

-- ---- what calls end with

-- a call that told the tracker how far the own copy is
pub ends_own : (r : Result (Unit {0}) NoMemory) (m new : ShownMemory) (place mem on_disk : ℕ) → place ≡ m.core.place → mem ≡ m.core.length
    → OnOk r (Rests (settles place mem on_disk m) new) → OnOk r (IsTrue (positions_rise m.content.prepares))
    → OnOk r ((c : Copy Content ℕ) → Remembers m c → is_active c.role ≡ true → disk_length folds c ≡ on_disk → Remembers new (settled folds c))
ends_own (Ok u) m new place mem on_disk is_place is_mem same rise = λ c r active disk.
    remembers_rest (settles place mem on_disk m) new (settled folds c) same (settles_own m c place mem on_disk r active is_place is_mem disk rise)
ends_own (Err why) m new place mem on_disk is_place is_mem same rise = tt

-- a call that told it how far another is
pub ends_other : (r : Result (Unit {0}) NoMemory) (m new : ShownMemory) (place mem disk on_disk : ℕ) → nat_eq place m.core.place ≡ false
    → OnOk r (Rests (settles place mem disk m) new) → OnOk r (IsTrue (positions_rise m.content.prepares))
    → OnOk r ((c : Copy Content ℕ) → Remembers m c → is_active c.role ≡ true → disk_length folds c ≡ on_disk → Remembers new (settled folds (counting place mem disk c)))
ends_other (Ok u) m new place mem disk on_disk apart same rise = λ c r active at.
    remembers_rest (settles place mem disk m) new (settled folds (counting place mem disk c)) same (settles_other m c place mem disk r active apart rise)
ends_other (Err why) m new place mem disk on_disk apart same rise = tt

-- a call that was told of the own copy by another
pub ends_itself : (r : Result (Unit {0}) NoMemory) (m new : ShownMemory) (place mem disk on_disk : ℕ) → nat_eq place m.core.place ≡ true
    → OnOk r ((c : Copy Content ℕ) → Remembers m c → is_active c.role ≡ true → disk_length folds c ≡ on_disk → Remembers new (settled folds c))
    → OnOk r ((c : Copy Content ℕ) → Remembers m c → is_active c.role ≡ true → disk_length folds c ≡ on_disk → Remembers new (settled folds (counting place mem disk c)))
ends_itself (Ok u) m new place mem disk on_disk own ends = λ c r active at.
    subst (λ p. Remembers new (settled folds (counting p mem disk c))) (sym (eqb-true place m.core.place own ∙ ap (λ (k : CopyCore). k.place) r.core))
    (ends (counting c.place mem disk c) (counts_itself m c mem disk r) active at)
ends_itself (Err why) m new place mem disk on_disk own ends = tt
