-- What a memory remembers of a copy whose log has one entry more.
use Rattle.std.specs.Prelude.{◌≡◌, ℕ, ◌+◌, ◌≤◌, true, false, map as list_map, Option, Some, None, Result, Ok, Err, refl}
use Rattle.std.proofs.Common.{inl, inr, sym, ◌∙◌, ap, arith}
use Rattle.doc_model.specs.declared.status.Status.{Status}
use Rattle.manifest_rules.specs.Applying.{text_step}
use Rattle.manifest_rules.specs.Rules.{Step}
use Rattle.vb_log.specs.declared.entry.Entry.{Entry}
use Rattle.vb_log.specs.declared.entry.Entry.TheVariants as entries
use Rattle.vb_log.specs.Content.{Content, with_entry, with_step}
use Rattle.vb_log.specs.Sizes.{entry_length}
use Rattle.vb_log.specs.Logs.{folds}
use Rattle.durability_core.specs.Tracking.{Tracked}
use Rattle.replica_core.specs.declared.copy.CopyCore.{CopyCore}
use Rattle.replica_core.specs.Terms.{is_active}
use Rattle.copy_model.specs.Copies.{Copy}
use Rattle.copy_model.specs.Entries as small
use Rattle.copy_memory.specs.Remembers.{Remembers}
use Rattle.copy_memory.specs.Shown.{ShownMemory, is_plain, grown}
use Rattle.copy_memory.specs.Tickets.{WasGiven, AreTickets}
use Rattle.copy_memory.specs.Tracks.{HasTracker, prepared_of}
use Rattle.copy_memory.proofs.Room.{one_longer}

-- ---- entries that neither prepare nor settle

step_prepares : (c : Content) (step : Result Step Status) → (with_step c step).prepares ≡ c.prepares
step_prepares c (Ok step) = refl
step_prepares c (Err why) = refl

-- leave the changes that wait as they are
pub plain_prepares : (c : Content) (e : Entry) → is_plain e ≡ true → (with_entry c e).prepares ≡ c.prepares
plain_prepares c (entries.Mutation key doc) h = refl
plain_prepares c (entries.Deletion key cas) h = refl
plain_prepares c (entries.Prepare key what level) h = absurd (cc)
plain_prepares c (entries.Commit of) h = absurd (cc)
plain_prepares c (entries.Abort of) h = absurd (cc)
plain_prepares c (entries.Manifest text) h = step_prepares c (text_step c.manifest text)

-- ---- what stands of a longer log

-- a ticket that was given out stays so
given_later : (accepted length more : ℕ) (term prepare : ℕ) → length ≤ more
    → WasGiven accepted length (record { term = term; prepare = prepare }) → WasGiven accepted more (record { term = term; prepare = prepare })
given_later accepted length more term prepare le (inl earlier) = inl earlier
given_later accepted length more term prepare le (inr now) = inr (now.0, omega arith)

-- what is kept of tickets is right for a longer log
pub longer_tickets : (m : ShownMemory) (c : Copy Content ℕ) (more : ℕ) → c.log.length ≤ more
    → AreTickets m.tickets c.role c.accepted c.log.length c.tickets → AreTickets m.tickets c.role c.accepted more c.tickets
longer_tickets m c more le h = record {
  fates = h.fates;
  given = λ name was. given_later c.accepted c.log.length more name.term name.prepare le (h.given name was);
}

-- a copy that isn't active has no tracker, whatever its log
pub no_tracker : (t : Option Tracked) (c d : Copy Content ℕ) → is_active c.role ≡ false → d.role ≡ c.role → HasTracker t c → HasTracker t d
no_tracker None c d idle same h = ap is_active same ∙ idle
no_tracker (Some t) c d idle same h = absurd (let e = h.0 in cc (e, idle))

-- an active copy's tracker is right for its longer log, where the same changes wait
pub longer_tracker : (t : Option Tracked) (e : Entry) (c : Copy Content ℕ) → is_plain e ≡ true → HasTracker t c → HasTracker t (small.grown folds e c)
longer_tracker None e c plain h = h
longer_tracker (Some t) e c plain h =
    let longer = one_longer c.log e in (
      h.0,
      record {
        chain = h.1.chain;
        own = h.1.own;
        as_many = h.1.as_many;
        others = h.1.others;
        in_range = h.1.in_range;
        own_mem = let le = h.1.own_mem in omega arith;
        own_disk = h.1.own_disk;
        knows_own = h.1.knows_own;
        waiting = h.1.waiting ∙ ap (list_map prepared_of) (sym (plain_prepares c.log e plain));
        deadlines = h.1.deadlines;
        inherited = h.1.inherited;
        base = let le = h.1.base in omega arith;
      },
    )

-- ---- one entry more

-- a memory with one entry more, of a copy that has it, where the tracker is right for it
pub grows : (m : ShownMemory) (c : Copy Content ℕ) (e : Entry) → HasTracker m.tracker (small.grown folds e c) → Remembers m c → Remembers (grown e m) (small.grown folds e c)
grows m c e tracker r =
    let longer = one_longer c.log e in
    record {
      core = ap (λ (k : CopyCore). record k { length = (with_entry m.content e).length }) r.core
          ∙ ap (λ (l : Content). record (small.core_of folds c) { length = (with_entry l e).length }) r.log;
      number = r.number;
      log = ap (λ l. with_entry l e) r.log;
      seen = r.seen;
      inherited = r.inherited;
      tracker = tracker;
      tickets = longer_tickets m c (with_entry c.log e).length (omega arith) r.tickets;
      unspoken = r.unspoken;
      entries = ap (λ n. n + 1) r.entries;
      bytes = ap (λ n. n + entry_length e) r.bytes;
    }
