-- A memory and its copy when the numbers move.
use Rattle.std.specs.Prelude.{◌≡◌, ◌⊎◌, ◌<◌, ◌≤◌, ℕ, true, false, List, Option, Some, None, refl}
use Rattle.std.proofs.Common.{sym, ◌∙◌, ap, subst}
use Rattle.durability_core.specs.Tracking.{Tracked}
use Rattle.repl_wire.specs.declared.message.Sent.{Sent}
use Rattle.replica_core.specs.declared.copy.CopyCore.{CopyCore}
use Rattle.replica_core.specs.declared.copy.Role.{Role}
use Rattle.replica_core.specs.Terms.{is_active}
use Rattle.vb_log.specs.Content.{Content}
use Rattle.vb_log.specs.Logs.{folds}
use Rattle.copy_model.specs.Copies.{Copy}
use Rattle.copy_model.specs.Entries.{core_of, in_role}
use Rattle.copy_memory.specs.Moving.{GoesOn}
use Rattle.copy_memory.specs.Remembers.{Remembers}
use Rattle.copy_memory.specs.Sending.{sents_of}
use Rattle.copy_memory.specs.Shown.{ShownMemory}
use Rattle.copy_memory.specs.Tracks.{HasTracker}
use Rattle.copy_memory.proofs.Leaving.{tickets_left, tickets_taken}

-- a copy that leaves the active state has no tracker
pub leaves_memory : (m : ShownMemory) (c : Copy Content ℕ) (role : Role) → is_active role ≡ false → Remembers m c
    → Remembers (record m { core = record m.core { role = role }; tracker = None }) (in_role role c)
leaves_memory m c role passive r = record {
  core = ap (λ (k : CopyCore). record k { role = role }) r.core;
  number = r.number;
  log = r.log;
  seen = r.seen;
  inherited = r.inherited;
  tracker = passive;
  tickets = tickets_left m.tickets c.role c.accepted c.log.length c.tickets r.tickets role passive;
  unspoken = r.unspoken;
  entries = r.entries;
  bytes = r.bytes;
}

-- a copy that isn't active has no tracker, whatever else changes
pub no_tracker : (o : Option Tracked) (c d : Copy Content ℕ) → is_active c.role ≡ false → d.role ≡ c.role → HasTracker o c → HasTracker o d
no_tracker None c d passive same h = ap is_active same ∙ passive
no_tracker (Some t) c d passive same h = absurd (let z : true ≡ false = sym h.0 ∙ passive in cc)

-- a copy that isn't active is whole
pub whole_memory : (m : ShownMemory) (c : Copy Content ℕ) (sents : List Sent) (room : ℕ) → sents ≡ m.unspoken → is_active c.role ≡ false → Remembers m c
    → Remembers (record m { core = record m.core { whole = true }; unspoken = sents; room = room }) (record c { whole = true })
whole_memory m c sents room same passive r = record {
  core = ap (λ (k : CopyCore). record k { whole = true }) r.core;
  number = r.number;
  log = r.log;
  seen = r.seen;
  inherited = r.inherited;
  tracker = no_tracker m.tracker c (record c { whole = true }) passive refl r.tracker;
  tickets = r.tickets;
  unspoken = ap sents_of same ∙ r.unspoken;
  entries = r.entries;
  bytes = r.bytes;
}

-- a copy that isn't active takes a log and its term
pub taken_memory : (m : ShownMemory) (c : Copy Content ℕ) (term : ℕ) (log : Content) (long : ℕ) (sents : List Sent) (room : ℕ) → long ≡ log.length → sents ≡ m.unspoken
    → is_active c.role ≡ false → GoesOn m term log → Remembers m c
    → Remembers (record m { core = record m.core { accepted = term; length = long; whole = true }; content = log; unspoken = sents; room = room })
    (record c { log = log; accepted = term; whole = true; anew = true })
taken_memory m c term log long sents room is_long same passive on r = record {
  core = ap (λ (k : CopyCore). record k { accepted = term; length = long; whole = true }) r.core
      ∙ ap (λ n. record (core_of folds c) { accepted = term; length = n; whole = true }) is_long;
  number = r.number;
  log = refl;
  seen = r.seen;
  inherited = r.inherited;
  tracker = no_tracker m.tracker c (record c { log = log; accepted = term; whole = true; anew = true }) passive refl r.tracker;
  tickets =
      tickets_taken m.tickets c.role c.accepted c.log.length term log.length c.tickets passive
      (subst (λ (k : CopyCore). (k.accepted < term) ⊎ ((k.accepted ≡ term) × (k.length ≤ log.length))) r.core on) r.tickets;
  unspoken = ap sents_of same ∙ r.unspoken;
  entries = r.entries;
  bytes = r.bytes;
}
