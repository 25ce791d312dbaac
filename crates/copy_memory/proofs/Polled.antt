-- What becomes of tickets that are polled and forgotten.
use Rattle.std.specs.Prelude.{◌≡◌, ◌≢◌, ℕ, nat_eq, is_some, cond, Bool, true, false, ◌&&◌, not, filter, find, List, [], ◌∷◌, Option, Some, None, option_map, refl}
use Rattle.std.specs.FinMap as map
use Rattle.std.specs.Ordering.{eq_by_cmp}
use Rattle.std.specs.Cmp.{eq_by_cmp_equiv}
use Rattle.std.proofs.Common.{sym, ◌∙◌, ap, ap₂, arith}
use Rattle.std.proofs.lemmas.Bool.Decides.{nat_tests}
use Rattle.vb_log.specs.Content.{Content}
use Rattle.replica_core.specs.declared.copy.CopyCore.{CopyCore}
use Rattle.replica_core.specs.declared.copy.Role.{Role}
use Rattle.copy_model.specs.declared.outcome.Polled.{Polled}
use Rattle.copy_model.specs.declared.outcome.Polled.TheVariants as polls
use Rattle.copy_model.specs.declared.outcome.Ticket.{Ticket}
use Rattle.copy_model.specs.Copies.{Copy, Fate, Waiting, Left, OpenTicket}
use Rattle.copy_model.specs.Requests.{ambiguous, stood_at, polled, polled_as, forgetting, fate_of}
use Rattle.copy_memory.specs.declared.tickets.TicketName.{TicketName}
use Rattle.copy_memory.specs.declared.tickets.KeptFate.{KeptFate}
use Rattle.copy_memory.specs.declared.tickets.KeptFate.TheVariants as kept
use Rattle.copy_memory.specs.Remembers.{Remembers}
use Rattle.copy_memory.specs.Shown.{ShownMemory}
use Rattle.copy_memory.specs.Tickets.{name_cmp, name_of, fate_at, active_term, is_active_at, fate_now, AreTickets}
use Rattle.copy_memory.proofs.Kept.{same_tracker}
use Rattle.copy_memory.proofs.Names.{names_total, same_name}

-- ---- forgetting

-- whether a ticket has a name
abbrev pub named : TicketName → OpenTicket → Bool
named n t = nat_eq t.prepare n.prepare && nat_eq t.term n.term

-- tickets without those of a name
abbrev pub without : TicketName → List OpenTicket → List OpenTicket
without n ts = filter (λ t. not (named n t)) ts

-- the fate of the ticket of a name, by whether the first one is it
abbrev first_fate : Bool → OpenTicket → List OpenTicket → TicketName → Option Fate
first_fate b t ts n = option_map (λ (t : OpenTicket). t.fate) (cond b (Some t) (find (named n) ts))

-- of a name that is forgotten no ticket is open
gone : (n : TicketName) (ts : List OpenTicket) → fate_at (without n ts) n ≡ None
gone n [] = refl
gone n (t ∷ ts) = go (named n t) refl (gone n ts)
  where
    go : (b : Bool) → named n t ≡ b → fate_at (without n ts) n ≡ None → fate_at (cond (not b) (t ∷ without n ts) (without n ts)) n ≡ None
    go true e others = others
    go false e others = ap (λ b. first_fate b t (without n ts) n) e ∙ others

both_true : (a b : Bool) → (a && b) ≡ true → (a ≡ true) × (b ≡ true)
both_true true b h = (refl, h)
both_true false b h = absurd (cc)

same_number : (a b : ℕ) → nat_eq a b ≡ true → a ≡ b
same_number a b h = grind (arith, nat_tests)

-- a ticket has one name
one_name : (n q : TicketName) (t : OpenTicket) → named n t ≡ true → named q t ≡ true → q ≡ n
one_name n q t h g =
    let a = both_true (nat_eq t.prepare n.prepare) (nat_eq t.term n.term) h in
    let b = both_true (nat_eq t.prepare q.prepare) (nat_eq t.term q.term) g in
    ap₂ (λ (term prepare : ℕ). record { term = term; prepare = prepare })
    (sym (same_number t.term q.term b.1) ∙ same_number t.term n.term a.1)
    (sym (same_number t.prepare q.prepare b.0) ∙ same_number t.prepare n.prepare a.0)

-- and those of other names stay
stays : (n q : TicketName) → q ≢ n → (ts : List OpenTicket) → fate_at (without n ts) q ≡ fate_at ts q
stays n q apart [] = refl
stays n q apart (t ∷ ts) = go (named n t) (named q t) refl refl (stays n q apart ts)
  where
    go : (b d : Bool) → named n t ≡ b → named q t ≡ d → fate_at (without n ts) q ≡ fate_at ts q
        → fate_at (cond (not b) (t ∷ without n ts) (without n ts)) q ≡ fate_at (t ∷ ts) q
    go true true e f same = absurd (apart (one_name n q t e f))
    go true false e f same = same ∙ sym (ap (λ b. first_fate b t ts q) f)
    go false true e f same = ap (λ b. first_fate b t (without n ts) q) f ∙ sym (ap (λ b. first_fate b t ts q) f)
    go false false e f same =
        ap (λ b. first_fate b t (without n ts) q) f ∙ same ∙ sym (ap (λ b. first_fate b t ts q) f)

-- a name compares as itself
equal_itself : (n : TicketName) → eq_by_cmp name_cmp n n ≡ true
equal_itself n = (eq_by_cmp_equiv names_total).refl n

-- what is kept of tickets but one is right where that is forgotten
pub closed : (tickets : map.FinMap name_cmp KeptFate) (role : Role) (accepted length : ℕ) (ts : List OpenTicket) (n : TicketName)
    → AreTickets tickets role accepted length ts → AreTickets (map.remove tickets n) role accepted length (without n ts)
closed tickets role accepted length ts n h = record {
  fates = λ q. go q (eq_by_cmp name_cmp q n) refl;
  given = λ q is_open. h.given q (was_open (eq_by_cmp name_cmp q n) (map.get tickets q) (sym (ap is_some (map.get-remove names_total tickets n q)) ∙ is_open));
}
  where
    was_open : (b : Bool) (o : Option KeptFate) → is_some (cond b None o) ≡ true → is_some o ≡ true
    was_open true o e = absurd (cc)
    was_open false o e = e

    go : (q : TicketName) (b : Bool) → eq_by_cmp name_cmp q n ≡ b
        → fate_at (without n ts) q ≡ option_map (fate_now (active_term role accepted) q.term) (map.get (map.remove tickets n) q)
    go q true e =
        ap (fate_at (without n ts)) (same_name q n e) ∙ gone n ts
        ∙ sym (ap (option_map (fate_now (active_term role accepted) q.term)) (map.get-remove names_total tickets n q ∙ ap (λ b. cond b None (map.get tickets q)) e))
    go q false e =
        stays n q (λ same. let s : eq_by_cmp name_cmp q n ≡ true = ap (λ p. eq_by_cmp name_cmp p n) same ∙ equal_itself n in cc (s, e)) ts
        ∙ h.fates q
        ∙ sym (ap (option_map (fate_now (active_term role accepted) q.term)) (map.get-remove names_total tickets n q ∙ ap (λ b. cond b None (map.get tickets q)) e))

-- a memory that closes a ticket, of a copy that forgets it
pub forgets : (m : ShownMemory) (c : Copy Content ℕ) (ticket : Ticket) (tickets : map.FinMap name_cmp KeptFate)
    → tickets ≡ map.remove m.tickets (name_of ticket) → Remembers m c
    → Remembers (record m { tickets = tickets }) (forgetting ticket c)
forgets m c ticket tickets is r = record {
  core = r.core;
  number = r.number;
  log = r.log;
  seen = r.seen;
  inherited = r.inherited;
  tracker = same_tracker m.tracker c (without (name_of ticket) c.tickets) c.unspoken c.untold r.tracker;
  tickets = rw is (closed m.tickets c.role c.accepted c.log.length c.tickets (name_of ticket) r.tickets);
  unspoken = r.unspoken;
  entries = r.entries;
  bytes = r.bytes;
}

-- ---- what a poll comes to

-- the fate of a ticket, by what is kept of it
told_by : (m : ShownMemory) (c : Copy Content ℕ) (ticket : Ticket) (k : Option KeptFate) → Remembers m c → map.get m.tickets (name_of ticket) ≡ k
    → fate_of ticket c ≡ option_map (fate_now (active_term m.core.role m.core.accepted) ticket.term) k
told_by m c ticket k r is =
    r.tickets.fates (name_of ticket)
    ∙ ap (λ (core : CopyCore). option_map (fate_now (active_term core.role core.accepted) ticket.term) (map.get m.tickets (name_of ticket))) (sym r.core)
    ∙ ap (option_map (fate_now (active_term m.core.role m.core.accepted) ticket.term)) is

-- a ticket that isn't open
pub polled_none : (m : ShownMemory) (c : Copy Content ℕ) (ticket : Ticket) → Remembers m c → map.get m.tickets (name_of ticket) ≡ None
    → polled ticket c ≡ (c, polls.Done (ambiguous ticket.reply))
polled_none m c ticket r is = ap (polled_as ticket c) (told_by m c ticket None r is)

-- a ticket that waits
pub polled_pending : (m : ShownMemory) (c : Copy Content ℕ) (ticket : Ticket) → Remembers m c → map.get m.tickets (name_of ticket) ≡ Some kept.Waiting
    → is_active_at (active_term m.core.role m.core.accepted) ticket.term ≡ true
    → polled ticket c ≡ (c, polls.Pending ticket)
polled_pending m c ticket r is active =
    ap (polled_as ticket c) (told_by m c ticket (Some kept.Waiting) r is ∙ ap (λ b. Some (cond b Waiting Left)) active)

-- how a ticket is answered, by what is kept of it
abbrev pub answer_to : Ticket → KeptFate → Polled
answer_to ticket kept.Waiting = polls.Done (ambiguous ticket.reply)
answer_to ticket (kept.Stood position) = polls.Done (stood_at position ticket.reply)
answer_to ticket kept.Aborted = polls.Done (ambiguous ticket.reply)

-- a ticket that is answered
pub polled_done : (m : ShownMemory) (c : Copy Content ℕ) (ticket : Ticket) (fate : KeptFate) → Remembers m c → map.get m.tickets (name_of ticket) ≡ Some fate
    → (fate ≡ kept.Waiting → is_active_at (active_term m.core.role m.core.accepted) ticket.term ≡ false)
    → polled ticket c ≡ (forgetting ticket c, answer_to ticket fate)
polled_done m c ticket kept.Waiting r is left =
    ap (polled_as ticket c) (told_by m c ticket (Some kept.Waiting) r is ∙ ap (λ b. Some (cond b Waiting Left)) (left refl))
polled_done m c ticket (kept.Stood position) r is left =
    ap (polled_as ticket c) (told_by m c ticket (Some (kept.Stood position)) r is)
polled_done m c ticket kept.Aborted r is left =
    ap (polled_as ticket c) (told_by m c ticket (Some kept.Aborted) r is)
