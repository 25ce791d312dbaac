-- Which tickets of a copy stand in memory.
use Rattle.std.specs.Prelude.{◌≡◌, ◌⊎◌, ◌<◌, ◌≤◌, ◌+◌, ℕ, nat_eq, is_some, Bool, true, false, ◌&&◌, find, List, [], ◌∷◌, Option, Some, None, option_map, if◌then◌else◌, refl}
use Rattle.std.specs.declared.cmp.Ordering.{Ordering}
use Rattle.std.specs.Ordering.{nat_cmp, ordering_then}
use Rattle.std.specs.Coded.{Coded, code_by, coded×, coded_ℕ}
use Rattle.std.specs.FinMap as map
use Rattle.replica_core.specs.declared.copy.Role.{Role}
use Rattle.replica_core.specs.Terms.{is_active}
use Rattle.copy_model.specs.declared.outcome.Ticket.{Ticket}
use Rattle.copy_model.specs.Copies.{Fate, Waiting, Stood, Aborted, Left, OpenTicket}
use Rattle.copy_memory.specs.declared.tickets.TicketName.{TicketName}
use Rattle.copy_memory.specs.declared.tickets.KeptFate.{KeptFate}
use Rattle.copy_memory.specs.declared.tickets.KeptFate.TheVariants as kept

-- ---- by their names

-- by term, and then by the position of the prepare
abbrev pub name_cmp : TicketName → TicketName → Ordering
name_cmp a b = ordering_then (nat_cmp a.term b.term) (nat_cmp a.prepare b.prepare)

-- a name as a pair of numbers
abbrev pub coded_name : Coded TicketName
coded_name = code_by (ℕ × ℕ) (coded× coded_ℕ coded_ℕ) (λ n. (n.term, n.prepare)) (λ p. record { term = p.0; prepare = p.1 }) (λ _. refl)

-- the name of a ticket
abbrev pub name_of : Ticket → TicketName
name_of ticket = record { term = ticket.term; prepare = ticket.prepare }

-- the fate of the open ticket of this name, where there is one
abbrev pub fate_at : List OpenTicket → TicketName → Option Fate
fate_at tickets name =
    option_map (λ (t : OpenTicket). t.fate)
    (find (λ (t : OpenTicket). nat_eq t.prepare name.prepare && nat_eq t.term name.term) tickets)

-- ---- what is kept of them

-- the term at which a copy of this role and accepted term is active, where it is
abbrev pub active_term : Role → ℕ → Option ℕ
active_term role accepted = if is_active role then Some accepted else None

-- whether a copy is active at a term
abbrev pub is_active_at : Option ℕ → ℕ → Bool
is_active_at None term = false
is_active_at (Some active) term = nat_eq active term

-- The fate of a ticket of a term, by what is kept of it and the term at which the copy is active: one that waits was left
-- where that is another.
abbrev pub fate_now : Option ℕ → ℕ → KeptFate → Fate
fate_now active term kept.Waiting = if is_active_at active term then Waiting else Left
fate_now active term (kept.Stood position) = Stood position
fate_now active term kept.Aborted = Aborted

-- a ticket of this name was given out by a copy that has accepted this term and has a log of this length
abbrev pub WasGiven : ℕ → ℕ → TicketName → Type 0
WasGiven accepted length name =
    (name.term < accepted) ⊎ ((name.term ≡ accepted) × (name.prepare ≤ length))

-- What is kept of tickets is right for a copy of this role, accepted term and length of its log that has these open.
pub record AreTickets (tickets : map.FinMap name_cmp KeptFate) (role : Role) (accepted length : ℕ) (open_ones : List OpenTicket) : Type 0 where
  pub fates : (name : TicketName) →
      fate_at open_ones name ≡ option_map (fate_now (active_term role accepted) name.term) (map.get tickets name)
  pub given : (name : TicketName) → is_some (map.get tickets name) ≡ true → WasGiven accepted length name

-- ---- what becomes of them

-- what is kept of a ticket of which this is decided
abbrev pub decided_fate : KeptFate → KeptFate → KeptFate
decided_fate fate kept.Waiting = fate
decided_fate fate (kept.Stood position) = kept.Stood position
decided_fate fate kept.Aborted = kept.Aborted

-- tickets, once this is decided of the one of a name, by what is kept of it
abbrev pub deciding_found : TicketName → KeptFate → map.FinMap name_cmp KeptFate → Option KeptFate → map.FinMap name_cmp KeptFate
deciding_found name fate tickets None = tickets
deciding_found name fate tickets (Some old) = map.insert tickets name (decided_fate fate old)

abbrev pub deciding : TicketName → KeptFate → map.FinMap name_cmp KeptFate → map.FinMap name_cmp KeptFate
deciding name fate tickets = deciding_found name fate tickets (map.get tickets name)

-- tickets of a term, once the Commits of these prepares stand behind a log of this length, one after the other
abbrev pub standing : ℕ → ℕ → List ℕ → map.FinMap name_cmp KeptFate → map.FinMap name_cmp KeptFate
standing term length [] tickets = tickets
standing term length (p ∷ ps) tickets =
    standing term (length + 1) ps
    (deciding (record { term = term; prepare = p }) (kept.Stood (length + 1)) tickets)
