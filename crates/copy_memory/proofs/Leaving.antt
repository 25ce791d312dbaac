-- What becomes of tickets when a copy leaves the active state, or takes another log.
use Rattle.std.specs.Prelude.{◌≡◌, ◌⊎◌, ◌<◌, ◌≤◌, ℕ, nat_eq, Bool, true, false, cond, ◌&&◌, find, map as list_map, List, [], ◌∷◌, Option, Some, None, option_map, if◌then◌else◌, refl}
use Rattle.std.specs.FinMap as map
use Rattle.std.proofs.Common.{inl, inr, sym, ◌∙◌, ap, arith}
use Rattle.replica_core.specs.declared.copy.Role.{Role}
use Rattle.replica_core.specs.Terms.{is_active}
use Rattle.copy_model.specs.Copies.{Waiting, Left, OpenTicket}
use Rattle.copy_model.specs.Entries.{fate_after, abandoned, left_by}
use Rattle.copy_memory.specs.declared.tickets.TicketName.{TicketName}
use Rattle.copy_memory.specs.declared.tickets.KeptFate.{KeptFate}
use Rattle.copy_memory.specs.declared.tickets.KeptFate.TheVariants as kept
use Rattle.copy_memory.specs.Tickets.{name_cmp, fate_at, active_term, is_active_at, fate_now, WasGiven, AreTickets}

abbrev same_at : (name : TicketName) → OpenTicket → Bool
same_at name t = nat_eq t.prepare name.prepare && nat_eq t.term name.term

-- a ticket's fate after its copy has left the active state
abandoned_at : (ts : List OpenTicket) (name : TicketName) → fate_at (list_map abandoned ts) name ≡ option_map (fate_after true Left) (fate_at ts name)
abandoned_at [] name = refl
abandoned_at (t ∷ ts) name = by (same_at name t) (abandoned_at ts name)
  where
    by : (b : Bool) → fate_at (list_map abandoned ts) name ≡ option_map (fate_after true Left) (fate_at ts name)
        → option_map (λ (t : OpenTicket). t.fate) (cond b (Some (abandoned t)) (find (same_at name) (list_map abandoned ts)))
        ≡ option_map (fate_after true Left) (option_map (λ (t : OpenTicket). t.fate) (cond b (Some t) (find (same_at name) ts)))
    by true more = refl
    by false more = more

-- a copy in another role is active at no term
no_term : (role : Role) (accepted : ℕ) → is_active role ≡ false → active_term role accepted ≡ None
no_term role accepted e = ap (λ b. if b then Some accepted else None) e

-- what waits is left
left_now : (active : Option ℕ) (term : ℕ) (k : KeptFate) → fate_after true Left (fate_now active term k) ≡ fate_now None term k
left_now active term kept.Waiting = by (is_active_at active term)
  where
    by : (b : Bool) → fate_after true Left (if b then Waiting else Left) ≡ Left
    by true = refl
    by false = refl
left_now active term (kept.Stood position) = refl
left_now active term kept.Aborted = refl

module _ (tickets : map.FinMap name_cmp KeptFate) (old : Role) (accepted length : ℕ) (ts : List OpenTicket) (are : AreTickets tickets old accepted length ts) (role : Role)
    (passive : is_active role ≡ false) where
  -- what is kept of tickets is right in a role that isn't the active one
  pub tickets_left : AreTickets tickets role accepted length (left_by old (list_map abandoned ts) ts)
  tickets_left = record {
    fates = λ name.
        by (is_active old) refl name
        ∙ ap (λ a. option_map (fate_now a name.term) (map.get tickets name)) (sym (no_term role accepted passive));
    given = are.given;
  }
    where
      each : (active : Option ℕ) (term : ℕ) (o : Option KeptFate) → option_map (fate_after true Left) (option_map (fate_now active term) o) ≡ option_map (fate_now None term) o
      each active term None = refl
      each active term (Some k) = ap (λ x. Some x) (left_now active term k)

      by : (b : Bool) → is_active old ≡ b → (name : TicketName) → fate_at (if b then list_map abandoned ts else ts) name ≡ option_map (fate_now None name.term) (map.get tickets name)
      by true e name = abandoned_at ts name ∙ ap (option_map (fate_after true Left)) (are.fates name) ∙ each (active_term old accepted) name.term (map.get tickets name)
      by false e name = are.fates name ∙ ap (λ a. option_map (fate_now a name.term) (map.get tickets name)) (no_term old accepted e)

-- what is kept of the tickets of a copy that isn't active is right once it has taken a log that goes on from its own
pub tickets_taken : (tickets : map.FinMap name_cmp KeptFate) (role : Role) (accepted length term more : ℕ) (ts : List OpenTicket) → is_active role ≡ false
    → (accepted < term) ⊎ ((accepted ≡ term) × (length ≤ more)) → AreTickets tickets role accepted length ts → AreTickets tickets role term more ts
tickets_taken tickets role accepted length term more ts passive on are = record {
  fates = λ name.
      are.fates name ∙ ap (λ a. option_map (fate_now a name.term) (map.get tickets name)) (no_term role accepted passive ∙ sym (no_term role term passive));
  given = λ name e. go on name (are.given name e);
}
  where
    go : (accepted < term) ⊎ ((accepted ≡ term) × (length ≤ more)) → (name : TicketName) → WasGiven accepted length name → WasGiven term more name
    go (inl l) name (inl below) = inl (omega arith)
    go (inl l) name (inr g) = inl (let e = g.0 in omega arith)
    go (inr s) name (inl below) = inl (let e = s.0 in omega arith)
    go (inr s) name (inr g) = inr (g.0 ∙ s.0, (let a = g.1 in let b = s.1 in omega arith))
