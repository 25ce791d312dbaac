-- What becomes of tickets when it is decided of a prepare.
use Rattle.std.specs.Prelude.{◌≡◌, ◌≤◌, ℕ, nat_eq, is_some, Bool, true, false, cond, ◌&&◌, find, map as list_map, List, [], ◌∷◌, Option, Some, None, option_map, if◌then◌else◌, refl}
use Rattle.std.specs.FinMap as map
use Rattle.std.specs.Ordering.{eq_by_cmp}
use Rattle.std.proofs.Common.{inl, inr, sym, ◌∙◌, ap, arith}
use Rattle.std.proofs.lemmas.Bool.{and_parts, eqb-true}
use Rattle.replica_core.specs.declared.copy.Role.{Role}
use Rattle.replica_core.specs.Terms.{is_active}
use Rattle.copy_model.specs.Copies.{Fate, Waiting, Stood, Aborted, Left, OpenTicket}
use Rattle.copy_model.specs.Entries.{fate_after, decided}
use Rattle.copy_memory.specs.declared.tickets.TicketName.{TicketName}
use Rattle.copy_memory.specs.declared.tickets.KeptFate.{KeptFate}
use Rattle.copy_memory.specs.declared.tickets.KeptFate.TheVariants as kept
use Rattle.copy_memory.specs.Tickets.{name_cmp, fate_at, active_term, fate_now, WasGiven, AreTickets, decided_fate, deciding, deciding_found}
use Rattle.copy_memory.proofs.Names.{names_total, same_name}
use Rattle.copy_memory.proofs.Ties.{name_own, other_prepare, other_term, both_same}

-- ---- the list

abbrev same_at : (name : TicketName) → OpenTicket → Bool
same_at name t = nat_eq t.prepare name.prepare && nat_eq t.term name.term

-- a ticket's fate after it was decided of a prepare
pub decided_at : (prepare : ℕ) (fate : Fate) (ts : List OpenTicket) (name : TicketName)
    → fate_at (list_map (decided prepare fate) ts) name ≡ option_map (fate_after (nat_eq name.prepare prepare) fate) (fate_at ts name)
decided_at prepare fate [] name = refl
decided_at prepare fate (t ∷ ts) name = by (same_at name t) refl (decided_at prepare fate ts name)
  where
    by : (b : Bool) → same_at name t ≡ b
        → fate_at (list_map (decided prepare fate) ts) name ≡ option_map (fate_after (nat_eq name.prepare prepare) fate) (fate_at ts name)
        → option_map (λ (t : OpenTicket). t.fate) (cond b (Some (decided prepare fate t)) (find (same_at name) (list_map (decided prepare fate) ts)))
        ≡ option_map (fate_after (nat_eq name.prepare prepare) fate) (option_map (λ (t : OpenTicket). t.fate) (cond b (Some t) (find (same_at name) ts)))
    by true e rest =
        let its : t.prepare ≡ name.prepare = eqb-true t.prepare name.prepare (and_parts (nat_eq t.prepare name.prepare) (nat_eq t.term name.term) e).0 in
        ap (λ n. Some (fate_after (nat_eq n prepare) fate t.fate)) its
    by false e rest = rest

-- ---- what is kept

-- a ticket's kept fate after it was decided of the one of a name
pub deciding_at : (name : TicketName) (fate : KeptFate) (tickets : map.FinMap name_cmp KeptFate) (q : TicketName)
    → map.get (deciding name fate tickets) q ≡ cond (eq_by_cmp name_cmp q name) (option_map (decided_fate fate) (map.get tickets name)) (map.get tickets q)
deciding_at name fate tickets q = found (map.get tickets name) refl
  where
    same : (b : Bool) → eq_by_cmp name_cmp q name ≡ b → map.get tickets name ≡ None → map.get tickets q ≡ cond b None (map.get tickets q)
    same true e none = ap (map.get tickets) (same_name q name e) ∙ none
    same false e none = refl

    found : (o : Option KeptFate) → map.get tickets name ≡ o
        → map.get (deciding_found name fate tickets o) q ≡ cond (eq_by_cmp name_cmp q name) (option_map (decided_fate fate) o) (map.get tickets q)
    found None e = same (eq_by_cmp name_cmp q name) refl e
    found (Some old) e = map.get-insert names_total tickets name (decided_fate fate old) q

-- ---- both

-- what is decided of a prepare, as it is kept
pub data Decides : KeptFate → Fate → Type 0 where
  Stands : (position : ℕ) → Decides (kept.Stood position) (Stood position)
  Aborts : Decides kept.Aborted Aborted

-- of the ticket of an active copy's own prepare
own_fate : {k : KeptFate} {f : Fate} → Decides k f → (accepted term : ℕ) → nat_eq accepted term ≡ true → (old : KeptFate)
    → fate_after true f (fate_now (Some accepted) term old) ≡ fate_now (Some accepted) term (decided_fate k old)
own_fate (Stands position) accepted term e kept.Waiting = ap (λ b. fate_after true (Stood position) (if b then Waiting else Left)) e
own_fate Aborts accepted term e kept.Waiting = ap (λ b. fate_after true Aborted (if b then Waiting else Left)) e
own_fate d accepted term e (kept.Stood at) = refl
own_fate d accepted term e kept.Aborted = refl

-- of one of another term, of whatever prepare
other_fate : (f : Fate) (accepted term : ℕ) (b : Bool) → nat_eq accepted term ≡ false → (old : KeptFate)
    → fate_after b f (fate_now (Some accepted) term old) ≡ fate_now (Some accepted) term old
other_fate f accepted term false e old = refl
other_fate f accepted term true e kept.Waiting = ap (λ b. fate_after true f (if b then Waiting else Left)) e ∙ sym (ap (λ b. if b then Waiting else Left) e)
other_fate f accepted term true e (kept.Stood at) = refl
other_fate f accepted term true e kept.Aborted = refl

-- tickets that were given are given still, where the log grows
pub given_more : (accepted length more : ℕ) (name : TicketName) → length ≤ more → WasGiven accepted length name → WasGiven accepted more name
given_more accepted length more name l (inl below) = inl below
given_more accepted length more name l (inr g) = inr (g.0, (let a = g.1 in omega arith))

module _ (role : Role) (active : is_active role ≡ true) (accepted length more prepare : ℕ) (grows : length ≤ more) (k : KeptFate) (f : Fate) (d : Decides k f)
    (tickets : map.FinMap name_cmp KeptFate) (ts : List OpenTicket) (are : AreTickets tickets role accepted length ts) where
  abbrev pub own : TicketName
  own = record { term = accepted; prepare = prepare }

  at_term : active_term role accepted ≡ Some accepted
  at_term = ap (λ b. if b then Some accepted else None) active

  -- the fate of a ticket that isn't this one's
  apart : (name : TicketName) (b : Bool) → eq_by_cmp name_cmp name own ≡ false
      → ((old : KeptFate) → fate_after b f (fate_now (Some accepted) name.term old) ≡ fate_now (Some accepted) name.term old)
      → option_map (fate_after b f) (option_map (fate_now (Some accepted) name.term) (map.get tickets name))
      ≡ option_map (fate_now (Some accepted) name.term) (map.get (deciding own k tickets) name)
  apart name b e same =
      as_before (map.get tickets name)
      ∙ ap (option_map (fate_now (Some accepted) name.term))
      (sym (deciding_at own k tickets name ∙ ap (λ b. cond b (option_map (decided_fate k) (map.get tickets own)) (map.get tickets name)) e))
    where
      as_before : (o : Option KeptFate) → option_map (fate_after b f) (option_map (fate_now (Some accepted) name.term) o) ≡ option_map (fate_now (Some accepted) name.term) o
      as_before None = refl
      as_before (Some old) = ap (λ x. Some x) (same old)

  -- the fate of this one's
  itself : (name : TicketName) → name ≡ own → nat_eq accepted name.term ≡ true
      → option_map (fate_after true f) (option_map (fate_now (Some accepted) name.term) (map.get tickets name))
      ≡ option_map (fate_now (Some accepted) name.term) (map.get (deciding own k tickets) name)
  itself name is t =
      as_decided (map.get tickets name)
      ∙ ap (option_map (fate_now (Some accepted) name.term))
      (sym (deciding_at own k tickets name
      ∙ ap (λ b. cond b (option_map (decided_fate k) (map.get tickets own)) (map.get tickets name)) (ap (λ n. eq_by_cmp name_cmp n own) is ∙ name_own own)
      ∙ ap (λ n. option_map (decided_fate k) (map.get tickets n)) (sym is)))
    where
      as_decided : (o : Option KeptFate) → option_map (fate_after true f) (option_map (fate_now (Some accepted) name.term) o)
          ≡ option_map (fate_now (Some accepted) name.term) (option_map (decided_fate k) o)
      as_decided None = refl
      as_decided (Some old) = ap (λ x. Some x) (own_fate d accepted name.term t old)

  -- each ticket's fate, by whether it is this prepare's and this term's
  by_name : (name : TicketName) (b t : Bool) → nat_eq name.prepare prepare ≡ b → nat_eq accepted name.term ≡ t
      → option_map (fate_after b f) (option_map (fate_now (Some accepted) name.term) (map.get tickets name))
      ≡ option_map (fate_now (Some accepted) name.term) (map.get (deciding own k tickets) name)
  by_name name false t e h = apart name false (other_prepare name own e) (λ old. refl)
  by_name name true false e h = apart name true (other_term name own h) (other_fate f accepted name.term true h)
  by_name name true true e h = itself name (both_same name own e h) h

  -- none is there that wasn't
  none_new : (name : TicketName) → is_some (map.get (deciding own k tickets) name) ≡ true → is_some (map.get tickets name) ≡ true
  none_new name e = by (eq_by_cmp name_cmp name own) refl (sym (ap is_some (deciding_at own k tickets name)) ∙ e)
    where
      was : (o : Option KeptFate) → is_some (option_map (decided_fate k) o) ≡ true → is_some o ≡ true
      was None e = e
      was (Some x) e = refl

      by : (b : Bool) → eq_by_cmp name_cmp name own ≡ b
          → is_some (cond b (option_map (decided_fate k) (map.get tickets own)) (map.get tickets name)) ≡ true → is_some (map.get tickets name) ≡ true
      by false h e = e
      by true h e = ap (λ n. is_some (map.get tickets n)) (same_name name own h) ∙ was (map.get tickets own) e

  -- What is kept of an active copy's tickets is right when it was decided of a prepare of its term.
  pub tickets_decided : AreTickets (deciding own k tickets) role accepted more (list_map (decided prepare f) ts)
  tickets_decided = record {
    fates = λ name.
        decided_at prepare f ts name
        ∙ ap (option_map (fate_after (nat_eq name.prepare prepare) f))
        (are.fates name ∙ ap (λ a. option_map (fate_now a name.term) (map.get tickets name)) at_term)
        ∙ by_name name (nat_eq name.prepare prepare) (nat_eq accepted name.term) refl refl
        ∙ ap (λ a. option_map (fate_now a name.term) (map.get (deciding own k tickets) name)) (sym at_term);
    given = λ name e. given_more accepted length more name grows (are.given name (none_new name e));
  }
