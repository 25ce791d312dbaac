-- The memory of a copy that begins.
use Rattle.std.specs.Prelude.{◌≡◌, ◌<◌, ◌≤◌, ◌+◌, ℕ, nat_eq, is_some, Bool, true, false, cond, ◌&&◌, not, drop, filter, List, [], ◌∷◌, ◌++◌, length, Option, Some, None, option_map, refl}
use Rattle.std.specs.FinMap as map
use Rattle.std.proofs.Common.{get_or, add-one, drop-cons, sym, ◌∙◌, ap, subst, append_assoc, append-nil}
use Rattle.std.proofs.lemmas.List.{drop_all}
use Rattle.durability_core.specs.Chains.{places_from}
use Rattle.replica_core.specs.declared.copy.Role.{Role}
use Rattle.replica_core.specs.declared.copy.CopyCore.{CopyCore}
use Rattle.replica_core.specs.Terms.{is_active}
use Rattle.repl_wire.specs.declared.message.Sent.{Sent}
use Rattle.vb_log.specs.Content.{Content}
use Rattle.copy_model.specs.Copies.{Copy}
use Rattle.copy_memory.specs.declared.tickets.KeptFate.{KeptFate}
use Rattle.copy_memory.specs.Beginning.{Begins}
use Rattle.copy_memory.specs.Remembers.{Remembers}
use Rattle.copy_memory.specs.Sending.{sents_of}
use Rattle.copy_memory.specs.Tickets.{name_cmp, active_term, fate_now, AreTickets}

-- whether a place is another than this
abbrev pub is_apart : ℕ → ℕ → Bool
is_apart own place = not (nat_eq place own)

-- The other places before a place are told, and those from it on make up all.
abbrev pub ToldTo : ℕ → List (Option (List ℕ)) → List ℕ → ℕ → Type 0
ToldTo own names told at = told ++ filter (is_apart own) (places_from at (drop at names)) ≡ filter (is_apart own) (places_from 0 names)

-- the first of names, and the others
first_other : (own at : ℕ) (x : Option (List ℕ)) (names : List (Option (List ℕ))) (b : Bool) → is_some x && is_apart own at ≡ b
    → filter (is_apart own) (places_from at (x ∷ names)) ≡ cond b (at ∷ []) [] ++ filter (is_apart own) (places_from (at + 1) names)
first_other own at None names true e = absurd (cc)
first_other own at None names false e = refl
first_other own at (Some name) names true e = ap (λ b. cond b (at ∷ filter (is_apart own) (places_from (at + 1) names)) (filter (is_apart own) (places_from (at + 1) names))) e
first_other own at (Some name) names false e = ap (λ b. cond b (at ∷ filter (is_apart own) (places_from (at + 1) names)) (filter (is_apart own) (places_from (at + 1) names))) e

-- one place more is told, or isn't another that has a name
pub told_more : (own : ℕ) (names : List (Option (List ℕ))) (told : List ℕ) (at : ℕ) (x : Option (List ℕ)) (b : Bool) → at < length names → x ≡ get_or names at x
    → is_some x && is_apart own at ≡ b → ToldTo own names told at → ToldTo own names (told ++ cond b (at ∷ []) []) (at + 1)
told_more own names told at x b l e f so_far =
    let cut : drop at names ≡ get_or names at x ∷ drop (at + 1) names = rw add-one (drop-cons names at x l) in
    append_assoc told (cond b (at ∷ []) []) (filter (is_apart own) (places_from (at + 1) (drop (at + 1) names)))
    ∙ ap (λ l. told ++ l) (sym (first_other own at x (drop (at + 1) names) b f))
    ∙ ap (λ y. told ++ filter (is_apart own) (places_from at (y ∷ drop (at + 1) names))) e
    ∙ ap (λ l. told ++ filter (is_apart own) (places_from at l)) (sym cut)
    ∙ so_far

-- all are told
pub told_all : (own : ℕ) (names : List (Option (List ℕ))) (told : List ℕ) (at : ℕ) → length names ≤ at → ToldTo own names told at
    → told ≡ filter (is_apart own) (places_from 0 names)
told_all own names told at l so_far =
    sym (append-nil told) ∙ ap (λ l. told ++ filter (is_apart own) (places_from at l)) (sym (drop_all at names l)) ∙ so_far

-- no ticket is open
pub no_tickets : (role : Role) (accepted length : ℕ) → AreTickets map.empty role accepted length []
no_tickets role accepted length = record {
  fates = λ name. sym (ap (option_map (fate_now (active_term role accepted) name.term)) (map.get-empty name_cmp name));
  given = λ name e. absurd (let z : false ≡ true = sym (ap is_some (map.get-empty name_cmp name)) ∙ e in cc);
}

-- the memory of a copy that begins is of that copy
pub begins_memory : (core : CopyCore) (number : ℕ) (content : Content) (tickets : map.FinMap name_cmp KeptFate) (sents : List Sent) (room : ℕ) (c : Copy Content ℕ)
    → tickets ≡ map.empty → sents ≡ [] → is_active core.role ≡ false → Begins core number content c
    → Remembers (record {
      core = core;
      number = number;
      content = content;
      seen = 0;
      inherited = 0;
      tracker = None;
      tickets = tickets;
      unspoken = sents;
      room = room;
      unflushed_entries = 0;
      unflushed_bytes = 0;
    }) c
begins_memory core number content tickets sents room c none quiet passive b = record {
  core = b.core_is;
  number = b.number_is;
  log = b.log_is;
  seen = sym b.seen;
  inherited = sym b.inherited;
  tracker = sym (ap (λ (k : CopyCore). is_active k.role) b.core_is) ∙ passive;
  tickets =
      subst (λ m. AreTickets m c.role c.accepted c.log.length c.tickets) (sym none)
      (subst (λ l. AreTickets map.empty c.role c.accepted c.log.length l) (sym b.tickets) (no_tickets c.role c.accepted c.log.length));
  unspoken = ap sents_of quiet ∙ sym b.unspoken;
  entries = sym b.entries;
  bytes = sym b.bytes;
}
