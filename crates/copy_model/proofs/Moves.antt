-- Each event is made of moves of what a copy's laws speak of. A relation that each move keeps holds
-- between a copy before an event and after it.
use Rattle.std.specs.Prelude.{◌≡◌, ℕ, ◌+◌, nat_eq, nat_lt, Bool, true, false, not, filter, map as list_map, cond, List, [], ◌∷◌, ◌++◌, Option, Some, None, Result, Ok, Err, refl}
use Rattle.std.specs.Option.{option_map_or}
use Rattle.doc_model.specs.declared.document.What.{What}
use Rattle.doc_model.specs.declared.status.Status.{Status}
use Rattle.kv_request.specs.declared.request.Request.{Request}
use Rattle.kv_request.specs.declared.request.Durability.{Durability}
use Rattle.kv_request.specs.declared.request.Body.{Body}
use Rattle.kv_request.specs.declared.request.Body.TheVariants as bodies
use Rattle.kv_request.specs.declared.reply.Reply.{Reply}
use Rattle.kv_request.specs.Tables.{document_key, first_failing}
use Rattle.manifest_rules.specs.Rules.{Step}
use Rattle.manifest_rules.specs.Applying.{text_step}
use Rattle.doc_step.specs.declared.Change.{Change}
use Rattle.vb_log.specs.declared.entry.Entry.{Entry}
use Rattle.vb_log.specs.declared.entry.Entry.TheVariants as entries
use Rattle.vb_log.specs.declared.entry.Pending.{Pending}
use Rattle.vb_log.specs.Logs.{LogKind}
use Rattle.replica_core.specs.declared.copy.Role.{Role}
use Rattle.replica_core.specs.declared.copy.Role.TheVariants as roles
use Rattle.replica_core.specs.declared.messages.Heard.{Heard}
use Rattle.replica_core.specs.declared.messages.Heard.TheVariants as hearing
use Rattle.replica_core.specs.declared.fences.FenceAnswer.{FenceAnswer}
use Rattle.replica_core.specs.declared.fences.PromoteFault.{PromoteFault}
use Rattle.replica_core.specs.Terms.{is_active, is_dead}
use Rattle.replica_core.specs.Hearing.{heard}
use Rattle.replica_core.specs.Promotion.{is_old, promote_fault}
use Rattle.copy_model.specs.declared.outcome.Ticket.{Ticket}
use Rattle.copy_model.specs.declared.outcome.Outcome.{Outcome}
use Rattle.copy_model.specs.declared.outcome.VbFault.{VbFault}
use Rattle.copy_model.specs.Copies.{Fate, Waiting, Stood, Aborted, Left, Message, EntrySent, AckSent, RejoinSent, AdoptSent, OpenTicket, Sent, Seen, Pair, Copy, Cleaning, Nothing, Moved, Freed, NoRoomToMove, LayoutKind, Luck, lacks_memory, fails_disk}
use Rattle.copy_model.specs.Entries.{content, log_length, core_of, decided, abandoned, left_by, committed, is_ready_at, committing, settled, in_role, aborted, counting}
use Rattle.copy_model.specs.Disk.{Put, Done, NoRoom, Failed, dead_with, write_promise, needed, free, write_log, after_flush, put_then, flushing, must_flush, flushed_first, tells_flush}
use Rattle.copy_model.specs.Requests.{is_ticket, moment_of, seeing, drawn, polled_as, polled, fate_of, is_too_much, after_put, changing, made, ticket_next, preparing, prepared, what_of, plain_entry, changing_document, effecting, concluded, step_on, request_checks, served, installed, set_by, if_active, body_step, requested}
use Rattle.copy_model.specs.Hearing.{head_of, put_or, begins_with_flush, can_append, appended, appending, can_hold, taken, promising, adopting, giving, append_it, take_it, count_it, give_it, doing, is_for, hearing_it}
use Rattle.copy_model.specs.Events.{if_alive, put_told, speaks_first, tells_first, due, aborting, ticking, flushed_to, flushes, cleaning_writes, cleaning_as, answering, fencing, fences, active_at, begun_at, nothing, promoting, put_in_state, Event, Requests, Polls, Forgets, Hears, Speaks, TellsChange, Ticks, Flushes, Cleans, Fences, Promotes, SetsState, step}

-- what the laws of a copy speak of
pub record Few (L : Type 0) : Type 0 where
  pub role : Role
  pub promise : ℕ
  pub accepted : ℕ
  pub log : L
  pub tickets : List OpenTicket

abbrev pub few : {L Y : Type 0} → Copy L Y → Few L
few c = record {
  role = c.role;
  promise = c.promise;
  accepted = c.accepted;
  log = c.log;
  tickets = c.tickets;
}

-- through a test
pub by_test : {A : Type 0} (P : A → Type 0) (b : Bool) (x y : A) → (b ≡ true → P x)
    → (b ≡ false → P y) → P (cond b x y)
by_test P true x y p q = p refl
by_test P false x y p q = q refl

pub by_either : {A : Type 0} (P : A → Type 0) (b : Bool) (x y : A) → P x → P y → P (cond b x y)
by_either P true x y p q = p
by_either P false x y p q = q

pub by_option : {A C : Type 0} (P : A → Type 0) (g : C → A) (o : Option C) (x : A)
    → ((c : C) → P (g c)) → P x → P (option_map_or g o x)
by_option P g None x p q = q
by_option P g (Some c) x p q = p c

-- a relation that stays, goes on, and holds where an entry is added
pub record Adds {L : Type 0} (k : LogKind L) (R : Few L → Few L → Type 0) : Type 0 where
  pub stays : (s : Few L) → R s s
  pub goes : (s t u : Few L) → R s t → R t u → R s u
  pub adds : (s : Few L) (e : Entry) → R s (record s { log = k.add s.log e })
  pub commits : (s : Few L) (p : ℕ) → R s (record s {
    log = k.add s.log (entries.Commit p);
    tickets = list_map (decided p (Stood ((k.view s.log).length + 1))) s.tickets;
  })
  pub aborts : (s : Few L) (p : ℕ) → R s (record s {
    log = k.add s.log (entries.Abort p);
    tickets = list_map (decided p Aborted) s.tickets;
  })

-- and where a copy leaves a role, or raises its promise
pub record Keeps {L : Type 0} (k : LogKind L) (R : Few L → Few L → Type 0) : Type 0 where
  pub grows : Adds k R
  pub leaves : (s : Few L) (role : Role) → is_active role ≡ false → R s (record s {
    role = role;
    tickets = left_by s.role (list_map abandoned s.tickets) s.tickets;
  })
  pub prepares : (s : Few L) (e : Entry) (t : OpenTicket) → t.fate ≡ Waiting
      → R s (record s { log = k.add s.log e; tickets = s.tickets ++ t ∷ [] })
  pub forgets : (s : Few L) (ticket : Ticket)
      → R s (record s { tickets = filter (λ t. not (is_ticket ticket t)) s.tickets })
  pub raises : (s : Few L) (term : ℕ) → nat_lt s.promise term ≡ true
      → R s (record s { promise = term })

module _ {L : Type 0} (k : LogKind L) (R : Few L → Few L → Type 0) (h : Adds k R) where
  pub committing_adds : {Y : Type 0} (ps : List Pending) (c : Copy L Y)
      → R (few c) (few (committing k ps c))
  committing_adds [] c = h.stays (few c)
  committing_adds (p ∷ ps) c =
      by_either (λ d. R (few c) (few d)) (is_ready_at k c p) _ _
      (h.goes (few c) (few (committed k p.position c)) _
      (h.commits (few c) p.position)
      (committing_adds ps (committed k p.position c)))
      (h.stays (few c))

  pub settled_adds : {Y : Type 0} (c : Copy L Y) → R (few c) (few (settled k c))
  settled_adds c = committing_adds (k.view c.log).prepares c

  pub aborting_adds : {Y : Type 0} (ps : List ℕ) (c : Copy L Y) → R (few c) (few (aborting k ps c))
  aborting_adds [] c = h.stays (few c)
  aborting_adds (p ∷ ps) c = h.goes (few c) (few (aborted k p c)) _
      (h.aborts (few c) p) (aborting_adds ps (aborted k p c))

  pub begun_adds : {Y : Type 0} (term : ℕ) (c : Copy L Y)
      → R (few (active_at k term c)) (few (begun_at k term c))
  begun_adds term c = settled_adds _

module _ {L : Type 0} (k : LogKind L) (R : Few L → Few L → Type 0) (h : Keeps k R) where
  abbrev pub PutMoves : {Y : Type 0} → Copy L Y → Put (Copy L Y) → Type 0
  PutMoves c (Done d) = R (few c) (few d)
  PutMoves c (NoRoom needed free) = Unit {0}
  PutMoves c (Failed d) = R (few c) (few d)

  stays : {Y : Type 0} (c : Copy L Y) → R (few c) (few c)
  stays c = h.grows.stays (few c)

  goes : {Y : Type 0} (c d e : Copy L Y) → R (few c) (few d) → R (few d) (few e) → R (few c) (few e)
  goes c d e p q = h.grows.goes (few c) (few d) (few e) p q

  -- ---- the disk

  dead_moves : {Y : Type 0} (torn : Option (Pair L Y)) (c : Copy L Y)
      → R (few c) (few (dead_with torn c))
  dead_moves torn c = h.leaves (few c) roles.Dead refl

  write_promise_moves : {Y : Type 0} (luck : Luck Y) (term : ℕ) (c : Copy L Y)
      → nat_lt c.promise term ≡ true → PutMoves c (write_promise luck term c)
  write_promise_moves luck term c higher =
      by_either (PutMoves c) (fails_disk luck.chance) _ _ (h.leaves (few c) roles.Dead refl)
      (h.raises (few c) term higher)

  pub write_log_moves : {Y : Type 0} (y : LayoutKind Y) (luck : Luck Y) (term : ℕ) (c : Copy L Y)
      → PutMoves c (write_log k y luck term c)
  write_log_moves y luck term c =
      by_either (PutMoves c) (nat_lt (free y c) (needed k y c)) _ _
      (by_either (PutMoves c) (fails_disk luck.chance) _ _ (h.leaves (few c) roles.Dead refl) tt)
      (by_either (PutMoves c) (fails_disk luck.chance) _ _ (h.leaves (few c) roles.Dead refl)
      (stays c))

  after_flush_moves : {Y : Type 0} (c : Copy L Y) → R (few c) (few (after_flush k c))
  after_flush_moves c =
      by_either (λ d. R (few c) (few d)) (is_active c.role) _ _ (settled_adds k R h.grows c)
      (by_either (λ d. R (few c) (few d)) (tells_flush c) _ _ (stays c) (stays c))

  put_then_moves : {Y : Type 0} (f : Copy L Y → Copy L Y) (c : Copy L Y)
      → ((d : Copy L Y) → R (few d) (few (f d))) → (p : Put (Copy L Y)) → PutMoves c p
      → PutMoves c (put_then f p)
  put_then_moves f c e (Done d) m = goes c d (f d) m (e d)
  put_then_moves f c e (NoRoom needed free) m = tt
  put_then_moves f c e (Failed d) m = m

  flushing_moves : {Y : Type 0} (y : LayoutKind Y) (luck : Luck Y) (c : Copy L Y)
      → PutMoves c (flushing k y luck c)
  flushing_moves y luck c = put_then_moves (after_flush k) c after_flush_moves
      (write_log k y luck c.accepted c) (write_log_moves y luck c.accepted c)

  flushed_first_moves : {Y : Type 0} (y : LayoutKind Y) (luck : Luck Y) (c : Copy L Y)
      → PutMoves c (flushed_first k y luck c)
  flushed_first_moves y luck c =
      by_either (PutMoves c) (must_flush c) _ _ (flushing_moves y luck c) (stays c)

  -- ---- requests

  after_put_moves : {Y : Type 0} (f : Copy L Y → Copy L Y × Outcome) (request : Request)
      (c : Copy L Y) → ((d : Copy L Y) → R (few d) (few (f d).0)) → (p : Put (Copy L Y))
      → PutMoves c p → R (few c) (few (after_put f request c p).0)
  after_put_moves f request c e (Done d) m = goes c d (f d).0 m (e d)
  after_put_moves f request c e (NoRoom needed free) m = stays c
  after_put_moves f request c e (Failed d) m = m

  changing_moves : {Y : Type 0} (y : LayoutKind Y) (luck : Luck Y) (request : Request) (cas : ℕ)
      (e : Entry) (f : Copy L Y → Copy L Y × Outcome) (c : Copy L Y)
      → ((d : Copy L Y) → R (few d) (few (f d).0))
      → R (few c) (few (changing k y luck request cas e f c).0)
  changing_moves y luck request cas e f c same =
      by_either (λ (r : Copy L _ × Outcome). R (few c) (few r.0)) (is_too_much (content k c) cas e)
      _ _ (stays c)
      (after_put_moves f request c same (flushed_first k y luck c) (flushed_first_moves y luck c))

  polled_as_moves : {Y : Type 0} (ticket : Ticket) (c : Copy L Y) (fate : Option Fate)
      → R (few c) (few (polled_as ticket c fate).0)
  polled_as_moves ticket c None = stays c
  polled_as_moves ticket c (Some Waiting) = stays c
  polled_as_moves ticket c (Some (Stood position)) = h.forgets (few c) ticket
  polled_as_moves ticket c (Some Aborted) = h.forgets (few c) ticket
  polled_as_moves ticket c (Some Left) = h.forgets (few c) ticket

  prepared_moves : {Y : Type 0} (request : Request) (until : ℕ) (reply : Reply) (e : Entry)
      (c : Copy L Y) → R (few c) (few (prepared k request until reply e c).0)
  prepared_moves request until reply e c =
      let t = ticket_next k request reply c in
      let d = preparing k until e c in
      let waits : OpenTicket =
      record { prepare = log_length k c + 1; term = c.accepted; fate = Waiting } in
      goes c (settled k d) (polled t (settled k d)).0
      (goes c d (settled k d) (h.prepares (few c) e waits refl) (settled_adds k R h.grows d))
      (polled_as_moves t (settled k d) (fate_of t (settled k d)))

  changing_document_moves : {Y : Type 0} (y : LayoutKind Y) (luck : Luck Y) (now : ℕ)
      (request : Request) (cas : ℕ) (reply : Reply) (what : What) (d : Option Durability)
      (c : Copy L Y)
      → R (few c) (few (changing_document k y luck now request cas reply what d c).0)
  changing_document_moves y luck now request cas reply what None c =
      let e = plain_entry (document_key request.body) what in
      changing_moves y luck request cas e (made k request reply e) c (λ d. h.grows.adds (few d) e)
  changing_document_moves y luck now request cas reply what (Some d) c =
      let e = entries.Prepare (document_key request.body) what d.level in
      changing_moves y luck request cas e (prepared k request (now + d.timeout) reply e) c
      (prepared_moves request (now + d.timeout) reply e)

  effecting_moves : {Y : Type 0} (y : LayoutKind Y) (luck : Luck Y) (now : ℕ) (request : Request)
      (cas : ℕ) (reply : Reply) (what : Option What) (c : Copy L Y)
      → R (few c) (few (effecting k y luck now request cas reply what c).0)
  effecting_moves y luck now request cas reply None c = stays c
  effecting_moves y luck now request cas reply (Some what) c =
      changing_document_moves y luck now request cas reply what request.durability c

  concluded_moves : {Y : Type 0} (y : LayoutKind Y) (luck : Luck Y) (now : ℕ) (request : Request)
      (cas : ℕ) (r : Result Change Status) (c : Copy L Y)
      → R (few c) (few (concluded k y luck now request cas r c).0)
  concluded_moves y luck now request cas (Err why) c = stays c
  concluded_moves y luck now request cas (Ok change) c =
      effecting_moves y luck now request cas change.reply (what_of change.effect cas) c

  served_moves : {Y : Type 0} (y : LayoutKind Y) (luck : Luck Y) (now : ℕ) (request : Request)
      (c : Copy L Y) → R (few c) (few (served k y luck now request c).0)
  served_moves y luck now request c =
      by_option (λ (r : Copy L _ × Outcome). R (few c) (few r.0)) _
      (first_failing (request_checks k luck request (document_key request.body) c)) _
      (λ why. stays c)
      (concluded_moves y luck now request (drawn (content k c) c.seen)
      (step_on (content k c) c.seen now request) c)

  set_by_moves : {Y : Type 0} (y : LayoutKind Y) (luck : Luck Y) (request : Request) (text : List ℕ)
      (r : Result Step Status) (c : Copy L Y) → R (few c) (few (set_by k y luck request text r c).0)
  set_by_moves y luck request text (Err why) c = stays c
  set_by_moves y luck request text (Ok step) c =
      by_either (λ (r : Copy L _ × Outcome). R (few c) (few r.0)) step.changed _ _
      (changing_moves y luck request 0 (entries.Manifest text)
      (installed k request (entries.Manifest text)) c
      (λ d. h.grows.adds (few d) (entries.Manifest text))) (stays c)

  if_active_moves : {Y : Type 0} (request : Request) (c : Copy L Y) (r : Copy L Y × Outcome)
      → R (few c) (few r.0) → R (few c) (few (if_active request c r).0)
  if_active_moves request c r m =
      by_either (λ (r : Copy L _ × Outcome). R (few c) (few r.0)) (is_active c.role) _ _ m (stays c)

  body_step_moves : {Y : Type 0} (y : LayoutKind Y) (luck : Luck Y) (now : ℕ) (request : Request)
      (body : Body) (c : Copy L Y) → R (few c) (few (body_step k y luck now request body c).0)
  body_step_moves y luck now request (bodies.SetManifest text) c =
      if_active_moves request c _ (set_by_moves y luck request text
      (text_step (content k c).manifest text) c)
  body_step_moves y luck now request bodies.GetManifest c = if_active_moves request c _ (stays c)
  body_step_moves y luck now request (bodies.CollectionId path) c =
      if_active_moves request c _ (stays c)
  body_step_moves y luck now request (bodies.ScopeId path) c = if_active_moves request c _ (stays c)
  body_step_moves y luck now request (bodies.Hello wanted) c = stays c
  body_step_moves y luck now request bodies.Noop c = stays c
  body_step_moves y luck now request bodies.Version c = stays c
  body_step_moves y luck now request bodies.Quit c = stays c
  body_step_moves y luck now request (bodies.Get key) c = served_moves y luck now request c
  body_step_moves y luck now request (bodies.Store key mode flags expiry value) c =
      served_moves y luck now request c
  body_step_moves y luck now request (bodies.Delete key) c = served_moves y luck now request c
  body_step_moves y luck now request (bodies.Count key up delta initial expiry) c =
      served_moves y luck now request c
  body_step_moves y luck now request (bodies.Join key front value) c =
      served_moves y luck now request c
  body_step_moves y luck now request (bodies.Touch key expiry fetch) c =
      served_moves y luck now request c
  body_step_moves y luck now request (bodies.Look key spec) c = served_moves y luck now request c
  body_step_moves y luck now request (bodies.Edit key spec expiry flags) c =
      served_moves y luck now request c
  body_step_moves y luck now request (bodies.MultiLook key specs) c =
      served_moves y luck now request c
  body_step_moves y luck now request (bodies.MultiEdit key specs expiry flags) c =
      served_moves y luck now request c

  requested_moves : {Y : Type 0} (y : LayoutKind Y) (luck : Luck Y) (request : Request) (now : ℕ)
      (c : Copy L Y) → R (few c) (few (requested k y luck request now c).0)
  requested_moves y luck request now c =
      by_either (λ (r : Copy L _ × Outcome). R (few c) (few r.0)) (lacks_memory luck.chance) _ _
      (stays c) (body_step_moves y luck (moment_of now) request request.body (seeing now c))

  -- ---- hear

  -- what is to hold besides, where a copy takes all of a log
  abbrev pub TakesAll : Message L → Type 0
  TakesAll (EntrySent term position e) = Unit {0}
  TakesAll (AckSent term mem disk) = Unit {0}
  TakesAll (RejoinSent term accepted length incarnation) = Unit {0}
  TakesAll (AdoptSent term incarnation log) =
      (s : Few L) → R s (record s { accepted = term; log = log })

  put_or_moves : {Y : Type 0} (f : Copy L Y → Copy L Y) (c : Copy L Y)
      → ((d : Copy L Y) → R (few d) (few (f d))) → (p : Put (Copy L Y)) → PutMoves c p
      → R (few c) (few (put_or f c p))
  put_or_moves f c e (Done d) m = goes c d (f d) m (e d)
  put_or_moves f c e (NoRoom needed free) m = stays c
  put_or_moves f c e (Failed d) m = m

  appending_moves : {Y : Type 0} (y : LayoutKind Y) (luck : Luck Y) (e : Entry) (c : Copy L Y)
      → R (few c) (few (appending k y luck e c))
  appending_moves y luck e c =
      by_either (λ d. R (few c) (few d)) (can_append (content k c) e) _ _
      (by_either (λ d. R (few c) (few d)) (begins_with_flush e) _ _
      (put_or_moves (appended k e) c (λ d. h.grows.adds (few d) e) (flushed_first k y luck c)
      (flushed_first_moves y luck c))
      (h.grows.adds (few c) e)) (stays c)

  promising_moves : {Y : Type 0} (luck : Luck Y) (term : ℕ) (c : Copy L Y)
      → PutMoves c (promising luck term c)
  promising_moves luck term c = by_test (PutMoves c) (nat_lt c.promise term) _ _
      (λ higher. write_promise_moves luck term c higher) (λ other. stays c)

  adopting_moves : {Y : Type 0} (luck : Luck Y) (term : ℕ) (log : L) (c : Copy L Y)
      → ((s : Few L) → R s (record s { accepted = term; log = log }))
      → R (few c) (few (adopting k luck term log c))
  adopting_moves luck term log c takes =
      by_either (λ d. R (few c) (few d)) (can_hold (k.view log)) _ _
      (put_or_moves (taken k term log) c (λ d. takes (few d)) (promising luck term c)
      (promising_moves luck term c)) (stays c)

  giving_moves : {Y : Type 0} (luck : Luck Y) (to incarnation : ℕ) (c : Copy L Y)
      → R (few c) (few (giving luck to incarnation c))
  giving_moves luck to incarnation c =
      by_either (λ d. R (few c) (few d)) (fails_disk luck.chance) _ _ (dead_moves None c) (stays c)

  append_it_moves : {Y : Type 0} (y : LayoutKind Y) (luck : Luck Y) (m : Message L) (c : Copy L Y)
      → R (few c) (few (append_it k y luck m c))
  append_it_moves y luck (EntrySent term position e) c = appending_moves y luck e c
  append_it_moves y luck (AckSent term mem disk) c = stays c
  append_it_moves y luck (RejoinSent term accepted length incarnation) c = stays c
  append_it_moves y luck (AdoptSent term incarnation log) c = stays c

  take_it_moves : {Y : Type 0} (luck : Luck Y) (m : Message L) (c : Copy L Y) → TakesAll m
      → R (few c) (few (take_it k luck m c))
  take_it_moves luck (EntrySent term position e) c takes = stays c
  take_it_moves luck (AckSent term mem disk) c takes = stays c
  take_it_moves luck (RejoinSent term accepted length incarnation) c takes = stays c
  take_it_moves luck (AdoptSent term incarnation log) c takes = adopting_moves luck term log c takes

  count_it_moves : {Y : Type 0} (from : ℕ) (m : Message L) (c : Copy L Y)
      → R (few c) (few (count_it k from m c))
  count_it_moves from (EntrySent term position e) c = stays c
  count_it_moves from (AckSent term mem disk) c =
      settled_adds k R h.grows (counting from mem disk c)
  count_it_moves from (RejoinSent term accepted length incarnation) c = stays c
  count_it_moves from (AdoptSent term incarnation log) c = stays c

  give_it_moves : {Y : Type 0} (luck : Luck Y) (from : ℕ) (m : Message L) (c : Copy L Y)
      → R (few c) (few (give_it luck from m c))
  give_it_moves luck from (EntrySent term position e) c = stays c
  give_it_moves luck from (AckSent term mem disk) c = stays c
  give_it_moves luck from (RejoinSent term accepted length incarnation) c =
      giving_moves luck from incarnation c
  give_it_moves luck from (AdoptSent term incarnation log) c = stays c

  doing_moves : {Y : Type 0} (y : LayoutKind Y) (luck : Luck Y) (from : ℕ) (m : Message L)
      (what : Heard) (c : Copy L Y) → (what ≡ hearing.TakeAll → TakesAll m)
      → R (few c) (few (doing k y luck from m what c))
  doing_moves y luck from m hearing.Ignore c takes = stays c
  doing_moves y luck from m hearing.Acknowledge c takes = stays c
  doing_moves y luck from m hearing.AskRejoin c takes = stays c
  doing_moves y luck from m hearing.Append c takes = append_it_moves y luck m c
  doing_moves y luck from m hearing.TakeAll c takes = take_it_moves luck m c (takes refl)
  doing_moves y luck from m hearing.MarkWhole c takes = stays c
  doing_moves y luck from m hearing.GiveAdopt c takes = give_it_moves luck from m c
  doing_moves y luck from m hearing.Count c takes = count_it_moves from m c

  -- what is to hold besides of a message that a copy hears
  abbrev pub HearsAll : {Y : Type 0} → Copy L Y → Sent L → Type 0
  HearsAll c sent = heard (core_of k c) (head_of k sent.from sent.message) ≡ hearing.TakeAll
      → TakesAll sent.message

  hearing_it_moves : {Y : Type 0} (y : LayoutKind Y) (luck : Luck Y) (sent : Sent L) (c : Copy L Y)
      → HearsAll c sent → R (few c) (few (hearing_it k y luck sent c))
  hearing_it_moves y luck sent c takes =
      by_either (λ d. R (few c) (few d)) (is_for sent c) _ _
      (doing_moves y luck sent.from sent.message
      (heard (core_of k c) (head_of k sent.from sent.message)) c takes) (stays c)

  -- ---- the others

  if_alive_moves : {Y A : Type 0} (luck : Luck Y) (c : Copy L Y) (r : Copy L Y × Result A VbFault)
      → R (few c) (few r.0) → R (few c) (few (if_alive luck c r).0)
  if_alive_moves luck c r m =
      by_either (λ (r : Copy L _ × Result _ VbFault). R (few c) (few r.0)) (is_dead c.role) _ _
      (stays c)
      (by_either (λ (r : Copy L _ × Result _ VbFault). R (few c) (few r.0))
      (lacks_memory luck.chance) _ _ (stays c) m)

  put_told_moves : {Y A : Type 0} (f : Copy L Y → Copy L Y × Result A VbFault) (c : Copy L Y)
      → ((d : Copy L Y) → R (few d) (few (f d).0)) → (p : Put (Copy L Y)) → PutMoves c p
      → R (few c) (few (put_told f c p).0)
  put_told_moves f c e (Done d) m = goes c d (f d).0 m (e d)
  put_told_moves f c e (NoRoom needed free) m = stays c
  put_told_moves f c e (Failed d) m = m

  ticking_moves : {Y : Type 0} (now : ℕ) (c : Copy L Y) → R (few c) (few (ticking k now c))
  ticking_moves now c =
      by_either (λ d. R (few c) (few d)) (is_active c.role) _ _
      (goes c (aborting k (due now c) c) (settled k (aborting k (due now c) c))
      (aborting_adds k R h.grows (due now c) c)
      (settled_adds k R h.grows (aborting k (due now c) c)))
      (stays c)

  flushes_moves : {Y : Type 0} (y : LayoutKind Y) (luck : Luck Y) (c : Copy L Y)
      → R (few c) (few (flushes k y luck c).0)
  flushes_moves y luck c = if_alive_moves luck c _
      (put_told_moves (flushed_to k) c (λ d. stays d) (flushing k y luck c)
      (flushing_moves y luck c))

  cleaning_writes_moves : {Y : Type 0} (luck : Luck Y) (told : Cleaning) (c : Copy L Y)
      → R (few c) (few (cleaning_writes luck told c).0)
  cleaning_writes_moves luck told c = by_either
      (λ (r : Copy L _ × Result Cleaning VbFault). R (few c) (few r.0)) (fails_disk luck.chance) _ _
      (h.leaves (few c) roles.Dead refl) (stays c)

  cleaning_as_moves : {Y : Type 0} (luck : Luck Y) (told : Cleaning) (c : Copy L Y)
      → R (few c) (few (cleaning_as luck told c).0)
  cleaning_as_moves luck Nothing c = by_either
      (λ (r : Copy L _ × Result Cleaning VbFault). R (few c) (few r.0)) (fails_disk luck.chance) _ _
      (dead_moves None c) (stays c)
  cleaning_as_moves luck (Moved count) c = cleaning_writes_moves luck (Moved count) c
  cleaning_as_moves luck (Freed segment) c = cleaning_writes_moves luck (Freed segment) c
  cleaning_as_moves luck (NoRoomToMove needed free) c =
      by_either (λ (r : Copy L _ × Result Cleaning VbFault). R (few c) (few r.0))
      (fails_disk luck.chance) _ _ (dead_moves None c) (stays c)

  fencing_moves : {Y : Type 0} (luck : Luck Y) (term : ℕ) (c : Copy L Y)
      → R (few c) (few (fencing k luck term c).0)
  fencing_moves luck term c =
      by_test (λ (r : Copy L _ × Result FenceAnswer VbFault). R (few c) (few r.0))
      (nat_lt c.promise term) _ _
      (λ higher. put_told_moves (λ d. answering k term (in_role roles.Replica d)) c
      (λ d. h.leaves (few d) roles.Replica refl) (write_promise luck term c)
      (write_promise_moves luck term c higher))
      (λ other. stays c)

  fences_moves : {Y : Type 0} (luck : Luck Y) (term : ℕ) (c : Copy L Y)
      → R (few c) (few (fences k luck term c).0)
  fences_moves luck term c =
      if_alive_moves luck c _ (by_either (λ (r : Copy L _ × Result FenceAnswer VbFault). R (few c)
      (few r.0)) (is_old term (core_of k c)) _ _ (stays c) (fencing_moves luck term c))

  promoting_moves : {Y : Type 0} (y : LayoutKind Y) (luck : Luck Y) (term : ℕ)
      (fault : Option PromoteFault) (c : Copy L Y)
      → (fault ≡ None → (s : Few L) → R s (record s { role = roles.Active; accepted = term }))
      → R (few c) (few (promoting k y luck term fault c).0)
  promoting_moves y luck term (Some fault) c begins = stays c
  promoting_moves y luck term None c begins =
      put_told_moves (λ d. (begun_at k term d, Ok nothing)) c
      (λ d. goes d (active_at k term d) (begun_at k term d) (begins refl (few d))
      (begun_adds k R h.grows term d))
      (write_log k y luck term c) (write_log_moves y luck term c)

  put_in_state_moves : {Y : Type 0} (state : ℕ) (c : Copy L Y)
      → R (few c) (few (put_in_state state c))
  put_in_state_moves state c =
      by_either (λ d. R (few c) (few d)) (is_dead c.role) _ _ (stays c)
      (by_either (λ d. R (few c) (few d)) (nat_eq state 3) _ _ (h.leaves (few c) roles.Pending refl)
      (dead_moves None c))

  speaks_moves : {Y : Type 0} (c : Copy L Y) (sent : List (Sent L))
      → R (few c) (few (speaks_first c sent).0)
  speaks_moves c [] = stays c
  speaks_moves c (sent ∷ more) = stays c

  tells_moves : {Y : Type 0} (c : Copy L Y) (seen : List Seen)
      → R (few c) (few (tells_first c seen).0)
  tells_moves c [] = stays c
  tells_moves c (seen ∷ more) = stays c

  -- what is to hold besides, where an event is a promotion or brings all of a log
  abbrev pub Besides : {Y : Type 0} → Copy L Y → Event L → Type 0
  Besides c (Requests request now) = Unit {0}
  Besides c (Polls ticket) = Unit {0}
  Besides c (Forgets ticket) = Unit {0}
  Besides c (Hears sent) = HearsAll c sent
  Besides c Speaks = Unit {0}
  Besides c TellsChange = Unit {0}
  Besides c (Ticks now) = Unit {0}
  Besides c Flushes = Unit {0}
  Besides c (Cleans most) = Unit {0}
  Besides c (Fences term) = Unit {0}
  Besides c (Promotes term answers weak) =
      promote_fault (core_of k c) term answers weak ≡ None → (s : Few L)
      → R s (record s { role = roles.Active; accepted = term })
  Besides c (SetsState state) = Unit {0}

  -- Each event keeps the relation.
  pub step_moves : {Y : Type 0} (y : LayoutKind Y) (luck : Luck Y) (e : Event L) (c : Copy L Y)
      → Besides c e → R (few c) (few (step k y luck e c).0)
  step_moves y luck (Requests request now) c besides = requested_moves y luck request now c
  step_moves y luck (Polls ticket) c besides = polled_as_moves ticket c (fate_of ticket c)
  step_moves y luck (Forgets ticket) c besides = h.forgets (few c) ticket
  step_moves y luck (Hears sent) c besides =
      if_alive_moves luck c _ (hearing_it_moves y luck sent c besides)
  step_moves y luck Speaks c besides = speaks_moves c c.unspoken
  step_moves y luck TellsChange c besides = tells_moves c c.untold
  step_moves y luck (Ticks now) c besides =
      if_alive_moves luck c _ (ticking_moves (moment_of now) (seeing now c))
  step_moves y luck Flushes c besides = flushes_moves y luck c
  step_moves y luck (Cleans most) c besides =
      if_alive_moves luck c _ (cleaning_as_moves luck
      (y.cleaned c.disk.layout most (k.view c.disk.log)) c)
  step_moves y luck (Fences term) c besides = fences_moves luck term c
  step_moves y luck (Promotes term answers weak) c besides =
      if_alive_moves luck c _ (promoting_moves y luck term
      (promote_fault (core_of k c) term answers weak) c besides)
  step_moves y luck (SetsState state) c besides = put_in_state_moves state c
