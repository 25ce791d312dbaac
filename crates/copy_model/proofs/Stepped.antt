-- What each event leaves on a copy's disk, beside what it would if the disk failed at once.
use Rattle.std.specs.Prelude.{ℕ, ◌+◌, nat_eq, nat_lt, not, ◌&&◌, ◌||◌, is_none, List, [], ◌∷◌, Option, Some, None, Result, Ok, Err, refl}
use Rattle.std.specs.Option.{option_map_or}
use Rattle.std.proofs.Common.{inr}
use Rattle.doc_model.specs.declared.document.What.{What}
use Rattle.doc_model.specs.declared.status.Status.{Status}
use Rattle.kv_request.specs.declared.request.Request.{Request}
use Rattle.kv_request.specs.declared.request.Durability.{Durability}
use Rattle.kv_request.specs.declared.request.Body.{Body}
use Rattle.kv_request.specs.declared.request.Body.TheVariants as bodies
use Rattle.kv_request.specs.declared.reply.Reply.{Reply}
use Rattle.kv_request.specs.Tables.{document_key}
use Rattle.manifest_rules.specs.Rules.{Step}
use Rattle.manifest_rules.specs.Applying.{text_step}
use Rattle.doc_step.specs.declared.Change.{Change}
use Rattle.vb_log.specs.declared.entry.Entry.{Entry}
use Rattle.vb_log.specs.declared.entry.Entry.TheVariants as entries
use Rattle.vb_log.specs.Content.{has_collection, prepare_of}
use Rattle.vb_log.specs.Logs.{LogKind}
use Rattle.durability_core.specs.Ready.{can_commit}
use Rattle.replica_core.specs.declared.copy.Role.TheVariants as roles
use Rattle.replica_core.specs.declared.messages.Heard.{Heard}
use Rattle.replica_core.specs.declared.messages.Heard.TheVariants as hearing
use Rattle.replica_core.specs.declared.fences.PromoteFault.{PromoteFault}
use Rattle.replica_core.specs.Terms.{is_active, is_dead}
use Rattle.replica_core.specs.Hearing.{heard}
use Rattle.replica_core.specs.Promotion.{is_old, promote_fault}
use Rattle.copy_model.specs.declared.outcome.Ticket.{Ticket}
use Rattle.copy_model.specs.declared.outcome.Outcome.{Outcome}
use Rattle.copy_model.specs.declared.outcome.VbFault.{VbFault}
use Rattle.copy_model.specs.Copies.{Fate, Waiting, Stood, Aborted, Left, Message, EntrySent, AckSent, RejoinSent, AdoptSent, Sent, Seen, Copy, Cleaning, Nothing, Moved, Freed, NoRoomToMove, LayoutKind, Luck, lacks_memory, fails_disk, fails_read}
use Rattle.copy_model.specs.Entries.{content, core_of, aborted, settled, counting, in_role}
use Rattle.copy_model.specs.Requests.{moment_of, seeing, drawn, polled_as, polled, fate_of, is_too_much, after_put, changing, made, ticket_next, preparing, prepared, what_of, plain_entry, changing_document, is_inherited, is_write, effecting, concluded, step_on, served, installed, set_by, if_active, body_step, requested, refusal}
use Rattle.copy_model.specs.Hearing.{head_of, put_or, begins_with_flush, can_append, appended, appending, can_hold, taken, adopting, giving, append_it, take_it, count_it, give_it, doing, is_for, hearing_it}
use Rattle.copy_model.specs.Events.{if_alive, put_told, speaks_first, tells_first, due, aborting, telling_all, ticking, flushed_to, cleaning_as, answering, fencing, active_at, begun_at, promoting, put_in_state, nothing, Event, Requests, Polls, Forgets, Hears, Speaks, TellsChange, Ticks, Flushes, Cleans, Fences, Promotes, SetsState, step}
use Rattle.copy_model.proofs.Dead.{if_one}
use Rattle.copy_model.proofs.Written.{if_both, if_told, stays, stays_unwell, failing_unwell, lacking_unwell, unread_unwell, Keeps, Fares, Stays, Stops, Writes, Tears, Handles, fails, keeps, keeps_on, settled_keeps, write_promise_fares, write_log_fares, flushing_fares, flushed_first_fares}

module _ {L : Type 0} (k : LogKind L) where
  -- of two outcomes of an event on a copy: the first is the one if the disk fails at once
  abbrev Both : {Y A : Type 0} → Luck Y → Copy L Y → Copy L Y × A → Copy L Y × A → Type 0
  Both luck c r s = Fares r.0.torn luck c.disk c.torn s.0

  -- ---- requests

  after_put_handles : {Y : Type 0} (change : Copy L Y → Copy L Y × Outcome) (request : Request)
      (c : Copy L Y) → ((d : Copy L Y) → Keeps d.disk d.torn (change d).0)
      → Handles c.disk c.torn (λ p. (after_put change request c p).0)
  after_put_handles change request c h =
      record { done = h; full = λ needed free. keeps k c; failed = λ d. refl }

  changing_fares : {Y : Type 0} (y : LayoutKind Y) (z : Y) (luck : Luck Y) (request : Request)
      (cas : ℕ) (e : Entry) (change : Copy L Y → Copy L Y × Outcome) (c : Copy L Y)
      → ((d : Copy L Y) → Keeps d.disk d.torn (change d).0)
      → Both luck c (changing k y (fails z) request cas e change c)
      (changing k y luck request cas e change c)
  changing_fares y z luck request cas e change c h =
      if_both (Both luck c) (is_too_much (content k c) cas e) _ _ _ _ (stays (keeps k c))
      (flushed_first_fares k y z luck c (λ p. (after_put change request c p).0)
      (after_put_handles change request c h))

  made_keeps : {Y : Type 0} (request : Request) (reply : Reply) (e : Entry) (c : Copy L Y)
      → Keeps c.disk c.torn (made k request reply e c).0
  made_keeps request reply e c = record { disk = refl; torn = refl }

  polled_keeps : {Y : Type 0} (ticket : Ticket) (c : Copy L Y) (fate : Option Fate)
      → Keeps c.disk c.torn (polled_as ticket c fate).0
  polled_keeps ticket c None = record { disk = refl; torn = refl }
  polled_keeps ticket c (Some Waiting) = record { disk = refl; torn = refl }
  polled_keeps ticket c (Some (Stood position)) = record { disk = refl; torn = refl }
  polled_keeps ticket c (Some Aborted) = record { disk = refl; torn = refl }
  polled_keeps ticket c (Some Left) = record { disk = refl; torn = refl }

  prepared_keeps : {Y : Type 0} (request : Request) (until : ℕ) (reply : Reply) (e : Entry)
      (c : Copy L Y) → Keeps c.disk c.torn (prepared k request until reply e c).0
  prepared_keeps request until reply e c =
      let t = ticket_next k request reply c in
      let d = settled k (preparing k until e c) in
      keeps_on k c.disk c.torn d (polled t d).0 (settled_keeps k (preparing k until e c))
      (polled_keeps t d (fate_of t d))

  changing_document_fares : {Y : Type 0} (y : LayoutKind Y) (z : Y) (luck : Luck Y) (now : ℕ)
      (request : Request) (cas : ℕ) (reply : Reply) (what : What) (d : Option Durability)
      (c : Copy L Y)
      → Both luck c (changing_document k y (fails z) now request cas reply what d c)
      (changing_document k y luck now request cas reply what d c)
  changing_document_fares y z luck now request cas reply what None c =
      let e = plain_entry (document_key request.body) what in
      changing_fares y z luck request cas e (made k request reply e) c (made_keeps request reply e)
  changing_document_fares y z luck now request cas reply what (Some d) c =
      let e = entries.Prepare (document_key request.body) what d.level in
      changing_fares y z luck request cas e (prepared k request (now + d.timeout) reply e) c
      (prepared_keeps request (now + d.timeout) reply e)

  effecting_fares : {Y : Type 0} (y : LayoutKind Y) (z : Y) (luck : Luck Y) (now : ℕ)
      (request : Request) (cas : ℕ) (reply : Reply) (what : Option What) (c : Copy L Y)
      → Both luck c (effecting k y (fails z) now request cas reply what c)
      (effecting k y luck now request cas reply what c)
  effecting_fares y z luck now request cas reply None c = stays (keeps k c)
  effecting_fares y z luck now request cas reply (Some what) c =
      changing_document_fares y z luck now request cas reply what request.durability c

  concluded_fares : {Y : Type 0} (y : LayoutKind Y) (z : Y) (luck : Luck Y) (now : ℕ)
      (request : Request) (cas : ℕ) (r : Result Change Status) (c : Copy L Y)
      → Both luck c (concluded k y (fails z) now request cas r c)
      (concluded k y luck now request cas r c)
  concluded_fares y z luck now request cas (Err why) c = stays (keeps k c)
  concluded_fares y z luck now request cas (Ok change) c =
      effecting_fares y z luck now request cas change.reply (what_of change.effect cas) c

  -- the checks are the same but for the last, whether the document can be read
  served_fares : {Y : Type 0} (y : LayoutKind Y) (z : Y) (luck : Luck Y) (now : ℕ)
      (request : Request) (c : Copy L Y)
      → Both luck c (served k y (fails z) now request c) (served k y luck now request c)
  served_fares {Y = Y} y z luck now request c =
      let key = document_key request.body in
      let waiting = prepare_of (content k c).prepares key in
      let refused : Status → Copy L Y × Outcome = λ why. (c, refusal request why) in
      let goes : Luck Y → Copy L Y × Outcome =
      λ by. concluded k y by now request (drawn (content k c) c.seen)
      (step_on (content k c) c.seen now request) c in
      let P : Option Status → Option Status → Type 0 =
      λ o q. Both luck c (option_map_or refused o (goes (fails z)))
      (option_map_or refused q (goes luck)) in
      if_both P (is_active c.role && nat_eq request.vbucket c.number) _ _ _ _
      (if_both P (has_collection (content k c).manifest key.collection) _ _ _ _
      (if_both P (not (is_inherited c waiting)) _ _ _ _
      (if_both P (is_none request.durability || can_commit c.chain) _ _ _ _
      (if_both P (not (is_write request.body) || is_none waiting) _ _ _ _
      (if_told (P None) (not (fails_read luck.chance)) _ _
      (λ reads. concluded_fares y z luck now request (drawn (content k c) c.seen)
      (step_on (content k c) c.seen now request) c)
      (λ fails. stays_unwell (keeps k c) (unread_unwell luck.chance fails)))
      (stays (keeps k c))) (stays (keeps k c))) (stays (keeps k c))) (stays (keeps k c)))
      (stays (keeps k c))

  installed_keeps : {Y : Type 0} (request : Request) (e : Entry) (c : Copy L Y)
      → Keeps c.disk c.torn (installed k request e c).0
  installed_keeps request e c = record { disk = refl; torn = refl }

  set_by_fares : {Y : Type 0} (y : LayoutKind Y) (z : Y) (luck : Luck Y) (request : Request)
      (text : List ℕ) (r : Result Step Status) (c : Copy L Y)
      → Both luck c (set_by k y (fails z) request text r c)
      (set_by k y luck request text r c)
  set_by_fares y z luck request text (Err why) c = stays (keeps k c)
  set_by_fares y z luck request text (Ok step) c =
      if_both (Both luck c) step.changed _ _ _ _
      (changing_fares y z luck request 0 (entries.Manifest text)
      (installed k request (entries.Manifest text)) c
      (installed_keeps request (entries.Manifest text)))
      (stays (keeps k c))

  if_active_fares : {Y : Type 0} (luck : Luck Y) (request : Request) (c : Copy L Y)
      (r s : Copy L Y × Outcome) → Both luck c r s
      → Both luck c (if_active request c r) (if_active request c s)
  if_active_fares luck request c r s h =
      if_both (Both luck c) (is_active c.role) _ _ _ _ h (stays (keeps k c))

  body_step_fares : {Y : Type 0} (y : LayoutKind Y) (z : Y) (luck : Luck Y) (now : ℕ)
      (request : Request) (body : Body) (c : Copy L Y)
      → Both luck c (body_step k y (fails z) now request body c)
      (body_step k y luck now request body c)
  body_step_fares y z luck now request (bodies.SetManifest text) c =
      if_active_fares luck request c _ _
      (set_by_fares y z luck request text (text_step (content k c).manifest text) c)
  body_step_fares y z luck now request bodies.GetManifest c =
      if_one (λ (r : Copy L _ × Outcome). Both luck c r r) (is_active c.role) _ _
      (stays (keeps k c)) (stays (keeps k c))
  body_step_fares y z luck now request (bodies.CollectionId path) c =
      if_one (λ (r : Copy L _ × Outcome). Both luck c r r) (is_active c.role) _ _
      (stays (keeps k c)) (stays (keeps k c))
  body_step_fares y z luck now request (bodies.ScopeId path) c =
      if_one (λ (r : Copy L _ × Outcome). Both luck c r r) (is_active c.role) _ _
      (stays (keeps k c)) (stays (keeps k c))
  body_step_fares y z luck now request (bodies.Hello wanted) c = stays (keeps k c)
  body_step_fares y z luck now request bodies.Noop c = stays (keeps k c)
  body_step_fares y z luck now request bodies.Version c = stays (keeps k c)
  body_step_fares y z luck now request bodies.Quit c = stays (keeps k c)
  body_step_fares y z luck now request (bodies.Get key) c = served_fares y z luck now request c
  body_step_fares y z luck now request (bodies.Store key mode flags expiry value) c =
      served_fares y z luck now request c
  body_step_fares y z luck now request (bodies.Delete key) c = served_fares y z luck now request c
  body_step_fares y z luck now request (bodies.Count key up delta initial expiry) c =
      served_fares y z luck now request c
  body_step_fares y z luck now request (bodies.Join key front value) c =
      served_fares y z luck now request c
  body_step_fares y z luck now request (bodies.Touch key expiry fetch) c =
      served_fares y z luck now request c
  body_step_fares y z luck now request (bodies.Look key spec) c =
      served_fares y z luck now request c
  body_step_fares y z luck now request (bodies.Edit key spec expiry flags) c =
      served_fares y z luck now request c
  body_step_fares y z luck now request (bodies.MultiLook key specs) c =
      served_fares y z luck now request c
  body_step_fares y z luck now request (bodies.MultiEdit key specs expiry flags) c =
      served_fares y z luck now request c

  requested_fares : {Y : Type 0} (y : LayoutKind Y) (z : Y) (luck : Luck Y) (request : Request)
      (now : ℕ) (c : Copy L Y)
      → Both luck c (requested k y (fails z) request now c)
      (requested k y luck request now c)
  requested_fares y z luck request now c =
      if_told (Both luck c (requested k y (fails z) request now c)) (lacks_memory luck.chance) _ _
      (λ lacks. stays_unwell (keeps k c) (lacking_unwell luck.chance lacks))
      (λ has. (body_step_fares y z luck (moment_of now) request request.body (seeing now c)))

  -- ---- messages

  put_or_handles : {Y : Type 0} (f : Copy L Y → Copy L Y) (c : Copy L Y)
      → ((d : Copy L Y) → Keeps d.disk d.torn (f d)) → Handles c.disk c.torn (put_or f c)
  put_or_handles f c h = record { done = h; full = λ needed free. keeps k c; failed = λ d. refl }

  appended_keeps : {Y : Type 0} (e : Entry) (c : Copy L Y) → Keeps c.disk c.torn (appended k e c)
  appended_keeps e c = record { disk = refl; torn = refl }

  appending_fares : {Y : Type 0} (y : LayoutKind Y) (z : Y) (luck : Luck Y) (e : Entry)
      (c : Copy L Y)
      → Fares (appending k y (fails z) e c).torn luck c.disk c.torn (appending k y luck e c)
  appending_fares {Y = Y} y z luck e c =
      let P : Copy L Y → Copy L Y → Type 0 = λ a b. Fares a.torn luck c.disk c.torn b in
      if_both P (can_append (content k c) e) _ _ _ _
      (if_both P (begins_with_flush e) _ _ _ _
      (flushed_first_fares k y z luck c (put_or (appended k e) c)
      (put_or_handles (appended k e) c (appended_keeps e)))
      (stays (appended_keeps e c))) (stays (keeps k c))

  taken_keeps : {Y : Type 0} (term : ℕ) (log : L) (c : Copy L Y)
      → Keeps c.disk c.torn (taken k term log c)
  taken_keeps term log c = record { disk = refl; torn = refl }

  adopting_fares : {Y : Type 0} (z : Y) (luck : Luck Y) (term : ℕ) (log : L) (c : Copy L Y)
      → Fares (adopting k (fails z) term log c).torn luck c.disk c.torn
      (adopting k luck term log c)
  adopting_fares {Y = Y} z luck term log c =
      let P : Copy L Y → Copy L Y → Type 0 = λ a b. Fares a.torn luck c.disk c.torn b in
      let g = put_or (taken k term log) c in
      if_both P (can_hold (k.view log)) _ _ _ _
      (if_both (λ p q. P (g p) (g q)) (nat_lt c.promise term) _ _ _ _
      (write_promise_fares k z luck term c g
      (put_or_handles (taken k term log) c (taken_keeps term log)))
      (stays (taken_keeps term log c))) (stays (keeps k c))

  giving_fares : {Y : Type 0} (z : Y) (luck : Luck Y) (to incarnation : ℕ) (c : Copy L Y)
      → Fares (giving (fails z) to incarnation c).torn luck c.disk c.torn
      (giving luck to incarnation c)
  giving_fares z luck to incarnation c =
      if_one (Fares (giving (fails z) to incarnation c).torn luck c.disk c.torn)
      (fails_disk luck.chance) _ _
      (Stops refl refl refl refl) (Stays record { disk = refl; torn = refl } (λ well. inr refl))

  append_it_fares : {Y : Type 0} (y : LayoutKind Y) (z : Y) (luck : Luck Y) (m : Message L)
      (c : Copy L Y)
      → Fares (append_it k y (fails z) m c).torn luck c.disk c.torn (append_it k y luck m c)
  append_it_fares y z luck (EntrySent term position e) c = appending_fares y z luck e c
  append_it_fares y z luck (AckSent term mem disk) c = stays (keeps k c)
  append_it_fares y z luck (RejoinSent term accepted length incarnation) c = stays (keeps k c)
  append_it_fares y z luck (AdoptSent term incarnation log) c = stays (keeps k c)

  take_it_fares : {Y : Type 0} (z : Y) (luck : Luck Y) (m : Message L) (c : Copy L Y)
      → Fares (take_it k (fails z) m c).torn luck c.disk c.torn (take_it k luck m c)
  take_it_fares z luck (EntrySent term position e) c = stays (keeps k c)
  take_it_fares z luck (AckSent term mem disk) c = stays (keeps k c)
  take_it_fares z luck (RejoinSent term accepted length incarnation) c = stays (keeps k c)
  take_it_fares z luck (AdoptSent term incarnation log) c = adopting_fares z luck term log c

  count_it_keeps : {Y : Type 0} (from : ℕ) (m : Message L) (c : Copy L Y)
      → Keeps c.disk c.torn (count_it k from m c)
  count_it_keeps from (EntrySent term position e) c = keeps k c
  count_it_keeps from (AckSent term mem disk) c = settled_keeps k (counting from mem disk c)
  count_it_keeps from (RejoinSent term accepted length incarnation) c = keeps k c
  count_it_keeps from (AdoptSent term incarnation log) c = keeps k c

  give_it_fares : {Y : Type 0} (z : Y) (luck : Luck Y) (from : ℕ) (m : Message L) (c : Copy L Y)
      → Fares (give_it (fails z) from m c).torn luck c.disk c.torn (give_it luck from m c)
  give_it_fares z luck from (EntrySent term position e) c = stays (keeps k c)
  give_it_fares z luck from (AckSent term mem disk) c = stays (keeps k c)
  give_it_fares z luck from (RejoinSent term accepted length incarnation) c =
      giving_fares z luck from incarnation c
  give_it_fares z luck from (AdoptSent term incarnation log) c = stays (keeps k c)

  doing_fares : {Y : Type 0} (y : LayoutKind Y) (z : Y) (luck : Luck Y) (from : ℕ) (m : Message L)
      (what : Heard) (c : Copy L Y)
      → Fares (doing k y (fails z) from m what c).torn luck c.disk c.torn
      (doing k y luck from m what c)
  doing_fares y z luck from m hearing.Ignore c = stays (keeps k c)
  doing_fares y z luck from m hearing.Acknowledge c = stays record { disk = refl; torn = refl }
  doing_fares y z luck from m hearing.AskRejoin c = stays record { disk = refl; torn = refl }
  doing_fares y z luck from m hearing.Append c = append_it_fares y z luck m c
  doing_fares y z luck from m hearing.TakeAll c = take_it_fares z luck m c
  doing_fares y z luck from m hearing.MarkWhole c = stays record { disk = refl; torn = refl }
  doing_fares y z luck from m hearing.GiveAdopt c = give_it_fares z luck from m c
  doing_fares y z luck from m hearing.Count c = stays (count_it_keeps from m c)

  hearing_it_fares : {Y : Type 0} (y : LayoutKind Y) (z : Y) (luck : Luck Y) (sent : Sent L)
      (c : Copy L Y)
      → Fares (hearing_it k y (fails z) sent c).torn luck c.disk c.torn
      (hearing_it k y luck sent c)
  hearing_it_fares {Y = Y} y z luck sent c =
      let P : Copy L Y → Copy L Y → Type 0 = λ a b. Fares a.torn luck c.disk c.torn b in
      if_both P (is_for sent c) _ _ _ _
      (doing_fares y z luck sent.from sent.message
      (heard (core_of k c) (head_of k sent.from sent.message)) c) (stays (keeps k c))

  -- ---- the others

  if_alive_fares : {Y A : Type 0} (z : Y) (luck : Luck Y) (c : Copy L Y)
      (r s : Copy L Y × Result A VbFault) → Both luck c r s
      → Both luck c (if_alive (fails z) c r) (if_alive luck c s)
  if_alive_fares z luck c r s h =
      if_both (Both luck c) (is_dead c.role) _ _ _ _ (stays (keeps k c))
      (if_told (Both luck c r) (lacks_memory luck.chance) _ _
      (λ lacks. stays_unwell (keeps k c) (lacking_unwell luck.chance lacks)) (λ has. h))

  put_told_handles : {Y A : Type 0} (f : Copy L Y → Copy L Y × Result A VbFault) (c : Copy L Y)
      → ((d : Copy L Y) → Keeps d.disk d.torn (f d).0)
      → Handles c.disk c.torn (λ p. (put_told f c p).0)
  put_told_handles f c h = record { done = h; full = λ needed free. keeps k c; failed = λ d. refl }

  aborting_keeps : {Y : Type 0} (ps : List ℕ) (c : Copy L Y) → Keeps c.disk c.torn (aborting k ps c)
  aborting_keeps [] c = keeps k c
  aborting_keeps (p ∷ ps) c = aborting_keeps ps (aborted k p c)

  ticking_keeps : {Y : Type 0} (now : ℕ) (c : Copy L Y) → Keeps c.disk c.torn (ticking k now c)
  ticking_keeps now c =
      let a = aborting k (due now c) c in
      let s = keeps_on k c.disk c.torn a (settled k a) (aborting_keeps (due now c) c)
      (settled_keeps k a) in
      if_one (Keeps c.disk c.torn) (is_active c.role) _ _ record { disk = s.disk; torn = s.torn }
      (keeps k c)

  cleaning_as_fares : {Y : Type 0} (z : Y) (luck : Luck Y) (told : Cleaning) (c : Copy L Y)
      → Both luck c (cleaning_as (fails z) told c) (cleaning_as luck told c)
  cleaning_as_fares z luck Nothing c =
      if_one (Both luck c (cleaning_as (fails z) Nothing c)) (fails_disk luck.chance) _ _
      (Stops refl refl refl refl) (Stays (keeps k c) (λ well. inr refl))
  cleaning_as_fares z luck (Moved count) c =
      if_told (Both luck c (cleaning_as (fails z) (Moved count) c)) (fails_disk luck.chance) _ _
      (λ failed. Tears refl refl refl (failing_unwell luck.chance failed))
      (λ goes. Writes refl refl refl)
  cleaning_as_fares z luck (Freed segment) c =
      if_told (Both luck c (cleaning_as (fails z) (Freed segment) c)) (fails_disk luck.chance) _ _
      (λ failed. Tears refl refl refl (failing_unwell luck.chance failed))
      (λ goes. Writes refl refl refl)
  cleaning_as_fares z luck (NoRoomToMove needed free) c =
      if_one (Both luck c (cleaning_as (fails z) (NoRoomToMove needed free) c))
      (fails_disk luck.chance) _ _ (Stops refl refl refl refl)
      (Stays (keeps k c) (λ well. inr refl))

  fencing_fares : {Y : Type 0} (z : Y) (luck : Luck Y) (term : ℕ) (c : Copy L Y)
      → Both luck c (fencing k (fails z) term c) (fencing k luck term c)
  fencing_fares {Y = Y} z luck term c =
      let f = λ (d : Copy L Y). answering k term (in_role roles.Replica d) in
      if_both (Both luck c) (nat_lt c.promise term) _ _ _ _
      (write_promise_fares k z luck term c (λ p. (put_told f c p).0)
      (put_told_handles f c (λ d. record { disk = refl; torn = refl }))) (stays (keeps k c))

  begun_at_keeps : {Y : Type 0} (term : ℕ) (c : Copy L Y) → Keeps c.disk c.torn (begun_at k term c)
  begun_at_keeps term c = settled_keeps k (telling_all k (active_at k term c))

  promoting_fares : {Y : Type 0} (y : LayoutKind Y) (z : Y) (luck : Luck Y) (term : ℕ)
      (fault : Option PromoteFault) (c : Copy L Y)
      → Both luck c (promoting k y (fails z) term fault c) (promoting k y luck term fault c)
  promoting_fares y z luck term (Some fault) c = stays (keeps k c)
  promoting_fares {Y = Y} y z luck term None c =
      let f : Copy L Y → Copy L Y × Result (Unit {0}) VbFault =
      λ d. (begun_at k term d, Ok nothing) in
      write_log_fares k y z luck term c (λ p. (put_told f c p).0)
      (put_told_handles f c (begun_at_keeps term))

  put_in_state_fares : {Y : Type 0} (luck : Luck Y) (state : ℕ) (c : Copy L Y)
      → Fares (put_in_state state c).torn luck c.disk c.torn (put_in_state state c)
  put_in_state_fares {Y = Y} luck state c =
      let P : Copy L Y → Type 0 = λ d. Fares d.torn luck c.disk c.torn d in
      if_one P (is_dead c.role) _ _ (stays (keeps k c))
      (if_one P (nat_eq state 3) _ _ (stays record { disk = refl; torn = refl })
      (Stops refl refl refl refl))

  speaks_keeps : {Y : Type 0} (c : Copy L Y) (sent : List (Sent L))
      → Keeps c.disk c.torn (speaks_first c sent).0
  speaks_keeps c [] = keeps k c
  speaks_keeps c (sent ∷ more) = record { disk = refl; torn = refl }

  tells_keeps : {Y : Type 0} (c : Copy L Y) (seen : List Seen)
      → Keeps c.disk c.torn (tells_first c seen).0
  tells_keeps c [] = keeps k c
  tells_keeps c (seen ∷ more) = record { disk = refl; torn = refl }

  flushes_fares : {Y : Type 0} (y : LayoutKind Y) (z : Y) (luck : Luck Y) (c : Copy L Y)
      → Both luck c (step k y (fails z) Flushes c) (step k y luck Flushes c)
  flushes_fares y z luck c =
      if_alive_fares z luck c _ _
      (flushing_fares k y z luck c (λ p. (put_told (flushed_to k) c p).0)
      (put_told_handles (flushed_to k) c (λ d. keeps k d)))

  -- The law: how a copy's disk fares at an event.
  pub step_fares : {Y : Type 0} (y : LayoutKind Y) (z : Y) (luck : Luck Y) (e : Event L)
      (c : Copy L Y)
      → Both luck c (step k y (fails z) e c) (step k y luck e c)
  step_fares y z luck (Requests request now) c = requested_fares y z luck request now c
  step_fares y z luck (Polls ticket) c = stays (polled_keeps ticket c (fate_of ticket c))
  step_fares y z luck (Forgets ticket) c = stays record { disk = refl; torn = refl }
  step_fares y z luck (Hears sent) c =
      if_alive_fares z luck c _ _ (hearing_it_fares y z luck sent c)
  step_fares y z luck Speaks c = stays (speaks_keeps c c.unspoken)
  step_fares y z luck TellsChange c = stays (tells_keeps c c.untold)
  step_fares y z luck (Ticks now) c =
      if_alive_fares z luck c _ _ (stays (ticking_keeps (moment_of now) (seeing now c)))
  step_fares y z luck Flushes c = flushes_fares y z luck c
  step_fares y z luck (Cleans most) c =
      if_alive_fares z luck c _ _
      (cleaning_as_fares z luck (y.cleaned c.disk.layout most (k.view c.disk.log)) c)
  step_fares y z luck (Fences term) c =
      if_alive_fares z luck c _ _
      (if_both (Both luck c) (is_old term (core_of k c)) _ _ _ _ (stays (keeps k c))
      (fencing_fares z luck term c))
  step_fares y z luck (Promotes term answers weak) c =
      if_alive_fares z luck c _ _
      (promoting_fares y z luck term (promote_fault (core_of k c) term answers weak) c)
  step_fares y z luck (SetsState state) c = put_in_state_fares luck state c
