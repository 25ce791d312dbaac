-- Each event comes to the same on what a copy's logs come to.
use Rattle.std.specs.Prelude.{◌≡◌, ℕ, nat_eq, nat_lt, Bool, true, map as list_map, List, [], ◌∷◌, Option, Some, None, option_map, Result, Ok, Err, refl}
use Rattle.std.proofs.Common.{sym, ◌∙◌, ap}
use Rattle.vb_log.specs.declared.entry.Entry.{Entry}
use Rattle.vb_log.specs.Content.{Content}
use Rattle.vb_log.specs.Logs.{LogKind, IsFaithful, folds}
use Rattle.replica_core.specs.declared.copy.Role.TheVariants as roles
use Rattle.replica_core.specs.declared.messages.Heard.{Heard}
use Rattle.replica_core.specs.declared.messages.Heard.TheVariants as hearing
use Rattle.replica_core.specs.declared.fences.FenceAnswer.{FenceAnswer}
use Rattle.replica_core.specs.declared.fences.PromoteFault.{PromoteFault}
use Rattle.replica_core.specs.Terms.{is_active, is_dead}
use Rattle.replica_core.specs.Hearing.{heard}
use Rattle.replica_core.specs.Promotion.{is_old, promote_fault}
use Rattle.copy_model.specs.declared.outcome.VbFault.{VbFault}
use Rattle.copy_model.specs.declared.outcome.VbFault.TheVariants as faults
use Rattle.copy_model.specs.Copies.{Message, EntrySent, AckSent, RejoinSent, AdoptSent, Sent, Seen, Pair, Copy, Cleaning, Nothing, Moved, Freed, NoRoomToMove, LayoutKind, Luck, lacks_memory, fails_disk}
use Rattle.copy_model.specs.Entries.{content, core_of, ack, log_length, grown, acknowledging, aborted, settled, counting, in_role}
use Rattle.copy_model.specs.Disk.{Put, Done, NoRoom, Failed, write_promise, write_log, flushing, flushed_first, dead_with}
use Rattle.copy_model.specs.Requests.{moment_of, seeing}
use Rattle.copy_model.specs.Hearing.{head_of, put_or, begins_with_flush, can_append, appended, appending, can_hold, taken, promising, adopting, asking, giving, message_term, append_it, take_it, count_it, give_it, doing, is_for, hearing_it}
use Rattle.copy_model.specs.Events.{nothing, if_alive, put_told, heard_well, hears, speaks_first, tells_first, due, aborting, telling_all, ticking, ticks, flushed_to, flushes, cleaning_writes, cleaning_as, cleans, answering, fencing, fences, active_at, begun_at, promoting, promotes, put_in_state, Event, Requests, Polls, Forgets, Hears, Speaks, TellsChange, Ticks, Flushes, Cleans, Fences, Promotes, SetsState, Answered, PolledTo, Spoke, ToldChange, Quietly, Ended, FlushedTo, CleanedTo, FencedWith, step}
use Rattle.copy_model.specs.Folded.{folded_message, folded_sent, folded_pair, folded, folded_event, folded_after}
use Rattle.copy_model.proofs.Folding.{if_folds, grown_folds, saying_folds, saying_to_all_folds, aborted_folds, settled_folds, acknowledging_folds, in_role_folds, dead_with_folds, folded_put, write_promise_folds, write_log_folds, flushing_folds, flushed_first_folds}
use Rattle.copy_model.proofs.Requests.{folded_out, requested_folds, polled_folds}

module _ {L : Type 0} (k : LogKind L) (h : IsFaithful k) where
  -- ---- hear

  head_folds : (from : ℕ) (m : Message L) → head_of folds from (folded_message k m) ≡ head_of k from m
  head_folds from (EntrySent term position e) = refl
  head_folds from (AckSent term mem disk) = refl
  head_folds from (RejoinSent term accepted length incarnation) = refl
  head_folds from (AdoptSent term incarnation log) = refl

  term_folds : (m : Message L) → message_term (folded_message k m) ≡ message_term m
  term_folds (EntrySent term position e) = refl
  term_folds (AckSent term mem disk) = refl
  term_folds (RejoinSent term accepted length incarnation) = refl
  term_folds (AdoptSent term incarnation log) = refl

  put_or_folds : {Y : Type 0} (f : Copy L Y → Copy L Y) (g : Copy Content Y → Copy Content Y) (c : Copy L Y) → ((d : Copy L Y) → folded k (f d) ≡ g (folded k d)) → (p : Put (Copy L Y)) → folded k (put_or f c p) ≡ put_or g (folded k c) (folded_put k h p)
  put_or_folds f g c e (Done d) = e d
  put_or_folds f g c e (NoRoom needed free) = refl
  put_or_folds f g c e (Failed d) = refl

  appended_folds : {Y : Type 0} (e : Entry) (c : Copy L Y) → folded k (appended k e c) ≡ appended folds e (folded k c)
  appended_folds e c = acknowledging_folds k h (grown k e c) ∙ ap (acknowledging folds) (grown_folds k h e c)

  appending_folds : {Y : Type 0} (y : LayoutKind Y) (luck : Luck Y) (e : Entry) (c : Copy L Y) → folded k (appending k y luck e c) ≡ appending folds y luck e (folded k c)
  appending_folds y luck e c =
      if_folds (folded k) (can_append (content k c) e) _ _ _ _
      (if_folds (folded k) (begins_with_flush e) _ _ _ _
      (put_or_folds (appended k e) (appended folds e) c (appended_folds e) (flushed_first k y luck c) ∙ ap (put_or (appended folds e) (folded k c)) (flushed_first_folds k h y luck c))
      (appended_folds e c)) refl

  taken_folds : {Y : Type 0} (term : ℕ) (log : L) (c : Copy L Y) → folded k (taken k term log c) ≡ taken folds term (k.view log) (folded k c)
  taken_folds term log c = acknowledging_folds k h (record c { log = log; accepted = term; whole = true; anew = true })

  promising_folds : {Y : Type 0} (luck : Luck Y) (term : ℕ) (c : Copy L Y) → folded_put k h (promising luck term c) ≡ promising luck term (folded k c)
  promising_folds luck term c = if_folds (folded_put k h) (nat_lt c.promise term) _ _ _ _ (write_promise_folds k h luck term c) refl

  adopting_folds : {Y : Type 0} (luck : Luck Y) (term : ℕ) (log : L) (c : Copy L Y) → folded k (adopting k luck term log c) ≡ adopting folds luck term (k.view log) (folded k c)
  adopting_folds luck term log c =
      if_folds (folded k) (can_hold (k.view log)) _ _ _ _
      (put_or_folds (taken k term log) (taken folds term (k.view log)) c (taken_folds term log) (promising luck term c) ∙ ap (put_or (taken folds term (k.view log)) (folded k c)) (promising_folds luck term c)) refl

  giving_folds : {Y : Type 0} (luck : Luck Y) (to incarnation : ℕ) (c : Copy L Y) → folded k (giving luck to incarnation c) ≡ giving luck to incarnation (folded k c)
  giving_folds luck to incarnation c =
      if_folds (folded k) (fails_disk luck.chance) _ _ _ _ (dead_with_folds k h None c) (saying_folds k h to (AdoptSent c.accepted incarnation c.log) c)

  append_it_folds : {Y : Type 0} (y : LayoutKind Y) (luck : Luck Y) (m : Message L) (c : Copy L Y) → folded k (append_it k y luck m c) ≡ append_it folds y luck (folded_message k m) (folded k c)
  append_it_folds y luck (EntrySent term position e) c = appending_folds y luck e c
  append_it_folds y luck (AckSent term mem disk) c = refl
  append_it_folds y luck (RejoinSent term accepted length incarnation) c = refl
  append_it_folds y luck (AdoptSent term incarnation log) c = refl

  take_it_folds : {Y : Type 0} (luck : Luck Y) (m : Message L) (c : Copy L Y) → folded k (take_it k luck m c) ≡ take_it folds luck (folded_message k m) (folded k c)
  take_it_folds luck (EntrySent term position e) c = refl
  take_it_folds luck (AckSent term mem disk) c = refl
  take_it_folds luck (RejoinSent term accepted length incarnation) c = refl
  take_it_folds luck (AdoptSent term incarnation log) c = adopting_folds luck term log c

  count_it_folds : {Y : Type 0} (from : ℕ) (m : Message L) (c : Copy L Y) → folded k (count_it k from m c) ≡ count_it folds from (folded_message k m) (folded k c)
  count_it_folds from (EntrySent term position e) c = refl
  count_it_folds from (AckSent term mem disk) c = settled_folds k h (counting from mem disk c)
  count_it_folds from (RejoinSent term accepted length incarnation) c = refl
  count_it_folds from (AdoptSent term incarnation log) c = refl

  give_it_folds : {Y : Type 0} (luck : Luck Y) (from : ℕ) (m : Message L) (c : Copy L Y) → folded k (give_it luck from m c) ≡ give_it luck from (folded_message k m) (folded k c)
  give_it_folds luck from (EntrySent term position e) c = refl
  give_it_folds luck from (AckSent term mem disk) c = refl
  give_it_folds luck from (RejoinSent term accepted length incarnation) c = giving_folds luck from incarnation c
  give_it_folds luck from (AdoptSent term incarnation log) c = refl

  doing_folds : {Y : Type 0} (y : LayoutKind Y) (luck : Luck Y) (from : ℕ) (m : Message L) (what : Heard) (c : Copy L Y) → folded k (doing k y luck from m what c) ≡ doing folds y luck from (folded_message k m) what (folded k c)
  doing_folds y luck from m hearing.Ignore c = refl
  doing_folds y luck from m hearing.Acknowledge c = acknowledging_folds k h c
  doing_folds y luck from m hearing.AskRejoin c =
      saying_folds k h from (RejoinSent (message_term m) c.accepted (log_length k c) c.incarnation) c ∙ ap (λ t. asking folds from t (folded k c)) (sym (term_folds m))
  doing_folds y luck from m hearing.Append c = append_it_folds y luck m c
  doing_folds y luck from m hearing.TakeAll c = take_it_folds luck m c
  doing_folds y luck from m hearing.MarkWhole c = acknowledging_folds k h (record c { whole = true })
  doing_folds y luck from m hearing.GiveAdopt c = give_it_folds luck from m c
  doing_folds y luck from m hearing.Count c = count_it_folds from m c

  pub hearing_it_folds : {Y : Type 0} (y : LayoutKind Y) (luck : Luck Y) (sent : Sent L) (c : Copy L Y) → folded k (hearing_it k y luck sent c) ≡ hearing_it folds y luck (folded_sent k sent) (folded k c)
  hearing_it_folds y luck sent c =
      if_folds (folded k) (is_for sent c) _ _ _ _
      (doing_folds y luck sent.from sent.message (heard (core_of k c) (head_of k sent.from sent.message)) c
      ∙ ap (λ head. doing folds y luck sent.from (folded_message k sent.message) (heard (core_of k c) head) (folded k c)) (sym (head_folds sent.from sent.message))) refl

  -- ---- the others

  if_alive_folds : {Y A : Type 0} (luck : Luck Y) (c : Copy L Y) (r : Copy L Y × Result A VbFault) (q : Copy Content Y × Result A VbFault) → folded_out k r ≡ q → folded_out k (if_alive luck c r) ≡ if_alive luck (folded k c) q
  if_alive_folds luck c r q e = if_folds (folded_out k) (is_dead c.role) _ _ _ _ refl (if_folds (folded_out k) (lacks_memory luck.chance) _ _ _ _ refl e)

  put_told_folds : {Y A : Type 0} (f : Copy L Y → Copy L Y × Result A VbFault) (g : Copy Content Y → Copy Content Y × Result A VbFault) (c : Copy L Y) → ((d : Copy L Y) → folded_out k (f d) ≡ g (folded k d))
      → (p : Put (Copy L Y)) → folded_out k (put_told f c p) ≡ put_told g (folded k c) (folded_put k h p)
  put_told_folds f g c e (Done d) = e d
  put_told_folds f g c e (NoRoom needed free) = refl
  put_told_folds f g c e (Failed d) = refl

  hears_folds : {Y : Type 0} (y : LayoutKind Y) (luck : Luck Y) (sent : Sent L) (c : Copy L Y) → folded_out k (hears k y luck sent c) ≡ hears folds y luck (folded_sent k sent) (folded k c)
  hears_folds y luck sent c = if_alive_folds luck c _ _ (ap heard_well (hearing_it_folds y luck sent c))

  aborting_folds : {Y : Type 0} (ps : List ℕ) (c : Copy L Y) → folded k (aborting k ps c) ≡ aborting folds ps (folded k c)
  aborting_folds [] c = refl
  aborting_folds (p ∷ ps) c = aborting_folds ps (aborted k p c) ∙ ap (aborting folds ps) (aborted_folds k h p c)

  telling_all_folds : {Y : Type 0} (c : Copy L Y) → folded k (telling_all k c) ≡ telling_all folds (folded k c)
  telling_all_folds c = saying_to_all_folds k h (ack k c) c

  ticking_folds : {Y : Type 0} (now : ℕ) (c : Copy L Y) → folded k (ticking k now c) ≡ ticking folds now (folded k c)
  ticking_folds now c =
      if_folds (folded k) (is_active c.role) _ _ _ _
      (telling_all_folds (settled k (aborting k (due now c) c))
      ∙ ap (telling_all folds) (settled_folds k h (aborting k (due now c) c) ∙ ap (settled folds) (aborting_folds (due now c) c))) refl

  ticks_folds : {Y : Type 0} (luck : Luck Y) (now : ℕ) (c : Copy L Y) → folded_out k (ticks k luck now c) ≡ ticks folds luck now (folded k c)
  ticks_folds luck now c = if_alive_folds luck c _ _ (ap (λ (d : Copy Content _). (d, (Ok nothing))) (ticking_folds (moment_of now) (seeing now c)))

  flushes_folds : {Y : Type 0} (y : LayoutKind Y) (luck : Luck Y) (c : Copy L Y) → folded_out k (flushes k y luck c) ≡ flushes folds y luck (folded k c)
  flushes_folds y luck c =
      if_alive_folds luck c _ _ (put_told_folds (flushed_to k) (flushed_to folds) c (λ d. refl) (flushing k y luck c) ∙ ap (put_told (flushed_to folds) (folded k c)) (flushing_folds k h y luck c))

  killed_folds : {Y A : Type 0} (r : Result A VbFault) (d : Option (Pair L Y)) (c : Copy L Y) → folded_out k (dead_with d c, r) ≡ (dead_with (option_map (folded_pair k) d) (folded k c), r)
  killed_folds r d c = ap (λ (x : Copy Content _). (x, r)) (dead_with_folds k h d c)

  cleaning_writes_folds : {Y : Type 0} (luck : Luck Y) (told : Cleaning) (c : Copy L Y) → folded_out k (cleaning_writes luck told c) ≡ cleaning_writes luck told (folded k c)
  cleaning_writes_folds luck told c =
      if_folds (folded_out k) (fails_disk luck.chance) _ _ _ _ (killed_folds (Err faults.DiskFault) (Some (record c.disk { layout = luck.layout })) c) refl

  cleaning_as_folds : {Y : Type 0} (luck : Luck Y) (told : Cleaning) (c : Copy L Y) → folded_out k (cleaning_as luck told c) ≡ cleaning_as luck told (folded k c)
  cleaning_as_folds luck Nothing c = if_folds (folded_out k) (fails_disk luck.chance) _ _ _ _ (killed_folds (Err faults.DiskFault) None c) refl
  cleaning_as_folds luck (Moved count) c = cleaning_writes_folds luck (Moved count) c
  cleaning_as_folds luck (Freed segment) c = cleaning_writes_folds luck (Freed segment) c
  cleaning_as_folds luck (NoRoomToMove needed free) c = if_folds (folded_out k) (fails_disk luck.chance) _ _ _ _ (killed_folds (Err faults.DiskFault) None c) refl

  cleans_folds : {Y : Type 0} (y : LayoutKind Y) (luck : Luck Y) (most : ℕ) (c : Copy L Y) → folded_out k (cleans k y luck most c) ≡ cleans folds y luck most (folded k c)
  cleans_folds y luck most c = if_alive_folds luck c _ _ (cleaning_as_folds luck (y.cleaned c.disk.layout most (k.view c.disk.log)) c)

  answering_folds : {Y : Type 0} (term : ℕ) (c : Copy L Y) → folded_out k (answering k term (in_role roles.Replica c)) ≡ answering folds term (in_role roles.Replica (folded k c))
  answering_folds term c = ap (answering folds term) (in_role_folds k h roles.Replica c)

  fencing_folds : {Y : Type 0} (luck : Luck Y) (term : ℕ) (c : Copy L Y) → folded_out k (fencing k luck term c) ≡ fencing folds luck term (folded k c)
  fencing_folds luck term c =
      if_folds (folded_out k) (nat_lt c.promise term) _ _ _ _
      (put_told_folds (λ d. answering k term (in_role roles.Replica d)) (λ d. answering folds term (in_role roles.Replica d)) c (answering_folds term) (write_promise luck term c)
      ∙ ap (put_told (λ d. answering folds term (in_role roles.Replica d)) (folded k c)) (write_promise_folds k h luck term c)) refl

  fences_folds : {Y : Type 0} (luck : Luck Y) (term : ℕ) (c : Copy L Y) → folded_out k (fences k luck term c) ≡ fences folds luck term (folded k c)
  fences_folds luck term c = if_alive_folds luck c _ _ (if_folds (folded_out k) (is_old term (core_of k c)) _ _ _ _ refl (fencing_folds luck term c))

  begun_at_folds : {Y : Type 0} (term : ℕ) (c : Copy L Y) → folded k (begun_at k term c) ≡ begun_at folds term (folded k c)
  begun_at_folds term c = settled_folds k h (telling_all k (active_at k term c)) ∙ ap (settled folds) (telling_all_folds (active_at k term c))

  promoting_folds : {Y : Type 0} (y : LayoutKind Y) (luck : Luck Y) (term : ℕ) (fault : Option PromoteFault) (c : Copy L Y) → folded_out k (promoting k y luck term fault c) ≡ promoting folds y luck term fault (folded k c)
  promoting_folds y luck term (Some fault) c = refl
  promoting_folds y luck term None c =
      put_told_folds (λ d. (begun_at k term d, Ok nothing)) (λ d. (begun_at folds term d, Ok nothing)) c (λ d. ap (λ (x : Copy Content _). (x, (Ok nothing))) (begun_at_folds term d)) (write_log k y luck term c)
      ∙ ap (put_told (λ d. (begun_at folds term d, Ok nothing)) (folded k c)) (write_log_folds k h y luck term c)

  promotes_folds : {Y : Type 0} (y : LayoutKind Y) (luck : Luck Y) (term : ℕ) (answers : List FenceAnswer) (weak : Bool) (c : Copy L Y) → folded_out k (promotes k y luck term answers weak c) ≡ promotes folds y luck term answers weak (folded k c)
  promotes_folds y luck term answers weak c = if_alive_folds luck c _ _ (promoting_folds y luck term (promote_fault (core_of k c) term answers weak) c)

  put_in_state_folds : {Y : Type 0} (state : ℕ) (c : Copy L Y) → folded k (put_in_state state c) ≡ put_in_state state (folded k c)
  put_in_state_folds state c =
      if_folds (folded k) (is_dead c.role) _ _ _ _ refl (if_folds (folded k) (nat_eq state 3) _ _ _ _ (in_role_folds k h roles.Pending c) (dead_with_folds k h None c))

  speaks_folds : {Y : Type 0} (c : Copy L Y) (sent : List (Sent L)) → folded_after k ((speaks_first c sent).0, Spoke (speaks_first c sent).1) ≡ ((speaks_first (folded k c) (list_map (folded_sent k) sent)).0, Spoke (speaks_first (folded k c) (list_map (folded_sent k) sent)).1)
  speaks_folds c [] = refl
  speaks_folds c (sent ∷ more) = refl

  tells_folds : {Y : Type 0} (c : Copy L Y) (seen : List Seen) → folded_after k ((tells_first c seen).0, ToldChange (tells_first c seen).1) ≡ ((tells_first (folded k c) seen).0, ToldChange (tells_first (folded k c) seen).1)
  tells_folds c [] = refl
  tells_folds c (seen ∷ more) = refl

  -- The law: folding a copy commutes with its step.
  pub step_folds : {Y : Type 0} (y : LayoutKind Y) (luck : Luck Y) (e : Event L) (c : Copy L Y) → folded_after k (step k y luck e c) ≡ step folds y luck (folded_event k e) (folded k c)
  step_folds y luck (Requests request now) c = ap (λ (r : Copy Content _ × _). (r.0, Answered r.1)) (requested_folds k h y luck request now c)
  step_folds y luck (Polls ticket) c = ap (λ (r : Copy Content _ × _). (r.0, PolledTo r.1)) (polled_folds k h ticket c)
  step_folds y luck (Forgets ticket) c = refl
  step_folds y luck (Hears sent) c = ap (λ (r : Copy Content _ × _). (r.0, Ended r.1)) (hears_folds y luck sent c)
  step_folds y luck Speaks c = speaks_folds c c.unspoken
  step_folds y luck TellsChange c = tells_folds c c.untold
  step_folds y luck (Ticks now) c = ap (λ (r : Copy Content _ × _). (r.0, Ended r.1)) (ticks_folds luck now c)
  step_folds y luck Flushes c = ap (λ (r : Copy Content _ × _). (r.0, FlushedTo r.1)) (flushes_folds y luck c)
  step_folds y luck (Cleans most) c = ap (λ (r : Copy Content _ × _). (r.0, CleanedTo r.1)) (cleans_folds y luck most c)
  step_folds y luck (Fences term) c = ap (λ (r : Copy Content _ × _). (r.0, FencedWith r.1)) (fences_folds luck term c)
  step_folds y luck (Promotes term answers weak) c = ap (λ (r : Copy Content _ × _). (r.0, Ended r.1)) (promotes_folds y luck term answers weak c)
  step_folds y luck (SetsState state) c = ap (λ (d : Copy Content _). (d, Quietly)) (put_in_state_folds state c)
