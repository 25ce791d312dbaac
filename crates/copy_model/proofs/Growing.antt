-- What no event does: begin a copy as active, take an entry out of its log, lower its promise.
use Rattle.std.specs.Prelude.{◌≡◌, ℕ, ◌≤◌, nat_lt, Bool, true, false, List, [], ◌∷◌, ◌++◌, Option, Some, None, Result, Ok, refl}
use Rattle.std.proofs.Common.{sym, ap, ◌∙◌, arith}
use Rattle.std.proofs.lemmas.List.{append_assoc, append-nil}
use Rattle.std.proofs.Math.Nat.{le_refl, le_trans}
use Rattle.vb_log.specs.declared.entry.Entry.{Entry}
use Rattle.vb_log.specs.declared.entry.Entry.TheVariants as entries
use Rattle.vb_log.specs.Logs.{LogKind, whole_logs}
use Rattle.replica_core.specs.declared.fences.FenceAnswer.{FenceAnswer}
use Rattle.replica_core.specs.declared.fences.PromoteFault.{PromoteFault}
use Rattle.replica_core.specs.Terms.{is_active, is_dead}
use Rattle.replica_core.specs.Promotion.{promote_fault}
use Rattle.copy_model.specs.declared.outcome.VbFault.{VbFault}
use Rattle.copy_model.specs.Copies.{Message, EntrySent, AckSent, RejoinSent, AdoptSent, Copy, LayoutKind, Luck, lacks_memory}
use Rattle.copy_model.specs.Entries.{core_of}
use Rattle.copy_model.specs.Disk.{Put, Done, NoRoom, Failed, write_log}
use Rattle.copy_model.specs.Events.{begun_at, nothing, put_told, promoting, if_alive, Event, Requests, Polls, Forgets, Hears, Speaks, TellsChange, Ticks, Flushes, Cleans, Fences, Promotes, SetsState, step}
use Rattle.copy_model.specs.Grown.{IsPromoted, IsLonger, brings_all, hears_all}
use Rattle.copy_model.proofs.Moves.{Few, by_either, Adds, Keeps, PutMoves, TakesAll, Besides, begun_adds, write_log_moves, step_moves}

-- ---- logs

abbrev longer : Few (List Entry) → Few (List Entry) → Type 0
longer s t = IsLonger s.log t.log

same_log : (log : List Entry) → IsLonger log log
same_log log = record { more = []; is = sym (append-nil log) }

longer_keeps : Keeps whole_logs longer
longer_keeps = record {
  grows = record {
    stays = λ s. same_log s.log;
    goes = λ s t u p q. record {
      more = p.more ++ q.more;
      is = q.is ∙ ap (λ log. log ++ q.more) p.is
          ∙ append_assoc s.log p.more q.more;
    };
    adds = λ s e. record { more = e ∷ []; is = refl };
    commits = λ s p. record { more = entries.Commit p ∷ []; is = refl };
    aborts = λ s p. record { more = entries.Abort p ∷ []; is = refl };
  };
  leaves = λ s role idle. same_log s.log;
  raises = λ s term higher. same_log s.log;
  prepares = λ s e t waits. record { more = e ∷ []; is = refl };
  forgets = λ s ticket. same_log s.log;
}

longer_takes : (m : Message (List Entry)) → brings_all m ≡ false
    → TakesAll whole_logs longer longer_keeps m
longer_takes (EntrySent term position e) idle = tt
longer_takes (AckSent term mem disk) idle = tt
longer_takes (RejoinSent term accepted length incarnation) idle = tt
longer_takes (AdoptSent term incarnation log) idle = absurd (cc)

longer_besides : {Y : Type 0} (c : Copy (List Entry) Y) (e : Event (List Entry))
    → hears_all e ≡ false → Besides whole_logs longer longer_keeps c e
longer_besides c (Requests request now) idle = tt
longer_besides c (Polls ticket) idle = tt
longer_besides c (Forgets ticket) idle = tt
longer_besides c (Hears sent) idle = λ all. longer_takes sent.message idle
longer_besides c Speaks idle = tt
longer_besides c TellsChange idle = tt
longer_besides c (Ticks now) idle = tt
longer_besides c Flushes idle = tt
longer_besides c (Cleans most) idle = tt
longer_besides c (Fences term) idle = tt
longer_besides c (Promotes term answers weak) idle = λ rightful s. same_log s.log
longer_besides c (SetsState state) idle = tt

pub step_grows : {Y : Type 0} (y : LayoutKind Y) (luck : Luck Y) (e : Event (List Entry))
    (c : Copy (List Entry) Y) → hears_all e ≡ false
    → IsLonger c.log (step whole_logs y luck e c).0.log
step_grows y luck e c idle =
    step_moves whole_logs longer longer_keeps y luck e c (longer_besides c e idle)

-- ---- promises

module _ {L : Type 0} (k : LogKind L) where
  abbrev rising : Few L → Few L → Type 0
  rising s t = s.promise ≤ t.promise

  at_most : (a b : ℕ) → nat_lt a b ≡ true → a ≤ b
  at_most a b h = grind (arith)

  rising_keeps : Keeps k rising
  rising_keeps = record {
    grows = record {
      stays = λ s. le_refl s.promise;
      goes = λ s t u p q. le_trans p q;
      adds = λ s e. le_refl s.promise;
      commits = λ s p. le_refl s.promise;
      aborts = λ s p. le_refl s.promise;
    };
    leaves = λ s role idle. le_refl s.promise;
    raises = λ s term higher. at_most s.promise term higher;
    prepares = λ s e t waits. le_refl s.promise;
    forgets = λ s ticket. le_refl s.promise;
  }

  rising_takes : (m : Message L) → TakesAll k rising rising_keeps m
  rising_takes (EntrySent term position e) = tt
  rising_takes (AckSent term mem disk) = tt
  rising_takes (RejoinSent term accepted length incarnation) = tt
  rising_takes (AdoptSent term incarnation log) = λ s. le_refl s.promise

  rising_besides : {Y : Type 0} (c : Copy L Y) (e : Event L) → Besides k rising rising_keeps c e
  rising_besides c (Requests request now) = tt
  rising_besides c (Polls ticket) = tt
  rising_besides c (Forgets ticket) = tt
  rising_besides c (Hears sent) = λ all. rising_takes sent.message
  rising_besides c Speaks = tt
  rising_besides c TellsChange = tt
  rising_besides c (Ticks now) = tt
  rising_besides c Flushes = tt
  rising_besides c (Cleans most) = tt
  rising_besides c (Fences term) = tt
  rising_besides c (Promotes term answers weak) = λ rightful s. le_refl s.promise
  rising_besides c (SetsState state) = tt

  pub step_rises : {Y : Type 0} (y : LayoutKind Y) (luck : Luck Y) (e : Event L) (c : Copy L Y)
      → c.promise ≤ (step k y luck e c).0.promise
  step_rises y luck e c = step_moves k rising rising_keeps y luck e c (rising_besides c e)

-- ---- roles

module _ {L : Type 0} (k : LogKind L) where
  abbrev quiet : Few L → Few L → Type 0
  quiet s t = is_active s.role ≡ false → is_active t.role ≡ false

  quiet_keeps : Keeps k quiet
  quiet_keeps = record {
    grows = record {
      stays = λ s idle. idle;
      goes = λ s t u p q idle. q (p idle);
      adds = λ s e idle. idle;
      commits = λ s p idle. idle;
      aborts = λ s p idle. idle;
    };
    leaves = λ s role off idle. off;
    raises = λ s term higher idle. idle;
    prepares = λ s e t waits idle. idle;
    forgets = λ s ticket idle. idle;
  }

  quiet_takes : (m : Message L) → TakesAll k quiet quiet_keeps m
  quiet_takes (EntrySent term position e) = tt
  quiet_takes (AckSent term mem disk) = tt
  quiet_takes (RejoinSent term accepted length incarnation) = tt
  quiet_takes (AdoptSent term incarnation log) = λ s idle. idle

  abbrev same_term : Few L → Few L → Type 0
  same_term s t = t.accepted ≡ s.accepted

  same_term_adds : Adds k same_term
  same_term_adds = record {
    stays = λ s. refl;
    goes = λ s t u p q. q ∙ p;
    adds = λ s e. refl;
    commits = λ s p. refl;
    aborts = λ s p. refl;
  }

  begun_at_term : {Y : Type 0} (term : ℕ) (c : Copy L Y) → (begun_at k term c).accepted ≡ term
  begun_at_term term c = begun_adds k same_term same_term_adds term c

  -- a copy that is active after a write is one that has begun at the term
  put_at_term : {Y : Type 0} (term : ℕ) (c : Copy L Y) (p : Put (Copy L Y))
      → PutMoves k quiet quiet_keeps c p → is_active c.role ≡ false
      → is_active (put_told (λ d. (begun_at k term d, Ok nothing)) c p).0.role ≡ true
      → (put_told (λ d. (begun_at k term d, Ok nothing)) c p).0.accepted ≡ term
  put_at_term term c (Done d) m idle begun = begun_at_term term d
  put_at_term term c (NoRoom needed free) m idle begun = absurd (cc)
  put_at_term term c (Failed d) m idle begun = let off = m idle in absurd (cc)

-- the promotion of a copy, whole logs

promoting_is : {Y : Type 0} (y : LayoutKind Y) (luck : Luck Y) (term : ℕ)
    (answers : List FenceAnswer) (weak : Bool) (c : Copy (List Entry) Y)
    (fault : Option PromoteFault)
    → promote_fault (core_of whole_logs c) term answers weak ≡ fault → is_active c.role ≡ false
    → is_active (promoting whole_logs y luck term fault c).0.role ≡ true
    → IsPromoted (Promotes term answers weak) c (promoting whole_logs y luck term fault c).0
promoting_is y luck term answers weak c (Some fault) e idle begun = absurd (cc)
promoting_is y luck term answers weak c None e idle begun = record {
  term = term;
  answers = answers;
  weak = weak;
  promoted = refl;
  rightful = e;
  at_term = put_at_term whole_logs term c (write_log whole_logs y luck term c)
      (write_log_moves whole_logs (quiet whole_logs) (quiet_keeps whole_logs) y luck term c) idle
      begun;
}

-- what begins as active in an event that happens begins so in that event
abbrev Begins : {Y A : Type 0} → Event (List Entry) → Copy (List Entry) Y
    → Copy (List Entry) Y × Result A VbFault → Type 0
Begins e c r = is_active r.0.role ≡ true → IsPromoted e c r.0

alive_begins : {Y A : Type 0} (luck : Luck Y) (e : Event (List Entry)) (c : Copy (List Entry) Y)
    (r : Copy (List Entry) Y × Result A VbFault) → is_active c.role ≡ false → Begins e c r
    → Begins e c (if_alive luck c r)
alive_begins luck e c r idle p =
    by_either (Begins e c) (is_dead c.role) _ _ (λ begun. absurd (cc))
    (by_either (Begins e c) (lacks_memory luck.chance) _ _ (λ begun. absurd (cc)) p)

module _ {Y : Type 0} (y : LayoutKind Y) (luck : Luck Y) (c : Copy (List Entry) Y)
    (idle : is_active c.role ≡ false) where
  quietly : (e : Event (List Entry)) → Besides whole_logs (quiet whole_logs)
      (quiet_keeps whole_logs) c e → is_active (step whole_logs y luck e c).0.role ≡ true
      → IsPromoted e c (step whole_logs y luck e c).0
  quietly e besides begun = let off = step_moves whole_logs (quiet whole_logs)
      (quiet_keeps whole_logs) y luck e c besides idle in absurd (cc)

  pub step_begins : (e : Event (List Entry)) → is_active (step whole_logs y luck e c).0.role ≡ true
      → IsPromoted e c (step whole_logs y luck e c).0
  step_begins (Requests request now) begun = quietly (Requests request now) tt begun
  step_begins (Polls ticket) begun = quietly (Polls ticket) tt begun
  step_begins (Forgets ticket) begun = quietly (Forgets ticket) tt begun
  step_begins (Hears sent) begun =
      quietly (Hears sent) (λ all. quiet_takes whole_logs sent.message) begun
  step_begins Speaks begun = quietly Speaks tt begun
  step_begins TellsChange begun = quietly TellsChange tt begun
  step_begins (Ticks now) begun = quietly (Ticks now) tt begun
  step_begins Flushes begun = quietly Flushes tt begun
  step_begins (Cleans most) begun = quietly (Cleans most) tt begun
  step_begins (Fences term) begun = quietly (Fences term) tt begun
  step_begins (Promotes term answers weak) begun =
      alive_begins luck (Promotes term answers weak) c
      (promoting whole_logs y luck term (promote_fault (core_of whole_logs c) term answers weak)
      c) idle
      (λ on. promoting_is y luck term answers weak c
      (promote_fault (core_of whole_logs c) term answers weak) refl idle on) begun
  step_begins (SetsState state) begun = quietly (SetsState state) tt begun
