-- The log of a copy has the Commits of the tickets that stand.
use Rattle.std.specs.Prelude.{◌≡◌, ◌≢◌, ℕ, ◌+◌, nat_eq, Bool, true, false, not, ◌&&◌, find, filter, map as list_map, List, [], ◌∷◌, ◌++◌, length, Option, Some, None, option_map, refl}
use Rattle.std.proofs.Common.{sym, ap, subst, ◌∙◌, arith}
use Rattle.std.proofs.lemmas.List.{append_assoc}
use Rattle.doc_model.specs.declared.status.TheConstants.Status as status
use Rattle.kv_request.specs.declared.reply.Reply.{Reply}
use Rattle.vb_log.specs.declared.entry.Entry.{Entry}
use Rattle.vb_log.specs.declared.entry.Entry.TheVariants as entries
use Rattle.vb_log.specs.Content.{content_of}
use Rattle.vb_log.specs.Logs.{whole_logs}
use Rattle.vb_log.proofs.Logs.{content_length}
use Rattle.replica_core.specs.Terms.{is_active}
use Rattle.copy_model.specs.declared.outcome.Ticket.{Ticket}
use Rattle.copy_model.specs.declared.outcome.Polled.TheVariants as polls
use Rattle.copy_model.specs.Copies.{Fate, Waiting, Stood, Aborted, Left, Message, EntrySent, AckSent, RejoinSent, AdoptSent, OpenTicket, Copy, LayoutKind, Luck}
use Rattle.copy_model.specs.Entries.{fate_after, decided, abandoned}
use Rattle.copy_model.specs.Requests.{is_ticket, fate_of, polled}
use Rattle.copy_model.specs.Events.{Event, Requests, Polls, Forgets, Hears, Speaks, TellsChange, Ticks, Flushes, Cleans, Fences, Promotes, SetsState, step}
use Rattle.copy_model.specs.Grown.{TellsCommit, HasCommit, IsBorne, AreBorne, brings_all, hears_all}
use Rattle.copy_model.proofs.Moves.{Few, by_test, by_either, Keeps, TakesAll, Besides, step_moves}
use Rattle.copy_model.proofs.Told.{tells_where}

-- ---- one ticket

-- behind another entry
borne_on : (log : List Entry) (e : Entry) (prepare : ℕ) (fate : Fate)
    → IsBorne log prepare fate → IsBorne (log ++ e ∷ []) prepare fate
borne_on log e prepare Waiting h = tt
borne_on log e prepare (Stood position) h = record {
  before = h.before;
  behind = h.behind ++ e ∷ [];
  is = ap (λ es. es ++ e ∷ []) h.is
      ∙ append_assoc h.before (entries.Commit prepare ∷ h.behind) (e ∷ []);
  at = h.at;
}
borne_on log e prepare Aborted h = tt
borne_on log e prepare Left h = tt

-- as its Commit is added
borne_committed : (log : List Entry) (p prepare : ℕ) (b : Bool) (fate : Fate) → nat_eq prepare p ≡ b
    → IsBorne log prepare fate
    → IsBorne (log ++ entries.Commit p ∷ []) prepare
    (fate_after b (Stood ((content_of log).length + 1)) fate)
borne_committed log p prepare true Waiting e h = record {
  before = log;
  behind = [];
  is = ap (λ (n : ℕ). log ++ entries.Commit n ∷ []) (sym (same prepare p e));
  at = ap (λ n. n + 1) (sym (content_length log));
}
  where
    same : (n m : ℕ) → nat_eq n m ≡ true → n ≡ m
    same n m e = grind (arith)
borne_committed log p prepare true (Stood position) e h =
    borne_on log (entries.Commit p) prepare (Stood position) h
borne_committed log p prepare true Aborted e h = tt
borne_committed log p prepare true Left e h = tt
borne_committed log p prepare false fate e h = borne_on log (entries.Commit p) prepare fate h

-- as it is given up, or left
borne_ended : (log : List Entry) (prepare : ℕ) (b : Bool) (new fate : Fate)
    → IsBorne log prepare new → IsBorne log prepare fate
    → IsBorne log prepare (fate_after b new fate)
borne_ended log prepare true new Waiting n h = n
borne_ended log prepare true new (Stood position) n h = h
borne_ended log prepare true new Aborted n h = h
borne_ended log prepare true new Left n h = h
borne_ended log prepare false new fate n h = h

-- ---- all tickets

all_on : (log : List Entry) (e : Entry) (ts : List OpenTicket)
    → AreBorne log ts → AreBorne (log ++ e ∷ []) ts
all_on log e [] h = tt
all_on log e (t ∷ ts) h = (borne_on log e t.prepare t.fate h.0, all_on log e ts h.1)

all_committed : (log : List Entry) (p : ℕ) (ts : List OpenTicket) → AreBorne log ts
    → AreBorne (log ++ entries.Commit p ∷ [])
    (list_map (decided p (Stood ((content_of log).length + 1))) ts)
all_committed log p [] h = tt
all_committed log p (t ∷ ts) h = (
  borne_committed log p t.prepare (nat_eq t.prepare p) t.fate refl h.0,
  all_committed log p ts h.1,
)

all_aborted : (log : List Entry) (p : ℕ) (ts : List OpenTicket) → AreBorne log ts
    → AreBorne log (list_map (decided p Aborted) ts)
all_aborted log p [] h = tt
all_aborted log p (t ∷ ts) h =
    (borne_ended log t.prepare (nat_eq t.prepare p) Aborted t.fate tt h.0, all_aborted log p ts h.1)

all_left : (log : List Entry) (ts : List OpenTicket) → AreBorne log ts
    → AreBorne log (list_map abandoned ts)
all_left log [] h = tt
all_left log (t ∷ ts) h = (borne_ended log t.prepare true Left t.fate tt h.0, all_left log ts h.1)

all_with : (log : List Entry) (ts : List OpenTicket) (t : OpenTicket) → t.fate ≡ Waiting
    → AreBorne log ts → AreBorne log (ts ++ t ∷ [])
all_with log [] t w h = (subst (λ fate. IsBorne log t.prepare fate) (sym w) tt, tt)
all_with log (u ∷ us) t w h = (h.0, all_with log us t w h.1)

all_but : (log : List Entry) (q : OpenTicket → Bool) (ts : List OpenTicket)
    → AreBorne log ts → AreBorne log (filter q ts)
all_but log q [] h = tt
all_but log q (t ∷ ts) h =
    by_either (AreBorne log) (q t) _ _ (h.0, all_but log q ts h.1) (all_but log q ts h.1)

-- ---- events

abbrev borne : Few (List Entry) → Few (List Entry) → Type 0
borne s t = AreBorne s.log s.tickets → AreBorne t.log t.tickets

borne_keeps : Keeps whole_logs borne
borne_keeps = record {
  grows = record {
    stays = λ s h. h;
    goes = λ s t u p q h. q (p h);
    adds = λ s e h. all_on s.log e s.tickets h;
    commits = λ s p h. all_committed s.log p s.tickets h;
    aborts = λ s p h.
        all_on s.log (entries.Abort p) (list_map (decided p Aborted) s.tickets)
        (all_aborted s.log p s.tickets h);
  };
  leaves = λ s role off h.
      by_either (AreBorne s.log) (is_active s.role) _ _ (all_left s.log s.tickets h) h;
  raises = λ s term higher h. h;
  prepares = λ s e t waits h.
      all_on s.log e (s.tickets ++ t ∷ []) (all_with s.log s.tickets t waits h);
  forgets = λ s ticket h. all_but s.log (λ t. not (is_ticket ticket t)) s.tickets h;
}

borne_takes : (m : Message (List Entry)) → brings_all m ≡ false
    → TakesAll whole_logs borne borne_keeps m
borne_takes (EntrySent term position e) one = tt
borne_takes (AckSent term mem disk) one = tt
borne_takes (RejoinSent term accepted length incarnation) one = tt
borne_takes (AdoptSent term incarnation log) one = absurd (cc)

borne_besides : {Y : Type 0} (c : Copy (List Entry) Y) (e : Event (List Entry))
    → hears_all e ≡ false → Besides whole_logs borne borne_keeps c e
borne_besides c (Requests request now) one = tt
borne_besides c (Polls ticket) one = tt
borne_besides c (Forgets ticket) one = tt
borne_besides c (Hears sent) one = λ all. borne_takes sent.message one
borne_besides c Speaks one = tt
borne_besides c TellsChange one = tt
borne_besides c (Ticks now) one = tt
borne_besides c Flushes one = tt
borne_besides c (Cleans most) one = tt
borne_besides c (Fences term) one = tt
borne_besides c (Promotes term answers weak) one = λ rightful s h. h
borne_besides c (SetsState state) one = tt

pub step_bears : {Y : Type 0} (y : LayoutKind Y) (luck : Luck Y) (e : Event (List Entry))
    (c : Copy (List Entry) Y) → hears_all e ≡ false → AreBorne c.log c.tickets
    → AreBorne (step whole_logs y luck e c).0.log (step whole_logs y luck e c).0.tickets
step_bears y luck e c one h =
    step_moves whole_logs borne borne_keeps y luck e c (borne_besides c e one) h

-- ---- polls

fate_in : Fate → Option Fate → Fate
fate_in other None = other
fate_in other (Some fate) = fate

found_borne : (log : List Entry) (ticket : Ticket) (position : ℕ) (ts : List OpenTicket)
    → AreBorne log ts
    → option_map (λ (t : OpenTicket). t.fate) (find (is_ticket ticket) ts) ≡ Some (Stood position)
    → HasCommit log ticket.prepare position
unfolding fate_in
found_borne log ticket position [] h = λ e. absurd (cc)
found_borne log ticket position (t ∷ ts) h =
    by_test
    (λ (o : Option OpenTicket).
    option_map (λ (u : OpenTicket). u.fate) o ≡ Some (Stood position)
    → HasCommit log ticket.prepare position)
    (is_ticket ticket t) _ _
    (λ is e.
    subst (λ (prepare : ℕ). HasCommit log prepare position) (same_prepare is)
    (subst (λ (fate : Fate). IsBorne log t.prepare fate) (ap (fate_in Waiting) e) h.0))
    (λ other. found_borne log ticket position ts h.1)
  where
    same : (n m : ℕ) → nat_eq n m ≡ true → n ≡ m
    same n m e = grind (arith)

    first : (a b : Bool) → (a && b) ≡ true → a ≡ true
    first true b e = refl
    first false b e = e

    same_prepare : is_ticket ticket t ≡ true → t.prepare ≡ ticket.prepare
    same_prepare is = same t.prepare ticket.prepare
        (first (nat_eq t.prepare ticket.prepare) (nat_eq t.term ticket.term) is)

pub tells_commit : {Y : Type 0} (ticket : Ticket) (c : Copy (List Entry) Y) (reply : Reply)
    → AreBorne c.log c.tickets → (polled ticket c).1 ≡ polls.Done reply
    → reply.status ≢ status.SYNC_WRITE_AMBIGUOUS → TellsCommit c.log ticket reply
tells_commit ticket c reply h e isnt =
    let told = tells_where ticket c (fate_of ticket c) reply e isnt in
    record {
      position = told.position;
      stands = found_borne c.log ticket told.position c.tickets h told.stood;
      told = told.told;
    }
