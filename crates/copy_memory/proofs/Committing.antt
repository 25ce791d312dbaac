-- How a memory and its copy commit what is ready.
use Rattle.std.specs.Prelude.{◌≡◌, ◌≤◌, ◌<◌, ◌+◌, ◌*◌, ℕ, nat_eq, nat_le, nat_lt, Bool, true, false, cond, not, ◌&&◌, ◌||◌, filter, take, take_while, map as list_map, List, [], ◌∷◌, ◌++◌, length, Option, Some, None, if◌then◌else◌, refl}
use Rattle.std.specs.List.{AllByRecursion, list_all}
use Rattle.std.proofs.Common.{get_or, sym, ◌∙◌, ap, subst, append_assoc, append-nil, arith}
use Rattle.std.proofs.lemmas.Bool.{and_parts, eqb-true, ltb-true}
use Rattle.std.proofs.lemmas.Bool.Decides.{nat_tests}
use Rattle.std.proofs.lemmas.List.{map-append}
use Rattle.std.proofs.lemmas.List.Sums.{take_while-cons}
use Rattle.durability_core.specs.declared.waiting.Waiting.{Waiting}
use Rattle.durability_core.specs.Ready.{Known, unknown, is_ready, most_pass}
use Rattle.durability_core.specs.Tracking.{Tracked, known_at, is_ready_by, is_inherited, still_waiting, positions as waiting_positions}
use Rattle.replica_core.specs.declared.copy.CopyCore.{CopyCore}
use Rattle.replica_core.specs.Terms.{is_active}
use Rattle.vb_log.specs.declared.entry.Entry.{Entry}
use Rattle.vb_log.specs.declared.entry.Entry.TheVariants as entries
use Rattle.vb_log.specs.declared.entry.Pending.{Pending}
use Rattle.vb_log.specs.Adding.{items_with}
use Rattle.vb_log.specs.Content.{Content, with_entry, with_entries}
use Rattle.vb_log.specs.Held.{positions_rise}
use Rattle.vb_log.specs.Logs.{folds}
use Rattle.vb_log.specs.Settling.{commits_of, content_with}
use Rattle.vb_log.proofs.Commits.{commit_step}
use Rattle.vb_log.proofs.Prepared.{positions, rise_above, rise_rest}
use Rattle.copy_model.specs.Copies.{EntrySent, Stood, Deadline, Copy}
use Rattle.copy_model.specs.Entries.{log_length, disk_length, core_of, others, told_to, known_of, is_ready_at, committed, committing}
use Rattle.copy_memory.specs.declared.tickets.KeptFate.TheVariants as kept
use Rattle.copy_memory.specs.Remembers.{Remembers}
use Rattle.copy_memory.specs.Sending.{sent_of, sents_of, entry_to_each, commits_to_each}
use Rattle.copy_memory.specs.Settling.{commit_length, committing_first}
use Rattle.copy_memory.specs.Shown.{ShownMemory, other_places}
use Rattle.copy_memory.specs.Tickets.{AreTickets, deciding, standing}
use Rattle.copy_memory.specs.Tracks.{Prepared, prepared_of, prepared_in, with_deadline, deadlines_of, KnowsOwn, Tracks, HasTracker}
use Rattle.copy_memory.proofs.Fates.{Stands, tickets_decided}

-- ---- lists

-- all but the first
abbrev rest : {A : Type 0} → List A → List A
rest [] = []
rest (x ∷ xs) = xs

first_or : {A : Type 0} → A → List A → A
first_or d [] = d
first_or d (x ∷ xs) = x

same_number : (n : ℕ) → nat_eq n n ≡ true
same_number n = grind (arith, nat_tests)

-- prepares with the same positions, levels and keys have the same positions
same_positions : (ws : List Waiting) (ps : List Pending) → list_map prepared_in ws ≡ list_map prepared_of ps → waiting_positions ws ≡ positions ps
same_positions ws ps e = sym (of_waiting ws) ∙ ap (list_map (λ (q : Prepared). q.position)) e ∙ of_pending ps
  where
    of_waiting : (ws : List Waiting) → list_map (λ (q : Prepared). q.position) (list_map prepared_in ws) ≡ waiting_positions ws
    of_waiting [] = refl
    of_waiting (w ∷ ws) = ap (λ l. w.position ∷ l) (of_waiting ws)

    of_pending : (ps : List Pending) → list_map (λ (q : Prepared). q.position) (list_map prepared_of ps) ≡ positions ps
    of_pending [] = refl
    of_pending (p ∷ ps) = ap (λ l. p.position ∷ l) (of_pending ps)

-- ---- deadlines

-- those of later prepares stay
later_stay : (at : ℕ) (ws : List Waiting) → list_all (nat_lt at) (waiting_positions ws) ≡ true
    → filter (λ (d : Deadline). not (nat_eq d.prepare at)) (deadlines_of ws) ≡ deadlines_of ws
later_stay at [] h = refl
later_stay at (w ∷ ws) h =
    let parts = and_parts (nat_lt at w.position) (list_all (nat_lt at) (waiting_positions ws)) h in
    by w.deadline (later_stay at ws parts.1) (differs w.position (ltb-true at w.position parts.0))
  where
    differs : (n : ℕ) → at < n → nat_eq n at ≡ false
    differs n l = grind (arith, nat_tests)

    by : (d : Option ℕ) → filter (λ (d : Deadline). not (nat_eq d.prepare at)) (deadlines_of ws) ≡ deadlines_of ws → nat_eq w.position at ≡ false
        → filter (λ (d : Deadline). not (nat_eq d.prepare at)) (with_deadline w.position d (deadlines_of ws)) ≡ with_deadline w.position d (deadlines_of ws)
    by None same e = same
    by (Some moment) same e =
        ap (λ b. cond (not b) (record { prepare = w.position; moment = moment } ∷ filter (λ (d : Deadline). not (nat_eq d.prepare at)) (deadlines_of ws)) (filter (λ (d : Deadline). not (nat_eq d.prepare at)) (deadlines_of ws))) e
        ∙ ap (λ l. record { prepare = w.position; moment = moment } ∷ l) same

-- that of the first goes
first_goes : (w : Waiting) (ws : List Waiting) → list_all (nat_lt w.position) (waiting_positions ws) ≡ true
    → filter (λ (d : Deadline). not (nat_eq d.prepare w.position)) (deadlines_of (w ∷ ws)) ≡ deadlines_of ws
first_goes w ws h = by w.deadline
  where
    by : (d : Option ℕ) → filter (λ (d : Deadline). not (nat_eq d.prepare w.position)) (with_deadline w.position d (deadlines_of ws)) ≡ deadlines_of ws
    by None = later_stay w.position ws h
    by (Some moment) =
        ap (λ b. cond (not b) (record { prepare = w.position; moment = moment } ∷ filter (λ (d : Deadline). not (nat_eq d.prepare w.position)) (deadlines_of ws)) (filter (λ (d : Deadline). not (nat_eq d.prepare w.position)) (deadlines_of ws))) (same_number w.position)
        ∙ later_stay w.position ws h

-- ---- messages

-- an entry is told to each place as the copy tells it
pub each_told : (c : Copy Content ℕ) (position : ℕ) (e : Entry) (places : List ℕ)
    → sents_of (entry_to_each c.place c.number c.accepted places position e) ≡ list_map (λ to. told_to c to (EntrySent c.accepted position e)) places
each_told c position e [] = refl
each_told c position e (p ∷ ps) = ap (λ l. told_to c p (EntrySent c.accepted position e) ∷ l) (each_told c position e ps)

-- ---- what is ready

module _ (t : Tracked) (c : Copy Content ℕ) (tracks : Tracks t c) (w : Waiting) (in_memory : w.position ≤ (known_at t.known c.place).mem)
    (on_disk : nat_le w.position (known_at t.known c.place).disk ≡ nat_le w.position (disk_length folds c)) where
  abbrev own : Known
  own = record { mem = log_length folds c; disk = disk_length folds c }

  -- each place has as much of a prepare, as the tracker knows it and as the copy does
  mem_at : (place : ℕ) → nat_le w.position (known_at t.known place).mem ≡ nat_le w.position (known_of folds c place).mem
  mem_at place = by (nat_eq place c.place) refl
    where
      yes : (a b : ℕ) → a ≤ b → nat_le a b ≡ true
      yes a b l = grind (arith, nat_tests)

      by : (b : Bool) → nat_eq place c.place ≡ b → nat_le w.position (known_at t.known place).mem ≡ nat_le w.position (if b then own else get_or c.known place unknown).mem
      by true e =
          ap (λ n. nat_le w.position (known_at t.known n).mem) (eqb-true place c.place e)
          ∙ yes w.position (known_at t.known c.place).mem in_memory
          ∙ sym (yes w.position (log_length folds c) (let a = tracks.own_mem in omega arith))
      by false e = ap (λ (k : Known). nat_le w.position k.mem) (tracks.others place (λ same. absurd (let z : true ≡ false = sym (ap (λ n. nat_eq n c.place) same ∙ same_number c.place) ∙ e in cc)))

  disk_at : (place : ℕ) → nat_le w.position (known_at t.known place).disk ≡ nat_le w.position (known_of folds c place).disk
  disk_at place = by (nat_eq place c.place) refl
    where
      by : (b : Bool) → nat_eq place c.place ≡ b → nat_le w.position (known_at t.known place).disk ≡ nat_le w.position (if b then own else get_or c.known place unknown).disk
      by true e = ap (λ n. nat_le w.position (known_at t.known n).disk) (eqb-true place c.place e) ∙ on_disk
      by false e = ap (λ (k : Known). nat_le w.position k.disk) (tracks.others place (λ same. absurd (let z : true ≡ false = sym (ap (λ n. nat_eq n c.place) same ∙ same_number c.place) ∙ e in cc)))

  -- so a prepare is ready by what the tracker knows where it is by what the copy does
  pub ready_same : (p : Pending) → prepared_in w ≡ prepared_of p → is_ready_by t.chain t.own t.known w ≡ is_ready_at folds c p
  ready_same p same =
      ap (λ chain. is_ready chain t.own (known_at t.known) w.level w.position) tracks.chain
      ∙ ap (λ own. is_ready c.chain own (known_at t.known) w.level w.position) tracks.own
      ∙ tests
      ∙ ap (λ (q : Prepared). is_ready c.chain c.place (known_of folds c) q.level q.position) same
    where
      tests : is_ready c.chain c.place (known_at t.known) w.level w.position ≡ is_ready c.chain c.place (known_of folds c) w.level w.position
      tests = λ i.
          (if nat_eq w.level 3 then most_pass c.chain (λ place. disk_at place i) else most_pass c.chain (λ place. mem_at place i))
          && (nat_eq w.level 1 || disk_at c.place i)

-- ---- one commit

-- a memory that committed the first change that waits, with what its tracker knows then
abbrev pub one_more : Pending → Tracked → ShownMemory → ShownMemory
one_more p t m = record m {
  core = record m.core { length = m.core.length + 1 };
  content = with_entry m.content (entries.Commit p.position);
  tracker = Some t;
  tickets = deciding (record { term = m.core.accepted; prepare = p.position }) (kept.Stood (m.core.length + 1)) m.tickets;
  unspoken = m.unspoken ++ entry_to_each m.core.place m.number m.core.accepted (other_places m.core) (m.core.length + 1) (entries.Commit p.position);
  unflushed_entries = m.unflushed_entries + 1;
  unflushed_bytes = m.unflushed_bytes + commit_length;
}

module _ (m : ShownMemory) (c : Copy Content ℕ) (r : Remembers m c) (t : Tracked) (w : Waiting) (ws : List Waiting) (p : Pending) (ps : List Pending)
    (has : m.tracker ≡ Some t) (queue : t.waiting ≡ w ∷ ws) (log : c.log.prepares ≡ p ∷ ps) (rise : positions_rise (p ∷ ps) ≡ true) where
  pub known_of_all : (is_active c.role ≡ true) × Tracks t c
  known_of_all = subst (λ o. HasTracker o c) has r.tracker

  -- the log after the Commit
  pub log_after : with_entry c.log (entries.Commit p.position)
      ≡ content_with (items_with c.log.items c.log.manifest (c.log.length + 1) (Some p)) ps c.log.manifest c.log.greatest_cas (c.log.length + 1)
  log_after =
      ap (λ l. with_entry (content_with c.log.items l c.log.manifest c.log.greatest_cas c.log.length) (entries.Commit p.position)) log
      ∙ commit_step c.log.items p ps c.log.manifest c.log.greatest_cas c.log.length rise

  length_after : (with_entry c.log (entries.Commit p.position)).length ≡ c.log.length + 1
  length_after = ap (λ (l : Content). l.length) log_after

  -- the prepares are the same, and so are the first ones and the others
  matching : prepared_in w ∷ list_map prepared_in ws ≡ prepared_of p ∷ list_map prepared_of ps
  matching = sym (ap (list_map prepared_in) queue) ∙ known_of_all.1.waiting ∙ ap (list_map prepared_of) log

  pub first_same : prepared_in w ≡ prepared_of p
  first_same = ap (λ l. head_or l) matching
    where
      head_or : List Prepared → Prepared
      head_or [] = prepared_in w
      head_or (q ∷ qs) = q

  others_same : list_map prepared_in ws ≡ list_map prepared_of ps
  others_same = ap rest matching

  position_same : w.position ≡ p.position
  position_same = ap (λ (q : Prepared). q.position) first_same

  later : list_all (nat_lt w.position) (waiting_positions ws) ≡ true
  later = ap (list_all (nat_lt w.position)) (same_positions ws ps others_same) ∙ ap (λ n. list_all (nat_lt n) (positions ps)) position_same ∙ rise_above p.position (positions ps) rise

  tracks_after : Tracks (record t { waiting = ws }) (committed folds p.position c)
  tracks_after =
      let k = known_of_all.1 in
      record {
        chain = k.chain;
        own = k.own;
        as_many = k.as_many;
        in_range = k.in_range;
        others = k.others;
        own_mem = (let a = k.own_mem in let b = length_after in omega arith);
        own_disk = k.own_disk;
        knows_own = record {
          in_memory = (subst (AllByRecursion (λ (w : Waiting). w.position ≤ (known_at t.known c.place).mem)) queue k.knows_own.in_memory).1;
          on_disk_too = (subst (AllByRecursion (λ (w : Waiting). nat_le w.position (known_at t.known c.place).disk ≡ nat_le w.position (disk_length folds c))) queue k.knows_own.on_disk_too).1;
        };
        waiting = others_same ∙ ap (list_map prepared_of) (sym (ap (λ (l : Content). l.prepares) log_after));
        deadlines =
            ap (filter (λ (d : Deadline). not (nat_eq d.prepare p.position))) (k.deadlines ∙ ap deadlines_of queue)
            ∙ ap (λ n. filter (λ (d : Deadline). not (nat_eq d.prepare n)) (deadlines_of (w ∷ ws))) (sym position_same)
            ∙ first_goes w ws later;
        inherited = (subst (AllByRecursion (λ (w : Waiting). is_inherited w ≡ nat_le w.position c.inherited)) queue k.inherited).1;
        base = (let a = k.base in let b = length_after in omega arith);
      }

  -- The memory that committed the first change is that of the copy that did.
  pub commits_one : Remembers (one_more p (record t { waiting = ws }) m) (committed folds p.position c)
  commits_one = record {
    core = ap (λ (k : CopyCore). record k { length = k.length + 1 }) r.core ∙ ap (λ n. record (core_of folds c) { length = n }) (sym length_after);
    number = r.number;
    log = ap (λ l. with_entry l (entries.Commit p.position)) r.log;
    seen = r.seen;
    inherited = r.inherited;
    tracker = (known_of_all.0, tracks_after);
    tickets =
        subst (λ (k : CopyCore). AreTickets (deciding (record { term = k.accepted; prepare = p.position }) (kept.Stood (k.length + 1)) m.tickets)
        c.role c.accepted (with_entry c.log (entries.Commit p.position)).length (committed folds p.position c).tickets) (sym r.core)
        (tickets_decided c.role known_of_all.0 c.accepted c.log.length (with_entry c.log (entries.Commit p.position)).length p.position
        (let b = length_after in omega arith) (kept.Stood (c.log.length + 1)) (Stood (c.log.length + 1)) (Stands (c.log.length + 1)) m.tickets c.tickets r.tickets);
    unspoken =
        map-append sent_of m.unspoken _
        ∙ ap (λ l. l ++ sents_of (entry_to_each m.core.place m.number m.core.accepted (other_places m.core) (m.core.length + 1) (entries.Commit p.position))) r.unspoken
        ∙ ap (λ (k : CopyCore). c.unspoken ++ sents_of (entry_to_each k.place m.number k.accepted (other_places k) (k.length + 1) (entries.Commit p.position))) r.core
        ∙ ap (λ n. c.unspoken ++ sents_of (entry_to_each c.place n c.accepted (others c) (c.log.length + 1) (entries.Commit p.position))) r.number
        ∙ ap (λ l. c.unspoken ++ l) (each_told c (c.log.length + 1) (entries.Commit p.position) (others c));
    entries = ap (λ n. n + 1) r.entries;
    bytes = ap (λ n. n + commit_length) r.bytes;
  }

-- ---- all that is ready

-- a memory in which the Commits of the changes prepared at these positions were made, so that its tracker has others left
abbrev pub made : List ℕ → List Waiting → List ℕ → Tracked → ShownMemory → ShownMemory
made ready left settled t m = record m {
  core = record m.core { length = m.core.length + length ready };
  content = committing_first (length ready) m.content;
  tracker = Some (record t { waiting = left; settled = settled });
  tickets = standing m.core.accepted m.core.length ready m.tickets;
  unspoken = m.unspoken
      ++ commits_to_each m.core.place m.number m.core.accepted (other_places m.core) m.core.length ready;
  unflushed_entries = m.unflushed_entries + length ready;
  unflushed_bytes = m.unflushed_bytes + length ready * commit_length;
}

none_taken : {A : Type 0} (xs : List A) → take 0 xs ≡ []
none_taken [] = refl
none_taken (x ∷ xs) = refl

-- no Commit
made_none : (left : List Waiting) (settled : List ℕ) (t : Tracked) (m : ShownMemory) (c : Copy Content ℕ) → t.waiting ≡ left → m.tracker ≡ Some t
    → Remembers m c → Remembers (made [] left settled t m) c
made_none left settled t m c queue has r =
    let k = subst (λ o. HasTracker o c) has r.tracker in
    record {
      core = ap (λ n. record m.core { length = n }) (no_more m.core.length) ∙ r.core;
      number = r.number;
      log = ap (λ l. with_entries m.content (commits_of l)) (none_taken m.content.prepares) ∙ r.log;
      seen = r.seen;
      inherited = r.inherited;
      tracker = (
        k.0,
        record {
          chain = k.1.chain;
          own = k.1.own;
          as_many = k.1.as_many;
          in_range = k.1.in_range;
          others = k.1.others;
          own_mem = k.1.own_mem;
          own_disk = k.1.own_disk;
          knows_own = subst (KnowsOwn (known_at t.known c.place) (disk_length folds c)) queue k.1.knows_own;
          waiting = ap (list_map prepared_in) (sym queue) ∙ k.1.waiting;
          deadlines = k.1.deadlines ∙ ap deadlines_of queue;
          inherited = subst (AllByRecursion (λ (w : Waiting). is_inherited w ≡ nat_le w.position c.inherited)) queue k.1.inherited;
          base = k.1.base;
        },
      );
      tickets = r.tickets;
      unspoken = ap sents_of (append-nil m.unspoken) ∙ r.unspoken;
      entries = no_more m.unflushed_entries ∙ r.entries;
      bytes = no_more m.unflushed_bytes ∙ r.bytes;
    }
  where
    no_more : (n : ℕ) → n + 0 ≡ n
    no_more n = omega arith

-- one Commit, and then the others
made_more : (w : Waiting) (p : Pending) (ws : List Waiting) (ps : List Pending) (ready : List ℕ) (left : List Waiting) (settled : List ℕ) (t : Tracked) (m : ShownMemory)
    → m.content.prepares ≡ p ∷ ps → (with_entry m.content (entries.Commit p.position)).prepares ≡ ps → w.position ≡ p.position
    → made (w.position ∷ ready) left settled t m ≡ made ready left settled (record t { waiting = ws }) (one_more p (record t { waiting = ws }) m)
made_more w p ws ps ready left settled t m log after same = λ i. record m {
  core = record m.core { length = lengths m.core.length i };
  content = contents i;
  tracker = Some (record t { waiting = left; settled = settled });
  tickets = standing m.core.accepted (m.core.length + 1) ready (deciding (record { term = m.core.accepted; prepare = same i }) (kept.Stood (m.core.length + 1)) m.tickets);
  unspoken = messages i;
  unflushed_entries = lengths m.unflushed_entries i;
  unflushed_bytes = bytes i;
}
  where
    lengths : (n : ℕ) → n + length (w.position ∷ ready) ≡ n + 1 + length ready
    lengths n = omega arith

    bytes : m.unflushed_bytes + length (w.position ∷ ready) * commit_length ≡ m.unflushed_bytes + commit_length + length ready * commit_length
    bytes = omega arith

    more : (xs : List Pending) → take (length (w.position ∷ ready)) (p ∷ xs) ≡ p ∷ take (length ready) xs
    more xs = refl

    contents : committing_first (length (w.position ∷ ready)) m.content ≡ committing_first (length ready) (with_entry m.content (entries.Commit p.position))
    contents =
        ap (λ l. with_entries m.content (commits_of l)) (ap (take (length (w.position ∷ ready))) log ∙ more ps)
        ∙ ap (λ l. with_entries (with_entry m.content (entries.Commit p.position)) (commits_of (take (length ready) l))) (sym after)

    messages : m.unspoken ++ commits_to_each m.core.place m.number m.core.accepted (other_places m.core) m.core.length (w.position ∷ ready)
        ≡ (m.unspoken ++ entry_to_each m.core.place m.number m.core.accepted (other_places m.core) (m.core.length + 1) (entries.Commit p.position))
        ++ commits_to_each m.core.place m.number m.core.accepted (other_places m.core) (m.core.length + 1) ready
    messages =
        ap (λ n. m.unspoken ++ (entry_to_each m.core.place m.number m.core.accepted (other_places m.core) (m.core.length + 1) (entries.Commit n)
        ++ commits_to_each m.core.place m.number m.core.accepted (other_places m.core) (m.core.length + 1) ready)) same
        ∙ sym (append_assoc m.unspoken _ _)

-- A memory whose tracker commits what is ready is that of the copy that does.
pub commits_all : (ws : List Waiting) (ps : List Pending) (ready : Waiting → Bool) (settled : List ℕ) (t : Tracked) (m : ShownMemory) (c : Copy Content ℕ)
    → ((w : Waiting) → is_ready_by t.chain t.own t.known w ≡ ready w) → Remembers m c → m.tracker ≡ Some t → t.waiting ≡ ws → c.log.prepares ≡ ps
    → positions_rise ps ≡ true
    → Remembers (made (waiting_positions (take_while ready ws)) (still_waiting ready ws) settled t m) (committing folds ps c)
commits_all [] [] ready settled t m c by r has queue log rise = made_none [] settled t m c queue has r
commits_all [] (p ∷ ps) ready settled t m c by r has queue log rise =
    let k = subst (λ o. HasTracker o c) has r.tracker in
    let e : [] ≡ prepared_of p ∷ list_map prepared_of ps = ap (list_map prepared_in) (sym queue) ∙ k.1.waiting ∙ ap (list_map prepared_of) log in
    absurd (cc)
commits_all (w ∷ ws) [] ready settled t m c by r has queue log rise =
    let k = subst (λ o. HasTracker o c) has r.tracker in
    let e : prepared_in w ∷ list_map prepared_in ws ≡ [] = ap (list_map prepared_in) (sym queue) ∙ k.1.waiting ∙ ap (list_map prepared_of) log in
    absurd (cc)
commits_all (w ∷ ws) (p ∷ ps) ready settled t m c by r has queue log rise =
    let k = known_of_all m c r t w ws p ps has queue log rise in
    let in_memory = (subst (AllByRecursion (λ (w : Waiting). w.position ≤ (known_at t.known c.place).mem)) queue k.1.knows_own.in_memory).0 in
    let on_disk = (subst (AllByRecursion (λ (w : Waiting). nat_le w.position (known_at t.known c.place).disk ≡ nat_le w.position (disk_length folds c))) queue k.1.knows_own.on_disk_too).0 in
    let same = ready_same t c k.1 w in_memory on_disk p (first_same m c r t w ws p ps has queue log rise) in
    subst (λ l. Remembers (made (waiting_positions l) (still_waiting ready (w ∷ ws)) settled t m) (committing folds (p ∷ ps) c)) (sym (take_while-cons ready w ws))
    (go (ready w) refl (sym same ∙ by w)
    (commits_all ws ps ready settled (record t { waiting = ws }) (one_more p (record t { waiting = ws }) m) (committed folds p.position c) by
    (commits_one m c r t w ws p ps has queue log rise) refl refl (ap (λ (l : Content). l.prepares) (log_after m c r t w ws p ps has queue log rise))
    (rise_rest p.position (positions ps) rise)))
  where
    go : (b : Bool) → ready w ≡ b → is_ready_at folds c p ≡ ready w
        → Remembers (made (waiting_positions (take_while ready ws)) (still_waiting ready ws) settled (record t { waiting = ws }) (one_more p (record t { waiting = ws }) m)) (committing folds ps (committed folds p.position c))
        → Remembers (made (waiting_positions (cond (ready w) (w ∷ take_while ready ws) [])) (if ready w then still_waiting ready ws else w ∷ ws) settled t m)
        (if is_ready_at folds c p then committing folds ps (committed folds p.position c) else c)
    go false e same next =
        subst (λ b. Remembers (made (waiting_positions (cond (ready w) (w ∷ take_while ready ws) [])) (if ready w then still_waiting ready ws else w ∷ ws) settled t m)
        (if b then committing folds ps (committed folds p.position c) else c)) (sym (same ∙ e))
        (subst (λ b. Remembers (made (waiting_positions (cond b (w ∷ take_while ready ws) [])) (if b then still_waiting ready ws else w ∷ ws) settled t m) c) (sym e)
        (made_none (w ∷ ws) settled t m c queue has r))
    go true e same next =
        subst (λ b. Remembers (made (waiting_positions (cond (ready w) (w ∷ take_while ready ws) [])) (if ready w then still_waiting ready ws else w ∷ ws) settled t m)
        (if b then committing folds ps (committed folds p.position c) else c)) (sym (same ∙ e))
        (subst (λ b. Remembers (made (waiting_positions (cond b (w ∷ take_while ready ws) [])) (if b then still_waiting ready ws else w ∷ ws) settled t m)
        (committing folds ps (committed folds p.position c))) (sym e)
        (subst (λ x. Remembers x (committing folds ps (committed folds p.position c)))
        (sym (made_more w p ws ps (waiting_positions (take_while ready ws)) (still_waiting ready ws) settled t m (ap (λ (l : Content). l.prepares) r.log ∙ log)
        (ap (λ l. (with_entry l (entries.Commit p.position)).prepares) r.log ∙ ap (λ (l : Content). l.prepares) (log_after m c r t w ws p ps has queue log rise))
        (ap (λ (q : Prepared). q.position) (first_same m c r t w ws p ps has queue log rise)))) next))
