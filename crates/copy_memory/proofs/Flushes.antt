-- What a flush makes of a memory and its copy.
use Rattle.std.specs.Prelude.{◌≡◌, ◌+◌, ◌*◌, ℕ, nat_eq, Bool, true, false, cond, Option, Some, None, if◌then◌else◌, refl}
use Rattle.std.proofs.Common.{sym, ◌∙◌, ap, subst, arith}
use Rattle.std.proofs.lemmas.Bool.Decides.{nat_tests}
use Rattle.durability_core.specs.Tracking.{Tracked, told}
use Rattle.replica_core.specs.declared.copy.CopyCore.{CopyCore}
use Rattle.replica_core.specs.declared.copy.Role.{Role}
use Rattle.replica_core.specs.declared.copy.Role.TheVariants as roles
use Rattle.replica_core.specs.Terms.{is_active}
use Rattle.vb_log.specs.Content.{Content, with_entries}
use Rattle.vb_log.specs.Held.{positions_rise}
use Rattle.vb_log.specs.Logs.{folds}
use Rattle.vb_log.specs.Settling.{commits_of}
use Rattle.copy_model.specs.Copies.{Pair, Copy}
use Rattle.copy_model.specs.Disk.{after_flush, tells_flush}
use Rattle.copy_model.specs.Entries.{log_length, disk_length, core_of, settled, acknowledging}
use Rattle.copy_memory.specs.Remembers.{Remembers, BecomesAt}
use Rattle.copy_memory.specs.declared.settling.FlushPlan.{FlushPlan}
use Rattle.copy_memory.specs.Settling.{settles, stood, would_commit, committing_first, commit_length, emptied, emptied_on, IsPlanned, IsPutDown}
use Rattle.copy_memory.specs.Shown.{ShownMemory, Rests}
use Rattle.copy_memory.specs.Tracks.{HasTracker}
use Rattle.copy_memory.proofs.Made.{having, settles_from}
use Rattle.copy_memory.proofs.Moves.{no_tracker}
use Rattle.copy_memory.proofs.Settles.{active_tracker, settles_is, remembers_rest}
use Rattle.copy_memory.proofs.Steps.{none_taken, commits_count}
use Rattle.copy_memory.proofs.Telling.{HasMore, told_own}

-- a memory whose log is on disk, and that keeps no items
abbrev pub put_down : ShownMemory → ShownMemory
put_down m = record m { content = emptied m.content; unflushed_entries = 0; unflushed_bytes = 0 }

module _ (m : ShownMemory) (c : Copy Content ℕ) (d : Pair Content ℕ) (r : Remembers m c) (put : IsPutDown c d) where
  -- all of the copy's log is on its disk
  all_there : disk_length folds (emptied_on d c) ≡ log_length folds c
  all_there = ap (λ b. cond b d.log.length 0) same ∙ put.length_is
    where
      same : nat_eq d.accepted c.accepted ≡ true
      same = (let e = put.accepted in grind (arith, nat_tests))

  more_there : HasMore c (emptied_on d c)
  more_there = record {
    chain = refl;
    place = refl;
    known = refl;
    log_length_is = refl;
    prepares = refl;
    deadlines = refl;
    inherited = refl;
    more = (let a = all_there in let b = put.more in omega arith);
  }

  -- a memory is that of a copy whose log is on disk, with what its tracker knows
  put_memory : (o : Option Tracked) → HasTracker o (emptied_on d c) → Remembers (record (put_down m) { tracker = o }) (emptied_on d c)
  put_memory o h = record {
    core = r.core;
    number = r.number;
    log = ap emptied r.log;
    seen = r.seen;
    inherited = r.inherited;
    tracker = h;
    tickets = r.tickets;
    unspoken = r.unspoken;
    entries = refl;
    bytes = refl;
  }

  -- an active copy commits what is ready then
  pub settles_put : is_active c.role ≡ true → (place behind : ℕ) → place ≡ m.core.place → behind ≡ m.core.length → positions_rise m.content.prepares ≡ true
      → Remembers (settles place behind behind (put_down m)) (after_flush folds (emptied_on d c))
  settles_put active place behind is_place is_behind rise =
      let found = active_tracker m.tracker c active r.tracker in
      let t = found.0 in
      let own : place ≡ c.place = is_place ∙ ap (λ (k : CopyCore). k.place) r.core in
      let long : behind ≡ log_length folds c = is_behind ∙ ap (λ (k : CopyCore). k.length) r.core in
      subst (λ b. Remembers (settles place behind behind (put_down m)) (if b then settled folds (emptied_on d c) else (if tells_flush (emptied_on d c) then acknowledging folds (emptied_on d c) else emptied_on d c)))
      (sym active)
      (subst (λ p. Remembers (settles p behind behind (put_down m)) (settled folds (emptied_on d c))) (sym own)
      (subst (λ n. Remembers (settles c.place n n (put_down m)) (settled folds (emptied_on d c))) (sym long)
      (subst (λ n. Remembers (settles c.place (log_length folds c) n (put_down m)) (settled folds (emptied_on d c))) all_there
      (settles_is (put_down m) c.place (log_length folds c) (disk_length folds (emptied_on d c)) t (emptied_on d c) found.1
      (put_memory (Some (told c.place (log_length folds c) (disk_length folds (emptied_on d c)) t)) (active, told_own t c (emptied_on d c) found.2 more_there)) rise))))

  -- one that isn't active tells how far it is, where it is to
  pub passive_put : is_active c.role ≡ false → Remembers (put_down m) (emptied_on d c)
  passive_put passive = put_memory m.tracker (no_tracker m.tracker c (emptied_on d c) passive refl r.tracker)

-- ---- a plan

-- how long the log is with the Commits that are planned
pub plan_long : (m : ShownMemory) (plan : FlushPlan) → IsPlanned m plan
    → plan.content.length ≡ m.content.length + would_commit m.core.place m.core.length m.core.length m.tracker
plan_long m plan planned =
    ap (λ (x : Content). x.length) planned.content
    ∙ commits_count plan.count (emptied m.content) planned.few
    ∙ ap (λ n. m.content.length + n) planned.count

-- The plan of a memory whose copy isn't active has no Commits.
module _ (m : ShownMemory) (plan : FlushPlan) (planned : IsPlanned m plan) (none : m.tracker ≡ None) where
  pub none_planned : plan.count ≡ 0
  none_planned = planned.count ∙ ap (λ o. would_commit m.core.place m.core.length m.core.length o) none

  pub same_planned : plan.content ≡ emptied m.content
  same_planned =
      planned.content ∙ ap (λ n. committing_first n (emptied m.content)) none_planned
      ∙ ap (λ l. with_entries (emptied m.content) (commits_of l)) (none_taken m.content.prepares)

none_is : (o : Option Tracked) (c : Copy Content ℕ) → is_active c.role ≡ false → HasTracker o c → o ≡ None
none_is None c passive h = refl
none_is (Some t) c passive h = absurd (let z : true ≡ false = sym h.0 ∙ passive in cc)

-- ---- after a flush

module _ (m new : ShownMemory) (plan : FlushPlan) (planned : IsPlanned m plan) (kept : m.core.length ≡ m.content.length) (long : ℕ) (is_long : long ≡ plan.content.length)
    (c : Copy Content ℕ) (d : Pair Content ℕ) (r : Remembers m c) (put : IsPutDown c d) where
  -- an active copy
  pub flushed_active : is_active m.core.role ≡ true
      → Rests (stood m.core.place m.core.length m.core.length m.core.length (having m long plan.content plan.count plan.bytes)) new
      → Remembers new (after_flush folds (emptied_on d c))
  flushed_active active made =
      let n = would_commit m.core.place m.core.length m.core.length m.tracker in
      remembers_rest (settles m.core.place m.core.length m.core.length (put_down m)) new (after_flush folds (emptied_on d c))
      (settles_from m.core.place m.core.length m.core.length (put_down m) (put_down m) new m.room long plan.count plan.bytes plan.content refl
      (let a = plan_long m plan planned in let b = is_long in let e = kept in omega arith)
      (planned.content ∙ ap (λ k. committing_first k (emptied m.content)) planned.count)
      (planned.count ∙ nothing_before n)
      (planned.bytes ∙ ap (λ k. k * commit_length) planned.count ∙ nothing_before (n * commit_length))
      made)
      (settles_put m c d r put (sym (ap (λ (k : CopyCore). is_active k.role) r.core) ∙ active) m.core.place m.core.length refl refl planned.rise)
    where
      nothing_before : (n : ℕ) → n ≡ 0 + n
      nothing_before n = omega arith

  -- another
  module _ (passive : is_active m.core.role ≡ false) where
    abbrev left : ShownMemory
    left = having m long plan.content plan.count plan.bytes

    own_passive : is_active c.role ≡ false
    own_passive = sym (ap (λ (k : CopyCore). is_active k.role) r.core) ∙ passive

    pub left_is : Remembers left (emptied_on d c)
    left_is =
        let none = none_is m.tracker c own_passive r.tracker in
        let zero = none_planned m plan planned none in
        let same = same_planned m plan planned none in
        let is_same : long ≡ m.core.length = is_long ∙ ap (λ (x : Content). x.length) same ∙ sym kept in
        let few : plan.bytes ≡ 0 = planned.bytes ∙ ap (λ k. k * commit_length) zero in
        subst (λ (x : ShownMemory). Remembers x (emptied_on d c)) (λ i. having m (sym is_same i) (sym same i) (sym zero i) (sym few i)) (passive_put m c d r put own_passive)

    tells_same : (told : Bool) → ((c : Copy Content ℕ) → record m.core { length = long } ≡ core_of folds c → told ≡ tells_flush c) → told ≡ tells_flush (emptied_on d c)
    tells_same answer tells = tells (emptied_on d c) left_is.core

    pub flushed_telling : (told : Bool) → told ≡ true → ((c : Copy Content ℕ) → record m.core { length = long } ≡ core_of folds c → told ≡ tells_flush c)
        → BecomesAt m.core.length left new (acknowledging folds) → Remembers new (after_flush folds (emptied_on d c))
    flushed_telling answer is tells becomes =
        subst (λ b. Remembers new (if b then settled folds (emptied_on d c) else (if tells_flush (emptied_on d c) then acknowledging folds (emptied_on d c) else emptied_on d c))) (sym own_passive)
        (subst (λ b. Remembers new (if b then acknowledging folds (emptied_on d c) else emptied_on d c)) (sym is ∙ tells_same answer tells)
        (becomes (emptied_on d c) left_is (all_there m c d r put ∙ sym (ap (λ (k : CopyCore). k.length) r.core))))

    pub flushed_quietly : (told : Bool) → told ≡ false → ((c : Copy Content ℕ) → record m.core { length = long } ≡ core_of folds c → told ≡ tells_flush c)
        → Remembers left (after_flush folds (emptied_on d c))
    flushed_quietly answer is tells =
        subst (λ b. Remembers left (if b then settled folds (emptied_on d c) else (if tells_flush (emptied_on d c) then acknowledging folds (emptied_on d c) else emptied_on d c))) (sym own_passive)
        (subst (λ b. Remembers left (if b then acknowledging folds (emptied_on d c) else emptied_on d c)) (sym is ∙ tells_same answer tells) left_is)

-- a role that isn't the active one
pub not_active : (role : Role) → (role ≡ roles.Active → ⊥) → is_active role ≡ false
not_active roles.Active n = absurd (n refl)
not_active roles.Replica n = refl
not_active roles.Pending n = refl
not_active roles.Dead n = refl
