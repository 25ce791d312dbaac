-- What is known of a vbucket behind a request and behind a flush.
use Rattle.std.proofs.Common.{◌≡◌, ℕ, ◌+◌, ◌≤◌, is_some, true, List, Option, Some, None, Result, refl, sym, ap, subst, arith}
use Rattle.kv_edge.specs.Edge.{Rose}
use Rattle.kv_request.specs.declared.request.Durability.{Durability}
use Rattle.kv_request.specs.declared.request.Request.{Request}
use Rattle.kv_request.specs.declared.reply.Reply.{Reply}
use Rattle.kv_request.specs.Tables.{refused}
use Rattle.doc_model.specs.declared.status.TheConstants.Status as status
use Rattle.magma_disk.specs.Counting.{Counts}
use Rattle.magma_disk.specs.Device.{Device}
use Rattle.magma_store.specs.Counting.{CountsStore}
use Rattle.vb_log.specs.Content.{Content}
use Rattle.vb_log.specs.Logs.{folds}
use Rattle.copy_model.specs.declared.outcome.Outcome.{Outcome}
use Rattle.copy_model.specs.declared.outcome.Outcome.TheVariants as outcomes
use Rattle.copy_model.specs.declared.outcome.VbFault.{VbFault}
use Rattle.copy_model.specs.Copies.{Copy, Chance, Fine, ReadFails, DiskFails, NoMemory, Luck}
use Rattle.copy_model.specs.Events.{Requests, Flushes, Answered, FlushedTo, telling, flushes}
use Rattle.copy_model.specs.Laying.{is_faulted}
use Rattle.copy_model.specs.Requests.{requested, refusal}
use Rattle.vb_core.specs.Coming.{Comes, next_layout}
use Rattle.vb_core.specs.Flat.{flat}
use Rattle.vb_core.specs.Means.{IsCopy}
use Rattle.vb_core.specs.Shown.{ShownVb}
use Rattle.kv_tool.specs.declared.exit.Exit.{Exit}
use Rattle.kv_tool.specs.declared.exit.Exit.TheVariants as exits
use Rattle.kv_tool.specs.Course.{RoseBy, Knowledge, Unknown, IsAt, faults_of, Goes, AnswersAt, IsFlushed, IsKnown}
use Rattle.kv_tool.specs.Outcomes.{closed_as}
use Rattle.kv_tool.specs.Progress.{Asks, ClosesWith}

-- ---- counts

-- faults that were counted came, and then those of an event
pub rose_further : (faults before mid now : ℕ) (chance : Chance) → RoseBy faults before mid → mid ≤ now → (is_faulted chance ≡ true → Rose mid now) → RoseBy (faults + faults_of chance) before now
rose_further faults before mid now Fine rose le cause = omega (arith, rose, le)
rose_further faults before mid now ReadFails rose le cause = omega (arith, rose, le, cause refl)
rose_further faults before mid now DiskFails rose le cause = omega (arith, rose, le, cause refl)
rose_further faults before mid now NoMemory rose le cause = omega (arith, rose, le)

-- ---- a request

-- what is answered to a request is known
abbrev AnsweredAt : {D : Type 0} → (D → List Device) → (D → Counts) → ℕ → ℕ → Request → Knowledge → Reply → ShownVb D → Option Durability → Type 0
AnsweredAt states counts now before request known reply new level = (after : Knowledge) × AnswersAt level now request known reply after × IsKnown states counts before new after

one_reply : (reply answer : Reply) → outcomes.Reply reply ≡ outcomes.Reply answer → reply ≡ answer
one_reply reply answer e = cc

goes_asked : (now : ℕ) (request : Request) (copy after : Copy Content ℕ) (luck : Luck ℕ) (reply : Reply) → luck.layout ≡ next_layout copy → requested folds (flat copy.chain) luck request now copy ≡ (after, outcomes.Reply reply)
    → Goes (Requests request now) copy (Answered (outcomes.Reply reply)) after (faults_of luck.chance)
goes_asked now request copy after luck reply layout goes = record {
  chance = luck.chance;
  goes =
      ap (telling (λ (o : Outcome). Answered o))
      (subst (λ (l : ℕ). requested folds (flat copy.chain) (record { chance = luck.chance; layout = l }) request now copy ≡ (after, outcomes.Reply reply)) layout goes);
  counted = refl;
}

-- no level is asked for
asked_plainly : {D : Type 0} (states : D → List Device) (counts : D → Counts) (now before : ℕ) (request : Request) (old new : ShownVb D) (reply : Reply) (known : Knowledge)
    → ((copy : Copy Content ℕ) (faults : ℕ) → IsKnown states counts before old (IsAt copy faults) → Comes states counts copy (λ luck. requested folds (flat copy.chain) luck request now copy) old new (outcomes.Reply reply))
    → (counts old.store.disk).faults ≤ (counts new.store.disk).faults → IsKnown states counts before old known → AnsweredAt states counts now before request known reply new None
asked_plainly states counts now before request old new reply Unknown step le is = (Unknown, refl, tt)
asked_plainly states counts now before request old new reply (IsAt copy faults) step le is =
    let comes = step copy faults is in (
      IsAt comes.after (faults + faults_of comes.luck.chance),
      (comes.after, faults_of comes.luck.chance, refl, goes_asked now request copy comes.after comes.luck reply comes.layout comes.goes),
      (comes.is, rose_further faults before (counts old.store.disk).faults (counts new.store.disk).faults comes.luck.chance is.1 le comes.cause),
    )

asked_at : {D : Type 0} (states : D → List Device) (counts : D → Counts) (now before : ℕ) (request : Request) (old new : ShownVb D) (reply : Reply) (known : Knowledge) (level : Option Durability)
    → (level ≡ None → (copy : Copy Content ℕ) (faults : ℕ) → IsKnown states counts before old (IsAt copy faults) → Comes states counts copy (λ luck. requested folds (flat copy.chain) luck request now copy) old new (outcomes.Reply reply))
    → (is_some level ≡ true → (outcomes.Reply reply ≡ refusal request status.NOT_SUPPORTED) × (new ≡ old))
    → (counts old.store.disk).faults ≤ (counts new.store.disk).faults → IsKnown states counts before old known → AnsweredAt states counts now before request known reply new level
asked_at states counts now before request old new reply known None step refuses le is = asked_plainly states counts now before request old new reply known (step refl) le is
asked_at states counts now before request old new reply known (Some level) step refuses le is =
    let r = refuses refl in (
      known,
      (one_reply reply (refused request.opcode request.opaque status.NOT_SUPPORTED) r.0, refl),
      subst (λ (vb : ShownVb _). IsKnown states counts before vb known) (sym r.1) is,
    )

pub asks : {D : Type 0} (states : D → List Device) (counts : D → Counts) (now : ℕ) (request : Request) (old new : ShownVb D) (reply : Reply)
    → ((copy : Copy Content ℕ) → IsCopy states old copy → request.durability ≡ None → Comes states counts copy (λ luck. requested folds (flat copy.chain) luck request now copy) old new (outcomes.Reply reply))
    → (is_some request.durability ≡ true → (outcomes.Reply reply ≡ refusal request status.NOT_SUPPORTED) × (new ≡ old))
    → CountsStore ⊥ (counts old.store.disk) (counts new.store.disk) → Asks states counts now request old reply new
asks states counts now request old new reply step refuses c before known is =
    asked_at states counts now before request old new reply known request.durability (λ none copy faults at. step copy at.0 none) refuses c.faults.no_lower is

-- ---- a flush

goes_flushed : (copy after : Copy Content ℕ) (luck : Luck ℕ) (told : Result ℕ VbFault) → luck.layout ≡ next_layout copy → flushes folds (flat copy.chain) luck copy ≡ (after, told)
    → Goes Flushes copy (FlushedTo told) after (faults_of luck.chance)
goes_flushed copy after luck told layout goes = record {
  chance = luck.chance;
  goes =
      ap (telling (λ (t : Result ℕ VbFault). FlushedTo t))
      (subst (λ (l : ℕ). flushes folds (flat copy.chain) (record { chance = luck.chance; layout = l }) copy ≡ (after, told)) layout goes);
  counted = refl;
}

-- a vbucket was flushed
record Flushed {D : Type 0} (states : D → List Device) (counts : D → Counts) (before : ℕ) (new : ShownVb D) (known : Knowledge) (told : Result ℕ VbFault) : Type 0 where
  last : Knowledge
  puts : IsFlushed known told last
  is : IsKnown states counts before new last

flushed : {D : Type 0} (states : D → List Device) (counts : D → Counts) (before : ℕ) (old new : ShownVb D) (known : Knowledge) (told : Result ℕ VbFault)
    → ((copy : Copy Content ℕ) → IsCopy states old copy → Comes states counts copy (λ luck. flushes folds (flat copy.chain) luck copy) old new told)
    → (counts old.store.disk).faults ≤ (counts new.store.disk).faults → IsKnown states counts before old known → Flushed states counts before new known told
flushed states counts before old new Unknown told step le is = record { last = Unknown; puts = refl; is = tt }
flushed states counts before old new (IsAt copy faults) told step le is =
    let comes = step copy is.0 in
    record {
      last = IsAt comes.after (faults + faults_of comes.luck.chance);
      puts = (comes.after, faults_of comes.luck.chance, refl, goes_flushed copy comes.after comes.luck told comes.layout comes.goes);
      is = (comes.is, rose_further faults before (counts old.store.disk).faults (counts new.store.disk).faults comes.luck.chance is.1 le comes.cause);
    }

pub closes : {D : Type 0} (states : D → List Device) (counts : D → Counts) (old new : ShownVb D) (told : Result ℕ VbFault) (failed : Type 0) (result : Exit)
    → ((copy : Copy Content ℕ) → IsCopy states old copy → Comes states counts copy (λ luck. flushes folds (flat copy.chain) luck copy) old new told)
    → CountsStore failed (counts old.store.disk) (counts new.store.disk) → result ≡ closed_as told → ClosesWith states counts old exits.Done new result
closes states counts old new told failed result step c is before known at =
    let f = flushed states counts before old new known told step c.faults.no_lower at in
    (told, f.last, sym is, f.puts, f.is)
