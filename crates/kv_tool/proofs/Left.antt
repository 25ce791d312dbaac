-- What is on the disk of a vbucket that was given up, and behind its last flush.
use Rattle.std.proofs.Common.{◌≡◌, ℕ, Bool, true, false, cond, List, [], ◌∷◌, Some, None, Result, Ok, Err, refl, sym, ap, subst, ◌∙◌, inl, inr, arith}
use Rattle.magma_disk.specs.Calls.{MayLeave, SeesAnImage}
use Rattle.magma_disk.specs.Counting.{Counts}
use Rattle.magma_disk.specs.Device.{Device, IsImage}
use Rattle.magma_store.specs.Held.{Held, IsOnDisk}
use Rattle.replica_core.specs.declared.copy.Role.TheVariants as roles
use Rattle.replica_core.specs.Terms.{is_dead}
use Rattle.vb_log.specs.Content.{Content}
use Rattle.vb_log.specs.Logs.{folds}
use Rattle.copy_model.specs.declared.outcome.VbFault.{VbFault}
use Rattle.copy_model.specs.declared.outcome.VbFault.TheVariants as vbs
use Rattle.copy_model.specs.Copies.{Pair, Copy, Luck, lacks_memory}
use Rattle.copy_model.specs.Disk.{Put, Done, NoRoom, Failed, put_then, pair_at, on_disk, write_log, after_flush}
use Rattle.copy_model.specs.Events.{Flushes, Told, FlushedTo, telling, flushes, flushed_to, put_told}
use Rattle.copy_model.specs.Openings.{MayHold}
use Rattle.vb_core.specs.Coming.{next_layout}
use Rattle.vb_core.specs.Flat.{flat}
use Rattle.vb_core.specs.Means.{Lives, IsCopy}
use Rattle.vb_core.specs.Openings.{IsAllOnDisk, HoldsSound}
use Rattle.vb_core.specs.Pairs.{HoldsOf}
use Rattle.vb_core.specs.Shown.{ShownVb}
use Rattle.vb_core.proofs.Flushing.{done_is, settles, dead_flushes}
use Rattle.kv_tool.specs.Course.{Knowledge, Unknown, IsAt, Goes, IsFlushed, IsKnown, IsLeft, HasAll, KeepsAll}

-- a crash leaves on a disk a pair that the copy may hold which the vbucket is; one on which a copy begins with its log, where that is
-- all there
pub record LeavesOf {D : Type 0} (states : D → List Device) (vb : ShownVb D) (disk : D) : Type 0 where
  pub holds : (copy : Copy Content ℕ) → IsCopy states vb copy → (image : List ℕ) → MayLeave (states disk) image → HoldsOf copy image
  pub sound : (copy : Copy Content ℕ) → Lives states vb copy → IsAllOnDisk copy → (image : List ℕ) → MayLeave (states disk) image → HoldsSound copy image

-- what is known of a vbucket is known of its disk
pub is_left : {D : Type 0} (states : D → List Device) (counts : D → Counts) (before : ℕ) (vb : ShownVb D) (disk : D) (known : Knowledge) → disk ≡ vb.store.disk → LeavesOf states vb disk → IsKnown states counts before vb known
    → IsLeft (states disk) before (counts disk).faults known
is_left states counts before vb disk Unknown same leaves is = tt
is_left states counts before vb disk (IsAt copy faults) same leaves is = (leaves.holds copy is.0, omega (arith, is.1, ap (λ (d : _). (counts d).faults) same))

-- ---- a flush that was done

-- what is told of a flush
abbrev flushed : Result ℕ VbFault → Told Content
flushed told = FlushedTo told

one_told : (a b : Result ℕ VbFault) → flushed a ≡ flushed b → a ≡ b
one_told a b e = cc

one_flush : (r : Copy Content ℕ × Result ℕ VbFault) (after : Copy Content ℕ) (told : Result ℕ VbFault) → telling flushed r ≡ (after, flushed told) → r ≡ (after, told)
one_flush r after told e =
    let first : r.0 ≡ after = ap (λ (p : Copy Content ℕ × Told Content). p.0) e in
    let second : r.1 ≡ told = one_told r.1 told (ap (λ (p : Copy Content ℕ × Told Content). p.1) e) in
    λ i. (first i, second i)

-- all of the log and the accepted term are in the pair on disk, and the copy isn't dead
record IsDown (copy : Copy Content ℕ) : Type 0 where
  active : copy.role ≡ roles.Active
  all : IsAllOnDisk copy

abbrev told_of : Copy Content ℕ → Put (Copy Content ℕ) → Copy Content ℕ × Result ℕ VbFault
told_of copy put = put_told (flushed_to folds) copy (put_then (after_flush folds) put)

down_by : (copy after : Copy Content ℕ) (luck : Luck ℕ) (n : ℕ) (put : Put (Copy Content ℕ)) → copy.role ≡ roles.Active → copy.log.prepares ≡ [] → write_log folds (flat copy.chain) luck copy.accepted copy ≡ put → told_of copy put ≡ (after, Ok n) → IsDown after
down_by copy after luck n (Done d) active none e told =
    let done : d ≡ on_disk (pair_at copy.accepted luck.layout copy) copy = done_is copy d luck copy.accepted e in
    let role : d.role ≡ roles.Active = ap (λ (c : Copy Content ℕ). c.role) done ∙ active in
    let same : after_flush folds d ≡ d = settles d role (ap (λ (c : Copy Content ℕ). c.log.prepares) done ∙ none) in
    let is : after ≡ on_disk (pair_at copy.accepted luck.layout copy) copy = sym (ap (λ (p : Copy Content ℕ × Result ℕ VbFault). p.0) told) ∙ same ∙ done in
    subst IsDown (sym is) (record { active = active; all = record { accepted = refl; log = refl } })
down_by copy after luck n (NoRoom needed free) active none e told = absurd (let never : Err (vbs.Full needed free) ≡ Ok n = ap (λ (p : Copy Content ℕ × Result ℕ VbFault). p.1) told in cc)
down_by copy after luck n (Failed d) active none e told = absurd (let never : Err vbs.DiskFault ≡ Ok n = ap (λ (p : Copy Content ℕ × Result ℕ VbFault). p.1) told in cc)

-- a flush is told as done
tells_done : (copy after : Copy Content ℕ) (n : ℕ) (dead lacks : Bool) (r : Copy Content ℕ × Result ℕ VbFault) → cond dead (copy, Err vbs.Dead) (cond lacks (copy, Err vbs.NoMemory) r) ≡ (after, Ok n) → r ≡ (after, Ok n)
tells_done copy after n true lacks r e = absurd (let never : Err vbs.Dead ≡ Ok n = ap (λ (p : Copy Content ℕ × Result ℕ VbFault). p.1) e in cc)
tells_done copy after n false true r e = absurd (let never : Err vbs.NoMemory ≡ Ok n = ap (λ (p : Copy Content ℕ × Result ℕ VbFault). p.1) e in cc)
tells_done copy after n false false r e = e

-- a flush that is done of an active copy in whose log nothing waits
flush_down : (copy after : Copy Content ℕ) (luck : Luck ℕ) (n : ℕ) → copy.role ≡ roles.Active → copy.log.prepares ≡ [] → flushes folds (flat copy.chain) luck copy ≡ (after, Ok n) → IsDown after
flush_down copy after luck n active none e =
    let put : Put (Copy Content ℕ) = write_log folds (flat copy.chain) luck copy.accepted copy in
    down_by copy after luck n put active none refl (tells_done copy after n (is_dead copy.role) (lacks_memory luck.chance) (told_of copy put) e)

-- a dead copy isn't flushed
dead_down : (copy after : Copy Content ℕ) (luck : Luck ℕ) (n : ℕ) → copy.role ≡ roles.Dead → flushes folds (flat copy.chain) luck copy ≡ (after, Ok n) → IsDown after
dead_down copy after luck n dead e =
    absurd (let never : Err vbs.Dead ≡ Ok n = ap (λ (p : Copy Content ℕ × Result ℕ VbFault). p.1) (sym (dead_flushes copy luck dead) ∙ e) in cc)

copy_down : {D : Type 0} (states : D → List Device) (vb : ShownVb D) (copy after : Copy Content ℕ) (luck : Luck ℕ) (n : ℕ) → IsCopy states vb copy → flushes folds (flat copy.chain) luck copy ≡ (after, Ok n) → IsDown after
copy_down states vb copy after luck n (inl l) e = flush_down copy after luck n l.stands.active l.none_waits e
copy_down states vb copy after luck n (inr s) e = dead_down copy after luck n s.dead e

goes_down : {D : Type 0} (states : D → List Device) (vb : ShownVb D) (copy after : Copy Content ℕ) (n count : ℕ) → IsCopy states vb copy → Goes Flushes copy (FlushedTo (Ok n)) after count → IsDown after
goes_down states vb copy after n count is goes =
    let luck : Luck ℕ = record { chance = goes.chance; layout = next_layout copy } in
    copy_down states vb copy after luck n is (one_flush (flushes folds (flat copy.chain) luck copy) after (Ok n) goes.goes)

-- ---- what is left

-- a device at rest gives what a crash may leave
rest_seen : (held : Held) (filled : ℕ) (states : List Device) → IsOnDisk held filled states → SeesAnImage states
rest_seen held filled [] on = absurd on
rest_seen held filled (d ∷ past) on =
    let bytes : List ℕ = d.bytes in
    subst (λ (e : Device). IsImage e e.bytes) (sym on.rests.is) (record { no_longer = omega arith; stays = λ i lt untouched. (lt, refl) })

abbrev Keeps : {D : Type 0} → (D → List Device) → D → Copy Content ℕ → Type 0
Keeps states disk copy = SeesAnImage (states disk) × ((image : List ℕ) → MayLeave (states disk) image → HasAll copy image)

-- a copy that is down keeps all
down_keeps : {D : Type 0} (states : D → List Device) (vb : ShownVb D) (disk : D) (copy : Copy Content ℕ) → disk ≡ vb.store.disk → LeavesOf states vb disk → IsDown copy → IsCopy states vb copy → Keeps states disk copy
down_keeps states vb disk copy same leaves down (inl l) = (
  subst (λ (d : _). SeesAnImage (states d)) (sym same) (rest_seen l.stands.held vb.store.layout (states vb.store.disk) l.stands.is_open.on_disk),
  λ image may. (down.all, leaves.sound copy l down.all image may),
)
down_keeps states vb disk copy same leaves down (inr s) = absurd (let never : roles.Active ≡ roles.Dead = sym down.active ∙ s.dead in cc)

-- behind a flush that was done all is on disk
pub keeps_all : {D : Type 0} (states : D → List Device) (counts : D → Counts) (before : ℕ) (old new : ShownVb D) (disk : D) (known last : Knowledge) (told : Result ℕ VbFault) → disk ≡ new.store.disk → LeavesOf states new disk
    → IsKnown states counts before old known → IsFlushed known told last → IsKnown states counts before new last → KeepsAll (states disk) told last
keeps_all states counts before old new disk known last (Err why) same leaves was puts is = tt
keeps_all states counts before old new disk known Unknown (Ok n) same leaves was puts is = tt
keeps_all states counts before old new disk Unknown (IsAt copy faults) (Ok n) same leaves was puts is = absurd (let never : IsAt copy faults ≡ Unknown = puts in cc)
keeps_all states counts before old new disk (IsAt first count) (IsAt copy faults) (Ok n) same leaves was (after, more, at, goes) is =
    let one : copy ≡ after = cc in
    down_keeps states new disk copy same leaves (subst IsDown (sym one) (goes_down states old first after n more was.0 goes)) is.0
