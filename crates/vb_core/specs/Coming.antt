-- What a call does to a vbucket that is a copy.
use Rattle.std.specs.Prelude.{◌≡◌, ◌⊎◌, ℕ, ◌+◌, true, false, List}
use Rattle.kv_edge.specs.Edge.{Rose}
use Rattle.kv_request.specs.Tables.{IsReply}
use Rattle.magma_disk.specs.Counting.{Counts}
use Rattle.magma_disk.specs.Device.{Device}
use Rattle.magma_disk.specs.Moments.{Throughout}
use Rattle.vb_log.specs.Content.{Content}
use Rattle.copy_model.specs.declared.outcome.Outcome.{Outcome}
use Rattle.copy_model.specs.declared.outcome.Outcome.TheVariants as outcomes
use Rattle.copy_model.specs.declared.outcome.VbFault.{VbFault}
use Rattle.copy_model.specs.declared.outcome.VbFault.TheVariants as faults
use Rattle.copy_model.specs.Copies.{Copy, Luck, lacks_memory}
use Rattle.copy_model.specs.Laying.{is_faulted}
use Rattle.vb_core.specs.Flat.{size_of_write}
use Rattle.vb_core.specs.Pairs.{HoldsOf}
use Rattle.vb_core.specs.Means.{IsCopy}
use Rattle.vb_core.specs.Shown.{ShownVb}

-- the layout that putting a copy's log on disk leaves
abbrev pub next_layout : Copy Content ℕ → ℕ
next_layout copy = copy.disk.layout + size_of_write copy.anew copy.disk.log.length copy.log

-- a crash at any moment from a vbucket to a later one leaves a pair of the copy before or of the copy after
abbrev pub Leaves : {D : Type 0} → (D → List Device) → Copy Content ℕ → Copy Content ℕ → ShownVb D → ShownVb D → Type 0
Leaves states before after old new =
    Throughout (λ image. HoldsOf before image ⊎ HoldsOf after image) (states old.store.disk) (states new.store.disk)

-- A vbucket that was a copy is now the one that a step leaves, and this is what the step tells. The step goes by luck: where
-- the disk failed it, the disk's count of faults rose; what it writes has the layout that the store's own rule gives.
pub record Comes {D A : Type 0} (states : D → List Device) (counts : D → Counts) (copy : Copy Content ℕ) (step : Luck ℕ → Copy Content ℕ × A) (old new : ShownVb D) (told : A) : Type 0 where
  pub luck : Luck ℕ
  pub after : Copy Content ℕ
  pub goes : step luck ≡ (after, told)
  pub layout : luck.layout ≡ next_layout copy
  pub is : IsCopy states new after
  pub cause : is_faulted luck.chance ≡ true → Rose (counts old.store.disk).faults (counts new.store.disk).faults
  pub leaves : Leaves states copy after old new

-- the same, where memory sufficed
pub record ComesWell {D A : Type 0} (states : D → List Device) (counts : D → Counts) (copy : Copy Content ℕ) (step : Luck ℕ → Copy Content ℕ × A) (old new : ShownVb D) (told : A) : Type 0 where
  pub comes : Comes states counts copy step old new told
  pub sufficed : lacks_memory comes.luck.chance ≡ false

-- Nothing changed but what the disk counts and plans.
pub record Rests {D : Type 0} (states : D → List Device) (old new : ShownVb D) : Type 0 where
  pub all_else : new ≡ record old { store = record old.store { disk = new.store.disk } }
  pub same : states new.store.disk ≡ states old.store.disk

-- an outcome whose reply has a frame
abbrev pub IsOutcome : Outcome → Type 0
IsOutcome (outcomes.Reply reply) = IsReply reply
IsOutcome (outcomes.Parked ticket) = IsReply ticket.reply

-- an outcome that is a reply at once
abbrev pub IsReplied : Outcome → Type 0
IsReplied (outcomes.Reply reply) = Unit {0}
IsReplied (outcomes.Parked ticket) = ⊥

-- why a flush isn't done: it promotes nothing
abbrev pub IsFlushFault : VbFault → Type 0
IsFlushFault faults.DiskFault = Unit {0}
IsFlushFault (faults.Full needed free) = Unit {0}
IsFlushFault faults.Dead = Unit {0}
IsFlushFault (faults.Promote why) = ⊥
IsFlushFault faults.NoMemory = Unit {0}
