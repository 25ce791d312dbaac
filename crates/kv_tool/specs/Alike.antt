-- Two runs over the same input.
use Rattle.std.specs.Prelude.{◌≡◌, ◌≢◌, ◌<◌, ◌-◌, ◌^◌, ℕ, List, [], Some}
use Rattle.std.specs.List.{AllByRecursion}
use Rattle.kv_request.specs.declared.reply.Reply.{Reply}
use Rattle.doc_model.specs.declared.status.TheConstants.Status as status
use Rattle.vb_log.specs.Content.{Content}
use Rattle.copy_model.specs.Copies.{Copy}
use Rattle.kv_tool.specs.declared.exit.Exit.{Exit}
use Rattle.kv_tool.specs.declared.exit.Exit.TheVariants as exits
use Rattle.kv_tool.specs.Course.{Unknown, IsAt}
use Rattle.kv_tool.specs.Outcomes.{Seen, Run, Outcome}

-- a run of nothing
abbrev pub no_run : Run
no_run = record { now = 0; input = []; frames = []; rest = []; replies = []; begin = Unknown; end = Unknown }

-- the run of which an exit speaks, where it speaks of one and memory, disk and room sufficed
abbrev pub run_of : (Moment : ℕ → Type 0) (seen : Seen) (exit : Exit) → Outcome Moment seen exit → Run
run_of Moment seen exits.Done outcome = outcome.2.run
run_of Moment seen exits.Usage outcome = no_run
run_of Moment seen exits.ReadFault outcome = outcome.0
run_of Moment seen exits.WriteFault outcome = outcome.0
run_of Moment seen exits.NoMemory outcome = no_run
run_of Moment seen exits.DiskFault outcome = no_run
run_of Moment seen (exits.Damaged disk place found expected) outcome = no_run
run_of Moment seen exits.TooLong outcome = outcome.0
run_of Moment seen (exits.BadFrame place) outcome = outcome.0
run_of Moment seen (exits.Cut count) outcome = outcome.0
run_of Moment seen (exits.Spent found) outcome = no_run
run_of Moment seen (exits.OtherChain disk) outcome = no_run
run_of Moment seen (exits.Full needed free) outcome = no_run

-- the words were served, and neither a fault nor want of memory or room ended the run
abbrev pub IsUndisturbed : Exit → Type 0
IsUndisturbed exits.Done = Unit {0}
IsUndisturbed exits.Usage = ⊥
IsUndisturbed exits.ReadFault = ⊥
IsUndisturbed exits.WriteFault = ⊥
IsUndisturbed exits.NoMemory = ⊥
IsUndisturbed exits.DiskFault = ⊥
IsUndisturbed (exits.Damaged disk place found expected) = ⊥
IsUndisturbed exits.TooLong = Unit {0}
IsUndisturbed (exits.BadFrame place) = Unit {0}
IsUndisturbed (exits.Cut count) = Unit {0}
IsUndisturbed (exits.Spent found) = ⊥
IsUndisturbed (exits.OtherChain disk) = ⊥
IsUndisturbed (exits.Full needed free) = ⊥

-- no reply says that memory was refused
abbrev pub AreGiven : List Reply → Type 0
AreGiven replies = AllByRecursion (λ (reply : Reply). reply.status ≢ status.ENOMEM) replies

-- A source that tells this input and a sink that tells what was written before came to this exit in a run at this moment, from
-- this copy, in which the disk didn't fail, and which nothing disturbed.
pub record IsClear (now : ℕ) (input before : List ℕ) (copy : Copy Content ℕ) (seen : Seen) (exit : Exit) (run : Run) : Type 0 where
  pub at_moment : run.now ≡ now
  pub left : seen.left_before ≡ Some input
  pub written : seen.written_before ≡ Some before
  pub begins : run.begin ≡ IsAt copy 0
  pub calm : seen.faults_now ≡ seen.faults_before
  pub counting : seen.faults_before < 2 ^ 64 - 1
  pub undisturbed : IsUndisturbed exit
  pub given : AreGiven run.replies
