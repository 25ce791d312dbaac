-- What a call of `run_offline` comes to that serves the first of its disks.
use Rattle.std.proofs.Common.{◌≡◌, ℕ, List, ◌∷◌, Result, ap, ◌∙◌, inl, inr}
use Rattle.std.specs.Prelude.{slice_index_or}
use Rattle.std.specs.List.{remove}
use Rattle.magma_disk.specs.Device.{Device}
use Rattle.copy_model.specs.declared.outcome.VbFault.{VbFault}
use Rattle.kv_tool.specs.declared.exit.Exit.{Exit}
use Rattle.kv_tool.specs.declared.exit.Exit.TheVariants as exits
use Rattle.kv_tool.specs.Course.{Knowledge}
use Rattle.kv_tool.specs.Outcomes.{Seen, Run, IsRun, Left, Stops, Closes, ClosesAs, Outcome}

-- ---- the moment

module _ (One Other : ℕ → Type 0) (also : (moment : ℕ) → One moment → Other moment) where
  run_as : (states : List Device) (run : Run) → IsRun One states run → IsRun Other states run
  run_as states run is = record { moment = also run.now is.moment; small = is.small; begins = is.begins; served = is.served }

  stops_as : (seen : Seen) (Last : Knowledge → Type 0) (exit : Exit) → Stops One seen Last exit → Stops Other seen Last exit
  stops_as seen Last exits.Done (run, is, took, fin, wrote, last) = (run, run_as seen.disk_before run is, took, fin, wrote, last)
  stops_as seen Last exits.ReadFault (run, is, took, opened, wrote, last) = (run, run_as seen.disk_before run is, took, opened, wrote, last)
  stops_as seen Last exits.WriteFault (run, is, took, wrote, last) = (run, run_as seen.disk_before run is, took, wrote, last)
  stops_as seen Last exits.NoMemory (run, known, is, took, wrote, loses, last) = (run, known, run_as seen.disk_before run is, took, wrote, loses, last)
  stops_as seen Last exits.TooLong (run, more, is, whole, took, opened, wrote, last) = (run, more, run_as seen.disk_before run is, whole, took, opened, wrote, last)
  stops_as seen Last (exits.BadFrame place) (run, offset, fault, is, took, going, bad, at, wrote, last) = (run, offset, fault, run_as seen.disk_before run is, took, going, bad, at, wrote, last)
  stops_as seen Last (exits.Cut count) (run, is, took, end, opened, size, some, wrote, last) = (run, run_as seen.disk_before run is, took, end, opened, size, some, wrote, last)
  stops_as seen Last exits.Usage stops = absurd stops
  stops_as seen Last exits.DiskFault stops = absurd stops
  stops_as seen Last (exits.Damaged disk place found expected) stops = absurd stops
  stops_as seen Last (exits.Spent found) stops = absurd stops
  stops_as seen Last (exits.OtherChain disk) stops = absurd stops
  stops_as seen Last (exits.Full needed free) stops = absurd stops

  closes_as : (seen : Seen) (told : Result ℕ VbFault) → Closes One seen told → Closes Other seen told
  closes_as seen told c = record {
    run = c.run;
    last = c.last;
    is = run_as seen.disk_before c.run c.is;
    took = c.took;
    finished = c.finished;
    wrote = c.wrote;
    puts = c.puts;
    left = c.left;
    keeps = c.keeps;
  }

  ends_as : (seen : Seen) (exit : Exit) → ClosesAs One seen exit → ClosesAs Other seen exit
  ends_as seen exit (told, same, c) = (told, same, closes_as seen told c)

  -- the same of other moments
  pub outcome_as : (seen : Seen) (exit : Exit) → Outcome One seen exit → Outcome Other seen exit
  outcome_as seen exits.Done c = ends_as seen exits.Done c
  outcome_as seen exits.Usage o = o
  outcome_as seen exits.DiskFault (inl o) = inl o
  outcome_as seen exits.DiskFault (inr c) = inr (ends_as seen exits.DiskFault c)
  outcome_as seen (exits.Full needed free) (inl o) = inl o
  outcome_as seen (exits.Full needed free) (inr c) = inr (ends_as seen (exits.Full needed free) c)
  outcome_as seen exits.NoMemory (inl o) = inl o
  outcome_as seen exits.NoMemory (inr (inl c)) = inr (inl (ends_as seen exits.NoMemory c))
  outcome_as seen exits.NoMemory (inr (inr s)) = inr (inr (stops_as seen (Left seen) exits.NoMemory s))
  outcome_as seen (exits.Damaged disk place found expected) o = o
  outcome_as seen (exits.Spent found) o = o
  outcome_as seen (exits.OtherChain disk) o = o
  outcome_as seen exits.ReadFault s = stops_as seen (Left seen) exits.ReadFault s
  outcome_as seen exits.WriteFault s = stops_as seen (Left seen) exits.WriteFault s
  outcome_as seen exits.TooLong s = stops_as seen (Left seen) exits.TooLong s
  outcome_as seen (exits.BadFrame place) s = stops_as seen (Left seen) (exits.BadFrame place) s
  outcome_as seen (exits.Cut count) s = stops_as seen (Left seen) (exits.Cut count) s

-- ---- the disks

-- the first of some disks was taken out
pub first_is : {D : Type 0} (items : List D) (first taken : D) (others : List D) → items ≡ first ∷ others → taken ≡ slice_index_or items 0 taken → taken ≡ first
first_is {D} items first taken others is value = value ∙ ap (λ (l : List D). slice_index_or l 0 taken) is

-- the others are left
pub others_are : {D : Type 0} (items left : List D) (first : D) (others : List D) → items ≡ first ∷ others → left ≡ remove items 0 → left ≡ others
others_are {D} items left first others is removed = removed ∙ ap (λ (l : List D). remove l 0) is
