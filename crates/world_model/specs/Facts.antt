-- What the report of a script tells, a line each, and the text of such a line.
use Rattle.std.specs.Prelude.{ℕ, Bool, true, false, List, [], ◌∷◌, ◌++◌, Option, Some, None, get_or, codes}
use Rattle.std.specs.Fmt.{decimal}
use Rattle.std.specs.List.{flat_map}
use Rattle.hex.specs.Hex.{encode_lower}
use Rattle.kv_script.specs.Lines.{joined}
use Rattle.vb_log.specs.declared.entry.Entry.{Entry}
use Rattle.vb_log.specs.declared.entry.Entry.TheVariants as entries
use Rattle.durability_core.specs.declared.chain.Chain.{Chain}
use Rattle.replica_core.specs.declared.fences.FenceAnswer.{FenceAnswer}
use Rattle.replica_core.specs.declared.fences.PromoteFault.{PromoteFault}
use Rattle.replica_core.specs.declared.fences.PromoteFault.TheVariants as refusals
use Rattle.copy_model.specs.declared.outcome.VbFault.{VbFault}
use Rattle.copy_model.specs.declared.outcome.VbFault.TheVariants as faults
use Rattle.copy_model.specs.Copies.{Message, EntrySent, AckSent, RejoinSent, AdoptSent, Cleaning, Nothing, Moved, Freed, NoRoomToMove}

-- What a report tells. Copies are told by their places.
pub data Fact : Type 0 where
  IsOpen : (copy accepted entries promise incarnation : ℕ) (whole : Bool) → Fact
  OpenFault : (copy : ℕ) → Fact
  OpenSpent : (copy number : ℕ) → Fact
  IsDown : (copy : ℕ) → Fact
  IsUp : (copy : ℕ) → Fact
  NoMessage : (number : ℕ) → Fact
  NoAnswer : (number : ℕ) → Fact
  Flushed : (copy entries : ℕ) → Fact
  Cleaned : (copy : ℕ) (cleaning : Cleaning) → Fact
  CleanFault : (copy : ℕ) → Fact
  CleanDead : (copy : ℕ) → Fact
  Answer : (copy number : ℕ) (answer : FenceAnswer) → Fact
  Promoted : (copy term entries : ℕ) → Fact
  -- a fence or a promotion of a copy was refused
  Refused : (copy : ℕ) (why : PromoteFault) → Fact
  -- what a line asked for, by its word, wasn't done: the disk failed or had no room, or the copy is dead
  Fault : (word : List ℕ) (copy : ℕ) → Fact
  Full : (word : List ℕ) (copy needed free : ℕ) → Fact
  Dead : (word : List ℕ) (copy : ℕ) → Fact
  -- a message of this number, of which this is shown
  IsSent : (number from to : ℕ) (shown : List (List ℕ)) → Fact
  Out : (copy connection : ℕ) (bytes : List ℕ) → Fact
  ClosedByQuit : (copy connection : ℕ) → Fact
  ClosedByBad : (copy connection place : ℕ) → Fact
  Crashed : (copy : ℕ) → Fact

-- what is told where something that a word asked for wasn't done; want of memory ends the report, and isn't told
abbrev pub fault_facts : List ℕ → ℕ → VbFault → List Fact
fault_facts word x faults.DiskFault = Fault word x ∷ []
fault_facts word x (faults.Full needed free) = Full word x needed free ∷ []
fault_facts word x faults.Dead = Dead word x ∷ []
fault_facts word x (faults.Promote why) = Refused x why ∷ []
fault_facts word x faults.NoMemory = []

-- ---- the words of a fact

-- the name at a place; one without a name is never told
abbrev pub name_at : Chain → ℕ → List ℕ
name_at chain x = named (get_or chain.names x None)
  where
    named : Option (List ℕ) → List ℕ
    named None = []
    named (Some name) = name

abbrev pub yes_or_no : Bool → List ℕ
yes_or_no true = codes "yes"
yes_or_no false = codes "no"

abbrev pub kind_word : Entry → List ℕ
kind_word (entries.Mutation key doc) = codes "mutation"
kind_word (entries.Deletion key cas) = codes "deletion"
kind_word (entries.Prepare key what level) = codes "prepare"
kind_word (entries.Commit of) = codes "commit"
kind_word (entries.Abort of) = codes "abort"
kind_word (entries.Manifest text) = codes "manifest"

abbrev pub refusal_word : PromoteFault → List ℕ
refusal_word refusals.Owner = codes "Owner"
refusal_word refusals.Old = codes "Old"
refusal_word refusals.Few = codes "Few"
refusal_word refusals.Foreign = codes "Foreign"
refusal_word refusals.NotLongest = codes "NotLongest"
refusal_word refusals.NotWhole = codes "NotWhole"

-- what is shown of a message, by the number of entries that the log of an Adopt has
abbrev pub shown_words : {L : Type 0} → (L → ℕ) → Message L → List (List ℕ)
shown_words size (EntrySent term position e) =
    codes "entry" ∷ decimal term ∷ decimal position ∷ kind_word e ∷ []
shown_words size (AckSent term mem disk) = codes "ack" ∷ decimal term ∷ decimal mem ∷ decimal disk ∷ []
shown_words size (RejoinSent term accepted length incarnation) =
    codes "rejoin" ∷ decimal term ∷ decimal accepted ∷ decimal length ∷ decimal incarnation ∷ []
shown_words size (AdoptSent term incarnation log) =
    codes "adopt" ∷ decimal term ∷ decimal incarnation ∷ decimal (size log) ∷ []

abbrev pub cleaning_words : Cleaning → List (List ℕ)
cleaning_words Nothing = codes "nothing" ∷ []
cleaning_words (Moved count) = codes "moved" ∷ decimal count ∷ []
cleaning_words (Freed segment) = codes "freed" ∷ decimal segment ∷ []
cleaning_words (NoRoomToMove needed free) = codes "full" ∷ decimal needed ∷ decimal free ∷ []

-- how far a log is, in words
abbrev pub log_words : ℕ → ℕ → List (List ℕ)
log_words accepted entries = codes "accepted" ∷ decimal accepted ∷ codes "length" ∷ decimal entries ∷ []

-- how often a copy was opened, and whether it is whole, in words
abbrev pub copy_words : ℕ → Bool → List (List ℕ)
copy_words incarnation whole =
    codes "incarnation" ∷ decimal incarnation ∷ codes "whole" ∷ yes_or_no whole ∷ []

-- the words of a fact, by the names of the copies
abbrev pub fact_words : (ℕ → List ℕ) → Fact → List (List ℕ)
fact_words name (IsOpen x accepted entries promise incarnation whole) =
    codes "open" ∷ name x ∷ log_words accepted entries
    ++ (codes "promise" ∷ decimal promise ∷ copy_words incarnation whole)
fact_words name (OpenFault x) = codes "open" ∷ name x ∷ codes "fault" ∷ []
fact_words name (OpenSpent x number) = codes "open" ∷ name x ∷ codes "spent" ∷ decimal number ∷ []
fact_words name (IsDown x) = codes "down" ∷ name x ∷ []
fact_words name (IsUp x) = codes "up" ∷ name x ∷ []
fact_words name (NoMessage number) = codes "no" ∷ codes "message" ∷ decimal number ∷ []
fact_words name (NoAnswer number) = codes "no" ∷ codes "answer" ∷ decimal number ∷ []
fact_words name (Flushed x entries) = codes "flushed" ∷ name x ∷ decimal entries ∷ []
fact_words name (Cleaned x cleaning) = codes "cleaned" ∷ name x ∷ cleaning_words cleaning
fact_words name (CleanFault x) = codes "cleaned" ∷ name x ∷ codes "fault" ∷ []
fact_words name (CleanDead x) = codes "cleaned" ∷ name x ∷ codes "dead" ∷ []
fact_words name (Answer x number a) =
    codes "answer" ∷ decimal number ∷ name x ∷ codes "term" ∷ decimal a.term
    ∷ log_words a.accepted a.length ++ copy_words a.incarnation a.whole
fact_words name (Promoted x term entries) =
    codes "promoted" ∷ name x ∷ decimal term ∷ codes "length" ∷ decimal entries ∷ []
fact_words name (Refused x why) = codes "refused" ∷ name x ∷ refusal_word why ∷ []
fact_words name (Fault word x) = word ∷ name x ∷ codes "fault" ∷ []
fact_words name (Full word x needed free) =
    word ∷ name x ∷ codes "full" ∷ decimal needed ∷ decimal free ∷ []
fact_words name (Dead word x) = word ∷ name x ∷ codes "dead" ∷ []
fact_words name (IsSent number from to shown) =
    codes "sent" ∷ decimal number ∷ name from ∷ name to ∷ shown
fact_words name (Out x s bytes) = codes "out" ∷ name x ∷ decimal s ∷ encode_lower bytes ∷ []
fact_words name (ClosedByQuit x s) = codes "closed" ∷ name x ∷ decimal s ∷ codes "quit" ∷ []
fact_words name (ClosedByBad x s place) =
    codes "closed" ∷ name x ∷ decimal s ∷ codes "bad" ∷ decimal place ∷ []
fact_words name (Crashed x) = codes "crashed" ∷ name x ∷ []

-- the line of a fact: its words, with one space between each and the next, and a line feed
abbrev pub fact_line : Chain → Fact → List ℕ
fact_line chain fact = joined (fact_words (name_at chain) fact) ++ 0x0a ∷ []

-- the text of facts
abbrev pub report_text : Chain → List Fact → List ℕ
report_text chain facts = flat_map (fact_line chain) facts
