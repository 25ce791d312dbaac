-- What each line of a script does and tells, and the report of a whole script.
use Rattle.std.specs.Prelude.{◌≡◌, ◌⊎◌, ℕ, ◌+◌, ◌-◌, ◌<◌, ◌≤◌, nat_eq, Bool, true, false, get_or, set, map as list_map, List, [], ◌∷◌, ◌++◌, length, Option, Some, None, Result, Ok, Err, codes, IsSome, if◌then◌else◌}
use Rattle.std.specs.List.{list_any}
use Rattle.kv_script.specs.declared.line.Line.{Line}
use Rattle.kv_script.specs.declared.line.Line.TheVariants as lines
use Rattle.vb_log.specs.Logs.{LogKind}
use Rattle.durability_core.specs.declared.chain.Chain.{Chain}
use Rattle.replica_core.specs.declared.fences.FenceAnswer.{FenceAnswer}
use Rattle.copy_model.specs.declared.outcome.VbFault.TheVariants as faults
use Rattle.copy_model.specs.Copies.{Sent, Pair, Copy, LayoutKind, Luck, NoMemory}
use Rattle.copy_model.specs.Events.{Event, Hears, Ticks, Flushes, Cleans, Fences, Promotes, Told, FlushedTo, CleanedTo, FencedWith, Ended}
use Rattle.copy_model.specs.Laying.{IsBegun, IsOpened}
use Rattle.copy_model.specs.Openings.{MayHold, Opening, Opened, Spent, Stopped, opening}
use Rattle.world_model.specs.Facts.{Fact, IsOpen, OpenFault, OpenSpent, IsDown, IsUp, NoMessage, NoAnswer, Flushed, Cleaned, CleanFault, CleanDead, Answer, Promoted, Crashed, fault_facts}
use Rattle.world_model.specs.Replays.{Replay, new_connections, faulted_with, connection_at, with_connection, holding}
use Rattle.world_model.specs.Connections.{GoesOn, Served}
use Rattle.world_model.specs.Worlds.{Seat, Up, Down, Nobody, Post, seat_at, with_seat, seat_after, first_world}

-- ---- the copy of a line

-- a line leaves a script where it is, and tells this
abbrev pub Tells : {L Y : Type 0} → List Fact → Replay L Y → List Fact → Replay L Y → Type 0
Tells told old facts new = (facts ≡ told) × (new ≡ old)

-- what a line does to a copy that is up; of one that is down it tells so
abbrev pub IfUp :
    {L Y : Type 0} → (Replay L Y → List Fact → Replay L Y → Type 0) → ℕ → Seat L Y → Replay L Y
    → List Fact → Replay L Y → Type 0
IfUp does x (Up c) old facts new = does old facts new
IfUp does x (Down disk torn) old facts new = Tells (IsDown x ∷ []) old facts new
IfUp does x Nobody old facts new = ⊥

-- a name is that of the copy at a place of a chain
abbrev pub IsNameOf : Chain → List ℕ → ℕ → Type 0
IsNameOf chain name x = (x < length chain.names) × (get_or chain.names x None ≡ Some name)

-- what a line does to the copy that it names, where this is done to one that is up
abbrev pub OnCopy :
    {L Y : Type 0} → (ℕ → Replay L Y → List Fact → Replay L Y → Type 0) → List ℕ → Replay L Y
    → List Fact → Replay L Y → Type 0
OnCopy does name old facts new =
    (x : ℕ) × IsNameOf old.world.chain name x × IfUp (does x) x (seat_at old.world x) old facts new

-- ---- what an event tells of its own

abbrev pub no_facts : {L Y : Type 0} → Told L → Replay L Y → List Fact
no_facts told after = []

-- what a flush tells
abbrev pub flush_facts : {L Y : Type 0} → ℕ → Told L → Replay L Y → List Fact
flush_facts x (FlushedTo (Ok entries)) after = Flushed x entries ∷ []
flush_facts x (FlushedTo (Err why)) after = fault_facts (codes "flush") x why
flush_facts x told after = []

-- what a cleaning tells
abbrev pub clean_facts : {L Y : Type 0} → ℕ → Told L → Replay L Y → List Fact
clean_facts x (CleanedTo (Ok cleaning)) after = Cleaned x cleaning ∷ []
clean_facts x (CleanedTo (Err faults.DiskFault)) after = CleanFault x ∷ []
clean_facts x (CleanedTo (Err faults.Dead)) after = CleanDead x ∷ []
clean_facts x told after = []

-- what a fence tells: an answer has the number of those that were given before it
abbrev pub fence_facts : {L Y : Type 0} → ℕ → ℕ → Told L → Replay L Y → List Fact
fence_facts x number (FencedWith (Ok answer)) after = Answer x number answer ∷ []
fence_facts x number (FencedWith (Err why)) after = fault_facts (codes "fence") x why
fence_facts x number told after = []

-- how many entries the disk of a copy that is up has
abbrev pub entries_on_disk : {L Y : Type 0} → LogKind L → Seat L Y → ℕ
entries_on_disk k (Up c) = (k.view c.disk.log).length
entries_on_disk k (Down disk torn) = 0
entries_on_disk k Nobody = 0

-- what a promotion tells: as many entries as its commit put on disk
abbrev pub promote_facts : {L Y : Type 0} → LogKind L → ℕ → ℕ → Told L → Replay L Y → List Fact
promote_facts k x term (Ended (Ok u)) after =
    Promoted x term (entries_on_disk k (seat_at after.world x)) ∷ []
promote_facts k x term (Ended (Err why)) after = fault_facts (codes "promote") x why
promote_facts k x term told after = []

-- ---- promotions

-- the answer of a number, which counts from 0
abbrev pub answer_of : List FenceAnswer → ℕ → Option FenceAnswer
answer_of [] j = None
answer_of (a ∷ others) j = if nat_eq j 0 then Some a else answer_of others (j - 1)

-- the answers of numbers, or the first number that none has
abbrev pub with_answer :
    ℕ → Option FenceAnswer → Result (List FenceAnswer) ℕ → Result (List FenceAnswer) ℕ
with_answer j None others = Err j
with_answer j (Some a) (Ok others) = Ok (a ∷ others)
with_answer j (Some a) (Err i) = Err i

abbrev pub answers_of : List FenceAnswer → List ℕ → Result (List FenceAnswer) ℕ
answers_of given [] = Ok []
answers_of given (j ∷ js) = with_answer j (answer_of given j) (answers_of given js)

-- a copy is promoted by these answers, or the number that none has is told
abbrev pub PromotesBy :
    {L Y : Type 0} → LogKind L → LayoutKind Y → ℕ → Bool → Result (List FenceAnswer) ℕ → ℕ
    → Replay L Y → List Fact → Replay L Y → Type 0
PromotesBy k y term weak (Ok answers) x old facts new =
    Served k y x (Promotes term answers weak) (promote_facts k x term) old facts new
PromotesBy k y term weak (Err j) x old facts new = Tells (NoAnswer j ∷ []) old facts new

-- ---- deliveries

-- a message has a number
abbrev pub IsNth : {A : Type 0} → List A → ℕ → A → Type 0
IsNth xs i a = (i < length xs) × (get_or xs i a ≡ a)

-- A message that has a number is given to its addressee; it counts as delivered where the addressee is up.
abbrev pub Delivers :
    {L Y : Type 0} → LogKind L → LayoutKind Y → ℕ → Sent L → Replay L Y → List Fact → Replay L Y
    → Type 0
Delivers k y number sent old facts new =
    IfUp
    (λ before. Served k y sent.to (Hears sent) no_facts (record before { delivered = number ∷ before.delivered }))
    sent.to (seat_at old.world sent.to) old facts new

-- A message waits to be delivered: it never was, and its addressee is up.
pub record Waits {L Y : Type 0} (r : Replay L Y) (number : ℕ) (post : Post L) : Type 0 where
  pub is : IsNth r.world.posts number post
  pub never : list_any (nat_eq number) r.delivered ≡ false
  pub copy : Copy L Y
  pub up : seat_at r.world post.sent.to ≡ Up copy

-- Of the messages from a number on and below another those are delivered, in their order, that wait as their turn comes.
pub data DeliversAll {L Y : Type 0} (k : LogKind L) (y : LayoutKind Y) (bound : ℕ)
    : ℕ → Replay L Y → List Fact → Replay L Y → Type 0 where
  AtEnd : (r : Replay L Y) → DeliversAll k y bound bound r [] r
  Passes : (number : ℕ) (r new : Replay L Y) (facts : List Fact) → number < bound
      → ((post : Post L) → Waits r number post → ⊥)
      → DeliversAll k y bound (number + 1) r facts new → DeliversAll k y bound number r facts new
  Gives : (number : ℕ) (post : Post L) (r mid new : Replay L Y) (first rest : List Fact)
      → number < bound → Waits r number post → Delivers k y number post.sent r first mid
      → DeliversAll k y bound (number + 1) mid rest new
      → DeliversAll k y bound number r (first ++ rest) new

-- a message of a number is delivered, or there is none
abbrev pub DeliversOne :
    {L Y : Type 0} → LogKind L → LayoutKind Y → ℕ → Replay L Y → List Fact → Replay L Y → Type 0
DeliversOne {L} k y number old facts new =
    (Tells (NoMessage number ∷ []) old facts new × (length old.world.posts ≤ number))
    ⊎ ((post : Post L) × IsNth old.world.posts number post × Delivers k y number post.sent old facts new)

-- ---- crashes and openings

-- what an opening tells
abbrev pub open_facts : {L Y : Type 0} → LogKind L → ℕ → Opening L Y → List Fact
open_facts k x (Opened c) =
    IsOpen x c.accepted (k.view c.log).length c.promise c.incarnation c.whole ∷ []
open_facts k x (Spent number) = OpenSpent x number ∷ []
open_facts k x (Stopped old new) = OpenFault x ∷ []

-- A copy that is down is opened, on a pair that its disk may hold; its connections are new ones.
pub record OpensOn
    {L Y : Type 0} (k : LogKind L) (y : LayoutKind Y) (x : ℕ) (disk : Pair L Y)
    (torn : Option (Pair L Y)) (old : Replay L Y) (facts : List Fact) (new : Replay L Y)
    : Type 0 where
  pub pair : Pair L Y
  pub luck : Luck Y
  pub may : MayHold disk torn pair
  pub laid : IsOpened y luck pair
  pub memory : luck.chance ≡ NoMemory → ⊥
  pub opened : Opening L Y
  pub opened_is : opened ≡ opening luck old.world.chain x old.world.number pair
  pub facts_are : facts ≡ open_facts k x opened
  pub new_is : new ≡ record old {
    world = with_seat x (seat_after pair opened) old.world;
    connections = set old.connections x new_connections;
    faulted = faulted_with x luck.chance old.faulted;
  }

-- one that is up is told to be
abbrev pub OpensAt :
    {L Y : Type 0} → LogKind L → LayoutKind Y → ℕ → Seat L Y → Replay L Y → List Fact → Replay L Y
    → Type 0
OpensAt k y x (Up c) old facts new = Tells (IsUp x ∷ []) old facts new
OpensAt k y x (Down disk torn) old facts new = OpensOn k y x disk torn old facts new
OpensAt k y x Nobody old facts new = ⊥

-- a copy that is up crashes: its disk has one of its pairs, and its connections and tickets are gone
abbrev pub CrashesAt :
    {L Y : Type 0} → ℕ → Seat L Y → Replay L Y → List Fact → Replay L Y → Type 0
CrashesAt x (Up c) old facts new =
    (facts ≡ Crashed x ∷ [])
    × (new ≡ record old {
      world = with_seat x (Down c.disk c.torn) old.world;
      connections = set old.connections x new_connections;
    })
CrashesAt x (Down disk torn) old facts new = Tells (IsDown x ∷ []) old facts new
CrashesAt x Nobody old facts new = ⊥

-- ---- lines

-- an event of the copy that a line names
abbrev pub OnEvent :
    {L Y : Type 0} → LogKind L → LayoutKind Y → Event L → (ℕ → Told L → Replay L Y → List Fact)
    → List ℕ → Replay L Y → List Fact → Replay L Y → Type 0
OnEvent k y e own name old facts new = OnCopy (λ x. Served k y x e (own x)) name old facts new

-- bytes come to a connection, and what can go on does
abbrev pub FeedsTo :
    {L Y : Type 0} → LogKind L → LayoutKind Y → ℕ → List ℕ → ℕ → Replay L Y → List Fact
    → Replay L Y → Type 0
FeedsTo k y s bytes x old facts new =
    GoesOn k y x (with_connection x s (holding bytes (connection_at old x s)) old) facts new

-- What a line behind the chain's does and tells. That of a name which the chain doesn't have, and a second chain, are no lines
-- of the script.
abbrev pub LineDoes :
    {L Y : Type 0} → LogKind L → LayoutKind Y → Line → Replay L Y → List Fact → Replay L Y → Type 0
LineDoes k y lines.Comment old facts new = Tells [] old facts new
LineDoes k y (lines.Chain names) old facts new = ⊥
LineDoes k y (lines.At moment) old facts new = (facts ≡ []) × (new ≡ record old { moment = moment })
LineDoes k y (lines.Feed name s bytes) old facts new = OnCopy (FeedsTo k y s bytes) name old facts new
LineDoes k y (lines.Deliver number) old facts new = DeliversOne k y number old facts new
LineDoes k y lines.All old facts new = DeliversAll k y (length old.world.posts) 0 old facts new
LineDoes k y (lines.Tick name) old facts new =
    OnEvent k y (Ticks old.moment) (λ x. no_facts) name old facts new
LineDoes k y (lines.Flush name) old facts new = OnEvent k y Flushes flush_facts name old facts new
LineDoes k y (lines.Clean name most) old facts new =
    OnEvent k y (Cleans most) clean_facts name old facts new
LineDoes k y (lines.Fence name term) old facts new =
    OnEvent k y (Fences term) (λ x. fence_facts x (length old.world.answers)) name old facts new
LineDoes k y (lines.Promote name term weak answers) old facts new =
    OnCopy (PromotesBy k y term weak (answers_of old.world.answers answers)) name old facts new
LineDoes k y (lines.Fuse name after) old facts new =
    ((x : ℕ) × IsNameOf old.world.chain name x) × Tells [] old facts new
LineDoes k y (lines.Fail name after) old facts new =
    ((x : ℕ) × IsNameOf old.world.chain name x) × Tells [] old facts new
LineDoes k y (lines.Crash name) old facts new =
    (x : ℕ) × IsNameOf old.world.chain name x × CrashesAt x (seat_at old.world x) old facts new
LineDoes k y (lines.OpenCopy name) old facts new =
    (x : ℕ) × IsNameOf old.world.chain name x × OpensAt k y x (seat_at old.world x) old facts new

-- what lines do and tell, one after the other
abbrev pub LinesDo :
    {L Y : Type 0} → LogKind L → LayoutKind Y → List Line → Replay L Y → List Fact → Replay L Y
    → Type 0
LinesDo k y [] old facts new = Tells [] old facts new
LinesDo {L} {Y} k y (line ∷ others) old facts new =
    (first : List Fact) × (rest : List Fact) × (mid : Replay L Y)
    × LineDoes k y line old first mid × LinesDo k y others mid rest new × (facts ≡ first ++ rest)

-- ---- a script

-- where a script stands behind its chain, over empty disks
abbrev pub first_replay : {L Y : Type 0} → LogKind L → Y → Chain → ℕ → Replay L Y
first_replay k layout chain number = record {
  world = first_world k layout chain number;
  moment = 0;
  delivered = [];
  connections = list_map (λ (name : Option (List ℕ)). new_connections) chain.names;
  faulted = [];
}

-- the openings of new copies at the places with a name, where the first of these names stands at a place
abbrev pub first_facts : ℕ → List (Option (List ℕ)) → List Fact
first_facts at [] = []
first_facts at (None ∷ names) = first_facts (at + 1) names
first_facts at (Some name ∷ names) = IsOpen at 0 0 0 1 true ∷ first_facts (at + 1) names

-- one to four places, of which the first has a name
abbrev pub IsChain : List (Option (List ℕ)) → Type 0
IsChain [] = ⊥
IsChain (first ∷ names) = IsSome first × (length names ≤ 3)

-- what these lines do and tell behind a chain line of these names, on empty disks with a layout of theirs
pub record BehindChain
    {L Y : Type 0} (k : LogKind L) (y : LayoutKind Y) (number : ℕ)
    (names : List (Option (List ℕ))) (others : List Line) (facts : List Fact) (end : Replay L Y)
    : Type 0 where
  pub chain : IsChain names
  pub layout : Y
  pub begun : IsBegun y layout
  pub rest : List Fact
  pub done : LinesDo k y others (first_replay k layout (record { names = names }) number) rest end
  pub facts_are : facts ≡ first_facts 0 names ++ rest

-- The facts that a script tells of a vbucket of this number, where it comes to its chain: before that stand only remarks.
abbrev pub Reports :
    {L Y : Type 0} → LogKind L → LayoutKind Y → ℕ → List Line → List Fact → Replay L Y → Type 0
Reports k y number [] facts end = ⊥
Reports k y number (lines.Comment ∷ others) facts end = Reports k y number others facts end
Reports k y number (lines.Chain names ∷ others) facts end =
    BehindChain k y number names others facts end
Reports k y number (line ∷ others) facts end = ⊥
