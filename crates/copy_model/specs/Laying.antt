-- Which layouts an event may leave, and the steps that a copy may take.
use Rattle.std.specs.Prelude.{◌≡◌, is_some, Bool, true, false, ◌&&◌, not}
use Rattle.vb_log.specs.Logs.{LogKind}
use Rattle.replica_core.specs.Terms.{is_dead}
use Rattle.copy_model.specs.Copies.{Message, EntrySent, AckSent, RejoinSent, AdoptSent, Pair, Copy, Chance, Fine, ReadFails, DiskFails, NoMemory, LayoutKind, Luck, lacks_memory, fails_read}
use Rattle.copy_model.specs.Entries.{content}
use Rattle.copy_model.specs.Events.{Event, Requests, Polls, Forgets, Hears, Speaks, TellsChange, Ticks, Flushes, Cleans, Fences, Promotes, SetsState, Told, step}
use Rattle.copy_model.specs.Openings.{is_spent}

-- whether a commit of a copy's log may leave a layout
abbrev pub lays_log : {L Y : Type 0} → LogKind L → LayoutKind Y → Copy L Y → Y → Bool
lays_log k y c layout =
    y.commits c.disk.layout c.anew (k.view c.disk.log).length (content k c) layout

-- whether what a message makes a copy write may leave a layout
abbrev pub lays_heard :
    {L Y : Type 0} → LogKind L → LayoutKind Y → Message L → Copy L Y → Y → Bool
lays_heard k y (EntrySent term position e) c layout = lays_log k y c layout
lays_heard k y (AckSent term mem disk) c layout = false
lays_heard k y (RejoinSent term accepted length incarnation) c layout = false
lays_heard k y (AdoptSent term incarnation log) c layout = y.promises c.disk.layout layout

-- whether what an event writes may leave a layout
abbrev pub lays : {L Y : Type 0} → LogKind L → LayoutKind Y → Event L → Copy L Y → Y → Bool
lays k y (Requests request now) c layout = lays_log k y c layout
lays k y (Polls ticket) c layout = false
lays k y (Forgets ticket) c layout = false
lays k y (Hears sent) c layout = lays_heard k y sent.message c layout
lays k y Speaks c layout = false
lays k y TellsChange c layout = false
lays k y (Ticks now) c layout = false
lays k y Flushes c layout = lays_log k y c layout
lays k y (Cleans most) c layout =
    y.cleans c.disk.layout most (k.view c.disk.log) layout
lays k y (Fences term) c layout = y.promises c.disk.layout layout
lays k y (Promotes term answers weak) c layout = lays_log k y c layout
lays k y (SetsState state) c layout = false

-- a disk that fails at once
abbrev pub failing : {L Y : Type 0} → Copy L Y → Luck Y
failing c = record { chance = DiskFails; layout = c.disk.layout }

-- whether an event writes: a disk that fails at once would have a write that was stopped
abbrev pub writes : {L Y : Type 0} → LogKind L → LayoutKind Y → Event L → Copy L Y → Bool
writes k y e c = not (is_dead c.role) && is_some (step k y (failing c) e c).0.torn

-- Whether an event gets as far as its write: memory isn't wanting, and a request could read its
-- document.
abbrev pub goes_on : {L : Type 0} → Event L → Chance → Bool
goes_on (Requests request now) chance = not (lacks_memory chance) && not (fails_read chance)
goes_on (Polls ticket) chance = not (lacks_memory chance)
goes_on (Forgets ticket) chance = not (lacks_memory chance)
goes_on (Hears sent) chance = not (lacks_memory chance)
goes_on Speaks chance = not (lacks_memory chance)
goes_on TellsChange chance = not (lacks_memory chance)
goes_on (Ticks now) chance = not (lacks_memory chance)
goes_on Flushes chance = not (lacks_memory chance)
goes_on (Cleans most) chance = not (lacks_memory chance)
goes_on (Fences term) chance = not (lacks_memory chance)
goes_on (Promotes term answers weak) chance = not (lacks_memory chance)
goes_on (SetsState state) chance = not (lacks_memory chance)

-- An event that gets as far as a write leaves a layout that what it writes may leave.
abbrev pub IsLaid :
    {L Y : Type 0} → LogKind L → LayoutKind Y → Luck Y → Event L → Copy L Y → Type 0
IsLaid k y luck e c =
    writes k y e c ≡ true → goes_on e luck.chance ≡ true → lays k y e c luck.layout ≡ true

-- whether an opening may raise a pair: it goes well and the pair isn't spent, or it stops
abbrev pub raises : {L Y : Type 0} → Chance → Pair L Y → Bool
raises Fine d = not (is_spent d)
raises ReadFails d = true
raises DiskFails d = true
raises NoMemory d = true

-- An opening that may raise a pair leaves a layout that an opening may leave.
abbrev pub IsOpened : {L Y : Type 0} → LayoutKind Y → Luck Y → Pair L Y → Type 0
IsOpened y luck d = raises luck.chance d ≡ true → y.opens d.layout luck.layout ≡ true

-- A new copy has the layout of an empty store.
abbrev pub IsBegun : {Y : Type 0} → LayoutKind Y → Y → Type 0
IsBegun y layout = y.begins layout ≡ true

-- whether the disk failed an event
abbrev pub is_faulted : Chance → Bool
is_faulted Fine = false
is_faulted ReadFails = true
is_faulted DiskFails = true
is_faulted NoMemory = false

-- A copy may become another by an event that tells this.
pub record May
    {L Y : Type 0} (k : LogKind L) (y : LayoutKind Y) (e : Event L) (c new : Copy L Y)
    (told : Told L) : Type 0 where
  pub luck : Luck Y
  pub laid : IsLaid k y luck e c
  pub goes : step k y luck e c ≡ (new, told)
