-- What a copy puts on its disk.
use Rattle.std.specs.Prelude.{ℕ, nat_eq, nat_le, nat_lt, Bool, false, ◌&&◌, ◌||◌, not, Option, Some, None, if◌then◌else◌}
use Rattle.vb_log.specs.Logs.{LogKind}
use Rattle.replica_core.specs.declared.copy.Role.TheVariants as roles
use Rattle.replica_core.specs.Terms.{is_active, is_term, owner}
use Rattle.copy_model.specs.declared.limits.TheConstants.{UNFLUSHED_ENTRIES, UNFLUSHED_BYTES}
use Rattle.copy_model.specs.Copies.{Pair, Copy, LayoutKind, Luck, fails_disk}
use Rattle.copy_model.specs.Entries.{content, settled, acknowledging, in_role}

-- What a write comes to: it is done, there is no room, or it stopped and left the copy dead.
pub data Put (C : Type 0) : Type 0 where
  Done : (copy : C) → Put C
  NoRoom : (needed free : ℕ) → Put C
  Failed : (copy : C) → Put C

-- what is done goes on
abbrev pub put_then : {C : Type 0} → (C → C) → Put C → Put C
put_then f (Done c) = Done (f c)
put_then f (NoRoom needed free) = NoRoom needed free
put_then f (Failed c) = Failed c

-- A copy that stopped at its disk: the old pair is there, or this one where a write was begun.
abbrev pub dead_with : {L Y : Type 0} → Option (Pair L Y) → Copy L Y → Copy L Y
dead_with torn c = record (in_role roles.Dead c) { torn = torn }

-- ---- the promise

-- a pair with another promise
abbrev pub promised : {L Y : Type 0} → ℕ → Y → Pair L Y → Pair L Y
promised term layout d = record d { promise = term; layout = layout }

-- a promise is put on disk, which takes no room
abbrev pub write_promise : {L Y : Type 0} → Luck Y → ℕ → Copy L Y → Put (Copy L Y)
write_promise luck term c =
    if fails_disk luck.chance
    then Failed (dead_with (Some (promised term luck.layout c.disk)) c)
    else Done (record c { promise = term; disk = promised term luck.layout c.disk })

-- ---- the log

-- the pair that a copy's log makes at an accepted term
abbrev pub pair_at : {L Y : Type 0} → ℕ → Y → Copy L Y → Pair L Y
pair_at term layout c = record {
  promise = c.promise;
  accepted = term;
  log = c.log;
  incarnation = c.incarnation;
  layout = layout;
}

-- a copy with all of its log in the pair on disk
abbrev pub on_disk : {L Y : Type 0} → Pair L Y → Copy L Y → Copy L Y
on_disk d c = record c { disk = d; unflushed_entries = 0; unflushed_bytes = 0; anew = false }

-- the segments that putting its log on disk needs
abbrev pub needed : {L Y : Type 0} → LogKind L → LayoutKind Y → Copy L Y → ℕ
needed k y c = y.needed c.disk.layout c.anew (k.view c.disk.log).length (content k c)

-- the segments that are free
abbrev pub free : {L Y : Type 0} → LayoutKind Y → Copy L Y → ℕ
free y c = y.free c.disk.layout

-- A copy finds no room for its log, or its disk fails while it finds out.
abbrev pub without_room :
    {L Y : Type 0} → LogKind L → LayoutKind Y → Luck Y → Copy L Y → Put (Copy L Y)
without_room k y luck c =
    if fails_disk luck.chance then Failed (dead_with None c)
    else NoRoom (needed k y c) (free y c)

-- Its log and an accepted term are put on disk, where there is room; a disk that fails leaves the
-- old pair or the new one.
abbrev pub write_log :
    {L Y : Type 0} → LogKind L → LayoutKind Y → Luck Y → ℕ → Copy L Y → Put (Copy L Y)
write_log k y luck term c =
    if nat_lt (free y c) (needed k y c) then without_room k y luck c
    else (if fails_disk luck.chance
    then Failed (dead_with (Some (pair_at term luck.layout c)) c)
    else Done (on_disk (pair_at term luck.layout c) c))

-- ---- the flush

-- Whether a copy that isn't active tells how far it is, once it has flushed: its accepted term is
-- one of another place, and its promise.
abbrev pub tells_flush : {L Y : Type 0} → Copy L Y → Bool
tells_flush c =
    nat_lt 0 c.accepted
    && nat_eq c.accepted c.promise
    && (is_term c.accepted && not (nat_eq (owner c.accepted) c.place))

-- what follows a flush: an active copy commits what is ready, another tells how far it is
abbrev pub after_flush : {L Y : Type 0} → LogKind L → Copy L Y → Copy L Y
after_flush k c =
    if is_active c.role then settled k c
    else (if tells_flush c then acknowledging k c else c)

-- a flush with what follows it
abbrev pub flushing :
    {L Y : Type 0} → LogKind L → LayoutKind Y → Luck Y → Copy L Y → Put (Copy L Y)
flushing k y luck c = put_then (after_flush k) (write_log k y luck c.accepted c)

-- whether so much was added since the last flush that a change begins with one
abbrev pub must_flush : {L Y : Type 0} → Copy L Y → Bool
must_flush c =
    nat_le UNFLUSHED_ENTRIES c.unflushed_entries || nat_le UNFLUSHED_BYTES c.unflushed_bytes

-- with a flush first, where it must be
abbrev pub flushed_first :
    {L Y : Type 0} → LogKind L → LayoutKind Y → Luck Y → Copy L Y → Put (Copy L Y)
flushed_first k y luck c = if must_flush c then flushing k y luck c else Done c
