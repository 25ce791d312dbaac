-- How a copy begins: on an empty disk, and on what a disk holds.
use Rattle.std.specs.Prelude.{◌≡◌, ◌⊎◌, ℕ, ◌+◌, nat_le, Bool, true, false, ◌||◌, [], Option, Some, None, if◌then◌else◌}
use Rattle.vb_log.specs.Logs.{LogKind}
use Rattle.durability_core.specs.declared.chain.Chain.{Chain}
use Rattle.replica_core.specs.declared.copy.Role.TheVariants as roles
use Rattle.copy_model.specs.declared.limits.TheConstants.{SPENT}
use Rattle.copy_model.specs.Copies.{Pair, Copy, Chance, Fine, ReadFails, DiskFails, NoMemory, Luck}

-- ---- new copies

-- the pair of an empty disk
abbrev pub first_pair : {L Y : Type 0} → LogKind L → Y → Pair L Y
first_pair k layout = record {
  promise = 0;
  accepted = 0;
  log = k.begin;
  incarnation = 1;
  layout = layout;
}

-- a copy that begins with a pair on its disk: a replica
abbrev pub copy_on : {L Y : Type 0} → Chain → ℕ → ℕ → Bool → Pair L Y → Copy L Y
copy_on chain place number whole d = record {
  chain = chain;
  place = place;
  number = number;
  role = roles.Replica;
  promise = d.promise;
  accepted = d.accepted;
  log = d.log;
  whole = whole;
  incarnation = d.incarnation;
  seen = 0;
  inherited = 0;
  deadlines = [];
  known = [];
  tickets = [];
  unspoken = [];
  untold = [];
  disk = d;
  torn = None;
  unflushed_entries = 0;
  unflushed_bytes = 0;
  anew = false;
}

-- a copy on an empty disk, which is whole
abbrev pub new_copy : {L Y : Type 0} → LogKind L → Chain → ℕ → ℕ → Y → Copy L Y
new_copy k chain place number layout = copy_on chain place number true (first_pair k layout)

-- A copy that begins without entries beside what its disk holds, as one does whose disk holds what
-- no log comes to.
abbrev pub begun_anew : {L Y : Type 0} → LogKind L → Copy L Y → Copy L Y
begun_anew k c = record c { log = k.begin; anew = true }

-- ---- openings

-- a pair once it was opened
abbrev pub raised : {L Y : Type 0} → Y → Pair L Y → Pair L Y
raised layout d = record d { incarnation = d.incarnation + 1; layout = layout }

-- whether a pair isn't opened any more
abbrev pub is_spent : {L Y : Type 0} → Pair L Y → Bool
is_spent d = nat_le SPENT d.promise || nat_le SPENT d.incarnation

-- the number by which a pair is spent, its promise where both are
abbrev pub spent_number : {L Y : Type 0} → Pair L Y → ℕ
spent_number d = if nat_le SPENT d.promise then d.promise else d.incarnation

-- What an opening comes to: a copy; a number that is spent, and the pair stays; or nothing, after
-- which the pair is there as it was or raised.
pub data Opening (L Y : Type 0) : Type 0 where
  Opened : (copy : Copy L Y) → Opening L Y
  Spent : (number : ℕ) → Opening L Y
  Stopped : (old new : Pair L Y) → Opening L Y

-- what an opening comes to that goes well
abbrev pub opened_well : {L Y : Type 0} → Chain → ℕ → ℕ → Y → Pair L Y → Opening L Y
opened_well chain place number layout d =
    if is_spent d then Spent (spent_number d)
    else Opened (copy_on chain place number false (raised layout d))

-- by how it fares: it begins with a sync, so that a disk may fail where the pair is spent too
abbrev pub opened_by : {L Y : Type 0} → Chance → Chain → ℕ → ℕ → Y → Pair L Y → Opening L Y
opened_by Fine chain place number layout d = opened_well chain place number layout d
opened_by ReadFails chain place number layout d = Stopped d (raised layout d)
opened_by DiskFails chain place number layout d = Stopped d (raised layout d)
opened_by NoMemory chain place number layout d = Stopped d (raised layout d)

-- what opening a disk that holds a pair comes to
abbrev pub opening : {L Y : Type 0} → Luck Y → Chain → ℕ → ℕ → Pair L Y → Opening L Y
opening luck chain place number d = opened_by luck.chance chain place number luck.layout d

-- a pair that a disk may hold, which has this one, and that one where a write was stopped
abbrev pub MayHold : {L Y : Type 0} → Pair L Y → Option (Pair L Y) → Pair L Y → Type 0
MayHold disk torn d = (disk ≡ d) ⊎ (torn ≡ Some d)

-- ---- what a copy has that was just begun

-- A copy that was opened on a pair which wasn't spent: a replica with what the pair has, at the
-- pair's next opening. It isn't whole, has no ticket, and knows its disk.
pub record IsOpenedOn {L Y : Type 0} (d : Pair L Y) (c : Copy L Y) : Type 0 where
  pub unspent : is_spent d ≡ false
  pub role : c.role ≡ roles.Replica
  pub whole : c.whole ≡ false
  pub promise : c.promise ≡ d.promise
  pub accepted : c.accepted ≡ d.accepted
  pub log : c.log ≡ d.log
  pub incarnation : c.incarnation ≡ d.incarnation + 1
  pub tickets : c.tickets ≡ []
  pub torn : c.torn ≡ None

-- A copy that was just begun on an empty disk: a replica without a promise, a term or an entry. It
-- is whole, and at its first opening.
pub record IsNew {L Y : Type 0} (k : LogKind L) (c : Copy L Y) : Type 0 where
  pub role : c.role ≡ roles.Replica
  pub whole : c.whole ≡ true
  pub promise : c.promise ≡ 0
  pub accepted : c.accepted ≡ 0
  pub log : c.log ≡ k.begin
  pub incarnation : c.incarnation ≡ 1
  pub tickets : c.tickets ≡ []
  pub torn : c.torn ≡ None
