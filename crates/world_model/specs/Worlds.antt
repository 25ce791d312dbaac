-- The world: the copies of a vbucket, all that was ever sent, and all that was answered to fences.
use Rattle.std.specs.Prelude.{◌≡◌, ◌⊎◌, ℕ, ◌+◌, false, get_or, set, map as list_map, List, [], ◌∷◌, ◌++◌, Option, Some, None, Result, Ok, Err, IsTrue}
use Rattle.std.specs.List.{AllByRecursion}
use Rattle.kv_request.specs.Tables.{IsRequest, is_for_session}
use Rattle.vb_log.specs.Logs.{LogKind}
use Rattle.durability_core.specs.declared.chain.Chain.{Chain}
use Rattle.replica_core.specs.declared.fences.FenceAnswer.{FenceAnswer}
use Rattle.replica_core.specs.Terms.{is_term}
use Rattle.copy_model.specs.Copies.{Sent, Pair, Copy, LayoutKind, Luck}
use Rattle.copy_model.specs.Events.{Event, Requests, Polls, Forgets, Hears, Speaks, TellsChange, Ticks, Flushes, Cleans, Fences, Promotes, SetsState, Told, Answered, PolledTo, Spoke, ToldChange, FlushedTo, CleanedTo, FencedWith, Ended, Quietly}
use Rattle.copy_model.specs.Laying.{May, IsOpened}
use Rattle.copy_model.specs.Openings.{MayHold, Opening, Opened, Spent, Stopped, opening, new_copy}

-- A place of the chain: its copy is up; or it is down, and its disk has the one pair, or the other
-- where a write was stopped; or the place has no name.
pub data Seat (L Y : Type 0) : Type 0 where
  Up : (copy : Copy L Y) → Seat L Y
  Down : (disk : Pair L Y) (torn : Option (Pair L Y)) → Seat L Y
  Nobody : Seat L Y

-- a message that was sent, with how often its sender's disk had been opened
pub record Post (L : Type 0) : Type 0 where
  pub sent : Sent L
  pub incarnation : ℕ

pub record World (L Y : Type 0) : Type 0 where
  pub chain : Chain
  -- the vbucket's number
  pub number : ℕ
  pub seats : List (Seat L Y)
  -- in the order in which they were sent and answered
  pub posts : List (Post L)
  pub answers : List FenceAnswer

-- who is at a place
abbrev pub seat_at : {L Y : Type 0} → World L Y → ℕ → Seat L Y
seat_at w x = get_or w.seats x Nobody

-- an element is among others
abbrev pub IsAmong : {A : Type 0} → A → List A → Type 0
IsAmong a [] = ⊥
IsAmong a (b ∷ bs) = (a ≡ b) ⊎ IsAmong a bs

-- ---- an event on one copy

-- what a copy is whose messages and changes were taken
abbrev pub emptied : {L Y : Type 0} → Copy L Y → Copy L Y
emptied c = record c { unspoken = []; untold = [] }

-- what it said
abbrev pub posted : {L Y : Type 0} → Copy L Y → List (Post L)
posted c = list_map (λ sent. record { sent = sent; incarnation = c.incarnation }) c.unspoken

-- the answer that an event gave, where it gave one
abbrev pub answer_in : {A E : Type 0} → Result A E → List A
answer_in (Ok answer) = answer ∷ []
answer_in (Err fault) = []

-- the answers to fences among what was told
abbrev pub answers_in : {L : Type 0} → Told L → List FenceAnswer
answers_in (Answered outcome) = []
answers_in (PolledTo polled) = []
answers_in (Spoke sent) = []
answers_in (ToldChange seen) = []
answers_in (FlushedTo result) = []
answers_in (CleanedTo result) = []
answers_in (FencedWith result) = answer_in result
answers_in (Ended result) = []
answers_in Quietly = []

-- a world with this at a place
abbrev pub with_seat : {L Y : Type 0} → ℕ → Seat L Y → World L Y → World L Y
with_seat x s w = record w { seats = set w.seats x s }

-- a world in which the copy at a place has become this one, and its caller was told this
abbrev pub with_copy : {L Y : Type 0} → ℕ → Copy L Y → Told L → World L Y → World L Y
with_copy x c told w = record (with_seat x (Up (emptied c)) w) {
  posts = w.posts ++ posted c;
  answers = w.answers ++ answers_in told;
}

-- What may happen to the copy at a place: it hears what was sent to it, be it late or once more, is
-- promoted by answers that were given, and is asked what can be asked.
abbrev pub MayHappen : {L Y : Type 0} → World L Y → ℕ → Event L → Type 0
MayHappen w x (Requests request now) = IsRequest request × (is_for_session request.body ≡ false)
MayHappen w x (Polls ticket) = Unit {0}
MayHappen w x (Forgets ticket) = Unit {0}
MayHappen w x (Hears sent) =
    (incarnation : ℕ) × (sent.to ≡ x)
    × IsAmong (record { sent = sent; incarnation = incarnation }) w.posts
MayHappen w x Speaks = Unit {0}
MayHappen w x TellsChange = Unit {0}
MayHappen w x (Ticks now) = Unit {0}
MayHappen w x Flushes = Unit {0}
MayHappen w x (Cleans most) = Unit {0}
MayHappen w x (Fences term) = IsTrue (is_term term)
MayHappen w x (Promotes term answers weak) =
    AllByRecursion (λ (a : FenceAnswer). IsAmong a w.answers) answers
MayHappen w x (SetsState state) = (state ≡ 3) ⊎ (state ≡ 4)

-- ---- crashes and openings

-- who is at a place once the opening of a pair came to this
abbrev pub seat_after : {L Y : Type 0} → Pair L Y → Opening L Y → Seat L Y
seat_after d (Opened copy) = Up copy
seat_after d (Spent number) = Down d None
seat_after d (Stopped old new) = Down old (Some new)

-- One step of the world: something happens to a copy; a copy crashes, and its disk has one of its
-- pairs; or one that is down is opened on a pair that its disk may hold.
pub data Step {L Y : Type 0} (k : LogKind L) (y : LayoutKind Y) (w : World L Y)
    : World L Y → Type 0 where
  Happens : (x : ℕ) (c new : Copy L Y) (told : Told L) (e : Event L)
      → seat_at w x ≡ Up c → MayHappen w x e → May k y e c new told
      → Step k y w (with_copy x new told w)
  Crashes : (x : ℕ) (c : Copy L Y) → seat_at w x ≡ Up c
      → Step k y w (with_seat x (Down c.disk c.torn) w)
  Opens : (x : ℕ) (disk d : Pair L Y) (torn : Option (Pair L Y)) (luck : Luck Y)
      → seat_at w x ≡ Down disk torn → MayHold disk torn d → IsOpened y luck d
      → Step k y w (with_seat x (seat_after d (opening luck w.chain x w.number d)) w)

-- steps, one after the other
pub data Run {L Y : Type 0} (k : LogKind L) (y : LayoutKind Y) (s : World L Y)
    : World L Y → Type 0 where
  Start : Run k y s s
  Then : {v w : World L Y} → Run k y s v → Step k y v w → Run k y s w

-- ---- the beginning

-- new copies at the places that have a name, where the first of these names stands at a place
abbrev pub first_seats :
    {L Y : Type 0} → LogKind L → Y → Chain → ℕ → ℕ → List (Option (List ℕ)) → List (Seat L Y)
first_seats k layout chain number at [] = []
first_seats k layout chain number at (None ∷ names) =
    Nobody ∷ first_seats k layout chain number (at + 1) names
first_seats k layout chain number at (Some name ∷ names) =
    Up (new_copy k chain at number layout) ∷ first_seats k layout chain number (at + 1) names

-- the world of a chain on empty disks
abbrev pub first_world : {L Y : Type 0} → LogKind L → Y → Chain → ℕ → World L Y
first_world k layout chain number = record {
  chain = chain;
  number = number;
  seats = first_seats k layout chain number 0 chain.names;
  posts = [];
  answers = [];
}

-- ---- what a later world has

-- a list goes on from another
abbrev pub GoesOnFrom : {A : Type 0} → List A → List A → Type 0
GoesOnFrom {A = A} old new = (more : List A) × (new ≡ old ++ more)

-- A later world has the same chain and number, and all that was sent and answered before it.
pub record Remembers {L Y : Type 0} (old new : World L Y) : Type 0 where
  pub chain : new.chain ≡ old.chain
  pub number : new.number ≡ old.number
  pub posts : GoesOnFrom old.posts new.posts
  pub answers : GoesOnFrom old.answers new.answers

-- a copy of the first world: a new one at a place with a name
pub record IsFirstAt {L Y : Type 0} (k : LogKind L) (chain : Chain) (number x : ℕ) (c : Copy L Y)
    : Type 0 where
  pub chain_own : c.chain ≡ chain
  pub place_own : c.place ≡ x
  pub number_own : c.number ≡ number
  pub log : c.log ≡ k.begin
  pub opened : c.incarnation ≡ 1
