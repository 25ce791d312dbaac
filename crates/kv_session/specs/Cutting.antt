-- A connection as a whole: the frames that its bytes are, and what is given out for them.
use Rattle.std.specs.Prelude.{◌≡◌, ◌≢◌, ℕ, Bool, true, false, List, [], ◌∷◌, ◌++◌, take, ◌⊎◌}
use Rattle.std.specs.List.{flat_map, AllByRecursion}
use Rattle.kv_frame.specs.declared.frame.Frame.{Frame}
use Rattle.kv_frame.specs.declared.frame.Side.TheVariants.{Requests}
use Rattle.kv_frame.specs.Grammar.{Fits, IsOfSide, spelling}
use Rattle.kv_request.specs.declared.request.Features.{Features}
use Rattle.kv_session.specs.declared.session.Next.{Next}
use Rattle.kv_session.specs.declared.session.Next.TheVariants as nexts
use Rattle.kv_session.specs.Answers.{Made, Passed, Told, made_by}
use Rattle.kv_session.specs.Session.{Line, new_line, Feeds, Gives}

-- where a connection stands: what was granted so far, and whether a Quit came
pub record Standing : Type 0 where
  pub features : Features
  pub quit : Bool

-- nothing was granted, and no Quit came
abbrev pub at_start : Standing
at_start = record { features = record { token = false; json = false; collections = false }; quit = false }

-- what is given out for a frame
abbrev pub out_of : Made → Next
out_of (Passed made) = nexts.Request made
out_of (Told reply features quit) = nexts.Refused reply

-- where the connection stands behind a frame
abbrev pub behind : Standing → Made → Standing
behind old (Passed made) = old
behind old (Told reply features quit) = record { features = features; quit = quit }

-- what is given out for frames, one after the other
abbrev pub outs : Standing → List Frame → List Next
outs old [] = []
outs old (f ∷ fs) = out_of (made_by old.features f) ∷ outs (behind old (made_by old.features f)) fs

-- where the connection stands behind frames
abbrev pub behind_all : Standing → List Frame → Standing
behind_all old [] = old
behind_all old (f ∷ fs) = behind_all (behind old (made_by old.features f)) fs

-- no frame stands behind a Quit
abbrev pub NoneBehindQuit : Standing → List Frame → Type 0
NoneBehindQuit old [] = Unit {0}
NoneBehindQuit old (f ∷ fs) = (old.quit ≡ false) × NoneBehindQuit (behind old (made_by old.features f)) fs

-- a frame that a client may send
pub record IsSent (f : Frame) : Type 0 where
  pub of_side : IsOfSide Requests f.magic
  pub fits : Fits f

-- The bytes of a connection are these frames and then this rest.
pub record IsRead (bytes : List ℕ) (frames : List Frame) (rest : List ℕ) : Type 0 where
  pub spelled : bytes ≡ flat_map spelling frames ++ rest
  pub sent : AllByRecursion IsSent frames
  pub open_before : NoneBehindQuit at_start frames

-- no frame of a client begins the bytes
abbrev pub NoFrameBegins : List ℕ → Type 0
NoFrameBegins bytes = (f : Frame) (more : List ℕ) → IsSent f → bytes ≢ spelling f ++ more

-- nothing more is to be given out: a Quit came, or no frame begins the rest
abbrev pub IsDrained : List Frame → List ℕ → Type 0
IsDrained frames rest = ((behind_all at_start frames).quit ≡ true) ⊎ NoFrameBegins rest

-- One call on a session: a piece was offered and this many bytes of it were taken, or this was given out next.
pub data Event : Type 0 where
  Fed : (piece : List ℕ) (n : ℕ) → Event
  Gave : (next : Next) → Event

-- these calls, one after the other, bring a line from old to new
abbrev pub Runs : Line → List Event → Line → Type 0
Runs old [] new = new ≡ old
Runs old (Fed piece n ∷ events) new = (mid : Line) × Feeds old piece mid n × Runs mid events new
Runs old (Gave next ∷ events) new = (mid : Line) × Gives old mid next × Runs mid events new

-- the bytes that these calls took
abbrev pub bytes_taken : List Event → List ℕ
bytes_taken [] = []
bytes_taken (Fed piece n ∷ events) = take n piece ++ bytes_taken events
bytes_taken (Gave next ∷ events) = bytes_taken events

-- what stands for a frame among what is given out
abbrev pub with_next : Next → List Next → List Next
with_next (nexts.Request made) others = nexts.Request made ∷ others
with_next (nexts.Refused reply) others = nexts.Refused reply ∷ others
with_next (nexts.More n) others = others
with_next (nexts.Bad place fault) others = others
with_next nexts.Quit others = others
with_next nexts.NoMemory others = others

-- what these calls gave out for frames
abbrev pub given : List Event → List Next
given [] = []
given (Fed piece n ∷ events) = given events
given (Gave next ∷ events) = with_next next (given events)

-- What calls on a new session came to is what the bytes taken say as a whole: they are frames and the bytes still held,
-- each frame was given out once and in order, and the connection stands behind them.
pub record IsWhole (events : List Event) (line : Line) (frames : List Frame) : Type 0 where
  pub read : IsRead (bytes_taken events) frames line.held
  pub all_given : given events ≡ outs at_start frames
  pub features : line.features ≡ (behind_all at_start frames).features
  pub quit : line.quit ≡ (behind_all at_start frames).quit

-- It was told that nothing more is to be given out: bytes are missing, no frame begins so, or a Quit came.
abbrev pub IsLast : Next → Type 0
IsLast (nexts.Request made) = ⊥
IsLast (nexts.Refused reply) = ⊥
IsLast (nexts.More n) = Unit {0}
IsLast (nexts.Bad place fault) = Unit {0}
IsLast nexts.Quit = Unit {0}
IsLast nexts.NoMemory = ⊥

-- These calls on a new session brought it to this line, and then it was told that nothing more is to be given out.
pub record AsksAll (events : List Event) (line : Line) : Type 0 where
  pub runs : Runs new_line events line
  pub last : (next : Next) × (new : Line) × Gives line new next × IsLast next
