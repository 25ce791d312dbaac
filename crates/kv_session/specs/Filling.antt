-- What filling takes: the bytes of at most one frame.
use Rattle.std.specs.Prelude.{◌≡◌, ℕ, ◌+◌, ◌<◌, ◌≤◌, min, nat_lt, if◌then◌else◌, List, [], ◌++◌, length, take, ◌⊎◌, vec_capacity}
use Rattle.std.specs.Global.{Vec}
use Rattle.kv_frame.specs.declared.frame.Frame.{Frame}
use Rattle.kv_frame.specs.declared.frame.Side.TheVariants.{Requests}
use Rattle.kv_frame.specs.declared.judging.Fault.{Fault}
use Rattle.kv_frame.specs.declared.frame.TheConstants.{HEADER_LENGTH, BODY_LIMIT}
use Rattle.kv_session.specs.declared.filling.TheConstants.{KEPT_LIMIT}
use Rattle.kv_frame.specs.Judging.{stated_body, BeginsWith, IsBad}

-- how many bytes may be held: a header's, and once a header is there the body that it announces, up to the greatest
abbrev pub room_for : List ℕ → ℕ
room_for held = if nat_lt (length held) HEADER_LENGTH then HEADER_LENGTH else HEADER_LENGTH + min (stated_body held) BODY_LIMIT

-- What is held has room, and where nothing is held little memory is kept.
pub record IsHeld (held : Vec ℕ) : Type 0 where
  pub bounded : length held.items ≤ room_for held.items
  pub kept : held.items ≡ [] → vec_capacity held ≤ KEPT_LIMIT

-- a whole frame is held, or no frame can begin so
abbrev pub Filled : List ℕ → Type 0
Filled bytes = ((f : Frame) × (used : ℕ) × BeginsWith Requests bytes f used) ⊎ ((place : ℕ) × (fault : Fault) × IsBad Requests bytes place fault)

-- n bytes of a piece are taken: all of them, or as many as fill, and none where it was filled before
pub record Fills (old piece new : List ℕ) (n : ℕ) : Type 0 where
  pub within : n ≤ length piece
  pub taken : new ≡ old ++ take n piece
  pub enough : (n ≡ length piece) ⊎ Filled new
  pub no_more : (k : ℕ) → k < n → Filled (old ++ take k piece) → ⊥
