-- Whether bytes begin with a frame, as far as a header of 24 bytes and then a whole body tell it.
use Rattle.std.specs.Prelude.{◌≡◌, ◌≢◌, ℕ, ◌+◌, ◌<◌, ◌≤◌, List, [], ◌++◌, length, take, drop, slice_index, ◌⊎◌}
use Rattle.std.specs.List.{AllByRecursion}
use Rattle.std.specs.Int.{w16, w32, from_be_bytes}
use Rattle.kv_frame.specs.declared.frame.TheConstants.{HEADER_LENGTH, BODY_LIMIT}
use Rattle.kv_frame.specs.declared.frame.Side.{Side}
use Rattle.kv_frame.specs.declared.frame.Magic.{Magic}
use Rattle.kv_frame.specs.declared.frame.Magic.TheVariants as magics
use Rattle.kv_frame.specs.declared.frame.FrameExtra.{FrameExtra}
use Rattle.kv_frame.specs.declared.frame.Frame.{Frame}
use Rattle.kv_frame.specs.declared.judging.Fault.{Fault}
use Rattle.kv_frame.specs.declared.judging.Fault.TheVariants as faults
use Rattle.kv_frame.specs.declared.judging.Judged.{Judged}
use Rattle.kv_frame.specs.declared.judging.Judged.TheVariants as judged
use Rattle.kv_frame.specs.declared.decoding.Step.{Step}
use Rattle.kv_frame.specs.declared.decoding.Step.TheVariants as steps
use Rattle.kv_frame.specs.Grammar.{extra, section, ExtraFits, magic_byte, IsOfSide, IsFrame}

-- the magic of this side that the first byte is
pub record HasMagic (side : Side) (bytes : List ℕ) (magic : Magic) : Type 0 where
  pub of_side : IsOfSide side magic
  pub first : slice_index bytes 0 ≡ magic_byte magic

-- the length of the framing section that a header states
abbrev pub stated_framing : Magic → List ℕ → ℕ
stated_framing magics.Request bytes = 0
stated_framing magics.FlexRequest bytes = slice_index bytes 2
stated_framing magics.Reply bytes = 0
stated_framing magics.FlexReply bytes = slice_index bytes 2

-- the length of the key that a header states
abbrev pub stated_key : Magic → List ℕ → ℕ
stated_key magics.Request bytes = from_be_bytes w16 (take 2 (drop 2 bytes))
stated_key magics.FlexRequest bytes = slice_index bytes 3
stated_key magics.Reply bytes = from_be_bytes w16 (take 2 (drop 2 bytes))
stated_key magics.FlexReply bytes = slice_index bytes 3

-- the lengths of framing section, extras and key that a header states, together
abbrev pub stated_sum : Magic → List ℕ → ℕ
stated_sum magic bytes = stated_framing magic bytes + (slice_index bytes 4 + stated_key magic bytes)

-- the length of the body that a header states
abbrev pub stated_body : List ℕ → ℕ
stated_body bytes = from_be_bytes w32 (take 4 (drop 8 bytes))

-- a whole header without a fault
pub record IsGoodHeader (side : Side) (bytes : List ℕ) (magic : Magic) : Type 0 where
  pub whole : HEADER_LENGTH ≤ length bytes
  pub stated : HasMagic side bytes magic
  pub sum : stated_sum magic bytes ≤ stated_body bytes
  pub small : stated_body bytes ≤ BODY_LIMIT

-- The framing section goes wrong at this offset in it: framing extras fill it up to there, and no framing extra is a
-- front of what is left.
abbrev pub GoesWrongAt : List ℕ → ℕ → Type 0
GoesWrongAt bytes place = (es : List FrameExtra) × (rest : List ℕ) × AllByRecursion ExtraFits es × (bytes ≡ section es ++ rest)
    × (place ≡ length (section es)) × (rest ≢ []) × ((e : FrameExtra) (more : List ℕ) → ExtraFits e → rest ≢ extra e ++ more)

-- What is wrong with the bytes, and where: the first byte, the body length, or a framing extra's first byte.
abbrev pub IsBad : Side → List ℕ → ℕ → Fault → Type 0
IsBad side bytes place faults.Magic = (HEADER_LENGTH ≤ length bytes) × (place ≡ 0) × ((magic : Magic) → HasMagic side bytes magic → ⊥)
IsBad side bytes place faults.Lengths = (HEADER_LENGTH ≤ length bytes) × (place ≡ 8) × (magic : Magic) × HasMagic side bytes magic × (stated_body bytes < stated_sum magic bytes)
IsBad side bytes place faults.TooBig = (HEADER_LENGTH ≤ length bytes) × (place ≡ 8) × (magic : Magic) × HasMagic side bytes magic × (BODY_LIMIT < stated_body bytes)
IsBad side bytes place faults.Extra = (magic : Magic) × IsGoodHeader side bytes magic × (HEADER_LENGTH + stated_body bytes ≤ length bytes)
    × (offset : ℕ) × (place ≡ HEADER_LENGTH + offset) × GoesWrongAt (take (stated_framing magic bytes) (drop HEADER_LENGTH bytes)) offset

-- This many bytes are missing: of the header, or else of the body that it states.
abbrev pub Lacks : Side → List ℕ → ℕ → Type 0
Lacks side bytes n = ((0 < n) × (length bytes + n ≡ HEADER_LENGTH)) ⊎ ((magic : Magic) × IsGoodHeader side bytes magic × (0 < n) × (length bytes + n ≡ HEADER_LENGTH + stated_body bytes))

-- the first bytes, this many, are this frame
abbrev pub BeginsWith : Side → List ℕ → Frame → ℕ → Type 0
BeginsWith side bytes f used = (used ≤ length bytes) × IsFrame side f (take used bytes)

-- what is to be told of bytes
abbrev pub Judges : Side → List ℕ → Judged → Type 0
Judges side bytes (judged.Whole used) = (f : Frame) × BeginsWith side bytes f used
Judges side bytes (judged.More n) = Lacks side bytes n
Judges side bytes (judged.Bad place fault) = IsBad side bytes place fault

-- the same, with the frame
abbrev pub Decodes : Side → List ℕ → Step → Type 0
Decodes side bytes (steps.Whole f used) = BeginsWith side bytes f used
Decodes side bytes (steps.More n) = Lacks side bytes n
Decodes side bytes (steps.Bad place fault) = IsBad side bytes place fault
