-- A frame where it lies: the frame that a view is of.
use Rattle.std.specs.Prelude.{◌≡◌, ℕ, List, ◌++◌, length, take}
use Rattle.std.specs.List.{AllByRecursion}
use Rattle.kv_frame.specs.declared.frame.Side.{Side}
use Rattle.kv_frame.specs.declared.frame.Frame.{Frame}
use Rattle.kv_frame.specs.declared.frame.FrameView.{FrameView}
use Rattle.kv_frame.specs.declared.header.Header.{Header}
use Rattle.kv_frame.specs.declared.decoding.Step.{Step}
use Rattle.kv_frame.specs.declared.decoding.Step.TheVariants as steps
use Rattle.kv_frame.specs.declared.viewing.ViewStep.{ViewStep}
use Rattle.kv_frame.specs.declared.viewing.ViewStep.TheVariants as views
use Rattle.kv_frame.specs.declared.viewing.BodyRead.{BodyRead}
use Rattle.kv_frame.specs.declared.viewing.BodyRead.TheVariants as bodies
use Rattle.kv_frame.specs.Grammar.{ExtraFits, header_of, body, spelling, IsFrame}
use Rattle.kv_frame.specs.Judging.{GoesWrongAt, Decodes}

-- the frame that a view is of
abbrev pub frame_seen : FrameView → Frame
frame_seen v =
    record {
      magic = v.magic;
      opcode = v.opcode;
      datatype = v.datatype;
      word = v.word;
      opaque = v.opaque;
      cas = v.cas;
      framing = v.framing;
      extras = v.extras.now;
      key = v.key.now;
      value = v.value.now;
    }

-- what is told, with the frame in place of its view
abbrev pub step_seen : ViewStep → Step
step_seen (views.Whole v used) = steps.Whole (frame_seen v) used
step_seen (views.More n) = steps.More n
step_seen (views.Bad place fault) = steps.Bad place fault

-- what is to be told of bytes, by a view of the frame that they begin with
abbrev pub Views : Side → List ℕ → ViewStep → Type 0
Views side bytes step = Decodes side bytes (step_seen step)

-- a frame of the side that the bytes begin with is told, whatever follows it
abbrev pub Finds : Side → List ℕ → ViewStep → Type 0
Finds side bytes step =
    (f : Frame) (rest : List ℕ) → IsFrame side f (spelling f) → bytes ≡ spelling f ++ rest
    → step_seen step ≡ steps.Whole f (length (spelling f))

-- What is read of the bytes behind a header: the frame whose header and body they are, or where the framing section goes wrong.
abbrev pub ReadsBody : Header → List ℕ → BodyRead → Type 0
ReadsBody h bytes (bodies.Whole v) = AllByRecursion ExtraFits v.framing × (header_of (frame_seen v) ≡ h) × (bytes ≡ body (frame_seen v))
ReadsBody h bytes (bodies.Wrong place) = GoesWrongAt (take h.framing bytes) place
