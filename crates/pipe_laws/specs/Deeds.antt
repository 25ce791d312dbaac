-- What a run of `pipe` did to its vbucket, as deeds of a copy.
use Rattle.std.specs.Prelude.{ℕ, List, [], ◌∷◌, ◌++◌, Option, Some, None}
use Rattle.kv_frame.specs.declared.frame.Frame.{Frame}
use Rattle.kv_request.specs.declared.request.Durability.{Durability}
use Rattle.kv_request.specs.declared.request.Request.{Request}
use Rattle.kv_request.specs.declared.reply.Reply.{Reply}
use Rattle.kv_session.specs.Answers.{Made, Passed, Told, made_by}
use Rattle.kv_session.specs.Cutting.{Standing, at_start, behind}
use Rattle.kv_tool.specs.Outcomes.{Run}
use Rattle.copy_laws.specs.Histories.{Deed, Asked}

-- a request at a moment that was answered so is a deed, unless it has a level: then it is refused
abbrev pub deed_at : Option Durability → ℕ → Request → Reply → List Deed
deed_at None now request reply = Asked request now reply ∷ []
deed_at (Some level) now request reply = []

-- a frame of which the session makes this is a deed where it is passed on
abbrev pub deed_by : ℕ → Made → Reply → List Deed
deed_by now (Told own features quit) reply = []
deed_by now (Passed request) reply = deed_at request.durability now request reply

-- the deeds that frames are with their replies, where the connection stands here
abbrev pub deeds_from : ℕ → Standing → List Frame → List Reply → List Deed
deeds_from now standing (f ∷ fs) (reply ∷ replies) =
    deed_by now (made_by standing.features f) reply
    ++ deeds_from now (behind standing (made_by standing.features f)) fs replies
deeds_from now standing fs replies = []

-- the deeds of a run
abbrev pub deeds_of : Run → List Deed
deeds_of run = deeds_from run.now at_start run.frames run.replies
