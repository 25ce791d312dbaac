-- What a session does with a frame: it answers by itself, or passes a request on.
use Rattle.std.specs.Prelude.{ℕ, nat_eq, Bool, true, false, ◌||◌, List, [], ◌∷◌, filter, None, Result, Ok, Err, if◌then◌else◌}
use Rattle.std.specs.List.{flat_map, list_any}
use Rattle.std.specs.Int.{w16, to_be_bytes}
use Rattle.kv_frame.specs.declared.frame.Frame.{Frame}
use Rattle.doc_model.specs.declared.status.Status.{Status}
use Rattle.doc_model.specs.declared.status.TheConstants.Status as status
use Rattle.kv_request.specs.declared.request.Features.{Features}
use Rattle.kv_request.specs.declared.request.Request.{Request}
use Rattle.kv_request.specs.declared.request.Body.{Body}
use Rattle.kv_request.specs.declared.request.Body.TheVariants as bodies
use Rattle.kv_request.specs.declared.reply.Reply.{Reply}
use Rattle.kv_request.specs.Tables.{request, refused}
use Rattle.kv_session.specs.declared.answers.TheConstants.{FEATURE_TOKEN, FEATURE_XATTR, FEATURE_XERROR, FEATURE_JSON, FEATURE_FLEX, FEATURE_DURABILITY, FEATURE_COLLECTIONS, VERSION_TEXT}

-- whether a feature is granted where it is asked for
abbrev pub is_granted : ℕ → Bool
is_granted code =
    nat_eq code FEATURE_TOKEN || nat_eq code FEATURE_XATTR || nat_eq code FEATURE_XERROR || nat_eq code FEATURE_JSON || nat_eq code FEATURE_FLEX || nat_eq code FEATURE_DURABILITY || nat_eq code FEATURE_COLLECTIONS

-- each number once, where it stands first
abbrev pub each_once : List ℕ → List ℕ → List ℕ
each_once before [] = []
each_once before (code ∷ others) = if list_any (nat_eq code) before then each_once before others else code ∷ each_once (code ∷ before) others

-- the features that are granted of those asked for
abbrev pub granted : List ℕ → List ℕ
granted wanted = each_once [] (filter is_granted wanted)

-- what these features change
abbrev pub features_of : List ℕ → Features
features_of codes = record { token = list_any (nat_eq FEATURE_TOKEN) codes; json = list_any (nat_eq FEATURE_JSON) codes; collections = list_any (nat_eq FEATURE_COLLECTIONS) codes }

-- a reply with this value
abbrev pub telling : Request → List ℕ → Reply
telling made value = record { opcode = made.opcode; opaque = made.opaque; status = status.SUCCESS; cas = 0; json = false; flags = None; token = None; extras = []; key = None; value = value }

-- What a session makes of a frame: a request to pass on, or a reply of its own, with the features from then on and
-- whether the connection ends.
pub data Made : Type 0 where
  Passed : (made : Request) → Made
  Told : (reply : Reply) (features : Features) (quit : Bool) → Made

-- what a session makes of a request: what asks nothing of a vbucket it answers, and all else it passes on
abbrev pub made_of : Features → Request → Body → Made
made_of features made (bodies.Hello wanted) = Told (telling made (flat_map (to_be_bytes w16) (granted wanted))) (features_of (granted wanted)) false
made_of features made bodies.Noop = Told (telling made []) features false
made_of features made bodies.Version = Told (telling made VERSION_TEXT.now) features false
made_of features made bodies.Quit = Told (telling made []) features true
made_of features made body = Passed made

-- what a session makes of what a frame was read as
abbrev pub made_from : Features → Frame → Result Request Status → Made
made_from features frame (Ok made) = made_of features made made.body
made_from features frame (Err refusing) = Told (refused frame.opcode frame.opaque refusing) features false

-- what a session makes of a frame, under the features granted so far
abbrev pub made_by : Features → Frame → Made
made_by features frame = made_from features frame (request features frame)
