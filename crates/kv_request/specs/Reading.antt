-- What reading a request gives.
use Rattle.std.specs.Prelude.{◌≡◌, Result, Ok, Err}
use Rattle.kv_frame.specs.declared.frame.Frame.{Frame}
use Rattle.doc_model.specs.declared.status.Refused.{Refused}
use Rattle.doc_model.specs.declared.status.Refused.TheVariants as refusals
use Rattle.kv_request.specs.declared.request.Features.{Features}
use Rattle.kv_request.specs.declared.request.Request.{Request}
use Rattle.kv_request.specs.Tables.{request}

-- the request that the frame is, or the status of the first check that it fails, unless memory is refused
abbrev pub Reads : Frame → Features → Result Request Refused → Type 0
Reads frame features (Ok made) = request features frame ≡ Ok made
Reads frame features (Err (refusals.Status code)) = request features frame ≡ Err code
Reads frame features (Err refusals.NoMemory) = Unit {0}
