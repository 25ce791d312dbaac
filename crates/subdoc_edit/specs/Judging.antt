-- What is told of a text that was judged.
use Rattle.std.specs.Prelude.{List, ℕ, Option, Some, None, Err}
use Rattle.doc_model.specs.declared.status.Status.{Status}
use Rattle.json_model.specs.Order.{ReadsText}
use Rattle.subdoc_edit.specs.Splicing.{IsDocument}

-- the bytes are a JSON text at most 32 deep, or this is the status by which they are refused
abbrev pub IsJudged : List ℕ → Option Status → Type 0
IsJudged bytes None = IsDocument bytes
IsJudged bytes (Some s) = ReadsText bytes (Err s)
