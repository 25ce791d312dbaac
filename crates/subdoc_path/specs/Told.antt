-- What is told of the bytes of a path.
use Rattle.std.specs.Prelude.{ℕ, List, Ok, Err}
use Rattle.doc_model.specs.declared.status.TheConstants.Status as status
use Rattle.json_model.specs.declared.asked.Part.{Part}
use Rattle.json_model.specs.Paths.{ReadsPath}

-- the bytes are a path of these parts
abbrev pub IsRead : List ℕ → List Part → Type 0
IsRead bytes parts = ReadsPath bytes (Ok parts)

-- the bytes are no path
abbrev pub IsNoPath : List ℕ → Type 0
IsNoPath bytes = ReadsPath bytes (Err status.PATH_EINVAL)

-- there are too many bytes, or they are a path of too many parts
abbrev pub IsTooBig : List ℕ → Type 0
IsTooBig bytes = ReadsPath bytes (Err status.PATH_E2BIG)
