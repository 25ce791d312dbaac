-- The text that bytes are, or why they are none.
use Rattle.std.specs.Prelude.{ℕ, List, Bool, is_ok, Result, Ok, Err}
use Rattle.doc_model.specs.declared.status.Status.{Status}
use Rattle.doc_model.specs.declared.status.TheConstants.Status as status
use Rattle.json_model.specs.declared.TheConstants.{MOST_DEEP}
use Rattle.json_model.specs.Spelled.{Document}
use Rattle.json_spell.specs.declared.tokens.Stop.{Stop}
use Rattle.json_spell.specs.declared.tokens.Stop.TheVariants as stops
use Rattle.json_spell.specs.Reading.{document_at}

-- what is told of a reading
abbrev pub told : Result Document Stop → Result Document Status
told (Ok d) = Ok d
told (Err (stops.Not left)) = Err status.DOC_NOT_JSON
told (Err (stops.Deep left)) = Err status.DOC_E2DEEP
told (Err stops.NoMemory) = Err status.DOC_NOT_JSON

-- the JSON text that bytes are, at most 32 deep, or why they are none
unfoldable pub read_text : List ℕ → Result Document Status
read_text bytes = told (document_at MOST_DEEP bytes)

-- whether bytes are a JSON text at most 32 deep
abbrev pub is_text : List ℕ → Bool
is_text bytes = is_ok (read_text bytes)
