-- What is told of an answer that may be a refusal.
use Rattle.std.specs.Prelude.{Result, Ok, Err}
use Rattle.doc_model.specs.declared.status.Status.{Status}
use Rattle.doc_model.specs.declared.status.Refused.{Refused}
use Rattle.doc_model.specs.declared.status.Refused.TheVariants as refusals

-- this of what came, or that of the status; of want of memory nothing
abbrev pub Told : {A : Type 0} → (A → Type 0) → (Status → Type 0) → Result A Refused → Type 0
Told came refused (Ok x) = came x
Told came refused (Err (refusals.Status s)) = refused s
Told came refused (Err refusals.NoMemory) = Unit {0}
