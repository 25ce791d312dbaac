-- What the code has beside the words of the document step.
use Rattle.std.specs.Prelude.{Option, Some, None}
use Rattle.doc_model.specs.declared.document.Doc.{Doc}
use Rattle.doc_model.specs.declared.status.Status.{Status}
use Rattle.doc_model.specs.declared.status.TheConstants.Status as status
use Rattle.kv_request.specs.declared.request.Mode.{Mode}
use Rattle.kv_request.specs.declared.request.Mode.TheVariants as modes
use Rattle.doc_step.specs.Expiry as step
use Rattle.doc_ops.specs.declared.expiry.Setting.{Setting}

-- what surrounds an operation, as the definitions have it
abbrev pub setting_of : Setting → step.Setting
setting_of s = record { max_ttl = s.max_ttl; now = s.now; draw = s.draw }

-- why a store of this mode is refused where this document is there
abbrev pub mode_refusal : Mode → Option Doc → Option Status
mode_refusal modes.Set doc = None
mode_refusal modes.Add None = None
mode_refusal modes.Add (Some doc) = Some status.KEY_EEXISTS
mode_refusal modes.Replace None = Some status.KEY_ENOENT
mode_refusal modes.Replace (Some doc) = None
