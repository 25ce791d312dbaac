-- What is stored, and what is replied: the pieces that the operations share.
use Rattle.std.specs.Prelude.{ℕ, Bool, false, List, [], Option, Some, None, Result, Ok, if◌then◌else◌}
use Rattle.std.specs.Option.{option_map_or}
use Rattle.doc_model.specs.declared.key.DocKey.{DocKey}
use Rattle.doc_model.specs.declared.document.Doc.{Doc}
use Rattle.doc_model.specs.declared.status.Status.{Status}
use Rattle.doc_model.specs.declared.status.TheConstants.Status as status
use Rattle.subdoc_step.specs.Texts.{is_text}
use Rattle.kv_request.specs.declared.request.Request.{Request}
use Rattle.kv_request.specs.declared.reply.Reply.{Reply}
use Rattle.kv_request.specs.Opcodes.{command_of, tells_key}
use Rattle.doc_step.specs.declared.Effect.TheVariants as effects
use Rattle.doc_step.specs.declared.Change.{Change}
use Rattle.doc_step.specs.Expiry.{Setting}

-- whether a value is JSON text at most 32 deep
abbrev pub json_of : List ℕ → Bool
json_of value = is_text value

-- a document as a change stores it: with the CAS drawn, without a place in the history yet, and told whether it is JSON
abbrev pub changed : Setting → Doc → Doc
changed s doc = record doc { cas = s.draw; seqno = 0; json = json_of doc.value }

-- a document that is there with another value
abbrev pub with_value : Setting → Doc → List ℕ → Doc
with_value s doc value = changed s (record doc { value = value })

-- the key that a reply tells, where its opcode asks for that
abbrev pub told_key : ℕ → DocKey → Option DocKey
told_key opcode key = if option_map_or tells_key (command_of opcode) false then Some key else None

-- the reply to a change with this CAS, with this value
abbrev pub changing : Request → ℕ → List ℕ → Reply
changing request cas value = record {
  opcode = request.opcode;
  opaque = request.opaque;
  status = status.SUCCESS;
  cas = cas;
  json = false;
  flags = None;
  token = None;
  extras = [];
  key = None;
  value = value;
}

-- the reply that carries the document of a key
abbrev pub carrying : Request → DocKey → Doc → Reply
carrying request key doc = record {
  opcode = request.opcode;
  opaque = request.opaque;
  status = status.SUCCESS;
  cas = doc.cas;
  json = doc.json;
  flags = Some doc.flags;
  token = None;
  extras = [];
  key = told_key request.opcode key;
  value = doc.value;
}

-- a document is stored, and the reply has this value
abbrev pub storing : Request → Doc → List ℕ → Result Change Status
storing request doc value = Ok (record { effect = effects.Put doc; reply = changing request doc.cas value })
