-- The bytes of a reply.
use Rattle.std.specs.Prelude.{ℕ, List, []}
use Rattle.std.specs.Option.{option_map_or}
use Rattle.kv_frame.specs.Grammar.{spelling, Fits}
use Rattle.kv_request.specs.declared.request.Features.{Features}
use Rattle.kv_request.specs.declared.reply.Reply.{Reply}
use Rattle.kv_request.specs.Tables.{frame, sent}

-- the bytes of a reply's frame, or none where it is left unsent
abbrev pub sent_bytes : Features → Reply → List ℕ
sent_bytes features reply = option_map_or spelling (sent features reply) []

-- the reply's frame has a spelling, under these features
abbrev pub IsSendable : Features → Reply → Type 0
IsSendable features reply = Fits (frame features reply)
