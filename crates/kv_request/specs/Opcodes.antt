-- The table of opcodes, and the form of each command's request.
use Rattle.std.specs.Prelude.{ℕ, nat_eq, nat_le, Bool, true, false, ◌&&◌, find, is_some, List, [], ◌∷◌, ◌++◌, Option}
use Rattle.std.specs.Option.{option_map, option_map_or, option_or}
use Rattle.doc_model.specs.declared.status.Status.{Status}
use Rattle.doc_model.specs.declared.status.TheConstants.Status as status
use Rattle.json_model.specs.Edit.{lookup_of, edit_of}
use Rattle.json_model.specs.declared.asked.Lookup.TheVariants as lookups
use Rattle.json_model.specs.declared.asked.Edit.TheVariants as edits
use Rattle.kv_request.specs.declared.opcode.Command.{Command}
use Rattle.kv_request.specs.declared.opcode.Command.TheVariants as commands

-- each opcode that is served, but for the quiet ones and those on one part of a document, with what it asks for
abbrev pub opcodes : List (ℕ × Command)
opcodes =
    (0x00, commands.Get)
    ∷ (0x0c, commands.GetKey)
    ∷ (0x01, commands.Set)
    ∷ (0x02, commands.Add)
    ∷ (0x03, commands.Replace)
    ∷ (0x04, commands.Delete)
    ∷ (0x05, commands.Increment)
    ∷ (0x06, commands.Decrement)
    ∷ (0x0e, commands.Append)
    ∷ (0x0f, commands.Prepend)
    ∷ (0x1c, commands.Touch)
    ∷ (0x1d, commands.GetAndTouch)
    ∷ (0x07, commands.Quit)
    ∷ (0x0a, commands.Noop)
    ∷ (0x0b, commands.Version)
    ∷ (0x1f, commands.Hello)
    ∷ (0xb9, commands.SetManifest)
    ∷ (0xba, commands.GetManifest)
    ∷ (0xbb, commands.CollectionId)
    ∷ (0xbc, commands.ScopeId)
    ∷ (0xd0, commands.MultiLook)
    ∷ (0xd1, commands.MultiEdit)
    ∷ []

-- each quiet opcode, with what it asks for
abbrev pub quiet_opcodes : List (ℕ × Command)
quiet_opcodes =
    (0x09, commands.Get)
    ∷ (0x0d, commands.GetKey)
    ∷ (0x11, commands.Set)
    ∷ (0x12, commands.Add)
    ∷ (0x13, commands.Replace)
    ∷ (0x14, commands.Delete)
    ∷ (0x15, commands.Increment)
    ∷ (0x16, commands.Decrement)
    ∷ (0x19, commands.Append)
    ∷ (0x1a, commands.Prepend)
    ∷ (0x17, commands.Quit)
    ∷ []

-- what an opcode asks for by these rows
abbrev pub command_in : List (ℕ × Command) → ℕ → Option Command
command_in rows opcode = option_map (λ row. row.1) (find (λ row. nat_eq opcode row.0) rows)

abbrev pub is_quiet : ℕ → Bool
is_quiet opcode = is_some (command_in quiet_opcodes opcode)

-- what an opcode asks of a part of a document: a look-up or an edit at a path
abbrev pub part_command : ℕ → Option Command
part_command opcode = option_or (option_map commands.Look (lookup_of opcode)) (option_map commands.Edit (edit_of opcode))

-- what an opcode asks for, loud or quiet
abbrev pub command_of : ℕ → Option Command
command_of opcode = option_or (command_in (opcodes ++ quiet_opcodes) opcode) (part_command opcode)

-- the opcodes of streams between nodes, none of which is served
abbrev pub is_of_streams : ℕ → Bool
is_of_streams opcode = nat_le 0x50 opcode && nat_le opcode 0x6f

-- the status that a quiet opcode of this command leaves unsent: a miss of a Get, else success
abbrev pub unsent_status : Command → Status
unsent_status commands.Get = status.KEY_ENOENT
unsent_status commands.GetKey = status.KEY_ENOENT
unsent_status command = status.SUCCESS

-- whether a reply of this opcode with this status is left unsent
abbrev pub is_unsent : ℕ → Status → Bool
is_unsent opcode code = is_quiet opcode && option_map_or (λ command. nat_eq code.code (unsent_status command).code) (command_of opcode) false

-- whether a part of a frame is there
pub data Presence : Type 0 where
  Must : Presence
  MustNot : Presence
  May : Presence

-- the form of a request: how many bytes its extras may have, and whether a key and a value are there
pub record Form : Type 0 where
  pub extras : List ℕ
  pub key : Presence
  pub value : Presence

-- the form of each command's request
abbrev pub form_of : Command → Form
form_of commands.Get = record { extras = 0 ∷ []; key = Must; value = MustNot }
form_of commands.GetKey = record { extras = 0 ∷ []; key = Must; value = MustNot }
form_of commands.Set = record { extras = 8 ∷ []; key = Must; value = May }
form_of commands.Add = record { extras = 8 ∷ []; key = Must; value = May }
form_of commands.Replace = record { extras = 8 ∷ []; key = Must; value = May }
form_of commands.Delete = record { extras = 0 ∷ []; key = Must; value = MustNot }
form_of commands.Increment = record { extras = 20 ∷ []; key = Must; value = MustNot }
form_of commands.Decrement = record { extras = 20 ∷ []; key = Must; value = MustNot }
form_of commands.Append = record { extras = 0 ∷ []; key = Must; value = May }
form_of commands.Prepend = record { extras = 0 ∷ []; key = Must; value = May }
form_of commands.Touch = record { extras = 4 ∷ []; key = Must; value = MustNot }
form_of commands.GetAndTouch = record { extras = 4 ∷ []; key = Must; value = MustNot }
form_of commands.Quit = record { extras = 0 ∷ []; key = MustNot; value = MustNot }
form_of commands.Noop = record { extras = 0 ∷ []; key = MustNot; value = MustNot }
form_of commands.Version = record { extras = 0 ∷ []; key = MustNot; value = MustNot }
form_of commands.Hello = record { extras = 0 ∷ []; key = May; value = May }
form_of commands.SetManifest = record { extras = 0 ∷ []; key = MustNot; value = Must }
form_of commands.GetManifest = record { extras = 0 ∷ []; key = MustNot; value = MustNot }
form_of commands.CollectionId = record { extras = 0 ∷ []; key = May; value = May }
form_of commands.ScopeId = record { extras = 0 ∷ []; key = May; value = May }
form_of (commands.Look lookup) = record { extras = 3 ∷ 4 ∷ []; key = Must; value = May }
form_of (commands.Edit edit) = record { extras = 3 ∷ 4 ∷ 7 ∷ 8 ∷ []; key = Must; value = May }
form_of commands.MultiLook = record { extras = 0 ∷ 1 ∷ []; key = Must; value = May }
form_of commands.MultiEdit = record { extras = 0 ∷ 1 ∷ 4 ∷ 5 ∷ []; key = Must; value = May }

-- whether the key is a document's
abbrev pub names_document : Command → Bool
names_document commands.Quit = false
names_document commands.Noop = false
names_document commands.Version = false
names_document commands.Hello = false
names_document commands.SetManifest = false
names_document commands.GetManifest = false
names_document commands.CollectionId = false
names_document commands.ScopeId = false
names_document command = true

-- whether the reply to this command tells the key
abbrev pub tells_key : Command → Bool
tells_key commands.GetKey = true
tells_key command = false

-- whether a request of this command may ask for a level of durability
abbrev pub takes_level : Command → Bool
takes_level commands.Set = true
takes_level commands.Add = true
takes_level commands.Replace = true
takes_level commands.Delete = true
takes_level commands.Increment = true
takes_level commands.Decrement = true
takes_level commands.Append = true
takes_level commands.Prepend = true
takes_level (commands.Edit edit) = true
takes_level commands.MultiEdit = true
takes_level command = false

-- whether a value may come behind the path of a command on a part of a document
abbrev pub takes_value : Command → Bool
takes_value (commands.Look lookup) = false
takes_value (commands.Edit edits.Delete) = false
takes_value command = true

-- whether a command on a part of a document may make several parts that are absent
abbrev pub may_make_parents : Command → Bool
may_make_parents (commands.Edit edits.DictAdd) = true
may_make_parents (commands.Edit edits.DictUpsert) = true
may_make_parents (commands.Edit edits.ArrayPushLast) = true
may_make_parents (commands.Edit edits.ArrayPushFirst) = true
may_make_parents (commands.Edit edits.ArrayAddUnique) = true
may_make_parents (commands.Edit edits.Counter) = true
may_make_parents command = false

-- whether a command on a part of a document takes the whole of it, by the path of no bytes
abbrev pub takes_whole : Command → Bool
takes_whole (commands.Look lookups.GetCount) = true
takes_whole (commands.Edit edits.ArrayPushLast) = true
takes_whole (commands.Edit edits.ArrayPushFirst) = true
takes_whole (commands.Edit edits.ArrayAddUnique) = true
takes_whole command = false
