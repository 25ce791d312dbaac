-- Reading a frame from left to right: the numbers of a header as they stand, what a header of them says, and a framing extra.
use Rattle.std.specs.Prelude.{◌≡◌, ℕ, ◌+◌, ◌/◌, ◌%◌, ◌^◌, ◌<◌, ◌≤◌, List, ◌++◌, length, take, drop, Option, Some, None, nat_lt, if◌then◌else◌}
use Rattle.std.specs.List.{AllByRecursion}
use Rattle.std.specs.Int.{w16, w32, w64}
use Rattle.kv_edge.specs.Fields.{◌>>=◌, byte_at, number_at, bytes_at, three_at}
use Rattle.kv_frame.specs.declared.frame.TheConstants.{HEADER_LENGTH, BODY_LIMIT}
use Rattle.kv_frame.specs.declared.frame.Side.{Side}
use Rattle.kv_frame.specs.declared.frame.Magic.{Magic}
use Rattle.kv_frame.specs.declared.frame.Magic.TheVariants as magics
use Rattle.kv_frame.specs.declared.frame.FrameExtra.{FrameExtra}
use Rattle.kv_frame.specs.declared.header.Fields.{Fields}
use Rattle.kv_frame.specs.declared.header.Header.{Header}
use Rattle.kv_frame.specs.declared.header.HeaderRead.{HeaderRead}
use Rattle.kv_frame.specs.declared.header.HeaderRead.TheVariants as headers
use Rattle.kv_frame.specs.declared.framing.Framing.{Framing}
use Rattle.kv_frame.specs.declared.framing.Framing.TheVariants as framings
use Rattle.kv_frame.specs.Grammar.{section, ExtraFits, IsOfSide, key_bound, header_front, header_back}
use Rattle.kv_frame.specs.Judging.{GoesWrongAt, IsBad}

-- offsets 0 to 3: magic, opcode, and the two bytes of lengths as one number
unfoldable pub front_at : List ℕ → Option ((ℕ × ℕ × ℕ) × List ℕ)
front_at bytes = three_at byte_at byte_at (number_at w16) bytes

-- offsets 4 to 7: extras length, datatype, vbucket or status
unfoldable pub middle_at : List ℕ → Option ((ℕ × ℕ × ℕ) × List ℕ)
middle_at bytes = three_at byte_at byte_at (number_at w16) bytes

-- offsets 8 to 23: body length, opaque, CAS
unfoldable pub back_at : List ℕ → Option ((ℕ × ℕ × ℕ) × List ℕ)
back_at bytes = three_at (number_at w32) (number_at w32) (number_at w64) bytes

-- the numbers by name
abbrev pub fields_from : (ℕ × ℕ × ℕ) × (ℕ × ℕ × ℕ) × (ℕ × ℕ × ℕ) → Fields
fields_from x =
    record {
      magic = x.0.0;
      opcode = x.0.1;
      lengths = x.0.2;
      extras = x.1.0;
      datatype = x.1.1;
      word = x.1.2;
      body = x.2.0;
      opaque = x.2.1;
      cas = x.2.2;
    }

-- offsets 0 to 23
unfoldable pub fields_at : List ℕ → Option (Fields × List ℕ)
fields_at bytes = do
  x ← three_at front_at middle_at back_at bytes
  Some (fields_from x.0, x.1)

-- the lengths of framing section and key, of offsets 2 and 3 as one number
abbrev pub framing_in : Magic → ℕ → ℕ
framing_in magics.Request lengths = 0
framing_in magics.FlexRequest lengths = lengths / 256
framing_in magics.Reply lengths = 0
framing_in magics.FlexReply lengths = lengths / 256

abbrev pub key_in : Magic → ℕ → ℕ
key_in magics.Request lengths = lengths
key_in magics.FlexRequest lengths = lengths % 256
key_in magics.Reply lengths = lengths
key_in magics.FlexReply lengths = lengths % 256

-- what a header with this magic and these numbers says
abbrev pub header_from : Magic → Fields → Header
header_from magic x =
    record {
      magic = magic;
      opcode = x.opcode;
      datatype = x.datatype;
      word = x.word;
      opaque = x.opaque;
      cas = x.cas;
      framing = framing_in magic x.lengths;
      extras = x.extras;
      key = key_in magic x.lengths;
      body = x.body;
    }

-- framing sections are shorter than this
abbrev pub framing_bound : Magic → ℕ
framing_bound magics.Request = 1
framing_bound magics.FlexRequest = 2 ^ 8
framing_bound magics.Reply = 1
framing_bound magics.FlexReply = 2 ^ 8

-- a header that has a spelling
pub record HeaderFits (h : Header) : Type 0 where
  pub opcode : h.opcode < 2 ^ 8
  pub datatype : h.datatype < 2 ^ 8
  pub word : h.word < 2 ^ 16
  pub opaque : h.opaque < 2 ^ 32
  pub cas : h.cas < 2 ^ 64
  pub framing : h.framing < framing_bound h.magic
  pub extras : h.extras < 2 ^ 8
  pub key : h.key < key_bound h.magic
  pub body : h.body < 2 ^ 32

-- the bytes begin with this header, and it has no fault
pub record HasHeader (side : Side) (bytes : List ℕ) (h : Header) : Type 0 where
  pub of_side : IsOfSide side h.magic
  pub fits : HeaderFits h
  pub spelled : bytes ≡ header_front h ++ (header_back h ++ drop HEADER_LENGTH bytes)
  pub sum : h.framing + (h.extras + h.key) ≤ h.body
  pub small : h.body ≤ BODY_LIMIT

-- what is read of a header
abbrev pub ReadsHeader : Side → List ℕ → HeaderRead → Type 0
ReadsHeader side bytes (headers.Good h) = HasHeader side bytes h
ReadsHeader side bytes (headers.More n) = (0 < n) × (length bytes + n ≡ HEADER_LENGTH)
ReadsHeader side bytes (headers.Bad place fault) = IsBad side bytes place fault

-- a number whose nibble was read: below 15 the nibble itself, else 15 and the next byte
abbrev pub number_from : ℕ → List ℕ → Option (ℕ × List ℕ)
number_from nibble bytes = if nat_lt nibble 15 then Some (nibble, bytes) else (byte_at bytes >>= λ further. Some (15 + further.0, further.1))

-- a framing extra
unfoldable pub extra_at : List ℕ → Option (FrameExtra × List ℕ)
extra_at bytes = do
  head ← byte_at bytes
  id ← number_from (head.0 / 16) head.1
  length ← number_from (head.0 % 16) id.1
  body ← bytes_at length.0 length.1
  Some (record { id = id.0; body = body.0 }, body.1)

-- What is read of a framing section: its framing extras, or the offset at which it goes wrong.
abbrev pub ReadsSection : List ℕ → Framing → Type 0
ReadsSection bytes (framings.All es) = AllByRecursion ExtraFits es × (bytes ≡ section es)
ReadsSection bytes (framings.Wrong place) = GoesWrongAt bytes place

-- What is judged of a framing section: it is framing extras, or it goes wrong at an offset.
abbrev pub JudgesSection : List ℕ → Option ℕ → Type 0
JudgesSection bytes None = (es : List FrameExtra) × AllByRecursion ExtraFits es × (bytes ≡ section es)
JudgesSection bytes (Some place) = GoesWrongAt bytes place
