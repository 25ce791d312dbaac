-- The frame grammar of the memcached binary protocol: which frames have a spelling, and which bytes it is.
use Rattle.std.specs.Prelude.{◌≡◌, ℕ, ◌+◌, ◌-◌, ◌*◌, ◌^◌, ◌<◌, ◌≤◌, min, nat_lt, List, [], ◌∷◌, ◌++◌, length, if◌then◌else◌}
use Rattle.std.specs.List.{flat_map, AllByRecursion}
use Rattle.std.specs.Int.{w16, w32, w64, to_be_bytes}
use Rattle.kv_frame.specs.declared.frame.TheConstants.{BODY_LIMIT}
use Rattle.kv_frame.specs.declared.frame.Side.{Side}
use Rattle.kv_frame.specs.declared.frame.Side.TheVariants.{Requests, Replies}
use Rattle.kv_frame.specs.declared.frame.Magic.{Magic}
use Rattle.kv_frame.specs.declared.frame.Magic.TheVariants as magics
use Rattle.kv_frame.specs.declared.frame.FrameExtra.{FrameExtra}
use Rattle.kv_frame.specs.declared.frame.Frame.{Frame}
use Rattle.kv_frame.specs.declared.header.Header.{Header}

-- what a nibble shows of a number: the number itself below 15, else 15
abbrev pub nibble : ℕ → ℕ
nibble n = min n 15

-- the further byte of a number whose nibble shows 15: what it has above 15
abbrev pub further : ℕ → List ℕ
further n = if nat_lt n 15 then [] else (n - 15) ∷ []

-- a framing extra: id and length in one byte, their further bytes, the bytes
unfoldable pub extra : FrameExtra → List ℕ
extra e = (16 * nibble e.id + nibble (length e.body)) ∷ (further e.id ++ (further (length e.body) ++ e.body))

-- one framing extra after the other
abbrev pub section : List FrameExtra → List ℕ
section es = flat_map extra es

-- a framing extra that has a spelling
pub record ExtraFits (e : FrameExtra) : Type 0 where
  pub id : e.id < 15 + 2 ^ 8
  pub body : length e.body < 15 + 2 ^ 8

-- the first byte
abbrev pub magic_byte : Magic → ℕ
magic_byte magics.Request = 0x80
magic_byte magics.FlexRequest = 0x08
magic_byte magics.Reply = 0x81
magic_byte magics.FlexReply = 0x18

-- the lengths at offsets 2 and 3: the key's in two bytes, or the framing section's and the key's in one each
abbrev pub front_lengths : Magic → ℕ → ℕ → List ℕ
front_lengths magics.Request framing key = to_be_bytes w16 key
front_lengths magics.FlexRequest framing key = framing ∷ key ∷ []
front_lengths magics.Reply framing key = to_be_bytes w16 key
front_lengths magics.FlexReply framing key = framing ∷ key ∷ []

-- the length of all that stands behind the header
abbrev pub body_length : Frame → ℕ
body_length f = length (section f.framing) + (length f.extras + (length f.key + length f.value))

-- the header of a frame: its own numbers, and the lengths of its parts
abbrev pub header_of : Frame → Header
header_of f =
    record {
      magic = f.magic;
      opcode = f.opcode;
      datatype = f.datatype;
      word = f.word;
      opaque = f.opaque;
      cas = f.cas;
      framing = length (section f.framing);
      extras = length f.extras;
      key = length f.key;
      body = body_length f;
    }

-- offsets 0 to 7
unfoldable pub header_front : Header → List ℕ
header_front h = magic_byte h.magic ∷ h.opcode ∷ (front_lengths h.magic h.framing h.key ++ (h.extras ∷ h.datatype ∷ to_be_bytes w16 h.word))

-- offsets 8 to 23
unfoldable pub header_back : Header → List ℕ
header_back h = to_be_bytes w32 h.body ++ (to_be_bytes w32 h.opaque ++ to_be_bytes w64 h.cas)

-- what stands behind the header
unfoldable pub body : Frame → List ℕ
body f = section f.framing ++ (f.extras ++ (f.key ++ f.value))

-- the one spelling of a frame
unfoldable pub spelling : Frame → List ℕ
spelling f = header_front (header_of f) ++ (header_back (header_of f) ++ body f)

-- only the flexible magics have framing extras, in a section whose length one byte tells
abbrev pub FramingFits : Magic → List FrameExtra → Type 0
FramingFits magics.Request es = es ≡ []
FramingFits magics.FlexRequest es = AllByRecursion ExtraFits es × (length (section es) < 2 ^ 8)
FramingFits magics.Reply es = es ≡ []
FramingFits magics.FlexReply es = AllByRecursion ExtraFits es × (length (section es) < 2 ^ 8)

-- keys are shorter than this
abbrev pub key_bound : Magic → ℕ
key_bound magics.Request = 2 ^ 16
key_bound magics.FlexRequest = 2 ^ 8
key_bound magics.Reply = 2 ^ 16
key_bound magics.FlexReply = 2 ^ 8

-- a frame that has a spelling
pub record Fits (f : Frame) : Type 0 where
  pub opcode : f.opcode < 2 ^ 8
  pub datatype : f.datatype < 2 ^ 8
  pub word : f.word < 2 ^ 16
  pub opaque : f.opaque < 2 ^ 32
  pub cas : f.cas < 2 ^ 64
  pub framing : FramingFits f.magic f.framing
  pub extras : length f.extras < 2 ^ 8
  pub key : length f.key < key_bound f.magic
  pub body : body_length f ≤ BODY_LIMIT

-- requests have the magics 80 and 08, replies 81 and 18
abbrev pub IsOfSide : Side → Magic → Type 0
IsOfSide Requests magics.Request = Unit {0}
IsOfSide Requests magics.FlexRequest = Unit {0}
IsOfSide Requests magics.Reply = ⊥
IsOfSide Requests magics.FlexReply = ⊥
IsOfSide Replies magics.Request = ⊥
IsOfSide Replies magics.FlexRequest = ⊥
IsOfSide Replies magics.Reply = Unit {0}
IsOfSide Replies magics.FlexReply = Unit {0}

-- the bytes are this frame of this side
pub record IsFrame (side : Side) (f : Frame) (bytes : List ℕ) : Type 0 where
  pub of_side : IsOfSide side f.magic
  pub fits : Fits f
  pub spelled : bytes ≡ spelling f
