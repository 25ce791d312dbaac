-- A header that is read is spelled so, and what a header is spelled as is read.
use Rattle.std.proofs.Common.{◌≡◌, ℕ, ◌+◌, ◌/◌, ◌%◌, ◌^◌, ◌<◌, ◌≤◌, List, [], ◌∷◌, ◌++◌, length, take, drop, slice_index, Some, None, refl, sym, ap, subst, ◌∙◌, append_assoc, arith, inl, inr, length-append}
use Rattle.std.specs.Int.{w16, w32, w64, to_be_bytes, from_be_bytes}
use Rattle.std.proofs.lemmas.List.{drop_at, drop-drop}
use Rattle.std.proofs.lemmas.Nat.{from_be_bytes-to_be_bytes_2, from_be_bytes-to_be_bytes_4, from_be_bytes-to_be_bytes_8}
use Rattle.std.proofs.Math.Seq.{drop-append-add}
use Rattle.std.proofs.lemmas.Option.{none-some}
use Rattle.kv_edge.specs.Fields.{IsBytes, three_at}
use Rattle.kv_edge.proofs.Fields.{IsField, HasSize, Takes, bind_some, bind_none, some_is, byte_field, byte_size, number_field, number_size, three_fields, three_size, wide16, wide32, wide64}
use Rattle.kv_frame.specs.declared.frame.TheConstants.{HEADER_LENGTH, BODY_LIMIT}
use Rattle.kv_frame.specs.declared.frame.Side.{Side}
use Rattle.kv_frame.specs.declared.judging.Fault.TheVariants as faults
use Rattle.kv_frame.specs.declared.frame.Magic.{Magic}
use Rattle.kv_frame.specs.declared.frame.Magic.TheVariants as magics
use Rattle.kv_frame.specs.declared.header.Fields.{Fields}
use Rattle.kv_frame.specs.declared.header.Header.{Header}
use Rattle.kv_frame.specs.Grammar.{magic_byte, IsOfSide, front_lengths, header_front, header_back, key_bound}
use Rattle.kv_frame.specs.Judging.{IsBad, stated_framing, stated_key, stated_body}
use Rattle.kv_frame.specs.Reading.{front_at, middle_at, back_at, fields_at, fields_from, framing_in, key_in, header_from, framing_bound, HeaderFits, HasHeader}

abbrev Triple : Type 0
Triple = ℕ × ℕ × ℕ

-- two bytes and a number of two bytes
abbrev four : Triple → List ℕ
four x = (x.0 ∷ []) ++ ((x.1 ∷ []) ++ to_be_bytes w16 x.2)

abbrev FourFit : Triple → Type 0
FourFit x = (x.0 < 2 ^ 8) × (x.1 < 2 ^ 8) × (x.2 < 2 ^ 16)

abbrev sixteen : Triple → List ℕ
sixteen x = to_be_bytes w32 x.0 ++ (to_be_bytes w32 x.1 ++ to_be_bytes w64 x.2)

abbrev SixteenFit : Triple → Type 0
SixteenFit x = (x.0 < 2 ^ 32) × (x.1 < 2 ^ 32) × (x.2 < 2 ^ 64)

front_field : IsField front_at four FourFit
unfolding front_at
front_field = three_fields byte_field byte_field (number_field w16 (2 ^ 16) wide16)

middle_field : IsField middle_at four FourFit
unfolding middle_at
middle_field = three_fields byte_field byte_field (number_field w16 (2 ^ 16) wide16)

back_field : IsField back_at sixteen SixteenFit
unfolding back_at
back_field = three_fields (number_field w32 (2 ^ 32) wide32) (number_field w32 (2 ^ 32) wide32) (number_field w64 (2 ^ 64) wide64)

front_size : HasSize front_at 4
unfolding front_at
front_size = three_size 1 1 2 byte_size byte_size (number_size w16)

middle_size : HasSize middle_at 4
unfolding middle_at
middle_size = three_size 1 1 2 byte_size byte_size (number_size w16)

back_size : HasSize back_at 16
unfolding back_at
back_size = three_size 4 4 8 (number_size w32) (number_size w32) (number_size w64)

abbrev raw : Triple × Triple × Triple → List ℕ
raw x = four x.0 ++ (four x.1 ++ sixteen x.2)

abbrev RawFit : Triple × Triple × Triple → Type 0
RawFit x = FourFit x.0 × FourFit x.1 × SixteenFit x.2

raw_field : IsField (three_at front_at middle_at back_at) raw RawFit
raw_field = three_fields front_field middle_field back_field

raw_size : HasSize (three_at front_at middle_at back_at) 24
raw_size = three_size 4 4 16 front_size middle_size back_size

-- bytes that hold no header are too few
pub fields_short : (bytes : List ℕ) → fields_at bytes ≡ None → length bytes < HEADER_LENGTH
unfolding fields_at
fields_short bytes e =
    elim (bind_none (three_at front_at middle_at back_at bytes) (λ x. Some (fields_from x.0, x.1)) e) [
      | inl none ↦ raw_size.short bytes none
      | inr x ↦ absurd (none-some _ (sym x.2))
    ]

front_is : (magic : Magic) (first opcode lengths : ℕ) (x : Triple) → first ≡ magic_byte magic → lengths < 2 ^ 16
    → magic_byte magic ∷ opcode ∷ (front_lengths magic (framing_in magic lengths) (key_in magic lengths) ++ (x.0 ∷ x.1 ∷ to_be_bytes w16 x.2)) ≡ four (first, opcode, lengths) ++ four x
front_is magics.Request first opcode lengths x e lt = ap (λ (b : ℕ). b ∷ (opcode ∷ (to_be_bytes w16 lengths ++ four x))) (sym e)
front_is magics.Reply first opcode lengths x e lt = ap (λ (b : ℕ). b ∷ (opcode ∷ (to_be_bytes w16 lengths ++ four x))) (sym e)
front_is magics.FlexRequest first opcode lengths x e lt =
    let high : lengths / 256 ≡ lengths / 256 % 256 = omega arith in
    ap (λ (b : ℕ). b ∷ (opcode ∷ (lengths / 256 ∷ (lengths % 256 ∷ four x)))) (sym e) ∙ ap (λ (b : ℕ). first ∷ (opcode ∷ (b ∷ (lengths % 256 ∷ four x)))) high
front_is magics.FlexReply first opcode lengths x e lt =
    let high : lengths / 256 ≡ lengths / 256 % 256 = omega arith in
    ap (λ (b : ℕ). b ∷ (opcode ∷ (lengths / 256 ∷ (lengths % 256 ∷ four x)))) (sym e) ∙ ap (λ (b : ℕ). first ∷ (opcode ∷ (b ∷ (lengths % 256 ∷ four x)))) high

framing_fits : (magic : Magic) (lengths : ℕ) → lengths < 2 ^ 16 → framing_in magic lengths < framing_bound magic
framing_fits magics.Request lengths lt = omega arith
framing_fits magics.Reply lengths lt = omega arith
framing_fits magics.FlexRequest lengths lt = omega arith
framing_fits magics.FlexReply lengths lt = omega arith

key_fits : (magic : Magic) (lengths : ℕ) → lengths < 2 ^ 16 → key_in magic lengths < key_bound magic
key_fits magics.Request lengths lt = omega arith
key_fits magics.Reply lengths lt = omega arith
key_fits magics.FlexRequest lengths lt = omega arith
key_fits magics.FlexReply lengths lt = omega arith

-- the bytes begin with the spelling of a header
pub record BeginsWithHeader (bytes : List ℕ) (h : Header) : Type 0 where
  pub fits : HeaderFits h
  pub spelled : bytes ≡ header_front h ++ (header_back h ++ drop HEADER_LENGTH bytes)

raw_header : (bytes : List ℕ) (x : Triple × Triple × Triple) (rest : List ℕ) (magic : Magic) → Takes bytes (raw x) rest → RawFit x → x.0.0 ≡ magic_byte magic → BeginsWithHeader bytes (header_from magic (fields_from x))
unfolding header_front header_back
raw_header bytes x rest magic taken fits is_magic =
    let behind : drop HEADER_LENGTH bytes ≡ rest = ap (drop 24) taken.parts ∙ drop_at (raw x) rest 24 refl in
    let front = front_is magic x.0.0 x.0.1 x.0.2 x.1 is_magic fits.0.2 in
    let whole : bytes ≡ (four x.0 ++ four x.1) ++ (sixteen x.2 ++ rest) = taken.parts in
    record {
      fits = record {
        opcode = fits.0.1;
        datatype = fits.1.1;
        word = fits.1.2;
        opaque = fits.2.1;
        cas = fits.2.2;
        framing = framing_fits magic x.0.2 fits.0.2;
        extras = fits.1.0;
        key = key_fits magic x.0.2 fits.0.2;
        body = fits.2.0;
      };
      spelled = whole ∙ ap (λ (l : List ℕ). l ++ (sixteen x.2 ++ rest)) (sym front) ∙ ap (λ (l : List ℕ). header_front (header_from magic (fields_from x)) ++ (sixteen x.2 ++ l)) (sym behind);
    }

-- what is read of a header is spelled so
pub header_takes : (bytes : List ℕ) (x : Fields) (rest : List ℕ) (magic : Magic) → IsBytes bytes → fields_at bytes ≡ Some (x, rest) → x.magic ≡ magic_byte magic → BeginsWithHeader bytes (header_from magic x)
unfolding fields_at
header_takes bytes x rest magic fits e is_magic =
    let a = bind_some (three_at front_at middle_at back_at bytes) (λ x. Some (fields_from x.0, x.1)) (x, rest) e in
    let x-is : fields_from a.0.0 ≡ x = ap (λ (p : Fields × List ℕ). p.0) (some_is (fields_from a.0.0, a.0.1) (x, rest) a.2) in
    let t = raw_field.takes bytes a.0.0 a.0.1 fits a.1 in
    subst (λ (y : Fields). y.magic ≡ magic_byte magic → BeginsWithHeader bytes (header_from magic y)) x-is (raw_header bytes a.0.0 a.0.1 magic t.0 t.1) is_magic

-- where a header is read it is whole, and its first number is the first byte
pub fields_first : (bytes : List ℕ) (x : Fields) (rest : List ℕ) → IsBytes bytes → fields_at bytes ≡ Some (x, rest) → (HEADER_LENGTH ≤ length bytes) × (slice_index bytes 0 ≡ x.magic)
unfolding fields_at
fields_first bytes x rest fits e =
    let a = bind_some (three_at front_at middle_at back_at bytes) (λ x. Some (fields_from x.0, x.1)) (x, rest) e in
    let x-is : fields_from a.0.0 ≡ x = ap (λ (p : Fields × List ℕ). p.0) (some_is (fields_from a.0.0, a.0.1) (x, rest) a.2) in
    let t = raw_field.takes bytes a.0.0 a.0.1 fits a.1 in
    let size = raw_size.whole bytes a.0.0 a.0.1 a.1 in
    (omega arith, ap (λ (l : List ℕ). slice_index l 0) t.0.parts ∙ ap (λ (y : Fields). y.magic) x-is)

-- what a header states is what stands at its offsets
pub record States (bytes : List ℕ) (h : Header) : Type 0 where
  pub whole : HEADER_LENGTH ≤ length bytes
  pub first : slice_index bytes 0 ≡ magic_byte h.magic
  pub framing : stated_framing h.magic bytes ≡ h.framing
  pub key : stated_key h.magic bytes ≡ h.key
  pub extras : slice_index bytes 4 ≡ h.extras
  pub body : stated_body bytes ≡ h.body
  pub opcode : slice_index bytes 1 ≡ h.opcode
  pub datatype : slice_index bytes 5 ≡ h.datatype
  pub word : from_be_bytes w16 (take 2 (drop 6 bytes)) ≡ h.word
  pub opaque : from_be_bytes w32 (take 4 (drop 12 bytes)) ≡ h.opaque
  pub cas : from_be_bytes w64 (take 8 (drop 16 bytes)) ≡ h.cas

framing_stated : (magic : Magic) (m op framing key : ℕ) (tail : List ℕ) → framing < framing_bound magic → stated_framing magic (m ∷ op ∷ (front_lengths magic framing key ++ tail)) ≡ framing
framing_stated magics.Request m op framing key tail lt = omega arith
framing_stated magics.FlexRequest m op framing key tail lt = refl
framing_stated magics.Reply m op framing key tail lt = omega arith
framing_stated magics.FlexReply m op framing key tail lt = refl

key_stated : (magic : Magic) (m op framing key : ℕ) (tail : List ℕ) → key < key_bound magic → stated_key magic (m ∷ op ∷ (front_lengths magic framing key ++ tail)) ≡ key
key_stated magics.Request m op framing key tail lt = from_be_bytes-to_be_bytes_2 key lt
key_stated magics.FlexRequest m op framing key tail lt = refl
key_stated magics.Reply m op framing key tail lt = from_be_bytes-to_be_bytes_2 key lt
key_stated magics.FlexReply m op framing key tail lt = refl

extras_stated : (magic : Magic) (m op framing key extras : ℕ) (tail : List ℕ) → slice_index (m ∷ op ∷ (front_lengths magic framing key ++ (extras ∷ tail))) 4 ≡ extras
extras_stated magics.Request m op framing key extras tail = refl
extras_stated magics.FlexRequest m op framing key extras tail = refl
extras_stated magics.Reply m op framing key extras tail = refl
extras_stated magics.FlexReply m op framing key extras tail = refl

datatype_stated : (magic : Magic) (m op framing key extras datatype : ℕ) (tail : List ℕ) → slice_index (m ∷ op ∷ (front_lengths magic framing key ++ (extras ∷ datatype ∷ tail))) 5 ≡ datatype
datatype_stated magics.Request m op framing key extras datatype tail = refl
datatype_stated magics.FlexRequest m op framing key extras datatype tail = refl
datatype_stated magics.Reply m op framing key extras datatype tail = refl
datatype_stated magics.FlexReply m op framing key extras datatype tail = refl

word_stated : (magic : Magic) (m op framing key extras datatype word : ℕ) (tail : List ℕ) → word < 2 ^ 16
    → from_be_bytes w16 (take 2 (drop 6 (m ∷ op ∷ (front_lengths magic framing key ++ (extras ∷ datatype ∷ (to_be_bytes w16 word ++ tail)))))) ≡ word
word_stated magics.Request m op framing key extras datatype word tail lt = from_be_bytes-to_be_bytes_2 word lt
word_stated magics.FlexRequest m op framing key extras datatype word tail lt = from_be_bytes-to_be_bytes_2 word lt
word_stated magics.Reply m op framing key extras datatype word tail lt = from_be_bytes-to_be_bytes_2 word lt
word_stated magics.FlexReply m op framing key extras datatype word tail lt = from_be_bytes-to_be_bytes_2 word lt

-- offset 8 is behind the front
behind_front : (magic : Magic) (m op framing key extras datatype word : ℕ) (tail : List ℕ) → drop 8 ((m ∷ op ∷ (front_lengths magic framing key ++ (extras ∷ datatype ∷ to_be_bytes w16 word))) ++ tail) ≡ tail
behind_front magics.Request m op framing key extras datatype word tail = refl
behind_front magics.FlexRequest m op framing key extras datatype word tail = refl
behind_front magics.Reply m op framing key extras datatype word tail = refl
behind_front magics.FlexReply m op framing key extras datatype word tail = refl

front_long : (magic : Magic) (m op framing key extras datatype word : ℕ) → length (m ∷ op ∷ (front_lengths magic framing key ++ (extras ∷ datatype ∷ to_be_bytes w16 word))) ≡ 8
front_long magics.Request m op framing key extras datatype word = refl
front_long magics.FlexRequest m op framing key extras datatype word = refl
front_long magics.Reply m op framing key extras datatype word = refl
front_long magics.FlexReply m op framing key extras datatype word = refl

-- the front half of a header has 8 bytes, the back half 16
pub length_front : (h : Header) → length (header_front h) ≡ 8
unfolding header_front
length_front h = front_long h.magic (magic_byte h.magic) h.opcode h.framing h.key h.extras h.datatype h.word

pub length_back : (h : Header) → length (header_back h) ≡ 16
unfolding header_back
length_back h = refl

-- what stands behind the spelling of a header
pub behind_header : (h : Header) (rest : List ℕ) → drop HEADER_LENGTH (header_front h ++ (header_back h ++ rest)) ≡ rest
behind_header h rest =
    let sum : HEADER_LENGTH ≡ length (header_front h) + (length (header_back h) + 0) = omega (arith, length_front h, length_back h) in
    ap (λ (n : ℕ). drop n (header_front h ++ (header_back h ++ rest))) sum
    ∙ drop-append-add (header_front h) (header_back h ++ rest) (length (header_back h) + 0)
    ∙ drop-append-add (header_back h) rest 0

spelled_states : (h : Header) (rest : List ℕ) → HeaderFits h → States (header_front h ++ (header_back h ++ rest)) h
unfolding header_front header_back
spelled_states h rest fits =
    let m = magic_byte h.magic in
    let lengths = front_lengths h.magic h.framing h.key in
    let tail = h.datatype ∷ to_be_bytes w16 h.word in
    let behind : List ℕ = header_back h ++ rest in
    let regrouped : (lengths ++ (h.extras ∷ tail)) ++ behind ≡ lengths ++ (h.extras ∷ (tail ++ behind)) = append_assoc lengths (h.extras ∷ tail) behind in
    let whole-behind : drop 8 (header_front h ++ behind) ≡ behind = behind_front h.magic m h.opcode h.framing h.key h.extras h.datatype h.word behind in
    record {
      whole = omega (arith, length-append (header_front h) behind, length-append (header_back h) rest, length_front h, length_back h);
      first = refl;
      framing = ap (λ (l : List ℕ). stated_framing h.magic (m ∷ h.opcode ∷ l)) regrouped ∙ framing_stated h.magic m h.opcode h.framing h.key (h.extras ∷ (tail ++ behind)) fits.framing;
      key = ap (λ (l : List ℕ). stated_key h.magic (m ∷ h.opcode ∷ l)) regrouped ∙ key_stated h.magic m h.opcode h.framing h.key (h.extras ∷ (tail ++ behind)) fits.key;
      extras = ap (λ (l : List ℕ). slice_index (m ∷ h.opcode ∷ l) 4) regrouped ∙ extras_stated h.magic m h.opcode h.framing h.key h.extras (tail ++ behind);
      body = ap (λ (l : List ℕ). from_be_bytes w32 (take 4 l)) whole-behind ∙ from_be_bytes-to_be_bytes_4 h.body fits.body;
      opcode = refl;
      datatype = ap (λ (l : List ℕ). slice_index (m ∷ h.opcode ∷ l) 5) regrouped ∙ datatype_stated h.magic m h.opcode h.framing h.key h.extras h.datatype (to_be_bytes w16 h.word ++ behind);
      word = ap (λ (l : List ℕ). from_be_bytes w16 (take 2 (drop 6 (m ∷ h.opcode ∷ l)))) regrouped ∙ word_stated h.magic m h.opcode h.framing h.key h.extras h.datatype h.word behind fits.word;
      opaque = ap (λ (l : List ℕ). from_be_bytes w32 (take 4 l)) (sym (drop-drop 4 8 (header_front h ++ behind)) ∙ ap (drop 4) whole-behind) ∙ from_be_bytes-to_be_bytes_4 h.opaque fits.opaque;
      cas = ap (λ (l : List ℕ). from_be_bytes w64 (take 8 l)) (sym (drop-drop 8 8 (header_front h ++ behind)) ∙ ap (drop 8) whole-behind) ∙ from_be_bytes-to_be_bytes_8 h.cas fits.cas;
    }

pub header_states : (bytes : List ℕ) (h : Header) (rest : List ℕ) → HeaderFits h → bytes ≡ header_front h ++ (header_back h ++ rest) → States bytes h
header_states bytes h rest fits e = subst (λ (l : List ℕ). States l h) (sym e) (spelled_states h rest fits)

-- a header that the bytes begin with states its numbers
pub begins_states : (bytes : List ℕ) (h : Header) → BeginsWithHeader bytes h → States bytes h
begins_states bytes h b = header_states bytes h (drop HEADER_LENGTH bytes) b.fits b.spelled

-- the bytes begin with a header of the side, whatever it states
pub record IsRead (side : Side) (bytes : List ℕ) (h : Header) : Type 0 where
  pub of_side : IsOfSide side h.magic
  pub begins : BeginsWithHeader bytes h

pub header_reads : (side : Side) (bytes : List ℕ) (x : Fields) (rest : List ℕ) (magic : Magic) (h : Header)
    → IsBytes bytes → fields_at bytes ≡ Some (x, rest) → IsOfSide side magic → x.magic ≡ magic_byte magic → h ≡ header_from magic x → IsRead side bytes h
header_reads side bytes x rest magic h fits e of_side is_magic h-is =
    subst (λ (h : Header). IsRead side bytes h) (sym h-is) (record { of_side = of_side; begins = header_takes bytes x rest magic fits e is_magic })

pub lengths_bad : (side : Side) (bytes : List ℕ) (h : Header) → IsRead side bytes h → h.body < h.framing + h.extras + h.key → IsBad side bytes 8 faults.Lengths
lengths_bad side bytes h r lt =
    let s = begins_states bytes h r.begins in
    (s.whole, refl, h.magic, record { of_side = r.of_side; first = s.first }, omega (arith, s.framing, s.key, s.extras, s.body))

pub body_bad : (side : Side) (bytes : List ℕ) (h : Header) → IsRead side bytes h → BODY_LIMIT < h.body → IsBad side bytes 8 faults.TooBig
body_bad side bytes h r lt =
    let s = begins_states bytes h r.begins in
    (s.whole, refl, h.magic, record { of_side = r.of_side; first = s.first }, omega (arith, s.body))

pub header_good : (side : Side) (bytes : List ℕ) (h : Header) → IsRead side bytes h → h.framing + h.extras + h.key ≤ h.body → h.body ≤ BODY_LIMIT → HasHeader side bytes h
header_good side bytes h r sum small = record { of_side = r.of_side; fits = r.begins.fits; spelled = r.begins.spelled; sum = omega arith; small = small }
