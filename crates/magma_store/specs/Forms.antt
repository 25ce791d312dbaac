-- Where the bytes of a record break its form.
use Rattle.std.specs.Prelude.{◌≡◌, ◌≢◌, ◌⊎◌, ℕ, zero, suc, ◌+◌, ◌-◌, ◌<◌, ◌≤◌, ◌^◌, nat_eq, nat_lt, List, [], ◌∷◌, ◌++◌, length, drop, if◌then◌else◌, Option, Some, None, map as list_map}
use Rattle.std.specs.Int.{Width, w8, w32, w64, byte_len, to_be_bytes}
use Rattle.std.specs.List.{AllByRecursion}
use Rattle.doc_model.specs.declared.document.Item.{Item}
use Rattle.durability_core.specs.declared.chain.Chain.{Chain}
use Rattle.durability_core.specs.Chains.{IsChain}
use Rattle.vb_log.specs.Contents.{item_bytes}
use Rattle.vb_log.specs.Stored.{IsStorable, NothingStored}
use Rattle.magma_store.specs.declared.fields.FormFault.{FormFault}
use Rattle.magma_store.specs.declared.fields.FormFault.TheVariants as fault
use Rattle.magma_store.specs.declared.journal.TheConstants.{OPEN}
use Rattle.magma_store.specs.declared.kinds.TheConstants.{MAGIC, OVER, NUMBERS}
use Rattle.magma_store.specs.Journal.{journal_bytes, CanBeCounted}
use Rattle.magma_store.specs.Changes.{Change, IsChange, made_bytes, change_bytes}

-- A form is fields one after another: a big-endian number, of which is said which bound it breaks, where it breaks one;
-- a run of so many bytes; so many items, of which so many were read before. What follows a number may depend on it.
pub data Form : Type 0 where
  end : Form
  field : (width : Width) (broken : ℕ → Option ℕ) (next : ℕ → Form) → Form
  run : ℕ → Form → Form
  all_items : (read left : ℕ) → Form

-- a number of this width stands at the front
pub record FieldAt (width : Width) (bytes : List ℕ) (n : ℕ) (behind : List ℕ) : Type 0 where
  pub front : bytes ≡ to_be_bytes width n ++ behind
  pub small : n < 256 ^ byte_len width

-- an item stands at the front
pub record ItemAt (bytes : List ℕ) (item : Item) (behind : List ℕ) : Type 0 where
  pub allowed : IsStorable item
  pub front : bytes ≡ item_bytes item ++ behind

-- Bytes break a form where so many of them are left: what is found there, and what is expected. Too few bytes are found
-- where more are expected for a field; a number, where another or a bound; so many items before bytes that begin none, where
-- more; bytes behind the end, where none.
abbrev pub Breaks : Form → List ℕ → (left found expected : ℕ) → Type 0
Breaks end bytes left found expected =
    (bytes ≢ []) × (left ≡ length bytes) × (found ≡ length bytes) × (expected ≡ 0)
Breaks (field width broken next) bytes left found expected =
    ((length bytes < byte_len width) × (left ≡ length bytes) × (found ≡ length bytes) × (expected ≡ byte_len width))
    ⊎ ((n : ℕ) × (behind : List ℕ) × FieldAt width bytes n behind
    × (((broken n ≡ Some expected) × (left ≡ length bytes) × (found ≡ n))
    ⊎ ((broken n ≡ None) × Breaks (next n) behind left found expected)))
Breaks (run size next) bytes left found expected =
    ((length bytes < size) × (left ≡ length bytes) × (found ≡ length bytes) × (expected ≡ size))
    ⊎ ((size ≤ length bytes) × Breaks next (drop size bytes) left found expected)
Breaks (all_items read zero) bytes left found expected =
    (bytes ≢ []) × (left ≡ length bytes) × (found ≡ length bytes) × (expected ≡ 0)
Breaks (all_items read (suc more)) bytes left found expected =
    (NothingStored bytes × (left ≡ length bytes) × (found ≡ read) × (expected ≡ read + suc more))
    ⊎ ((item : Item) × (behind : List ℕ) × ItemAt bytes item behind
    × Breaks (all_items (read + 1) more) behind left found expected)

-- ---- bounds

-- any number
abbrev pub any : ℕ → Option ℕ
any n = None

-- this number and no other
abbrev pub exactly : ℕ → ℕ → Option ℕ
exactly expected n = if nat_eq n expected then None else Some expected

-- a number from a least to a greatest
abbrev pub between : ℕ → ℕ → ℕ → Option ℕ
between least most n = if nat_lt n least then Some least else (if nat_lt most n then Some most else None)

-- the accepted term beside a promise: none, or one that is at least 4 and was promised
abbrev pub accepted_within : ℕ → ℕ → Option ℕ
accepted_within promise n =
    if nat_eq n 0 then None else (if nat_lt n 4 then Some 4 else (if nat_lt promise n then Some promise else None))

-- ---- the forms of records

-- so many names behind their lengths, of which the first has at least so many bytes
abbrev pub names_form : ℕ → ℕ → Form → Form
names_form least zero next = next
names_form least (suc count) next =
    field w8 (between least 255) (λ size. run size (names_form 0 count next))

-- the record with which a store is made
abbrev pub made_form : Form
made_form =
    field w32 (exactly MAGIC) (λ magic. field w8 (between 1 4) (λ count.
    names_form 1 count (field w8 (between 0 (count - 1)) (λ place. end))))

abbrev pub numbers_form : Form → Form
numbers_form next =
    field w64 any (λ promise. field w64 (accepted_within promise) (λ accepted.
    field w64 any (λ incarnation. field w64 any (λ log. field w64 any (λ cas. next)))))

abbrev pub batch_form : Form
batch_form = field w32 any (λ size. run size (field w32 any (λ count. all_items 0 count)))

-- each other record
abbrev pub change_form : Form
change_form = field w8 (between OVER NUMBERS) (λ kind. numbers_form (if nat_eq kind NUMBERS then end else batch_form))

-- the form of a record behind these
abbrev pub next_form : List (List ℕ) → Form
next_form [] = made_form
next_form (first ∷ records) = change_form

-- ---- reading

-- why a record isn't read: what it holds breaks its form, or memory was refused
abbrev pub IsBroken : Form → List ℕ → FormFault → Type 0
IsBroken form bytes (fault.Broken left found expected) = Breaks form bytes left found expected
IsBroken form bytes fault.NoMemory = Unit {0}

-- ---- a damaged device

-- The size of a record, which stands behind its open gate, breaks the layout: it isn't whole, or more than what follows.
abbrev pub SizeBreaks : List ℕ → (left found expected : ℕ) → Type 0
SizeBreaks bytes left found expected =
    (left ≡ length bytes)
    × (((length bytes < byte_len w64) × (found ≡ length bytes) × (expected ≡ byte_len w64))
    ⊎ ((behind : List ℕ) × FieldAt w64 bytes found behind × (length behind < found) × (expected ≡ length behind)))

-- an open gate stands at the front, and the size behind it breaks the layout
pub record IsUnsized (bytes : List ℕ) (left found expected : ℕ) : Type 0 where
  pub rest : List ℕ
  pub gate : bytes ≡ OPEN ∷ rest
  pub more : rest ≢ []
  pub breaks : SizeBreaks rest left found expected

-- what a record holds, whose size stands at the front, breaks a form
pub record HeldBreaks (form : Form) (bytes : List ℕ) (left found expected : ℕ) : Type 0 where
  pub held : List ℕ
  pub behind : List ℕ
  pub counted : length held < 2 ^ 64
  pub front : bytes ≡ to_be_bytes w64 (length held) ++ (held ++ behind)
  pub within : ℕ
  pub breaks : Breaks form held within found expected
  pub at : left ≡ within + length behind

-- what stands behind an open gate breaks the layout: the size of the record, or what it holds
abbrev pub RecordBreaks : Form → List ℕ → (left found expected : ℕ) → Type 0
RecordBreaks form bytes left found expected =
    SizeBreaks bytes left found expected ⊎ HeldBreaks form bytes left found expected

-- records that keep their forms: the first makes a store, the others change it
abbrev pub KeepForm : List (List ℕ) → Type 0
KeepForm [] = Unit {0}
KeepForm (first ∷ records) =
    (chain : Chain) × (place : ℕ) × IsChain chain × (place < length chain.names) × (first ≡ made_bytes chain place)
    × (changes : List Change) × AllByRecursion IsChange changes × (records ≡ list_map change_bytes changes)

-- Behind records that keep their forms a gate is open, and what follows breaks the layout at a place: what is found
-- there, and what is expected.
pub record IsDamaged (bytes : List ℕ) (place found expected : ℕ) : Type 0 where
  pub records : List (List ℕ)
  pub rest : List ℕ
  pub parts : bytes ≡ journal_bytes records ++ OPEN ∷ rest
  pub counted : CanBeCounted records
  pub kept : KeepForm records
  pub more : rest ≢ []
  pub left : ℕ
  pub at : place + left ≡ length bytes
  pub breaks : RecordBreaks (next_form records) rest left found expected
