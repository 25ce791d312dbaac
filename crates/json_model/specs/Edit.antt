-- What an edit does where a path leads, a line a case, and what a look-up finds there.
use Rattle.std.specs.Prelude.{ℕ, nat_eq, option_map, ◌-◌, ◌+◌, ◌%◌, ◌^◌, List, [], ◌∷◌, ◌++◌, length, drop, Option, Some, None, Result, Ok, Err, Bool, true, false, ◌==◌, nat_lt, ◌&&◌, ◌||◌, if◌then◌else◌, ℤ, pos, neg_ℤ, ◌+ℤ◌, int_lt, int_le}
use Rattle.std.specs.List.{flat_map, list_all, list_any}
use Rattle.std.specs.Fmt.{decimal, signed_decimal}
use Rattle.std.specs.Str.Parse.{digits_value, starts_with_minus}
use Rattle.std.specs.Cmp.Lexicographic.{pointwise}
use Rattle.doc_model.specs.declared.status.Status.{Status}
use Rattle.doc_model.specs.declared.status.TheConstants.Status as status
use Rattle.json_model.specs.declared.kinds.Kind.{Kind}
use Rattle.json_model.specs.declared.kinds.Kind.TheVariants as kinds
use Rattle.json_model.specs.declared.kinds.Shape.TheVariants as shapes
use Rattle.json_model.specs.declared.asked.Part.{Part}
use Rattle.json_model.specs.declared.asked.Part.TheVariants.{Member, At, Last}
use Rattle.json_model.specs.declared.asked.Lookup.{Lookup}
use Rattle.json_model.specs.declared.asked.Lookup.TheVariants as lookups
use Rattle.json_model.specs.declared.asked.Edit.{Edit}
use Rattle.json_model.specs.declared.asked.Edit.TheVariants as edits
use Rattle.json_model.specs.Spelled.{plain, keyed, Tree, leaf, empty, group, Parts, last, more, text, count}
use Rattle.json_model.specs.Follow.{Outcome, reached, missing, mismatch}
use Rattle.json_model.specs.Moves.{Change, put, push, insert, remove}

-- ---- opcodes

-- what stands beside a number in a table
abbrev pub entry_of : {A : Type 0} → List (ℕ × A) → ℕ → Option A
entry_of [] number = None
entry_of (row ∷ rows) number = if row.0 == number then Some row.1 else entry_of rows number

-- the opcodes of look-ups
abbrev pub lookup_of : ℕ → Option Lookup
lookup_of = entry_of ((0xc5, lookups.Get) ∷ (0xc6, lookups.Exists) ∷ (0xd2, lookups.GetCount) ∷ [])

-- the opcodes of edits
abbrev pub edit_of : ℕ → Option Edit
edit_of = entry_of (
    (0xc7, edits.DictAdd) ∷ (0xc8, edits.DictUpsert) ∷ (0xc9, edits.Delete) ∷ (0xca, edits.Replace)
    ∷ (0xcb, edits.ArrayPushLast) ∷ (0xcc, edits.ArrayPushFirst) ∷ (0xcd, edits.ArrayInsert)
    ∷ (0xce, edits.ArrayAddUnique) ∷ (0xcf, edits.Counter) ∷ [])

-- whether the flags of a path let several parts be absent, and made: bit 01
abbrev pub makes_parents : ℕ → Bool
makes_parents flags = flags % 2 == 1

-- ---- new members

-- a hexadecimal digit in lower case
abbrev pub hex_digit : ℕ → ℕ
hex_digit n = if nat_lt n 10 then 0x30 + n else 0x57 + n

-- A byte of a new key: the quotation mark and the reverse solidus stand behind a reverse solidus, what is below 20 is
-- written by its number, and all else as it is.
abbrev pub key_byte : ℕ → List ℕ
key_byte x =
    if x == 0x22 then 0x5c ∷ 0x22 ∷ [] else
    if x == 0x5c then 0x5c ∷ 0x5c ∷ [] else
    if nat_lt x 0x10 then 0x5c ∷ 0x75 ∷ 0x30 ∷ 0x30 ∷ 0x30 ∷ hex_digit x ∷ [] else
    if nat_lt x 0x20 then 0x5c ∷ 0x75 ∷ 0x30 ∷ 0x30 ∷ 0x31 ∷ hex_digit (x - 0x10) ∷ [] else x ∷ []

-- a new key, in quotes
abbrev pub key_text : List ℕ → List ℕ
key_text name = 0x22 ∷ (flat_map key_byte name ++ 0x22 ∷ [])

-- one new member without blanks
abbrev pub member : List ℕ → Tree → Parts
member name tree = last (keyed [] (key_text name) [] []) tree []

-- a value within objects of one member each, the first name outermost
abbrev pub nested : List (List ℕ) → Tree → Tree
nested [] tree = tree
nested (name ∷ names) tree = group shapes.Object (member name (nested names tree))

-- one new element without blanks
abbrev pub element : Tree → Parts
element tree = last (plain []) tree []

-- ---- whole numbers

-- whether a number is one of 64 bits with a sign
abbrev pub fits_i64 : ℤ → Bool
fits_i64 n = int_le (neg_ℤ (pos (2 ^ 63))) n && int_lt n (pos (2 ^ 63))

-- whether a byte is a decimal digit
abbrev pub is_digit : ℕ → Bool
is_digit byte = nat_lt 0x2f byte && nat_lt byte 0x3a

-- the digits behind what may be a minus
abbrev pub magnitude : List ℕ → List ℕ
magnitude s = if starts_with_minus s then drop 1 s else s

-- the whole number that a JSON number is; none where it is spelt with a point or an e
abbrev pub whole_of : List ℕ → Option ℤ
whole_of s =
    if list_all is_digit (magnitude s)
    then Some (if starts_with_minus s then neg_ℤ (pos (digits_value 10 (magnitude s))) else pos (digits_value 10 (magnitude s)))
    else None

-- ---- what is done

-- an edit with what it is given
pub data Asked : Type 0 where
  dict_add : Tree → Asked
  dict_upsert : Tree → Asked
  delete : Asked
  replace : Tree → Asked
  push_last : Parts → Asked
  push_first : Parts → Asked
  array_insert : Parts → Asked
  add_unique : Kind → List ℕ → Asked
  counter : ℤ → Asked

-- a change of the value at the end of a trail, with the number that a counter has come to
pub record Act : Type 0 where
  pub trail : List ℕ
  pub change : Change
  pub number : Option ℤ

-- a change at the end of a trail, which comes to no number
abbrev pub act : List ℕ → Change → Result Act Status
act trail change = Ok (record { trail = trail; change = change; number = None })

-- a trail without its last number
abbrev pub above : List ℕ → List ℕ
above [] = []
above (k ∷ []) = []
above (k ∷ j ∷ ks) = k ∷ above (j ∷ ks)

-- the last number of a trail
abbrev pub final : List ℕ → ℕ
final [] = 0
final (k ∷ []) = k
final (k ∷ j ∷ ks) = final (j ∷ ks)

-- the values of parts, in their order
abbrev pub elements : Parts → List Tree
elements (last head tree gap) = tree ∷ []
elements (more head tree gap parts) = tree ∷ elements parts

-- the elements of an array; nothing else has any
abbrev pub array_elements : Tree → Option (List Tree)
array_elements (leaf kind s) = None
array_elements (empty shapes.Object gap) = None
array_elements (empty shapes.Array gap) = Some []
array_elements (group shapes.Object parts) = None
array_elements (group shapes.Array parts) = Some (elements parts)

-- whether a value holds no others
abbrev pub is_leaf : Tree → Bool
is_leaf (leaf kind s) = true
is_leaf (empty shape gap) = false
is_leaf (group shape parts) = false

-- ---- where the path leads to a value

-- an array gets new elements; another kind is refused
abbrev pub to_array : Option (List Tree) → Result Act Status → Result Act Status
to_array None done = Err status.PATH_MISMATCH
to_array (Some trees) done = done

-- an element whose text none has, in an array that holds no objects and arrays
abbrev pub to_set : Option (List Tree) → List ℕ → Result Act Status → Result Act Status
to_set None s done = Err status.PATH_MISMATCH
to_set (Some trees) s done =
    if list_all is_leaf trees
    then (if list_any (λ t. pointwise nat_eq (text t) s) trees then Err status.PATH_EEXISTS else done)
    else Err status.PATH_MISMATCH

-- a counter's number in place of the one there: both within 64 bits with a sign
abbrev pub counted : List ℕ → ℤ → Option ℤ → Result Act Status
counted trail delta None = Err status.PATH_MISMATCH
counted trail delta (Some n) =
    if fits_i64 n
    then (if fits_i64 (n +ℤ delta)
    then Ok (record { trail = trail; change = put (leaf kinds.Number (signed_decimal (n +ℤ delta))); number = Some (n +ℤ delta) })
    else Err status.VALUE_CANT_INSERT)
    else Err status.NUM_ERANGE

-- the whole number that a value is
abbrev pub number_of : Tree → Option ℤ
number_of (leaf kinds.Number s) = whole_of s
number_of (leaf other s) = None
number_of (empty shape gap) = None
number_of (group shape parts) = None

-- each edit, at this value
abbrev pub at_value : Asked → List ℕ → Tree → Result Act Status
at_value (dict_add v) trail old = Err status.PATH_EEXISTS
at_value (dict_upsert v) trail old = act trail (put v)
at_value delete trail old = act (above trail) (remove (final trail))
at_value (replace v) trail old = act trail (put v)
at_value (push_last vs) trail old = to_array (array_elements old) (act trail (push vs))
at_value (push_first vs) trail old = to_array (array_elements old) (act trail (insert 0 vs))
at_value (array_insert vs) trail old = act (above trail) (insert (final trail) vs)
at_value (add_unique kind s) trail old = to_set (array_elements old) s (act trail (push (element (leaf kind s))))
at_value (counter delta) trail old = counted trail delta (number_of old)

-- ---- where parts of the path name nothing

-- names, where all parts are
abbrev pub names_of : List Part → Option (List (List ℕ))
names_of [] = Some []
names_of (Member name ∷ ps) = option_map (λ names. name ∷ names) (names_of ps)
names_of (At n ∷ ps) = None
names_of (Last ∷ ps) = None

-- a value under these names as a new member of the value at the end of a trail
abbrev pub made : List ℕ → Tree → Option (List (List ℕ)) → Result Act Status
made trail v None = Err status.PATH_ENOENT
made trail v (Some []) = Err status.PATH_ENOENT
made trail v (Some (name ∷ names)) = act trail (push (member name (nested names v)))

-- what is absent is made where it may be, and all of it is names
abbrev pub make : Bool → List ℕ → List Part → Tree → Result Act Status
make may trail absent v = if may then made trail v (names_of absent) else Err status.PATH_ENOENT

-- a counter that begins at its delta
abbrev pub with_number : ℤ → Result Act Status → Result Act Status
with_number n (Ok a) = Ok (record { trail = a.trail; change = a.change; number = Some n })
with_number n (Err s) = Err s

-- elements at the end of an array, where the index is how many there are
abbrev pub at_length : Parts → List ℕ → Option (List Tree) → List Part → Result Act Status
at_length vs trail (Some trees) (At n ∷ []) = if n == length trees then act trail (push vs) else Err status.PATH_ENOENT
at_length vs trail trees absent = Err status.PATH_ENOENT

-- Whether several parts may be absent is `several`; the last one alone may be, where one value is added to an object.
abbrev pub at_gap : Asked → Bool → List ℕ → Tree → List Part → Result Act Status
at_gap (dict_add v) several trail parent absent = make (several || length absent == 1) trail absent v
at_gap (dict_upsert v) several trail parent absent = make (several || length absent == 1) trail absent v
at_gap delete several trail parent absent = Err status.PATH_ENOENT
at_gap (replace v) several trail parent absent = Err status.PATH_ENOENT
at_gap (push_last vs) several trail parent absent = make several trail absent (group shapes.Array vs)
at_gap (push_first vs) several trail parent absent = make several trail absent (group shapes.Array vs)
at_gap (array_insert vs) several trail parent absent = at_length vs trail (array_elements parent) absent
at_gap (add_unique kind s) several trail parent absent = make several trail absent (group shapes.Array (element (leaf kind s)))
at_gap (counter delta) several trail parent absent = with_number delta (make (several || length absent == 1) trail absent (leaf kinds.Number (signed_decimal delta)))

-- what is done where following the path has this outcome
abbrev pub act_at : Asked → Bool → Outcome → Result Act Status
act_at asked several (reached trail tree) = at_value asked trail tree
act_at asked several (missing trail parent absent) = at_gap asked several trail parent absent
act_at asked several (mismatch d) = Err status.PATH_MISMATCH

-- ---- look-ups

-- what a look-up finds in a value: its text, nothing, or how many members or elements it has
abbrev pub looked : Lookup → Tree → Result (List ℕ) Status
looked lookups.Get tree = Ok (text tree)
looked lookups.Exists tree = Ok []
looked lookups.GetCount (leaf kind s) = Err status.PATH_MISMATCH
looked lookups.GetCount (empty shape gap) = Ok (decimal 0)
looked lookups.GetCount (group shape parts) = Ok (decimal (count parts))

-- what a look-up finds where following the path has this outcome
abbrev pub look_at : Lookup → Outcome → Result (List ℕ) Status
look_at lookup (reached trail tree) = looked lookup tree
look_at lookup (missing trail parent absent) = Err status.PATH_ENOENT
look_at lookup (mismatch d) = Err status.PATH_MISMATCH
