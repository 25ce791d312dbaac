-- How long the object of attributes is beside their section.
use Rattle.std.specs.Prelude.{◌≡◌, ℕ, zero, suc, ◌+◌, ◌-◌, ◌*◌, ◌≤◌, nat_eq, nat_lt, ◌==◌, Bool, true, false, List, [], ◌∷◌, length, take, drop, position, Option, Some, None, Result, Ok, Err, nat_le, if◌then◌else◌, refl}
use Rattle.std.specs.List.{flat_map}
use Rattle.std.specs.Option.{option_map_or}
use Rattle.std.specs.Int.{w32}
use Rattle.std.proofs.Common.{ap, arith, subst}
use Rattle.std.proofs.lemmas.List.{length-append, length-take, length-drop}
use Rattle.std.proofs.lemmas.Bool.{ltb-false, leb-true}
use Rattle.kv_edge.specs.Fields.{◌>>=◌, number_at, bytes_at}
use Rattle.doc_model.specs.declared.status.Status.{Status}
use Rattle.doc_model.specs.declared.status.TheConstants.Status as status
use Rattle.json_model.specs.declared.asked.Lookup.{Lookup}
use Rattle.json_model.specs.declared.asked.Edit.{Edit}
use Rattle.json_model.specs.Edit.{key_byte, key_text}
use Rattle.subdoc_step.specs.Answers.{looked_up, edited}
use Rattle.subdoc_step.proofs.Went.{gave}
use Rattle.subdoc_step.proofs.Within.{found_within}
use Rattle.subdoc_step.proofs.Numbers.{number_bytes, edited_short}
use Rattle.xattr_body.specs.declared.TheConstants.{SECTION_LIMIT}
use Rattle.xattr_body.specs.Section.{Pair, section_of}
use Rattle.xattr_body.specs.Pairs.{pair_in, pair_at, and_more, pairs_from, pairs_in}
use Rattle.xattr_step.specs.Answers.{read_attribute, looked_up_in, EditedPairs, text_at, with_text, edited_in}
use Rattle.xattr_step.specs.Object.{member_text, further_text, members_text, object_text}

-- ---- keys

-- either of two texts has at most so many bytes
either_short : (b : Bool) (most : ℕ) (x y : List ℕ) → length x ≤ most → length y ≤ most → length (if b then x else y) ≤ most
either_short true most x y h k = h
either_short false most x y h k = k

byte_short : (x : ℕ) → length (key_byte x) ≤ 6
byte_short x =
    either_short (x == 0x22) 6 _ _ (omega arith)
    (either_short (x == 0x5c) 6 _ _ (omega arith)
    (either_short (nat_lt x 0x10) 6 _ _ (omega arith)
    (either_short (nat_lt x 0x20) 6 _ _ (omega arith) (omega arith))))

bytes_short : (name : List ℕ) → length (flat_map key_byte name) ≤ 6 * length name
bytes_short [] = omega arith
bytes_short (x ∷ xs) = omega (arith, length-append (key_byte x) (flat_map key_byte xs), byte_short x, bytes_short xs)

key_short : (name : List ℕ) → length (key_text name) ≤ 6 * length name + 2
key_short name = omega (arith, length-append (flat_map key_byte name) (0x22 ∷ []), bytes_short name)

-- a member has at most six bytes for each of its name's, and its text
member_short : (pair : Pair) → length (member_text pair) ≤ 6 * length pair.0 + (length pair.1 + 3)
member_short pair = omega (arith, length-append (key_text pair.0) (0x3a ∷ pair.1), key_short pair.0)

-- ---- pairs that are read

same : {A : Type 0} (x y : A) → Some x ≡ Some y → x ≡ y
same {A} x y e = cc

-- a reading that went well, and what went on from it
record Read {A B : Type 0} (r : Option A) (go : A → Option B) (y : B) : Type 0 where
  value : A
  is : r ≡ Some value
  then_is : go value ≡ Some y

read : {A B : Type 0} (r : Option A) (go : A → Option B) (y : B) → (r >>= go) ≡ Some y → Read r go y
read (Some x) go y e = record { value = x; is = refl; then_is = e }
read {A} {B} None go y e = absurd (none_no y e)
  where
    none_no : (y : B) → None ≡ Some y → ⊥
    none_no y e = cc

-- the bytes before a place and those behind the one after it, but for the last, are no more than all
cut_short : (at : ℕ) (body : List ℕ) → length (take at body) + length (take (length body - (at + 2)) (drop (at + 1) body)) ≤ length body
cut_short at body =
    omega (arith, length-take at body, length-take (length body - (at + 2)) (drop (at + 1) body), length-drop (at + 1) body)

-- the name and the text of a pair are no longer than what it is read from
pair_short : (body : List ℕ) (pair : Pair) → pair_in body ≡ Some pair → length pair.0 + length pair.1 ≤ length body
unfolding pair_in
pair_short body pair e =
    let at = read (position (λ byte. nat_eq byte 0) body) _ pair e in
    let P : Pair → Type 0 = λ pair. length pair.0 + length pair.1 ≤ length body in
    subst P (same _ pair at.then_is) (cut_short at.value body)

-- ..and with what follows it no longer than the bytes at whose front it is read, less its length's
record IsShortPair (bytes : List ℕ) (pair : Pair) (rest : List ℕ) : Type 0 where
  fits : 4 + (length pair.0 + length pair.1) + length rest ≤ length bytes

number_short : (bytes : List ℕ) (b : Bool) (n : ℕ) (x : ℕ × List ℕ) → nat_lt (length bytes) 4 ≡ b → (if b then None else Some (n, drop 4 bytes)) ≡ Some x → length x.1 + 4 ≤ length bytes
number_short bytes true n x t e = absurd (cc)
number_short bytes false n x t e =
    let rest : drop 4 bytes ≡ x.1 = ap (λ (y : ℕ × List ℕ). y.1) (same (n, drop 4 bytes) x e) in
    omega (arith, length-drop 4 bytes, ap length rest, ltb-false (length bytes) 4 t)

cut_of : (bytes : List ℕ) (n : ℕ) (b : Bool) (x : List ℕ × List ℕ) → nat_lt (length bytes) n ≡ b → (if b then None else Some (take n bytes, drop n bytes)) ≡ Some x → length x.0 + length x.1 ≤ length bytes
cut_of bytes n true x t e = absurd (cc)
cut_of bytes n false x t e =
    let front : take n bytes ≡ x.0 = ap (λ (y : List ℕ × List ℕ). y.0) (same (take n bytes, drop n bytes) x e) in
    let rest : drop n bytes ≡ x.1 = ap (λ (y : List ℕ × List ℕ). y.1) (same (take n bytes, drop n bytes) x e) in
    omega (arith, length-take n bytes, length-drop n bytes, ap length front, ap length rest)

at_short : (bytes : List ℕ) (found : Pair × List ℕ) → pair_at bytes ≡ Some found → IsShortPair bytes found.0 found.1
unfolding pair_at
at_short bytes found e =
    let size = read (number_at w32 bytes) _ found e in
    let body = read (bytes_at size.value.0 size.value.1) _ found size.then_is in
    let pair = read (pair_in body.value.0) _ found body.then_is in
    let is : (pair.value, body.value.1) ≡ found = same (pair.value, body.value.1) found pair.then_is in
    let first : pair.value ≡ found.0 = ap (λ (y : Pair × List ℕ). y.0) is in
    let rest : body.value.1 ≡ found.1 = ap (λ (y : Pair × List ℕ). y.1) is in
    let a = number_short bytes _ _ size.value refl size.is in
    let b = cut_of size.value.1 size.value.0 _ body.value refl body.is in
    let c = pair_short body.value.0 pair.value pair.is in
    record { fits = omega (arith, a, b, c, ap (λ (p : Pair). length p.0) first, ap (λ (p : Pair). length p.1) first, ap length rest) }

-- ---- all of them

and_more_short : (most : ℕ) (bytes : List ℕ) (found : Option (Pair × List ℕ)) → pair_at bytes ≡ found
    → ((rest : List ℕ) → length (further_text (pairs_from most rest)) ≤ 6 * length rest)
    → length (further_text (and_more found (λ rest. pairs_from most rest))) ≤ 6 * length bytes
and_more_short most bytes None e h = omega arith
and_more_short most bytes (Some found) e h =
    omega (arith, length-append (member_text found.0) (further_text (pairs_from most found.1)), member_short found.0, h found.1, (at_short bytes found e).fits)

from_short : (most : ℕ) (bytes : List ℕ) → length (further_text (pairs_from most bytes)) ≤ 6 * length bytes
unfolding pairs_from
from_short zero bytes = omega arith
from_short (suc most) bytes = and_more_short most bytes (pair_at bytes) refl (from_short most)

without_comma : (pairs : List Pair) → length (members_text pairs) ≤ length (further_text pairs)
without_comma [] = omega arith
without_comma (pair ∷ more) = omega arith

behind_short : (bytes : List ℕ) (size : Option (ℕ × List ℕ)) → number_at w32 bytes ≡ size
    → length (further_text (option_map_or (λ x. pairs_from (length bytes) x.1) size [])) ≤ 6 * length bytes
behind_short bytes None e = omega arith
behind_short bytes (Some x) e = omega (arith, from_short (length bytes) x.1, number_short bytes _ _ x refl e)

-- the object of the attributes whose section bytes are has at most six bytes for each of them, and two more
pub object_short : (bytes : List ℕ) → length (object_text (pairs_in bytes)) ≤ 6 * length bytes + 2
unfolding object_text pairs_in
object_short bytes =
    omega (arith, behind_short bytes (number_at w32 bytes) refl, without_comma (option_map_or (λ x. pairs_from (length bytes) x.1) (number_at w32 bytes) []), length-append (members_text (option_map_or (λ x. pairs_from (length bytes) x.1) (number_at w32 bytes) [])) (0x7d ∷ []))

-- ---- answers

-- what a look-up finds has no more bytes than the object and a number's digits
pub looked_short : (lookup : Lookup) (pairs : List Pair) (path found : List ℕ) → looked_up_in lookup pairs path ≡ Ok found → length found ≤ length (object_text pairs) + 20
unfolding looked_up_in
looked_short lookup pairs path found e =
    let name = gave (read_attribute path) (λ name. looked_up lookup (object_text pairs) path) found e in
    found_within lookup (object_text pairs) path found name.then_is

-- what an edit leaves has a section of at most so many bytes, and a number of at most 21
pub record IsShortEdit (made : EditedPairs) : Type 0 where
  pub section : length (section_of made.pairs) ≤ SECTION_LIMIT
  pub number : length (number_bytes made.number) ≤ 21

-- of an answer that isn't a refusal
abbrev IsShortAnswer : Result EditedPairs Status → Type 0
IsShortAnswer (Ok made) = IsShortEdit made
IsShortAnswer (Err refusing) = Unit {0}

fitting_short : (b : Bool) (made : EditedPairs) → nat_le (length (section_of made.pairs)) SECTION_LIMIT ≡ b → length (number_bytes made.number) ≤ 21
    → IsShortAnswer (if b then Ok made else Err status.E2BIG)
fitting_short true made t n = record { section = leb-true (length (section_of made.pairs)) SECTION_LIMIT t; number = n }
fitting_short false made t n = tt

pub edit_short : (edit : Edit) (several : Bool) (pairs : List Pair) (path value : List ℕ) (made : EditedPairs) → edited_in edit several pairs path value ≡ Ok made → IsShortEdit made
unfolding edited_in
edit_short edit several pairs path value made is =
    let name = gave (read_attribute path) _ made is in
    let e = gave (edited edit several (object_text pairs) path value) _ made name.then_is in
    let left : EditedPairs = record { pairs = with_text name.value pairs (text_at name.value e.value.text); number = e.value.number } in
    let P : Result EditedPairs Status → Type 0 = λ r. IsShortAnswer r in
    subst P e.then_is (fitting_short _ left refl (edited_short edit several (object_text pairs) path value e.value e.is).number)
