-- The words of a line have neither spaces nor line feeds, so a line has its words alone.
use Rattle.std.specs.Prelude.{◌≡◌, ℕ, ◌<◌, ◌==◌, nat_lt, ◌^◌, Bool, true, false, ◌&&◌, List, [], ◌∷◌, map, Option, Some, None, Ok, refl}
use Rattle.std.specs.Fmt.{decimal}
use Rattle.std.specs.List.{AllByRecursion, All, AllPass, list_all, slice_split}
use Rattle.std.specs.Str.Parse.{AllDigits}
use Rattle.std.proofs.Common.{sym, ap, ◌∙◌, subst, arith}
use Rattle.std.proofs.lemmas.Bool.{and_parts}
use Rattle.std.proofs.lemmas.Bool.Decides.{nat_tests}
use Rattle.std.proofs.lemmas.Fmt.{digits_decimal}
use Rattle.std.proofs.lemmas.List.Elements.{All-nil, All-cons, All-head, All-tail}
use Rattle.std.proofs.lemmas.List.Splits.{slice_split_none, slice_split_at}
use Rattle.std.proofs.lemmas.Str.Parse.{digit_from_value}
use Rattle.hex.specs.Hex.{decode_of, is_hex_digit}
use Rattle.hex.proofs.HexLemmas.{decode_of-ok}
use Rattle.kv_script.specs.declared.keyword.Keyword.{Keyword}
use Rattle.kv_script.specs.declared.keyword.Keyword.TheVariants as keywords
use Rattle.kv_script.specs.declared.line.Line.{Line}
use Rattle.kv_script.specs.declared.line.Line.TheVariants as lines
use Rattle.kv_script.specs.Lines.{IsNumber, IsName, IsOneNumber, IsOneCopy, IsCopyAndNumber, ArePlaces, HasParts, is_name_byte, joined, place_word, strength, word}
use Rattle.kv_script.proofs.Numbers.{digits}

-- all bytes of a word come behind the space
abbrev pub Solid : List ℕ → Type 0
Solid w = list_all (nat_lt 0x20) w ≡ true

-- ---- words

both : (a b : Bool) → a ≡ true → b ≡ true → (a && b) ≡ true
both a b p q = cc

weaker : (p q : ℕ → Bool) → ((c : ℕ) → p c ≡ true → q c ≡ true) → (w : List ℕ) → list_all p w ≡ true → list_all q w ≡ true
weaker p q f [] h = refl
weaker p q f (c ∷ w) h =
    let parts = and_parts (p c) (list_all p w) h in
    both (q c) (list_all q w) (f c parts.0) (weaker p q f w parts.1)

name_byte : (c : ℕ) → is_name_byte c ≡ true → nat_lt 0x20 c ≡ true
name_byte c h = grind (arith, nat_tests)

solid_name : (name : List ℕ) → IsName name → Solid name
solid_name name n = weaker is_name_byte (nat_lt 0x20) name_byte name n.plain

above : (c : ℕ) → 0x20 < c → nat_lt 0x20 c ≡ true
above c h = grind (arith, nat_tests)

solid_digits : (ds : List ℕ) → AllDigits 10 ds → Solid ds
solid_digits [] h = refl
solid_digits (c ∷ ds) h =
    let range = digit_from_value c h.0 in
    both (nat_lt 0x20 c) (list_all (nat_lt 0x20) ds) (above c (omega arith)) (solid_digits ds h.1)

solid_number : (n : ℕ) → n < 2 ^ 64 → Solid (decimal n)
solid_number n h = solid_digits (decimal n) (digits_decimal digits n h)

hex_byte : (c : ℕ) → is_hex_digit c ≡ true → nat_lt 0x20 c ≡ true
hex_byte c h = grind (arith, nat_tests)

all_pass : (p : ℕ → Bool) (w : List ℕ) → AllPass p w → list_all p w ≡ true
all_pass p [] h = refl
all_pass p (c ∷ w) h = both (p c) (list_all p w) (All-head (λ x. p x ≡ true) c w h) (all_pass p w (All-tail (λ x. p x ≡ true) c w h))

solid_hex : (ds bytes : List ℕ) → decode_of ds ≡ Ok bytes → Solid ds
solid_hex ds bytes e = weaker is_hex_digit (nat_lt 0x20) hex_byte ds (all_pass is_hex_digit ds (decode_of-ok ds bytes e).1)

solid_strength : (weak : Bool) → Solid (strength weak)
solid_strength true = refl
solid_strength false = refl

pub solid_word : (k : Keyword) → Solid (word k)
solid_word keywords.Chain = refl
solid_word k = refl

solid_numbers : (ns : List ℕ) → AllByRecursion IsNumber ns → AllByRecursion Solid (map decimal ns)
solid_numbers [] h = tt
solid_numbers (n ∷ ns) h =
    let small : n < 2 ^ 48 = h.0 in
    (solid_number n (omega arith), solid_numbers ns h.1)

solid_places : (names : List (Option (List ℕ))) → ArePlaces names → AllByRecursion Solid (map place_word names)
solid_places [] h = tt
solid_places (None ∷ later) h = (refl, solid_places later h.1)
solid_places (Some name ∷ later) h = (solid_name name h.0.0, solid_places later h.1)

-- ---- parts

AllSolid-same : (ws parts : List (List ℕ)) → parts ≡ ws → AllByRecursion Solid ws → AllByRecursion Solid parts
AllSolid-same ws parts e h = subst (AllByRecursion Solid) (sym e) h

solid_counted : (least : ℕ) (copy : List ℕ) (n : ℕ) (parts : List (List ℕ)) → IsCopyAndNumber least copy n parts → AllByRecursion Solid parts
solid_counted least copy n parts h =
    let small = h.number in
    AllSolid-same _ parts h.words (solid_name copy h.name, (solid_number n (omega arith), tt))

solid_copy : (copy : List ℕ) (parts : List (List ℕ)) → IsOneCopy copy parts → AllByRecursion Solid parts
solid_copy copy parts h = AllSolid-same _ parts h.words (solid_name copy h.name, tt)

solid_one : (n : ℕ) (parts : List (List ℕ)) → IsOneNumber n parts → AllByRecursion Solid parts
solid_one n parts h =
    let small = h.number in
    AllSolid-same _ parts h.words (solid_number n (omega arith), tt)

pub solid_parts : (line : Line) (parts : List (List ℕ)) → HasParts line parts → AllByRecursion Solid parts
solid_parts lines.Comment parts h = AllSolid-same [] parts h tt
solid_parts (lines.Chain names) parts h = AllSolid-same _ parts h.words (solid_places names h.chain.places)
solid_parts (lines.At moment) parts h = solid_one moment parts h
solid_parts (lines.Feed copy connection bytes) parts h =
    let few = h.few in
    AllSolid-same _ parts h.words (solid_name copy h.name, (solid_number connection (omega arith), (solid_hex h.digits bytes h.spelled, tt)))
solid_parts (lines.Deliver message) parts h = solid_one message parts h
solid_parts lines.All parts h = AllSolid-same [] parts h tt
solid_parts (lines.Tick copy) parts h = solid_copy copy parts h
solid_parts (lines.Flush copy) parts h = solid_copy copy parts h
solid_parts (lines.Clean copy most) parts h = solid_counted 1 copy most parts h
solid_parts (lines.Fence copy term) parts h = solid_counted 4 copy term parts h
solid_parts (lines.Promote copy term weak answers) parts h =
    let small = h.number in
    AllSolid-same _ parts h.words (solid_name copy h.name, (solid_number term (omega arith), (solid_strength weak, solid_numbers answers h.numbers)))
solid_parts (lines.Fuse copy after) parts h = solid_counted 1 copy after parts h
solid_parts (lines.Fail copy after) parts h = solid_counted 1 copy after parts h
solid_parts (lines.Crash copy) parts h = solid_copy copy parts h
solid_parts (lines.OpenCopy copy) parts h = solid_copy copy parts h

-- ---- a line's words

-- the test of a space
abbrev pub is_space : ℕ → Bool
is_space b = b == 0x20

no_space : (c : ℕ) → nat_lt 0x20 c ≡ true → is_space c ≡ false
no_space c h = grind (arith, nat_tests)

no_spaces : (w : List ℕ) → Solid w → All (λ c. is_space c ≡ false) w
no_spaces [] h = All-nil (λ c. is_space c ≡ false)
no_spaces (c ∷ w) h =
    let parts = and_parts (nat_lt 0x20 c) (list_all (nat_lt 0x20) w) h in
    All-cons (λ x. is_space x ≡ false) c w (no_space c parts.0) (no_spaces w parts.1)

-- what is joined is split again
pub split_joined : (w : List ℕ) (ws : List (List ℕ)) → Solid w → AllByRecursion Solid ws → slice_split is_space (joined (w ∷ ws)) ≡ w ∷ ws
split_joined w [] h t = slice_split_none is_space w (no_spaces w h)
split_joined w (v ∷ vs) h t =
    slice_split_at is_space w 0x20 (joined (v ∷ vs)) (no_spaces w h) refl ∙ ap (λ l. w ∷ l) (split_joined v vs t.0 t.1)
