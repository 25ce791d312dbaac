-- A new key is a string of JSON that stands for its name, where that is UTF-8.
use Rattle.std.proofs.Common.{◌≡◌, ℕ, ◌+◌, ◌-◌, ◌*◌, ◌/◌, ◌%◌, ◌<◌, ◌≤◌, List, [], ◌∷◌, ◌++◌, map, Bool, true, false, cond, Option, Some, None, ◌⊎◌, inl, inr, refl, sym, ap, subst, ◌∙◌, arith, append-nil}
use Rattle.std.specs.Prelude.{IsUtf8, ◌==◌, ◌&&◌}
use Rattle.std.specs.List.{flat_map, AllByRecursion}
use Rattle.std.proofs.lemmas.List.Concat.{flat_map-append}
use Rattle.std.proofs.lemmas.Bool.{cases_eq, cases_lt}
use Rattle.std.proofs.lemmas.Bool.Decides.{nat_tests}
use lib.Utf8.{scalar, scalars, encode, encodes, scalar_cases}
use Rattle.json_model.specs.Grammar.{IsTail, BeginsThree, BeginsFour, IsUtf8Character, IsPlain, IsHex, IsCharacter, quoted, IsString}
use Rattle.json_model.specs.Decoding.{escaped, hex, character, unit, unit_of, join, decode_unit, decode, StandsFor}
use Rattle.json_model.specs.Edit.{hex_digit, key_byte, key_text}

-- ---- one character

-- the bytes of a key for a character are one character or escape, which stands for it
pub record IsKeyOf (spelled bytes : List ℕ) : Type 0 where
  pub fits : IsCharacter spelled
  pub stands : (rest : Option ℕ → Option (List ℕ)) → decode_unit None (unit_of spelled) rest ≡ join bytes (rest None)

high_byte : (x : ℕ) → 0x80 ≤ x → key_byte x ≡ x ∷ []
high_byte x h = grind (arith, nat_tests)

plain_byte : (x : ℕ) → 0x20 ≤ x → (x ≡ 0x22 → ⊥) → (x ≡ 0x5c → ⊥) → key_byte x ≡ x ∷ []
plain_byte x h a b = grind (arith, nat_tests)

low_byte : (x : ℕ) → x < 0x10 → key_byte x ≡ 0x5c ∷ 0x75 ∷ 0x30 ∷ 0x30 ∷ 0x30 ∷ hex_digit x ∷ []
low_byte x h = grind (arith, nat_tests)

second_byte : (x : ℕ) → 0x10 ≤ x → x < 0x20 → key_byte x ≡ 0x5c ∷ 0x75 ∷ 0x30 ∷ 0x30 ∷ 0x31 ∷ hex_digit (x - 0x10) ∷ []
second_byte x a h = grind (arith, nat_tests)

digit_is : (n : ℕ) → n < 16 → hex (hex_digit n) ≡ n
digit_is n h = grind (arith, nat_tests)

digit_small : (n : ℕ) → n < 10 → hex_digit n ≡ 0x30 + n
digit_small n h = grind (arith, nat_tests)

digit_large : (n : ℕ) → 10 ≤ n → hex_digit n ≡ 0x57 + n
digit_large n h = grind (arith, nat_tests)

digit_fits : (n : ℕ) → n < 16 → IsHex (hex_digit n)
digit_fits n h = elim (cases_lt n 10) [
  | inl low ↦ inl (record { low = omega (arith, digit_small n low); high = omega (arith, digit_small n low) })
  | inr high ↦ inr (inr (record { low = omega (arith, digit_large n high); high = omega (arith, digit_large n high) }))
]

zero_fits : IsHex 0x30
zero_fits = inl (record { low = omega arith; high = omega arith })

one_fits : IsHex 0x31
one_fits = inl (record { low = omega arith; high = omega arith })

low_unit : (n x : ℕ) (rest : Option ℕ → Option (List ℕ)) → n ≡ x → x < 0x80 → decode_unit None (unit n) rest ≡ join (x ∷ []) (rest None)
low_unit n x rest e h = grind (arith, nat_tests)

-- a character of several bytes, each of which is written as it is
two_bytes : (a b : ℕ) → 0x80 ≤ a → 0x80 ≤ b → flat_map key_byte (a ∷ b ∷ []) ≡ a ∷ b ∷ []
two_bytes a b ha hb = ap (λ (l : List ℕ). l ++ (key_byte b ++ [])) (high_byte a ha) ∙ ap (λ (l : List ℕ). a ∷ (l ++ [])) (high_byte b hb)

three_bytes : (a b c : ℕ) → 0x80 ≤ a → 0x80 ≤ b → 0x80 ≤ c → flat_map key_byte (a ∷ b ∷ c ∷ []) ≡ a ∷ b ∷ c ∷ []
three_bytes a b c ha hb hc = ap (λ (l : List ℕ). l ++ flat_map key_byte (b ∷ c ∷ [])) (high_byte a ha) ∙ ap (λ (l : List ℕ). a ∷ l) (two_bytes b c hb hc)

four_bytes : (a b c d : ℕ) → 0x80 ≤ a → 0x80 ≤ b → 0x80 ≤ c → 0x80 ≤ d → flat_map key_byte (a ∷ b ∷ c ∷ d ∷ []) ≡ a ∷ b ∷ c ∷ d ∷ []
four_bytes a b c d ha hb hc hd = ap (λ (l : List ℕ). l ++ flat_map key_byte (b ∷ c ∷ d ∷ [])) (high_byte a ha) ∙ ap (λ (l : List ℕ). a ∷ l) (three_bytes b c d hb hc hd)

three_high : (a b : ℕ) → BeginsThree a b → (0x80 ≤ a) × (0x80 ≤ b)
three_high a b (inl h) = (omega (arith, h.0), omega (arith, h.1.low))
three_high a b (inr (inl h)) = (omega (arith, h.0.low), h.1.low)
three_high a b (inr (inr (inl h))) = (omega (arith, h.0), h.1.low)
three_high a b (inr (inr (inr h))) = (omega (arith, h.0.low), h.1.low)

four_high : (a b : ℕ) → BeginsFour a b → (0x80 ≤ a) × (0x80 ≤ b)
four_high a b (inl h) = (omega (arith, h.0), omega (arith, h.1.low))
four_high a b (inr (inl h)) = (omega (arith, h.0.low), h.1.low)
four_high a b (inr (inr h)) = (omega (arith, h.0), h.1.low)

pair_stands : (a b : ℕ) (rest : Option ℕ → Option (List ℕ)) → 0x80 ≤ a → decode_unit None (unit_of (a ∷ b ∷ [])) rest ≡ join (a ∷ b ∷ []) (rest None)
pair_stands a b rest h = ap (λ (t : Bool). decode_unit None (cond t (character (escaped b ∷ [])) (character (a ∷ b ∷ []))) rest) (other a h)
  where
    other : (a : ℕ) → 0x80 ≤ a → (a == 0x5c) ≡ false
    other a h = grind (arith, nat_tests)

as_key : (spelled other bytes : List ℕ) → spelled ≡ other → IsKeyOf other bytes → IsKeyOf spelled bytes
as_key spelled other bytes e k = subst (λ (l : List ℕ). IsKeyOf l bytes) (sym e) k

-- what stands behind a reverse solidus
quote_key : IsKeyOf (0x5c ∷ 0x22 ∷ []) (0x22 ∷ [])
quote_key = record { fits = inr (refl, inl refl); stands = λ rest. refl }

solidus_key : IsKeyOf (0x5c ∷ 0x5c ∷ []) (0x5c ∷ [])
solidus_key = record { fits = inr (refl, inr (inl refl)); stands = λ rest. refl }

number_key : (high low x : ℕ) → IsHex high → IsHex low → 4096 * hex 0x30 + 256 * hex 0x30 + 16 * hex high + hex low ≡ x → x < 0x80 → IsKeyOf (0x5c ∷ 0x75 ∷ 0x30 ∷ 0x30 ∷ high ∷ low ∷ []) (x ∷ [])
number_key high low x h l e small = record {
  fits = (refl, refl, zero_fits, zero_fits, h, l);
  stands = λ rest. low_unit (4096 * hex 0x30 + 256 * hex 0x30 + 16 * hex high + hex low) x rest e small;
}

above_of : (x n : ℕ) → n ≤ x → (x ≡ n → ⊥) → n + 1 ≤ x
above_of x n h ne = omega arith

plain_key : (x : ℕ) → 0x20 ≤ x → x ≤ 0x7f → (x ≡ 0x22 → ⊥) → (x ≡ 0x5c → ⊥) → IsKeyOf (x ∷ []) (x ∷ [])
plain_key x low high a b = record { fits = plain x low high a b; stands = λ rest. refl }
  where
    plain : (x : ℕ) → 0x20 ≤ x → x ≤ 0x7f → (x ≡ 0x22 → ⊥) → (x ≡ 0x5c → ⊥) → IsPlain x
    plain x low high a b = elim (cases_lt x 0x22) [
      | inl below ↦ inl (record { low = low; high = omega arith })
      | inr above ↦ elim (cases_lt x 0x5c) [
        | inl below ↦ inr (inl (record { low = above_of x 0x22 above a; high = omega arith }))
        | inr higher ↦ inr (inr (record { low = above_of x 0x5c higher b; high = high }))
      ]
    ]

one_key : (x : ℕ) → x ≤ 0x7f → IsKeyOf (key_byte x) (x ∷ [])
one_key x small = elim (cases_eq x 0x22) [
  | inl e ↦ subst (λ (y : ℕ). IsKeyOf (key_byte y) (y ∷ [])) (sym e) quote_key
  | inr no_quote ↦ elim (cases_eq x 0x5c) [
    | inl e ↦ subst (λ (y : ℕ). IsKeyOf (key_byte y) (y ∷ [])) (sym e) solidus_key
    | inr no_solidus ↦ elim (cases_lt x 0x20) [
      | inl control ↦ control_key x control
      | inr plain ↦ as_key (key_byte x) (x ∷ []) (x ∷ []) (plain_byte x plain no_quote no_solidus) (plain_key x plain small no_quote no_solidus)
    ]
  ]
]
  where
    control_key : (x : ℕ) → x < 0x20 → IsKeyOf (key_byte x) (x ∷ [])
    control_key x h = elim (cases_lt x 0x10) [
      | inl low ↦ as_key (key_byte x) (0x5c ∷ 0x75 ∷ 0x30 ∷ 0x30 ∷ 0x30 ∷ hex_digit x ∷ []) (x ∷ []) (low_byte x low) (number_key 0x30 (hex_digit x) x zero_fits (digit_fits x low) (omega (arith, digit_is x low)) (omega (arith, h)))
      | inr high ↦ as_key (key_byte x) (0x5c ∷ 0x75 ∷ 0x30 ∷ 0x30 ∷ 0x31 ∷ hex_digit (x - 0x10) ∷ []) (x ∷ []) (second_byte x high h)
          (number_key 0x31 (hex_digit (x - 0x10)) x one_fits (digit_fits (x - 0x10) (omega (arith, h))) (omega (arith, digit_is (x - 0x10) (omega (arith, h)), high)) (omega (arith, h)))
    ]

-- each character of UTF-8
character_key : (bytes : List ℕ) → IsUtf8Character bytes → IsKeyOf (flat_map key_byte bytes) bytes
character_key [] h = absurd h
character_key (a ∷ []) h = as_key (key_byte a ++ []) (key_byte a) (a ∷ []) (append-nil (key_byte a)) (one_key a h)
character_key (a ∷ b ∷ []) h =
    as_key (flat_map key_byte (a ∷ b ∷ [])) (a ∷ b ∷ []) (a ∷ b ∷ []) (two_bytes a b (omega (arith, h.0.low)) h.1.low)
    (record { fits = inl h; stands = λ rest. pair_stands a b rest (omega (arith, h.0.low)) })
character_key (a ∷ b ∷ c ∷ []) h =
    let high = three_high a b h.0 in
    as_key (flat_map key_byte (a ∷ b ∷ c ∷ [])) (a ∷ b ∷ c ∷ []) (a ∷ b ∷ c ∷ []) (three_bytes a b c high.0 high.1 h.1.low) (record { fits = h; stands = λ rest. refl })
character_key (a ∷ b ∷ c ∷ d ∷ []) h =
    let high = four_high a b h.0 in
    as_key (flat_map key_byte (a ∷ b ∷ c ∷ d ∷ [])) (a ∷ b ∷ c ∷ d ∷ []) (a ∷ b ∷ c ∷ d ∷ []) (four_bytes a b c d high.0 high.1 h.1.low h.2.low) (record { fits = h; stands = λ rest. refl })
character_key (a ∷ b ∷ c ∷ d ∷ e ∷ more) h = absurd h

-- ---- a name of characters

-- the bytes of characters, one behind the other
abbrev pub characters_bytes : List (List ℕ) → List ℕ
characters_bytes cs = flat_map (λ c. c) cs

-- what is written for each character
abbrev written : List (List ℕ) → List (List ℕ)
written cs = map (λ c. flat_map key_byte c) cs

written_bytes : (cs : List (List ℕ)) → flat_map key_byte (characters_bytes cs) ≡ characters_bytes (written cs)
written_bytes [] = refl
written_bytes (c ∷ cs) = flat_map-append key_byte c (characters_bytes cs) ∙ ap (λ (l : List ℕ). flat_map key_byte c ++ l) (written_bytes cs)

written_fits : (cs : List (List ℕ)) → AllByRecursion IsUtf8Character cs → AllByRecursion IsCharacter (written cs)
written_fits [] h = tt
written_fits (c ∷ cs) h = ((character_key c h.0).fits, written_fits cs h.1)

written_stands : (cs : List (List ℕ)) → AllByRecursion IsUtf8Character cs → decode None (written cs) ≡ Some (characters_bytes cs)
unfolding decode
written_stands [] h = refl
written_stands (c ∷ cs) h =
    (character_key c h.0).stands (λ next. decode next (written cs)) ∙ ap (join c) (written_stands cs h.1)

key_is : (cs : List (List ℕ)) → key_text (characters_bytes cs) ≡ quoted (written cs)
key_is cs = ap (λ (l : List ℕ). 0x22 ∷ (l ++ 0x22 ∷ [])) (written_bytes cs)

-- a new key is a string that stands for its name
pub key_stands_for_characters : (cs : List (List ℕ)) → AllByRecursion IsUtf8Character cs → StandsFor (key_text (characters_bytes cs)) (characters_bytes cs)
key_stands_for_characters cs h = (written cs, written_fits cs h, key_is cs, written_stands cs h)

pub key_is_string_of_characters : (cs : List (List ℕ)) → AllByRecursion IsUtf8Character cs → IsString (key_text (characters_bytes cs))
key_is_string_of_characters cs h = (written cs, written_fits cs h, key_is cs)

-- ---- names in UTF-8

-- the bytes of a character's number
row_one : (c : ℕ) → c < 128 → encode c ≡ c ∷ []
unfolding encode
row_one c h = grind (arith, nat_tests)

row_two : (c : ℕ) → 128 ≤ c → c < 2048 → encode c ≡ (192 + c / 64) ∷ (128 + c % 64) ∷ []
unfolding encode
row_two c a h = grind (arith, nat_tests)

row_three : (c : ℕ) → 2048 ≤ c → c < 65536 → encode c ≡ (224 + c / 4096) ∷ (128 + c / 64 % 64) ∷ (128 + c % 64) ∷ []
unfolding encode
row_three c a h = grind (arith, nat_tests)

row_four : (c : ℕ) → 65536 ≤ c → encode c ≡ (240 + c / 262144) ∷ (128 + c / 4096 % 64) ∷ (128 + c / 64 % 64) ∷ (128 + c % 64) ∷ []
unfolding encode
row_four c a = grind (arith, nat_tests)

tail_is : (n : ℕ) → IsTail (128 + n % 64)
tail_is n = record { low = omega arith; high = omega arith }

three_begin : (c : ℕ) → 2048 ≤ c → c < 65536 → (c < 55296) ⊎ ((57344 ≤ c) × (c < 1114112)) → BeginsThree (224 + c / 4096) (128 + c / 64 % 64)
three_begin c a h (inl low) = elim (cases_lt c 4096) [
  | inl first ↦ inl (omega (arith, first), record { low = omega (arith, first, a); high = omega arith })
  | inr more ↦ elim (cases_lt c 53248) [
    | inl below ↦ inr (inl (record { low = omega (arith, more); high = omega (arith, below) }, tail_is (c / 64)))
    | inr above ↦ inr (inr (inl (omega (arith, above, low), record { low = omega arith; high = omega (arith, above, low) })))
  ]
]
three_begin c a h (inr high) = inr (inr (inr (record { low = omega (arith, high.0); high = omega (arith, h) }, tail_is (c / 64))))

four_begin : (c : ℕ) → 65536 ≤ c → c < 1114112 → BeginsFour (240 + c / 262144) (128 + c / 4096 % 64)
four_begin c a h = elim (cases_lt c 262144) [
  | inl first ↦ inl (omega (arith, first), record { low = omega (arith, first, a); high = omega arith })
  | inr more ↦ elim (cases_lt c 1048576) [
    | inl below ↦ inr (inl (record { low = omega (arith, more); high = omega (arith, below) }, tail_is (c / 4096)))
    | inr above ↦ inr (inr (omega (arith, above, h), record { low = omega arith; high = omega (arith, above, h) }))
  ]
]

as_character : (bytes other : List ℕ) → bytes ≡ other → IsUtf8Character other → IsUtf8Character bytes
as_character bytes other e h = subst (λ (l : List ℕ). IsUtf8Character l) (sym e) h

scalar_below : (c : ℕ) → 65536 ≤ c → (c < 55296) ⊎ ((57344 ≤ c) × (c < 1114112)) → c < 1114112
scalar_below c a (inl h) = absurd (omega (arith, a, h))
scalar_below c a (inr h) = h.1

encode_character : (c : ℕ) → scalar c ≡ true → IsUtf8Character (encode c)
encode_character c is =
    let ranges = scalar_cases c is in
    elim (cases_lt c 128) [
      | inl one ↦ as_character (encode c) (c ∷ []) (row_one c one) (omega (arith, one))
      | inr past_one ↦ elim (cases_lt c 2048) [
        | inl two ↦ as_character (encode c) ((192 + c / 64) ∷ (128 + c % 64) ∷ []) (row_two c past_one two) (record { low = omega (arith, past_one); high = omega (arith, two) }, tail_is c)
        | inr past_two ↦ elim (cases_lt c 65536) [
          | inl three ↦ as_character (encode c) ((224 + c / 4096) ∷ (128 + c / 64 % 64) ∷ (128 + c % 64) ∷ []) (row_three c past_two three) (three_begin c past_two three ranges, tail_is c)
          | inr four ↦ as_character (encode c) ((240 + c / 262144) ∷ (128 + c / 4096 % 64) ∷ (128 + c / 64 % 64) ∷ (128 + c % 64) ∷ []) (row_four c four)
              (four_begin c four (scalar_below c four ranges), tail_is (c / 64), tail_is c)
        ]
      ]
    ]

-- the characters of these numbers
abbrev encoded : List ℕ → List (List ℕ)
encoded cs = map encode cs

encoded_bytes : (cs : List ℕ) → characters_bytes (encoded cs) ≡ encodes cs
encoded_bytes [] = refl
encoded_bytes (c ∷ cs) = ap (λ (l : List ℕ). encode c ++ l) (encoded_bytes cs)

both : (a b : Bool) → (a && b) ≡ true → (a ≡ true) × (b ≡ true)
both true b e = (refl, e)
both false b e = cc

encoded_fits : (cs : List ℕ) → scalars cs ≡ true → AllByRecursion IsUtf8Character (encoded cs)
encoded_fits [] is = tt
encoded_fits (c ∷ cs) is = let p = both (scalar c) (scalars cs) is in (encode_character c p.0, encoded_fits cs p.1)

-- bytes in UTF-8 are characters one behind the other
pub utf8_characters : (name : List ℕ) → IsUtf8 name → (cs : List (List ℕ)) × AllByRecursion IsUtf8Character cs × (characters_bytes cs ≡ name)
utf8_characters name u = (encoded u.0, encoded_fits u.0 u.1.0, encoded_bytes u.0 ∙ u.1.1)

-- A new key is a string of JSON, and stands for its name.
pub key_is_string : (name : List ℕ) → IsUtf8 name → IsString (key_text name)
key_is_string name u =
    let cs = utf8_characters name u in
    subst (λ (l : List ℕ). IsString (key_text l)) cs.2 (key_is_string_of_characters cs.0 cs.1)

pub key_stands_for : (name : List ℕ) → IsUtf8 name → StandsFor (key_text name) name
key_stands_for name u =
    let cs = utf8_characters name u in
    subst (λ (l : List ℕ). StandsFor (key_text l) l) cs.2 (key_stands_for_characters cs.0 cs.1)
