-- A new key of characters in UTF-8 is a string.
use Rattle.std.proofs.Common.{◌≡◌, ◌≢◌, ℕ, ◌+◌, ◌-◌, ◌/◌, ◌%◌, ◌<◌, ◌≤◌, List, [], ◌∷◌, ◌++◌, Bool, true, false, cond, eqb, Option, Some, None, ◌⊎◌, inl, inr, refl, sym, ap, subst, ◌∙◌, arith}
use Rattle.std.specs.Prelude.{nat_lt, ◌&&◌, IsUtf8}
use Rattle.std.specs.List.{flat_map, AllByRecursion}
use Rattle.std.proofs.Math.Utf8.{encode, encodes, scalar, scalars, scalar_cases}
use Rattle.std.proofs.lemmas.Bool.Decides.{nat_tests}
use Rattle.std.proofs.lemmas.Grind.{flat_map-append}
use Rattle.json_model.specs.Grammar.{Within, BeginsThree, BeginsFour, IsUtf8Character, IsPlain, IsHex, IsCharacter, IsString}
use Rattle.json_model.specs.Decoding.{escaped, hex, character, unit as code, unit_of, is_high, is_low, join, decode_unit, decode, StandsFor}
use Rattle.json_model.specs.Edit.{hex_digit, key_byte, key_text}

-- ---- characters

first_case : (x y z : Bool) (k l m n : List ℕ) → x ≡ true → cond x k (cond y l (cond z m n)) ≡ k
first_case true y z k l m n a = refl
first_case false y z k l m n a = cc

second_case : (x y z : Bool) (k l m n : List ℕ) → x ≡ false → y ≡ true → cond x k (cond y l (cond z m n)) ≡ l
second_case false true z k l m n a b = refl
second_case true y z k l m n a b = cc
second_case false false z k l m n a b = cc

third_case : (x y z : Bool) (k l m n : List ℕ) → x ≡ false → y ≡ false → z ≡ true → cond x k (cond y l (cond z m n)) ≡ m
third_case false false true k l m n a b c = refl
third_case true y z k l m n a b c = cc
third_case false true z k l m n a b c = cc
third_case false false false k l m n a b c = cc

last_case : (x y z : Bool) (k l m n : List ℕ) → x ≡ false → y ≡ false → z ≡ false → cond x k (cond y l (cond z m n)) ≡ n
last_case false false false k l m n a b c = refl
last_case true y z k l m n a b c = cc
last_case false true z k l m n a b c = cc
last_case false false true k l m n a b c = cc

is_below : (a b : ℕ) → a < b → nat_lt a b ≡ true
is_below a b h = grind (arith, nat_tests)

isnt_below : (a b : ℕ) → b ≤ a → nat_lt a b ≡ false
isnt_below a b h = grind (arith, nat_tests)

one_is : (c : ℕ) → c < 128 → IsUtf8Character (encode c)
unfolding encode
one_is c h = subst IsUtf8Character (sym (first_case (nat_lt c 128) (nat_lt c 2048) (nat_lt c 65536) _ _ _ _ (is_below c 128 h))) (small h)
  where
    small : c < 128 → c ≤ 0x7f
    small h = omega (arith, h)

tail_is : (c : ℕ) → Within 0x80 0xbf (128 + c % 64)
tail_is c = record { low = omega arith; high = omega arith }

two_is : (c : ℕ) → 128 ≤ c → c < 2048 → IsUtf8Character (encode c)
unfolding encode
two_is c g h =
    subst IsUtf8Character (sym (second_case (nat_lt c 128) (nat_lt c 2048) (nat_lt c 65536) _ _ _ _ (isnt_below c 128 g) (is_below c 2048 h)))
    (record { low = omega (arith, g); high = omega (arith, h) }, tail_is c)

-- the characters of three bytes, by their first byte
data Three (c : ℕ) : Type 0 where
  e0 : 2048 ≤ c → c < 4096 → Three c
  e1 : 4096 ≤ c → c < 53248 → Three c
  ed : 53248 ≤ c → c < 55296 → Three c
  ee : 57344 ≤ c → c < 65536 → Three c

three_by : (c : ℕ) (a b : Bool) → nat_lt c 4096 ≡ a → nat_lt c 53248 ≡ b → 2048 ≤ c → c < 65536 → (c < 55296) ⊎ (57344 ≤ c) → Three c
three_by c true b e f g h s = e0 g (grind (arith, nat_tests))
three_by c false true e f g h s = e1 (grind (arith, nat_tests)) (grind (arith, nat_tests))
three_by c false false e f g h (inl s) = ed (grind (arith, nat_tests)) s
three_by c false false e f g h (inr s) = ee s h

begins_three : (c : ℕ) → Three c → BeginsThree (224 + c / 4096) (128 + c / 64 % 64)
begins_three c (e0 g h) = inl (omega (arith, g, h), record { low = omega (arith, g, h); high = omega arith })
begins_three c (e1 g h) = inr (inl (record { low = omega (arith, g); high = omega (arith, h) }, tail_is (c / 64)))
begins_three c (ed g h) = inr (inr (inl (omega (arith, g, h), record { low = omega arith; high = omega (arith, g, h) })))
begins_three c (ee g h) = inr (inr (inr (record { low = omega (arith, g); high = omega (arith, h) }, tail_is (c / 64))))

three_is : (c : ℕ) → 2048 ≤ c → c < 65536 → (c < 55296) ⊎ (57344 ≤ c) → IsUtf8Character (encode c)
unfolding encode
three_is c g h s =
    subst IsUtf8Character (sym (third_case (nat_lt c 128) (nat_lt c 2048) (nat_lt c 65536) _ _ _ _ (isnt_below c 128 (omega (arith, g))) (isnt_below c 2048 g) (is_below c 65536 h)))
    (begins_three c (three_by c (nat_lt c 4096) (nat_lt c 53248) refl refl g h s), tail_is c)

-- the characters of four bytes, by their first byte
data Four (c : ℕ) : Type 0 where
  f0 : 65536 ≤ c → c < 262144 → Four c
  f1 : 262144 ≤ c → c < 1048576 → Four c
  f4 : 1048576 ≤ c → c < 1114112 → Four c

four_by : (c : ℕ) (a b : Bool) → nat_lt c 262144 ≡ a → nat_lt c 1048576 ≡ b → 65536 ≤ c → c < 1114112 → Four c
four_by c true b e f g h = f0 g (grind (arith, nat_tests))
four_by c false true e f g h = f1 (grind (arith, nat_tests)) (grind (arith, nat_tests))
four_by c false false e f g h = f4 (grind (arith, nat_tests)) h

begins_four : (c : ℕ) → Four c → BeginsFour (240 + c / 262144) (128 + c / 4096 % 64)
begins_four c (f0 g h) = inl (omega (arith, g, h), record { low = omega (arith, g, h); high = omega arith })
begins_four c (f1 g h) = inr (inl (record { low = omega (arith, g); high = omega (arith, h) }, tail_is (c / 4096)))
begins_four c (f4 g h) = inr (inr (omega (arith, g, h), record { low = omega arith; high = omega (arith, g, h) }))

four_is : (c : ℕ) → 65536 ≤ c → c < 1114112 → IsUtf8Character (encode c)
unfolding encode
four_is c g h =
    subst IsUtf8Character (sym (last_case (nat_lt c 128) (nat_lt c 2048) (nat_lt c 65536) _ _ _ _ (isnt_below c 128 (omega (arith, g))) (isnt_below c 2048 (omega (arith, g))) (isnt_below c 65536 g)))
    (begins_four c (four_by c (nat_lt c 262144) (nat_lt c 1048576) refl refl g h), tail_is (c / 64), tail_is c)

scalar_by : (c : ℕ) (a b d : Bool) → nat_lt c 128 ≡ a → nat_lt c 2048 ≡ b → nat_lt c 65536 ≡ d → (c < 55296) ⊎ ((57344 ≤ c) × (c < 1114112)) → IsUtf8Character (encode c)
scalar_by c true b d e f g s = one_is c (grind (arith, nat_tests))
scalar_by c false true d e f g s = two_is c (grind (arith, nat_tests)) (grind (arith, nat_tests))
scalar_by c false false true e f g (inl s) = three_is c (grind (arith, nat_tests)) (grind (arith, nat_tests)) (inl s)
scalar_by c false false true e f g (inr s) = three_is c (grind (arith, nat_tests)) (grind (arith, nat_tests)) (inr s.0)
scalar_by c false false false e f g (inl s) = absurd (grind (arith, nat_tests))
scalar_by c false false false e f g (inr s) = four_is c (grind (arith, nat_tests)) s.1

-- the bytes of a character of std are those of a character of UTF-8
pub character_is : (c : ℕ) → scalar c ≡ true → IsUtf8Character (encode c)
character_is c e = scalar_by c (nat_lt c 128) (nat_lt c 2048) (nat_lt c 65536) refl refl refl (scalar_cases c e)

-- ---- characters of a key

hex_is : (n : ℕ) → n < 16 → IsHex (hex_digit n)
hex_is n h = by_test (nat_lt n 10) refl
  where
    by_test : (b : Bool) → nat_lt n 10 ≡ b → IsHex (cond b (0x30 + n) (0x57 + n))
    by_test true e = inl (record { low = omega arith; high = grind (arith, nat_tests) })
    by_test false e = inr (inr (record { low = grind (arith, nat_tests); high = omega (arith, h) }))

plain_by : (x : ℕ) (a b : Bool) → nat_lt x 0x22 ≡ a → nat_lt x 0x5c ≡ b → 0x20 ≤ x → x ≤ 0x7f → x ≢ 0x22 → x ≢ 0x5c → IsPlain x
plain_by x true b e f g h q r = inl (record { low = g; high = grind (arith, nat_tests) })
plain_by x false true e f g h q r = inr (inl (record { low = grind (arith, nat_tests); high = grind (arith, nat_tests) }))
plain_by x false false e f g h q r = inr (inr (record { low = grind (arith, nat_tests); high = h }))

no_test : (x y : ℕ) → eqb x y ≡ false → x ≢ y
no_test x y e h = grind (arith, nat_tests)

digit_zero : IsHex 0x30
digit_zero = inl (record { low = omega arith; high = omega arith })

digit_one : IsHex 0x31
digit_one = inl (record { low = omega arith; high = omega arith })

key_by : (x : ℕ) (a b c d : Bool) → eqb x 0x22 ≡ a → eqb x 0x5c ≡ b → nat_lt x 0x10 ≡ c → nat_lt x 0x20 ≡ d → x ≤ 0x7f
    → IsCharacter (cond a (0x5c ∷ 0x22 ∷ []) (cond b (0x5c ∷ 0x5c ∷ []) (cond c (0x5c ∷ 0x75 ∷ 0x30 ∷ 0x30 ∷ 0x30 ∷ hex_digit x ∷ []) (cond d (0x5c ∷ 0x75 ∷ 0x30 ∷ 0x30 ∷ 0x31 ∷ hex_digit (x - 0x10) ∷ []) (x ∷ [])))) ++ [])
key_by x true b c d e f g h small = inr (refl, inl refl)
key_by x false true c d e f g h small = inr (refl, inr (inl refl))
key_by x false false true d e f g h small = (refl, refl, digit_zero, digit_zero, digit_zero, hex_is x (grind (arith, nat_tests)))
key_by x false false false true e f g h small = (refl, refl, digit_zero, digit_zero, digit_one, hex_is (x - 0x10) (grind (arith, nat_tests)))
key_by x false false false false e f g h small = plain_by x (nat_lt x 0x22) (nat_lt x 0x5c) refl refl (grind (arith, nat_tests)) small (no_test x 0x22 e) (no_test x 0x5c f)

high_by : (x : ℕ) (a b c d : Bool) → a ≡ false → b ≡ false → c ≡ false → d ≡ false
    → cond a (0x5c ∷ 0x22 ∷ []) (cond b (0x5c ∷ 0x5c ∷ []) (cond c (0x5c ∷ 0x75 ∷ 0x30 ∷ 0x30 ∷ 0x30 ∷ hex_digit x ∷ []) (cond d (0x5c ∷ 0x75 ∷ 0x30 ∷ 0x30 ∷ 0x31 ∷ hex_digit (x - 0x10) ∷ []) (x ∷ [])))) ≡ x ∷ []
high_by x false false false false e f g h = refl
high_by x true b c d e f g h = cc
high_by x false true c d e f g h = cc
high_by x false false true d e f g h = cc
high_by x false false false true e f g h = cc

high_byte : (x : ℕ) → 0x80 ≤ x → key_byte x ≡ x ∷ []
high_byte x h = high_by x (eqb x 0x22) (eqb x 0x5c) (nat_lt x 0x10) (nat_lt x 0x20) (grind (arith, nat_tests)) (grind (arith, nat_tests)) (grind (arith, nat_tests)) (grind (arith, nat_tests))

-- bytes that aren't ASCII stand for themselves
high_bytes : (s : List ℕ) → AllByRecursion (λ x. 0x80 ≤ x) s → flat_map key_byte s ≡ s
high_bytes [] h = refl
high_bytes (x ∷ s) h = ap (λ (l : List ℕ). l ++ flat_map key_byte s) (high_byte x h.0) ∙ ap (λ (l : List ℕ). x ∷ l) (high_bytes s h.1)

three_high : (a b : ℕ) → BeginsThree a b → (0x80 ≤ a) × (0x80 ≤ b)
three_high a b (inl (e, h)) = (omega (arith, e), omega (arith, h.low))
three_high a b (inr (inl (w, h))) = (omega (arith, w.low), omega (arith, h.low))
three_high a b (inr (inr (inl (e, h)))) = (omega (arith, e), omega (arith, h.low))
three_high a b (inr (inr (inr (w, h)))) = (omega (arith, w.low), omega (arith, h.low))

four_high : (a b : ℕ) → BeginsFour a b → (0x80 ≤ a) × (0x80 ≤ b)
four_high a b (inl (e, h)) = (omega (arith, e), omega (arith, h.low))
four_high a b (inr (inl (w, h))) = (omega (arith, w.low), omega (arith, h.low))
four_high a b (inr (inr (e, h))) = (omega (arith, e), omega (arith, h.low))

-- a character of a name is a character of its key
key_character : (c : List ℕ) → IsUtf8Character c → IsCharacter (flat_map key_byte c)
key_character [] is = absurd is
key_character (a ∷ []) is = key_by a (eqb a 0x22) (eqb a 0x5c) (nat_lt a 0x10) (nat_lt a 0x20) refl refl refl refl is
key_character (a ∷ b ∷ []) is =
    subst IsCharacter (sym (high_bytes (a ∷ b ∷ []) (omega (arith, is.0.low), (omega (arith, is.1.low), tt)))) (inl is)
key_character (a ∷ b ∷ c ∷ []) is =
    let t = three_high a b is.0 in
    subst IsCharacter (sym (high_bytes (a ∷ b ∷ c ∷ []) (t.0, (t.1, (omega (arith, is.1.low), tt))))) is
key_character (a ∷ b ∷ c ∷ d ∷ []) is =
    let t = four_high a b is.0 in
    subst IsCharacter (sym (high_bytes (a ∷ b ∷ c ∷ d ∷ []) (t.0, (t.1, (omega (arith, is.1.low), (omega (arith, is.2.low), tt)))))) is
key_character (a ∷ b ∷ c ∷ d ∷ e ∷ more) is = absurd is

-- ---- what a key stands for

-- what the bytes of a key's character are
abbrev Decodes : List ℕ → List ℕ → Type 0
Decodes key c = (next : Option ℕ → Option (List ℕ)) → decode_unit None (unit_of key) next ≡ join c (next None)

surrogate_by : (high low small : Bool) (x : ℕ) (f g : Option (List ℕ)) (l : List ℕ) (next : Option ℕ → Option (List ℕ)) → high ≡ false → low ≡ false → small ≡ true
    → cond high f (cond low g (join (cond small (x ∷ []) l) (next None))) ≡ join (x ∷ []) (next None)
surrogate_by false false true x f g l next a b c = refl
surrogate_by true low small x f g l next a b c = cc
surrogate_by false true small x f g l next a b c = cc
surrogate_by false false false x f g l next a b c = cc

no_high : (x : ℕ) → x < 0x80 → is_high x ≡ false
no_high x h = grind (arith, nat_tests)

no_low : (x : ℕ) → x < 0x80 → is_low x ≡ false
no_low x h = grind (arith, nat_tests)

small_unit : (x : ℕ) (next : Option ℕ → Option (List ℕ)) → x < 0x80 → decode_unit None (code x) next ≡ join (x ∷ []) (next None)
small_unit x next h = surrogate_by (is_high x) (is_low x) (nat_lt x 0x80) x _ _ _ next (no_high x h) (no_low x h) (is_below x 0x80 h)

hex_again : (n : ℕ) → n < 16 → hex (hex_digit n) ≡ n
hex_again n h = grind (arith, nat_tests)

numbered_unit : (k n x : ℕ) (next : Option ℕ → Option (List ℕ)) → k + n ≡ x → x < 0x80 → decode_unit None (code (k + n)) next ≡ join (x ∷ []) (next None)
numbered_unit k n x next e h = ap (λ (y : ℕ). decode_unit None (code y) next) e ∙ small_unit x next h

test_is : (x y : ℕ) → eqb x y ≡ true → y ≡ x
test_is x y e = grind (arith, nat_tests)

key_decodes : (x : ℕ) (a b c d : Bool) → eqb x 0x22 ≡ a → eqb x 0x5c ≡ b → nat_lt x 0x10 ≡ c → nat_lt x 0x20 ≡ d → x ≤ 0x7f
    → Decodes (cond a (0x5c ∷ 0x22 ∷ []) (cond b (0x5c ∷ 0x5c ∷ []) (cond c (0x5c ∷ 0x75 ∷ 0x30 ∷ 0x30 ∷ 0x30 ∷ hex_digit x ∷ []) (cond d (0x5c ∷ 0x75 ∷ 0x30 ∷ 0x30 ∷ 0x31 ∷ hex_digit (x - 0x10) ∷ []) (x ∷ [])))) ++ []) (x ∷ [])
key_decodes x true b c d e f g h small next = ap (λ (y : ℕ). join (y ∷ []) (next None)) (test_is x 0x22 e)
key_decodes x false true c d e f g h small next = ap (λ (y : ℕ). join (y ∷ []) (next None)) (test_is x 0x5c f)
key_decodes x false false true d e f g h small next =
    let low : x < 16 = grind (arith, nat_tests) in
    numbered_unit 0 (hex (hex_digit x)) x next (omega (arith, hex_again x low)) (omega (arith, low))
key_decodes x false false false true e f g h small next =
    let low : x - 0x10 < 16 = grind (arith, nat_tests) in
    let high : 0x10 ≤ x = grind (arith, nat_tests) in
    numbered_unit 0x10 (hex (hex_digit (x - 0x10))) x next (omega (arith, hex_again (x - 0x10) low, high)) (omega (arith, low))
key_decodes x false false false false e f g h small next = refl

-- a character of two bytes or more is itself
high_decodes : (c : List ℕ) → AllByRecursion (λ x. 0x80 ≤ x) c → ((next : Option ℕ → Option (List ℕ)) → decode_unit None (unit_of c) next ≡ join c (next None)) → Decodes (flat_map key_byte c) c
high_decodes c high same next = ap (λ (l : List ℕ). decode_unit None (unit_of l) next) (high_bytes c high) ∙ same next

two_decodes : (a b : ℕ) → eqb a 0x5c ≡ false → (next : Option ℕ → Option (List ℕ)) → decode_unit None (unit_of (a ∷ b ∷ [])) next ≡ join (a ∷ b ∷ []) (next None)
two_decodes a b e next = ap (λ (t : Bool). decode_unit None (cond t (character (escaped b ∷ [])) (character (a ∷ b ∷ []))) next) e

no_slash : (a : ℕ) → 0x80 ≤ a → eqb a 0x5c ≡ false
no_slash a h = grind (arith, nat_tests)

character_decodes : (c : List ℕ) → IsUtf8Character c → Decodes (flat_map key_byte c) c
character_decodes [] is = absurd is
character_decodes (a ∷ []) is = key_decodes a (eqb a 0x22) (eqb a 0x5c) (nat_lt a 0x10) (nat_lt a 0x20) refl refl refl refl is
character_decodes (a ∷ b ∷ []) is =
    let high : 0x80 ≤ a = omega (arith, is.0.low) in
    high_decodes (a ∷ b ∷ []) (high, (omega (arith, is.1.low), tt)) (two_decodes a b (no_slash a high))
character_decodes (a ∷ b ∷ c ∷ []) is =
    let t = three_high a b is.0 in
    high_decodes (a ∷ b ∷ c ∷ []) (t.0, (t.1, (omega (arith, is.1.low), tt))) (λ next. refl)
character_decodes (a ∷ b ∷ c ∷ d ∷ []) is =
    let t = four_high a b is.0 in
    high_decodes (a ∷ b ∷ c ∷ d ∷ []) (t.0, (t.1, (omega (arith, is.1.low), (omega (arith, is.2.low), tt)))) (λ next. refl)
character_decodes (a ∷ b ∷ c ∷ d ∷ e ∷ more) is = absurd is

-- ---- keys

both_true : (a b : Bool) → a && b ≡ true → (a ≡ true) × (b ≡ true)
both_true true true e = (refl, refl)
both_true true false e = cc
both_true false b e = cc

-- bytes of a key that are characters of a string, and stand for others
record Characters (bytes name : List ℕ) : Type 0 where
  characters : List (List ℕ)
  are : AllByRecursion IsCharacter characters
  whole : bytes ≡ flat_map (λ c. c) characters
  stand : decode None characters ≡ Some name

none_stand : decode None [] ≡ Some []
unfolding decode
none_stand = refl

more_stand : (key c : List ℕ) (characters : List (List ℕ)) (name : List ℕ) → Decodes key c → decode None characters ≡ Some name → decode None (key ∷ characters) ≡ Some (c ++ name)
unfolding decode
more_stand key c characters name is e = is (λ next. decode next characters) ∙ ap (join c) e

key_characters : (cs : List ℕ) → scalars cs ≡ true → Characters (flat_map key_byte (encodes cs)) (encodes cs)
key_characters [] e = record { characters = []; are = tt; whole = refl; stand = none_stand }
key_characters (c ∷ cs) e =
    let both = both_true (scalar c) (scalars cs) e in
    let is = character_is c both.0 in
    let rest = key_characters cs both.1 in
    record {
      characters = flat_map key_byte (encode c) ∷ rest.characters;
      are = (key_character (encode c) is, rest.are);
      whole = flat_map-append key_byte (encode c) (encodes cs) ∙ ap (λ (l : List ℕ). flat_map key_byte (encode c) ++ l) rest.whole;
      stand = more_stand (flat_map key_byte (encode c)) (encode c) rest.characters (encodes cs) (character_decodes (encode c) is) rest.stand;
    }

-- the key of a name in UTF-8 is a string, and stands for that name
pub key_stands : (name : List ℕ) → IsUtf8 name → StandsFor (key_text name) name
key_stands name (cs, (are, e)) =
    let k = key_characters cs are in (
      k.characters,
      k.are,
      ap (λ (l : List ℕ). 0x22 ∷ (flat_map key_byte l ++ 0x22 ∷ [])) (sym e) ∙ ap (λ (l : List ℕ). 0x22 ∷ (l ++ 0x22 ∷ [])) k.whole,
      k.stand ∙ ap (λ (l : List ℕ). Some l) e,
    )

-- the key of a name in UTF-8 is a string
pub key_string : (name : List ℕ) → IsUtf8 name → IsString (key_text name)
key_string name utf8 = let s = key_stands name utf8 in (s.0, s.1, s.2)
