-- The modes of strings and numbers against their grammar: what stands behind a mode.
use Rattle.std.proofs.Common.{◌≡◌, ◌≢◌, ℕ, zero, suc, ◌<◌, ◌≤◌, List, [], ◌∷◌, ◌++◌, Bool, true, false, cond, eqb, Option, Some, None, Ok, Err, ◌⊎◌, ◌||◌, inl, inr, refl, sym, ap, subst, ◌∙◌, arith, append_assoc}
use Rattle.std.specs.List.{flat_map, AllByRecursion}
use Rattle.std.proofs.lemmas.Bool.Decides.{nat_tests}
use Rattle.json_spell.specs.declared.tokens.Stop.{Stop}
use Rattle.json_spell.specs.declared.tokens.Mode.{Mode}
use Rattle.json_spell.specs.declared.tokens.Mode.TheVariants as modes
use Rattle.json_model.specs.Grammar.{Within, IsTail, IsPlain, BeginsThree, BeginsFour, IsEscaped, IsHex, IsCharacter, AreDigits, IsDigits, IsWhole, IsFraction, IsExponent, IsNumber}
use Rattle.json_spell.specs.Tokens.{within, tail, inside, is_digit, is_mark, is_hex, is_escaped, digit_first, further, digits_left, next, ends, end_here, go, run}

-- ---- tests

pub t_within : (a b x : ℕ) → within a b x ≡ true → Within a b x
t_within a b x h = record { low = grind (arith, nat_tests); high = grind (arith, nat_tests) }

pub w_within : (a b x : ℕ) → Within a b x → within a b x ≡ true
w_within a b x h = let l = h.low in let m = h.high in grind (arith, nat_tests)

hex_is : (x : ℕ) → is_hex x ≡ true → IsHex x
hex_is x h = grind (arith, nat_tests, t_within 0x30 0x39 x, t_within 0x41 0x46 x, t_within 0x61 0x66 x)

hex_test : (x : ℕ) → IsHex x → is_hex x ≡ true
hex_test x (inl h) = grind (arith, nat_tests)
hex_test x (inr (inl h)) = grind (arith, nat_tests)
hex_test x (inr (inr h)) = grind (arith, nat_tests)

escaped_is : (x : ℕ) → is_escaped x ≡ true → IsEscaped x
escaped_is x h = grind (arith, nat_tests)

escaped_test : (x : ℕ) → IsEscaped x → (is_escaped x ≡ true) × (x ≢ 0x75)
escaped_test x h = (grind (arith, nat_tests), grind (arith, nat_tests))

mark_is : (x : ℕ) → is_mark x ≡ true → (x ≡ 0x65) ⊎ (x ≡ 0x45)
mark_is x h = grind (arith, nat_tests)

-- ---- what stands behind a mode inside a character

abbrev pub FinishTail : ℕ → ℕ → ℕ → List ℕ → Type 0
FinishTail l u k [] = ⊥
FinishTail l u zero (y ∷ []) = Within l u y
FinishTail l u zero (y ∷ z ∷ f) = ⊥
FinishTail l u (suc k) (y ∷ f) = Within l u y × FinishTail 0x80 0xbf k f

abbrev pub FinishHex : ℕ → List ℕ → Type 0
FinishHex k [] = ⊥
FinishHex zero (y ∷ []) = IsHex y
FinishHex zero (y ∷ z ∷ f) = ⊥
FinishHex (suc k) (y ∷ f) = IsHex y × FinishHex k f

abbrev pub FinishEscape : List ℕ → Type 0
FinishEscape [] = ⊥
FinishEscape (y ∷ []) = IsEscaped y
FinishEscape (y ∷ z ∷ f) = (y ≡ 0x75) × FinishHex 3 (z ∷ f)

-- characters, and the quotation mark
pub record Inside (s : List ℕ) : Type 0 where
  pub characters : List (List ℕ)
  pub fit : AllByRecursion IsCharacter characters
  pub spelled : s ≡ flat_map (λ c. c) characters ++ 0x22 ∷ []

-- the rest of a character, and then more of the string
pub record Ends (F : List ℕ → Type 0) (s : List ℕ) : Type 0 where
  pub front : List ℕ
  pub rest : List ℕ
  pub finish : F front
  pub inside : Inside rest
  pub spelled : s ≡ front ++ rest

pub character_then : (c s rest : List ℕ) → IsCharacter c → Inside rest → s ≡ c ++ rest → Inside s
character_then c s rest fit i e =
    record {
      characters = c ∷ i.characters;
      fit = (fit, i.fit);
      spelled = e ∙ ap (λ l. c ++ l) i.spelled ∙ sym (append_assoc c (flat_map (λ c. c) i.characters) (0x22 ∷ []));
    }

tail_two : (x : ℕ) (f : List ℕ) → Within 0xc2 0xdf x → FinishTail 0x80 0xbf 0 f → IsCharacter (x ∷ f)
tail_two x [] w h = absurd h
tail_two x (y ∷ []) w h = inl (w, h)
tail_two x (y ∷ z ∷ f) w h = absurd h

tail_three : (l u x : ℕ) (f : List ℕ) → ((y : ℕ) → Within l u y → BeginsThree x y) → FinishTail l u 1 f → IsCharacter (x ∷ f)
tail_three l u x [] b h = absurd h
tail_three l u x (y ∷ []) b h = absurd h.1
tail_three l u x (y ∷ z ∷ []) b h = (b y h.0, h.1)
tail_three l u x (y ∷ z ∷ w ∷ f) b h = absurd h.1

tail_four : (l u x : ℕ) (f : List ℕ) → ((y : ℕ) → Within l u y → BeginsFour x y) → FinishTail l u 2 f → IsCharacter (x ∷ f)
tail_four l u x [] b h = absurd h
tail_four l u x (y ∷ []) b h = absurd h.1
tail_four l u x (y ∷ z ∷ []) b h = absurd h.1.1
tail_four l u x (y ∷ z ∷ w ∷ []) b h = (b y h.0, h.1.0, h.1.1)
tail_four l u x (y ∷ z ∷ w ∷ v ∷ f) b h = absurd h.1.1

escape_two : (x : ℕ) (f : List ℕ) → x ≡ 0x5c → FinishEscape f → IsCharacter (x ∷ f)
escape_two x [] e h = absurd h
escape_two x (y ∷ []) e h = inr (e, h)
escape_two x (y ∷ a ∷ []) e h = absurd h.1.1
escape_two x (y ∷ a ∷ b ∷ []) e h = absurd h.1.1.1
escape_two x (y ∷ a ∷ b ∷ c ∷ []) e h = absurd h.1.1.1.1
escape_two x (y ∷ a ∷ b ∷ c ∷ d ∷ []) e h = (e, h.0, h.1.0, h.1.1.0, h.1.1.1.0, h.1.1.1.1)
escape_two x (y ∷ a ∷ b ∷ c ∷ d ∷ g ∷ f) e h = absurd h.1.1.1.1

-- ---- what stands behind each mode

-- a fraction and an exponent
pub record Scaled (s : List ℕ) : Type 0 where
  pub fraction : List ℕ
  pub exponent : List ℕ
  pub fraction_is : IsFraction fraction
  pub exponent_is : IsExponent exponent
  pub spelled : s ≡ fraction ++ exponent

-- a front, and then an exponent
pub record Powered (F : List ℕ → Type 0) (s : List ℕ) : Type 0 where
  pub front : List ℕ
  pub exponent : List ℕ
  pub front_is : F front
  pub exponent_is : IsExponent exponent
  pub spelled : s ≡ front ++ exponent

-- a front, and then a fraction and an exponent
pub record Whole (F : List ℕ → Type 0) (s : List ℕ) : Type 0 where
  pub front : List ℕ
  pub rest : List ℕ
  pub front_is : F front
  pub scaled : Scaled rest
  pub spelled : s ≡ front ++ rest

pub record Marked (s : List ℕ) : Type 0 where
  pub sign : List ℕ
  pub digits : List ℕ
  pub sign_is : (sign ≡ []) ⊎ (sign ≡ 0x2b ∷ []) ⊎ (sign ≡ 0x2d ∷ [])
  pub digits_are : IsDigits digits
  pub spelled : s ≡ sign ++ digits

abbrev pub Rest : Mode → List ℕ → Type 0
Rest modes.Inside s = Inside s
Rest (modes.Tail l u k) s = Ends (FinishTail l u k) s
Rest modes.Escape s = Ends FinishEscape s
Rest (modes.Hex k) s = Ends (FinishHex k) s
Rest modes.Closed s = s ≡ []
Rest modes.Start s = IsNumber s
Rest modes.Minus s = Whole IsWhole s
Rest modes.Zero s = Scaled s
Rest modes.Whole s = Whole AreDigits s
Rest modes.Point s = Powered IsDigits s
Rest modes.Fraction s = Powered AreDigits s
Rest modes.Mark s = Marked s
Rest modes.Sign s = IsDigits s
Rest modes.Exponent s = AreDigits s

-- ---- sound: a byte that goes on

-- a choice that was made
pub if_some : (R : Mode → Type 0) (b : Bool) (a m : Mode) (r : Option Mode) → (b ≡ true → R a) → (b ≡ false → r ≡ Some m → R m) → cond b (Some a) r ≡ Some m → R m
if_some R true a m r here there e = let same : a ≡ m = cc in subst R same (here refl)
if_some R false a m r here there e = there refl e

none_some : (R : Mode → Type 0) (m : Mode) → None ≡ Some m → R m
none_some R m e = cc

ends_then : (F : List ℕ → Type 0) (x : ℕ) (s : List ℕ) → ((f : List ℕ) → F f → IsCharacter (x ∷ f)) → Ends F s → Inside (x ∷ s)
ends_then F x s ok e = character_then (x ∷ e.front) (x ∷ s) e.rest (ok e.front e.finish) e.inside (ap (λ l. x ∷ l) e.spelled)

eqb_is : (x y : ℕ) → eqb x y ≡ true → x ≡ y
eqb_is x y h = grind (arith, nat_tests)

le_or_more : (x n : ℕ) → (x ≤ n) ⊎ (n < x)
le_or_more x n = grind (arith, nat_tests)

plain_by : (x : ℕ) → 0x20 ≤ x → x ≤ 0x7f → x ≢ 0x22 → x ≢ 0x5c → (x ≤ 0x21) ⊎ (0x21 < x) → (x ≤ 0x5b) ⊎ (0x5b < x) → IsPlain x
plain_by x low high c d (inl a) b = inl (record { low = low; high = a })
plain_by x low high c d (inr a) (inl b) = inr (inl (record { low = omega arith; high = b }))
plain_by x low high c d (inr a) (inr b) = inr (inr (record { low = omega arith; high = high }))

three_by : (x y : ℕ) → 0xe1 ≤ x → x ≤ 0xef → x ≢ 0xed → IsTail y → (x ≤ 0xec) ⊎ (0xec < x) → BeginsThree x y
three_by x y low high c w (inl a) = inr (inl (record { low = low; high = a }, w))
three_by x y low high c w (inr a) = inr (inr (inr (record { low = omega arith; high = high }, w)))

plain_is : (x : ℕ) → eqb x 0x22 ≡ false → eqb x 0x5c ≡ false → within 0x20 0x7f x ≡ true → IsPlain x
plain_is x a b h =
    let low : 0x20 ≤ x = (t_within 0x20 0x7f x h).low in
    let high : x ≤ 0x7f = (t_within 0x20 0x7f x h).high in
    let c : x ≢ 0x22 = grind (arith, nat_tests) in
    let d : x ≢ 0x5c = grind (arith, nat_tests) in
    plain_by x low high c d (le_or_more x 0x21) (le_or_more x 0x5b)

three_is : (x y : ℕ) → eqb x 0xe0 ≡ false → eqb x 0xed ≡ false → within 0xe1 0xef x ≡ true → IsTail y → BeginsThree x y
three_is x y a b h w =
    let c : x ≢ 0xed = grind (arith, nat_tests) in
    three_by x y (t_within 0xe1 0xef x h).low (t_within 0xe1 0xef x h).high c w (le_or_more x 0xec)

inside_sound : (x : ℕ) (m : Mode) (s : List ℕ) → inside x ≡ Some m → Rest m s → Inside (x ∷ s)
inside_sound x m s =
    let R : Mode → Type 0 = λ m. Rest m s → Inside (x ∷ s) in
    if_some R (eqb x 0x22) modes.Closed m _ (λ t h. record { characters = []; fit = tt; spelled = ap (λ l. x ∷ l) h ∙ ap (λ (y : ℕ). y ∷ []) (eqb_is x 0x22 t) }) (λ n1.
    if_some R (eqb x 0x5c) modes.Escape m _ (λ t. ends_then FinishEscape x s (λ f. escape_two x f (eqb_is x 0x5c t))) (λ n2.
    if_some R (within 0x20 0x7f x) modes.Inside m _ (λ t h. character_then (x ∷ []) (x ∷ s) s (plain_is x n1 n2 t) h refl) (λ n3.
    if_some R (within 0xc2 0xdf x) (tail 0x80 0xbf 0) m _ (λ t. ends_then (FinishTail 0x80 0xbf 0) x s (λ f. tail_two x f (t_within 0xc2 0xdf x t))) (λ n4.
    if_some R (eqb x 0xe0) (tail 0xa0 0xbf 1) m _ (λ t. ends_then (FinishTail 0xa0 0xbf 1) x s (λ f. tail_three 0xa0 0xbf x f (λ y w. inl (eqb_is x 0xe0 t, w)))) (λ n5.
    if_some R (eqb x 0xed) (tail 0x80 0x9f 1) m _ (λ t. ends_then (FinishTail 0x80 0x9f 1) x s (λ f. tail_three 0x80 0x9f x f (λ y w. inr (inr (inl (eqb_is x 0xed t, w)))))) (λ n6.
    if_some R (within 0xe1 0xef x) (tail 0x80 0xbf 1) m _ (λ t. ends_then (FinishTail 0x80 0xbf 1) x s (λ f. tail_three 0x80 0xbf x f (λ y w. three_is x y n5 n6 t w))) (λ n7.
    if_some R (eqb x 0xf0) (tail 0x90 0xbf 2) m _ (λ t. ends_then (FinishTail 0x90 0xbf 2) x s (λ f. tail_four 0x90 0xbf x f (λ y w. inl (eqb_is x 0xf0 t, w)))) (λ n8.
    if_some R (eqb x 0xf4) (tail 0x80 0x8f 2) m _ (λ t. ends_then (FinishTail 0x80 0x8f 2) x s (λ f. tail_four 0x80 0x8f x f (λ y w. inr (inr (eqb_is x 0xf4 t, w))))) (λ n9.
    if_some R (within 0xf1 0xf3 x) (tail 0x80 0xbf 2) m _ (λ t. ends_then (FinishTail 0x80 0xbf 2) x s (λ f. tail_four 0x80 0xbf x f (λ y w. inr (inl (t_within 0xf1 0xf3 x t, w))))) (λ n10.
    none_some R m))))))))))

further_sound : (l u x : ℕ) (k : ℕ) (s : List ℕ) → Within l u x → Rest (further k) s → Ends (FinishTail l u k) (x ∷ s)
further_sound l u x zero s w h = record { front = x ∷ []; rest = s; finish = w; inside = h; spelled = refl }
further_sound l u x (suc k) s w h = record { front = x ∷ h.front; rest = h.rest; finish = (w, h.finish); inside = h.inside; spelled = ap (λ l. x ∷ l) h.spelled }

hex_sound : (x : ℕ) (k : ℕ) (s : List ℕ) → IsHex x → Rest (digits_left k) s → Ends (FinishHex k) (x ∷ s)
hex_sound x zero s w h = record { front = x ∷ []; rest = s; finish = w; inside = h; spelled = refl }
hex_sound x (suc k) s w h = record { front = x ∷ h.front; rest = h.rest; finish = (w, h.finish); inside = h.inside; spelled = ap (λ l. x ∷ l) h.spelled }

unicode_sound : (x : ℕ) (f : List ℕ) → x ≡ 0x75 → FinishHex 3 f → FinishEscape (x ∷ f)
unicode_sound x [] e h = absurd h
unicode_sound x (z ∷ f) e h = (e, h)

escape_sound : (x : ℕ) (m : Mode) (s : List ℕ) → next modes.Escape x ≡ Some m → Rest m s → Ends FinishEscape (x ∷ s)
escape_sound x m s =
    let R : Mode → Type 0 = λ m. Rest m s → Ends FinishEscape (x ∷ s) in
    if_some R (eqb x 0x75) (modes.Hex 3) m _ (λ t h. record { front = x ∷ h.front; rest = h.rest; finish = unicode_sound x h.front (eqb_is x 0x75 t) h.finish; inside = h.inside; spelled = ap (λ l. x ∷ l) h.spelled }) (λ n1.
    if_some R (is_escaped x) modes.Inside m _ (λ t h. record { front = x ∷ []; rest = s; finish = escaped_is x t; inside = h; spelled = refl }) (λ n2.
    none_some R m))

-- numbers

digits_sound : (x : ℕ) (s : List ℕ) → is_digit x ≡ true → AreDigits s → AreDigits (x ∷ s)
digits_sound x s t h = (t_within 0x30 0x39 x t, h)

first_sound : (x : ℕ) (m : Mode) (s : List ℕ) → digit_first x ≡ Some m → Rest m s → Whole IsWhole (x ∷ s)
first_sound x m s =
    let R : Mode → Type 0 = λ m. Rest m s → Whole IsWhole (x ∷ s) in
    if_some R (eqb x 0x30) modes.Zero m _ (λ t h. record { front = x ∷ []; rest = s; front_is = inl (eqb_is x 0x30 t, refl); scaled = h; spelled = refl }) (λ n1.
    if_some R (within 0x31 0x39 x) modes.Whole m _ (λ t h. record { front = x ∷ h.front; rest = h.rest; front_is = inr (t_within 0x31 0x39 x t, h.front_is); scaled = h.scaled; spelled = ap (λ l. x ∷ l) h.spelled }) (λ n2.
    none_some R m))

whole_number : (minus s text : List ℕ) → (minus ≡ []) ⊎ (minus ≡ 0x2d ∷ []) → Whole IsWhole s → text ≡ minus ++ s → IsNumber text
whole_number minus s text is h e =
    record {
      minus = minus;
      whole = h.front;
      fraction = h.scaled.fraction;
      exponent = h.scaled.exponent;
      minus_is = is;
      whole_is = h.front_is;
      fraction_is = h.scaled.fraction_is;
      exponent_is = h.scaled.exponent_is;
      parts = e ∙ ap (λ l. minus ++ l) (h.spelled ∙ ap (λ l. h.front ++ l) h.scaled.spelled);
    }

start_sound : (x : ℕ) (m : Mode) (s : List ℕ) → next modes.Start x ≡ Some m → Rest m s → IsNumber (x ∷ s)
start_sound x m s =
    let R : Mode → Type 0 = λ m. Rest m s → IsNumber (x ∷ s) in
    if_some R (eqb x 0x2d) modes.Minus m _ (λ t h. whole_number (x ∷ []) s (x ∷ s) (inr (ap (λ (y : ℕ). y ∷ []) (eqb_is x 0x2d t))) h refl) (λ n1 e h.
    whole_number [] (x ∷ s) (x ∷ s) (inl refl) (first_sound x m s e h) refl)

exponent_cons : (x : ℕ) (s : List ℕ) → is_mark x ≡ true → Marked s → IsExponent (x ∷ s)
exponent_cons x s t h = (mark_is x t, h.sign, h.digits, h.sign_is, h.digits_are, h.spelled)

mark_scaled : (x : ℕ) (s : List ℕ) → is_mark x ≡ true → Marked s → Scaled (x ∷ s)
mark_scaled x s t h = record { fraction = []; exponent = x ∷ s; fraction_is = tt; exponent_is = exponent_cons x s t h; spelled = refl }

point_scaled : (x : ℕ) (s : List ℕ) → x ≡ 0x2e → Powered IsDigits s → Scaled (x ∷ s)
point_scaled x s e h = record { fraction = x ∷ h.front; exponent = h.exponent; fraction_is = (e, h.front_is); exponent_is = h.exponent_is; spelled = ap (λ l. x ∷ l) h.spelled }

zero_sound : (x : ℕ) (m : Mode) (s : List ℕ) → next modes.Zero x ≡ Some m → Rest m s → Scaled (x ∷ s)
zero_sound x m s =
    let R : Mode → Type 0 = λ m. Rest m s → Scaled (x ∷ s) in
    if_some R (eqb x 0x2e) modes.Point m _ (λ t h. point_scaled x s (eqb_is x 0x2e t) h) (λ n1.
    if_some R (is_mark x) modes.Mark m _ (λ t h. mark_scaled x s t h) (λ n2.
    none_some R m))

whole_sound : (x : ℕ) (m : Mode) (s : List ℕ) → next modes.Whole x ≡ Some m → Rest m s → Whole AreDigits (x ∷ s)
whole_sound x m s =
    let R : Mode → Type 0 = λ m. Rest m s → Whole AreDigits (x ∷ s) in
    if_some R (is_digit x) modes.Whole m _ (λ t h. record { front = x ∷ h.front; rest = h.rest; front_is = digits_sound x h.front t h.front_is; scaled = h.scaled; spelled = ap (λ l. x ∷ l) h.spelled }) (λ n1 e h.
    record { front = []; rest = x ∷ s; front_is = tt; scaled = zero_sound x m s e h; spelled = refl })

one_digit : (x : ℕ) (s : List ℕ) → is_digit x ≡ true → Powered AreDigits s → Powered IsDigits (x ∷ s)
one_digit x s t h = record { front = x ∷ h.front; exponent = h.exponent; front_is = digits_sound x h.front t h.front_is; exponent_is = h.exponent_is; spelled = ap (λ l. x ∷ l) h.spelled }

point_sound : (x : ℕ) (m : Mode) (s : List ℕ) → next modes.Point x ≡ Some m → Rest m s → Powered IsDigits (x ∷ s)
point_sound x m s =
    let R : Mode → Type 0 = λ m. Rest m s → Powered IsDigits (x ∷ s) in
    if_some R (is_digit x) modes.Fraction m _ (λ t h. one_digit x s t h) (λ n1. none_some R m)

fraction_sound : (x : ℕ) (m : Mode) (s : List ℕ) → next modes.Fraction x ≡ Some m → Rest m s → Powered AreDigits (x ∷ s)
fraction_sound x m s =
    let R : Mode → Type 0 = λ m. Rest m s → Powered AreDigits (x ∷ s) in
    if_some R (is_digit x) modes.Fraction m _ (λ t h. record { front = x ∷ h.front; exponent = h.exponent; front_is = digits_sound x h.front t h.front_is; exponent_is = h.exponent_is; spelled = ap (λ l. x ∷ l) h.spelled }) (λ n1.
    if_some R (is_mark x) modes.Mark m _ (λ t h. record { front = []; exponent = x ∷ s; front_is = tt; exponent_is = exponent_cons x s t h; spelled = refl }) (λ n2.
    none_some R m))

sign_test : (x : ℕ) → (eqb x 0x2b || eqb x 0x2d) ≡ true → (x ≡ 0x2b) ⊎ (x ≡ 0x2d)
sign_test x h = grind (arith, nat_tests)

sign_of : (x : ℕ) → (x ≡ 0x2b) ⊎ (x ≡ 0x2d) → (x ∷ [] ≡ []) ⊎ (x ∷ [] ≡ 0x2b ∷ []) ⊎ (x ∷ [] ≡ 0x2d ∷ [])
sign_of x (inl e) = inr (inl (ap (λ (y : ℕ). y ∷ []) e))
sign_of x (inr e) = inr (inr (ap (λ (y : ℕ). y ∷ []) e))

mark_sound : (x : ℕ) (m : Mode) (s : List ℕ) → next modes.Mark x ≡ Some m → Rest m s → Marked (x ∷ s)
mark_sound x m s =
    let R : Mode → Type 0 = λ m. Rest m s → Marked (x ∷ s) in
    if_some R (eqb x 0x2b || eqb x 0x2d) modes.Sign m _ (λ t h. record { sign = x ∷ []; digits = s; sign_is = sign_of x (sign_test x t); digits_are = h; spelled = refl }) (λ n1.
    if_some R (is_digit x) modes.Exponent m _ (λ t h. record { sign = []; digits = x ∷ s; sign_is = inl refl; digits_are = digits_sound x s t h; spelled = refl }) (λ n2.
    none_some R m))

sign_sound : (x : ℕ) (m : Mode) (s : List ℕ) → next modes.Sign x ≡ Some m → Rest m s → AreDigits (x ∷ s)
sign_sound x m s =
    let R : Mode → Type 0 = λ m. Rest m s → AreDigits (x ∷ s) in
    if_some R (is_digit x) modes.Exponent m _ (λ t h. digits_sound x s t h) (λ n1. none_some R m)

pub step_sound : (mode : Mode) (x : ℕ) (m : Mode) (s : List ℕ) → next mode x ≡ Some m → Rest m s → Rest mode (x ∷ s)
step_sound modes.Inside x m s e h = inside_sound x m s e h
step_sound (modes.Tail l u k) x m s e h = if_some (λ m. Rest m s → Ends (FinishTail l u k) (x ∷ s)) (within l u x) (further k) m None (λ t h. further_sound l u x k s (t_within l u x t) h) (λ n. none_some (λ m. Rest m s → Ends (FinishTail l u k) (x ∷ s)) m) e h
step_sound modes.Escape x m s e h = escape_sound x m s e h
step_sound (modes.Hex k) x m s e h = if_some (λ m. Rest m s → Ends (FinishHex k) (x ∷ s)) (is_hex x) (digits_left k) m None (λ t h. hex_sound x k s (hex_is x t) h) (λ n. none_some (λ m. Rest m s → Ends (FinishHex k) (x ∷ s)) m) e h
step_sound modes.Closed x m s e h = none_some (λ m. Rest m s → (x ∷ s) ≡ []) m e h
step_sound modes.Start x m s e h = start_sound x m s e h
step_sound modes.Minus x m s e h = first_sound x m s e h
step_sound modes.Zero x m s e h = zero_sound x m s e h
step_sound modes.Whole x m s e h = whole_sound x m s e h
step_sound modes.Point x m s e h = point_sound x m s e h
step_sound modes.Fraction x m s e h = fraction_sound x m s e h
step_sound modes.Mark x m s e h = mark_sound x m s e h
step_sound modes.Sign x m s e h = sign_sound x m s e h
step_sound modes.Exponent x m s e h = sign_sound x m s e h

no_scale : Scaled []
no_scale = record { fraction = []; exponent = []; fraction_is = tt; exponent_is = tt; spelled = refl }

pub ends_sound : (m : Mode) → ends m ≡ true → Rest m []
ends_sound modes.Inside e = cc
ends_sound (modes.Tail l u k) e = cc
ends_sound modes.Escape e = cc
ends_sound (modes.Hex k) e = cc
ends_sound modes.Closed e = refl
ends_sound modes.Start e = cc
ends_sound modes.Minus e = cc
ends_sound modes.Zero e = no_scale
ends_sound modes.Whole e = record { front = []; rest = []; front_is = tt; scaled = no_scale; spelled = refl }
ends_sound modes.Point e = cc
ends_sound modes.Fraction e = record { front = []; exponent = []; front_is = tt; exponent_is = tt; spelled = refl }
ends_sound modes.Mark e = cc
ends_sound modes.Sign e = cc
ends_sound modes.Exponent e = tt

-- ---- what a run reads

-- a front of the bytes that stands behind this mode, and what is left
pub record Took (F : List ℕ → Type 0) (bytes rest : List ℕ) : Type 0 where
  pub front : List ℕ
  pub is : F front
  pub whole : bytes ≡ front ++ rest

end_took : (m : Mode) (b : Bool) (bytes rest : List ℕ) (s : Stop) → (b ≡ true → Rest m []) → cond b (Ok bytes) (Err s) ≡ Ok rest → Took (Rest m) bytes rest
end_took m true bytes rest s is e = record { front = []; is = is refl; whole = cc }
end_took m false bytes rest s is e = cc

go_took : (m : Mode) (o : Option Mode) (x : ℕ) (xs rest : List ℕ) → next m x ≡ o → ((after : Mode) → run after xs ≡ Ok rest → Took (Rest after) xs rest) → go o (λ after. run after xs) (end_here m (x ∷ xs)) ≡ Ok rest → Took (Rest m) (x ∷ xs) rest
go_took m None x xs rest is further e = end_took m (ends m) (x ∷ xs) rest _ (ends_sound m) e
go_took m (Some after) x xs rest is further e =
    let t = further after e in
    record { front = x ∷ t.front; is = step_sound m x after t.front is t.is; whole = ap (λ l. x ∷ l) t.whole }

pub run_took : (m : Mode) (bytes rest : List ℕ) → run m bytes ≡ Ok rest → Took (Rest m) bytes rest
unfolding run
run_took m [] rest e = end_took m (ends m) [] rest _ (ends_sound m) e
run_took m (x ∷ xs) rest e = go_took m (next m x) x xs rest refl (λ after h. run_took after xs rest h) e
