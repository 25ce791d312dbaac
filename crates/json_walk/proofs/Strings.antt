-- A string is passed over as a whole: neither an escape nor a byte of a character ends it.
use Rattle.std.proofs.Common.{◌≡◌, ℕ, ◌≤◌, List, [], ◌∷◌, ◌++◌, Bool, true, false, cond, eqb, drop, inl, inr, refl, sym, ap, ◌∙◌, arith, append_assoc}
use Rattle.std.specs.List.{flat_map, AllByRecursion}
use Rattle.std.proofs.lemmas.Bool.Decides.{nat_tests}
use Rattle.json_model.specs.Grammar.{IsTail, IsPlain, BeginsThree, BeginsFour, IsHex, IsCharacter, IsString}
use Rattle.json_walk.specs.Stepping.{behind_string, behind_escape, closed_at, string_at, escape_at}

-- a byte that neither ends a string nor begins an escape
record Other (x : ℕ) : Type 0 where
  mark : eqb x 0x22 ≡ false
  escape : eqb x 0x5c ≡ false

high_other : (x : ℕ) → 0x80 ≤ x → Other x
high_other x h = record { mark = grind (arith, nat_tests); escape = grind (arith, nat_tests) }

plain_other : (x : ℕ) → IsPlain x → Other x
plain_other x (inl h) = record { mark = grind (arith, nat_tests); escape = grind (arith, nat_tests) }
plain_other x (inr (inl h)) = record { mark = grind (arith, nat_tests); escape = grind (arith, nat_tests) }
plain_other x (inr (inr h)) = record { mark = grind (arith, nat_tests); escape = grind (arith, nat_tests) }

hex_other : (x : ℕ) → IsHex x → Other x
hex_other x (inl h) = record { mark = grind (arith, nat_tests); escape = grind (arith, nat_tests) }
hex_other x (inr (inl h)) = record { mark = grind (arith, nat_tests); escape = grind (arith, nat_tests) }
hex_other x (inr (inr h)) = record { mark = grind (arith, nat_tests); escape = grind (arith, nat_tests) }

tail_other : (x : ℕ) → IsTail x → Other x
tail_other x h = high_other x h.low

other_step : (x : ℕ) (xs : List ℕ) → Other x → behind_string (x ∷ xs) ≡ behind_string xs
unfolding behind_string
other_step x xs o = rw (o.mark, o.escape) refl

pub escape_step : (x : ℕ) (xs : List ℕ) → behind_string (0x5c ∷ x ∷ xs) ≡ behind_string xs
unfolding behind_string behind_escape
escape_step x xs = refl

pub mark_step : (xs : List ℕ) → behind_string (0x22 ∷ xs) ≡ xs
unfolding behind_string
mark_step xs = refl

at_escape : (a x : ℕ) (xs : List ℕ) → a ≡ 0x5c → behind_string (a ∷ x ∷ xs) ≡ behind_string xs
at_escape a x xs e = ap (λ n. behind_string (n ∷ x ∷ xs)) e ∙ escape_step x xs

three_first : (a b : ℕ) → BeginsThree a b → 0x80 ≤ a
three_first a b (inl h) = omega (arith, h.0)
three_first a b (inr (inl h)) = omega (arith, h.0.low)
three_first a b (inr (inr (inl h))) = omega (arith, h.0)
three_first a b (inr (inr (inr h))) = omega (arith, h.0.low)

three_second : (a b : ℕ) → BeginsThree a b → 0x80 ≤ b
three_second a b (inl h) = omega (arith, h.1.low)
three_second a b (inr (inl h)) = h.1.low
three_second a b (inr (inr (inl h))) = h.1.low
three_second a b (inr (inr (inr h))) = h.1.low

four_first : (a b : ℕ) → BeginsFour a b → 0x80 ≤ a
four_first a b (inl h) = omega (arith, h.0)
four_first a b (inr (inl h)) = omega (arith, h.0.low)
four_first a b (inr (inr h)) = omega (arith, h.0)

four_second : (a b : ℕ) → BeginsFour a b → 0x80 ≤ b
four_second a b (inl h) = omega (arith, h.1.low)
four_second a b (inr (inl h)) = h.1.low
four_second a b (inr (inr h)) = h.1.low

two_passed : (a b : ℕ) (rest : List ℕ) → IsCharacter (a ∷ b ∷ []) → behind_string (a ∷ b ∷ rest) ≡ behind_string rest
two_passed a b rest (inl h) = other_step a (b ∷ rest) (high_other a (omega (arith, h.0.low))) ∙ other_step b rest (tail_other b h.1)
two_passed a b rest (inr h) = at_escape a b rest h.0

character_passed : (c rest : List ℕ) → IsCharacter c → behind_string (c ++ rest) ≡ behind_string rest
character_passed [] rest h = absurd h
character_passed (a ∷ []) rest h = other_step a rest (plain_other a h)
character_passed (a ∷ b ∷ []) rest h = two_passed a b rest h
character_passed (a ∷ b ∷ c ∷ []) rest h =
    other_step a (b ∷ c ∷ rest) (high_other a (three_first a b h.0)) ∙ other_step b (c ∷ rest) (high_other b (three_second a b h.0)) ∙ other_step c rest (tail_other c h.1)
character_passed (a ∷ b ∷ c ∷ d ∷ []) rest h =
    other_step a (b ∷ c ∷ d ∷ rest) (high_other a (four_first a b h.0)) ∙ other_step b (c ∷ d ∷ rest) (high_other b (four_second a b h.0)) ∙ other_step c (d ∷ rest) (tail_other c h.1) ∙ other_step d rest (tail_other d h.2)
character_passed (a ∷ b ∷ c ∷ d ∷ e ∷ []) rest h = absurd h
character_passed (a ∷ b ∷ c ∷ d ∷ e ∷ f ∷ []) rest h =
    at_escape a b (c ∷ d ∷ e ∷ f ∷ rest) h.0 ∙ other_step c (d ∷ e ∷ f ∷ rest) (hex_other c h.2) ∙ other_step d (e ∷ f ∷ rest) (hex_other d h.3) ∙ other_step e (f ∷ rest) (hex_other e h.4) ∙ other_step f rest (hex_other f h.5)
character_passed (a ∷ b ∷ c ∷ d ∷ e ∷ f ∷ g ∷ more) rest h = absurd h

characters_passed : (cs : List (List ℕ)) (rest : List ℕ) → AllByRecursion IsCharacter cs → behind_string ((flat_map (λ c. c) cs ++ 0x22 ∷ []) ++ rest) ≡ rest
characters_passed [] rest fit = mark_step rest
characters_passed (c ∷ cs) rest fit =
    let split : ((c ++ flat_map (λ c. c) cs) ++ 0x22 ∷ []) ++ rest ≡ c ++ ((flat_map (λ c. c) cs ++ 0x22 ∷ []) ++ rest) = simp append_assoc in
    ap behind_string split ∙ character_passed c ((flat_map (λ c. c) cs ++ 0x22 ∷ []) ++ rest) fit.0 ∙ characters_passed cs rest fit.1

pub skip_step : (xs : List ℕ) → behind_escape xs ≡ behind_string (drop 1 xs)
unfolding behind_string behind_escape
skip_step [] = refl
skip_step (x ∷ xs) = refl

-- a string begins with a quotation mark, and from behind that on it is passed over
pub record Quoted (s : List ℕ) : Type 0 where
  pub inner : List ℕ
  pub whole : s ≡ 0x22 ∷ inner
  pub passed : (rest : List ℕ) → behind_string (inner ++ rest) ≡ rest

pub string_quoted : (s : List ℕ) → IsString s → Quoted s
string_quoted s (cs, fit, e) = record { inner = flat_map (λ c. c) cs ++ 0x22 ∷ []; whole = e; passed = λ rest. characters_passed cs rest fit }

-- ---- strings within an object or an array

spread : (f : List ℕ → List ℕ) (b c : Bool) (x y z : List ℕ) → f (cond b x (cond c y z)) ≡ cond b (f x) (cond c (f y) (f z))
spread f true c x y z = refl
spread f false true x y z = refl
spread f false false x y z = refl

mutual
  unfolding behind_string behind_escape closed_at string_at escape_at

  pub string_whole : (depth : ℕ) (xs : List ℕ) → string_at depth xs ≡ closed_at depth (behind_string xs)
  string_whole depth [] = refl
  string_whole depth (x ∷ xs) =
      rw (escape_whole depth xs, string_whole depth xs) (sym (spread (closed_at depth) (eqb x 0x22) (eqb x 0x5c) xs (behind_escape xs) (behind_string xs)))

  escape_whole : (depth : ℕ) (xs : List ℕ) → escape_at depth xs ≡ closed_at depth (behind_escape xs)
  escape_whole depth [] = refl
  escape_whole depth (x ∷ xs) = string_whole depth xs
