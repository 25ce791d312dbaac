-- The bytes of numbers and of the three words neither end nor quote nor open nor close anything.
use Rattle.std.proofs.Common.{◌≡◌, ℕ, List, [], ◌∷◌, ◌++◌, true, false, cond, eqb, ◌⊎◌, inl, inr, refl, sym, ap, subst, ◌∙◌, arith}
use Rattle.std.specs.List.{AllByRecursion}
use Rattle.std.proofs.lemmas.Bool.Decides.{nat_tests}
use Rattle.json_model.specs.Grammar.{Within, IsBlank, AreDigits, IsDigits, IsWhole, IsFraction, IsExponent, IsNumber}
use Rattle.json_walk.specs.Stepping.{opens, closes, ends_word, behind_word}
use Rattle.json_walk.specs.Places.{Ends}

-- a byte within a number or a word
pub record Inner (x : ℕ) : Type 0 where
  pub goes_on : ends_word x ≡ false
  pub mark : eqb x 0x22 ≡ false
  pub opening : opens x ≡ false
  pub closing : closes x ≡ false

abbrev pub AreInner : List ℕ → Type 0
AreInner = AllByRecursion Inner

inner_join : (a b : List ℕ) → AreInner a → AreInner b → AreInner (a ++ b)
inner_join [] b f g = g
inner_join (x ∷ a) b f g = (f.0, inner_join a b f.1 g)

digit_inner : (x : ℕ) → Within 0x30 0x39 x → Inner x
digit_inner x h = record { goes_on = grind (arith, nat_tests); mark = grind (arith, nat_tests); opening = grind (arith, nat_tests); closing = grind (arith, nat_tests) }

digits_inner : (ds : List ℕ) → AreDigits ds → AreInner ds
digits_inner [] f = tt
digits_inner (d ∷ ds) f = (digit_inner d f.0, digits_inner ds f.1)

some_inner : (ds : List ℕ) → IsDigits ds → AreInner ds
some_inner [] f = absurd f
some_inner (d ∷ ds) f = (digit_inner d f.0, digits_inner ds f.1)

-- a byte whose number is known
known : (x c : ℕ) → x ≡ c → Inner c → Inner x
known x c e i = subst Inner (sym e) i

whole_inner : (ds : List ℕ) → IsWhole ds → AreInner ds
whole_inner [] f = absurd f
whole_inner (d ∷ ds) (inl h) = (known d 0x30 h.0 (record { goes_on = refl; mark = refl; opening = refl; closing = refl }), subst AreInner (sym h.1) tt)
whole_inner (d ∷ ds) (inr h) = (digit_inner d (record { low = omega (arith, h.0.low); high = h.0.high }), digits_inner ds h.1)

fraction_inner : (ds : List ℕ) → IsFraction ds → AreInner ds
fraction_inner [] f = tt
fraction_inner (p ∷ ds) f = (known p 0x2e f.0 (record { goes_on = refl; mark = refl; opening = refl; closing = refl }), some_inner ds f.1)

sign_inner : (s : List ℕ) → (s ≡ []) ⊎ (s ≡ 0x2b ∷ []) ⊎ (s ≡ 0x2d ∷ []) → AreInner s
sign_inner s (inl e) = subst AreInner (sym e) tt
sign_inner s (inr (inl e)) = subst AreInner (sym e) (record { goes_on = refl; mark = refl; opening = refl; closing = refl }, tt)
sign_inner s (inr (inr e)) = subst AreInner (sym e) (record { goes_on = refl; mark = refl; opening = refl; closing = refl }, tt)

mark_inner : (e : ℕ) → (e ≡ 0x65) ⊎ (e ≡ 0x45) → Inner e
mark_inner e (inl h) = known e 0x65 h (record { goes_on = refl; mark = refl; opening = refl; closing = refl })
mark_inner e (inr h) = known e 0x45 h (record { goes_on = refl; mark = refl; opening = refl; closing = refl })

exponent_inner : (s : List ℕ) → IsExponent s → AreInner s
exponent_inner [] f = tt
exponent_inner (e ∷ more) (mark, sign, digits, signed, some, whole) =
    (mark_inner e mark, subst AreInner (sym whole) (inner_join sign digits (sign_inner sign signed) (some_inner digits some)))

minus_inner : (s : List ℕ) → (s ≡ []) ⊎ (s ≡ 0x2d ∷ []) → AreInner s
minus_inner s (inl e) = subst AreInner (sym e) tt
minus_inner s (inr e) = subst AreInner (sym e) (record { goes_on = refl; mark = refl; opening = refl; closing = refl }, tt)

pub number_inner : (s : List ℕ) → IsNumber s → AreInner s
number_inner s n =
    subst AreInner (sym n.parts)
    (inner_join n.minus (n.whole ++ (n.fraction ++ n.exponent)) (minus_inner n.minus n.minus_is)
    (inner_join n.whole (n.fraction ++ n.exponent) (whole_inner n.whole n.whole_is)
    (inner_join n.fraction n.exponent (fraction_inner n.fraction n.fraction_is) (exponent_inner n.exponent n.exponent_is))))

-- ---- the end of a number or a word

ends_test : (x : ℕ) → IsBlank x ⊎ (x ≡ 0x2c) ⊎ (x ≡ 0x7d) ⊎ (x ≡ 0x5d) → ends_word x ≡ true
ends_test x h = grind (arith, nat_tests)

ends_none : (rest : List ℕ) → Ends rest → behind_word rest ≡ rest
unfolding behind_word
ends_none [] e = refl
ends_none (x ∷ xs) e = ap (λ b. cond b (x ∷ xs) (behind_word xs)) (ends_test x e)

pub word_passed : (s rest : List ℕ) → AreInner s → Ends rest → behind_word (s ++ rest) ≡ rest
unfolding behind_word
word_passed [] rest f e = ends_none rest e
word_passed (x ∷ s) rest f e = ap (λ b. cond b (x ∷ (s ++ rest)) (behind_word (s ++ rest))) f.0.goes_on ∙ word_passed s rest f.1 e
