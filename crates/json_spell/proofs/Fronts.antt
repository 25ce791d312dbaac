-- What reading leaves is the back of what was read.
use Rattle.std.proofs.Common.{◌≡◌, ℕ, ◌+◌, ◌-◌, ◌≤◌, List, [], ◌∷◌, ◌++◌, length, Bool, true, false, cond, refl, sym, ap, ◌∙◌, arith, length-append}
use Rattle.std.proofs.lemmas.List.{take_at}
use Rattle.json_model.specs.Grammar.{IsBlank, AreBlanks}
use Rattle.json_spell.specs.Tokens.{is_blank, gap, behind_gap}
use Rattle.json_spell.specs.Reading.{cut}
use Rattle.std.proofs.lemmas.Bool.Decides.{nat_tests}

-- ---- blanks

gap_step : (b : Bool) (x : ℕ) (xs : List ℕ) → gap xs ++ behind_gap xs ≡ xs → cond b (x ∷ gap xs) [] ++ cond b (behind_gap xs) (x ∷ xs) ≡ x ∷ xs
gap_step true x xs h = ap (λ l. x ∷ l) h
gap_step false x xs h = refl

pub gap_front : (bytes : List ℕ) → gap bytes ++ behind_gap bytes ≡ bytes
unfolding gap behind_gap
gap_front [] = refl
gap_front (x ∷ xs) = gap_step (is_blank x) x xs (gap_front xs)

pub gap_length : (bytes : List ℕ) → length (gap bytes) + length (behind_gap bytes) ≡ length bytes
gap_length bytes = sym (length-append (gap bytes) (behind_gap bytes)) ∙ ap length (gap_front bytes)

pub blank_true : (x : ℕ) → is_blank x ≡ true → IsBlank x
blank_true x h = grind (arith, nat_tests)

gap_blank_step : (b : Bool) (x : ℕ) (xs : List ℕ) → (b ≡ true → IsBlank x) → AreBlanks (gap xs) → AreBlanks (cond b (x ∷ gap xs) [])
gap_blank_step true x xs is h = (is refl, h)
gap_blank_step false x xs is h = tt

pub gap_blank : (bytes : List ℕ) → AreBlanks (gap bytes)
unfolding gap
gap_blank [] = tt
gap_blank (x ∷ xs) = gap_blank_step (is_blank x) x xs (blank_true x) (gap_blank xs)

-- ---- fronts

-- the bytes end in those that are left
pub record Behind (bytes rest : List ℕ) : Type 0 where
  pub front : List ℕ
  pub whole : bytes ≡ front ++ rest

pub behind_less : (bytes rest : List ℕ) → Behind bytes rest → length rest ≤ length bytes
behind_less bytes rest b = omega (arith, ap (λ (l : List ℕ). length l) b.whole, length-append b.front rest)

pub cut_front : (front rest : List ℕ) → cut (front ++ rest) rest ≡ front
cut_front front rest =
    let n : length (front ++ rest) - length rest ≡ length front = omega (arith, length-append front rest) in
    take_at front rest (length (front ++ rest) - length rest) (sym n)

pub cut_is : (bytes front rest : List ℕ) → bytes ≡ front ++ rest → cut bytes rest ≡ front
cut_is bytes front rest e = ap (λ l. cut l rest) e ∙ cut_front front rest
