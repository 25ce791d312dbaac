-- Reading an id as a function, beside the relation between ids and spellings.
use Rattle.std.proofs.Common.{◌≡◌, ℕ, zero, suc, ◌+◌, ◌-◌, ◌^◌, ◌<◌, ◌≤◌, nat_eq, nat_le, nat_lt, true, ◌||◌, not, List, [], ◌∷◌, ◌++◌, length, get_or, take, drop, Some, None, refl, sym, ap, ◌∙◌, inl, inr, arith}
use Rattle.std.proofs.lemmas.Bool.{cases_lt, cases_eq, cases_Bool, and_from, and_parts, or_cases, cond-true, cond-false, le-leb, lt-leb, leb-true, lt-ltb, ltb-true, eq-eqb, eqb-true, ne_eqb, or_left, or_right, not_from_false, false_from_ne_true}
use Rattle.std.proofs.lemmas.Bool.Decides.{nat_tests}
use Rattle.std.proofs.lemmas.List.{take_at, take-append-drop, drop_at}
use Rattle.leb_collections.specs.Leb128.{AreBytes, value_of, AllContinue, IsShortest}
use Rattle.leb_collections.specs.Functions.{leading, is_spelling, id_at}
use Rattle.leb_collections.proofs.Ends.{Ends, IsShortest-from_end, Ends-from_spelling, value_fits}

-- ---- how many bytes have the top bit

-- those before the first byte that lacks it
leading_is : (bytes : List ℕ) (place : ℕ) → AllContinue place bytes → get_or bytes place 0 < 128 → leading bytes ≡ place
leading_is [] zero continued ended = refl
leading_is [] (suc p) continued ended = let top : 128 ≤ 0 = continued 0 (omega arith) in absurd (omega arith)
leading_is (b ∷ bs) zero continued ended = cond-false (nat_le 128 b) (suc (leading bs)) 0 (lt-leb 128 b ended)
leading_is (b ∷ bs) (suc p) continued ended =
    let top : 128 ≤ b = continued 0 (omega arith) in
    let others : leading bs ≡ p = leading_is bs p (λ k lt. continued (suc k) (omega arith)) ended in
    rw (cond-true (nat_le 128 b) (suc (leading bs)) 0 (le-leb 128 b top), others) refl

-- what is known at the first byte that lacks the top bit
record IsLed (bytes : List ℕ) (place : ℕ) : Type 0 where
  continued : AllContinue place bytes
  ended : get_or bytes place 0 < 128

led_front : (b : ℕ) (bs : List ℕ) → 128 ≤ b → IsLed bs (leading bs) → IsLed (b ∷ bs) (suc (leading bs))
led_front b bs top led = record {
  continued = front;
  ended = led.ended;
}
  where
    front : AllContinue (suc (leading bs)) (b ∷ bs)
    front zero lt = top
    front (suc k) lt = led.continued k (omega arith)

led : (bytes : List ℕ) → IsLed bytes (leading bytes)
led [] = record { continued = λ k lt. absurd (omega arith); ended = omega arith }
led (b ∷ bs) =
    elim (cases_lt b 128) [
      | inl low ↦ rw (cond-false (nat_le 128 b) (suc (leading bs)) 0 (lt-leb 128 b low)) (record { continued = λ k lt. absurd (omega arith); ended = low })
      | inr top ↦ rw (cond-true (nat_le 128 b) (suc (leading bs)) 0 (le-leb 128 b top)) (led_front b bs top (led bs))
    ]

-- ---- reading

-- a spelling that ends at a place passes the test there
end_passes : (bytes : List ℕ) (place : ℕ) → Ends bytes place → is_spelling place bytes ≡ true
end_passes bytes place e =
    let last : get_or bytes place 0 ≡ 0 → place ≡ 0 = e.shortest in
    let fits : place ≡ 4 → get_or bytes place 0 ≤ 15 = e.fits in
    and_from _ _ (and_from _ _ (and_from _ _ (lt-ltb place (length bytes) e.there) (le-leb place 4 e.few)) (fifth bytes place e.few fits)) (nonzero bytes place last)
  where
    fifth : (bytes : List ℕ) (place : ℕ) → place ≤ 4 → (place ≡ 4 → get_or bytes place 0 ≤ 15) → (nat_lt place 4 || nat_le (get_or bytes 4 0) 15) ≡ true
    fifth bytes place few fits =
        elim (cases_lt place 4) [
          | inl lt ↦ or_left _ _ (lt-ltb place 4 lt)
          | inr le ↦ let is : place ≡ 4 = omega arith in or_right _ _ (le-leb _ 15 (rw is at (fits is)))
        ]

    nonzero : (bytes : List ℕ) (place : ℕ) → (get_or bytes place 0 ≡ 0 → place ≡ 0) → (nat_eq place 0 || not (nat_eq (get_or bytes place 0) 0)) ≡ true
    nonzero bytes place last =
        elim (cases_eq (get_or bytes place 0) 0) [
          | inl nil ↦ or_left _ _ (eq-eqb place 0 (last nil))
          | inr other ↦ or_right _ _ (not_from_false (nat_eq (get_or bytes place 0) 0) (ne_eqb (get_or bytes place 0) 0 other))
        ]

-- bytes that pass the test have a spelling that ends there
passed_end : (bytes : List ℕ) → is_spelling (leading bytes) bytes ≡ true → Ends bytes (leading bytes)
passed_end bytes e =
    let place = leading bytes in
    let is = led bytes in
    let outer = and_parts _ _ e in
    let middle = and_parts _ _ outer.0 in
    let inner = and_parts _ _ middle.0 in
    record {
      there = ltb-true place (length bytes) inner.0;
      few = leb-true place 4 inner.1;
      continued = is.continued;
      ended = is.ended;
      shortest = λ nil. elim (or_cases _ _ outer.1) [ inl first ↦ eqb-true place 0 first | inr other ↦ absurd (grind (arith, nat_tests)) ];
      fits = λ four. elim (or_cases _ _ middle.1) [ inl before ↦ let lt : place < 4 = ltb-true place 4 before in absurd (omega arith) | inr low ↦ rw four (leb-true _ 15 low) ];
    }

-- the id at the front is the one whose spelling ends at the place
pub id_at_end : (bytes : List ℕ) (place : ℕ) → Ends bytes place →
    id_at bytes ≡ Some (value_of (take (place + 1) bytes), drop (place + 1) bytes)
id_at_end bytes place e =
    let first : leading bytes ≡ place = leading_is bytes place e.continued e.ended in
    let passes : is_spelling (leading bytes) bytes ≡ true = rw first (end_passes bytes place e) in
    cond-true (is_spelling (leading bytes) bytes) (Some (value_of (take (leading bytes + 1) bytes), drop (leading bytes + 1) bytes)) None passes ∙ rw first refl

-- there is none where no spelling ends
pub id_at_none : (bytes : List ℕ) → ((place : ℕ) → Ends bytes place → ⊥) → id_at bytes ≡ None
id_at_none bytes none =
    cond-false (is_spelling (leading bytes) bytes) _ None (false_from_ne_true _ (λ passes. none (leading bytes) (passed_end bytes passes)))

-- what the function tells of bytes
pub record IsIdAt (bytes : List ℕ) (n : ℕ) (rest : List ℕ) : Type 0 where
  pub ends : Ends bytes (leading bytes)
  pub valued : n ≡ value_of (take (leading bytes + 1) bytes)
  pub rested : rest ≡ drop (leading bytes + 1) bytes

nothing : (x : ℕ × List ℕ) → None ≡ Some x → ⊥
nothing x e = cc

pub id_at_is : (bytes : List ℕ) (n : ℕ) (rest : List ℕ) → id_at bytes ≡ Some (n, rest) → IsIdAt bytes n rest
id_at_is bytes n rest e =
    elim (cases_Bool (is_spelling (leading bytes) bytes)) [
      | inl passes ↦
          let found : ℕ × List ℕ = (value_of (take (leading bytes + 1) bytes), drop (leading bytes + 1) bytes) in
          let some : Some found ≡ Some (n, rest) = sym (cond-true (is_spelling (leading bytes) bytes) (Some found) None passes) ∙ e in
          let pair : (n, rest) ≡ found = cc in
          record { ends = passed_end bytes passes; valued = ap (λ x. x.0) pair; rested = ap (λ x. x.1) pair }
      | inr fails ↦
          let found : ℕ × List ℕ = (value_of (take (leading bytes + 1) bytes), drop (leading bytes + 1) bytes) in
          absurd (nothing (n, rest) (sym (cond-false (is_spelling (leading bytes) bytes) (Some found) None fails) ∙ e))
    ]

-- an id that is read is below 2 ^ 32, whatever the numbers are
pub id_at_below : (bytes : List ℕ) (n : ℕ) (rest : List ℕ) → id_at bytes ≡ Some (n, rest) → n < 2 ^ 32
id_at_below bytes n rest e =
    let is = id_at_is bytes n rest e in rw is.valued (value_fits bytes (leading bytes) is.ends)

pub id_at_reads : (n : ℕ) (spelling rest : List ℕ) → IsShortest n spelling →
    id_at (spelling ++ rest) ≡ Some (n, rest)
id_at_reads n s rest is =
    let some : 1 ≤ length s = is.nonempty in
    let len : length s ≡ length s - 1 + 1 = omega arith in
    let ends = Ends-from_spelling n s rest (s ++ rest) is refl in
    let read = id_at_end (s ++ rest) (length s - 1) ends in
    let front : take (length s - 1 + 1) (s ++ rest) ≡ s = take_at s rest (length s - 1 + 1) len in
    let behind : drop (length s - 1 + 1) (s ++ rest) ≡ rest = drop_at s rest (length s - 1 + 1) len in
    let valued : n ≡ value_of s = is.valued in
    read ∙ rw (front, behind, valued) refl

pub id_at_told : (n : ℕ) (bytes rest : List ℕ) → AreBytes bytes → id_at bytes ≡ Some (n, rest) →
    (spelling : List ℕ) × (bytes ≡ spelling ++ rest) × IsShortest n spelling
id_at_told n bytes rest each e =
    let is = id_at_is bytes n rest e in
    (take (leading bytes + 1) bytes, rw is.rested (sym (take-append-drop (leading bytes + 1) bytes)), IsShortest-from_end bytes (leading bytes) n each is.ends is.valued)
