-- Hexadecimal digits that are read one after another.
use Rattle.std.proofs.Common.{◌≡◌, ℕ, ◌+◌, ◌*◌, ◌^◌, ◌<◌, ◌≤◌, true, List, [], ◌∷◌, length, get_or, take, Some, refl, sym, ap, ◌∙◌, subst, arith, lt-ltb, le-leb, take_all, length-take-le}
use Rattle.std.proofs.Math.Nat.{pow-le-pow_right}
use Rattle.std.specs.Char.{digit_value, is_digit}
use Rattle.std.specs.List.{list_all}
use Rattle.std.specs.Str.Parse.{AllDigits, digits_value}
use Rattle.std.proofs.lemmas.Int.Digits.{digits_value-lt, digits_value_more, digits_more}
use Rattle.manifest_rules.specs.Form.{hex_number}

-- the first digits were read
pub record Seen (text : List ℕ) (i number : ℕ) : Type 0 where
  pub all : AllDigits 16 (take i text)
  pub value : number ≡ digits_value 16 (take i text)

pub list_all-AllDigits : (text : List ℕ) → AllDigits 16 text → list_all (λ c. is_digit c 16) text ≡ true
list_all-AllDigits [] h = refl
list_all-AllDigits (c ∷ cs) h = rw (lt-ltb _ _ h.0) (list_all-AllDigits cs h.1)

pub room : (text : List ℕ) (i number digit : ℕ) → Seen text i number → i < length text → length text ≤ 16 → digit < 16 → number * 16 + digit < 2 ^ 64
room text i number digit seen within short small =
    let below = digits_value-lt 16 (take i text) seen.all in
    let long = length-take-le i text (omega arith) in
    let shorter : 16 ^ length (take i text) ≤ 16 ^ 15 = (let few : length (take i text) ≤ 15 = omega arith in pow-le-pow_right {n = 16} (omega arith) few) in
    omega (arith, seen.value, below, shorter)

pub one_more : (text : List ℕ) (i number digit : ℕ) → Seen text i number → i < length text → digit < 16 → digit ≡ digit_value (get_or text i 0) → Seen text (i + 1) (number * 16 + digit)
one_more text i number digit seen within small is = record {
  all = digits_more 16 text i within seen.all (subst (λ d. d < 16) is small);
  value = ap (λ n. n * 16 + digit) seen.value ∙ ap (λ d. digits_value 16 (take i text) * 16 + d) is ∙ sym (digits_value_more 16 text i within);
}

formed : (most : ℕ) (text : List ℕ) → 1 ≤ length text → length text ≤ most → AllDigits 16 text → hex_number most text ≡ Some (digits_value 16 text)
formed most text some short all = rw (le-leb 1 (length text) some, le-leb (length text) most short, list_all-AllDigits text all)

pub whole : (most : ℕ) (text : List ℕ) (number : ℕ) → 1 ≤ length text → length text ≤ most → Seen text (length text) number → Some number ≡ hex_number most text
whole most text number some short seen =
    let same = take_all (length text) text (omega arith) in
    ap Some (seen.value ∙ ap (digits_value 16) same) ∙ sym (formed most text some short (subst (AllDigits 16) same seen.all))
