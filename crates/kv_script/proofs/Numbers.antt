-- The word of a number is its decimal digits, and these are its alone.
use Rattle.std.specs.Prelude.{◌≡◌, ◌≢◌, ℕ, zero, suc, ◌<◌, ◌≤◌, ◌+◌, ◌^◌, List, [], ◌∷◌, ◌++◌, length, map, Result, Ok, Err}
use Rattle.std.proofs.Common.{sym, ap, ◌∙◌, subst, arith, get_or, take}
use Rattle.std.specs.Borrow.{Bor}
use Rattle.std.proofs.lemmas.List.{get_or-map, length-map, map-append, take_more}
use Rattle.kv_script.specs.declared.line.LineFault.{LineFault}
use Rattle.kv_script.specs.declared.line.LineFault.TheVariants as faults
use Rattle.std.specs.Fmt.{decimal}
use Rattle.std.specs.List.{AllByRecursion}
use Rattle.std.specs.Str.{IsUtf8}
use Rattle.std.specs.Str.Parse.{AllDigits, digits_value, ParsesUnsigned}
use Rattle.std.proofs.lemmas.Fmt.{digits_decimal, decimal_digit, decimal_injective, decimal_nonempty, first_decimal, parse-decimal, decimal-digits_value, IsAscii-decimal}
use Rattle.std.proofs.lemmas.Str.{IsUtf8-from_ascii}
use Rattle.std.proofs.lemmas.Str.Parse.{IsNumeralModel, numerals_by_value, tells_digits, not_in_digits, parse_plain}
use Rattle.kv_script.specs.Lines.{IsNumber}
use Rattle.kv_script.specs.Reading.{Reads, IsNumberWord, IsNumberFrom, IsConnectionWord, AreNumberWords, texts}

pub digits : IsNumeralModel (AllDigits 10) (digits_value 10)
digits = numerals_by_value _ tells_digits

-- a word that begins as a number's does: without a sign, and with 0 only where that is all
pub record Begins (word : List ℕ) : Type 0 where
  pub unsigned : get_or word 0 0 ≢ 43
  pub unpadded : get_or word 0 0 ≡ 48 → length word ≤ 1

begins_zero : (n : ℕ) → n < 2 ^ 48 → get_or (decimal n) 0 0 ≡ 48 → length (decimal n) ≤ 1
begins_zero zero h e = let d = ap (λ l. length l) (decimal_digit 0 (omega arith)) in omega arith
begins_zero (suc n) h e = let f = first_decimal (suc n) (omega arith) (omega arith) in absurd (omega arith)

-- a number's word begins so
pub begins : (word : List ℕ) (n : ℕ) → IsNumberWord word n → Begins word
begins word n w =
    let small = w.number in
    let all = digits_decimal digits n (omega arith) in
    let some = decimal_nonempty n (omega arith) in
    rw w.spelled record {
      unsigned = not_in_digits digits (decimal n) 43 all (λ r. omega arith) 0 some;
      unpadded = begins_zero n small;
    }

-- a number's word is text
pub is_text : (word : List ℕ) (n : ℕ) → IsNumberWord word n → IsUtf8 word
is_text word n w =
    let small = w.number in
    rw w.spelled (IsUtf8-from_ascii (decimal n) (IsAscii-decimal n (omega arith)))

-- what is parsed of a number's word is the number
parse : {E : Type 0} (word text : List ℕ) → text ≡ word → (n : ℕ) (r : Result ℕ E) → ParsesUnsigned 64 10 text r → IsNumberWord word n → r ≡ Ok n
parse word text t n r h w =
    let small = w.number in
    parse-decimal 64 n text r (omega arith) (omega arith) (t ∙ w.spelled) h

one_ok : {E : Type 0} (r : Result ℕ E) (m n : ℕ) → r ≡ Ok m → r ≡ Ok n → m ≡ n
one_ok r m n e f = cc

no_ok : {E : Type 0} (r : Result ℕ E) (x : E) (n : ℕ) → r ≡ Err x → r ≡ Ok n → ⊥
no_ok r x n e f = cc

pub parsed : {E : Type 0} (word text : List ℕ) → text ≡ word → (m n : ℕ) (r : Result ℕ E) → r ≡ Ok m → ParsesUnsigned 64 10 text r → IsNumberWord word n → m ≡ n
parsed word text t m n r e h w = one_ok r m n e (parse word text t n r h w)

pub not_parsed : {E : Type 0} (word text : List ℕ) → text ≡ word → (n : ℕ) (x : E) (r : Result ℕ E) → r ≡ Err x → ParsesUnsigned 64 10 text r → IsNumberWord word n → ⊥
not_parsed word text t n x r e h w = no_ok r x n e (parse word text t n r h w)

-- what is parsed of a word that begins so is the number whose word it is
spell : (E : Type 0) (word : List ℕ) (n : ℕ) → ParsesUnsigned {E = E} 64 10 word (Ok n) → Begins word → n < 2 ^ 48 → IsNumberWord word n
spell E word n h b small =
    let found = parse_plain digits {E = E} 64 word (Ok n) h b.unsigned in
    let back = decimal-digits_value digits word found.0.0 found.0.1 (λ e. let one = b.unpadded e in let some = found.0.1 in omega arith) found.0.2 in
    record { number = small; spelled = sym back ∙ ap decimal (sym found.1) }

pub spelled : {E : Type 0} (word text : List ℕ) → text ≡ word → (n : ℕ) (r : Result ℕ E) → r ≡ Ok n → ParsesUnsigned 64 10 text r → Begins word → n < 2 ^ 48 → IsNumberWord word n
spelled {E} word text t n r e h b small =
    spell E word n (subst (λ l. ParsesUnsigned {E = E} 64 10 l (Ok n)) t (subst (ParsesUnsigned {E = E} 64 10 text) e h)) b small

-- two numbers of one word are the same
pub same_number : (word : List ℕ) (m n : ℕ) → IsNumberWord word m → IsNumberWord word n → m ≡ n
same_number word m n p q =
    let a = p.number in
    let b = q.number in
    decimal_injective m n (omega arith) (omega arith) (sym p.spelled ∙ q.spelled)

-- ---- one number for a word

-- a number below the least one
pub too_small : (least : ℕ) (word : List ℕ) (m : ℕ) → IsNumberWord word m → m < least → (n : ℕ) → IsNumberFrom least word n → ⊥
too_small least word m p low n q =
    let enough = q.enough in
    let same = same_number word m n p (record { number = q.number; spelled = q.spelled }) in
    omega arith

-- a number above the connections
pub too_great : (word : List ℕ) (m : ℕ) → IsNumberWord word m → 3 < m → (n : ℕ) → IsConnectionWord word n → ⊥
too_great word m p high n q =
    let few = q.few in
    let same = same_number word m n p (record { number = omega arith; spelled = q.spelled }) in
    omega arith

-- ---- the words of numbers

-- each word of numbers is a number's
pub number_there : (words : List (List ℕ)) (found : List ℕ) → AreNumberWords words found → (k : ℕ) (d : List ℕ) → k < length words → (n : ℕ) × IsNumberWord (get_or words k d) n
number_there words found p k d h = there words found p.numbers p.spelled k h
  where
    there : (ws : List (List ℕ)) (ns : List ℕ) → AllByRecursion IsNumber ns → ws ≡ map decimal ns → (k : ℕ) → k < length ws → (n : ℕ) × IsNumberWord (get_or ws k d) n
    there [] ns a e k h = absurd (omega arith)
    there (w ∷ ws) [] a e k h = absurd (cc)
    there (w ∷ ws) (n ∷ ns) a e zero h = (n, record { number = a.0; spelled = cc })
    there (w ∷ ws) (n ∷ ns) a e (suc k) h = there ws ns a.1 (cc) k (omega arith)

all_more : (ns : List ℕ) (n : ℕ) → AllByRecursion IsNumber ns → IsNumber n → AllByRecursion IsNumber (ns ++ n ∷ [])
all_more [] n a h = (h, tt)
all_more (m ∷ ns) n a h = (a.0, all_more ns n a.1 h)

-- one more word and its number
pub number_more : (words : List (Bor (List ℕ))) (found : List ℕ) (k : ℕ) (d : Bor (List ℕ)) (n : ℕ) → k < length words → AreNumberWords (take k (texts words)) found → IsNumberWord (get_or words k d).now n → AreNumberWords (take (k + 1) (texts words)) (found ++ n ∷ [])
number_more words found k d n h p w =
    let long = length-map words (λ (x : Bor (List ℕ)). x.now) in
    let more = take_more (texts words) k d.now (omega arith) in
    let there = get_or-map (λ (x : Bor (List ℕ)). x.now) words k d d.now h in
    record {
      numbers = all_more found n p.numbers w.number;
      spelled = more
          ∙ ap (λ l. l ++ get_or (texts words) k d.now ∷ []) p.spelled
          ∙ ap (λ x. map decimal found ++ x ∷ []) (there ∙ w.spelled)
          ∙ sym (map-append decimal found (n ∷ []));
    }

-- where a word is no number's, the words are not those of numbers
pub number_stops : (words : List (Bor (List ℕ))) (k : ℕ) (d : Bor (List ℕ)) (e : LineFault) → k < length words → Reads (IsNumberWord (get_or words k d).now) (Err e) → Reads (AreNumberWords (texts words)) (Err e)
number_stops words k d faults.Bad h f = λ right p.
    let long = length-map words (λ (x : Bor (List ℕ)). x.now) in
    let there = number_there (texts words) right p k d.now (omega arith) in
    let word = get_or-map (λ (x : Bor (List ℕ)). x.now) words k d d.now h in
    f there.0 (subst (λ x. IsNumberWord x there.0) word there.1)
number_stops words k d faults.NoMemory h f = tt
