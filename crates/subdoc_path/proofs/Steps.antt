-- Matching goes on behind each character.
use Rattle.std.proofs.Common.{◌≡◌, ℕ, ◌+◌, ◌*◌, List, [], ◌∷◌, Bool, true, false, cond, eqb, Option, Some, None, refl, sym, ap, ◌∙◌, arith, rules, length, get_or, take, drop, ◌-◌, ◌<◌, ◌≤◌, ◌↔◌}
use Rattle.std.specs.Prelude.{IsTrue}
use Rattle.json_model.specs.Grammar.{IsString}
use Rattle.json_model.specs.Decoding.{StandsFor}
use Rattle.std.proofs.lemmas.List.{take_all}
use Rattle.subdoc_path.proofs.Matches.{matched}
use Rattle.std.proofs.lemmas.Bool.Decides.{nat_tests}
use Rattle.json_model.specs.Decoding.{utf8, escaped, hex, is_high, is_low, paired}
use Rattle.subdoc_path.specs.Matching.{strip, plain, unit, ended, matches, slash, hexes, on, strip_left, with_none, plain_left, unit_left, behind, digits_left, escape_left, letter_left}

eqb_turn : (x y : ℕ) → eqb x y ≡ eqb y x
eqb_turn x y = grind (arith, nat_tests)

strip_is : (bs name : List ℕ) (k : List ℕ → Bool) → strip bs name k ≡ on (strip_left bs name) k
unfolding strip_left
strip_is [] name k = refl
strip_is (b ∷ bs) [] k = refl
strip_is (b ∷ bs) (n ∷ ns) k = ap (λ t. cond t (strip bs ns k) false) (eqb_turn b n) ∙ by_test (eqb n b) (strip_is bs ns k)
  where
    by_test : (t : Bool) → strip bs ns k ≡ on (strip_left bs ns) k → cond t (strip bs ns k) false ≡ on (cond t (strip_left bs ns) None) k
    by_test true e = e
    by_test false e = refl

on_none : (o : Option (List ℕ)) (k : Option ℕ → List ℕ → Bool) → on o (k None) ≡ on (with_none o) (λ r. k r.0 r.1)
on_none None k = refl
on_none (Some l) k = refl

plain_is : (w : Option ℕ) (x : ℕ) (name : List ℕ) (k : Option ℕ → List ℕ → Bool) → plain w x name (k None) ≡ on (plain_left w x name) (λ r. k r.0 r.1)
plain_is None x name k = strip_is (x ∷ []) name (k None) ∙ on_none (strip_left (x ∷ []) name) k
plain_is (Some high) x name k = refl

if_on : (b : Bool) (x y : Bool) (o p : Option (Option ℕ × List ℕ)) (k : Option ℕ → List ℕ → Bool) → x ≡ on o (λ r. k r.0 r.1) → y ≡ on p (λ r. k r.0 r.1) → cond b x y ≡ on (cond b o p) (λ r. k r.0 r.1)
if_on true x y o p k e f = e
if_on false x y o p k e f = f

unit_is : (w : Option ℕ) (n : ℕ) (name : List ℕ) (k : Option ℕ → List ℕ → Bool) → unit w n name k ≡ on (unit_left w n name) (λ r. k r.0 r.1)
unit_is None n name k =
    if_on (is_high n) (k (Some n) name) _ (Some (Some n, name)) _ k refl
    (if_on (is_low n) false _ None _ k refl (strip_is (utf8 n) name (k None) ∙ on_none (strip_left (utf8 n) name) k))
unit_is (Some high) n name k = if_on (is_low n) _ false _ None k (strip_is (utf8 (paired high n)) name (k None) ∙ on_none (strip_left (utf8 (paired high n)) name) k) refl

on_behind : (xs : List ℕ) (o : Option (Option ℕ × List ℕ)) → on o (λ r. matches r.0 xs r.1) ≡ on (behind xs o) (λ r. matches r.0 r.1 r.2)
on_behind xs None = refl
on_behind xs (Some x) = refl

digits_is : (w : Option ℕ) (xs name : List ℕ) → hexes w xs name ≡ on (digits_left w xs name) (λ r. matches r.0 r.1 r.2)
unfolding matches
digits_is w [] name = refl
digits_is w (a ∷ []) name = refl
digits_is w (a ∷ b ∷ []) name = refl
digits_is w (a ∷ b ∷ c ∷ []) name = refl
digits_is w (a ∷ b ∷ c ∷ d ∷ xs) name =
    unit_is w (4096 * hex a + 256 * hex b + 16 * hex c + hex d) name (λ next left. matches next xs left) ∙ on_behind xs (unit_left w (4096 * hex a + 256 * hex b + 16 * hex c + hex d) name)

if_three : (b : Bool) (x y : Bool) (o p : Option (Option ℕ × List ℕ × List ℕ)) → x ≡ on o (λ r. matches r.0 r.1 r.2) → y ≡ on p (λ r. matches r.0 r.1 r.2) → cond b x y ≡ on (cond b o p) (λ r. matches r.0 r.1 r.2)
if_three true x y o p e f = e
if_three false x y o p e f = f

escape_is : (w : Option ℕ) (xs name : List ℕ) → slash w xs name ≡ on (escape_left w xs name) (λ r. matches r.0 r.1 r.2)
unfolding matches
escape_is w [] name = refl
escape_is w (e ∷ xs) name =
    if_three (eqb e 0x75) (hexes w xs name) _ (digits_left w xs name) _ (digits_is w xs name)
    (plain_is w (escaped e) name (λ next left. matches next xs left) ∙ on_behind xs (plain_left w (escaped e) name))

-- behind a byte that isn't the quotation mark
pub letter_is : (w : Option ℕ) (x : ℕ) (xs name : List ℕ) → eqb x 0x22 ≡ false → matches w (x ∷ xs) name ≡ on (letter_left w (x ∷ xs) name) (λ r. matches r.0 r.1 r.2)
unfolding matches
letter_is w x xs name no_quote =
    ap (λ t. cond t (ended w name) (cond (eqb x 0x5c) (slash w xs name) (plain w x name (λ left. matches None xs left)))) no_quote
    ∙ if_three (eqb x 0x5c) (slash w xs name) _ (escape_left w xs name) _ (escape_is w xs name)
    (plain_is w x name (λ next left. matches next xs left) ∙ on_behind xs (plain_left w x name))

-- ---- as the loop reads

differs : (x : ℕ) → (x ≡ 0x22 → ⊥) → eqb x 0x22 ≡ false
differs x h = grind (arith, nat_tests)

pub letter_goes : (w : Option ℕ) (bytes name : List ℕ) (next : Option ℕ) (rest left : List ℕ) → 1 ≤ length bytes → (get_or bytes 0 0 ≡ 0x22 → ⊥) → Some (next, rest, left) ≡ letter_left w bytes name → matches w bytes name ≡ matches next rest left
letter_goes w [] name next rest left long no_quote e = absurd (omega arith)
letter_goes w (x ∷ xs) name next rest left long no_quote e = letter_is w x xs name (differs x no_quote) ∙ ap (λ o. on o (λ r. matches r.0 r.1 r.2)) (sym e)

pub letter_stops : (w : Option ℕ) (bytes name : List ℕ) → 1 ≤ length bytes → (get_or bytes 0 0 ≡ 0x22 → ⊥) → None ≡ letter_left w bytes name → matches w bytes name ≡ false
letter_stops w [] name long no_quote e = absurd (omega arith)
letter_stops w (x ∷ xs) name long no_quote e = letter_is w x xs name (differs x no_quote) ∙ ap (λ o. on o (λ r. matches r.0 r.1 r.2)) (sym e)

pub letter_ends : (w : Option ℕ) (bytes name : List ℕ) → 1 ≤ length bytes → get_or bytes 0 0 ≡ 0x22 → matches w bytes name ≡ ended w name
unfolding matches
letter_ends w [] name long e = absurd (omega arith)
letter_ends w (x ∷ xs) name long e = ap (λ (y : ℕ). matches w (y ∷ xs) name) e

pub none_left : (w : Option ℕ) (bytes name : List ℕ) → length bytes < 1 → matches w bytes name ≡ false
unfolding matches
none_left w [] name short = refl
none_left w (x ∷ xs) name short = absurd (omega arith)

-- a string's text matches where it stands for the name
pub string_says : (key name : List ℕ) (b : Bool) → IsString key → b ≡ matches None (drop 1 key) name → IsTrue b ↔ StandsFor key name
string_says key name b (cs, fit, e) is = (
  λ t. (cs, fit, e, (matched cs fit None name).sound (ap (λ (l : List ℕ). matches None (drop 1 l) name) (sym e) ∙ sym is ∙ from_true b t)),
  λ s. to_true b (is ∙ ap (λ (l : List ℕ). matches None (drop 1 l) name) s.2 ∙ (matched s.0 s.1 None name).whole s.3),
)
  where
    from_true : (b : Bool) → IsTrue b → b ≡ true
    from_true true t = refl
    from_true false t = cc

    to_true : (b : Bool) → b ≡ true → IsTrue b
    to_true true t = search rules
    to_true false t = cc

pub tail_length : (bytes : List ℕ) → take (length bytes - 1) (drop 1 bytes) ≡ drop 1 bytes
tail_length [] = refl
tail_length (x ∷ xs) = take_all (length (x ∷ xs) - 1) xs (omega arith)
