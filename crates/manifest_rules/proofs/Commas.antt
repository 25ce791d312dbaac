-- Texts that are written one after another, with commas between them.
use Rattle.std.proofs.Common.{◌≡◌, ℕ, suc, ◌+◌, ◌<◌, nat_eq, List, [], ◌∷◌, ◌++◌, map, length, get_or, take, codes, cond, refl, sym, ap, ◌∙◌, append_assoc, length-take-le, ne_eqb, arith}
use Rattle.std.proofs.lemmas.List.{take_more, map_push, length-map}
use Rattle.manifest_rules.specs.Text.{with_commas, comma_before}

later : (n : ℕ) → comma_before (suc n) ≡ codes ","
later n = let other : nat_eq (suc n) 0 ≡ cond (nat_eq 0 1) (nat_eq 0 0) (nat_eq 0 1) = ne_eqb (suc n) 0 (λ e. omega arith) in rw other refl

with_commas-push : (ts : List (List ℕ)) (t : List ℕ) → with_commas (ts ++ t ∷ []) ≡ with_commas ts ++ (comma_before (length ts) ++ t)
with_commas-push [] t = refl
with_commas-push (s ∷ []) t = append_assoc s (codes ",") t
with_commas-push (s ∷ r ∷ ss) t =
    let rest = with_commas (r ∷ ss) in
    ap (λ u. s ++ codes "," ++ u) (with_commas-push (r ∷ ss) t)
    ∙ ap (λ u. s ++ codes "," ++ (rest ++ (u ++ t))) (later (length ss))
    ∙ sym (append_assoc (s ++ codes ",") rest (codes "," ++ t))
    ∙ ap (λ u. (s ++ codes "," ++ rest) ++ (u ++ t)) (sym (later (suc (length ss))))

-- one text more
pub one_more : {A : Type 0} (f : A → List ℕ) (xs : List A) (i : ℕ) (x : A) (old a b c : List ℕ) → i < length xs → x ≡ get_or xs i x
    → a ≡ old ++ with_commas (map f (take i xs)) → b ≡ a ++ comma_before i → c ≡ b ++ f x → c ≡ old ++ with_commas (map f (take (i + 1) xs))
one_more f xs i x old a b c within at first second third =
    let done = map f (take i xs) in
    let count : length done ≡ i = length-map (take i xs) f ∙ length-take-le i xs (omega arith) in
    third
    ∙ ap (λ u. u ++ f x) (second ∙ ap (λ u. u ++ comma_before i) first)
    ∙ append_assoc (old ++ with_commas done) (comma_before i) (f x)
    ∙ append_assoc old (with_commas done) (comma_before i ++ f x)
    ∙ ap (λ u. old ++ u) (
    ap (λ n. with_commas done ++ (comma_before n ++ f x)) (sym count)
    ∙ sym (with_commas-push done (f x))
    ∙ ap with_commas (sym (map_push f (take i xs) x) ∙ ap (map f) (ap (λ y. take i xs ++ y ∷ []) at ∙ sym (take_more xs i x within)))
    )
