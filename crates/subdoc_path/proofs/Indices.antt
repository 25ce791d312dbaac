-- An index that is read is spelled so, and an index that is spelled is read.
use Rattle.std.proofs.Common.{◌≡◌, ℕ, ◌+◌, ◌*◌, ◌-◌, ◌^◌, ◌<◌, ◌≤◌, List, [], ◌∷◌, ◌++◌, Bool, true, false, cond, eqb, ltb, Option, Some, None, ◌⊎◌, inl, inr, refl, sym, ap, subst, ◌∙◌, arith, append_assoc}
use Rattle.std.specs.Char.{digit_value}
use Rattle.std.specs.Str.Parse.{digits_value_after, digits_value}
use Rattle.std.proofs.lemmas.Bool.Decides.{nat_tests}
use Rattle.json_model.specs.declared.asked.Part.{Part}
use Rattle.json_model.specs.declared.asked.Part.TheVariants.{Member, At, Last}
use Rattle.json_model.specs.Grammar.{Within, AreDigits, IsWhole}
use Rattle.json_model.specs.Paths.{IsFirst}
use Rattle.subdoc_path.specs.Reading.{with_digit, go, number_at, numbered, last_at, zero_at, index_at}

test_case : (b : Bool) → (b ≡ true) ⊎ (b ≡ false)
test_case true = inl refl
test_case false = inr refl

-- ---- one digit

digit_is : (d : ℕ) → Within 0x30 0x39 d → digit_value d ≡ d - 0x30
digit_is d w = grind (arith, nat_tests, w.low, w.high)

-- a digit that was read
pub record Digit (n x m : ℕ) : Type 0 where
  pub is : Within 0x30 0x39 x
  pub value : m ≡ n * 10 + digit_value x
  pub below : m < 2 ^ 32

none_some : (m : ℕ) → None ≡ Some m → ⊥
none_some m e = cc

some_is : (k m : ℕ) → Some k ≡ Some m → k ≡ m
some_is k m e = cc

digit_took : (n x m : ℕ) → with_digit n x ≡ Some m → Digit n x m
digit_took n x m e = low (test_case (ltb x 0x30))
  where
    value : ℕ
    value = n * 10 + (x - 0x30)

    small : ltb x 0x30 ≡ false → ltb 0x39 x ≡ false → (ltb value 0x1_0000_0000 ≡ true) ⊎ (ltb value 0x1_0000_0000 ≡ false) → Digit n x m
    small a b (inl t) =
        let w : Within 0x30 0x39 x = record { low = grind (arith, nat_tests); high = grind (arith, nat_tests) } in
        let k : value ≡ m = some_is value m (sym (ap (λ c. cond c None (cond (ltb 0x39 x) None (cond (ltb value 0x1_0000_0000) (Some value) None))) a ∙ ap (λ c. cond c None (cond (ltb value 0x1_0000_0000) (Some value) None)) b ∙ ap (λ c. cond c (Some value) None) t) ∙ e) in
        record { is = w; value = sym k ∙ ap (λ (v : ℕ). n * 10 + v) (sym (digit_is x w)); below = subst (λ (v : ℕ). v < 2 ^ 32) k (grind (arith, nat_tests, t)) }
    small a b (inr t) = absurd (none_some m (sym (ap (λ c. cond c None (cond (ltb 0x39 x) None (cond (ltb value 0x1_0000_0000) (Some value) None))) a ∙ ap (λ c. cond c None (cond (ltb value 0x1_0000_0000) (Some value) None)) b ∙ ap (λ c. cond c (Some value) None) t) ∙ e))

    high : ltb x 0x30 ≡ false → (ltb 0x39 x ≡ true) ⊎ (ltb 0x39 x ≡ false) → Digit n x m
    high a (inl t) = absurd (none_some m (sym (ap (λ c. cond c None (cond (ltb 0x39 x) None (cond (ltb value 0x1_0000_0000) (Some value) None))) a ∙ ap (λ c. cond c None (cond (ltb value 0x1_0000_0000) (Some value) None)) t) ∙ e))
    high a (inr t) = small a t (test_case (ltb value 0x1_0000_0000))

    low : (ltb x 0x30 ≡ true) ⊎ (ltb x 0x30 ≡ false) → Digit n x m
    low (inl t) = absurd (none_some m (sym (ap (λ c. cond c None (cond (ltb 0x39 x) None (cond (ltb value 0x1_0000_0000) (Some value) None))) t) ∙ e))
    low (inr t) = high t (test_case (ltb 0x39 x))

not_below : (a b : ℕ) → b ≤ a → ltb a b ≡ false
not_below a b h = grind (arith, nat_tests)

is_below : (a b : ℕ) → a < b → ltb a b ≡ true
is_below a b h = grind (arith, nat_tests)

digit_again : (n x : ℕ) → Within 0x30 0x39 x → n * 10 + digit_value x < 2 ^ 32 → with_digit n x ≡ Some (n * 10 + digit_value x)
digit_again n x w h =
    let value : ℕ = n * 10 + (x - 0x30) in
    let same : digit_value x ≡ x - 0x30 = digit_is x w in
    let small : value < 0x1_0000_0000 = omega (arith, same, h) in
    ap (λ c. cond c None (cond (ltb 0x39 x) None (cond (ltb value 0x1_0000_0000) (Some value) None))) (not_below x 0x30 w.low)
    ∙ ap (λ c. cond c None (cond (ltb value 0x1_0000_0000) (Some value) None)) (not_below 0x39 x w.high)
    ∙ ap (λ c. cond c (Some value) None) (is_below value 0x1_0000_0000 small)
    ∙ ap (λ (v : ℕ). Some (n * 10 + v)) (sym same)

-- ---- a number

-- a number, and what is behind it
abbrev a_number : ℕ → List ℕ → Option (ℕ × List ℕ)
a_number n rest = Some (n, rest)

pub some_number : (a b : ℕ) (c d : List ℕ) → (a_number a c) ≡ (a_number b d) → (a ≡ b) × (c ≡ d)
some_number a b c d e = let h : (λ (p q : ℕ × List ℕ). p ≡ q) (a, c) (b, d) = cc in (ap (λ (p : ℕ × List ℕ). p.0) h, ap (λ (p : ℕ × List ℕ). p.1) h)

none_number : (v : ℕ) (rest : List ℕ) → None ≡ (a_number v rest) → ⊥
none_number v rest e = cc

number_none : (n : ℕ) → number_at n [] ≡ None
unfolding number_at
number_none n = refl

number_more : (n x : ℕ) (xs : List ℕ) (b : Bool) → eqb x 0x5d ≡ b → number_at n (x ∷ xs) ≡ cond b ((a_number n xs)) (go (with_digit n x) (λ m. number_at m xs))
unfolding number_at
number_more n x xs b e = ap (λ b. cond b ((a_number n xs)) (go (with_digit n x) (λ m. number_at m xs))) e

go_took : (o : Option ℕ) (f : ℕ → Option (ℕ × List ℕ)) (v : ℕ) (rest : List ℕ) → go o f ≡ (a_number v rest) → (m : ℕ) × (o ≡ Some m) × (f m ≡ (a_number v rest))
go_took None f v rest e = absurd (none_number v rest e)
go_took (Some m) f v rest e = (m, refl, e)

bracket_is : (x : ℕ) → eqb x 0x5d ≡ true → x ≡ 0x5d
bracket_is x e = grind (arith, nat_tests)

-- digits that were read, and what is behind their bracket
pub record Digits (n : ℕ) (bytes : List ℕ) (v : ℕ) (rest : List ℕ) : Type 0 where
  pub digits : List ℕ
  pub are : AreDigits digits
  pub whole : bytes ≡ digits ++ (0x5d ∷ rest)
  pub value : v ≡ digits_value_after 10 n digits
  pub below : n < 2 ^ 32 → v < 2 ^ 32

number_turn : (n x : ℕ) (xs : List ℕ) (v : ℕ) (rest : List ℕ) → ((m : ℕ) → number_at m xs ≡ (a_number v rest) → Digits m xs v rest) → number_at n (x ∷ xs) ≡ (a_number v rest) → (eqb x 0x5d ≡ true) ⊎ (eqb x 0x5d ≡ false) → Digits n (x ∷ xs) v rest
number_turn n x xs v rest goes e (inl t) =
    let p = some_number n v xs rest (sym (number_more n x xs true t) ∙ e) in
    record { digits = []; are = tt; whole = ap (λ (y : ℕ). y ∷ xs) (bracket_is x t) ∙ ap (λ (r : List ℕ). 0x5d ∷ r) p.1; value = sym p.0; below = λ h. subst (λ (k : ℕ). k < 2 ^ 32) p.0 h }
number_turn n x xs v rest goes e (inr t) =
    let g = go_took (with_digit n x) (λ m. number_at m xs) v rest (sym (number_more n x xs false t) ∙ e) in
    let d = digit_took n x g.0 g.1 in
    let r = goes g.0 g.2 in
    record {
      digits = x ∷ r.digits;
      are = (d.is, r.are);
      whole = ap (λ (l : List ℕ). x ∷ l) r.whole;
      value = r.value ∙ ap (λ (k : ℕ). digits_value_after 10 k r.digits) d.value;
      below = λ h. r.below d.below;
    }

number_took : (bytes : List ℕ) (n v : ℕ) (rest : List ℕ) → number_at n bytes ≡ (a_number v rest) → Digits n bytes v rest
number_took [] n v rest e = absurd (none_number v rest (sym (number_none n) ∙ e))
number_took (x ∷ xs) n v rest e = number_turn n x xs v rest (λ m h. number_took xs m v rest h) e (test_case (eqb x 0x5d))

after_least : (n : ℕ) (ds : List ℕ) → n ≤ digits_value_after 10 n ds
after_least n [] = omega arith
after_least n (d ∷ ds) = omega (arith, after_least (n * 10 + digit_value d) ds)

differs : (x y : ℕ) → (x ≡ y → ⊥) → eqb x y ≡ false
differs x y h = grind (arith, nat_tests)

no_bracket : (d : ℕ) → Within 0x30 0x39 d → eqb d 0x5d ≡ false
no_bracket d w = differs d 0x5d (λ e. absurd (omega (arith, e, w.high)))

number_again : (ds : List ℕ) (n : ℕ) (rest : List ℕ) → AreDigits ds → digits_value_after 10 n ds < 2 ^ 32 → number_at n (ds ++ (0x5d ∷ rest)) ≡ (a_number (digits_value_after 10 n ds) rest)
number_again [] n rest are h = number_more n 0x5d rest true refl
number_again (d ∷ ds) n rest are h =
    let m : ℕ = n * 10 + digit_value d in
    let small : m < 2 ^ 32 = omega (arith, after_least m ds, h) in
    number_more n d (ds ++ (0x5d ∷ rest)) false (no_bracket d are.0)
    ∙ ap (λ o. go o (λ m. number_at m (ds ++ (0x5d ∷ rest)))) (digit_again n d are.0 small)
    ∙ number_again ds m rest are.1 h

-- ---- an index

-- a part, and what is behind it
abbrev pub a_part : Part → List ℕ → Option (Part × List ℕ)
a_part p rest = Some (p, rest)

abbrev pub IsIndex : Part → List ℕ → Type 0
IsIndex (Member name) spelled = ⊥
IsIndex (At n) spelled = IsFirst (At n) spelled
IsIndex Last spelled = IsFirst Last spelled

-- an index that was read behind its opening bracket, and what is behind it
pub record Indexed (bytes : List ℕ) (p : Part) (rest : List ℕ) : Type 0 where
  pub spelled : List ℕ
  pub is : IsIndex p spelled
  pub whole : 0x5b ∷ bytes ≡ spelled ++ rest

none_part : (p : Part) (rest : List ℕ) → None ≡ (a_part p rest) → ⊥
none_part p rest e = cc

pub some_part : (p q : Part) (c d : List ℕ) → (a_part p c) ≡ (a_part q d) → (p ≡ q) × (c ≡ d)
some_part p q c d e = let h : (λ (a b : Part × List ℕ). a ≡ b) (p, c) (q, d) = cc in (ap (λ (p : Part × List ℕ). p.0) h, ap (λ (p : Part × List ℕ). p.1) h)

test_is : (x y : ℕ) → eqb x y ≡ true → x ≡ y
test_is x y e = grind (arith, nat_tests)

abbrev if_part : Bool → Option (Part × List ℕ) → Option (Part × List ℕ)
if_part b o = cond b o None

if_took : (b : Bool) (o : Option (Part × List ℕ)) (p : Part) (rest : List ℕ) → if_part b o ≡ (a_part p rest) → (b ≡ true) × (o ≡ (a_part p rest))
if_took true o p rest e = (refl, e)
if_took false o p rest e = absurd (none_part p rest e)

last_took : (xs : List ℕ) (p : Part) (rest : List ℕ) → last_at xs ≡ (a_part p rest) → Indexed (0x2d ∷ xs) p rest
last_took [] p rest e = absurd (none_part p rest e)
last_took (a ∷ []) p rest e = absurd (none_part p rest e)
last_took (a ∷ b ∷ more) p rest e =
    let f = if_took (eqb a 0x31) (if_part (eqb b 0x5d) ((a_part Last more))) p rest e in
    let g = if_took (eqb b 0x5d) ((a_part Last more)) p rest f.1 in
    let h = some_part Last p more rest g.1 in
    subst (λ (q : Part). Indexed (0x2d ∷ a ∷ b ∷ more) q rest) h.0 (record {
      spelled = 0x5b ∷ 0x2d ∷ 0x31 ∷ 0x5d ∷ [];
      is = refl;
      whole = ap (λ (y : ℕ). 0x5b ∷ 0x2d ∷ y ∷ b ∷ more) (test_is a 0x31 f.0) ∙ ap (λ (y : ℕ). 0x5b ∷ 0x2d ∷ 0x31 ∷ y ∷ more) (test_is b 0x5d g.0) ∙ ap (λ (r : List ℕ). 0x5b ∷ 0x2d ∷ 0x31 ∷ 0x5d ∷ r) h.1;
    })

zero_took : (xs : List ℕ) (p : Part) (rest : List ℕ) → zero_at xs ≡ (a_part p rest) → Indexed (0x30 ∷ xs) p rest
zero_took [] p rest e = absurd (none_part p rest e)
zero_took (a ∷ more) p rest e =
    let f = if_took (eqb a 0x5d) ((a_part (At 0) more)) p rest e in
    let h = some_part (At 0) p more rest f.1 in
    subst (λ (q : Part). Indexed (0x30 ∷ a ∷ more) q rest) h.0 (record {
      spelled = 0x5b ∷ 0x30 ∷ 0x5d ∷ [];
      is = (0x30 ∷ [], inl (refl, refl), refl, omega arith, refl);
      whole = ap (λ (y : ℕ). 0x5b ∷ 0x30 ∷ y ∷ more) (test_is a 0x5d f.0) ∙ ap (λ (r : List ℕ). 0x5b ∷ 0x30 ∷ 0x5d ∷ r) h.1;
    })

first_digit : (x : ℕ) (xs ds rest : List ℕ) → AreDigits ds → x ∷ xs ≡ ds ++ (0x5d ∷ rest) → (x ≡ 0x30 → ⊥) → (x ≡ 0x5d → ⊥) → IsWhole ds
first_digit x xs [] rest are e no_zero no_bracket = let h : x ≡ 0x5d = cc in absurd (no_bracket h)
first_digit x xs (d ∷ ds) rest are e no_zero no_bracket =
    let h : x ≡ d = cc in
    let no : d ≡ 0x30 → ⊥ = λ z. no_zero (h ∙ z) in
    inr (record { low = omega (arith, are.0.low, no); high = are.0.high }, are.1)

numbered_took : (o : Option (ℕ × List ℕ)) (p : Part) (rest : List ℕ) → numbered o ≡ (a_part p rest) → (n : ℕ) × (o ≡ a_number n rest) × (p ≡ At n)
numbered_took None p rest e = absurd (none_part p rest e)
numbered_took (Some r) p rest e = let h = some_part (At r.0) p r.1 rest e in (r.0, ap (λ (l : List ℕ). a_number r.0 l) h.1, sym h.0)

not_test : (x y : ℕ) → eqb x y ≡ false → x ≡ y → ⊥
not_test x y e h = grind (arith, nat_tests)

digits_took : (x : ℕ) (xs : List ℕ) (p : Part) (rest : List ℕ) → eqb x 0x30 ≡ false → eqb x 0x5d ≡ false → numbered (number_at 0 (x ∷ xs)) ≡ (a_part p rest) → Indexed (x ∷ xs) p rest
digits_took x xs p rest no_zero no_bracket e =
    let n = numbered_took (number_at 0 (x ∷ xs)) p rest e in
    let d = number_took (x ∷ xs) 0 n.0 rest n.1 in
    let w = first_digit x xs d.digits rest d.are d.whole (not_test x 0x30 no_zero) (not_test x 0x5d no_bracket) in
    subst (λ (q : Part). Indexed (x ∷ xs) q rest) (sym n.2) (record {
      spelled = 0x5b ∷ (d.digits ++ 0x5d ∷ []);
      is = (d.digits, w, d.value, d.below (omega arith), refl);
      whole = ap (λ (l : List ℕ). 0x5b ∷ l) (d.whole ∙ sym (append_assoc d.digits (0x5d ∷ []) rest));
    })

index_turn : (x : ℕ) (xs : List ℕ) (p : Part) (rest : List ℕ) (a b c : Bool) → eqb x 0x2d ≡ a → eqb x 0x30 ≡ b → eqb x 0x5d ≡ c
    → cond a (last_at xs) (cond b (zero_at xs) (cond c None (numbered (number_at 0 (x ∷ xs))))) ≡ (a_part p rest) → Indexed (x ∷ xs) p rest
index_turn x xs p rest true b c ea eb ec e = subst (λ (y : ℕ). Indexed (y ∷ xs) p rest) (sym (test_is x 0x2d ea)) (last_took xs p rest e)
index_turn x xs p rest false true c ea eb ec e = subst (λ (y : ℕ). Indexed (y ∷ xs) p rest) (sym (test_is x 0x30 eb)) (zero_took xs p rest e)
index_turn x xs p rest false false true ea eb ec e = absurd (none_part p rest e)
index_turn x xs p rest false false false ea eb ec e = digits_took x xs p rest eb ec e

-- an index that is read is spelled so
pub index_took : (bytes : List ℕ) (p : Part) (rest : List ℕ) → index_at bytes ≡ (a_part p rest) → Indexed bytes p rest
index_took [] p rest e = absurd (none_part p rest e)
index_took (x ∷ xs) p rest e = index_turn x xs p rest (eqb x 0x2d) (eqb x 0x30) (eqb x 0x5d) refl refl refl e

-- ---- an index that is spelled

digit_index : (d : ℕ) (ds rest : List ℕ) → Within 0x31 0x39 d → index_at (d ∷ ds ++ (0x5d ∷ rest)) ≡ numbered (number_at 0 (d ∷ ds ++ (0x5d ∷ rest)))
digit_index d ds rest w =
    let all : List ℕ = ds ++ (0x5d ∷ rest) in
    ap (λ b. cond b (last_at all) (cond (eqb d 0x30) (zero_at all) (cond (eqb d 0x5d) None (numbered (number_at 0 (d ∷ all)))))) (differs d 0x2d (λ e. absurd (omega (arith, e, w.low))))
    ∙ ap (λ b. cond b (zero_at all) (cond (eqb d 0x5d) None (numbered (number_at 0 (d ∷ all))))) (differs d 0x30 (λ e. absurd (omega (arith, e, w.low))))
    ∙ ap (λ b. cond b None (numbered (number_at 0 (d ∷ all)))) (differs d 0x5d (λ e. absurd (omega (arith, e, w.high))))

number_index : (n : ℕ) (ds rest : List ℕ) → IsWhole ds → n ≡ digits_value 10 ds → n < 2 ^ 32 → index_at (ds ++ (0x5d ∷ rest)) ≡ (a_part (At n) rest)
number_index n [] rest w e h = absurd w
number_index n (d ∷ ds) rest (inl (z, none)) e h =
    let v : n ≡ 0 = e ∙ ap (λ (l : List ℕ). digits_value 10 (d ∷ l)) none ∙ ap (λ (y : ℕ). digits_value 10 (y ∷ [])) z in
    ap (λ (l : List ℕ). index_at (d ∷ l ++ (0x5d ∷ rest))) none ∙ ap (λ (y : ℕ). index_at (y ∷ 0x5d ∷ rest)) z ∙ ap (λ (m : ℕ). (a_part (At m) rest)) (sym v)
number_index n (d ∷ ds) rest (inr (w, are)) e h =
    let first : Within 0x30 0x39 d = record { low = omega (arith, w.low); high = w.high } in
    digit_index d ds rest w
    ∙ ap numbered (number_again (d ∷ ds) 0 rest (first, are) (omega (arith, e, h)))
    ∙ ap (λ (m : ℕ). (a_part (At m) rest)) (sym e)

-- an index that is spelled is read
pub index_again : (p : Part) (spelled rest : List ℕ) → IsIndex p spelled → (bytes : List ℕ) × (spelled ++ rest ≡ 0x5b ∷ bytes) × (index_at bytes ≡ (a_part p rest))
index_again (Member name) spelled rest i = absurd i
index_again (At n) spelled rest (ds, w, v, h, e) =
    (ds ++ (0x5d ∷ rest), ap (λ (l : List ℕ). l ++ rest) e ∙ ap (λ (l : List ℕ). 0x5b ∷ l) (append_assoc ds (0x5d ∷ []) rest), number_index n ds rest w v h)
index_again Last spelled rest e = (0x2d ∷ 0x31 ∷ 0x5d ∷ rest, ap (λ (l : List ℕ). l ++ rest) e, refl)
