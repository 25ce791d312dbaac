-- What is spelled is read: a run over a string or a number goes to its end.
use Rattle.std.proofs.Common.{◌≡◌, ℕ, List, [], ◌∷◌, ◌++◌, Bool, true, false, cond, Option, Some, None, Ok, Err, ◌⊎◌, inl, inr, refl, ap, ◌∙◌, arith, append_assoc}
use Rattle.std.specs.List.{flat_map, AllByRecursion}
use Rattle.std.proofs.lemmas.Bool.Decides.{nat_tests}
use Rattle.json_spell.specs.declared.tokens.Stop.{Stop}
use Rattle.json_spell.specs.declared.tokens.Mode.{Mode}
use Rattle.json_spell.specs.declared.tokens.Mode.TheVariants as modes
use Rattle.json_model.specs.Grammar.{Within, IsTail, IsPlain, BeginsThree, BeginsFour, IsEscaped, IsHex, IsCharacter, AreDigits, IsDigits, IsWhole, IsFraction, IsExponent, IsNumber}
use Rattle.json_spell.specs.Tokens.{tail, inside, is_digit, digit_first, further, digits_left, next, ends, end_here, go, run}

pub run_step : (m after : Mode) (x : ℕ) (xs : List ℕ) → next m x ≡ Some after → run m (x ∷ xs) ≡ run after xs
unfolding run
run_step m after x xs e = ap (λ o. go o (λ after. run after xs) (end_here m (x ∷ xs))) e

-- ---- strings

plain_next : (x : ℕ) → IsPlain x → inside x ≡ Some modes.Inside
plain_next x (inl h) = grind (arith, nat_tests)
plain_next x (inr (inl h)) = grind (arith, nat_tests)
plain_next x (inr (inr h)) = grind (arith, nat_tests)

two_next : (x : ℕ) → Within 0xc2 0xdf x → inside x ≡ Some (tail 0x80 0xbf 0)
two_next x h = grind (arith, nat_tests)

tail_next : (l u k x : ℕ) → Within l u x → next (modes.Tail l u k) x ≡ Some (further k)
tail_next l u k x h = grind (arith, nat_tests)

hex_next : (k x : ℕ) → IsHex x → next (modes.Hex k) x ≡ Some (digits_left k)
hex_next k x (inl h) = grind (arith, nat_tests)
hex_next k x (inr (inl h)) = grind (arith, nat_tests)
hex_next k x (inr (inr h)) = grind (arith, nat_tests)

escaped_next : (x : ℕ) → IsEscaped x → next modes.Escape x ≡ Some modes.Inside
escaped_next x h = grind (arith, nat_tests)

at_inside : (a c : ℕ) (m : Mode) → a ≡ c → inside c ≡ Some m → inside a ≡ Some m
at_inside a c m e h = ap inside e ∙ h

-- the second byte and the further ones
tails_run : (l u b c : ℕ) (rest : List ℕ) → Within l u b → IsTail c → run (tail l u 1) (b ∷ c ∷ rest) ≡ run modes.Inside rest
tails_run l u b c rest hb hc = run_step (tail l u 1) (tail 0x80 0xbf 0) b (c ∷ rest) (tail_next l u 1 b hb) ∙ run_step (tail 0x80 0xbf 0) modes.Inside c rest (tail_next 0x80 0xbf 0 c hc)

tails_run_two : (l u b c d : ℕ) (rest : List ℕ) → Within l u b → IsTail c → IsTail d → run (tail l u 2) (b ∷ c ∷ d ∷ rest) ≡ run modes.Inside rest
tails_run_two l u b c d rest hb hc hd = run_step (tail l u 2) (tail 0x80 0xbf 1) b (c ∷ d ∷ rest) (tail_next l u 2 b hb) ∙ tails_run 0x80 0xbf c d rest hc hd

three_run : (a b c : ℕ) (rest : List ℕ) → BeginsThree a b → IsTail c → run modes.Inside (a ∷ b ∷ c ∷ rest) ≡ run modes.Inside rest
three_run a b c rest (inl (e, h)) t = run_step modes.Inside (tail 0xa0 0xbf 1) a (b ∷ c ∷ rest) (at_inside a 0xe0 _ e refl) ∙ tails_run 0xa0 0xbf b c rest h t
three_run a b c rest (inr (inl (w, h))) t = run_step modes.Inside (tail 0x80 0xbf 1) a (b ∷ c ∷ rest) (grind (arith, nat_tests)) ∙ tails_run 0x80 0xbf b c rest h t
three_run a b c rest (inr (inr (inl (e, h)))) t = run_step modes.Inside (tail 0x80 0x9f 1) a (b ∷ c ∷ rest) (at_inside a 0xed _ e refl) ∙ tails_run 0x80 0x9f b c rest h t
three_run a b c rest (inr (inr (inr (w, h)))) t = run_step modes.Inside (tail 0x80 0xbf 1) a (b ∷ c ∷ rest) (grind (arith, nat_tests)) ∙ tails_run 0x80 0xbf b c rest h t

four_run : (a b c d : ℕ) (rest : List ℕ) → BeginsFour a b → IsTail c → IsTail d → run modes.Inside (a ∷ b ∷ c ∷ d ∷ rest) ≡ run modes.Inside rest
four_run a b c d rest (inl (e, h)) t t2 = run_step modes.Inside (tail 0x90 0xbf 2) a (b ∷ c ∷ d ∷ rest) (at_inside a 0xf0 _ e refl) ∙ tails_run_two 0x90 0xbf b c d rest h t t2
four_run a b c d rest (inr (inl (w, h))) t t2 = run_step modes.Inside (tail 0x80 0xbf 2) a (b ∷ c ∷ d ∷ rest) (grind (arith, nat_tests)) ∙ tails_run_two 0x80 0xbf b c d rest h t t2
four_run a b c d rest (inr (inr (e, h))) t t2 = run_step modes.Inside (tail 0x80 0x8f 2) a (b ∷ c ∷ d ∷ rest) (at_inside a 0xf4 _ e refl) ∙ tails_run_two 0x80 0x8f b c d rest h t t2

unicode_run : (b c d e f : ℕ) (rest : List ℕ) → b ≡ 0x75 → IsHex c → IsHex d → IsHex e → IsHex f → run modes.Escape (b ∷ c ∷ d ∷ e ∷ f ∷ rest) ≡ run modes.Inside rest
unicode_run b c d e f rest u h1 h2 h3 h4 =
    run_step modes.Escape (modes.Hex 3) b (c ∷ d ∷ e ∷ f ∷ rest) (ap (λ x. next modes.Escape x) u)
    ∙ run_step (modes.Hex 3) (modes.Hex 2) c (d ∷ e ∷ f ∷ rest) (hex_next 3 c h1)
    ∙ run_step (modes.Hex 2) (modes.Hex 1) d (e ∷ f ∷ rest) (hex_next 2 d h2)
    ∙ run_step (modes.Hex 1) (modes.Hex 0) e (f ∷ rest) (hex_next 1 e h3)
    ∙ run_step (modes.Hex 0) modes.Inside f rest (hex_next 0 f h4)

two_run : (a b : ℕ) (rest : List ℕ) → IsCharacter (a ∷ b ∷ []) → run modes.Inside (a ∷ b ∷ rest) ≡ run modes.Inside rest
two_run a b rest (inl (w, h)) = run_step modes.Inside (tail 0x80 0xbf 0) a (b ∷ rest) (two_next a w) ∙ run_step (tail 0x80 0xbf 0) modes.Inside b rest (tail_next 0x80 0xbf 0 b h)
two_run a b rest (inr (e, h)) = run_step modes.Inside modes.Escape a (b ∷ rest) (at_inside a 0x5c _ e refl) ∙ run_step modes.Escape modes.Inside b rest (escaped_next b h)

character_run : (c rest : List ℕ) → IsCharacter c → run modes.Inside (c ++ rest) ≡ run modes.Inside rest
character_run [] rest h = absurd h
character_run (a ∷ []) rest h = run_step modes.Inside modes.Inside a rest (plain_next a h)
character_run (a ∷ b ∷ []) rest h = two_run a b rest h
character_run (a ∷ b ∷ c ∷ []) rest h = three_run a b c rest h.0 h.1
character_run (a ∷ b ∷ c ∷ d ∷ []) rest h = four_run a b c d rest h.0 h.1 h.2
character_run (a ∷ b ∷ c ∷ d ∷ e ∷ []) rest h = absurd h
character_run (a ∷ b ∷ c ∷ d ∷ e ∷ f ∷ []) rest h = run_step modes.Inside modes.Escape a (b ∷ c ∷ d ∷ e ∷ f ∷ rest) (at_inside a 0x5c _ h.0 refl) ∙ unicode_run b c d e f rest h.1 h.2 h.3 h.4 h.5
character_run (a ∷ b ∷ c ∷ d ∷ e ∷ f ∷ g ∷ more) rest h = absurd h

closed_run : (rest : List ℕ) → run modes.Closed rest ≡ Ok rest
unfolding run
closed_run [] = refl
closed_run (x ∷ xs) = refl

pub string_run : (cs : List (List ℕ)) (rest : List ℕ) → AllByRecursion IsCharacter cs → run modes.Inside ((flat_map (λ c. c) cs ++ 0x22 ∷ []) ++ rest) ≡ Ok rest
string_run [] rest fit = run_step modes.Inside modes.Closed 0x22 rest refl ∙ closed_run rest
string_run (c ∷ cs) rest fit =
    let split : ((c ++ flat_map (λ c. c) cs) ++ 0x22 ∷ []) ++ rest ≡ c ++ ((flat_map (λ c. c) cs ++ 0x22 ∷ []) ++ rest) = simp append_assoc in
    ap (run modes.Inside) split ∙ character_run c ((flat_map (λ c. c) cs ++ 0x22 ∷ []) ++ rest) fit.0 ∙ string_run cs rest fit.1

-- ---- numbers

-- no number goes on with what follows
abbrev pub Clean : List ℕ → Type 0
Clean [] = Unit {0}
Clean (x ∷ xs) = (m : Mode) → ends m ≡ true → next m x ≡ None

ended_cond : (b : Bool) (bytes : List ℕ) (s : Stop) → b ≡ true → cond b (Ok bytes) (Err s) ≡ Ok bytes
ended_cond true bytes s e = refl
ended_cond false bytes s e = cc

pub ended_run : (m : Mode) (rest : List ℕ) → ends m ≡ true → Clean rest → run m rest ≡ Ok rest
unfolding run
ended_run m [] e clean = ended_cond (ends m) [] _ e
ended_run m (x ∷ xs) e clean = ap (λ o. go o (λ after. run after xs) (end_here m (x ∷ xs))) (clean m e) ∙ ended_cond (ends m) (x ∷ xs) _ e

digit_test : (x : ℕ) → Within 0x30 0x39 x → is_digit x ≡ true
digit_test x h = grind (arith, nat_tests)

if_true : (b : Bool) (m : Mode) (r : Option Mode) → b ≡ true → cond b (Some m) r ≡ Some m
if_true true m r e = refl
if_true false m r e = cc

digits_run : (m : Mode) → ((x : ℕ) → Within 0x30 0x39 x → next m x ≡ Some m) → (ds rest : List ℕ) → AreDigits ds → run m (ds ++ rest) ≡ run m rest
digits_run m loops [] rest h = refl
digits_run m loops (d ∷ ds) rest h = run_step m m d (ds ++ rest) (loops d h.0) ∙ digits_run m loops ds rest h.1

loops_whole : (x : ℕ) → Within 0x30 0x39 x → next modes.Whole x ≡ Some modes.Whole
loops_whole x h = if_true (is_digit x) modes.Whole _ (digit_test x h)

loops_fraction : (x : ℕ) → Within 0x30 0x39 x → next modes.Fraction x ≡ Some modes.Fraction
loops_fraction x h = if_true (is_digit x) modes.Fraction _ (digit_test x h)

loops_exponent : (x : ℕ) → Within 0x30 0x39 x → next modes.Exponent x ≡ Some modes.Exponent
loops_exponent x h = if_true (is_digit x) modes.Exponent _ (digit_test x h)

-- digits that a mode wants, and then an exponent's end
power_run : (digits rest : List ℕ) → IsDigits digits → Clean rest → run modes.Sign (digits ++ rest) ≡ Ok rest
power_run [] rest h clean = absurd h
power_run (d ∷ ds) rest h clean = run_step modes.Sign modes.Exponent d (ds ++ rest) (if_true (is_digit d) modes.Exponent _ (digit_test d h.0)) ∙ digits_run modes.Exponent loops_exponent ds rest h.1 ∙ ended_run modes.Exponent rest refl clean

digit_no_sign : (x : ℕ) → Within 0x30 0x39 x → next modes.Mark x ≡ Some modes.Exponent
digit_no_sign x h = grind (arith, nat_tests)

marked_run : (sign digits rest : List ℕ) → (sign ≡ []) ⊎ (sign ≡ 0x2b ∷ []) ⊎ (sign ≡ 0x2d ∷ []) → IsDigits digits → Clean rest → run modes.Mark (sign ++ (digits ++ rest)) ≡ Ok rest
marked_run sign [] rest is h clean = absurd h
marked_run sign (d ∷ ds) rest (inl e) h clean = ap (λ l. run modes.Mark (l ++ (d ∷ (ds ++ rest)))) e ∙ run_step modes.Mark modes.Exponent d (ds ++ rest) (digit_no_sign d h.0) ∙ digits_run modes.Exponent loops_exponent ds rest h.1 ∙ ended_run modes.Exponent rest refl clean
marked_run sign (d ∷ ds) rest (inr (inl e)) h clean = ap (λ l. run modes.Mark (l ++ (d ∷ (ds ++ rest)))) e ∙ run_step modes.Mark modes.Sign 0x2b (d ∷ (ds ++ rest)) refl ∙ power_run (d ∷ ds) rest h clean
marked_run sign (d ∷ ds) rest (inr (inr e)) h clean = ap (λ l. run modes.Mark (l ++ (d ∷ (ds ++ rest)))) e ∙ run_step modes.Mark modes.Sign 0x2d (d ∷ (ds ++ rest)) refl ∙ power_run (d ∷ ds) rest h clean

-- a mode behind which a number may end or an exponent come
pub record Powers (m : Mode) : Type 0 where
  pub ends_there : ends m ≡ true
  pub mark_there : (e : ℕ) → (e ≡ 0x65) ⊎ (e ≡ 0x45) → next m e ≡ Some modes.Mark

at_next : (m after : Mode) (x c : ℕ) → x ≡ c → next m c ≡ Some after → next m x ≡ Some after
at_next m after x c e h = ap (λ y. next m y) e ∙ h

mark_of : (m : Mode) → next m 0x65 ≡ Some modes.Mark → next m 0x45 ≡ Some modes.Mark → (e : ℕ) → (e ≡ 0x65) ⊎ (e ≡ 0x45) → next m e ≡ Some modes.Mark
mark_of m a b e (inl h) = at_next m modes.Mark e 0x65 h a
mark_of m a b e (inr h) = at_next m modes.Mark e 0x45 h b

exponent_run : (m : Mode) (exponent rest : List ℕ) → Powers m → IsExponent exponent → Clean rest → run m (exponent ++ rest) ≡ Ok rest
exponent_run m [] rest p h clean = ended_run m rest p.ends_there clean
exponent_run m (e ∷ more) rest p (is, sign, digits, sign_is, are, parts) clean =
    let split : more ++ rest ≡ sign ++ (digits ++ rest) = ap (λ l. l ++ rest) parts ∙ append_assoc sign digits rest in
    run_step m modes.Mark e (more ++ rest) (p.mark_there e is) ∙ ap (run modes.Mark) split ∙ marked_run sign digits rest sign_is are clean

fraction_powers : Powers modes.Fraction
fraction_powers = record { ends_there = refl; mark_there = mark_of modes.Fraction refl refl }

-- a mode behind which a fraction may come too
pub record Scales (m : Mode) : Type 0 where
  pub powers : Powers m
  pub point_there : next m 0x2e ≡ Some modes.Point

digits_fraction : (digits exponent rest : List ℕ) → IsDigits digits → IsExponent exponent → Clean rest → run modes.Point (digits ++ (exponent ++ rest)) ≡ Ok rest
digits_fraction [] exponent rest h is clean = absurd h
digits_fraction (d ∷ ds) exponent rest h is clean =
    run_step modes.Point modes.Fraction d (ds ++ (exponent ++ rest)) (if_true (is_digit d) modes.Fraction _ (digit_test d h.0))
    ∙ digits_run modes.Fraction loops_fraction ds (exponent ++ rest) h.1 ∙ exponent_run modes.Fraction exponent rest fraction_powers is clean

scaled_run : (m : Mode) (fraction exponent rest : List ℕ) → Scales m → IsFraction fraction → IsExponent exponent → Clean rest → run m (fraction ++ (exponent ++ rest)) ≡ Ok rest
scaled_run m [] exponent rest s h is clean = exponent_run m exponent rest s.powers is clean
scaled_run m (p ∷ ds) exponent rest s h is clean = run_step m modes.Point p (ds ++ (exponent ++ rest)) (at_next m modes.Point p 0x2e h.0 s.point_there) ∙ digits_fraction ds exponent rest h.1 is clean

zero_scales : Scales modes.Zero
zero_scales = record { powers = record { ends_there = refl; mark_there = mark_of modes.Zero refl refl }; point_there = refl }

whole_scales : Scales modes.Whole
whole_scales = record { powers = record { ends_there = refl; mark_there = mark_of modes.Whole refl refl }; point_there = refl }

-- a mode that digits may begin
pub record Firsts (m : Mode) : Type 0 where
  pub zero_there : next m 0x30 ≡ Some modes.Zero
  pub whole_there : (x : ℕ) → Within 0x31 0x39 x → next m x ≡ Some modes.Whole

whole_run : (m : Mode) (whole fraction exponent rest : List ℕ) → Firsts m → IsWhole whole → IsFraction fraction → IsExponent exponent → Clean rest → run m (whole ++ (fraction ++ (exponent ++ rest))) ≡ Ok rest
whole_run m [] fraction exponent rest f h h2 h3 clean = absurd h
whole_run m (d ∷ ds) fraction exponent rest f (inl (e, none)) h2 h3 clean =
    run_step m modes.Zero d (ds ++ (fraction ++ (exponent ++ rest))) (at_next m modes.Zero d 0x30 e f.zero_there)
    ∙ ap (λ l. run modes.Zero (l ++ (fraction ++ (exponent ++ rest)))) none ∙ scaled_run modes.Zero fraction exponent rest zero_scales h2 h3 clean
whole_run m (d ∷ ds) fraction exponent rest f (inr (w, are)) h2 h3 clean =
    run_step m modes.Whole d (ds ++ (fraction ++ (exponent ++ rest))) (f.whole_there d w)
    ∙ digits_run modes.Whole loops_whole ds (fraction ++ (exponent ++ rest)) are ∙ scaled_run modes.Whole fraction exponent rest whole_scales h2 h3 clean

first_whole : (x : ℕ) → Within 0x31 0x39 x → digit_first x ≡ Some modes.Whole
first_whole x h = grind (arith, nat_tests)

start_whole : (x : ℕ) → Within 0x31 0x39 x → next modes.Start x ≡ Some modes.Whole
start_whole x h = grind (arith, nat_tests)

pub number_run : (text rest : List ℕ) → IsNumber text → Clean rest → run modes.Start (text ++ rest) ≡ Ok rest
number_run text rest n clean = by_minus n.minus_is
  where
    tail_is : List ℕ
    tail_is = n.whole ++ (n.fraction ++ (n.exponent ++ rest))

    split : text ++ rest ≡ n.minus ++ tail_is
    split = ap (λ l. l ++ rest) n.parts ∙ simp append_assoc

    by_minus : (n.minus ≡ []) ⊎ (n.minus ≡ 0x2d ∷ []) → run modes.Start (text ++ rest) ≡ Ok rest
    by_minus (inl e) = ap (run modes.Start) (split ∙ ap (λ l. l ++ tail_is) e) ∙ whole_run modes.Start n.whole n.fraction n.exponent rest (record { zero_there = refl; whole_there = start_whole }) n.whole_is n.fraction_is n.exponent_is clean
    by_minus (inr e) = ap (run modes.Start) (split ∙ ap (λ l. l ++ tail_is) e) ∙ run_step modes.Start modes.Minus 0x2d tail_is refl ∙ whole_run modes.Minus n.whole n.fraction n.exponent rest (record { zero_there = refl; whole_there = first_whole }) n.whole_is n.fraction_is n.exponent_is clean
