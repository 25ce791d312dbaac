-- The machine's states from which a text can still be reached, and the bytes that reach it.
use Rattle.std.proofs.Common.{◌≡◌, ℕ, zero, suc, ◌<◌, ◌≤◌, List, [], ◌∷◌, ◌++◌, length, Bool, true, false, cond, eqb, Option, Some, None, Ok, ◌||◌, refl, ap, ◌∙◌, arith}
use Rattle.std.specs.Prelude.{nat_lt}
use Rattle.std.proofs.lemmas.Bool.Decides.{nat_tests}
use Rattle.json_model.specs.declared.kinds.Kind.{Kind}
use Rattle.json_model.specs.declared.kinds.Kind.TheVariants as kinds
use Rattle.json_model.specs.declared.kinds.Shape.{Shape}
use Rattle.json_model.specs.declared.kinds.Shape.TheVariants as shapes
use Rattle.json_spell.specs.declared.tokens.Mode.{Mode}
use Rattle.json_spell.specs.declared.tokens.Mode.TheVariants as modes
use Rattle.json_model.specs.Spelled.{closing}
use Rattle.json_spell.specs.Tokens.{within, tail, inside, is_digit, is_mark, is_hex, is_escaped, digit_first, further, digits_left, next, ends, run, is_blank, kind_at}
use Rattle.json_spell.specs.Reading.{◌>>=◌}
use Rattle.json_spell.proofs.Runs.{run_step, ended_run, Clean}
use Rattle.json_spell.proofs.Again.{clean_closing, spelled_again}
use Rattle.json_spell.specs.Machine.{State, before, opened, naming, key, named, token, word, behind, Move, go, wrong, deep, after, after_blank, deeper, begin, begin_key, first, colon, in_token, in_key, step, moved, verdict}
use Rattle.json_spell.proofs.Simulation.{sim_token, sim_key, sim_word}

-- ---- modes that can be finished

-- a range that has a byte
abbrev pub GoodMode : Mode → Type 0
GoodMode modes.Inside = Unit {0}
GoodMode (modes.Tail l u k) = l ≤ u
GoodMode modes.Escape = Unit {0}
GoodMode (modes.Hex k) = Unit {0}
GoodMode modes.Closed = Unit {0}
GoodMode modes.Start = Unit {0}
GoodMode modes.Minus = Unit {0}
GoodMode modes.Zero = Unit {0}
GoodMode modes.Whole = Unit {0}
GoodMode modes.Point = Unit {0}
GoodMode modes.Fraction = Unit {0}
GoodMode modes.Mark = Unit {0}
GoodMode modes.Sign = Unit {0}
GoodMode modes.Exponent = Unit {0}

-- a choice of modes that are good
abbrev pub GoodNext : Option Mode → Type 0
GoodNext None = Unit {0}
GoodNext (Some m) = GoodMode m

either : (b : Bool) (x y : Option Mode) → GoodNext x → GoodNext y → GoodNext (cond b x y)
either true x y g h = g
either false x y g h = h

good_inside : (x : ℕ) → GoodNext (inside x)
good_inside x =
    either (eqb x 0x22) (Some modes.Closed) _ tt (either (eqb x 0x5c) (Some modes.Escape) _ tt (either (within 0x20 0x7f x) (Some modes.Inside) _ tt
    (either (within 0xc2 0xdf x) (Some (tail 0x80 0xbf 0)) _ (omega arith) (either (eqb x 0xe0) (Some (tail 0xa0 0xbf 1)) _ (omega arith) (either (eqb x 0xed) (Some (tail 0x80 0x9f 1)) _ (omega arith)
    (either (within 0xe1 0xef x) (Some (tail 0x80 0xbf 1)) _ (omega arith) (either (eqb x 0xf0) (Some (tail 0x90 0xbf 2)) _ (omega arith) (either (eqb x 0xf4) (Some (tail 0x80 0x8f 2)) _ (omega arith)
    (either (within 0xf1 0xf3 x) (Some (tail 0x80 0xbf 2)) None (omega arith) tt)))))))))

good_further : (k : ℕ) → GoodMode (further k)
good_further zero = tt
good_further (suc k) = omega arith

good_digits : (k : ℕ) → GoodMode (digits_left k)
good_digits zero = tt
good_digits (suc k) = tt

good_first : (x : ℕ) → GoodNext (digit_first x)
good_first x = either (eqb x 0x30) (Some modes.Zero) _ tt (either (within 0x31 0x39 x) (Some modes.Whole) None tt tt)

good_zero : (x : ℕ) → GoodNext (next modes.Zero x)
good_zero x = either (eqb x 0x2e) (Some modes.Point) _ tt (either (is_mark x) (Some modes.Mark) None tt tt)

pub good_next : (m : Mode) (x : ℕ) → GoodNext (next m x)
good_next modes.Inside x = good_inside x
good_next (modes.Tail l u k) x = either (within l u x) (Some (further k)) None (good_further k) tt
good_next modes.Escape x = either (eqb x 0x75) (Some (modes.Hex 3)) _ tt (either (is_escaped x) (Some modes.Inside) None tt tt)
good_next (modes.Hex k) x = either (is_hex x) (Some (digits_left k)) None (good_digits k) tt
good_next modes.Closed x = tt
good_next modes.Start x = either (eqb x 0x2d) (Some modes.Minus) _ tt (good_first x)
good_next modes.Minus x = good_first x
good_next modes.Zero x = good_zero x
good_next modes.Whole x = either (is_digit x) (Some modes.Whole) _ tt (good_zero x)
good_next modes.Point x = either (is_digit x) (Some modes.Fraction) None tt tt
good_next modes.Fraction x = either (is_digit x) (Some modes.Fraction) _ tt (either (is_mark x) (Some modes.Mark) None tt tt)
good_next modes.Mark x = either (eqb x 0x2b || eqb x 0x2d) (Some modes.Sign) _ tt (either (is_digit x) (Some modes.Exponent) None tt tt)
good_next modes.Sign x = either (is_digit x) (Some modes.Exponent) None tt tt
good_next modes.Exponent x = either (is_digit x) (Some modes.Exponent) None tt tt

-- ---- the end of a token

-- bytes that end a token from this mode on, whatever clean follows
pub record Finish (m : Mode) : Type 0 where
  pub bytes : List ℕ
  pub ends_it : (rest : List ℕ) → Clean rest → run m (bytes ++ rest) ≡ Ok rest

by_step : (m after : Mode) (x : ℕ) → next m x ≡ Some after → Finish after → Finish m
by_step m after x e f = record { bytes = x ∷ f.bytes; ends_it = λ rest c. run_step m after x (f.bytes ++ rest) e ∙ f.ends_it rest c }

at_end : (m : Mode) → ends m ≡ true → Finish m
at_end m e = record { bytes = []; ends_it = λ rest c. ended_run m rest e c }

in_string : Finish modes.Inside
in_string = by_step modes.Inside modes.Closed 0x22 refl (at_end modes.Closed refl)

in_range : (l u : ℕ) (k : ℕ) → l ≤ u → next (modes.Tail l u k) l ≡ Some (further k)
in_range l u k h = grind (arith, nat_tests)

finish_tail : (k l u : ℕ) → l ≤ u → Finish (modes.Tail l u k)
finish_tail zero l u h = by_step (modes.Tail l u 0) modes.Inside l (in_range l u 0 h) in_string
finish_tail (suc k) l u h = by_step (modes.Tail l u (suc k)) (tail 0x80 0xbf k) l (in_range l u (suc k) h) (finish_tail k 0x80 0xbf (omega arith))

finish_hex : (k : ℕ) → Finish (modes.Hex k)
finish_hex zero = by_step (modes.Hex 0) modes.Inside 0x30 refl in_string
finish_hex (suc k) = by_step (modes.Hex (suc k)) (modes.Hex k) 0x30 refl (finish_hex k)

pub finish_mode : (m : Mode) → GoodMode m → Finish m
finish_mode modes.Inside g = in_string
finish_mode (modes.Tail l u k) g = finish_tail k l u g
finish_mode modes.Escape g = by_step modes.Escape modes.Inside 0x22 refl in_string
finish_mode (modes.Hex k) g = finish_hex k
finish_mode modes.Closed g = at_end modes.Closed refl
finish_mode modes.Start g = by_step modes.Start modes.Zero 0x30 refl (at_end modes.Zero refl)
finish_mode modes.Minus g = by_step modes.Minus modes.Zero 0x30 refl (at_end modes.Zero refl)
finish_mode modes.Zero g = at_end modes.Zero refl
finish_mode modes.Whole g = at_end modes.Whole refl
finish_mode modes.Point g = by_step modes.Point modes.Fraction 0x30 refl (at_end modes.Fraction refl)
finish_mode modes.Fraction g = at_end modes.Fraction refl
finish_mode modes.Mark g = by_step modes.Mark modes.Exponent 0x30 refl (at_end modes.Exponent refl)
finish_mode modes.Sign g = by_step modes.Sign modes.Exponent 0x30 refl (at_end modes.Exponent refl)
finish_mode modes.Exponent g = at_end modes.Exponent refl

-- ---- the end of a text

abbrev pub stack_of : State → List Shape
stack_of (before stack) = stack
stack_of (opened shape stack) = shape ∷ stack
stack_of (naming stack) = stack
stack_of (key m stack) = stack
stack_of (named stack) = stack
stack_of (token m stack) = stack
stack_of (word ws stack) = stack
stack_of (behind stack) = stack

abbrev pub mode_good : State → Type 0
mode_good (before stack) = Unit {0}
mode_good (opened shape stack) = Unit {0}
mode_good (naming stack) = Unit {0}
mode_good (key m stack) = GoodMode m
mode_good (named stack) = Unit {0}
mode_good (token m stack) = GoodMode m
mode_good (word ws stack) = Unit {0}
mode_good (behind stack) = Unit {0}

-- a state that is reached: no more brackets are open than may be
pub record Good (most : ℕ) (s : State) : Type 0 where
  pub room : length (stack_of s) ≤ most
  pub mode : mode_good s

-- the brackets that close
abbrev pub closings : List Shape → List ℕ
closings [] = []
closings (shape ∷ stack) = closing shape ∷ closings stack

clean_closings : (stack : List Shape) → Clean (closings stack)
clean_closings [] = tt
clean_closings (shape ∷ stack) = clean_closing shape (closings stack)

-- bytes that end a text from a state
pub record Completes (most : ℕ) (s : State) : Type 0 where
  pub bytes : List ℕ
  pub ends_it : verdict most s bytes ≡ Ok tt

close_move : (most : ℕ) (shape : Shape) (stack : List Shape) (xs : List ℕ) → verdict most (behind (shape ∷ stack)) (closing shape ∷ xs) ≡ verdict most (behind stack) xs
unfolding verdict
close_move most shapes.Object stack xs = refl
close_move most shapes.Array stack xs = refl

closes : (most : ℕ) (stack : List Shape) → verdict most (behind stack) (closings stack) ≡ Ok tt
unfolding verdict
closes most [] = refl
closes most (shape ∷ stack) = close_move most shape stack (closings stack) ∙ closes most stack

token_completes : (most : ℕ) (m : Mode) (stack : List Shape) → GoodMode m → Completes most (token m stack)
token_completes most m stack g =
    let f = finish_mode m g in
    record {
      bytes = f.bytes ++ closings stack;
      ends_it = sim_token most m stack (f.bytes ++ closings stack) ∙ ap (λ r. r >>= λ rest. verdict most (behind stack) rest) (f.ends_it (closings stack) (clean_closings stack)) ∙ closes most stack;
    }

-- by one byte
moves_on : (most : ℕ) (s next : State) (x : ℕ) → step most s x ≡ go next → Completes most next → Completes most s
unfolding verdict
moves_on most s next x e c = record { bytes = x ∷ c.bytes; ends_it = ap (λ m. moved m (λ after. verdict most after c.bytes) (length (x ∷ c.bytes))) e ∙ c.ends_it }

before_completes : (most : ℕ) (stack : List Shape) → Completes most (before stack)
before_completes most stack = moves_on most (before stack) (token modes.Zero stack) 0x30 refl (token_completes most modes.Zero stack tt)

named_completes : (most : ℕ) (stack : List Shape) → Completes most (named stack)
named_completes most stack = moves_on most (named stack) (before stack) 0x3a refl (before_completes most stack)

clean_colon : (rest : List ℕ) → Clean (0x3a ∷ rest)
clean_colon rest modes.Inside e = cc
clean_colon rest (modes.Tail l u k) e = cc
clean_colon rest modes.Escape e = cc
clean_colon rest (modes.Hex k) e = cc
clean_colon rest modes.Closed e = refl
clean_colon rest modes.Start e = cc
clean_colon rest modes.Minus e = cc
clean_colon rest modes.Zero e = refl
clean_colon rest modes.Whole e = refl
clean_colon rest modes.Point e = cc
clean_colon rest modes.Fraction e = refl
clean_colon rest modes.Mark e = cc
clean_colon rest modes.Sign e = cc
clean_colon rest modes.Exponent e = refl

colon_move : (most : ℕ) (stack : List Shape) (xs : List ℕ) → verdict most (named stack) (0x3a ∷ xs) ≡ verdict most (before stack) xs
unfolding verdict
colon_move most stack xs = refl

key_completes : (most : ℕ) (m : Mode) (stack : List Shape) → GoodMode m → Completes most (key m stack)
key_completes most m stack g =
    let f = finish_mode m g in
    let c = before_completes most stack in
    record {
      bytes = f.bytes ++ 0x3a ∷ c.bytes;
      ends_it = sim_key most m stack (f.bytes ++ 0x3a ∷ c.bytes) ∙ ap (λ r. r >>= λ rest. verdict most (named stack) rest) (f.ends_it (0x3a ∷ c.bytes) (clean_colon c.bytes)) ∙ colon_move most stack c.bytes ∙ c.ends_it;
    }

opened_completes : (most : ℕ) (shape : Shape) (stack : List Shape) → Completes most (opened shape stack)
opened_completes most shapes.Object stack = moves_on most (opened shapes.Object stack) (behind stack) 0x7d refl (record { bytes = closings stack; ends_it = closes most stack })
opened_completes most shapes.Array stack = moves_on most (opened shapes.Array stack) (behind stack) 0x5d refl (record { bytes = closings stack; ends_it = closes most stack })

word_completes : (most : ℕ) (ws : List ℕ) (stack : List Shape) → Completes most (word ws stack)
word_completes most ws stack =
    record {
      bytes = ws ++ closings stack;
      ends_it = sim_word most ws stack (ws ++ closings stack) ∙ ap (λ r. r >>= λ rest. verdict most (behind stack) rest) (spelled_again ws (closings stack)) ∙ closes most stack;
    }

-- from each state that is reached a text is reached
pub completes : (most : ℕ) (s : State) → mode_good s → Completes most s
completes most (before stack) g = before_completes most stack
completes most (opened shape stack) g = opened_completes most shape stack
completes most (naming stack) g = moves_on most (naming stack) (key modes.Inside stack) 0x22 refl (key_completes most modes.Inside stack tt)
completes most (key m stack) g = key_completes most m stack g
completes most (named stack) g = named_completes most stack
completes most (token m stack) g = token_completes most m stack g
completes most (word ws stack) g = word_completes most ws stack
completes most (behind stack) g = record { bytes = closings stack; ends_it = closes most stack }

-- ---- what is reached

abbrev pub GoodMove : ℕ → Move → Type 0
GoodMove most (go s) = Good most s
GoodMove most wrong = Unit {0}
GoodMove most deep = Unit {0}

choice : (most : ℕ) (b : Bool) (x y : Move) → GoodMove most x → GoodMove most y → GoodMove most (cond b x y)
choice most true x y g h = g
choice most false x y g h = h

good_deeper : (most : ℕ) (shape : Shape) (stack : List Shape) → GoodMove most (deeper most shape stack)
good_deeper most shape stack = by_test (nat_lt (length stack) most) (is_less (length stack) most)
  where
    is_less : (n m : ℕ) → nat_lt n m ≡ true → n < m
    is_less n m e = grind (arith, nat_tests)

    by_test : (b : Bool) → (b ≡ true → length stack < most) → GoodMove most (cond b (go (opened shape stack)) deep)
    by_test true e = let less : length stack < most = e refl in record { room = less; mode = tt }
    by_test false e = tt

good_begin : (most : ℕ) (stack : List Shape) (k : Option Kind) (o : Option Mode) → length stack ≤ most → GoodNext o → GoodMove most (begin most stack k o)
good_begin most stack None o r g = tt
good_begin most stack (Some kinds.Object) o r g = good_deeper most shapes.Object stack
good_begin most stack (Some kinds.Array) o r g = good_deeper most shapes.Array stack
good_begin most stack (Some kinds.Text) o r g = record { room = r; mode = tt }
good_begin most stack (Some kinds.Number) None r g = tt
good_begin most stack (Some kinds.Number) (Some m) r g = record { room = r; mode = g }
good_begin most stack (Some kinds.True) o r g = record { room = r; mode = tt }
good_begin most stack (Some kinds.False) o r g = record { room = r; mode = tt }
good_begin most stack (Some kinds.Null) o r g = record { room = r; mode = tt }

good_after : (most : ℕ) (stack : List Shape) (x : ℕ) → length stack ≤ most → GoodMove most (after stack x)
good_after most [] x r = tt
good_after most (shapes.Object ∷ stack) x r = choice most (eqb x 0x2c) _ _ (record { room = r; mode = tt }) (choice most (eqb x 0x7d) _ wrong (record { room = omega (arith, r); mode = tt }) tt)
good_after most (shapes.Array ∷ stack) x r = choice most (eqb x 0x2c) _ _ (record { room = r; mode = tt }) (choice most (eqb x 0x5d) _ wrong (record { room = omega (arith, r); mode = tt }) tt)

good_blank : (most : ℕ) (stack : List Shape) (x : ℕ) → length stack ≤ most → GoodMove most (after_blank stack x)
good_blank most stack x r = choice most (is_blank x) (go (behind stack)) (after stack x) (record { room = r; mode = tt }) (good_after most stack x r)

good_key : (most : ℕ) (stack : List Shape) (x : ℕ) → length stack ≤ most → GoodMove most (begin_key stack x)
good_key most stack x r = choice most (eqb x 0x22) (go (key modes.Inside stack)) wrong (record { room = r; mode = tt }) tt

good_opened : (most : ℕ) (shape : Shape) (stack : List Shape) (x : ℕ) → length (shape ∷ stack) ≤ most → GoodMove most (first most shape stack x)
good_opened most shapes.Object stack x r = good_key most (shapes.Object ∷ stack) x r
good_opened most shapes.Array stack x r = good_begin most (shapes.Array ∷ stack) (kind_at x) (next modes.Start x) r (good_next modes.Start x)

good_colon : (most : ℕ) (stack : List Shape) (x : ℕ) → length stack ≤ most → GoodMove most (colon stack x)
good_colon most stack x r = choice most (is_blank x) (go (named stack)) _ (record { room = r; mode = tt }) (choice most (eqb x 0x3a) (go (before stack)) wrong (record { room = r; mode = tt }) tt)

good_token : (most : ℕ) (stack : List Shape) (o : Option Mode) (b : Bool) (x : ℕ) → length stack ≤ most → GoodNext o → GoodMove most (in_token o stack b (after_blank stack x))
good_token most stack None b x r g = choice most b (after_blank stack x) wrong (good_blank most stack x r) tt
good_token most stack (Some m) b x r g = record { room = r; mode = g }

good_name : (most : ℕ) (stack : List Shape) (o : Option Mode) (b : Bool) (x : ℕ) → length stack ≤ most → GoodNext o → GoodMove most (in_key o stack b (colon stack x))
good_name most stack None b x r g = choice most b (colon stack x) wrong (good_colon most stack x r) tt
good_name most stack (Some m) b x r g = record { room = r; mode = g }

pub good_step : (most : ℕ) (s : State) (x : ℕ) → Good most s → GoodMove most (step most s x)
good_step most (before stack) x g = choice most (is_blank x) (go (before stack)) _ g (good_begin most stack (kind_at x) (next modes.Start x) g.room (good_next modes.Start x))
good_step most (opened shape stack) x g = choice most (is_blank x) (go (opened shape stack)) _ g (choice most (eqb x (closing shape)) (go (behind stack)) _ (record { room = omega (arith, g.room); mode = tt }) (good_opened most shape stack x g.room))
good_step most (naming stack) x g = choice most (is_blank x) (go (naming stack)) _ g (good_key most stack x g.room)
good_step most (key m stack) x g = good_name most stack (next m x) (ends m) x g.room (good_next m x)
good_step most (named stack) x g = good_colon most stack x g.room
good_step most (token m stack) x g = good_token most stack (next m x) (ends m) x g.room (good_next m x)
good_step most (word [] stack) x g = good_blank most stack x g.room
good_step most (word (w ∷ ws) stack) x g = choice most (eqb x w) (go (word ws stack)) wrong (record { room = g.room; mode = tt }) tt
good_step most (behind stack) x g = good_blank most stack x g.room
