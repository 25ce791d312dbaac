-- The machine stops where reading does.
use Rattle.std.proofs.Common.{◌≡◌, ℕ, zero, suc, ◌+◌, ◌<◌, List, [], ◌∷◌, ◌++◌, length, Bool, true, false, cond, eqb, Option, Some, None, Result, Ok, Err, refl, sym, ap, subst, ◌∙◌, arith}
use Rattle.std.specs.Prelude.{codes, nat_lt}
use Rattle.std.proofs.lemmas.Bool.Decides.{nat_tests}
use Rattle.json_model.specs.declared.kinds.Kind.{Kind}
use Rattle.json_model.specs.declared.kinds.Kind.TheVariants as kinds
use Rattle.json_model.specs.declared.kinds.Shape.{Shape}
use Rattle.json_model.specs.declared.kinds.Shape.TheVariants as shapes
use Rattle.json_spell.specs.declared.tokens.Stop.{Stop}
use Rattle.json_spell.specs.declared.tokens.Stop.TheVariants as stops
use Rattle.json_spell.specs.declared.tokens.Mode.{Mode}
use Rattle.json_spell.specs.declared.tokens.Mode.TheVariants as modes
use Rattle.json_model.specs.Spelled.{Head, plain, keyed, Tree, leaf, group, Parts, more, Document, closing, text}
use Rattle.json_spell.specs.Tokens.{next, ends, end_here, run, spelled_at, is_blank, gap, behind_gap, kind_at}
use Rattle.json_spell.specs.Reading.{◌>>=◌, Read, cut, leaf_end, leaf_at, behind_byte, key_end, head_at, part_end, join_parts, parts, grouped, closed, empty_or, group_at, by_kind, value_at, document_at, ended, shape_of}
use Rattle.json_spell.proofs.Values.{fine, head_took, end_took, value_took, kind_opens}
use Rattle.json_spell.proofs.Again.{Starts}
use Rattle.json_spell.proofs.Loops.{bind_same, part_short}
use Rattle.json_spell.specs.Machine.{State, before, opened, naming, key, named, token, word, behind, Move, go, wrong, deep, if_blank, again, after, after_blank, deeper, begin, first, colon, in_token, in_key, step, none_open, Verdict, moved, verdict}

pub bind_bind : {A B C : Type 0} (r : Result A Stop) (f : A → Result B Stop) (g : B → Result C Stop) → ((r >>= f) >>= g) ≡ (r >>= λ x. f x >>= g)
bind_bind (Ok x) f g = refl
bind_bind (Err s) f g = refl

-- ---- tokens

token_end : (most : ℕ) (m : Mode) (stack : List Shape) (b : Bool) → cond (cond b (none_open stack) false) (Ok tt) (Err (stops.Not 0)) ≡ (cond b (fine {A = List ℕ} []) (Err (stops.Not 0)) >>= λ rest. verdict most (behind stack) rest)
unfolding verdict
token_end most m stack true = refl
token_end most m stack false = refl

-- `run` at a byte, once what comes next is known
abbrev pub run_by : Option Mode → Bool → ℕ → List ℕ → Result (List ℕ) Stop
run_by None b x xs = cond b (Ok (x ∷ xs)) (Err (stops.Not (length (x ∷ xs))))
run_by (Some after) b x xs = run after xs

run_is : (m : Mode) (x : ℕ) (xs : List ℕ) → run m (x ∷ xs) ≡ run_by (next m x) (ends m) x xs
unfolding run
run_is m x xs = by_next (next m x)
  where
    by_next : (o : Option Mode) → Rattle.json_spell.specs.Tokens.go o (λ after. run after xs) (end_here m (x ∷ xs)) ≡ run_by o (ends m) x xs
    by_next None = refl
    by_next (Some after) = refl

token_move : (most : ℕ) (stack : List Shape) (x : ℕ) (xs : List ℕ) (o : Option Mode) (b : Bool)
    → ((after : Mode) → verdict most (token after stack) xs ≡ (run after xs >>= λ rest. verdict most (behind stack) rest))
    → moved (in_token o stack b (after_blank stack x)) (λ s. verdict most s xs) (length (x ∷ xs)) ≡ (run_by o b x xs >>= λ rest. verdict most (behind stack) rest)
unfolding verdict
token_move most stack x xs None true law = refl
token_move most stack x xs None false law = refl
token_move most stack x xs (Some after) b law = law after

pub sim_token : (most : ℕ) (m : Mode) (stack : List Shape) (bytes : List ℕ) → verdict most (token m stack) bytes ≡ (run m bytes >>= λ rest. verdict most (behind stack) rest)
unfolding verdict run
sim_token most m stack [] = token_end most m stack (ends m)
sim_token most m stack (x ∷ xs) =
    token_move most stack x xs (next m x) (ends m) (λ after. sim_token most after stack xs)
    ∙ ap (λ r. r >>= λ rest. verdict most (behind stack) rest) (sym (run_is m x xs))

key_end_none : (most : ℕ) (stack : List Shape) (b : Bool) → Err (stops.Not 0) ≡ (cond b (fine {A = List ℕ} []) (Err (stops.Not 0)) >>= λ rest. verdict most (named stack) rest)
unfolding verdict
key_end_none most stack true = refl
key_end_none most stack false = refl

key_move : (most : ℕ) (stack : List Shape) (x : ℕ) (xs : List ℕ) (o : Option Mode) (b : Bool)
    → ((after : Mode) → verdict most (key after stack) xs ≡ (run after xs >>= λ rest. verdict most (named stack) rest))
    → moved (in_key o stack b (colon stack x)) (λ s. verdict most s xs) (length (x ∷ xs)) ≡ (run_by o b x xs >>= λ rest. verdict most (named stack) rest)
unfolding verdict
key_move most stack x xs None true law = refl
key_move most stack x xs None false law = refl
key_move most stack x xs (Some after) b law = law after

pub sim_key : (most : ℕ) (m : Mode) (stack : List Shape) (bytes : List ℕ) → verdict most (key m stack) bytes ≡ (run m bytes >>= λ rest. verdict most (named stack) rest)
unfolding verdict run
sim_key most m stack [] = key_end_none most stack (ends m)
sim_key most m stack (x ∷ xs) =
    key_move most stack x xs (next m x) (ends m) (λ after. sim_key most after stack xs)
    ∙ ap (λ r. r >>= λ rest. verdict most (named stack) rest) (sym (run_is m x xs))

-- ---- words

word_none : (most : ℕ) (stack : List Shape) (bytes : List ℕ) → verdict most (word [] stack) bytes ≡ verdict most (behind stack) bytes
unfolding verdict
word_none most stack [] = refl
word_none most stack (x ∷ xs) = refl

word_move : (most w x : ℕ) (ws : List ℕ) (stack : List Shape) (xs : List ℕ) (b : Bool) → verdict most (word ws stack) xs ≡ (spelled_at ws xs >>= λ rest. verdict most (behind stack) rest)
    → moved (cond b (go (word ws stack)) wrong) (λ s. verdict most s xs) (length (x ∷ xs)) ≡ (cond b (spelled_at ws xs) (Err (stops.Not (length (x ∷ xs)))) >>= λ rest. verdict most (behind stack) rest)
word_move most w x ws stack xs true law = law
word_move most w x ws stack xs false law = refl

pub sim_word : (most : ℕ) (ws : List ℕ) (stack : List Shape) (bytes : List ℕ) → verdict most (word ws stack) bytes ≡ (spelled_at ws bytes >>= λ rest. verdict most (behind stack) rest)
unfolding verdict spelled_at
sim_word most [] stack bytes = word_none most stack bytes
sim_word most (w ∷ ws) stack [] = refl
sim_word most (w ∷ ws) stack (x ∷ xs) = word_move most w x ws stack xs (eqb x w) (sim_word most ws stack xs)

-- ---- blanks

-- a state that passes over blanks
abbrev pub Skips : ℕ → State → Type 0
Skips most s = (x : ℕ) → is_blank x ≡ true → step most s x ≡ go s

if_blank_true : (x : ℕ) (s : State) (m : Move) → is_blank x ≡ true → if_blank x s m ≡ go s
if_blank_true x s m e = ap (λ b. cond b (go s) m) e

pub skips_before : (most : ℕ) (stack : List Shape) → Skips most (before stack)
skips_before most stack x e = if_blank_true x (before stack) _ e

pub skips_opened : (most : ℕ) (shape : Shape) (stack : List Shape) → Skips most (opened shape stack)
skips_opened most shape stack x e = if_blank_true x (opened shape stack) _ e

pub skips_naming : (most : ℕ) (stack : List Shape) → Skips most (naming stack)
skips_naming most stack x e = if_blank_true x (naming stack) _ e

pub skips_named : (most : ℕ) (stack : List Shape) → Skips most (named stack)
skips_named most stack x e = if_blank_true x (named stack) _ e

pub skips_behind : (most : ℕ) (stack : List Shape) → Skips most (behind stack)
skips_behind most stack x e = if_blank_true x (behind stack) _ e

gap_move : (most : ℕ) (s : State) (x : ℕ) (xs : List ℕ) (b : Bool) → is_blank x ≡ b → Skips most s → verdict most s xs ≡ verdict most s (behind_gap xs) → verdict most s (x ∷ xs) ≡ verdict most s (cond b (behind_gap xs) (x ∷ xs))
unfolding verdict
gap_move most s x xs true e skips law = ap (λ m. moved m (λ after. verdict most after xs) (length (x ∷ xs))) (skips x e) ∙ law
gap_move most s x xs false e skips law = refl

pub sim_gap : (most : ℕ) (s : State) → Skips most s → (bytes : List ℕ) → verdict most s bytes ≡ verdict most s (behind_gap bytes)
unfolding behind_gap
sim_gap most s skips [] = refl
sim_gap most s skips (x ∷ xs) = gap_move most s x xs (is_blank x) refl skips (sim_gap most s skips xs)

starts_cond : (x : ℕ) (xs : List ℕ) (b : Bool) → is_blank x ≡ b → Starts (behind_gap xs) → Starts (cond b (behind_gap xs) (x ∷ xs))
starts_cond x xs true e h = h
starts_cond x xs false e h = e

pub starts_behind : (bytes : List ℕ) → Starts (behind_gap bytes)
unfolding behind_gap
starts_behind [] = tt
starts_behind (x ∷ xs) = starts_cond x xs (is_blank x) refl (starts_behind xs)

pub not_blank : (x : ℕ) (s : State) (m : Move) → is_blank x ≡ false → if_blank x s m ≡ m
not_blank x s m e = ap (λ b. cond b (go s) m) e

-- ---- what stands round a part's value

colon_by : (most : ℕ) (stack : List Shape) (x : ℕ) (xs : List ℕ) (b : Bool) → moved (cond b (go (before stack)) wrong) (λ s. verdict most s xs) (length (x ∷ xs)) ≡ (cond b (fine xs) (Err (stops.Not (length (x ∷ xs)))) >>= λ rest. verdict most (before stack) rest)
colon_by most stack x xs true = refl
colon_by most stack x xs false = refl

sim_colon_at : (most : ℕ) (stack : List Shape) (bytes : List ℕ) → Starts bytes → verdict most (named stack) bytes ≡ (behind_byte 0x3a bytes >>= λ rest. verdict most (before stack) rest)
unfolding verdict
sim_colon_at most stack [] s = refl
sim_colon_at most stack (x ∷ xs) s = ap (λ m. moved m (λ after. verdict most after xs) (length (x ∷ xs))) (not_blank x (named stack) _ s) ∙ colon_by most stack x xs (eqb x 0x3a)

pub sim_colon : (most : ℕ) (stack : List Shape) (bytes : List ℕ) → verdict most (named stack) bytes ≡ (behind_byte 0x3a (behind_gap bytes) >>= λ rest. verdict most (before stack) rest)
sim_colon most stack bytes = sim_gap most (named stack) (skips_named most stack) bytes ∙ sim_colon_at most stack (behind_gap bytes) (starts_behind bytes)

quote_by : (most : ℕ) (stack : List Shape) (x : ℕ) (xs : List ℕ) (b : Bool) → moved (cond b (go (key modes.Inside stack)) wrong) (λ s. verdict most s xs) (length (x ∷ xs)) ≡ ((cond b (fine xs) (Err (stops.Not (length (x ∷ xs)))) >>= λ inner. run modes.Inside inner) >>= λ rest. verdict most (named stack) rest)
quote_by most stack x xs true = sim_key most modes.Inside stack xs
quote_by most stack x xs false = refl

pub sim_name_at : (most : ℕ) (stack : List Shape) (bytes : List ℕ) → Starts bytes → verdict most (naming stack) bytes ≡ (key_end bytes >>= λ rest. verdict most (named stack) rest)
unfolding verdict
sim_name_at most stack [] s = refl
sim_name_at most stack (x ∷ xs) s = ap (λ m. moved m (λ after. verdict most after xs) (length (x ∷ xs))) (not_blank x (naming stack) _ s) ∙ quote_by most stack x xs (eqb x 0x22)

pub sim_head : (most : ℕ) (shape : Shape) (stack : List Shape) (bytes : List ℕ) → verdict most (again shape stack) bytes ≡ (head_at shape bytes >>= λ h. verdict most (before (shape ∷ stack)) h.1)
unfolding head_at
sim_head most shapes.Array stack bytes = sim_gap most (before (shapes.Array ∷ stack)) (skips_before most (shapes.Array ∷ stack)) bytes
sim_head most shapes.Object stack bytes =
    let all : List Shape = shapes.Object ∷ stack in
    sim_gap most (naming all) (skips_naming most all) bytes ∙ sim_name_at most all (behind_gap bytes) (starts_behind bytes)
    ∙ bind_same (key_end (behind_gap bytes)) (λ rest. verdict most (named all) rest) _ (λ rest e.
    sim_colon most all rest ∙ bind_same (behind_byte 0x3a (behind_gap rest)) (λ value. verdict most (before all) value) _ (λ value e. sim_gap most (before all) (skips_before most all) value)
    ∙ sym (bind_bind (behind_byte 0x3a (behind_gap rest)) (λ value. fine {A = Head × List ℕ} (keyed (gap bytes) (cut (behind_gap bytes) rest) (gap rest) (gap value), behind_gap value)) (λ h. verdict most (before all) h.1)))
    ∙ sym (bind_bind (key_end (behind_gap bytes)) (λ rest. behind_byte 0x3a (behind_gap rest) >>= λ value. fine {A = Head × List ℕ} (keyed (gap bytes) (cut (behind_gap bytes) rest) (gap rest) (gap value), behind_gap value)) (λ h. verdict most (before all) h.1))

-- behind a part: another part, or the end of the object or array
abbrev pub behind_end : Shape → List Shape → Bool → State
behind_end shape stack true = again shape stack
behind_end shape stack false = behind stack

end_by : (most : ℕ) (shape : Shape) (stack : List Shape) (x : ℕ) (xs : List ℕ) (b c : Bool)
    → moved (cond b (go (again shape stack)) (cond c (go (behind stack)) wrong)) (λ s. verdict most s xs) (length (x ∷ xs))
    ≡ (cond b (fine {A = Bool × List ℕ} (true, xs)) (cond c (Ok (false, xs)) (Err (stops.Not (length (x ∷ xs))))) >>= λ e. verdict most (behind_end shape stack e.0) e.1)
end_by most shape stack x xs true c = refl
end_by most shape stack x xs false true = refl
end_by most shape stack x xs false false = refl

sim_end_at : (most : ℕ) (shape : Shape) (stack : List Shape) (bytes : List ℕ) → Starts bytes → verdict most (behind (shape ∷ stack)) bytes ≡ (part_end shape bytes >>= λ e. verdict most (behind_end shape stack e.0) e.1)
unfolding verdict
sim_end_at most shape stack [] s = refl
sim_end_at most shape stack (x ∷ xs) s =
    ap (λ m. moved m (λ after. verdict most after xs) (length (x ∷ xs))) (not_blank x (behind (shape ∷ stack)) _ s) ∙ end_by most shape stack x xs (eqb x 0x2c) (eqb x (closing shape))

pub sim_end : (most : ℕ) (shape : Shape) (stack : List Shape) (bytes : List ℕ) → verdict most (behind (shape ∷ stack)) bytes ≡ (part_end shape (behind_gap bytes) >>= λ e. verdict most (behind_end shape stack e.0) e.1)
sim_end most shape stack bytes = sim_gap most (behind (shape ∷ stack)) (skips_behind most (shape ∷ stack)) bytes ∙ sim_end_at most shape stack (behind_gap bytes) (starts_behind bytes)

-- ---- values

-- the machine before a value stops where this reading does
abbrev pub Simulates : ℕ → List Shape → (List ℕ → Read Tree) → Type 0
Simulates most stack v = (bytes : List ℕ) → Starts bytes → verdict most (before stack) bytes ≡ (v bytes >>= λ x. verdict most (behind stack) x.1)

starts_head : (shape : Shape) (bytes : List ℕ) (h : Head × List ℕ) → head_at shape bytes ≡ Ok h → Starts h.1
unfolding head_at
starts_head shapes.Array bytes h e = let same : behind_gap bytes ≡ h.1 = ap (λ (x : Head × List ℕ). x.1) (ok_pair bytes h e) in subst Starts same (starts_behind bytes)
  where
    ok_pair : (bytes : List ℕ) (h : Head × List ℕ) → fine {A = Head × List ℕ} (plain (gap bytes), behind_gap bytes) ≡ Ok h → (plain (gap bytes), behind_gap bytes) ≡ h
    ok_pair bytes h e = cc
starts_head shapes.Object bytes h e = by_key (key_end (behind_gap bytes)) e
  where
    make : List ℕ → List ℕ → Result (Head × List ℕ) Stop
    make rest value = Ok (keyed (gap bytes) (cut (behind_gap bytes) rest) (gap rest) (gap value), behind_gap value)

    at_value : (rest value : List ℕ) → make rest value ≡ Ok h → Starts h.1
    at_value rest value e = let same : (keyed (gap bytes) (cut (behind_gap bytes) rest) (gap rest) (gap value), behind_gap value) ≡ h = cc in subst Starts (ap (λ (x : Head × List ℕ). x.1) same) (starts_behind value)

    by_colon : (rest : List ℕ) (r : Result (List ℕ) Stop) → (r >>= λ value. make rest value) ≡ Ok h → Starts h.1
    by_colon rest (Ok value) e = at_value rest value e
    by_colon rest (Err s) e = cc

    by_key : (r : Result (List ℕ) Stop) → (r >>= λ rest. behind_byte 0x3a (behind_gap rest) >>= λ value. make rest value) ≡ Ok h → Starts h.1
    by_key (Ok rest) e = by_colon rest (behind_byte 0x3a (behind_gap rest)) e
    by_key (Err s) e = cc

join_sim : (most : ℕ) (shape : Shape) (stack : List Shape) (h : Head) (t : Tree) (g : List ℕ) (f : List ℕ → Read Parts) (e : Bool × List ℕ)
    → (e.0 ≡ true → verdict most (again shape stack) e.1 ≡ (f e.1 >>= λ p. verdict most (behind stack) p.1))
    → verdict most (behind_end shape stack e.0) e.1 ≡ (join_parts h t g f e >>= λ p. verdict most (behind stack) p.1)
join_sim most shape stack h t g f (true, rest) law = law refl ∙ sym (bind_bind (f rest) (λ ps. fine {A = Parts × List ℕ} (more h t g ps.0, ps.1)) (λ p. verdict most (behind stack) p.1))
join_sim most shape stack h t g f (false, rest) law = refl

pub sim_parts : (most : ℕ) (shape : Shape) (stack : List Shape) (v : List ℕ → Read Tree) → Simulates most (shape ∷ stack) v → ((bytes : List ℕ) (x : Tree × List ℕ) → v bytes ≡ Ok x → bytes ≡ text x.0 ++ x.1)
    → (n : ℕ) (bytes : List ℕ) → length bytes < n → verdict most (again shape stack) bytes ≡ (parts v shape n bytes >>= λ p. verdict most (behind stack) p.1)
unfolding parts
sim_parts most shape stack v sim law zero bytes less = absurd (omega arith)
sim_parts most shape stack v sim law (suc n) bytes less =
    let rest_of : Head × List ℕ → Tree × List ℕ → Bool × List ℕ → Read Parts = λ h t e. join_parts h.0 t.0 (gap t.1) (λ rest. parts v shape n rest) e in
    let k : Parts × List ℕ → Verdict = λ p. verdict most (behind stack) p.1 in
    sim_head most shape stack bytes
    ∙ bind_same (head_at shape bytes) (λ h. verdict most (before (shape ∷ stack)) h.1) (λ h. (v h.1 >>= λ t. part_end shape (behind_gap t.1) >>= λ e. rest_of h t e) >>= k) (λ h eh.
    sim h.1 (starts_head shape bytes h eh)
    ∙ bind_same (v h.1) (λ t. verdict most (behind (shape ∷ stack)) t.1) (λ t. (part_end shape (behind_gap t.1) >>= λ e. rest_of h t e) >>= k) (λ t et.
    sim_end most shape stack t.1
    ∙ bind_same (part_end shape (behind_gap t.1)) (λ e. verdict most (behind_end shape stack e.0) e.1) (λ e. rest_of h t e >>= k) (λ e ee.
    let short : length e.1 < length bytes = part_short shape bytes h t e (head_took shape bytes h eh) (law h.1 t et) (end_took shape (behind_gap t.1) e ee) in
    join_sim most shape stack h.0 t.0 (gap t.1) (λ rest. parts v shape n rest) e (λ b. sim_parts most shape stack v sim law n e.1 (omega (arith, short, less))))
    ∙ sym (bind_bind (part_end shape (behind_gap t.1)) (λ e. rest_of h t e) k))
    ∙ sym (bind_bind (v h.1) (λ t. part_end shape (behind_gap t.1) >>= λ e. rest_of h t e) k))
    ∙ sym (bind_bind (head_at shape bytes) (λ h. v h.1 >>= λ t. part_end shape (behind_gap t.1) >>= λ e. rest_of h t e) k)

-- behind an opening bracket
pub first_same : (most : ℕ) (shape : Shape) (stack : List Shape) (x : ℕ) (xs : List ℕ) → is_blank x ≡ false → moved (first most shape stack x) (λ s. verdict most s xs) (length (x ∷ xs)) ≡ verdict most (again shape stack) (x ∷ xs)
unfolding verdict
first_same most shapes.Object stack x xs e = sym (ap (λ m. moved m (λ s. verdict most s xs) (length (x ∷ xs))) (not_blank x (naming (shapes.Object ∷ stack)) _ e))
first_same most shapes.Array stack x xs e = sym (ap (λ m. moved m (λ s. verdict most s xs) (length (x ∷ xs))) (not_blank x (before (shapes.Array ∷ stack)) _ e))

opened_by : (most : ℕ) (shape : Shape) (stack : List Shape) (g : List ℕ) (x : ℕ) (xs : List ℕ) (b : Bool) (r : Read Parts) → is_blank x ≡ false
    → verdict most (again shape stack) (x ∷ xs) ≡ (r >>= λ p. verdict most (behind stack) p.1)
    → moved (cond b (go (behind stack)) (first most shape stack x)) (λ s. verdict most s xs) (length (x ∷ xs)) ≡ (empty_or shape g (cond b (Some xs) None) (grouped shape r) >>= λ t. verdict most (behind stack) t.1)
opened_by most shape stack g x xs true r nb law = refl
opened_by most shape stack g x xs false r nb law = first_same most shape stack x xs nb ∙ law ∙ sym (bind_bind r (λ ps. fine {A = Tree × List ℕ} (group shape ps.0, ps.1)) (λ t. verdict most (behind stack) t.1))

opened_none : (most : ℕ) (shape : Shape) (stack : List Shape) → verdict most (opened shape stack) [] ≡ verdict most (again shape stack) []
unfolding verdict
opened_none most shapes.Object stack = refl
opened_none most shapes.Array stack = refl

sim_opened_at : (most : ℕ) (shape : Shape) (stack : List Shape) (g bytes : List ℕ) (r : Read Parts) → Starts bytes → verdict most (again shape stack) bytes ≡ (r >>= λ p. verdict most (behind stack) p.1)
    → verdict most (opened shape stack) bytes ≡ (empty_or shape g (closed shape bytes) (grouped shape r) >>= λ t. verdict most (behind stack) t.1)
unfolding verdict
sim_opened_at most shape stack g [] r s law = opened_none most shape stack ∙ law ∙ sym (bind_bind r (λ ps. fine {A = Tree × List ℕ} (group shape ps.0, ps.1)) (λ t. verdict most (behind stack) t.1))
sim_opened_at most shape stack g (x ∷ xs) r s law =
    ap (λ m. moved m (λ after. verdict most after xs) (length (x ∷ xs))) (not_blank x (opened shape stack) _ s) ∙ opened_by most shape stack g x xs (eqb x (closing shape)) r s law

again_skips : (most : ℕ) (shape : Shape) (stack : List Shape) → Skips most (again shape stack)
again_skips most shapes.Object stack = skips_naming most (shapes.Object ∷ stack)
again_skips most shapes.Array stack = skips_before most (shapes.Array ∷ stack)

pub sim_group : (most : ℕ) (shape : Shape) (stack : List Shape) (v : List ℕ → Read Tree) → Simulates most (shape ∷ stack) v → ((bytes : List ℕ) (x : Tree × List ℕ) → v bytes ≡ Ok x → bytes ≡ text x.0 ++ x.1)
    → (bytes : List ℕ) → verdict most (opened shape stack) bytes ≡ (group_at v shape bytes >>= λ t. verdict most (behind stack) t.1)
unfolding group_at
sim_group most shape stack v sim law bytes =
    sim_gap most (opened shape stack) (skips_opened most shape stack) bytes
    ∙ sim_opened_at most shape stack (gap bytes) (behind_gap bytes) (parts v shape (suc (length bytes)) bytes) (starts_behind bytes)
    (sym (sim_gap most (again shape stack) (again_skips most shape stack) bytes) ∙ sim_parts most shape stack v sim law (suc (length bytes)) bytes (omega arith))

-- leaves
leaf_bind : (most : ℕ) (stack : List Shape) (kind : Kind) (bytes : List ℕ) → (leaf_end kind bytes >>= λ rest. verdict most (behind stack) rest) ≡ (leaf_at kind bytes >>= λ x. verdict most (behind stack) x.1)
leaf_bind most stack kind bytes = sym (bind_bind (leaf_end kind bytes) (λ rest. fine {A = Tree × List ℕ} (leaf kind (cut bytes rest), rest)) (λ x. verdict most (behind stack) x.1))

number_first : (most : ℕ) (stack : List Shape) (x : ℕ) (xs : List ℕ) (o : Option Mode) → next modes.Start x ≡ o → moved (begin most stack (Some kinds.Number) o) (λ s. verdict most s xs) (length (x ∷ xs)) ≡ (run modes.Start (x ∷ xs) >>= λ rest. verdict most (behind stack) rest)
number_first most stack x xs None e = sym (ap (λ r. r >>= λ rest. verdict most (behind stack) rest) (run_is modes.Start x xs ∙ ap (λ o. run_by o false x xs) e))
number_first most stack x xs (Some m) e = sim_token most m stack xs ∙ sym (ap (λ r. r >>= λ rest. verdict most (behind stack) rest) (run_is modes.Start x xs ∙ ap (λ o. run_by o false x xs) e))

word_first : (w x : ℕ) (ws xs : List ℕ) → x ≡ w → spelled_at (w ∷ ws) (x ∷ xs) ≡ spelled_at ws xs
unfolding spelled_at
word_first w x ws xs e = if_same (eqb x w) (spelled_at ws xs) _ (eqb_of x w e)
  where
    eqb_of : (x w : ℕ) → x ≡ w → eqb x w ≡ true
    eqb_of x w e = grind (arith, nat_tests)

    if_same : (b : Bool) (x y : Result (List ℕ) Stop) → b ≡ true → cond b x y ≡ x
    if_same true x y e = refl
    if_same false x y e = cc

pub deeper_none : (most : ℕ) (shape : Shape) (stack : List Shape) → most ≡ length stack → deeper most shape stack ≡ deep
deeper_none most shape stack e = by_test (nat_lt (length stack) most) (test (length stack) most e)
  where
    test : (n m : ℕ) → m ≡ n → nat_lt n m ≡ false
    test n m e = grind (arith, nat_tests)

    by_test : (b : Bool) → b ≡ false → cond b (go (opened shape stack)) deep ≡ deep
    by_test true e = cc
    by_test false e = refl

pub deeper_room : (most : ℕ) (shape : Shape) (stack : List Shape) → length stack < most → deeper most shape stack ≡ go (opened shape stack)
deeper_room most shape stack e = by_test (nat_lt (length stack) most) (test (length stack) most e)
  where
    test : (n m : ℕ) → n < m → nat_lt n m ≡ true
    test n m e = grind (arith, nat_tests)

    by_test : (b : Bool) → b ≡ true → cond b (go (opened shape stack)) deep ≡ go (opened shape stack)
    by_test true e = refl
    by_test false e = cc

-- a leaf, of which the first byte is known
pub sim_leaf : (most : ℕ) (stack : List Shape) (x : ℕ) (xs : List ℕ) (kind : Kind) → kind_at x ≡ Some kind → None ≡ shape_of kind
    → moved (begin most stack (Some kind) (next modes.Start x)) (λ s. verdict most s xs) (length (x ∷ xs)) ≡ (leaf_end kind (x ∷ xs) >>= λ rest. verdict most (behind stack) rest)
sim_leaf most stack x xs kinds.Object e none = cc
sim_leaf most stack x xs kinds.Array e none = cc
sim_leaf most stack x xs kinds.Text e none = sim_token most modes.Inside stack xs
sim_leaf most stack x xs kinds.Number e none = number_first most stack x xs (next modes.Start x) refl
sim_leaf most stack x xs kinds.True e none = sim_word most (codes "rue") stack xs ∙ sym (ap (λ r. r >>= λ rest. verdict most (behind stack) rest) (word_first 0x74 x (codes "rue") xs (kind_opens x kinds.True e)))
sim_leaf most stack x xs kinds.False e none = sim_word most (codes "alse") stack xs ∙ sym (ap (λ r. r >>= λ rest. verdict most (behind stack) rest) (word_first 0x66 x (codes "alse") xs (kind_opens x kinds.False e)))
sim_leaf most stack x xs kinds.Null e none = sim_word most (codes "ull") stack xs ∙ sym (ap (λ r. r >>= λ rest. verdict most (behind stack) rest) (word_first 0x6e x (codes "ull") xs (kind_opens x kinds.Null e)))

sim_kind : (most : ℕ) (stack : List Shape) (x : ℕ) (xs : List ℕ) (inner : Shape → Read Tree) (k : Option Kind) → kind_at x ≡ k
    → ((shape : Shape) → moved (deeper most shape stack) (λ s. verdict most s xs) (length (x ∷ xs)) ≡ (inner shape >>= λ t. verdict most (behind stack) t.1))
    → moved (begin most stack k (next modes.Start x)) (λ s. verdict most s xs) (length (x ∷ xs)) ≡ (by_kind inner k (x ∷ xs) >>= λ t. verdict most (behind stack) t.1)
sim_kind most stack x xs inner None e law = refl
sim_kind most stack x xs inner (Some kinds.Object) e law = law shapes.Object
sim_kind most stack x xs inner (Some kinds.Array) e law = law shapes.Array
sim_kind most stack x xs inner (Some kinds.Text) e law = sim_leaf most stack x xs kinds.Text e refl ∙ leaf_bind most stack kinds.Text (x ∷ xs)
sim_kind most stack x xs inner (Some kinds.Number) e law = sim_leaf most stack x xs kinds.Number e refl ∙ leaf_bind most stack kinds.Number (x ∷ xs)
sim_kind most stack x xs inner (Some kinds.True) e law = sim_leaf most stack x xs kinds.True e refl ∙ leaf_bind most stack kinds.True (x ∷ xs)
sim_kind most stack x xs inner (Some kinds.False) e law = sim_leaf most stack x xs kinds.False e refl ∙ leaf_bind most stack kinds.False (x ∷ xs)
sim_kind most stack x xs inner (Some kinds.Null) e law = sim_leaf most stack x xs kinds.Null e refl ∙ leaf_bind most stack kinds.Null (x ∷ xs)

pub sim_value : (room most : ℕ) (stack : List Shape) → room + length stack ≡ most → Simulates most stack (value_at room)
unfolding verdict value_at
sim_value zero most stack e [] s = refl
sim_value (suc room) most stack e [] s = refl
sim_value zero most stack e (x ∷ xs) s =
    ap (λ m. moved m (λ after. verdict most after xs) (length (x ∷ xs))) (not_blank x (before stack) _ s)
    ∙ sim_kind most stack x xs (λ shape. Err (stops.Deep (length (x ∷ xs)))) (kind_at x) refl (λ shape. ap (λ m. moved m (λ after. verdict most after xs) (length (x ∷ xs))) (deeper_none most shape stack (omega (arith, e))))
sim_value (suc room) most stack e (x ∷ xs) s =
    ap (λ m. moved m (λ after. verdict most after xs) (length (x ∷ xs))) (not_blank x (before stack) _ s)
    ∙ sim_kind most stack x xs (λ shape. group_at (value_at room) shape xs) (kind_at x) refl (λ shape.
    ap (λ m. moved m (λ after. verdict most after xs) (length (x ∷ xs))) (deeper_room most shape stack (omega (arith, e)))
    ∙ sim_group most shape stack (value_at room) (sim_value room most (shape ∷ stack) (omega (arith, e))) (λ bytes y h. (value_took room bytes y h).whole) xs)

-- ---- a whole text

abbrev pub told : {A : Type 0} → Result A Stop → Verdict
told (Ok x) = Ok tt
told (Err s) = Err s

end_of : (most : ℕ) (bytes : List ℕ) (d : Document) → Starts bytes → verdict most (behind []) bytes ≡ told (ended bytes d)
unfolding verdict
end_of most [] d s = refl
end_of most (x ∷ xs) d s = ap (λ m. moved m (λ after. verdict most after xs) (length (x ∷ xs))) (not_blank x (behind []) _ s)

told_bind : {A B : Type 0} (r : Result A Stop) (f : A → Result B Stop) → told (r >>= f) ≡ (r >>= λ x. told (f x))
told_bind (Ok x) f = refl
told_bind (Err s) f = refl

-- the machine stops where the reading of a text does
pub sim_document : (most : ℕ) (bytes : List ℕ) → verdict most (before []) bytes ≡ told (document_at most bytes)
unfolding document_at
sim_document most bytes =
    let doc : Tree × List ℕ → Document = λ t. record { before = gap bytes; tree = t.0; after = gap t.1 } in
    sim_gap most (before []) (skips_before most []) bytes ∙ sim_value most most [] (omega arith) (behind_gap bytes) (starts_behind bytes)
    ∙ bind_same (value_at most (behind_gap bytes)) (λ t. verdict most (behind []) t.1) (λ t. told (ended (behind_gap t.1) (doc t))) (λ t e. sim_gap most (behind []) (skips_behind most []) t.1 ∙ end_of most (behind_gap t.1) (doc t) (starts_behind t.1))
    ∙ sym (told_bind (value_at most (behind_gap bytes)) (λ t. ended (behind_gap t.1) (doc t)))
