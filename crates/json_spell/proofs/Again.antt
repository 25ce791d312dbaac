-- What is spelled is read.
use Rattle.std.proofs.Common.{◌≡◌, ℕ, zero, suc, ◌<◌, ◌≤◌, List, [], ◌∷◌, ◌++◌, length, Bool, true, false, cond, eqb, Some, None, Ok, Err, ◌⊎◌, inl, inr, refl, sym, ap, subst, ◌∙◌, arith, append_assoc, length-append}
use Rattle.std.specs.Prelude.{codes}
use Rattle.std.specs.List.{flat_map}
use Rattle.std.proofs.lemmas.Bool.Decides.{nat_tests}
use Rattle.json_model.specs.declared.kinds.Kind.{Kind}
use Rattle.json_model.specs.declared.kinds.Kind.TheVariants as kinds
use Rattle.json_model.specs.declared.kinds.Shape.{Shape}
use Rattle.json_model.specs.declared.kinds.Shape.TheVariants as shapes
use Rattle.json_spell.specs.declared.tokens.Stop.TheVariants as stops
use Rattle.json_spell.specs.declared.tokens.Mode.{Mode}
use Rattle.json_spell.specs.declared.tokens.Mode.TheVariants as modes
use Rattle.json_model.specs.Grammar.{Within, IsBlank, AreBlanks, IsString, IsNumber, IsWhole, IsLeaf}
use Rattle.json_model.specs.Spelled.{Head, plain, keyed, Tree, leaf, empty, group, Parts, last, more, opening, closing, head_text, text, parts_text, HeadFits, Fits, PartsFit, depth, parts_depth}
use Rattle.json_spell.specs.Tokens.{next, ends, spelled_at, is_blank, gap, behind_gap, is_digit, kind_at}
use Rattle.json_spell.specs.Reading.{◌>>=◌, Read, cut, string_end, leaf_end, leaf_at, behind_byte, key_end, head_at, part_end, join_parts, parts, closed, group_at, by_kind, value_at}
use Rattle.json_spell.proofs.Fronts.{cut_front}
use Rattle.json_spell.proofs.Runs.{string_run, number_run, Clean}
use Rattle.json_spell.proofs.Values.{fine}
use Rattle.json_spell.specs.Tokens.{is_mark}

-- ---- blanks

blank_test : (x : ℕ) → IsBlank x → is_blank x ≡ true
blank_test x h = grind (arith, nat_tests)

-- no blank is first
abbrev pub Starts : List ℕ → Type 0
Starts [] = Unit {0}
Starts (x ∷ xs) = is_blank x ≡ false

gap_none : (rest : List ℕ) → Starts rest → (gap rest ≡ []) × (behind_gap rest ≡ rest)
unfolding gap behind_gap
gap_none [] s = (refl, refl)
gap_none (x ∷ xs) s = (ap (λ b. cond b (x ∷ gap xs) []) s, ap (λ b. cond b (behind_gap xs) (x ∷ xs)) s)

pub gap_again : (g rest : List ℕ) → AreBlanks g → Starts rest → gap (g ++ rest) ≡ g
unfolding gap
gap_again [] rest h s = (gap_none rest s).0
gap_again (x ∷ g) rest h s = ap (λ b. cond b (x ∷ gap (g ++ rest)) []) (blank_test x h.0) ∙ ap (λ l. x ∷ l) (gap_again g rest h.1 s)

pub behind_again : (g rest : List ℕ) → AreBlanks g → Starts rest → behind_gap (g ++ rest) ≡ rest
unfolding behind_gap
behind_again [] rest h s = (gap_none rest s).1
behind_again (x ∷ g) rest h s = ap (λ b. cond b (behind_gap (g ++ rest)) (x ∷ (g ++ rest))) (blank_test x h.0) ∙ behind_again g rest h.1 s

-- ---- what follows a value

-- no number goes on with this byte
record Beside (x : ℕ) : Type 0 where
  digit : is_digit x ≡ false
  point : eqb x 0x2e ≡ false
  mark : is_mark x ≡ false

none_one : (a : Mode) (b : Bool) → b ≡ false → cond b (Some a) None ≡ None
none_one a true e = cc
none_one a false e = refl

none_two : (a c : Mode) (b d : Bool) → b ≡ false → d ≡ false → cond b (Some a) (cond d (Some c) None) ≡ None
none_two a c true d e f = cc
none_two a c false d e f = none_one c d f

none_three : (a c g : Mode) (b d h : Bool) → b ≡ false → d ≡ false → h ≡ false → cond b (Some a) (cond d (Some c) (cond h (Some g) None)) ≡ None
none_three a c g true d h e f i = cc
none_three a c g false d h e f i = none_two c g d h f i

beside_next : (x : ℕ) → Beside x → (m : Mode) → ends m ≡ true → next m x ≡ None
beside_next x b modes.Inside e = cc
beside_next x b (modes.Tail l u k) e = cc
beside_next x b modes.Escape e = cc
beside_next x b (modes.Hex k) e = cc
beside_next x b modes.Closed e = refl
beside_next x b modes.Start e = cc
beside_next x b modes.Minus e = cc
beside_next x b modes.Zero e = none_two modes.Point modes.Mark (eqb x 0x2e) (is_mark x) b.point b.mark
beside_next x b modes.Whole e = none_three modes.Whole modes.Point modes.Mark (is_digit x) (eqb x 0x2e) (is_mark x) b.digit b.point b.mark
beside_next x b modes.Point e = cc
beside_next x b modes.Fraction e = none_two modes.Fraction modes.Mark (is_digit x) (is_mark x) b.digit b.mark
beside_next x b modes.Mark e = cc
beside_next x b modes.Sign e = cc
beside_next x b modes.Exponent e = none_one modes.Exponent (is_digit x) b.digit

pub clean_comma : (rest : List ℕ) → Clean (0x2c ∷ rest)
clean_comma rest = beside_next 0x2c (record { digit = refl; point = refl; mark = refl })

pub clean_closing : (shape : Shape) (rest : List ℕ) → Clean (closing shape ∷ rest)
clean_closing shapes.Object rest = beside_next 0x7d (record { digit = refl; point = refl; mark = refl })
clean_closing shapes.Array rest = beside_next 0x5d (record { digit = refl; point = refl; mark = refl })

blank_beside : (x : ℕ) → IsBlank x → Beside x
blank_beside x h = record { digit = grind (arith, nat_tests); point = grind (arith, nat_tests); mark = grind (arith, nat_tests) }

pub clean_blanks : (g rest : List ℕ) → AreBlanks g → Clean rest → Clean (g ++ rest)
clean_blanks [] rest h c = c
clean_blanks (x ∷ g) rest h c = beside_next x (blank_beside x h.0)

-- ---- leaves

eqb_same : (x : ℕ) → eqb x x ≡ true
eqb_same x = grind (arith, nat_tests)

if_same : {A : Type 0} (b : Bool) (x y : A) → b ≡ true → cond b x y ≡ x
if_same true x y e = refl
if_same false x y e = cc

pub spelled_again : (word rest : List ℕ) → spelled_at word (word ++ rest) ≡ Ok rest
unfolding spelled_at
spelled_again [] rest = refl
spelled_again (w ∷ ws) rest = if_same (eqb w w) (spelled_at ws (ws ++ rest)) _ (eqb_same w) ∙ spelled_again ws rest

-- the first byte of a value
pub record First (kind : Kind) (s : List ℕ) : Type 0 where
  pub byte : ℕ
  pub rest : List ℕ
  pub kind_is : kind_at byte ≡ Some kind
  pub whole : s ≡ byte ∷ rest

digit_kind : (x : ℕ) → Within 0x30 0x39 x → kind_at x ≡ Some kinds.Number
digit_kind x h = grind (arith, nat_tests)

whole_first : (whole behind s : List ℕ) → IsWhole whole → s ≡ whole ++ behind → First kinds.Number s
whole_first [] behind s h e = absurd h
whole_first (d ∷ ds) behind s (inl h) e = record { byte = d; rest = ds ++ behind; kind_is = ap kind_at h.0; whole = e }
whole_first (d ∷ ds) behind s (inr h) e = record { byte = d; rest = ds ++ behind; kind_is = digit_kind d (record { low = omega (arith, h.0.low); high = h.0.high }); whole = e }

number_first : (s : List ℕ) → IsNumber s → First kinds.Number s
number_first s n = by_minus n.minus_is
  where
    by_minus : (n.minus ≡ []) ⊎ (n.minus ≡ 0x2d ∷ []) → First kinds.Number s
    by_minus (inl e) = whole_first n.whole (n.fraction ++ n.exponent) s n.whole_is (n.parts ∙ ap (λ l. l ++ (n.whole ++ (n.fraction ++ n.exponent))) e)
    by_minus (inr e) = record { byte = 0x2d; rest = n.whole ++ (n.fraction ++ n.exponent); kind_is = refl; whole = n.parts ∙ ap (λ l. l ++ (n.whole ++ (n.fraction ++ n.exponent))) e }

pub leaf_first : (kind : Kind) (s : List ℕ) → IsLeaf kind s → First kind s
leaf_first kinds.Object s h = absurd h
leaf_first kinds.Array s h = absurd h
leaf_first kinds.Text s (cs, fit, e) = record { byte = 0x22; rest = flat_map (λ c. c) cs ++ 0x22 ∷ []; kind_is = refl; whole = e }
leaf_first kinds.Number s h = number_first s h
leaf_first kinds.True s e = record { byte = 0x74; rest = codes "rue"; kind_is = refl; whole = e }
leaf_first kinds.False s e = record { byte = 0x66; rest = codes "alse"; kind_is = refl; whole = e }
leaf_first kinds.Null s e = record { byte = 0x6e; rest = codes "ull"; kind_is = refl; whole = e }

word_again : (word s rest : List ℕ) → s ≡ word → spelled_at word (s ++ rest) ≡ Ok rest
word_again word s rest e = ap (λ l. spelled_at word (l ++ rest)) e ∙ spelled_again word rest

leaf_end_again : (kind : Kind) (s rest : List ℕ) → IsLeaf kind s → Clean rest → leaf_end kind (s ++ rest) ≡ Ok rest
leaf_end_again kinds.Object s rest h c = absurd h
leaf_end_again kinds.Array s rest h c = absurd h
leaf_end_again kinds.Text s rest (cs, fit, e) c = ap (λ l. string_end (l ++ rest)) e ∙ string_run cs rest fit
leaf_end_again kinds.Number s rest h c = number_run s rest h c
leaf_end_again kinds.True s rest e c = word_again (codes "true") s rest e
leaf_end_again kinds.False s rest e c = word_again (codes "false") s rest e
leaf_end_again kinds.Null s rest e c = word_again (codes "null") s rest e

leaf_at_again : (kind : Kind) (s rest : List ℕ) → IsLeaf kind s → Clean rest → leaf_at kind (s ++ rest) ≡ Ok (leaf kind s, rest)
leaf_at_again kind s rest h c =
    ap (λ r. r >>= λ l. fine (leaf kind (cut (s ++ rest) l), l)) (leaf_end_again kind s rest h c) ∙ ap (λ k. fine (leaf kind k, rest)) (cut_front s rest)

by_leaf : (inner : Shape → Read Tree) (kind : Kind) (s bytes : List ℕ) → IsLeaf kind s → by_kind inner (Some kind) bytes ≡ leaf_at kind bytes
by_leaf inner kinds.Object s bytes h = absurd h
by_leaf inner kinds.Array s bytes h = absurd h
by_leaf inner kinds.Text s bytes h = refl
by_leaf inner kinds.Number s bytes h = refl
by_leaf inner kinds.True s bytes h = refl
by_leaf inner kinds.False s bytes h = refl
by_leaf inner kinds.Null s bytes h = refl

value_leaf : (room x : ℕ) (xs : List ℕ) (kind : Kind) (s : List ℕ) → kind_at x ≡ Some kind → IsLeaf kind s → value_at room (x ∷ xs) ≡ leaf_at kind (x ∷ xs)
unfolding value_at
value_leaf zero x xs kind s is h =
    let inner : Shape → Read Tree = λ shape. Err (stops.Deep (length (x ∷ xs))) in
    ap (λ k. by_kind inner k (x ∷ xs)) is ∙ by_leaf inner kind s (x ∷ xs) h
value_leaf (suc room) x xs kind s is h =
    let inner : Shape → Read Tree = λ shape. group_at (value_at room) shape xs in
    ap (λ k. by_kind inner k (x ∷ xs)) is ∙ by_leaf inner kind s (x ∷ xs) h

leaf_again : (room : ℕ) (kind : Kind) (s rest : List ℕ) → IsLeaf kind s → Clean rest → value_at room (s ++ rest) ≡ Ok (leaf kind s, rest)
leaf_again room kind s rest h c =
    let f = leaf_first kind s h in
    let e : s ++ rest ≡ f.byte ∷ (f.rest ++ rest) = ap (λ l. l ++ rest) f.whole in
    ap (value_at room) e ∙ value_leaf room f.byte (f.rest ++ rest) kind s f.kind_is h ∙ ap (leaf_at kind) (sym e) ∙ leaf_at_again kind s rest h c

-- ---- heads

pub starts_kind : (x : ℕ) (k : Kind) → kind_at x ≡ Some k → is_blank x ≡ false
starts_kind x k e = cond_case (is_blank x) (λ h. no_blank x k (blank_is x h) e)
  where
    blank_is : (x : ℕ) → is_blank x ≡ true → IsBlank x
    blank_is x h = grind (arith, nat_tests)

    at_blank : (x c : ℕ) (k : Kind) → x ≡ c → kind_at c ≡ None → kind_at x ≡ Some k → ⊥
    at_blank x c k e n h = let m : None ≡ Some k = sym (ap kind_at e ∙ n) ∙ h in cc

    no_blank : (x : ℕ) (k : Kind) → IsBlank x → kind_at x ≡ Some k → ⊥
    no_blank x k (inl h) e = at_blank x 0x20 k h refl e
    no_blank x k (inr (inl h)) e = at_blank x 0x09 k h refl e
    no_blank x k (inr (inr (inl h))) e = at_blank x 0x0a k h refl e
    no_blank x k (inr (inr (inr h))) e = at_blank x 0x0d k h refl e

    cond_case : (b : Bool) → (b ≡ true → ⊥) → b ≡ false
    cond_case true h = absurd (h refl)
    cond_case false h = refl

pub head_chain : (bytes r1 r2 : List ℕ) → key_end (behind_gap bytes) ≡ Ok r1 → behind_byte 0x3a (behind_gap r1) ≡ Ok r2
    → head_at shapes.Object bytes ≡ Ok (keyed (gap bytes) (cut (behind_gap bytes) r1) (gap r1) (gap r2), behind_gap r2)
unfolding head_at
head_chain bytes r1 r2 a b = rw (a, b) refl

key_again : (key rest : List ℕ) → IsString key → key_end (key ++ rest) ≡ Ok rest
key_again key rest (cs, fit, e) = ap (λ l. key_end (l ++ rest)) e ∙ string_run cs rest fit

key_starts : (key rest : List ℕ) → IsString key → Starts (key ++ rest)
key_starts key rest (cs, fit, e) = subst (λ (l : List ℕ). Starts (l ++ rest)) (sym e) refl

pub head_again : (shape : Shape) (h : Head) (rest : List ℕ) → HeadFits shape h → Starts rest → head_at shape (head_text h ++ rest) ≡ Ok (h, rest)
unfolding head_at
head_again shapes.Object (plain g) rest f s = absurd f
head_again shapes.Array (keyed g key b v) rest f s = absurd f
head_again shapes.Array (plain g) rest f s = rw (gap_again g rest f s, behind_again g rest f s) refl
head_again shapes.Object (keyed g key b v) rest f s =
    let r2 : List ℕ = v ++ rest in
    let r1 : List ℕ = b ++ 0x3a ∷ r2 in
    let bytes : List ℕ = g ++ (key ++ r1) in
    let split : (g ++ (key ++ (b ++ 0x3a ∷ v))) ++ rest ≡ bytes = simp append_assoc in
    let start : Starts (key ++ r1) = key_starts key r1 f.1 in
    let g1 : gap bytes ≡ g = gap_again g (key ++ r1) f.0 start in
    let b1 : behind_gap bytes ≡ key ++ r1 = behind_again g (key ++ r1) f.0 start in
    let g2 : gap r1 ≡ b = gap_again b (0x3a ∷ r2) f.2 refl in
    let b2 : behind_gap r1 ≡ 0x3a ∷ r2 = behind_again b (0x3a ∷ r2) f.2 refl in
    let g3 : gap r2 ≡ v = gap_again v rest f.3 s in
    let b3 : behind_gap r2 ≡ rest = behind_again v rest f.3 s in
    let k : cut (behind_gap bytes) r1 ≡ key = ap (λ l. cut l r1) b1 ∙ cut_front key r1 in
    let chain = head_chain bytes r1 r2 (ap key_end b1 ∙ key_again key r1 f.1) (ap (behind_byte 0x3a) b2) in
    ap (head_at shapes.Object) split ∙ chain ∙ rw (g1, k, g2, g3, b3) refl

-- ---- values

abbrev pub shape_kind : Shape → Kind
shape_kind shapes.Object = kinds.Object
shape_kind shapes.Array = kinds.Array

-- the kind of a tree
abbrev pub tree_kind : Tree → Kind
tree_kind (leaf kind s) = kind
tree_kind (empty shape gap) = shape_kind shape
tree_kind (group shape parts) = shape_kind shape

opening_kind : (shape : Shape) → kind_at (opening shape) ≡ Some (shape_kind shape)
opening_kind shapes.Object = refl
opening_kind shapes.Array = refl

pub tree_first : (t : Tree) → Fits t → First (tree_kind t) (text t)
tree_first (leaf kind s) h = leaf_first kind s h
tree_first (empty shape g) h = record { byte = opening shape; rest = g ++ closing shape ∷ []; kind_is = opening_kind shape; whole = refl }
tree_first (group shape ps) h = record { byte = opening shape; rest = parts_text ps ++ closing shape ∷ []; kind_is = opening_kind shape; whole = refl }

pub tree_starts : (t : Tree) (rest : List ℕ) → Fits t → Starts (text t ++ rest)
tree_starts t rest h = let f = tree_first t h in subst (λ (l : List ℕ). Starts (l ++ rest)) (sym f.whole) (starts_kind f.byte (tree_kind t) f.kind_is)

-- behind the blanks at the front of parts stands no closing bracket
not_closed : (shape : Shape) (x : ℕ) (xs : List ℕ) (k : Kind) → kind_at x ≡ Some k → closed shape (x ∷ xs) ≡ None
not_closed shape x xs k e = none_if (eqb x (closing shape)) xs (λ t. no_closing shape x k (eqb_is x (closing shape) t) e)
  where
    eqb_is : (x y : ℕ) → eqb x y ≡ true → x ≡ y
    eqb_is x y h = grind (arith, nat_tests)

    closing_none : (shape : Shape) → kind_at (closing shape) ≡ None
    closing_none shapes.Object = refl
    closing_none shapes.Array = refl

    no_closing : (shape : Shape) (x : ℕ) (k : Kind) → x ≡ closing shape → kind_at x ≡ Some k → ⊥
    no_closing shape x k e h = let m : None ≡ Some k = sym (ap kind_at e ∙ closing_none shape) ∙ h in cc

    none_if : (b : Bool) (xs : List ℕ) → (b ≡ true → ⊥) → cond b (Some xs) None ≡ None
    none_if true xs h = absurd (h refl)
    none_if false xs h = refl

-- the front of a part behind its blanks: the key's quotation mark, or the value
head_closed : (shape : Shape) (h : Head) (t : Tree) (rest : List ℕ) → HeadFits shape h → Fits t → closed shape (behind_gap (head_text h ++ (text t ++ rest))) ≡ None
head_closed shapes.Object (plain g) t rest f ft = absurd f
head_closed shapes.Array (keyed g key b v) t rest f ft = absurd f
head_closed shapes.Array (plain g) t rest f ft =
    let first = tree_first t ft in
    let e : text t ++ rest ≡ first.byte ∷ (first.rest ++ rest) = ap (λ l. l ++ rest) first.whole in
    ap (closed shapes.Array) (behind_again g (text t ++ rest) f (tree_starts t rest ft) ∙ e) ∙ not_closed shapes.Array first.byte (first.rest ++ rest) (tree_kind t) first.kind_is
head_closed shapes.Object (keyed g key b v) t rest f ft =
    let more : List ℕ = (b ++ 0x3a ∷ v) ++ (text t ++ rest) in
    let split : (g ++ (key ++ (b ++ 0x3a ∷ v))) ++ (text t ++ rest) ≡ g ++ (key ++ more) = simp append_assoc in
    let q : List ℕ = flat_map (λ c. c) f.1.0 ++ 0x22 ∷ [] in
    let e : key ++ more ≡ 0x22 ∷ (q ++ more) = ap (λ l. l ++ more) f.1.2 in
    ap (λ l. closed shapes.Object (behind_gap l)) split ∙ ap (closed shapes.Object) (behind_again g (key ++ more) f.0 (key_starts key more f.1) ∙ e) ∙ not_closed shapes.Object 0x22 (q ++ more) kinds.Text refl

pub opens_group : (room : ℕ) (shape : Shape) (xs : List ℕ) → value_at (suc room) (opening shape ∷ xs) ≡ group_at (value_at room) shape xs
unfolding value_at
opens_group room shapes.Object xs = refl
opens_group room shapes.Array xs = refl

pub closes : (shape : Shape) (rest : List ℕ) → closed shape (closing shape ∷ rest) ≡ Some rest
closes shape rest = if_same (eqb (closing shape) (closing shape)) (Some rest) None (eqb_same (closing shape))

starts_closing : (shape : Shape) (rest : List ℕ) → Starts (closing shape ∷ rest)
starts_closing shapes.Object rest = refl
starts_closing shapes.Array rest = refl

pub end_closing : (shape : Shape) (rest : List ℕ) → part_end shape (closing shape ∷ rest) ≡ Ok (false, rest)
end_closing shapes.Object rest = refl
end_closing shapes.Array rest = refl

pub parts_chain : (v : List ℕ → Read Tree) (shape : Shape) (n : ℕ) (bytes : List ℕ) (h : Head) (t : Tree) (r1 r2 r3 : List ℕ) (b : Bool)
    → head_at shape bytes ≡ Ok (h, r1) → v r1 ≡ Ok (t, r2) → part_end shape (behind_gap r2) ≡ Ok (b, r3)
    → parts v shape (suc n) bytes ≡ join_parts h t (gap r2) (λ rest. parts v shape n rest) (b, r3)
unfolding parts
parts_chain v shape n bytes h t r1 r2 r3 b e1 e2 e3 = rw (e1, e2, e3) refl

group_none : (v : List ℕ → Read Tree) (shape : Shape) (bytes rest : List ℕ) (ps : Parts) → closed shape (behind_gap bytes) ≡ None → parts v shape (suc (length bytes)) bytes ≡ Ok (ps, rest) → group_at v shape bytes ≡ Ok (group shape ps, rest)
unfolding group_at
group_none v shape bytes rest ps n e = rw (n, e) refl

group_empty : (v : List ℕ → Read Tree) (shape : Shape) (g rest : List ℕ) → AreBlanks g → group_at v shape (g ++ closing shape ∷ rest) ≡ Ok (empty shape g, rest)
unfolding group_at
group_empty v shape g rest f =
    let a : behind_gap (g ++ closing shape ∷ rest) ≡ closing shape ∷ rest = behind_again g (closing shape ∷ rest) f (starts_closing shape rest) in
    let b : gap (g ++ closing shape ∷ rest) ≡ g = gap_again g (closing shape ∷ rest) f (starts_closing shape rest) in
    let c : closed shape (behind_gap (g ++ closing shape ∷ rest)) ≡ Some rest = ap (closed shape) a ∙ closes shape rest in
    rw (c, b) refl

parts_closed : (shape : Shape) (ps : Parts) (rest : List ℕ) → PartsFit shape ps → closed shape (behind_gap (parts_text ps ++ rest)) ≡ None
parts_closed shape (last h t g) rest f =
    let e : (head_text h ++ (text t ++ g)) ++ rest ≡ head_text h ++ (text t ++ (g ++ rest)) = simp append_assoc in
    ap (λ l. closed shape (behind_gap l)) e ∙ head_closed shape h t (g ++ rest) f.0 f.1
parts_closed shape (more h t g ps) rest f =
    let e : (head_text h ++ (text t ++ (g ++ 0x2c ∷ parts_text ps))) ++ rest ≡ head_text h ++ (text t ++ (g ++ 0x2c ∷ (parts_text ps ++ rest))) = simp append_assoc in
    ap (λ l. closed shape (behind_gap l)) e ∙ head_closed shape h t (g ++ 0x2c ∷ (parts_text ps ++ rest)) f.0 f.1

mutual
  pub value_again : (t : Tree) (room : ℕ) (rest : List ℕ) → Fits t → depth t ≤ room → Clean rest → value_at room (text t ++ rest) ≡ Ok (t, rest)
  value_again (leaf kind s) room rest f d c = leaf_again room kind s rest f c
  value_again (empty shape g) zero rest f d c = absurd (omega arith)
  value_again (empty shape g) (suc room) rest f d c =
      let e : (g ++ closing shape ∷ []) ++ rest ≡ g ++ closing shape ∷ rest = simp append_assoc in
      opens_group room shape ((g ++ closing shape ∷ []) ++ rest) ∙ ap (group_at (value_at room) shape) e ∙ group_empty (value_at room) shape g rest f
  value_again (group shape ps) zero rest f d c = absurd (omega arith)
  value_again (group shape ps) (suc room) rest f d c =
      let e : (parts_text ps ++ closing shape ∷ []) ++ rest ≡ parts_text ps ++ closing shape ∷ rest = simp append_assoc in
      let bytes : List ℕ = parts_text ps ++ closing shape ∷ rest in
      opens_group room shape ((parts_text ps ++ closing shape ∷ []) ++ rest) ∙ ap (group_at (value_at room) shape) e
      ∙ group_none (value_at room) shape bytes rest ps (parts_closed shape ps (closing shape ∷ rest) f)
      (parts_again ps shape room (suc (length bytes)) rest f (omega arith) (omega (arith, length-append (parts_text ps) (closing shape ∷ rest))))

  pub parts_again : (ps : Parts) (shape : Shape) (room n : ℕ) (rest : List ℕ) → PartsFit shape ps → parts_depth ps ≤ room → length (parts_text ps) < n
      → parts (value_at room) shape n (parts_text ps ++ closing shape ∷ rest) ≡ Ok (ps, rest)
  parts_again (last h t g) shape room zero rest f d l = absurd (omega arith)
  parts_again (more h t g ps) shape room zero rest f d l = absurd (omega arith)
  parts_again (last h t g) shape room (suc n) rest f d l =
      let r2 : List ℕ = g ++ closing shape ∷ rest in
      let r1 : List ℕ = text t ++ r2 in
      let split : (head_text h ++ (text t ++ g)) ++ closing shape ∷ rest ≡ head_text h ++ r1 = simp append_assoc in
      let behind : behind_gap r2 ≡ closing shape ∷ rest = behind_again g (closing shape ∷ rest) f.2 (starts_closing shape rest) in
      let blanks : gap r2 ≡ g = gap_again g (closing shape ∷ rest) f.2 (starts_closing shape rest) in
      ap (parts (value_at room) shape (suc n)) split
      ∙ parts_chain (value_at room) shape n (head_text h ++ r1) h t r1 r2 rest false (head_again shape h r1 f.0 (tree_starts t r2 f.1)) (value_again t room r2 f.1 d (clean_blanks g (closing shape ∷ rest) f.2 (clean_closing shape rest))) (ap (part_end shape) behind ∙ end_closing shape rest)
      ∙ ap (λ b. fine (last h t b, rest)) blanks
  parts_again (more h t g ps) shape room (suc n) rest f d l =
      let r3 : List ℕ = parts_text ps ++ closing shape ∷ rest in
      let r2 : List ℕ = g ++ 0x2c ∷ r3 in
      let r1 : List ℕ = text t ++ r2 in
      let split : (head_text h ++ (text t ++ (g ++ 0x2c ∷ parts_text ps))) ++ closing shape ∷ rest ≡ head_text h ++ r1 = simp append_assoc in
      let behind : behind_gap r2 ≡ 0x2c ∷ r3 = behind_again g (0x2c ∷ r3) f.2 refl in
      let blanks : gap r2 ≡ g = gap_again g (0x2c ∷ r3) f.2 refl in
      let shorter : length (parts_text ps) < n = omega (arith, length-append (head_text h) (text t ++ (g ++ 0x2c ∷ parts_text ps)), length-append (text t) (g ++ 0x2c ∷ parts_text ps), length-append g (0x2c ∷ parts_text ps)) in
      ap (parts (value_at room) shape (suc n)) split
      ∙ parts_chain (value_at room) shape n (head_text h ++ r1) h t r1 r2 r3 true (head_again shape h r1 f.0 (tree_starts t r2 f.1)) (value_again t room r2 f.1 (omega arith) (clean_blanks g (0x2c ∷ r3) f.2 (clean_comma r3))) (ap (part_end shape) behind)
      ∙ ap (λ b. join_parts h t b (λ rest. parts (value_at room) shape n rest) (true, r3)) blanks
      ∙ ap (λ r. r >>= λ p. fine (more h t g p.0, p.1)) (parts_again ps shape room n rest f.3 (omega arith) shorter)
