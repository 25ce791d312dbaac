-- What is read is spelled so.
use Rattle.std.proofs.Common.{◌≡◌, ℕ, zero, suc, ◌≤◌, max, List, [], ◌∷◌, ◌++◌, length, Bool, true, false, cond, eqb, Option, Some, None, Result, Ok, Err, ◌||◌, refl, sym, ap, subst, ◌∙◌, arith, append_assoc}
use Rattle.std.specs.Prelude.{codes}
use Rattle.std.proofs.lemmas.Bool.Decides.{nat_tests}
use Rattle.json_model.specs.declared.kinds.Kind.{Kind}
use Rattle.json_model.specs.declared.kinds.Kind.TheVariants as kinds
use Rattle.json_model.specs.declared.kinds.Shape.{Shape}
use Rattle.json_model.specs.declared.kinds.Shape.TheVariants as shapes
use Rattle.json_spell.specs.declared.tokens.Stop.{Stop}
use Rattle.json_spell.specs.declared.tokens.Stop.TheVariants as stops
use Rattle.json_spell.specs.declared.tokens.Mode.TheVariants as modes
use Rattle.json_model.specs.Grammar.{IsString, IsLeaf}
use Rattle.json_model.specs.Spelled.{Head, Tree, leaf, group, Parts, more, opening, closing, head_text, text, parts_text, HeadFits, Fits, PartsFit, depth, parts_depth}
use Rattle.json_spell.specs.Tokens.{run, spelled_at, gap, behind_gap, is_digit, kind_at}
use Rattle.json_spell.specs.Reading.{◌>>=◌, Read, cut, leaf_end, leaf_at, behind_byte, key_end, head_at, part_end, join_parts, parts, grouped, closed, empty_or, group_at, by_kind, value_at}
use Rattle.json_spell.proofs.Fronts.{gap_front, gap_blank, cut_is}
use Rattle.json_spell.proofs.Steps.{Took, run_took}

-- ---- what has gone well

pub bind_ok : {A B : Type 0} (r : Result A Stop) (f : A → Result B Stop) (y : B) → (r >>= f) ≡ Ok y → (x : A) × (r ≡ Ok x) × (f x ≡ Ok y)
bind_ok (Ok x) f y e = (x, refl, e)
bind_ok (Err s) f y e = cc

abbrev pub fine : {A : Type 0} → A → Result A Stop
fine x = Ok x

abbrev pub stop : {A : Type 0} → Stop → Result A Stop
stop s = Err s

pub ok_is : {A : Type 0} (x y : A) → fine x ≡ Ok y → x ≡ y
ok_is x y e = cc

pub err_no : {A : Type 0} (P : Type 0) (s : Stop) (y : A) → stop s ≡ Ok y → P
err_no P s y e = cc

pub eqb_is : (x y : ℕ) → eqb x y ≡ true → x ≡ y
eqb_is x y h = grind (arith, nat_tests)

-- ---- leaves

spelled_cond : (w x : ℕ) (ws xs rest : List ℕ) (b : Bool) (s : Stop) → (b ≡ true → x ≡ w) → (spelled_at ws xs ≡ Ok rest → xs ≡ ws ++ rest) → cond b (spelled_at ws xs) (Err s) ≡ Ok rest → x ∷ xs ≡ (w ∷ ws) ++ rest
spelled_cond w x ws xs rest true s is further e = let a : x ≡ w = is refl in let b : xs ≡ ws ++ rest = further e in cc
spelled_cond w x ws xs rest false s is further e = cc

pub spelled_took : (word bytes rest : List ℕ) → spelled_at word bytes ≡ Ok rest → bytes ≡ word ++ rest
unfolding spelled_at
spelled_took [] bytes rest e = ok_is bytes rest e
spelled_took (w ∷ ws) [] rest e = cc
spelled_took (w ∷ ws) (x ∷ xs) rest e = spelled_cond w x ws xs rest (eqb x w) _ (eqb_is x w) (λ h. spelled_took ws xs rest h) e

-- the byte that begins a kind of value
abbrev pub Opens : Kind → ℕ → Type 0
Opens kinds.Object x = x ≡ 0x7b
Opens kinds.Array x = x ≡ 0x5b
Opens kinds.Text x = x ≡ 0x22
Opens kinds.Number x = Unit {0}
Opens kinds.True x = x ≡ 0x74
Opens kinds.False x = x ≡ 0x66
Opens kinds.Null x = x ≡ 0x6e

kind_choice : (x : ℕ) (b : Bool) (a k : Kind) (r : Option Kind) → (b ≡ true → Opens a x) → (r ≡ Some k → Opens k x) → cond b (Some a) r ≡ Some k → Opens k x
kind_choice x true a k r here there e = let same : a ≡ k = cc in subst (λ k. Opens k x) same (here refl)
kind_choice x false a k r here there e = there e

no_kind : (x : ℕ) (k : Kind) → None ≡ Some k → Opens k x
no_kind x k e = cc

pub kind_opens : (x : ℕ) (k : Kind) → kind_at x ≡ Some k → Opens k x
kind_opens x k =
    kind_choice x (eqb x 0x7b) kinds.Object k _ (eqb_is x 0x7b)
    (kind_choice x (eqb x 0x5b) kinds.Array k _ (eqb_is x 0x5b)
    (kind_choice x (eqb x 0x22) kinds.Text k _ (eqb_is x 0x22)
    (kind_choice x (eqb x 0x2d || is_digit x) kinds.Number k _ (λ t. tt)
    (kind_choice x (eqb x 0x74) kinds.True k _ (eqb_is x 0x74)
    (kind_choice x (eqb x 0x66) kinds.False k _ (eqb_is x 0x66)
    (kind_choice x (eqb x 0x6e) kinds.Null k _ (eqb_is x 0x6e) (no_kind x k)))))))

string_took : (x : ℕ) (xs rest : List ℕ) → x ≡ 0x22 → run modes.Inside xs ≡ Ok rest → Took IsString (x ∷ xs) rest
string_took x xs rest q e =
    let t = run_took modes.Inside xs rest e in
    record { front = x ∷ t.front; is = (t.is.characters, t.is.fit, cc (q, t.is.spelled)); whole = ap (λ l. x ∷ l) t.whole }

word_took : (word bytes rest : List ℕ) → spelled_at word bytes ≡ Ok rest → Took (λ s. s ≡ word) bytes rest
word_took word bytes rest e = record { front = word; is = refl; whole = spelled_took word bytes rest e }

pub leaf_took : (kind : Kind) (x : ℕ) (xs rest : List ℕ) → Opens kind x → leaf_end kind (x ∷ xs) ≡ Ok rest → Took (IsLeaf kind) (x ∷ xs) rest
leaf_took kinds.Object x xs rest o e = cc
leaf_took kinds.Array x xs rest o e = cc
leaf_took kinds.Text x xs rest o e = string_took x xs rest o e
leaf_took kinds.Number x xs rest o e = run_took modes.Start (x ∷ xs) rest e
leaf_took kinds.True x xs rest o e = word_took (codes "true") (x ∷ xs) rest e
leaf_took kinds.False x xs rest o e = word_took (codes "false") (x ∷ xs) rest e
leaf_took kinds.Null x xs rest o e = word_took (codes "null") (x ∷ xs) rest e

-- ---- values

-- the bytes are the text of the tree and what is left
pub record Spells (room : ℕ) (bytes : List ℕ) (x : Tree × List ℕ) : Type 0 where
  pub fits : Fits x.0
  pub deep : depth x.0 ≤ room
  pub whole : bytes ≡ text x.0 ++ x.1

leaf_spells : (room : ℕ) (kind : Kind) (byte : ℕ) (bytes : List ℕ) (x : Tree × List ℕ) → Opens kind byte → leaf_at kind (byte ∷ bytes) ≡ Ok x → Spells room (byte ∷ bytes) x
leaf_spells room kind byte bytes x o e =
    let r = bind_ok (leaf_end kind (byte ∷ bytes)) (λ rest. Ok (leaf kind (cut (byte ∷ bytes) rest), rest)) x e in
    let t = leaf_took kind byte bytes r.0 o r.1 in
    let c : cut (byte ∷ bytes) r.0 ≡ t.front = cut_is (byte ∷ bytes) t.front r.0 t.whole in
    subst (λ (x : Tree × List ℕ). Spells room (byte ∷ bytes) x) (ok_is _ x r.2)
    (record { fits = subst (λ s. IsLeaf kind s) (sym c) t.is; deep = omega arith; whole = t.whole ∙ ap (λ s. s ++ r.0) (sym c) })

byte_cond : (w y : ℕ) (ys rest : List ℕ) (b : Bool) (s : Stop) → (b ≡ true → y ≡ w) → cond b (Ok ys) (Err s) ≡ Ok rest → y ∷ ys ≡ w ∷ rest
byte_cond w y ys rest true s is e = let a : y ≡ w = is refl in cc
byte_cond w y ys rest false s is e = cc

pub byte_took : (w : ℕ) (bytes rest : List ℕ) → behind_byte w bytes ≡ Ok rest → bytes ≡ w ∷ rest
byte_took w [] rest e = cc
byte_took w (y ∷ ys) rest e = byte_cond w y ys rest (eqb y w) _ (eqb_is y w) e

pub key_took : (bytes rest : List ℕ) → key_end bytes ≡ Ok rest → Took IsString bytes rest
key_took bytes rest e =
    let r = bind_ok (behind_byte 0x22 bytes) (λ inner. run modes.Inside inner) rest e in
    let t = string_took 0x22 r.0 rest refl r.2 in
    record { front = t.front; is = t.is; whole = byte_took 0x22 bytes r.0 r.1 ∙ t.whole }

-- the bytes are a head and what is left
pub record Heads (shape : Shape) (bytes : List ℕ) (x : Head × List ℕ) : Type 0 where
  pub fits : HeadFits shape x.0
  pub whole : bytes ≡ head_text x.0 ++ x.1

keyed_whole : (bytes key rest behind value : List ℕ) → behind_gap bytes ≡ key ++ rest → behind_gap rest ≡ 0x3a ∷ behind
    → bytes ≡ (gap bytes ++ (key ++ (gap rest ++ 0x3a ∷ gap behind))) ++ behind_gap behind
keyed_whole bytes key rest behind value a b =
    let one : gap bytes ++ (key ++ (gap rest ++ 0x3a ∷ (gap behind ++ behind_gap behind))) ≡ bytes =
    ap (λ l. gap bytes ++ (key ++ (gap rest ++ 0x3a ∷ l))) (gap_front behind)
    ∙ ap (λ l. gap bytes ++ (key ++ (gap rest ++ l))) (sym b)
    ∙ ap (λ l. gap bytes ++ (key ++ l)) (gap_front rest)
    ∙ ap (λ l. gap bytes ++ l) (sym a) ∙ gap_front bytes in
    sym one ∙ simp append_assoc

pub head_took : (shape : Shape) (bytes : List ℕ) (x : Head × List ℕ) → head_at shape bytes ≡ Ok x → Heads shape bytes x
unfolding head_at
head_took shapes.Array bytes x e = subst (λ (x : Head × List ℕ). Heads shapes.Array bytes x) (ok_is _ x e) (record { fits = gap_blank bytes; whole = sym (gap_front bytes) })
head_took shapes.Object bytes x e =
    let r = bind_ok (key_end (behind_gap bytes)) _ x e in
    let s = bind_ok (behind_byte 0x3a (behind_gap r.0)) _ x r.2 in
    let t = key_took (behind_gap bytes) r.0 r.1 in
    let c : cut (behind_gap bytes) r.0 ≡ t.front = cut_is (behind_gap bytes) t.front r.0 t.whole in
    let colon : behind_gap r.0 ≡ 0x3a ∷ s.0 = byte_took 0x3a (behind_gap r.0) s.0 s.1 in
    let key_is : behind_gap bytes ≡ cut (behind_gap bytes) r.0 ++ r.0 = t.whole ∙ ap (λ l. l ++ r.0) (sym c) in
    subst (λ (x : Head × List ℕ). Heads shapes.Object bytes x) (ok_is _ x s.2)
    (record {
      fits = (gap_blank bytes, subst (λ l. IsString l) (sym c) t.is, gap_blank r.0, gap_blank s.0);
      whole = keyed_whole bytes (cut (behind_gap bytes) r.0) r.0 s.0 [] key_is colon;
    })

-- behind a part stands a comma or the bracket
abbrev pub IsEnd : Shape → List ℕ → Bool × List ℕ → Type 0
IsEnd shape bytes (true, rest) = bytes ≡ 0x2c ∷ rest
IsEnd shape bytes (false, rest) = bytes ≡ closing shape ∷ rest

end_choice : (shape : Shape) (x : ℕ) (xs : List ℕ) (y : Bool × List ℕ) (b c : Bool) (s : Stop) → (b ≡ true → x ≡ 0x2c) → (c ≡ true → x ≡ closing shape) → cond b (Ok (true, xs)) (cond c (Ok (false, xs)) (Err s)) ≡ Ok y → IsEnd shape (x ∷ xs) y
end_choice shape x xs y true c s is is2 e = subst (λ y. IsEnd shape (x ∷ xs) y) (ok_is _ y e) (ap (λ (z : ℕ). z ∷ xs) (is refl))
end_choice shape x xs y false true s is is2 e = subst (λ y. IsEnd shape (x ∷ xs) y) (ok_is _ y e) (ap (λ (z : ℕ). z ∷ xs) (is2 refl))
end_choice shape x xs y false false s is is2 e = err_no _ s y e

pub end_took : (shape : Shape) (bytes : List ℕ) (y : Bool × List ℕ) → part_end shape bytes ≡ Ok y → IsEnd shape bytes y
end_took shape [] y e = err_no _ _ y e
end_took shape (x ∷ xs) y e = end_choice shape x xs y (eqb x 0x2c) (eqb x (closing shape)) _ (eqb_is x 0x2c) (eqb_is x (closing shape)) e

-- the bytes are parts, the bracket and what is left
pub record SpellsParts (room : ℕ) (shape : Shape) (bytes : List ℕ) (x : Parts × List ℕ) : Type 0 where
  pub fits : PartsFit shape x.0
  pub deep : parts_depth x.0 ≤ room
  pub whole : bytes ≡ parts_text x.0 ++ closing shape ∷ x.1

join_took : (room : ℕ) (shape : Shape) (bytes : List ℕ) (head : Head × List ℕ) (tree : Tree × List ℕ) (further : List ℕ → Read Parts)
    → Heads shape bytes head → Spells room head.1 tree
    → ((rest : List ℕ) (x : Parts × List ℕ) → further rest ≡ Ok x → SpellsParts room shape rest x)
    → (end : Bool × List ℕ) → IsEnd shape (behind_gap tree.1) end → (x : Parts × List ℕ) → join_parts head.0 tree.0 (gap tree.1) further end ≡ Ok x → SpellsParts room shape bytes x
join_took room shape bytes head tree further h t law (false, rest) is x e =
    let whole : bytes ≡ (head_text head.0 ++ (text tree.0 ++ gap tree.1)) ++ closing shape ∷ rest =
    h.whole ∙ ap (λ l. head_text head.0 ++ l) (t.whole ∙ ap (λ l. text tree.0 ++ l) (sym (gap_front tree.1) ∙ ap (λ l. gap tree.1 ++ l) is)) ∙ simp append_assoc in
    subst (λ (x : Parts × List ℕ). SpellsParts room shape bytes x) (ok_is _ x e) (record { fits = (h.fits, t.fits, gap_blank tree.1); deep = t.deep; whole = whole })
join_took room shape bytes head tree further h t law (true, rest) is x e =
    let r = bind_ok (further rest) (λ ps. Ok (more head.0 tree.0 (gap tree.1) ps.0, ps.1)) x e in
    let p = law rest r.0 r.1 in
    let whole : bytes ≡ (head_text head.0 ++ (text tree.0 ++ (gap tree.1 ++ 0x2c ∷ parts_text r.0.0))) ++ closing shape ∷ r.0.1 =
    h.whole ∙ ap (λ l. head_text head.0 ++ l) (t.whole ∙ ap (λ l. text tree.0 ++ l) (sym (gap_front tree.1) ∙ ap (λ l. gap tree.1 ++ l) (is ∙ ap (λ l. 0x2c ∷ l) p.whole))) ∙ simp append_assoc in
    let deep : max (depth tree.0) (parts_depth r.0.0) ≤ room = omega (arith, t.deep, p.deep) in
    subst (λ (x : Parts × List ℕ). SpellsParts room shape bytes x) (ok_is _ x r.2) (record { fits = (h.fits, t.fits, gap_blank tree.1, p.fits); deep = deep; whole = whole })

pub parts_took : (room : ℕ) (v : List ℕ → Read Tree) → ((bytes : List ℕ) (x : Tree × List ℕ) → v bytes ≡ Ok x → Spells room bytes x)
    → (shape : Shape) (n : ℕ) (bytes : List ℕ) (x : Parts × List ℕ) → parts v shape n bytes ≡ Ok x → SpellsParts room shape bytes x
unfolding parts
parts_took room v law shape zero bytes x e = err_no _ _ x e
parts_took room v law shape (suc n) bytes x e =
    let a = bind_ok (head_at shape bytes) _ x e in
    let b = bind_ok (v a.0.1) _ x a.2 in
    let c = bind_ok (part_end shape (behind_gap b.0.1)) _ x b.2 in
    join_took room shape bytes a.0 b.0 (λ rest. parts v shape n rest) (head_took shape bytes a.0 a.1) (law a.0.1 b.0 b.1)
    (λ rest y h. parts_took room v law shape n rest y h) c.0 (end_took shape (behind_gap b.0.1) c.0 c.1) x c.2

closed_cond : (w y : ℕ) (ys rest : List ℕ) (b : Bool) → (b ≡ true → y ≡ w) → cond b (Some ys) None ≡ Some rest → y ∷ ys ≡ w ∷ rest
closed_cond w y ys rest true is e = let a : y ≡ w = is refl in cc
closed_cond w y ys rest false is e = cc

closed_took : (shape : Shape) (bytes rest : List ℕ) → closed shape bytes ≡ Some rest → bytes ≡ closing shape ∷ rest
closed_took shape [] rest e = cc
closed_took shape (y ∷ ys) rest e = closed_cond (closing shape) y ys rest (eqb y (closing shape)) (eqb_is y (closing shape)) e

group_choice : (room : ℕ) (shape : Shape) (bytes : List ℕ) (o : Option (List ℕ)) (r : Read Parts) (x : Tree × List ℕ)
    → ((rest : List ℕ) → o ≡ Some rest → behind_gap bytes ≡ closing shape ∷ rest) → ((y : Parts × List ℕ) → r ≡ Ok y → SpellsParts room shape bytes y)
    → empty_or shape (gap bytes) o (grouped shape r) ≡ Ok x → Spells (suc room) (opening shape ∷ bytes) x
group_choice room shape bytes None r x here law e =
    let a = bind_ok r (λ ps. Ok (group shape ps.0, ps.1)) x e in
    let p = law a.0 a.1 in
    let whole : opening shape ∷ bytes ≡ opening shape ∷ ((parts_text a.0.0 ++ closing shape ∷ []) ++ a.0.1) = ap (λ l. opening shape ∷ l) (p.whole ∙ simp append_assoc) in
    subst (λ (x : Tree × List ℕ). Spells (suc room) (opening shape ∷ bytes) x) (ok_is _ x a.2) (record { fits = p.fits; deep = omega (arith, p.deep); whole = whole })
group_choice room shape bytes (Some rest) r x here law e =
    let whole : opening shape ∷ bytes ≡ opening shape ∷ ((gap bytes ++ closing shape ∷ []) ++ rest) = ap (λ l. opening shape ∷ l) (sym (gap_front bytes) ∙ ap (λ l. gap bytes ++ l) (here rest refl) ∙ simp append_assoc) in
    subst (λ (x : Tree × List ℕ). Spells (suc room) (opening shape ∷ bytes) x) (ok_is _ x e) (record { fits = gap_blank bytes; deep = omega arith; whole = whole })

group_took : (room : ℕ) (v : List ℕ → Read Tree) → ((bytes : List ℕ) (x : Tree × List ℕ) → v bytes ≡ Ok x → Spells room bytes x)
    → (shape : Shape) (bytes : List ℕ) (x : Tree × List ℕ) → group_at v shape bytes ≡ Ok x → Spells (suc room) (opening shape ∷ bytes) x
unfolding group_at
group_took room v law shape bytes x e =
    group_choice room shape bytes (closed shape (behind_gap bytes)) (parts v shape (suc (length bytes)) bytes) x (closed_took shape (behind_gap bytes)) (λ y h. parts_took room v law shape (suc (length bytes)) bytes y h) e

kind_took : (room byte : ℕ) (bytes : List ℕ) (inner : Shape → Read Tree) (k : Option Kind) (x : Tree × List ℕ) → kind_at byte ≡ k
    → ((shape : Shape) → inner shape ≡ Ok x → Spells room (opening shape ∷ bytes) x) → by_kind inner k (byte ∷ bytes) ≡ Ok x → Spells room (byte ∷ bytes) x
kind_took room byte bytes inner None x is law e = err_no _ _ x e
kind_took room byte bytes inner (Some kinds.Object) x is law e = subst (λ (b : ℕ). Spells room (b ∷ bytes) x) (sym (kind_opens byte kinds.Object is)) (law shapes.Object e)
kind_took room byte bytes inner (Some kinds.Array) x is law e = subst (λ (b : ℕ). Spells room (b ∷ bytes) x) (sym (kind_opens byte kinds.Array is)) (law shapes.Array e)
kind_took room byte bytes inner (Some kinds.Text) x is law e = leaf_spells room kinds.Text byte bytes x (kind_opens byte kinds.Text is) e
kind_took room byte bytes inner (Some kinds.Number) x is law e = leaf_spells room kinds.Number byte bytes x tt e
kind_took room byte bytes inner (Some kinds.True) x is law e = leaf_spells room kinds.True byte bytes x (kind_opens byte kinds.True is) e
kind_took room byte bytes inner (Some kinds.False) x is law e = leaf_spells room kinds.False byte bytes x (kind_opens byte kinds.False is) e
kind_took room byte bytes inner (Some kinds.Null) x is law e = leaf_spells room kinds.Null byte bytes x (kind_opens byte kinds.Null is) e

pub value_took : (room : ℕ) (bytes : List ℕ) (x : Tree × List ℕ) → value_at room bytes ≡ Ok x → Spells room bytes x
unfolding value_at
value_took zero [] x e = err_no _ _ x e
value_took (suc room) [] x e = err_no _ _ x e
value_took zero (byte ∷ bytes) x e = kind_took zero byte bytes (λ shape. Err (stops.Deep (length (byte ∷ bytes)))) (kind_at byte) x refl (λ shape h. err_no _ (stops.Deep (length (byte ∷ bytes))) x h) e
value_took (suc room) (byte ∷ bytes) x e =
    kind_took (suc room) byte bytes (λ shape. group_at (value_at room) shape bytes) (kind_at byte) x refl (λ shape h. group_took room (value_at room) (λ b y g. value_took room b y g) shape bytes x h) e
