-- What an edit's value gives as a function is what the definition has.
use Rattle.std.proofs.Common.{◌≡◌, ◌≢◌, ℕ, zero, suc, ◌<◌, ◌^◌, List, [], ◌∷◌, ◌++◌, get_or, drop, Bool, true, false, cond, eqb, Some, Result, Ok, Err, ◌⊎◌, inl, inr, refl, sym, ap, subst, ◌∙◌, arith}
use Rattle.std.specs.Prelude.{ℤ, pos, negsuc, neg_ℤ, ◌&&◌, not, IsTrue}
use Rattle.std.specs.Ordering.{int_eq}
use Rattle.std.specs.Fmt.{decimal, signed_decimal}
use Rattle.std.specs.Str.{bytes_eq}
use Rattle.std.specs.Str.Parse.{digits_value, signed_digits_value}
use Rattle.std.proofs.lemmas.Bool.Decides.{nat_tests, Decides-and, Decides-not, Decides-int_eq}
use Rattle.std.proofs.lemmas.Slice.Eq.{bytes_eq-Decides}
use Rattle.std.proofs.lemmas.Fmt.{decimal_is_IsNumeral, first_decimal}
use Rattle.std.specs.Bool.{Decides}
use Rattle.doc_model.specs.declared.status.Status.{Status}
use Rattle.doc_model.specs.declared.status.TheConstants.Status as status
use Rattle.json_model.specs.declared.TheConstants.{MOST_DEEP}
use Rattle.json_model.specs.declared.kinds.Kind.{Kind}
use Rattle.json_model.specs.declared.kinds.Kind.TheVariants as kinds
use Rattle.json_model.specs.declared.kinds.Shape.TheVariants as shapes
use Rattle.json_model.specs.declared.asked.Edit.{Edit}
use Rattle.json_model.specs.declared.asked.Edit.TheVariants as edits
use Rattle.json_model.specs.Grammar.{IsBlank, AreBlanks, IsLeaf}
use Rattle.json_model.specs.Spelled.{Tree, leaf, empty, group, Parts, Document, text, depth, Fits, IsText}
use Rattle.json_model.specs.Edit.{Asked, dict_add, dict_upsert, replace, push_last, push_first, array_insert, add_unique, counter, fits_i64}
use Rattle.json_model.specs.Values.{GivesTree, bracketed, GivesParts, GivesLeaf, IsDelta, GivesDelta, Gives}
use Rattle.json_spell.specs.declared.tokens.Stop.{Stop}
use Rattle.json_spell.specs.Tokens.{kind_at}
use Rattle.json_spell.specs.Reading.{document_at}
use Rattle.json_spell.proofs.Again.{tree_kind, tree_first}
use Rattle.json_spell.proofs.Exact.{one_text}
use Rattle.subdoc_step.specs.Given.{nested_arrays, too_deep, tree_given, parts_in, parts_given, leaf_in, leaf_given, is_delta, delta_given, given}
use Rattle.subdoc_step.proofs.Texts.{Read, as_text, as_not, as_deep, reads, text_reads, not_reads, deep_reads, text_deep}

abbrev given_is : Asked → Result Asked Status
given_is asked = Ok asked

-- ---- one text

nested_depth : (n : ℕ) → depth (nested_arrays n) ≡ suc n
unfolding nested_arrays
nested_depth zero = refl
nested_depth (suc n) = ap suc (nested_depth n)

pub too_deep_is : MOST_DEEP < depth too_deep
too_deep_is = omega (arith, nested_depth MOST_DEEP)

pub tree_told : (asked : Tree → Asked) (bytes : List ℕ) (r : Result Document Stop) → Read bytes r → GivesTree asked bytes (tree_given asked r)
tree_told asked bytes r (as_text d is) = inl (d, is, refl)
tree_told asked bytes r (as_not left place wrong) = inr (inr (place, wrong, refl))
tree_told asked bytes r (as_deep left place deep) = inr (inl (place, too_deep, deep, too_deep_is, refl))

-- ---- texts with commas between

-- a text in brackets is an array's
pub array_kind : (bytes : List ℕ) (d : Document) → IsText MOST_DEEP d (bracketed bytes) → tree_kind d.tree ≡ kinds.Array
array_kind bytes d is = by_front d.before is.before is.spelled
  where
    no_blank : (x : ℕ) → IsBlank x → 0x5b ≡ x → ⊥
    no_blank x (inl b) e = omega (arith, b, e)
    no_blank x (inr (inl b)) e = omega (arith, b, e)
    no_blank x (inr (inr (inl b))) e = omega (arith, b, e)
    no_blank x (inr (inr (inr b))) e = omega (arith, b, e)

    by_front : (before : List ℕ) → AreBlanks before → bracketed bytes ≡ before ++ (text d.tree ++ d.after) → tree_kind d.tree ≡ kinds.Array
    by_front [] b e =
        let f = tree_first d.tree is.tree in
        let whole : 0x5b ∷ (bytes ++ 0x5d ∷ []) ≡ f.byte ∷ (f.rest ++ d.after) = e ∙ ap (λ (l : List ℕ). l ++ d.after) f.whole in
        let first : 0x5b ≡ f.byte = cc in
        let kind : Some kinds.Array ≡ Some (tree_kind d.tree) = ap kind_at first ∙ f.kind_is in
        cc
    by_front (x ∷ xs) b e = let first : 0x5b ≡ x = cc in absurd (no_blank x b.0 first)

no_array_leaf : (kind : Kind) (s : List ℕ) → IsLeaf kind s → kind ≡ kinds.Array → ⊥
no_array_leaf kind s is e = subst (λ (k : Kind). IsLeaf k s) e is

array_told : (asked : Parts → Asked) (bytes : List ℕ) (d : Document) (t : Tree) → IsText MOST_DEEP d (bracketed bytes) → d.tree ≡ t → Fits t → tree_kind t ≡ kinds.Array → GivesParts asked bytes (parts_in asked t)
array_told asked bytes d (leaf kind s) is e fits k = absurd (no_array_leaf kind s fits k)
array_told asked bytes d (empty shapes.Object gap) is e fits k = cc
array_told asked bytes d (empty shapes.Array gap) is e fits k = inr (inl (d, gap, is, e, refl))
array_told asked bytes d (group shapes.Object parts) is e fits k = cc
array_told asked bytes d (group shapes.Array parts) is e fits k = inl (d, parts, is, e, refl)

pub parts_told : (asked : Parts → Asked) (bytes : List ℕ) (r : Result Document Stop) → Read (bracketed bytes) r → GivesParts asked bytes (parts_given asked r)
parts_told asked bytes r (as_text d is) = array_told asked bytes d d.tree is refl is.tree (array_kind bytes d is)
parts_told asked bytes r (as_not left place wrong) = inr (inr (inl (place, wrong, refl)))
parts_told asked bytes r (as_deep left place deep) = inr (inr (inr (place, deep, refl)))

pub parts_only : (asked : Parts → Asked) (bytes : List ℕ) (answer : Result Asked Status) → GivesParts asked bytes answer → answer ≡ parts_given asked (document_at MOST_DEEP (bracketed bytes))
parts_only asked bytes answer (inl (d, parts, is, t, e)) = e ∙ sym (ap (parts_given asked) (text_reads (bracketed bytes) d is) ∙ ap (parts_in asked) t)
parts_only asked bytes answer (inr (inl (d, gap, is, t, e))) = e ∙ sym (ap (parts_given asked) (text_reads (bracketed bytes) d is) ∙ ap (parts_in asked) t)
parts_only asked bytes answer (inr (inr (inl (place, wrong, e)))) = e ∙ sym (ap (parts_given asked) (not_reads (bracketed bytes) place wrong).1)
parts_only asked bytes answer (inr (inr (inr (place, deep, e)))) = e ∙ sym (ap (parts_given asked) (deep_reads (bracketed bytes) place deep).1)

-- ---- a value that holds no others

no_leaf : (bytes : List ℕ) (d : Document) → IsText MOST_DEEP d bytes → ((kind : Kind) (s : List ℕ) → d.tree ≡ leaf kind s → ⊥)
    → (e : Document) (kind : Kind) (s : List ℕ) → IsText MOST_DEEP e bytes → e.tree ≡ leaf kind s → ⊥
no_leaf bytes d is none e kind s other t = none kind s (ap (λ (d : Document). d.tree) (one_text MOST_DEEP bytes d e is other) ∙ t)

leaf_by : (asked : Kind → List ℕ → Asked) (bytes : List ℕ) (d : Document) (t : Tree) → IsText MOST_DEEP d bytes → d.tree ≡ t → GivesLeaf asked bytes (leaf_in asked t)
leaf_by asked bytes d (leaf kind s) is e = inl (d, kind, s, is, e, refl)
leaf_by asked bytes d (empty shape gap) is e = inr (no_leaf bytes d is (λ kind s h. differs kind s (sym e ∙ h)), refl)
  where
    differs : (kind : Kind) (s : List ℕ) → empty shape gap ≡ leaf kind s → ⊥
    differs kind s h = cc
leaf_by asked bytes d (group shape parts) is e = inr (no_leaf bytes d is (λ kind s h. differs kind s (sym e ∙ h)), refl)
  where
    differs : (kind : Kind) (s : List ℕ) → group shape parts ≡ leaf kind s → ⊥
    differs kind s h = cc

pub leaf_told : (asked : Kind → List ℕ → Asked) (bytes : List ℕ) (r : Result Document Stop) → Read bytes r → GivesLeaf asked bytes (leaf_given asked r)
leaf_told asked bytes r (as_text d is) = leaf_by asked bytes d d.tree is refl
leaf_told asked bytes r (as_not left place wrong) = inr (λ d kind s is e. wrong.cut d is, refl)
leaf_told asked bytes r (as_deep left place deep) = inr (λ d kind s is e. text_deep bytes d place is deep, refl)

none_in : (asked : Kind → List ℕ → Asked) (t : Tree) → ((kind : Kind) (s : List ℕ) → t ≡ leaf kind s → ⊥) → leaf_in asked t ≡ Err status.VALUE_CANT_INSERT
none_in asked (leaf kind s) none = absurd (none kind s refl)
none_in asked (empty shape gap) none = refl
none_in asked (group shape parts) none = refl

none_given : (asked : Kind → List ℕ → Asked) (bytes : List ℕ) (r : Result Document Stop) → Read bytes r → ((d : Document) (kind : Kind) (s : List ℕ) → IsText MOST_DEEP d bytes → d.tree ≡ leaf kind s → ⊥)
    → leaf_given asked r ≡ Err status.VALUE_CANT_INSERT
none_given asked bytes r (as_text d is) none = none_in asked d.tree (λ kind s e. none d kind s is e)
none_given asked bytes r (as_not left place wrong) none = refl
none_given asked bytes r (as_deep left place deep) none = refl

pub leaf_only : (asked : Kind → List ℕ → Asked) (bytes : List ℕ) (answer : Result Asked Status) → GivesLeaf asked bytes answer → answer ≡ leaf_given asked (document_at MOST_DEEP bytes)
leaf_only asked bytes answer (inl (d, kind, s, is, t, e)) = e ∙ sym (ap (leaf_given asked) (text_reads bytes d is) ∙ ap (leaf_in asked) t)
leaf_only asked bytes answer (inr (none, e)) = e ∙ sym (none_given asked bytes (document_at MOST_DEEP bytes) (reads bytes) none)

-- ---- a delta

true_Decides : (b : Bool) → Decides b (IsTrue b)
true_Decides b = (λ e. e, λ e. e)

delta_Decides : (n : ℤ) (bytes : List ℕ) → Decides (is_delta n bytes) (((signed_decimal n ≡ bytes) × (n ≡ pos 0 → ⊥)) × IsTrue (fits_i64 n))
delta_Decides n bytes =
    Decides-and (bytes_eq (signed_decimal n) bytes && not (int_eq n (pos 0))) (fits_i64 n)
    (Decides-and (bytes_eq (signed_decimal n) bytes) (not (int_eq n (pos 0))) (bytes_eq-Decides (signed_decimal n) bytes) (Decides-not (int_eq n (pos 0)) (Decides-int_eq n (pos 0)))) (true_Decides (fits_i64 n))

pub delta_is : (n : ℤ) (bytes : List ℕ) → is_delta n bytes ≡ true → IsDelta n bytes
delta_is n bytes e = let f = (delta_Decides n bytes).0 e in record { spelled = sym f.0.0; not_zero = f.0.1; fits = f.1 }

is_tested : (n : ℤ) (bytes : List ℕ) → IsDelta n bytes → is_delta n bytes ≡ true
is_tested n bytes d = (delta_Decides n bytes).1 ((sym d.spelled, d.not_zero), d.fits)

no_sign_by : (minus plus : Bool) (s : List ℕ) → minus ≡ false → plus ≡ false
    → cond minus (neg_ℤ (pos (digits_value 10 (cond minus (drop 1 s) (drop (cond plus 1 0) s))))) (pos (digits_value 10 (cond minus (drop 1 s) (drop (cond plus 1 0) s)))) ≡ pos (digits_value 10 s)
no_sign_by true plus s a b = cc
no_sign_by false true s a b = cc
no_sign_by false false s a b = refl

no_sign : (s : List ℕ) → 48 < get_or s 0 0 → signed_digits_value 10 s ≡ pos (digits_value 10 s)
no_sign s h = no_sign_by (eqb (get_or s 0 0) 45) (eqb (get_or s 0 0) 43) s (differs (get_or s 0 0) 45 (omega (arith, h))) (differs (get_or s 0 0) 43 (omega (arith, h)))
  where
    differs : (x y : ℕ) → y < x → eqb x y ≡ false
    differs x y h = grind (arith, nat_tests)

pub pos_fits : (n : ℕ) → IsTrue (fits_i64 (pos n)) → n < 2 ^ 64
pos_fits n h = grind (arith, nat_tests)

pub neg_fits : (n : ℕ) → IsTrue (fits_i64 (negsuc n)) → suc n < 2 ^ 64
neg_fits n h = grind (arith, nat_tests)

not_zero : (n : ℕ) → pos n ≢ pos 0 → 0 < n
not_zero zero h = absurd (h refl)
not_zero (suc n) h = omega arith

-- a number within 64 bits is read from its decimal
signed_again : (n : ℤ) → n ≢ pos 0 → IsTrue (fits_i64 n) → signed_digits_value 10 (signed_decimal n) ≡ n
signed_again (pos n) some fits =
    let small : n < 2 ^ 64 = pos_fits n fits in
    no_sign (decimal n) (first_decimal n (not_zero n some) small) ∙ ap pos (decimal_is_IsNumeral n small).1
signed_again (negsuc n) some fits = ap (λ (k : ℕ). neg_ℤ (pos k)) (decimal_is_IsNumeral (suc n) (neg_fits n fits)).1

delta_by : (n : ℤ) (bytes : List ℕ) (b : Bool) → is_delta n bytes ≡ b → signed_digits_value 10 bytes ≡ n → GivesDelta bytes (cond b (given_is (counter n)) (Err status.DELTA_EINVAL))
delta_by n bytes true e v = inl (n, delta_is n bytes e, refl)
delta_by n bytes false e v = inr (λ m is. false_true (sym (is_tested n bytes (subst (λ (k : ℤ). IsDelta k bytes) (value m is) is)) ∙ e), refl)
  where
    false_true : true ≡ false → ⊥
    false_true e = cc

    value : (m : ℤ) → IsDelta m bytes → m ≡ n
    value m is = sym (signed_again m is.not_zero is.fits) ∙ ap (signed_digits_value 10) (sym is.spelled) ∙ v

pub delta_told : (bytes : List ℕ) → GivesDelta bytes (delta_given bytes)
delta_told bytes = delta_by (signed_digits_value 10 bytes) bytes (is_delta (signed_digits_value 10 bytes) bytes) refl refl

none_delta : (n : ℤ) (bytes : List ℕ) (b : Bool) → is_delta n bytes ≡ b → (IsDelta n bytes → ⊥) → cond b (given_is (counter n)) (Err status.DELTA_EINVAL) ≡ Err status.DELTA_EINVAL
none_delta n bytes true e none = absurd (none (delta_is n bytes e))
none_delta n bytes false e none = refl

pub delta_only : (bytes : List ℕ) (answer : Result Asked Status) → GivesDelta bytes answer → answer ≡ delta_given bytes
delta_only bytes answer (inl (n, is, e)) =
    let value : signed_digits_value 10 bytes ≡ n = ap (signed_digits_value 10) is.spelled ∙ signed_again n is.not_zero is.fits in
    e ∙ sym (ap (λ (m : ℤ). cond (is_delta m bytes) (given_is (counter m)) (Err status.DELTA_EINVAL)) value ∙ ap (λ (b : Bool). cond b (given_is (counter n)) (Err status.DELTA_EINVAL)) (is_tested n bytes is))
delta_only bytes answer (inr (none, e)) =
    e ∙ sym (none_delta (signed_digits_value 10 bytes) bytes (is_delta (signed_digits_value 10 bytes) bytes) refl (none (signed_digits_value 10 bytes)))

-- ---- each edit

-- a value gives what the definition has
pub given_told : (edit : Edit) (bytes : List ℕ) → Gives edit bytes (given edit bytes)
unfolding given
given_told edits.DictAdd bytes = tree_told dict_add bytes (document_at MOST_DEEP bytes) (reads bytes)
given_told edits.DictUpsert bytes = tree_told dict_upsert bytes (document_at MOST_DEEP bytes) (reads bytes)
given_told edits.Delete bytes = refl
given_told edits.Replace bytes = tree_told replace bytes (document_at MOST_DEEP bytes) (reads bytes)
given_told edits.ArrayPushLast bytes = parts_told push_last bytes (document_at MOST_DEEP (bracketed bytes)) (reads (bracketed bytes))
given_told edits.ArrayPushFirst bytes = parts_told push_first bytes (document_at MOST_DEEP (bracketed bytes)) (reads (bracketed bytes))
given_told edits.ArrayInsert bytes = parts_told array_insert bytes (document_at MOST_DEEP (bracketed bytes)) (reads (bracketed bytes))
given_told edits.ArrayAddUnique bytes = leaf_told add_unique bytes (document_at MOST_DEEP bytes) (reads bytes)
given_told edits.Counter bytes = delta_told bytes

-- ---- nothing else is given, but for trees that nest too deep

-- two edits that are given trees that nest too deep
pub data BothDeep : Asked → Asked → Type 0 where
  add : (u v : Tree) → MOST_DEEP < depth u → MOST_DEEP < depth v → BothDeep (dict_add u) (dict_add v)
  upsert : (u v : Tree) → MOST_DEEP < depth u → MOST_DEEP < depth v → BothDeep (dict_upsert u) (dict_upsert v)
  put_there : (u v : Tree) → MOST_DEEP < depth u → MOST_DEEP < depth v → BothDeep (replace u) (replace v)

-- the same is given, or trees that nest too deep
abbrev pub Same : Result Asked Status → Result Asked Status → Type 0
Same q r = (q ≡ r) ⊎ ((a : Asked) × (b : Asked) × (q ≡ Ok a) × (r ≡ Ok b) × BothDeep a b)

tree_same : (asked : Tree → Asked) (bytes : List ℕ) (answer : Result Asked Status) → ((u v : Tree) → MOST_DEEP < depth u → MOST_DEEP < depth v → BothDeep (asked u) (asked v))
    → GivesTree asked bytes answer → Same answer (tree_given asked (document_at MOST_DEEP bytes))
tree_same asked bytes answer both (inl (d, is, e)) = inl (e ∙ sym (ap (tree_given asked) (text_reads bytes d is)))
tree_same asked bytes answer both (inr (inl (place, deep, is, far, e))) = inr (asked deep, asked too_deep, e, ap (tree_given asked) (deep_reads bytes place is).1, both deep too_deep far too_deep_is)
tree_same asked bytes answer both (inr (inr (place, wrong, e))) = inl (e ∙ sym (ap (tree_given asked) (not_reads bytes place wrong).1))

-- what the definition gives is given, or both are trees that nest too deep
pub given_same : (edit : Edit) (bytes : List ℕ) (answer : Result Asked Status) → Gives edit bytes answer → Same answer (given edit bytes)
unfolding given
given_same edits.DictAdd bytes answer g = tree_same dict_add bytes answer (λ u v a b. add u v a b) g
given_same edits.DictUpsert bytes answer g = tree_same dict_upsert bytes answer (λ u v a b. upsert u v a b) g
given_same edits.Delete bytes answer g = inl g
given_same edits.Replace bytes answer g = tree_same replace bytes answer (λ u v a b. put_there u v a b) g
given_same edits.ArrayPushLast bytes answer g = inl (parts_only push_last bytes answer g)
given_same edits.ArrayPushFirst bytes answer g = inl (parts_only push_first bytes answer g)
given_same edits.ArrayInsert bytes answer g = inl (parts_only array_insert bytes answer g)
given_same edits.ArrayAddUnique bytes answer g = inl (leaf_only add_unique bytes answer g)
given_same edits.Counter bytes answer g = inl (delta_only bytes answer g)
