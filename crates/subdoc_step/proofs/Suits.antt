-- What comes with an edit is JSON that may stand where it is put.
use Rattle.std.proofs.Common.{◌≡◌, ℕ, zero, suc, ◌<◌, ◌^◌, List, [], ◌∷◌, ◌++◌, get_or, Bool, true, false, cond, Result, Ok, Err, inl, inr, refl, sym, ap, subst, arith}
use Rattle.std.specs.Prelude.{ℤ, pos, negsuc, IsTrue}
use Rattle.std.specs.Char.{digit_value}
use Rattle.std.specs.Fmt.{decimal, signed_decimal}
use Rattle.std.specs.Str.Parse.{AllDigits, signed_digits_value}
use Rattle.std.proofs.lemmas.Bool.Decides.{nat_tests}
use Rattle.std.proofs.lemmas.Fmt.{decimal_is_IsNumeral, decimal_digit, first_decimal}
use Rattle.doc_model.specs.declared.status.Status.{Status}
use Rattle.doc_model.specs.declared.status.TheConstants.Status as status
use Rattle.json_model.specs.declared.TheConstants.{MOST_DEEP}
use Rattle.json_model.specs.declared.kinds.Kind.TheVariants as kinds
use Rattle.json_model.specs.declared.kinds.Shape.{Shape}
use Rattle.json_model.specs.declared.kinds.Shape.TheVariants as shapes
use Rattle.json_model.specs.declared.asked.Part.{Part}
use Rattle.json_model.specs.declared.asked.Edit.{Edit}
use Rattle.json_model.specs.declared.asked.Edit.TheVariants as edits
use Rattle.json_model.specs.Grammar.{Within, AreBlanks, AreDigits, IsWhole, IsNumber, IsLeaf}
use Rattle.json_model.specs.Spelled.{Head, plain, keyed, Tree, leaf, empty, group, Parts, last, more, HeadFits, Fits, PartsFit, Document}
use Rattle.json_model.specs.Moves.{led_head, led, ended, trimmed}
use Rattle.json_model.specs.Edit.{Asked, dict_add, dict_upsert, delete, replace, push_last, push_first, array_insert, add_unique, counter, fits_i64}
use Rattle.json_model.specs.Order.{ends_in_index, is_some_part, takes}
use Rattle.json_model.specs.Values.{bracketed}
use Rattle.json_spell.specs.declared.tokens.Stop.{Stop}
use Rattle.json_spell.specs.Reading.{document_at}
use Rattle.json_spell.proofs.Again.{tree_kind}
use Rattle.subdoc_step.specs.Given.{nested_arrays, too_deep, tree_given, parts_in, parts_given, leaf_in, leaf_given, is_delta, given}
use Rattle.subdoc_step.proofs.Texts.{Read, as_text, as_not, as_deep, reads}
use Rattle.subdoc_step.proofs.Given.{array_kind, pos_fits, neg_fits, delta_is}

-- ---- whole numbers

digit_within : (c : ℕ) → digit_value c < 10 → Within 0x30 0x39 c
digit_within c h = record { low = grind (arith, nat_tests); high = grind (arith, nat_tests) }

digits_are : (s : List ℕ) → AllDigits 10 s → AreDigits s
digits_are [] h = tt
digits_are (c ∷ s) h = (digit_within c h.0, digits_are s h.1)

whole_is : (s : List ℕ) → AllDigits 10 s → 48 < get_or s 0 0 → IsWhole s
whole_is [] h first = absurd (omega arith)
whole_is (c ∷ s) h first = let w = digit_within c h.0 in inr (record { low = omega (arith, first); high = w.high }, digits_are s h.1)

zero_number : IsWhole (decimal 0)
zero_number = subst IsWhole (sym (decimal_digit 0 (omega arith))) (inl (refl, refl))

unsigned_number : (n : ℕ) → n < 2 ^ 64 → IsWhole (decimal n)
unsigned_number zero small = zero_number
unsigned_number (suc n) small = whole_is (decimal (suc n)) (decimal_is_IsNumeral (suc n) small).0.1 (first_decimal (suc n) (omega arith) small)

append_none : (l : List ℕ) → l ++ [] ≡ l
append_none [] = refl
append_none (x ∷ l) = ap (λ (m : List ℕ). x ∷ m) (append_none l)

-- the decimal of a number within 64 bits is a number of JSON
pub signed_number : (n : ℤ) → IsTrue (fits_i64 n) → IsNumber (signed_decimal n)
signed_number (pos n) fits = record {
  minus = [];
  whole = decimal n;
  fraction = [];
  exponent = [];
  minus_is = inl refl;
  whole_is = unsigned_number n (pos_fits n fits);
  fraction_is = tt;
  exponent_is = tt;
  parts = sym (append_none (decimal n));
}
signed_number (negsuc n) fits = record {
  minus = 0x2d ∷ [];
  whole = decimal (suc n);
  fraction = [];
  exponent = [];
  minus_is = inr refl;
  whole_is = unsigned_number (suc n) (neg_fits n fits);
  fraction_is = tt;
  exponent_is = tt;
  parts = ap (λ (l : List ℕ). 0x2d ∷ l) (sym (append_none (decimal (suc n))));
}

-- ---- parts without blanks at both ends

led_head_fits : (shape : Shape) (gap : List ℕ) (h : Head) → AreBlanks gap → HeadFits shape h → HeadFits shape (led_head gap h)
led_head_fits shapes.Object gap (plain old) b f = absurd f
led_head_fits shapes.Object gap (keyed old key behind before) b f = (b, f.1, f.2, f.3)
led_head_fits shapes.Array gap (plain old) b f = b
led_head_fits shapes.Array gap (keyed old key behind before) b f = absurd f

led_fits : (shape : Shape) (gap : List ℕ) (ps : Parts) → AreBlanks gap → PartsFit shape ps → PartsFit shape (led gap ps)
led_fits shape gap (last h t g) b f = (led_head_fits shape gap h b f.0, f.1, f.2)
led_fits shape gap (more h t g ps) b f = (led_head_fits shape gap h b f.0, f.1, f.2, f.3)

ended_fits : (shape : Shape) (gap : List ℕ) (ps : Parts) → AreBlanks gap → PartsFit shape ps → PartsFit shape (ended gap ps)
ended_fits shape gap (last h t g) b f = (f.0, f.1, b)
ended_fits shape gap (more h t g ps) b f = (f.0, f.1, f.2, ended_fits shape gap ps b f.3)

trimmed_fits : (shape : Shape) (ps : Parts) → PartsFit shape ps → PartsFit shape (trimmed ps)
trimmed_fits shape ps f = led_fits shape [] (ended [] ps) tt (ended_fits shape [] ps tt f)

-- ---- what is given

-- what an edit brings is JSON, and its path has the form that it takes
abbrev pub Suits : List Part → Asked → Type 0
Suits path (dict_add v) = Fits v
Suits path (dict_upsert v) = Fits v
Suits path delete = is_some_part path ≡ true
Suits path (replace v) = Fits v
Suits path (push_last vs) = PartsFit shapes.Array vs
Suits path (push_first vs) = PartsFit shapes.Array vs
Suits path (array_insert vs) = PartsFit shapes.Array vs × (ends_in_index path ≡ true)
Suits path (add_unique kind s) = IsLeaf kind s
Suits path (counter delta) = IsTrue (fits_i64 delta)

-- the same of what is given, where something is
abbrev pub GivenSuits : List Part → Result Asked Status → Type 0
GivenSuits path (Ok asked) = Suits path asked
GivenSuits path (Err s) = Unit {0}

nested_fits : (n : ℕ) → Fits (nested_arrays n)
unfolding nested_arrays
nested_fits zero = tt
nested_fits (suc n) = (tt, nested_fits n, tt)

tree_suits : (path : List Part) (asked : Tree → Asked) (bytes : List ℕ) (r : Result Document Stop) → ((t : Tree) → Fits t → Suits path (asked t)) → Read bytes r → GivenSuits path (tree_given asked r)
tree_suits path asked bytes r law (as_text d is) = law d.tree is.tree
tree_suits path asked bytes r law (as_not left place wrong) = tt
tree_suits path asked bytes r law (as_deep left place deep) = law too_deep (nested_fits MOST_DEEP)

array_suits : (path : List Part) (asked : Parts → Asked) (t : Tree) → ((ps : Parts) → PartsFit shapes.Array ps → Suits path (asked ps)) → Fits t → tree_kind t ≡ kinds.Array → GivenSuits path (parts_in asked t)
array_suits path asked (leaf kind s) law fits k = tt
array_suits path asked (empty shape gap) law fits k = tt
array_suits path asked (group shapes.Object parts) law fits k = cc
array_suits path asked (group shapes.Array parts) law fits k = law (trimmed parts) (trimmed_fits shapes.Array parts fits)

parts_suit : (path : List Part) (asked : Parts → Asked) (bytes : List ℕ) (r : Result Document Stop) → ((ps : Parts) → PartsFit shapes.Array ps → Suits path (asked ps)) → Read (bracketed bytes) r → GivenSuits path (parts_given asked r)
parts_suit path asked bytes r law (as_text d is) = array_suits path asked d.tree law is.tree (array_kind bytes d is)
parts_suit path asked bytes r law (as_not left place wrong) = tt
parts_suit path asked bytes r law (as_deep left place deep) = tt

leaf_in_suits : (path : List Part) (t : Tree) → Fits t → GivenSuits path (leaf_in add_unique t)
leaf_in_suits path (leaf kind s) fits = fits
leaf_in_suits path (empty shape gap) fits = tt
leaf_in_suits path (group shape parts) fits = tt

leaf_suits : (path : List Part) (bytes : List ℕ) (r : Result Document Stop) → Read bytes r → GivenSuits path (leaf_given add_unique r)
leaf_suits path bytes r (as_text d is) = leaf_in_suits path d.tree is.tree
leaf_suits path bytes r (as_not left place wrong) = tt
leaf_suits path bytes r (as_deep left place deep) = tt

delta_suits : (path : List Part) (n : ℤ) (bytes : List ℕ) (b : Bool) → is_delta n bytes ≡ b → GivenSuits path (cond b (Ok (counter n)) (Err status.DELTA_EINVAL))
delta_suits path n bytes true e = (delta_is n bytes e).fits
delta_suits path n bytes false e = tt

given_suits : (edit : Edit) (path : List Part) (bytes : List ℕ) → takes edit path ≡ true → GivenSuits path (given edit bytes)
unfolding given
given_suits edits.DictAdd path bytes form = tree_suits path dict_add bytes (document_at MOST_DEEP bytes) (λ t f. f) (reads bytes)
given_suits edits.DictUpsert path bytes form = tree_suits path dict_upsert bytes (document_at MOST_DEEP bytes) (λ t f. f) (reads bytes)
given_suits edits.Delete path bytes form = form
given_suits edits.Replace path bytes form = tree_suits path replace bytes (document_at MOST_DEEP bytes) (λ t f. f) (reads bytes)
given_suits edits.ArrayPushLast path bytes form = parts_suit path push_last bytes (document_at MOST_DEEP (bracketed bytes)) (λ ps f. f) (reads (bracketed bytes))
given_suits edits.ArrayPushFirst path bytes form = parts_suit path push_first bytes (document_at MOST_DEEP (bracketed bytes)) (λ ps f. f) (reads (bracketed bytes))
given_suits edits.ArrayInsert path bytes form = parts_suit path array_insert bytes (document_at MOST_DEEP (bracketed bytes)) (λ ps f. (f, form)) (reads (bracketed bytes))
given_suits edits.ArrayAddUnique path bytes form = leaf_suits path bytes (document_at MOST_DEEP bytes) (reads bytes)
given_suits edits.Counter path bytes form = delta_suits path (signed_digits_value 10 bytes) bytes (is_delta (signed_digits_value 10 bytes) bytes) refl

-- what an edit is given suits it
pub asked_suits : (edit : Edit) (path : List Part) (bytes : List ℕ) (asked : Asked) → takes edit path ≡ true → given edit bytes ≡ Ok asked → Suits path asked
asked_suits edit path bytes asked form e = subst (λ (r : Result Asked Status). GivenSuits path r) e (given_suits edit path bytes form)
