-- A counter's number in place of the one there.
use Rattle.std.proofs.Common.{◌≡◌, ℕ, ◌-◌, ◌^◌, ◌<◌, ◌≤◌, List, length, take, drop, Bool, true, false, None, Some, Ok, Err, refl, sym, ap, subst, ◌∙◌, arith, ℤ, pos, negsuc, ◌+ℤ◌, ◌⊎◌, inl, inr, w64, to_z, of_z}
use Rattle.std.specs.Prelude.{if◌then◌else◌}
use Rattle.std.specs.Fmt.{signed_decimal}
use Rattle.std.specs.Int.RustNames.{FitsSigned}
use Rattle.std.proofs.lemmas.Int.{ints, to_z-of_z}
use Rattle.std.proofs.lemmas.Bool.{cases_lt}
use Rattle.doc_model.specs.declared.status.TheConstants.Status as status
use Rattle.json_model.specs.declared.kinds.Kind.{Kind}
use Rattle.json_model.specs.declared.kinds.Kind.TheVariants as kinds
use Rattle.json_model.specs.declared.kinds.Shape.{Shape}
use Rattle.json_model.specs.declared.kinds.Shape.TheVariants as shapes
use Rattle.json_model.specs.Grammar.{IsNumber}
use Rattle.json_model.specs.Spelled.{Tree, leaf, empty, group, Fits, Document}
use Rattle.json_model.specs.Moves.{put}
use Rattle.json_model.specs.Edit.{Act, counted, number_of, whole_of, fits_i64}
use Rattle.json_spell.specs.Nodes.{kind_of}
use Rattle.json_walk.specs.Places.{IsAt}
use Rattle.json_walk.specs.Telling.{tree_kind, tree_end}
use Rattle.subdoc_path.specs.Led.{StandsAt}
use Rattle.subdoc_edit.specs.declared.plan.Plan.{Plan}
use Rattle.subdoc_edit.specs.Numbers.{IsNumberPlan}
use Rattle.subdoc_edit.specs.Planning.{Plans}
use Rattle.subdoc_edit.proofs.Pieces.{slice_of}
use Rattle.subdoc_edit.proofs.Plans.{number_plan}

abbrev cut : List ℕ → ℕ → ℕ → List ℕ
cut bytes from to = take (to - from) (drop from bytes)

-- a value that is no number
no_number : (t : Tree) (kind : Kind) → kind ≡ tree_kind t → (kind ≡ kinds.Number → ⊥) → number_of t ≡ None
no_number (leaf kinds.Number s) kind is k = absurd (k is)
no_number (leaf kinds.Object s) kind is k = refl
no_number (leaf kinds.Array s) kind is k = refl
no_number (leaf kinds.Text s) kind is k = refl
no_number (leaf kinds.True s) kind is k = refl
no_number (leaf kinds.False s) kind is k = refl
no_number (leaf kinds.Null s) kind is k = refl
no_number (empty shape gap) kind is k = refl
no_number (group shape ps) kind is k = refl

-- a value that is one: its text
pub record Numbered (bytes : List ℕ) (from to : ℕ) (t : Tree) : Type 0 where
  pub number : IsNumber (cut bytes from to)
  pub whole : number_of t ≡ whole_of (cut bytes from to)

leaf_number : (bytes : List ℕ) (at end : ℕ) (kind : Kind) (s : List ℕ) → IsAt bytes at (leaf kind s) → kind ≡ kinds.Number → end ≡ tree_end at (leaf kind s) → Numbered bytes at end (leaf kind s)
leaf_number bytes at end kind s h k e =
    let x = slice_of bytes at end (leaf kind s) h e in
    let fits : Fits (leaf kinds.Number s) = subst (λ (q : Kind). Fits (leaf q s)) k h.fits in
    record {
      number = subst (λ (l : List ℕ). IsNumber l) (sym x.slice) fits;
      whole = ap (λ (q : Kind). number_of (leaf q s)) k ∙ ap whole_of (sym x.slice);
    }

apart : (shape : Shape) → kind_of shape ≡ kinds.Number → ⊥
apart shapes.Object e = cc
apart shapes.Array e = cc

pub a_number : (bytes : List ℕ) (at end : ℕ) (t : Tree) (kind : Kind) → IsAt bytes at t → kind ≡ tree_kind t → kind ≡ kinds.Number → end ≡ tree_end at t → Numbered bytes at end t
a_number bytes at end (leaf other s) kind h is k e = leaf_number bytes at end other s h (sym is ∙ k) e
a_number bytes at end (empty shape gap) kind h is k e = absurd (apart shape (sym is ∙ k))
a_number bytes at end (group shape ps) kind h is k e = absurd (apart shape (sym is ∙ k))

-- ---- the same where it stands in a document

pub none_there : (t : Tree) (kind : Kind) (trail : List ℕ) (delta : ℤ) → kind ≡ tree_kind t → (kind ≡ kinds.Number → ⊥) → counted trail delta (number_of t) ≡ Err status.PATH_MISMATCH
none_there t kind trail delta is k = ap (counted trail delta) (no_number t kind is k)

pub not_whole : (bytes : List ℕ) (from to : ℕ) (t : Tree) (trail : List ℕ) (delta : ℤ) (l : List ℕ) → Numbered bytes from to t → l ≡ cut bytes from to → whole_of l ≡ None → counted trail delta (number_of t) ≡ Err status.PATH_MISMATCH
not_whole bytes from to t trail delta l h e w = ap (counted trail delta) (h.whole ∙ ap whole_of (sym e) ∙ w)

counted_is : (trail : List ℕ) (delta n : ℤ) (a b : Bool) → fits_i64 n ≡ a → fits_i64 (n +ℤ delta) ≡ b
    → counted trail delta (Some n) ≡ (if a then (if b then Ok (record { trail = trail; change = put (leaf kinds.Number (signed_decimal (n +ℤ delta))); number = Some (n +ℤ delta) }) else Err status.VALUE_CANT_INSERT) else Err status.NUM_ERANGE)
counted_is trail delta n a b e f =
    ap (λ (x : Bool). if x then (if fits_i64 (n +ℤ delta) then Ok (record { trail = trail; change = put (leaf kinds.Number (signed_decimal (n +ℤ delta))); number = Some (n +ℤ delta) }) else Err status.VALUE_CANT_INSERT) else Err status.NUM_ERANGE) e
    ∙ ap (λ (x : Bool). if a then (if x then Ok (record { trail = trail; change = put (leaf kinds.Number (signed_decimal (n +ℤ delta))); number = Some (n +ℤ delta) }) else Err status.VALUE_CANT_INSERT) else Err status.NUM_ERANGE) f

pub too_large : (bytes : List ℕ) (from to : ℕ) (t : Tree) (trail : List ℕ) (delta whole : ℤ) (l : List ℕ) → Numbered bytes from to t → l ≡ cut bytes from to → whole_of l ≡ Some whole → fits_i64 whole ≡ false → counted trail delta (number_of t) ≡ Err status.NUM_ERANGE
too_large bytes from to t trail delta whole l h e w f = ap (counted trail delta) (h.whole ∙ ap whole_of (sym e) ∙ w) ∙ counted_is trail delta whole false (fits_i64 (whole +ℤ delta)) f refl

pub no_sum : (bytes : List ℕ) (from to : ℕ) (t : Tree) (trail : List ℕ) (delta whole : ℤ) (l : List ℕ) → Numbered bytes from to t → l ≡ cut bytes from to → whole_of l ≡ Some whole → fits_i64 whole ≡ true → fits_i64 (whole +ℤ delta) ≡ false → counted trail delta (number_of t) ≡ Err status.VALUE_CANT_INSERT
no_sum bytes from to t trail delta whole l h e w f g = ap (counted trail delta) (h.whole ∙ ap whole_of (sym e) ∙ w) ∙ counted_is trail delta whole true false f g

-- the new number
pub counts : (bytes value : List ℕ) (d : Document) (t : Tree) (trail : List ℕ) (from followed to : ℕ) (delta whole sum : ℤ) (l : List ℕ) (p : Plan) → StandsAt bytes d trail t from → ((u : Tree) → IsAt bytes from u → to ≡ tree_end from u) → followed ≡ length trail
    → Numbered bytes from to t → l ≡ cut bytes from to → whole_of l ≡ Some whole → fits_i64 whole ≡ true → sum ≡ whole +ℤ delta → fits_i64 sum ≡ true → IsNumberPlan (record { from = from; to = to }) followed sum p
    → (a : Act) × (counted trail delta (number_of t) ≡ Ok a) × Plans bytes value d a.trail a.change p × (a.number ≡ p.number)
counts bytes value d t trail from followed to delta whole sum l p st is long h e w f s g plan =
    let fits : fits_i64 (whole +ℤ delta) ≡ true = ap fits_i64 (sym s) ∙ g in
    let same : IsNumberPlan (record { from = from; to = to }) followed (whole +ℤ delta) p = subst (λ (z : ℤ). IsNumberPlan (record { from = from; to = to }) followed z p) s plan in (
      record { trail = trail; change = put (leaf kinds.Number (signed_decimal (whole +ℤ delta))); number = Some (whole +ℤ delta) },
      ap (counted trail delta) (h.whole ∙ ap whole_of (sym e) ∙ w) ∙ counted_is trail delta whole true true f fits,
      number_plan bytes value d trail t from followed to (whole +ℤ delta) p is same st long,
      sym same.number_is,
    )

pub fits_is : (z : ℤ) → FitsSigned w64 z → fits_i64 z ≡ true
fits_is z h = grind (arith, ints)

pos_not : (n : ℕ) → 2 ^ 63 ≤ n → fits_i64 (pos n) ≡ false
pos_not n h = grind (arith, ints)

neg_not : (n : ℕ) → 2 ^ 63 ≤ n → fits_i64 (negsuc n) ≡ false
neg_not n h = grind (arith, ints)

pub fits_not : (z : ℤ) → (FitsSigned w64 z → ⊥) → fits_i64 z ≡ false
fits_not (pos n) h = by (cases_lt n (2 ^ 63))
  where
    by : (n < 2 ^ 63) ⊎ (2 ^ 63 ≤ n) → fits_i64 (pos n) ≡ false
    by (inl less) = absurd (h (record { sfits = less }))
    by (inr more) = pos_not n more
fits_not (negsuc n) h = by (cases_lt n (2 ^ 63))
  where
    by : (n < 2 ^ 63) ⊎ (2 ^ 63 ≤ n) → fits_i64 (negsuc n) ≡ false
    by (inl less) = absurd (h (record { sfits = less }))
    by (inr more) = neg_not n more

-- numbers as they are passed
pub passed_sum : (a b : ℤ) → FitsSigned w64 a → FitsSigned w64 b → to_z w64 (of_z w64 a) +ℤ to_z w64 (of_z w64 b) ≡ a +ℤ b
passed_sum a b p q = ap (λ (z : ℤ). z +ℤ to_z w64 (of_z w64 b)) (to_z-of_z w64 a p) ∙ ap (λ (z : ℤ). a +ℤ z) (to_z-of_z w64 b q)
