-- The results of look-ups, one after the other.
use Rattle.std.specs.Prelude.{◌≡◌, ℕ, ◌+◌, ◌≤◌, ◌<◌, Bool, true, false, ◌&&◌, not, ◌||◌, is_ok, List, [], ◌∷◌, ◌++◌, length, refl}
use Rattle.std.specs.List.{AllByRecursion, list_any}
use Rattle.std.proofs.Common.{ap, sym, ◌∙◌, arith}
use Rattle.std.proofs.lemmas.List.{append_assoc, append-nil, length-append}
use Rattle.doc_model.specs.declared.document.Doc.{Doc}
use Rattle.kv_request.specs.declared.reading.TheConstants.{VALUE_LIMIT}
use Rattle.kv_request.specs.declared.request.Spec.{Spec}
use Rattle.kv_request.specs.Parts.{is_attribute}
use Rattle.doc_step.specs.Parts.{found_in, look_result, look_results, all_found}
use Rattle.doc_ops.specs.declared.looks.Texts.{Texts}
use Rattle.doc_ops.specs.Looks.{Hold, Serve}

-- what is added, and what is left
pub record AreLeft (doc : Doc) (texts : Texts) (specs rest : List Spec) (bytes : List ℕ) (all : Bool) : Type 0 where
  pub bytes_are : look_results doc specs ≡ bytes ++ look_results doc rest
  pub all_is : all_found doc specs ≡ (all && all_found doc rest)
  pub short : length bytes ≤ VALUE_LIMIT
  pub serve : AllByRecursion (λ spec. Serve doc texts spec) rest

pub none_added : (doc : Doc) (texts : Texts) (specs : List Spec) → AllByRecursion (λ spec. Serve doc texts spec) specs → AreLeft doc texts specs specs [] true
none_added doc texts specs h = record { bytes_are = refl; all_is = refl; short = omega arith; serve = h }

and_assoc : (a b c : Bool) → (a && (b && c)) ≡ ((a && b) && c)
and_assoc true b c = refl
and_assoc false b c = refl

-- one more is added
pub one_added : (doc : Doc) (texts : Texts) (specs : List Spec) (spec : Spec) (others : List Spec) (bytes added : List ℕ) (all found : Bool)
    → AreLeft doc texts specs (spec ∷ others) bytes all → added ≡ bytes ++ look_result (found_in doc spec) → found ≡ is_ok (found_in doc spec) → length added ≤ VALUE_LIMIT
    → AreLeft doc texts specs others added (all && found)
one_added doc texts specs spec others bytes added all found h b f s = record {
  bytes_are = h.bytes_are ∙ sym (append_assoc bytes (look_result (found_in doc spec)) (look_results doc others)) ∙ ap (λ (x : List ℕ). x ++ look_results doc others) (sym b);
  all_is = h.all_is ∙ and_assoc all (is_ok (found_in doc spec)) (all_found doc others) ∙ ap (λ (x : Bool). (all && x) && all_found doc others) (sym f);
  short = s;
  serve = h.serve.1;
}

-- what was added with one more is too much
pub too_much : (doc : Doc) (texts : Texts) (specs : List Spec) (spec : Spec) (others : List Spec) (bytes : List ℕ) (all : Bool)
    → AreLeft doc texts specs (spec ∷ others) bytes all → VALUE_LIMIT < length bytes + length (look_result (found_in doc spec)) → VALUE_LIMIT < length (look_results doc specs)
too_much doc texts specs spec others bytes all h long =
    omega (arith, ap length h.bytes_are, length-append bytes (look_results doc (spec ∷ others)), length-append (look_result (found_in doc spec)) (look_results doc others), long)

-- all are added
pub all_added : (doc : Doc) (texts : Texts) (specs : List Spec) (bytes : List ℕ) (all : Bool) → AreLeft doc texts specs [] bytes all
    → (bytes ≡ look_results doc specs) × (all ≡ all_found doc specs) × (length bytes ≤ VALUE_LIMIT)
all_added doc texts specs bytes all h = (sym (h.bytes_are ∙ append-nil bytes), sym (h.all_is ∙ and_true all), h.short)
  where
    and_true : (b : Bool) → (b && true) ≡ b
    and_true true = refl
    and_true false = refl

-- ---- texts

first_or : (a b : Bool) → a ≡ true → (a || b) ≡ true
first_or true b e = refl
first_or false b e = absurd (cc)

second_or : (a b : Bool) → b ≡ true → (a || b) ≡ true
second_or true b e = refl
second_or false b e = e

negated : (a : Bool) → a ≡ false → not a ≡ true
negated true e = absurd (cc)
negated false e = refl

-- the texts that are asked for serve a look-up
pub serves : (doc : Doc) (texts : Texts) (attributes value : Bool) (spec : Spec) → Hold doc attributes value texts
    → (is_attribute spec ≡ true → attributes ≡ true) → (is_attribute spec ≡ false → value ≡ true) → Serve doc texts spec
serves doc texts attributes value spec h a v = record { value = λ e. h.of_value (v e); object = λ e. h.of_attributes (a e) }

-- they serve each
pub serve_each : (doc : Doc) (texts : Texts) (attributes value : Bool) (specs : List Spec) → Hold doc attributes value texts
    → (list_any is_attribute specs ≡ true → attributes ≡ true) → (list_any (λ spec. not (is_attribute spec)) specs ≡ true → value ≡ true)
    → AllByRecursion (λ spec. Serve doc texts spec) specs
serve_each doc texts attributes value [] h a v = tt
serve_each doc texts attributes value (spec ∷ specs) h a v = (
  serves doc texts attributes value spec h
      (λ e. a (first_or (is_attribute spec) (list_any is_attribute specs) e))
      (λ e. v (first_or (not (is_attribute spec)) (list_any (λ s. not (is_attribute s)) specs) (negated (is_attribute spec) e))),
  serve_each doc texts attributes value specs h
      (λ e. a (second_or (is_attribute spec) (list_any is_attribute specs) e))
      (λ e. v (second_or (not (is_attribute spec)) (list_any (λ s. not (is_attribute s)) specs) e)),
)
