-- Edits, one after the other.
use Rattle.std.specs.Prelude.{◌≡◌, ℕ, ◌+◌, ◌≤◌, suc, true, List, [], ◌∷◌, ◌++◌, length, unwrap_or, None, Result, Ok, Err, refl}
use Rattle.std.proofs.Common.{get_or, take, drop, ◌-◌, ap, sym, ◌∙◌, arith}
use Rattle.std.proofs.lemmas.List.{take_all}
use Rattle.doc_model.specs.declared.document.Doc.{Doc}
use Rattle.doc_model.specs.declared.status.Status.{Status}
use Rattle.kv_request.specs.declared.multi.TheConstants.{MOST_SPECS}
use Rattle.kv_request.specs.declared.request.Spec.{Spec}
use Rattle.doc_step.specs.Parts.{EditedDoc, edited_doc, edit_result, and_then, edits_from, all_made, refused_at}
use Rattle.doc_ops.specs.declared.edits.Begun.{Begun}
use Rattle.doc_ops.specs.declared.edits.Draft.{Draft}
use Rattle.doc_ops.specs.declared.edits.Made.{Made}
use Rattle.doc_ops.specs.Edits.{Begins, drafted, IsDraft, made_doc, made_number}

-- what is made, and what is left
pub record AreToMake (flags : ℕ) (begun : Begun) (specs rest : List Spec) (place : ℕ) (draft : Draft) (told : List ℕ) : Type 0 where
  pub fold : (doc : Doc) → Begins begun doc → edits_from flags 0 doc [] specs ≡ edits_from flags place (drafted draft doc) told rest
  pub json : IsDraft draft
  pub few : place + length rest ≤ MOST_SPECS

-- a document without changes is itself
pub as_it_was : (doc : Doc) → drafted (record { value = None; xattrs = None }) doc ≡ doc
as_it_was doc = refl

pub none_made : (flags : ℕ) (begun : Begun) (specs : List Spec) → length specs ≤ MOST_SPECS → AreToMake flags begun specs specs 0 (record { value = None; xattrs = None }) []
none_made flags begun specs h = record { fold = λ doc b. refl; json = tt; few = omega (arith, h) }

-- what a draft has of a document
pub draft_value : (begun : Begun) (draft : Draft) (doc : Doc) → Begins begun doc → unwrap_or draft.value begun.value.now ≡ (drafted draft doc).value
draft_value begun draft doc h = ap (unwrap_or draft.value) h.value

pub draft_xattrs : (begun : Begun) (draft : Draft) (doc : Doc) → Begins begun doc → unwrap_or draft.xattrs begun.xattrs.now ≡ (drafted draft doc).xattrs
draft_xattrs begun draft doc h = ap (unwrap_or draft.xattrs) h.xattrs

next : (n : ℕ) → suc n ≡ n + 1
next n = omega arith

-- one more edit is made
pub one_made : (flags : ℕ) (begun : Begun) (specs : List Spec) (spec : Spec) (others : List Spec) (place : ℕ) (draft new : Draft) (told added : List ℕ) (made : Made)
    → AreToMake flags begun specs (spec ∷ others) place draft told
    → ((doc : Doc) → Begins begun doc → edited_doc spec flags (drafted draft doc) ≡ Ok (record { doc = made_doc (drafted draft doc) made; number = made_number made }))
    → ((doc : Doc) → drafted new doc ≡ made_doc (drafted draft doc) made) → IsDraft new → added ≡ told ++ edit_result place (made_number made)
    → AreToMake flags begun specs others (place + 1) new added
unfolding edits_from
one_made flags begun specs spec others place draft new told added made h e d j a = record {
  fold = λ doc b.
      h.fold doc b
      ∙ ap (λ (r : Result EditedDoc Status). and_then place told r (λ made told. edits_from flags (suc place) made told others)) {y = Ok (record { doc = made_doc (drafted draft doc) made; number = made_number made })} (e doc b)
      ∙ ap (λ (x : Doc). edits_from flags (suc place) x (told ++ edit_result place (made_number made)) others) (sym (d doc))
      ∙ ap (λ (x : List ℕ). edits_from flags (suc place) (drafted new doc) x others) (sym a)
      ∙ ap (λ (n : ℕ). edits_from flags n (drafted new doc) added others) (next place);
  json = j;
  few = omega (arith, h.few);
}

-- an edit is refused
pub one_refused : (flags : ℕ) (begun : Begun) (specs : List Spec) (spec : Spec) (others : List Spec) (place : ℕ) (draft : Draft) (told : List ℕ) (s : Status)
    → AreToMake flags begun specs (spec ∷ others) place draft told
    → ((doc : Doc) → Begins begun doc → edited_doc spec flags (drafted draft doc) ≡ Err s)
    → (doc : Doc) → Begins begun doc → edits_from flags 0 doc [] specs ≡ refused_at place s
unfolding edits_from
one_refused flags begun specs spec others place draft told s h e doc b =
    h.fold doc b ∙ ap (λ (r : Result EditedDoc Status). and_then place told r (λ made told. edits_from flags (suc place) made told others)) {y = Err s} (e doc b)

-- all are made
pub all_are_made : (flags : ℕ) (begun : Begun) (specs : List Spec) (place : ℕ) (draft : Draft) (told : List ℕ) → AreToMake flags begun specs [] place draft told
    → (doc : Doc) → Begins begun doc → edits_from flags 0 doc [] specs ≡ all_made (drafted draft doc) told
unfolding edits_from
all_are_made flags begun specs place draft told h doc b = h.fold doc b

-- a list that has a first element is that and the others
pub front : {A : Type 0} (xs : List A) (x : A) → 1 ≤ length xs → x ≡ get_or xs 0 x → xs ≡ x ∷ take (length xs - 1) (drop 1 xs)
front [] x h e = absurd (omega (arith, h))
front (y ∷ ys) x h e = ap (λ z. z ∷ ys) (sym e) ∙ ap (λ zs. x ∷ zs) (sym (take_all (length (y ∷ ys) - 1) ys (omega arith)))

-- a document of this value and these attributes
abbrev pub any_doc : List ℕ → List ℕ → Doc
any_doc value xattrs = record { value = value; xattrs = xattrs; flags = 0; expiry = 0; cas = 0; seqno = 0; json = true }

-- a list of no elements
pub no_more : {A : Type 0} (xs : List A) → length xs ≡ 0 → xs ≡ []
no_more [] h = refl
no_more (x ∷ xs) h = absurd (omega (arith, h))
