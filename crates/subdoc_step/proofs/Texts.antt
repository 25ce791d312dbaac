-- What is read of bytes is what is told of them.
use Rattle.std.proofs.Common.{◌≡◌, ℕ, ◌+◌, ◌<◌, ◌≤◌, List, [], ◌++◌, take, drop, Result, Ok, Err, ◌⊎◌, inl, inr, refl, sym, ap, subst, ◌∙◌, arith, append_assoc}
use Rattle.std.proofs.lemmas.List.{take-take, take-append-drop}
use Rattle.doc_model.specs.declared.status.Status.{Status}
use Rattle.json_model.specs.declared.TheConstants.{MOST_DEEP}
use Rattle.json_model.specs.Spelled.{Document, IsText}
use Rattle.json_model.specs.Fronts.{Begins, IsNot, IsDeep}
use Rattle.json_model.specs.Order.{ReadsText}
use Rattle.json_spell.specs.declared.tokens.Stop.{Stop}
use Rattle.json_spell.specs.declared.tokens.Stop.TheVariants as stops
use Rattle.json_spell.specs.Machine.{before}
use Rattle.json_spell.specs.Reading.{document_at}
use Rattle.json_spell.proofs.Simulation.{told as verdict_of, sim_document}
use Rattle.json_spell.proofs.Exact.{document_took, document_again, not_exact, deep_exact}
use Rattle.json_spell.proofs.Turned.{no_memory}
use Rattle.subdoc_step.specs.Texts.{told, read_text}

-- ---- bytes are a text, or none, or too deep

abbrev pub stop : Stop → Result Document Stop
stop s = Err s

-- the front of a text has shorter fronts
begins_less : (most m n : ℕ) (bytes : List ℕ) → m ≤ n → Begins most (take n bytes) → Begins most (take m bytes)
begins_less most m n bytes le (d, behind, is) =
    let shorter : take m (take n bytes) ≡ take m bytes = take-take m n bytes le in
    let whole : take n bytes ++ behind ≡ take m bytes ++ (drop m (take n bytes) ++ behind) =
    ap (λ (l : List ℕ). l ++ behind) (sym (take-append-drop m (take n bytes)) ∙ ap (λ (l : List ℕ). l ++ drop m (take n bytes)) shorter)
    ∙ append_assoc (take m bytes) (drop m (take n bytes)) behind in
    (d, drop m (take n bytes) ++ behind, subst (λ (l : List ℕ). IsText most d l) whole is)

-- bytes that are no text at any depth aren't too deep
not_deep : (bytes : List ℕ) (p q : ℕ) → IsNot bytes p → IsDeep bytes q → ⊥
not_deep bytes p q wrong deep = by_place (order p q)
  where
    order : (p q : ℕ) → (q < p) ⊎ ((p ≡ q) ⊎ (p < q))
    order p q = grind arith

    by_place : (q < p) ⊎ ((p ≡ q) ⊎ (p < q)) → ⊥
    by_place (inl h) = deep.wrong (begins_less MOST_DEEP (q + 1) p bytes (omega (arith, h)) wrong.front)
    by_place (inr (inl h)) = wrong.wrong (omega (arith, deep.within, h)) (MOST_DEEP + 1) (subst (λ (i : ℕ). Begins (MOST_DEEP + 1) (take (i + 1) bytes)) (sym h) deep.deeper)
    by_place (inr (inr h)) = wrong.wrong (omega (arith, deep.within, h)) MOST_DEEP (begins_less MOST_DEEP (p + 1) q bytes (omega (arith, h)) deep.front)

-- a text isn't too deep
pub text_deep : (bytes : List ℕ) (d : Document) (q : ℕ) → IsText MOST_DEEP d bytes → IsDeep bytes q → ⊥
text_deep bytes d q is deep = deep.wrong (d, drop (q + 1) bytes, subst (λ (l : List ℕ). IsText MOST_DEEP d l) (sym (take-append-drop (q + 1) bytes)) is)

-- reading never wants memory
never_memory : (bytes : List ℕ) → document_at MOST_DEEP bytes ≡ stop stops.NoMemory → ⊥
never_memory bytes e = no_memory bytes (before []) (sim_document MOST_DEEP bytes ∙ ap verdict_of e)

-- ---- what is read of them

-- a text is read
pub text_reads : (bytes : List ℕ) (d : Document) → IsText MOST_DEEP d bytes → document_at MOST_DEEP bytes ≡ Ok d
text_reads bytes d is = document_again MOST_DEEP bytes d is

-- where there is no text, none is read
pub not_reads : (bytes : List ℕ) (place : ℕ) → IsNot bytes place → (left : ℕ) × (document_at MOST_DEEP bytes ≡ stop (stops.Not left))
not_reads bytes place wrong = by_read (document_at MOST_DEEP bytes) refl
  where
    by_read : (r : Result Document Stop) → document_at MOST_DEEP bytes ≡ r → (left : ℕ) × (document_at MOST_DEEP bytes ≡ stop (stops.Not left))
    by_read (Ok d) e = absurd (wrong.cut d (document_took MOST_DEEP bytes d e))
    by_read (Err (stops.Not left)) e = (left, e)
    by_read (Err (stops.Deep left)) e = absurd (not_deep bytes place _ wrong (deep_exact bytes left e).1)
    by_read (Err stops.NoMemory) e = absurd (never_memory bytes e)

-- where a text is too deep, that is found
pub deep_reads : (bytes : List ℕ) (place : ℕ) → IsDeep bytes place → (left : ℕ) × (document_at MOST_DEEP bytes ≡ stop (stops.Deep left))
deep_reads bytes place deep = by_read (document_at MOST_DEEP bytes) refl
  where
    by_read : (r : Result Document Stop) → document_at MOST_DEEP bytes ≡ r → (left : ℕ) × (document_at MOST_DEEP bytes ≡ stop (stops.Deep left))
    by_read (Ok d) e = absurd (text_deep bytes d place (document_took MOST_DEEP bytes d e) deep)
    by_read (Err (stops.Not left)) e = absurd (not_deep bytes _ place (not_exact bytes left e).1 deep)
    by_read (Err (stops.Deep left)) e = (left, e)
    by_read (Err stops.NoMemory) e = absurd (never_memory bytes e)

-- what a reading says of the bytes
pub data Read (bytes : List ℕ) : Result Document Stop → Type 0 where
  as_text : (d : Document) → IsText MOST_DEEP d bytes → Read bytes (Ok d)
  as_not : (left place : ℕ) → IsNot bytes place → Read bytes (Err (stops.Not left))
  as_deep : (left place : ℕ) → IsDeep bytes place → Read bytes (Err (stops.Deep left))

-- a reading says so
pub reads : (bytes : List ℕ) → Read bytes (document_at MOST_DEEP bytes)
reads bytes = by_read (document_at MOST_DEEP bytes) refl
  where
    by_read : (r : Result Document Stop) → document_at MOST_DEEP bytes ≡ r → Read bytes r
    by_read (Ok d) e = as_text d (document_took MOST_DEEP bytes d e)
    by_read (Err (stops.Not left)) e = as_not left _ (not_exact bytes left e).1
    by_read (Err (stops.Deep left)) e = as_deep left _ (deep_exact bytes left e).1
    by_read (Err stops.NoMemory) e = absurd (never_memory bytes e)

-- ---- what is told

told_reads : (bytes : List ℕ) (r : Result Document Stop) → Read bytes r → ReadsText bytes (told r)
told_reads bytes r (as_text d is) = inl (d, is, refl)
told_reads bytes r (as_not left place wrong) = inr (inl (place, wrong, refl))
told_reads bytes r (as_deep left place is) = inr (inr (place, is, refl))

-- a text is told as the definition has it
pub text_answered : (bytes : List ℕ) → ReadsText bytes (read_text bytes)
unfolding read_text
text_answered bytes = told_reads bytes (document_at MOST_DEEP bytes) (reads bytes)

-- and nothing else is told
pub text_only : (bytes : List ℕ) (answer : Result Document Status) → ReadsText bytes answer → answer ≡ read_text bytes
unfolding read_text
text_only bytes answer (inl (d, is, e)) = e ∙ sym (ap told (text_reads bytes d is))
text_only bytes answer (inr (inl (place, wrong, e))) = e ∙ sym (ap told (not_reads bytes place wrong).1)
text_only bytes answer (inr (inr (place, deep, e))) = e ∙ sym (ap told (deep_reads bytes place deep).1)

-- a text that is read is one
pub read_is : (bytes : List ℕ) (d : Document) → read_text bytes ≡ Ok d → IsText MOST_DEEP d bytes
unfolding read_text
read_is bytes d e = by_read (document_at MOST_DEEP bytes) (reads bytes) e
  where
    by_read : (r : Result Document Stop) → Read bytes r → told r ≡ Ok d → IsText MOST_DEEP d bytes
    by_read r (as_text t is) h = let same : t ≡ d = cc in subst (λ (t : Document). IsText MOST_DEEP t bytes) same is
    by_read r (as_not left place wrong) h = cc
    by_read r (as_deep left place is) h = cc
