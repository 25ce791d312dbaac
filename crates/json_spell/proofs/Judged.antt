-- What the machine tells of a whole text.
use Rattle.std.proofs.Common.{◌≡◌, ℕ, ◌+◌, ◌-◌, ◌≤◌, List, [], length, drop, Result, Ok, Err, refl, sym, ap, subst, ◌∙◌}
use Rattle.std.proofs.lemmas.List.{take-append-drop}
use Rattle.json_model.specs.declared.TheConstants.{MOST_DEEP}
use Rattle.json_model.specs.Spelled.{Document, IsText}
use Rattle.json_model.specs.Fronts.{IsNot, IsDeep}
use Rattle.json_spell.specs.declared.judging.Judgement.{Judgement}
use Rattle.json_spell.specs.declared.judging.Judgement.TheVariants as judgements
use Rattle.json_spell.specs.declared.tokens.Stop.{Stop}
use Rattle.json_spell.specs.declared.tokens.Stop.TheVariants as stops
use Rattle.json_spell.specs.Machine.{before, Verdict, verdict}
use Rattle.json_spell.specs.Places.{Judges}
use Rattle.json_spell.specs.Reading.{document_at}
use Rattle.json_spell.proofs.Simulation.{told, sim_document}
use Rattle.json_spell.proofs.Exact.{document_took, not_exact, deep_exact}

abbrev yes : Verdict
yes = Ok tt

abbrev no : Stop → Verdict
no s = Err s

read_of : {A : Type 0} (r : Result A Stop) → told r ≡ yes → (x : A) × (r ≡ Ok x)
read_of (Ok x) e = (x, refl)
read_of (Err s) e = cc

stop_of : {A : Type 0} (r : Result A Stop) (s : Stop) → told r ≡ no s → r ≡ Err s
stop_of (Ok x) s e = cc
stop_of (Err t) s e = let same : t ≡ s = cc in ap Err same

pub judged_json : (bytes : List ℕ) → verdict MOST_DEEP (before []) bytes ≡ yes → (d : Document) × IsText MOST_DEEP d bytes
judged_json bytes e =
    let d = read_of (document_at MOST_DEEP bytes) (sym (sim_document MOST_DEEP bytes) ∙ e) in
    (d.0, document_took MOST_DEEP bytes d.0 d.1)

pub judged_not : (bytes : List ℕ) (left : ℕ) → verdict MOST_DEEP (before []) bytes ≡ no (stops.Not left) → (left ≤ length bytes) × IsNot bytes (length bytes - left)
judged_not bytes left e = not_exact bytes left (stop_of (document_at MOST_DEEP bytes) (stops.Not left) (sym (sim_document MOST_DEEP bytes) ∙ e))

pub judged_deep : (bytes : List ℕ) (left : ℕ) → verdict MOST_DEEP (before []) bytes ≡ no (stops.Deep left) → (left ≤ length bytes) × IsDeep bytes (length bytes - left)
judged_deep bytes left e = deep_exact bytes left (stop_of (document_at MOST_DEEP bytes) (stops.Deep left) (sym (sim_document MOST_DEEP bytes) ∙ e))

-- a text is told to be one
pub told_json : (bytes : List ℕ) (j : Judgement) → Judges bytes j → (d : Document) → IsText MOST_DEEP d bytes → j ≡ judgements.Json
told_json bytes judgements.Json t d h = refl
told_json bytes (judgements.Not place) t d h = absurd (t.cut d h)
told_json bytes (judgements.Deep place) t d h = absurd (t.wrong (d, drop (place + 1) bytes, subst (λ (l : List ℕ). IsText MOST_DEEP d l) (sym (take-append-drop (place + 1) bytes)) h))
