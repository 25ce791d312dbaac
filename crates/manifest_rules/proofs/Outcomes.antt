-- What a new manifest comes to, case by case.
use Rattle.std.proofs.Common.{◌≡◌, ℕ, ◌<◌, Bool, true, false, List, [], Option, Some, None, Result, Ok, Err, refl, sym, ap, ap₂, ◌∙◌, subst, arith, eq-eqb, ne_eqb, lt-ltb, if◌then◌else◌}
use Rattle.std.specs.Option.{option_map_or}
use Rattle.std.specs.Str.{IsUtf8, is_utf8}
use Rattle.std.proofs.lemmas.Bool.{le-ltb}
use Rattle.std.proofs.lemmas.Str.{IsUtf8-from_is_utf8, is_utf8-from_IsUtf8}
use Rattle.std.specs.Cmp.Lexicographic.{pointwise}
use Rattle.doc_model.specs.declared.status.Status.{Status}
use Rattle.doc_model.specs.declared.status.Refused.{Refused}
use Rattle.doc_model.specs.declared.status.Refused.TheVariants as refusals
use Rattle.doc_model.specs.declared.status.TheConstants.Status as status
use Rattle.manifest_rules.specs.declared.applying.Taken.{Taken}
use Rattle.manifest_rules.specs.declared.types.Scope.{Scope}
use Rattle.manifest_rules.specs.Catalog.{Catalog, collection_ids}
use Rattle.manifest_rules.specs.Form.{catalog_in, manifest_in, IsNoManifest}
use Rattle.manifest_rules.specs.Rules.{Step, same_scope, lost, succeeding, obeys, manifest_step, IsRefusedStep}
use Rattle.manifest_rules.specs.declared.reading.Parts.{Parts}
use Rattle.manifest_rules.specs.Parts.{made_of, AreReadFrom}
use Rattle.manifest_rules.specs.Applying.{text_step, bare, step_taken, ComesTo, taken_if}

-- what an equal uid and equal scopes come to, and what other scopes
abbrev pub at_equal : Catalog → Bool → Result Step Status
at_equal old same = if same then Ok (record { after = old; dropped = []; changed = false }) else Err status.CANNOT_APPLY_MANIFEST

-- what a greater uid comes to
abbrev pub at_greater : Catalog → Catalog → Bool → Result Step Status
at_greater old new holds =
    if holds
    then Ok (record { after = succeeding old new; dropped = lost (collection_ids old.scopes) (collection_ids new.scopes); changed = true })
    else Err status.CANNOT_APPLY_MANIFEST

pub smaller_step : (old new : Catalog) → new.uid < old.uid → manifest_step old new ≡ Err status.MANIFEST_IS_AHEAD
smaller_step old new h = rw (lt-ltb new.uid old.uid h) refl

pub equal_step : (old new : Catalog) → new.uid ≡ old.uid → manifest_step old new ≡ at_equal old (pointwise same_scope old.scopes new.scopes)
equal_step old new h = rw (le-ltb new.uid old.uid (omega arith), eq-eqb new.uid old.uid h) refl

pub greater_step : (old new : Catalog) → old.uid < new.uid → manifest_step old new ≡ at_greater old new (obeys old new)
greater_step old new h = rw (le-ltb new.uid old.uid (omega arith), ne_eqb new.uid old.uid (λ e. omega arith)) refl

taken_at : (old : Catalog) (uid : ℕ) (scopes : List Scope) (taken : Taken) (holds : Bool) → Some taken ≡ taken_if holds old scopes → at_greater old (bare uid scopes) holds ≡ Ok (step_taken old uid scopes (Some taken))
taken_at old uid scopes taken true h = ap (λ t. at_taken t) (sym h)
  where
    at_taken : Option Taken → Result Step Status
    at_taken None = Err status.CANNOT_APPLY_MANIFEST
    at_taken (Some t) = Ok (step_taken old uid scopes (Some t))
taken_at old uid scopes taken false h = absurd (cc)

refused_at : (old : Catalog) (uid : ℕ) (scopes : List Scope) (holds : Bool) → None ≡ taken_if holds old scopes → at_greater old (bare uid scopes) holds ≡ Err status.CANNOT_APPLY_MANIFEST
refused_at old uid scopes true h = absurd (cc)
refused_at old uid scopes false h = refl

pub taken : (old : Catalog) (uid : ℕ) (scopes : List Scope) (taken : Taken) → old.uid < uid → Some taken ≡ taken_if (obeys old (bare uid scopes)) old scopes → ComesTo old uid scopes (Some taken)
taken old uid scopes t h is = greater_step old (bare uid scopes) h ∙ taken_at old uid scopes t (obeys old (bare uid scopes)) is

pub refused : (old : Catalog) (uid : ℕ) (scopes : List Scope) → old.uid < uid → None ≡ taken_if (obeys old (bare uid scopes)) old scopes → manifest_step old (bare uid scopes) ≡ Err status.CANNOT_APPLY_MANIFEST
refused old uid scopes h is = greater_step old (bare uid scopes) h ∙ refused_at old uid scopes (obeys old (bare uid scopes)) is

-- ---- a manifest by its uid and scopes

pub by_parts : (old new : Catalog) (uid : ℕ) (scopes : List Scope) → uid ≡ new.uid → scopes ≡ new.scopes → manifest_step old new ≡ manifest_step old (bare uid scopes)
by_parts old new uid scopes e f = ap₂ (λ u ss. manifest_step old (bare u ss)) (sym e) (sym f)

-- ---- a manifest as a text

abbrev of_read : Catalog → Option Catalog → Result Step Status
of_read old o = option_map_or (λ new. manifest_step old new) o (Err status.EINVAL)

-- the manifest that was read from bytes
pub read_is : (text : List ℕ) (new : Catalog) → IsUtf8 text → catalog_in text ≡ Some new → manifest_in text ≡ Some new
read_is text new utf8 e = ap (λ b. if b then catalog_in text else None) (is_utf8-from_IsUtf8 text utf8) ∙ e

no_text : (text : List ℕ) (b : Bool) → is_utf8 text ≡ b → (IsUtf8 text → catalog_in text ≡ None) → (if b then catalog_in text else None) ≡ None
no_text text true e h = h (IsUtf8-from_is_utf8 text e)
no_text text false e h = refl

-- bytes that aren't a manifest are refused
pub not_read : (old : Catalog) (text : List ℕ) (refusing : Refused) → IsNoManifest text refusing → IsRefusedStep (text_step old text) refusing
not_read old text (refusals.Status s) h = ap (of_read old) (no_text text (is_utf8 text) refl h.1) ∙ ap (λ s. Err s) (sym h.0)
not_read old text refusals.NoMemory h = tt

-- the step over bytes is that over the manifest that they are
pub text_is : (old : Catalog) (text : List ℕ) (new : Catalog) → IsUtf8 text → catalog_in text ≡ Some new → text_step old text ≡ manifest_step old new
text_is old text new utf8 e = ap (of_read old) (read_is text new utf8 e)

-- the parts that were read come to what the text comes to
text_parts : (old : Catalog) (text : List ℕ) (parts : Parts) (uid : ℕ) (scopes given : List Scope) → AreReadFrom text parts → uid ≡ parts.uid → scopes ≡ parts.scopes → given ≡ scopes → text_step old text ≡ manifest_step old (bare uid given)
text_parts old text parts uid scopes given read e f g = text_is old text (made_of parts) read.utf8 read.whole ∙ ap₂ (λ u ss. manifest_step old (bare u ss)) (sym e) (sym (g ∙ f))

pub text_comes : (old : Catalog) (text : List ℕ) (parts : Parts) (uid : ℕ) (scopes given : List Scope) (o : Option Taken) → AreReadFrom text parts → uid ≡ parts.uid → scopes ≡ parts.scopes → given ≡ scopes → ComesTo old uid given o → text_step old text ≡ Ok (step_taken old uid scopes o)
text_comes old text parts uid scopes given o read e f g comes = text_parts old text parts uid scopes given read e f g ∙ comes ∙ ap (λ ss. Ok (step_taken old uid ss o)) g

pub text_refused : (old : Catalog) (text : List ℕ) (parts : Parts) (uid : ℕ) (scopes given : List Scope) (refusing : Refused) → AreReadFrom text parts → uid ≡ parts.uid → scopes ≡ parts.scopes → given ≡ scopes → IsRefusedStep (manifest_step old (bare uid given)) refusing → IsRefusedStep (text_step old text) refusing
text_refused old text parts uid scopes given refusing read e f g h =
    let P : Result Step Status → Type 0 = λ step. IsRefusedStep step refusing in
    subst P (sym (text_parts old text parts uid scopes given read e f g)) h

-- the same parts in other words
pub same_parts : (old : Catalog) (uid u : ℕ) (scopes ss : List Scope) (o : Option Taken) (t : Taken) → uid ≡ u → scopes ≡ ss → o ≡ Some t → ComesTo old uid scopes o → ComesTo old u ss (Some t)
same_parts old uid u scopes ss o t e f g h =
    ap₂ (λ n l. manifest_step old (bare n l)) (sym e) (sym f) ∙ h ∙ ap₂ (λ n l. Ok (step_taken old n l o)) e f ∙ ap (λ q. Ok (step_taken old u ss q)) g
