-- The entry of a manifest that applies may be added, and takes the place of what it drops.
use Rattle.std.specs.Prelude.{◌≡◌, ◌≤◌, ℕ, is_some, true, List, Option, Some, None, Result, Ok, Err, refl, IsTrue, length}
use Rattle.std.specs.Result.{is_ok}
use Rattle.std.specs.Option.{option_map_or}
use Rattle.std.proofs.Common.{ap, sym, subst}
use Rattle.doc_model.specs.declared.limits.TheConstants.{MANIFEST_LIMIT}
use Rattle.doc_model.specs.declared.status.Status.{Status}
use Rattle.doc_model.specs.declared.status.TheConstants.Status as status
use Rattle.manifest_rules.specs.declared.applying.Dropped.{Dropped}
use Rattle.manifest_rules.specs.Applying.{text_step, Drops}
use Rattle.manifest_rules.specs.Catalog.{Catalog}
use Rattle.manifest_rules.specs.Form.{manifest_in}
use Rattle.manifest_rules.specs.Ids.{SameIds}
use Rattle.manifest_rules.specs.Rules.{Step, manifest_step}
use Rattle.vb_log.specs.declared.entry.Entry.TheVariants as entries
use Rattle.vb_log.specs.Content.{Content, allowed}
use Rattle.vb_log.specs.Spelling.{IsAllowed}
use Rattle.vb_core.specs.Making.{Covers}

-- a text that comes to a step
pub record IsStep (manifest : Catalog) (text : List ℕ) (dropped : Dropped) : Type 0 where
  pub step : Step
  pub is : text_step manifest text ≡ Ok step
  pub ids : step.dropped ≡ dropped.collections

of_result : (manifest : Catalog) (text : List ℕ) (dropped : Dropped) (r : Result Step Status) → text_step manifest text ≡ r
    → Drops r dropped → IsStep manifest text dropped
of_result manifest text dropped (Ok step) e d = record { step = step; is = e; ids = d.0 }
of_result manifest text dropped (Err why) e d = absurd d

pub drops_step : (manifest : Catalog) (text : List ℕ) (dropped : Dropped) → Drops (text_step manifest text) dropped
    → IsStep manifest text dropped
drops_step manifest text dropped d = of_result manifest text dropped (text_step manifest text) refl d

there : (manifest : Catalog) (found : Option Catalog) (step : Step)
    → option_map_or {U = Result Step Status} (λ new. manifest_step manifest new) found (Err status.EINVAL) ≡ Ok step
    → IsTrue (is_some found)
there manifest None step e = absurd (cc)
there manifest (Some new) step e = refl

pub text_allowed : (manifest : Catalog) (text : List ℕ) (dropped : Dropped) → IsStep manifest text dropped → length text ≤ MANIFEST_LIMIT
    → IsAllowed (entries.Manifest text)
text_allowed manifest text dropped h short = (short, there manifest (manifest_in text) h.step h.is)

pub text_added : (content : Content) (text : List ℕ) (dropped : Dropped) → IsStep content.manifest text dropped
    → allowed content (entries.Manifest text) ≡ true
text_added content text dropped h = ap (λ (r : Result Step Status). is_ok r) h.is

pub text_covers : (manifest : Catalog) (text : List ℕ) (dropped : Dropped) (ids : List ℕ) → IsStep manifest text dropped
    → SameIds ids dropped.collections → Covers manifest (entries.Manifest text) None ids
text_covers manifest text dropped ids h same = (refl, h.step, h.is, subst (λ (xs : List ℕ). SameIds ids xs) (sym h.ids) same)
