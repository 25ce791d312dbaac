use Rattle.std.specs.Prelude.{◌≡◌, Bool, false, ◌||◌}
use Rattle.std.specs.List.{list_any}
use Rattle.std.specs.Ordering.{eq_by_cmp}
use Rattle.std.proofs.Common.{◌∙◌, ap, sym}
use Rattle.std.proofs.lemmas.List.{take_all}
use Rattle.std.proofs.lemmas.List.Folds.{list_any_at, list_any_more}
use Rattle.doc_model.specs.Keys.{key_cmp}
use Rattle.doc_model.proofs.Slots.{same_tests}
use Rattle.vb_log.specs.declared.entry.Pending.{Pending}
use Rattle.vb_log.proofs.Prepared.{some_any}
use Rattle.vb_core.proofs.answering.waits.Goals as goal

pub returns-then-eq : goal.returns-then-eq
returns-then-eq c =
    let p = λ (p : Pending). eq_by_cmp key_cmp p.key c.args.key.now in
    sym (some_any p c.args.prepares.now
    ∙ list_any_at p c.args.prepares.now c.loop-change.change-index c.change-item.result c.loop-change-test.true
    (ap p (sym c.change-item.is) ∙ sym (same_tests c.change-item.result.key c.args.key.now) ∙ sym c.eq.ensures ∙ c.if-eq.true))

pub loop-change-preserved : goal.loop-change-preserved
loop-change-preserved c =
    let p = λ (p : Pending). eq_by_cmp key_cmp p.key c.args.key.now in
    let fails = ap p (sym c.change-item.is) ∙ sym (same_tests c.change-item.result.key c.args.key.now) ∙ sym c.eq.ensures ∙ c.if-eq.false in
    list_any_more p c.args.prepares.now c.loop-change.change-index c.change-item.result c.loop-change-test.true ∙ neither _ _ c.loop-change.invariant fails
  where
    neither : (a b : Bool) → a ≡ false → b ≡ false → (a || b) ≡ false
    neither a b e f = ap (λ x. x || b) e ∙ f

pub returns : goal.returns
returns c =
    let p = λ (p : Pending). eq_by_cmp key_cmp p.key c.args.key.now in
    sym (some_any p c.args.prepares.now ∙ sym (ap (list_any p) (take_all c.loop-change.change-index c.args.prepares.now c.loop-change-test.false)) ∙ c.loop-change.invariant)
