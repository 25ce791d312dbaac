use Rattle.std.proofs.Common.{◌≡◌, ℕ, List, ◌∷◌, Bool, Err, true, false, sym, ap, ◌∙◌}
use Rattle.json_model.specs.declared.TheConstants.{MOST_DEEP}
use Rattle.std.proofs.lemmas.Result.{err_from_is_err_and}
use Rattle.json_spell.specs.Machine.{before, naming, behind, again, verdict}
use Rattle.json_spell.specs.Turns.{shapes_in, state_at}
use Rattle.json_spell.proofs.Turned.{turns_stop, next_is, next_short}
use Rattle.json_spell.proofs.Values.{fine}
use Rattle.json_spell.proofs.judging.next_turn.Goals as goal
use Rattle.json_spell.proofs.judging.next_turn.Goals.{in-Object, in-Array}

pub returns-in_err-more : goal.returns-in_err-more
returns-in_err-more c =
    let p = err_from_is_err_and c.from_residual.result c.from_residual.ensures.1 in
    turns_stop (behind (shapes_in c.args.brackets)) c.args.bytes.now c.in_err-more.field-0.0 c.from_residual.result (p.1 ∙ ap Err p.2)
    (next_is c.args.shape (shapes_in c.args.brackets) (shapes_in c.args.outer) c.args.bytes.now c.skip_blanks.result.now (Err c.in_err-more.field-0.0) c.requires c.skip_blanks.ensures c.in_err-more.ensures)

pub returns-then-not-more : goal.returns-then-not-more
returns-then-not-more c =
    let end = ap (λ b. fine {A = Bool × List ℕ} (b, c.in_ok-more.rest.now)) (sym c.if-not-more.true) ∙ c.in_ok-more.ensures in (
      next_is c.args.shape (shapes_in c.args.brackets) (shapes_in c.args.outer) c.args.bytes.now c.skip_blanks.result.now (fine {A = Bool × List ℕ} (false, c.in_ok-more.rest.now)) c.requires c.skip_blanks.ensures end,
      next_short c.args.shape c.args.bytes.now c.skip_blanks.result.now false c.in_ok-more.rest.now c.skip_blanks.ensures end,
    )

pub returns : goal.returns
returns c =
    let end = ap (λ b. fine {A = Bool × List ℕ} (b, c.in_ok-more.rest.now)) (sym c.if-not-more.false) ∙ c.in_ok-more.ensures in
    let place : again c.args.shape (shapes_in c.args.outer) ≡ state_at c.match-shape.place (shapes_in c.args.brackets) =
    elim c.match-shape.branch [
      | in-Object w ↦ ap (λ s. again s (shapes_in c.args.outer)) w.in-Object.is ∙ sym (ap naming (c.requires ∙ ap (λ s. s ∷ shapes_in c.args.outer) w.in-Object.is)) ∙ sym (ap (λ p. state_at p (shapes_in c.args.brackets)) w.place-is)
      | in-Array w ↦ ap (λ s. again s (shapes_in c.args.outer)) w.in-Array.is ∙ sym (ap before (c.requires ∙ ap (λ s. s ∷ shapes_in c.args.outer) w.in-Array.is)) ∙ sym (ap (λ p. state_at p (shapes_in c.args.brackets)) w.place-is)
    ] in (
      next_is c.args.shape (shapes_in c.args.brackets) (shapes_in c.args.outer) c.args.bytes.now c.skip_blanks.result.now (fine {A = Bool × List ℕ} (true, c.in_ok-more.rest.now)) c.requires c.skip_blanks.ensures end
          ∙ ap (λ s. verdict MOST_DEEP s c.in_ok-more.rest.now) place,
      next_short c.args.shape c.args.bytes.now c.skip_blanks.result.now true c.in_ok-more.rest.now c.skip_blanks.ensures end,
    )
