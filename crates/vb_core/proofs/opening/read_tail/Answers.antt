use Rattle.std.proofs.Common.{sym, ◌∙◌, inr, subst}
use Rattle.manifest_rules.specs.State.{IsNoState}
use Rattle.vb_log.specs.Faults.{IsNoPending}
use Rattle.vb_core.proofs.Tails.{not_nil, state_bad, pending_bad, pending_more, tail_found}
use Rattle.vb_core.proofs.opening.read_tail.Goals as goal

pub returns-in-Err-Bad : goal.returns-in-Err-Bad
returns-in-Err-Bad c = (not_nil c.args.tail.now (sym c.is_empty.ensures ∙ c.if-is_empty.false), state_bad c.args.tail.now (subst (IsNoState c.args.tail.now) c.in-Err-Bad.field-0-is c.in-Err-Bad.ensures.none).1)

pub returns-then-used-rest : goal.returns-then-used-rest
returns-then-used-rest c = (
  not_nil c.args.tail.now (sym c.is_empty.ensures ∙ c.if-is_empty.false),
  pending_more c.args.tail.now c.split_at.result.1.now c.in-Ok.found.0 c.in-Ok.found.1 c.in-Ok-read_pending.used c.in-Ok-read_pending.prepares c.in-Ok.ensures.found c.split_at.ensures.back c.in-Ok-read_pending.ensures.only c.if-used-rest.true,
)

pub returns-in-Ok-read_pending : goal.returns-in-Ok-read_pending
returns-in-Ok-read_pending c =
    inr (tail_found c.args.tail.now c.split_at.result.1.now c.in-Ok.found.0 c.in-Ok.found.1 c.in-Ok-read_pending.used c.in-Ok-read_pending.prepares c.in-Ok.ensures.found c.split_at.ensures.back c.in-Ok-read_pending.ensures.found c.if-used-rest.false)

pub returns-in-Err-Bad-read_pending : goal.returns-in-Err-Bad-read_pending
returns-in-Err-Bad-read_pending c = (
  not_nil c.args.tail.now (sym c.is_empty.ensures ∙ c.if-is_empty.false),
  pending_bad c.args.tail.now c.split_at.result.1.now c.in-Ok.found.0 c.in-Ok.found.1 c.in-Ok.ensures.found c.split_at.ensures.back
      (subst (IsNoPending c.split_at.result.1.now) c.in-Err-Bad-read_pending.field-0-is c.in-Err-Bad-read_pending.ensures.broken).1,
)
