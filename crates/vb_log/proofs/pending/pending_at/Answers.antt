use Rattle.std.proofs.Common.{◌≡◌, ◌∷◌, [], ◌++◌, ◌<◌, length, sym, ap, subst, arith}
use Rattle.std.proofs.lemmas.List.{length-append}
use Rattle.vb_log.specs.Faults.{IsBroken}
use Rattle.vb_log.specs.Prepares.{pending_layout, all_waiting_layout}
use Rattle.vb_log.proofs.Pieces.{handed}
use Rattle.vb_log.proofs.PendingBytes.{PendingRead, pending_step, pending_broken, pending_all}
use Rattle.vb_log.proofs.pending.pending_at.Goals as goal

pub returns-in_err-count-clause-broken : goal.returns-in_err-count-clause-broken
returns-in_err-count-clause-broken c =
    λ next. handed c.from_residual.result c.in_err-count.field-0.0 (IsBroken (pending_layout c.args.bounds next) c.args.bytes.now) c.from_residual.ensures.1
    (c.in_err-count.ensures.broken (λ count. all_waiting_layout c.args.bounds count 0 next))

pub returns-in_err-prepare-clause-broken : goal.returns-in_err-prepare-clause-broken
returns-in_err-prepare-clause-broken c =
    let less : length c.loop.prepares < c.in_ok-count.count = omega (arith, c.loop.invariant.counted, c.loop-test.true) in
    λ next. handed c.from_residual-in_err-prepare.result c.in_err-prepare.field-0.0 (IsBroken (pending_layout c.args.bounds next) c.args.bytes.now) c.from_residual-in_err-prepare.ensures.1
    (pending_broken c.args.bounds c.args.bytes.now c.in_ok-count.count c.loop.prepares c.loop.before c.loop.left.now c.in_err-prepare.field-0.0 c.loop.invariant.read less c.in_err-prepare.ensures.broken next)

pub loop-preserved : goal.loop-preserved
loop-preserved c =
    let less : length c.loop.prepares < c.in_ok-count.count = omega (arith, c.loop.invariant.counted, c.loop-test.true) in
    let p = c.in_ok-prepare.prepare in
    let pushed : c.push.new.self ≡ c.loop.prepares ++ p ∷ [] = c.in_ok-push.ensures.ok in
    record {
      read = subst (λ l. PendingRead c.args.bounds c.args.bytes.now c.in_ok-count.count l p.position c.in_ok-prepare.behind.now) (sym pushed)
          (pending_step c.args.bounds c.args.bytes.now c.in_ok-count.count c.loop.prepares c.loop.before c.loop.left.now p c.in_ok-prepare.behind.now c.requires c.loop.invariant.read less c.in_ok-prepare.ensures.found);
      counted = omega (arith, ap length pushed, length-append c.loop.prepares (p ∷ []), c.loop.invariant.counted);
    }

pub returns-clause-found : goal.returns-clause-found
returns-clause-found c =
    let all : length c.loop.prepares ≡ c.in_ok-count.count = omega (arith, c.loop.invariant.counted, c.loop-test.false) in
    pending_all c.args.bounds c.args.bytes.now c.in_ok-count.count c.loop.prepares c.loop.before c.loop.left.now c.loop.invariant.read all
