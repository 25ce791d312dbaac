use Rattle.std.proofs.Common.{◌≡◌, ◌∷◌, [], ◌++◌, ◌<◌, length, sym, ap, ◌∙◌, subst, arith}
use Rattle.std.proofs.lemmas.List.{length-append}
use Rattle.magma_store.specs.Forms.{names_form, IsBroken}
use Rattle.magma_store.proofs.Leads.{handed}
use Rattle.magma_store.proofs.Parts.{NamesRead, first_broken, names_begin, names_step, names_broken, names_all}
use Rattle.magma_store.proofs.reading.names_at.Goals as goal

pub returns-in_err-first-clause-broken : goal.returns-in_err-first-clause-broken
returns-in_err-first-clause-broken c =
    λ next. handed c.from_residual.result c.in_err-first.field-0.0 (IsBroken (names_form 1 c.args.count next) c.args.bytes.now) c.from_residual.ensures.1
    (first_broken c.args.count c.args.bytes.now c.in_err-first.field-0.0 c.requires c.in_err-first.ensures.broken next)

pub returns-in_err-name-clause-broken : goal.returns-in_err-name-clause-broken
returns-in_err-name-clause-broken c =
    let less : length c.loop.names < c.args.count = omega (arith, c.loop.invariant.counted, c.loop-test.true) in
    λ next. handed c.from_residual-in_err-name.result c.in_err-name.field-0.0 (IsBroken (names_form 1 c.args.count next) c.args.bytes.now) c.from_residual-in_err-name.ensures.1
    (names_broken c.args.count c.args.bytes.now c.loop.names c.loop.left.now c.in_err-name.field-0.0 c.loop.invariant.read less c.in_err-name.ensures.broken next)

pub loop-init : goal.loop-init
loop-init c =
    let first = c.in_ok-first.first in
    let pushed : c.push.new.self ≡ first ∷ [] = c.in_ok-push.ensures.ok ∙ ap (λ l. l ++ first ∷ []) c.new-names.ensures in
    record {
      read = subst (λ l. NamesRead c.args.count c.args.bytes.now l c.in_ok-first.behind.now) (sym pushed) (names_begin c.args.count c.args.bytes.now first c.in_ok-first.behind.now c.requires c.in_ok-first.ensures.found);
      counted = omega (arith, ap length pushed);
    }

pub loop-preserved : goal.loop-preserved
loop-preserved c =
    let less : length c.loop.names < c.args.count = omega (arith, c.loop.invariant.counted, c.loop-test.true) in
    let name = c.in_ok-name.name in
    let pushed : c.push-in-loop.new.self ≡ c.loop.names ++ name ∷ [] = c.in_ok-push-2.ensures.ok in
    record {
      read = subst (λ l. NamesRead c.args.count c.args.bytes.now l c.in_ok-name.rest.now) (sym pushed)
          (names_step c.args.count c.args.bytes.now c.loop.names c.loop.left.now name c.in_ok-name.rest.now c.loop.invariant.read less c.in_ok-name.ensures.found);
      counted = omega (arith, ap length pushed, length-append c.loop.names (name ∷ []), c.loop.invariant.counted);
    }

pub returns-clause-found : goal.returns-clause-found
returns-clause-found c =
    let all : length c.loop.names ≡ c.args.count = omega (arith, c.loop.invariant.counted, c.loop-test.false) in
    names_all c.args.count c.args.bytes.now c.loop.names c.loop.left.now c.loop.invariant.read all
