use Rattle.std.proofs.Common.{◌≡◌, ◌∷◌, [], ◌++◌, ◌<◌, length, sym, ap, subst, arith}
use Rattle.std.proofs.lemmas.List.{length-append}
use Rattle.std.specs.Prelude.{None}
use Rattle.doc_model.specs.declared.key.DocKey.{DocKey}
use Rattle.vb_log.specs.Contents.{items_layout, all_items_layout, item_layout, last_key, ItemAt}
use Rattle.vb_log.specs.Faults.{IsBroken}
use Rattle.vb_log.specs.Layout.{Layout}
use Rattle.vb_log.proofs.Pieces.{handed}
use Rattle.vb_log.proofs.ItemBytes.{ItemsRead, items_step, items_broken, items_all}
use Rattle.vb_log.proofs.spelt_items.items_at.Goals as goal

pub returns-in_err-count-clause-broken : goal.returns-in_err-count-clause-broken
returns-in_err-count-clause-broken c =
    λ next. handed c.from_residual.result c.in_err-count.field-0.0 (IsBroken (items_layout c.args.manifest.now c.args.bounds next) c.args.bytes.now) c.from_residual.ensures.1
    (c.in_err-count.ensures.broken (λ count. all_items_layout c.args.manifest.now c.args.bounds count None next))

pub returns-in_err-item-clause-broken : goal.returns-in_err-item-clause-broken
returns-in_err-item-clause-broken c =
    let less : length c.loop.items < c.in_ok-count.count = omega (arith, c.loop.invariant.counted, c.loop-test.true) in
    let broken : (next : DocKey → Layout) → IsBroken (item_layout c.args.manifest.now c.args.bounds (last_key c.loop.items) next) c.loop.left.now c.in_err-item.field-0.0 =
    subst (λ l. (next : DocKey → Layout) → IsBroken (item_layout c.args.manifest.now c.args.bounds (last_key l) next) c.loop.left.now c.in_err-item.field-0.0) c.as_slice.ensures c.in_err-item.ensures.broken in
    λ next. handed c.from_residual-in_err-item.result c.in_err-item.field-0.0 (IsBroken (items_layout c.args.manifest.now c.args.bounds next) c.args.bytes.now) c.from_residual-in_err-item.ensures.1
    (items_broken c.args.manifest.now c.args.bounds c.args.bytes.now c.in_ok-count.count c.loop.items c.loop.left.now c.in_err-item.field-0.0 c.loop.invariant.read less broken next)

pub loop-preserved : goal.loop-preserved
loop-preserved c =
    let less : length c.loop.items < c.in_ok-count.count = omega (arith, c.loop.invariant.counted, c.loop-test.true) in
    let i = c.in_ok-item.item in
    let pushed : c.push.new.self ≡ c.loop.items ++ i ∷ [] = c.in_ok-push.ensures.ok in
    let found : ItemAt c.args.manifest.now c.args.bounds (last_key c.loop.items) c.loop.left.now i c.in_ok-item.behind.now =
    subst (λ l. ItemAt c.args.manifest.now c.args.bounds (last_key l) c.loop.left.now i c.in_ok-item.behind.now) c.as_slice.ensures c.in_ok-item.ensures.found in
    record {
      read = subst (λ l. ItemsRead c.args.manifest.now c.args.bounds c.args.bytes.now c.in_ok-count.count l c.in_ok-item.behind.now) (sym pushed)
          (items_step c.args.manifest.now c.args.bounds c.args.bytes.now c.in_ok-count.count c.loop.items c.loop.left.now i c.in_ok-item.behind.now c.requires c.loop.invariant.read less found);
      counted = omega (arith, ap length pushed, length-append c.loop.items (i ∷ []), c.loop.invariant.counted);
    }

pub returns-clause-found : goal.returns-clause-found
returns-clause-found c =
    let all : length c.loop.items ≡ c.in_ok-count.count = omega (arith, c.loop.invariant.counted, c.loop-test.false) in
    items_all c.args.manifest.now c.args.bounds c.args.bytes.now c.in_ok-count.count c.loop.items c.loop.left.now c.loop.invariant.read all
