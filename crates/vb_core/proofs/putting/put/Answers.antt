use Rattle.std.proofs.Common.{◌≡◌, ◌<◌, ◌^◌, List, length, sym, ap, subst, arith, Bor}
use Rattle.std.proofs.lemmas.List.{length-map}
use Rattle.doc_model.specs.declared.document.Item.{Item}
use Rattle.magma_store.specs.Store.{IsBatch}
use Rattle.vb_core.specs.Noting.{IsBatchOf}
use Rattle.vb_core.proofs.Downs.{shown, IsReady, batch_of, Wrote, puts_down}
use Rattle.vb_core.proofs.putting.put.Goals as goal

pub write-requires-clause-batch : goal.write-requires-clause-batch
write-requires-clause-batch g c =
    let recent = c.args.recent.now in
    let all : List Item = shown c.in_ok-items.items.items in
    let few : length all < 2 ^ 32 = omega (arith, length-map c.in_ok-items.items.items (λ (i : Bor Item). i.now), c.len.ensures) in
    let ready : IsReady recent c.args.meta = record { kept = c.requires.kept; tail = c.requires.tail; short = c.requires.short; numbers = c.requires.numbers; items = c.requires.items } in (
      recent.manifest,
      subst (λ l. IsBatch recent.manifest (shown l) c.args.meta) (sym c.as_slice.ensures.value)
          (batch_of recent c.args.meta all ready c.in_ok-items.ensures.items c.in_ok-items.ensures.stand c.in_ok-items.ensures.present few).is,
    )

pub returns-clause-puts : goal.returns-clause-puts
returns-clause-puts g c =
    let states = g.D.Disk.states in
    let recent = c.args.recent.now in
    let all : List Item = shown c.in_ok-items.items.items in
    let batch : List Item = shown c.as_slice.result.now in
    let same : batch ≡ all = ap shown c.as_slice.ensures.value in
    let few : length all < 2 ^ 32 = omega (arith, length-map c.in_ok-items.items.items (λ (i : Bor Item). i.now), c.len.ensures) in
    let ready : IsReady recent c.args.meta = record { kept = c.requires.kept; tail = c.requires.tail; short = c.requires.short; numbers = c.requires.numbers; items = c.requires.items } in
    let of : IsBatchOf recent c.args.meta batch =
    subst (IsBatchOf recent c.args.meta) (sym same) (batch_of recent c.args.meta all ready c.in_ok-items.ensures.items c.in_ok-items.ensures.stand c.in_ok-items.ensures.present few) in
    let r = c.write.result in
    let e = c.write.ensures in
    let wrote : Wrote states c.args.is_anew recent c.args.meta batch c.args.store.now c.write.new.self r =
    record { any_moment = e.any_moment; done = e.done; layout = e.layout; room = e.room; refused = e.refused } in
    puts_down states c.args.is_anew recent c.args.meta batch c.args.store.now c.write.new.self r wrote of
