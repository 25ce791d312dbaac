use Rattle.std.proofs.Common.{ap, arith}
use Rattle.vb_log.specs.declared.entry.Entry.TheVariants as entries
use Rattle.vb_log.specs.Sizes.{size, size_after}
use Rattle.vb_log.proofs.Totals.{mutation_counts, deletion_counts}
use Rattle.vb_log.proofs.judging.size_after.Goals as goal

pub returns-in-Mutation : goal.returns-in-Mutation
returns-in-Mutation c =
    let old = c.content.inside in
    let e = mutation_counts (record { items = old.items; prepares = old.prepares; manifest = old.manifest; greatest_cas = old.greatest_cas; length = old.length }) c.in-Mutation.key c.in-Mutation.doc in
    let new = ap (λ d. size_after d (entries.Mutation c.in-Mutation.key c.in-Mutation.doc)) c.content.view_is in
    let whole = ap size c.content.view_is in
    let is = ap (size_after c.args.content.now) c.in-Mutation.is in
    let part = c.size_at.ensures.part in
    omega (arith, c.size-before.ensures, c.size_at.ensures.value, c.put_size.ensures)

pub returns-in-Deletion : goal.returns-in-Deletion
returns-in-Deletion c =
    let old = c.content.inside in
    let e = deletion_counts (record { items = old.items; prepares = old.prepares; manifest = old.manifest; greatest_cas = old.greatest_cas; length = old.length }) c.in-Deletion.key c.in-Deletion.cas in
    let new = ap (λ d. size_after d (entries.Deletion c.in-Deletion.key c.in-Deletion.cas)) c.content.view_is in
    let whole = ap size c.content.view_is in
    let is = ap (size_after c.args.content.now) c.in-Deletion.is in
    let part = c.size_at-in-Deletion.ensures.part in
    omega (arith, c.size-before.ensures, c.size_at-in-Deletion.ensures.value, c.remove_size.ensures)

pub returns-in-Abort : goal.returns-in-Abort
returns-in-Abort c =
    let whole = ap size c.content.view_is in
    let new = ap (λ d. size_after d (entries.Abort c.in-Abort.of)) c.content.view_is in
    let is = ap (size_after c.args.content.now) c.in-Abort.is in
    omega (arith, c.size-before.ensures, c.size_at-in-Abort.ensures.others)
