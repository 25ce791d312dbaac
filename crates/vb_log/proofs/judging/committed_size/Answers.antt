use Rattle.std.specs.Prelude.{cond}
use Rattle.std.specs.FinMap as map
use Rattle.std.proofs.Common.{◌∙◌, ap, sym, arith}
use Rattle.vb_log.specs.declared.entry.Entry.TheVariants as entries
use Rattle.vb_log.specs.Content.{with_entry}
use Rattle.vb_log.specs.Sizes.{item_size, size}
use Rattle.vb_log.specs.Held.{pending_weight, pending_size}
use Rattle.vb_log.proofs.Holding.{commit_counts, no_commit_counts}
use Rattle.vb_log.proofs.judging.committed_size.Goals as goal

pub returns-then-has : goal.returns-then-has
returns-then-has c =
    let old = c.content.inside in
    let p = c.in-Some.change.now in
    let e = commit_counts (record { items = old.items; prepares = old.prepares; manifest = old.manifest; greatest_cas = old.greatest_cas; length = old.length }) c.args.of p c.size_at.result c.in-Some.ensures.value c.in-Some.ensures.rise
    (c.size_at.ensures.value ∙ sym (ap (λ b. cond b (item_size (map.get old.items p.key)) (pending_weight p)) (sym c.has.ensures ∙ c.if-has.true))) in
    let new = ap (λ d. size (with_entry d (entries.Commit c.args.of))) c.content.view_is in
    let whole = ap size c.content.view_is in
    omega arith

pub returns-else-has : goal.returns-else-has
returns-else-has c =
    let old = c.content.inside in
    let p = c.in-Some.change.now in
    let e = commit_counts (record { items = old.items; prepares = old.prepares; manifest = old.manifest; greatest_cas = old.greatest_cas; length = old.length }) c.args.of p c.size_at-else-has.result c.in-Some.ensures.value c.in-Some.ensures.rise
    (c.size_at-else-has.ensures.value ∙ sym (ap pending_size c.in-Some.ensures.value) ∙ sym (ap (λ b. cond b (item_size (map.get old.items p.key)) (pending_weight p)) (sym c.has.ensures ∙ c.if-has.false))) in
    let new = ap (λ d. size (with_entry d (entries.Commit c.args.of))) c.content.view_is in
    let whole = ap size c.content.view_is in
    omega arith

pub returns-in-None : goal.returns-in-None
returns-in-None c =
    let old = c.content.inside in
    let e = no_commit_counts (record { items = old.items; prepares = old.prepares; manifest = old.manifest; greatest_cas = old.greatest_cas; length = old.length }) c.args.of c.in-None.ensures.value in
    let new = ap (λ d. size (with_entry d (entries.Commit c.args.of))) c.content.view_is in
    let whole = ap size c.content.view_is in
    omega arith
