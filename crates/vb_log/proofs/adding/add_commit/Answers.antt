use Rattle.std.specs.Prelude.{is_some}
use Rattle.std.proofs.Common.{subst, sym}
use Rattle.vb_log.specs.declared.entry.Entry.TheVariants as entries
use Rattle.vb_log.specs.Adding.{HasRoom}
use Rattle.vb_log.specs.Content.{prepare_at, with_entry}
use Rattle.vb_log.proofs.Holding.{found, commit_held}
use Rattle.vb_log.proofs.adding.add_commit.Goals as goal

pub invariant_of-content-2 : goal.invariant_of-content-2
invariant_of-content-2 c =
    let old = c.content.inside in
    let of = c.args.of in
    commit_held (record { items = old.items; prepares = old.prepares; manifest = old.manifest; greatest_cas = old.greatest_cas; length = old.length }) of c.make.new.items c.make.new.prepares c.content.invariant
    (subst (λ d. HasRoom (is_some (prepare_at d.prepares of)) d (with_entry d (entries.Commit of))) (sym c.content.view_is) c.requires)
    (found c.find.result (prepare_at old.prepares of) c.is_none.result c.find.ensures.value c.is_none.ensures c.if-is_none.false) c.in_ok-make.ensures.items c.in_ok-make.ensures.prepares
