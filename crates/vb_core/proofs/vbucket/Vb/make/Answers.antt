use Rattle.std.specs.Option.{option_copied}
use Rattle.std.proofs.Common.{sym, ◌∙◌, ap, subst}
use Rattle.vb_core.specs.Making.{Makes}
use Rattle.vb_core.specs.Plans.{IsAtHome}
use Rattle.vb_core.specs.Shown.{ShownVb}
use Rattle.vb_core.specs.declared.making.Made.TheVariants as made
use Rattle.vb_core.proofs.Changed.{large_is, first_is, adds_at_once, refused_large}
use Rattle.vb_core.proofs.vbucket.Vb.make.Goals as goal

pub returns-then-is_too_much-clause-made : goal.returns-then-is_too_much-clause-made
returns-then-is_too_much-clause-made g c = λ copy l size.
    let D = g.row.D.Denot in
    let states = g.D.Disk.states in
    let vb = c.args.self.now in
    let e = c.args.entry in
    let home = subst (λ (v : ShownVb D). IsAtHome v) c.self.view_is
    (record { chain = c.self.invariant.chain; place = c.self.invariant.place }) in
    let length = c.length.ensures ∙ ap (λ (v : ShownVb D). v.recent.length) c.self.view_is in
    let large = large_is states vb copy c.args.cas c.args.size c.length.result e c.is_too_much.result _ l size length c.is_too_much.ensures c.if-is_too_much.true in
    refused_large states g.D.Disk.counts copy c.args.cas e vb home l large

pub returns-then-must_flush-clause-made : goal.returns-then-must_flush-clause-made
returns-then-must_flush-clause-made g c = λ copy l size.
    let D = g.row.D.Denot in
    let states = g.D.Disk.states in
    let vb = c.args.self.now in
    let i = c.self.inside in
    let e = c.args.entry in
    let length = c.length.ensures ∙ ap (λ (v : ShownVb D). v.recent.length) c.self.view_is in
    let entries = ap (λ (v : ShownVb D). v.unflushed_entries) c.self.view_is in
    let bytes = ap (λ (v : ShownVb D). v.unflushed_bytes) c.self.view_is in
    c.put_and_make.ensures.made copy c.args.cas l (record {
      small = large_is states vb copy c.args.cas c.args.size c.length.result e c.is_too_much.result _ l size length c.is_too_much.ensures c.if-is_too_much.false;
      first = first_is states vb copy i.unflushed_entries i.unflushed_bytes c.must_flush.result _ l entries bytes c.must_flush.ensures c.if-must_flush.true;
    })

pub returns-clause-made : goal.returns-clause-made
returns-clause-made g c = λ copy l size.
    let D = g.row.D.Denot in
    let states = g.D.Disk.states in
    let counts = g.D.Disk.counts in
    let vb = c.args.self.now in
    let i = c.self.inside in
    let e = c.args.entry in
    let home = subst (λ (v : ShownVb D). IsAtHome v) c.self.view_is
    (record { chain = c.self.invariant.chain; place = c.self.invariant.place }) in
    let length = c.length.ensures ∙ ap (λ (v : ShownVb D). v.recent.length) c.self.view_is in
    let entries = ap (λ (v : ShownVb D). v.unflushed_entries) c.self.view_is in
    let bytes = ap (λ (v : ShownVb D). v.unflushed_bytes) c.self.view_is in
    let small = large_is states vb copy c.args.cas c.args.size c.length.result e c.is_too_much.result _ l size length c.is_too_much.ensures c.if-is_too_much.false in
    let later = first_is states vb copy i.unflushed_entries i.unflushed_bytes c.must_flush.result _ l entries bytes c.must_flush.ensures c.if-must_flush.false in
    subst (λ (v : ShownVb D). Makes states counts copy c.args.cas e vb v made.Done) (sym c.in_ok-add_now.ensures.ok)
    (adds_at_once states counts copy c.args.cas e (option_copied c.args.key) c.args.dropped.now vb home l c.requires.covers c.requires.entry c.requires.allowed small later)
