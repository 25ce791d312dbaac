use Rattle.std.specs.Option.{option_copied}
use Rattle.std.specs.FinMap as map
use Rattle.std.specs.Prelude.{Err, Ok, ◌-◌}
use Rattle.std.proofs.Common.{◌≡◌, true, sym, ◌∙◌, ap, subst}
use Rattle.magma_disk.specs.Counting.{Counts}
use Rattle.magma_store.specs.Counting.{CountsStore}
use Rattle.magma_store.specs.declared.fault.StoreFault.{StoreFault}
use Rattle.vb_log.specs.Content.{Content, allowed}
use Rattle.vb_core.specs.Covering.{covered_size, CanCount, grown}
use Rattle.vb_core.specs.Plans.{IsAtHome}
use Rattle.vb_core.specs.Making.{Covers, Makes}
use Rattle.vb_core.specs.Putting.{Puts}
use Rattle.vb_core.specs.Shown.{ShownVb}
use Rattle.vb_core.specs.declared.making.Made.TheVariants as made
use Rattle.vb_core.proofs.Lasting.{fit_grown}
use Rattle.vb_core.proofs.Changed.{allowed_alike, Emptied, emptied_after, emptied_covers, emptied_short, grown_is, all_behind, counts_anyhow, put_counts, adds_behind, refused_full, refused_failed}
use Rattle.vb_core.proofs.vbucket.Vb.put_and_make.Goals as goal

-- a content without its items
abbrev emptied : Content → Content
emptied x = record x { items = map.empty }

pub returns-in-Err-Full-clause-made : goal.returns-in-Err-Full-clause-made
returns-in-Err-Full-clause-made g c = λ copy cas l first.
    let D = g.row.D.Denot in
    let states = g.D.Disk.states in
    let counts = g.D.Disk.counts in
    let home = subst (λ (v : ShownVb D). IsAtHome v) c.self.view_is
    (record { chain = c.self.invariant.chain; place = c.self.invariant.place }) in
    let puts = subst (λ (f : StoreFault). Puts states counts copy c.args.self.now c.put_log.new.self (Err f)) c.in-Err-Full.field-0-is
    (c.in-Err-Full.ensures.puts copy l.stands) in
    refused_full states counts copy cas c.args.entry c.args.self.now c.put_log.new.self c.in-Err-Full.field-0-0 c.in-Err-Full.field-0-1 home l puts first

pub returns-in-Err-DiskFault-clause-made : goal.returns-in-Err-DiskFault-clause-made
returns-in-Err-DiskFault-clause-made g c = λ copy cas l first.
    let states = g.D.Disk.states in
    let counts = g.D.Disk.counts in
    let puts = subst (λ (f : StoreFault). Puts states counts copy c.args.self.now c.put_log.new.self (Err f)) c.in-Err-DiskFault.field-0-is
    (c.in-Err-DiskFault.ensures.puts copy l.stands) in
    refused_failed states counts copy cas c.args.entry c.args.self.now c.put_log.new.self puts first

pub invariant_of-self : goal.invariant_of-self
invariant_of-self g c =
    let D = g.row.D.Denot in
    let e = c.args.entry in
    let key = option_copied c.args.key in
    let dropped = c.args.dropped.now in
    let mid = c.self-2.inside in
    let then : Emptied c.args.self.now.recent c.in_ok-next.next mid.recent c.add_within.new.content e = record {
      made = c.in_ok-next.ensures ∙ ap (λ (v : ShownVb D). emptied v.recent) c.self.view_is;
      added = c.in_ok-add_within.ensures.ok;
      left = ap (λ (v : ShownVb D). v.recent) c.self-2.view_is ∙ c.in-Ok.ensures.recent;
    } in
    fit_grown mid.store.meta mid.core mid.recent c.add_within.new.content mid.seen c.length-self-inside.result e key dropped
    c.self-2.invariant c.requires.entry (emptied_covers key dropped then c.requires.covers)
    (emptied_short then c.in_ok-add_within.ensures.room)
    c.length-self-inside.ensures (emptied_after then)

pub returns-clause-made : goal.returns-clause-made
returns-clause-made g c = λ copy cas l first.
    let D = g.row.D.Denot in
    let states = g.D.Disk.states in
    let counts = g.D.Disk.counts in
    let e = c.args.entry in
    let key = option_copied c.args.key in
    let dropped = c.args.dropped.now in
    let old : ShownVb D = c.args.self.now in
    let mid : ShownVb D = c.put_log.new.self in
    let new : ShownVb D = c.count.new.self in
    let puts : Puts states counts copy old mid (Ok tt) = c.in-Ok.ensures.puts copy l.stands in
    let i = c.self-2.inside in
    let seen : ShownVb D = record {
      store = i.store;
      core = i.core;
      number = i.number;
      recent = i.recent;
      showing = i.showing;
      is_anew = i.is_anew;
      seen = i.seen;
      inherited = i.inherited;
      unflushed_entries = i.unflushed_entries;
      unflushed_bytes = i.unflushed_bytes;
    } in
    let view : seen ≡ mid = c.self-2.view_is in
    let then : Emptied old.recent c.in_ok-next.next seen.recent c.add_within.new.content e = record {
      made = c.in_ok-next.ensures ∙ ap (λ (v : ShownVb D). emptied v.recent) c.self.view_is;
      added = c.in_ok-add_within.ensures.ok;
      left = ap (λ (v : ShownVb D). v.recent) view ∙ c.in-Ok.ensures.recent;
    } in
    let may : CanCount seen = subst (λ (v : ShownVb D). CanCount v) (sym view) (put_counts states copy old mid tt counts puts) in
    let none : mid.recent.items ≡ map.empty = ap (λ (x : Content). x.items) c.in-Ok.ensures.recent in
    let less : c.saturating_sub-self-inside.result ≡ seen.showing - covered_size seen key dropped =
    c.saturating_sub-self-inside.ensures ∙ ap (λ n. seen.showing - n) (c.on_disk-covered.ensures ∙ all_behind mid key dropped c.in-Ok.ensures.anew none
    ∙ ap (λ (v : ShownVb D). covered_size v key dropped) (sym view)) in
    let is : new ≡ grown e key dropped mid =
    c.count.ensures.counted (record { entries = may.entries; bytes = may.bytes }) c.spelt_length-bytes.ensures.fits
    ∙ grown_is seen c.add_within.new.content c.saturating_sub-self-inside.result c.length-self-inside.result c.spelt_length-bytes.result e key dropped
    c.length-self-inside.ensures (emptied_after then) less c.spelt_length-bytes.ensures.value
    ∙ ap (λ (v : ShownVb D). grown e key dropped v) view in
    let covered = subst (λ (v : ShownVb D). Covers v.recent.manifest e key dropped) view
    (emptied_covers key dropped then c.requires.covers) in
    let can : allowed mid.recent e ≡ true = ap (λ (x : Content). allowed x e) c.in-Ok.ensures.recent ∙ sym (allowed_alike old.recent map.empty e) ∙ c.requires.allowed in
    subst (λ (v : ShownVb D). Makes states counts copy cas e old v made.Done) (sym is)
    (adds_behind states counts copy cas e key dropped old mid tt l puts covered c.requires.entry can first)

pub returns-clause-counts : goal.returns-clause-counts
returns-clause-counts g c =
    let D = g.row.D.Denot in
    let counts = g.D.Disk.counts in
    let old : ShownVb D = c.args.self.now in
    let mid : ShownVb D = c.put_log.new.self in
    let new : ShownVb D = c.count.new.self in
    let rest : counts new.store.disk ≡ counts mid.store.disk = ap (λ (v : ShownVb D). counts v.store.disk) c.count.ensures.stays
    ∙ ap (λ (v : ShownVb D). counts v.store.disk) c.self-2.view_is in
    subst (λ (k : Counts). CountsStore ⊥ (counts old.store.disk) k) (sym rest)
    (counts_anyhow _ (counts old.store.disk) (counts mid.store.disk) c.put_log.ensures.counts)
