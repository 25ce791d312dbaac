use Rattle.std.specs.Option.{option_copied}
use Rattle.std.proofs.Common.{ap, arith}
use Rattle.vb_log.specs.Sizes.{size_after}
use Rattle.vb_core.specs.Shown.{ShownVb}
use Rattle.vb_core.proofs.Lasting.{grown_size, covered_is}
use Rattle.vb_core.proofs.vbucket.Vb.size_with.Goals as goal

pub returns-in-Some : goal.returns-in-Some
returns-in-Some g c = λ copy s.
    let vb = c.args.self.now in
    let e = c.args.entry.now in
    let key = option_copied c.args.key in
    let dropped = c.args.dropped.now in
    let all = grown_size vb.recent copy.log vb.showing vb.is_anew s.held.items e key dropped s.shows c.requires.covers in
    let covered = covered_is g.D.Disk.states vb copy e key dropped s c.requires.covers c.requires.allowed in
    let recent = ap (λ (v : ShownVb g.row.D.Denot). size_after v.recent e) c.self.view_is in
    let showing = ap (λ (v : ShownVb g.row.D.Denot). v.showing) c.self.view_is in
    omega (arith, c.in_ok-recent.ensures, c.in_ok-covered.ensures, c.saturating_sub.ensures, c.in-Some.ensures)
