-- What was read is what the log has.
use Rattle.std.specs.Prelude.{◌≡◌, is_some}
use Rattle.std.specs.FinMap as map
use Rattle.std.proofs.Common.{◌∙◌, ap, sym, subst, false, true}
use Rattle.magma_store.specs.Store.{IsOpen}
use Rattle.vb_core.specs.Means.{over}
use Rattle.vb_core.specs.Shown.{ShownVb}
use Rattle.vb_core.proofs.Beneath.{some_copied, read_anew, read_changed, read_held}
use Rattle.vb_core.proofs.vbucket.Vb.read.Goals as goal
use Rattle.vb_core.proofs.vbucket.Vb.read.Goals.{then-self-via-then-self, then-self-via-else-self+then-is_some, in-Ok, in-Err-DiskFault, in-Err}

pub returns-then-self-clause-found : goal.returns-then-self-clause-found
returns-then-self-clause-found g c = λ copy s.
    let vb = c.args.self.now in
    let key = c.args.key.now in
    elim c.then-self.branch [
      | then-self-via-then-self w ↦
          read_anew g.D.Disk.states vb copy s key (ap (λ (v : ShownVb g.row.D.Denot). v.is_anew) (sym c.self.view_is) ∙ w.if-self.true)
      | then-self-via-else-self+then-is_some w ↦
          read_changed g.D.Disk.states vb copy s key
          (ap (λ (v : ShownVb g.row.D.Denot). is_some (map.get v.recent.items key)) (sym c.self.view_is)
          ∙ some_copied w.item.result _ true w.item.ensures (sym w.is_some.ensures ∙ w.if-is_some.true))
    ]

pub returns-clause-found : goal.returns-clause-found
returns-clause-found g c = λ copy s.
    let vb = c.args.self.now in
    let key = c.args.key.now in
    let none : is_some (map.get vb.recent.items key) ≡ false =
    ap (λ (v : ShownVb g.row.D.Denot). is_some (map.get v.recent.items key)) (sym c.self.view_is)
    ∙ some_copied c.item.result _ false c.item.ensures (sym c.is_some.ensures ∙ c.if-is_some.false) in
    let anew : vb.is_anew ≡ false = ap (λ (v : ShownVb g.row.D.Denot). v.is_anew) (sym c.self.view_is) ∙ c.if-self.false in
    let is_open : IsOpen g.D.Disk.states s.held c.self.inside.store = subst
    (λ (v : ShownVb g.row.D.Denot). IsOpen g.D.Disk.states s.held v.store) (sym c.self.view_is) s.is_open in
    let held = read_held g.D.Disk.states vb copy s key c.requires.there anew none in
    elim c.match-get.branch [
      | in-Ok w ↦ rw w.result-is (ap (over (map.get vb.recent.items key)) (w.in-Ok.ensures.found s.held is_open) ∙ held)
      | in-Err-DiskFault w ↦ rw w.result-is tt
      | in-Err w ↦ rw w.result-is tt
    ]
