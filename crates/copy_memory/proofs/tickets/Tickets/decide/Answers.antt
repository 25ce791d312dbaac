use Rattle.std.specs.Prelude.{◌≡◌, true, Some, is_some}
use Rattle.std.specs.BTreeMap.{is_at}
use Rattle.std.specs.FinMap as map
use Rattle.std.proofs.Common.{rules, sym, ◌∙◌, ap}
use Rattle.std.proofs.lemmas.Map.Steps.{set_value_same}
use Rattle.copy_memory.specs.Tickets.{name_cmp}
use Rattle.copy_memory.specs.declared.tickets.KeptFate.TheVariants as kept
use Rattle.copy_memory.specs.declared.tickets.Tickets.TheInside.{Inside}
use Rattle.copy_memory.proofs.Names.{shown, one_given}
use Rattle.copy_memory.proofs.Deciding.{decided_now, decided_before, decided_none}
use Rattle.copy_memory.proofs.tickets.Tickets.decide.Goals as goal
use Rattle.copy_memory.proofs.tickets.Tickets.decide.Goals.{in-Some+then-eq, in-Some+else-eq, in_default}

pub returns : goal.returns
returns c =
    let es = c.self.inside.by_name.entries in
    let name = c.args.name.now in
    let seen = λ (i : Inside). shown i.by_name.entries in
    elim c.match-get_mut.branch [
      | in-Some+then-eq w ↦
          let h = c.get_mut.follows.holds c.args.fate in
          ap seen w.self-inside-is
          ∙ one_given es (c.get_mut.follows.lender c.args.fate).entries name c.args.fate (h.3 (ap is_some (sym w.in-Some.ensures.value))).0
          ∙ ap (λ m. map.insert m name c.args.fate) c.self.view_is
          ∙ decided_now es c.args.self.now name c.args.fate c.self.view_is (let waits : w.in-Some.kept.now ≡ kept.Waiting = search rules in sym w.in-Some.ensures.value ∙ ap (λ f. Some f) waits)
      | in-Some+else-eq w ↦
          let had = w.in-Some.kept.now in
          let h = c.get_mut.follows.holds had in
          let value = sym w.in-Some.ensures.value in
          ap seen w.self-inside-is ∙ ap shown (h.0 ∙ set_value_same (is_at (name_cmp name)) es had value)
          ∙ c.self.view_is
          ∙ decided_before es c.args.self.now name c.args.fate had (λ e. let told : w.eq.result ≡ true = search rules in cc (told, w.if-eq.false)) c.self.view_is value
      | in_default w ↦
          ap seen w.self-inside-is ∙ ap (λ m. shown m.entries) c.get_mut.follows.holds-at-none
          ∙ c.self.view_is ∙ decided_none es c.args.self.now name c.args.fate c.self.view_is (sym w.in_default.ensures.value)
    ]
