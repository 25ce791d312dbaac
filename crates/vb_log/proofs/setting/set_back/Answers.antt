use Rattle.std.specs.Prelude.{reverse}
use Rattle.std.specs.FinMap as map
use Rattle.std.proofs.Common.{◌∙◌, subst, sym}
use Rattle.doc_model.specs.Keys.{key_cmp}
use Rattle.doc_model.specs.declared.document.Item.{Item}
use Rattle.vb_log.specs.Joining.{AreNoted}
use Rattle.vb_log.proofs.Together.{none_in, note_last}
use Rattle.vb_log.proofs.setting.set_back.Goals as goal

pub loop-key-init : goal.loop-key-init
loop-key-init c = (c.requires, λ before noted. noted)

pub put_back-requires : goal.put_back-requires
put_back-requires c =
    let noted = c.loop-key.invariant.0 in
    let last = note_last noted.0 c.loop-key.items c.loop-key.left.items c.pop.new.self.items (c.in-Some.key, c.in-Some.had) c.in-Some.ensures.items noted.1 in
    (last.0, last.2)

pub loop-key-preserved : goal.loop-key-preserved
loop-key-preserved c =
    let back : (before : map.FinMap key_cmp Item) → AreNoted before (reverse c.loop-key.left.items) c.loop-key.items → AreNoted before (reverse c.pop.new.self.items) c.put_back.new.items = λ before noted.
    (let last = note_last before c.loop-key.items c.loop-key.left.items c.pop.new.self.items (c.in-Some.key, c.in-Some.had) c.in-Some.ensures.items noted in
    subst (AreNoted before (reverse c.pop.new.self.items)) (sym (c.put_back.ensures last.0 last.2)) last.1) in
    let h = c.loop-key.invariant in
    ((h.0.0, back h.0.0 h.0.1), λ before noted. back before (h.1 before noted))

pub returns : goal.returns
returns c = λ before noted.
    subst (λ l. AreNoted before (reverse l) c.loop-key.items) (none_in c.loop-key.left.items (sym c.loop-key.left.ok.0 ∙ c.in_default.ensures.cases.0)) (c.loop-key.invariant.1 before noted)
