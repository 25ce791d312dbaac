use Rattle.std.specs.Prelude.{◌∷◌, [], ◌++◌, Option}
use Rattle.std.proofs.Common.{◌∙◌, ap, arith}
use Rattle.doc_model.specs.declared.key.DocKey.{DocKey}
use Rattle.doc_model.specs.declared.document.Item.{Item}
use Rattle.vb_log.specs.Joining.{Noted}
use Rattle.vb_log.proofs.Together.{note_more}
use Rattle.vb_log.proofs.setting.set.Goals as goal

pub returns-clause-noted : goal.returns-clause-noted
returns-clause-noted c = λ before noted.
    let note : DocKey × Option Item = (c.in_ok-key.key, c.in_ok-had.had) in
    let more = c.push_reserved.ensures.items ∙ ap (λ l. l ++ note ∷ []) c.in_ok-reserve.ensures.items in
    let one : Noted c.args.items.now c.put.new.self note = record {
      item = c.args.item;
      had = c.in_ok-had.ensures.before;
      set = c.in_ok-had.ensures.ok;
      stand = c.in_ok-had.ensures.stand;
      fits = omega (arith, c.requires);
    } in
    note_more before c.args.items.now c.put.new.self c.args.notes.now.items c.push_reserved.new.self.items note more one noted
