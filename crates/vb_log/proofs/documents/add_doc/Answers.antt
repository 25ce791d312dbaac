use Rattle.std.proofs.Common.{◌++◌, ◌∷◌, [], ap, ◌∙◌}
use Rattle.vb_log.specs.Spelling.{sized}
use Rattle.vb_log.proofs.Pieces.{doc_added}
use Rattle.vb_log.proofs.documents.add_doc.Goals as goal

pub returns : goal.returns
returns c =
    doc_added c.args.doc.now c.args.out.now.items c.extend_from_slice.new.self.items c.extend_from_slice-2.new.self.items c.extend_from_slice-3.new.self.items c.push.new.self.items c.add_sized.new.out.items c.add_sized-2.new.out.items
    (c.in_ok-extend_from_slice.ensures.items ∙ ap (λ l. c.args.out.now.items ++ l) c.to_be_bytes.ensures)
    (c.in_ok-extend_from_slice-2.ensures.items ∙ ap (λ l. c.extend_from_slice.new.self.items ++ l) c.to_be_bytes-2.ensures)
    (c.in_ok-extend_from_slice-3.ensures.items ∙ ap (λ l. c.extend_from_slice-2.new.self.items ++ l) c.to_be_bytes-3.ensures)
    (c.in_ok-push.ensures.items ∙ ap (λ n. c.extend_from_slice-3.new.self.items ++ n ∷ []) c.from.ensures)
    (c.in_ok-add_sized.ensures ∙ ap (λ l. c.push.new.self.items ++ sized l) c.as_slice.ensures)
    (c.in_ok-add_sized-2.ensures ∙ ap (λ l. c.add_sized.new.out.items ++ sized l) c.as_slice-2.ensures)
