use Rattle.std.proofs.Common.{◌++◌, ◌∷◌, [], sym, ap, ◌∙◌, append_assoc}
use Rattle.vb_log.specs.Spelling.{doc_bytes, what_bytes}
use Rattle.vb_log.proofs.documents.add_what.Goals as goal

pub returns-in_ok-add_doc-in-Put : goal.returns-in_ok-add_doc-in-Put
returns-in_ok-add_doc-in-Put c =
    let old = c.args.out.now.items in
    let doc = c.in-Put.doc in
    c.in_ok-add_doc-in-Put.ensures ∙ ap (λ l. l ++ doc_bytes doc) c.in_ok-push-in-Put.ensures.items
    ∙ append_assoc old (1 ∷ []) (doc_bytes doc) ∙ ap (λ w. old ++ what_bytes w) (sym c.in-Put.is)
