use Rattle.std.proofs.Common.{◌≡◌, ℕ, List, ◌++◌, ◌∷◌, [], take, ◌+◌, sym, ap, subst, ◌∙◌}
use Rattle.json_model.specs.declared.asked.Part.{Part}
use Rattle.json_model.specs.Edit.{names_of, key_text}
use Rattle.subdoc_edit.proofs.ParentsNames.{Named, no_names, named_more}
use Rattle.subdoc_edit.proofs.parents.put_names.Goals as goal

pub returns-in-At : goal.returns-in-At
returns-in-At c =
    no_names c.args.parts.now c.loop-part.part-index c.part-item.result c.loop-part-test.true c.part-item.is (ap (λ (q : Part). names_of (q ∷ [])) c.in-At.is)

pub returns-in-Last : goal.returns-in-Last
returns-in-Last c =
    no_names c.args.parts.now c.loop-part.part-index c.part-item.result c.loop-part-test.true c.part-item.is (ap (λ (q : Part). names_of (q ∷ [])) c.in-Last.is)

pub loop-part-preserved : goal.loop-part-preserved
loop-part-preserved c =
    let key : List ℕ = key_text c.as_slice.result.now in
    let put : c.push-in-Member.new.self.items ≡ ((c.loop-part.out.items ++ 0x7b ∷ []) ++ key) ++ 0x3a ∷ [] =
    c.in_ok-push-in-Member-2.ensures.items ∙ ap (λ (l : List ℕ). l ++ 0x3a ∷ []) (c.in_ok-put_key-in-Member.ensures ∙ ap (λ (l : List ℕ). l ++ key) c.in_ok-push-in-Member.ensures.items) in
    subst (λ (l : List ℕ). Named (take (c.loop-part.part-index + 1) c.args.parts.now) c.args.out.now.items l) (sym put)
    (named_more c.args.parts.now c.loop-part.part-index c.part-item.result c.in-Member.name c.args.out.now.items c.loop-part.out.items key c.loop-part-test.true c.part-item.is c.in-Member.is c.loop-part.invariant (ap key_text c.as_slice.ensures))
