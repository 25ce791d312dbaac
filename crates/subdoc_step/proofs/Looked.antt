-- A look-up as a function answers what the definition has.
use Rattle.std.proofs.Common.{◌≡◌, ℕ, List, Result, ◌∙◌, ap, refl}
use Rattle.doc_model.specs.declared.status.Status.{Status}
use Rattle.json_model.specs.declared.asked.Lookup.{Lookup}
use Rattle.json_model.specs.Paths.{ReadsPath}
use Rattle.json_model.specs.Edit.{look_at}
use Rattle.json_model.specs.Order.{First, ReadsText, LooksTree, Looks}
use Rattle.subdoc_step.specs.Texts.{read_text}
use Rattle.subdoc_step.specs.Paths.{read_parts, followed}
use Rattle.subdoc_step.specs.Answers.{◌>>=◌, looked_up}
use Rattle.subdoc_step.proofs.Texts.{text_answered, text_only, read_is}
use Rattle.subdoc_step.proofs.Paths.{path_answered, path_only}
use Rattle.subdoc_step.proofs.Followed.{follows, follows_only}
use Rattle.subdoc_step.proofs.Firsts.{first_answers, first_only}

abbrev Bytes : Type 0
Bytes = Result (List ℕ) Status

pub looked_answered : (lookup : Lookup) (text path : List ℕ) → Looks lookup text path (looked_up lookup text path)
unfolding looked_up
looked_answered lookup text path =
    first_answers (ReadsPath path) (read_parts path) (λ parts. read_text text >>= λ d. look_at lookup (followed parts d.tree))
    (λ (answer : Bytes) parts. First (ReadsText text) answer (λ d. LooksTree lookup parts d.tree answer)) (path_answered path)
    (λ parts e. first_answers (ReadsText text) (read_text text) (λ d. look_at lookup (followed parts d.tree)) (λ (answer : Bytes) d. LooksTree lookup parts d.tree answer) (text_answered text)
    (λ d h. (followed parts d.tree, follows parts d.tree (read_is text d h).tree, refl)))

pub looked_only : (lookup : Lookup) (text path : List ℕ) (answer : Result (List ℕ) Status) → Looks lookup text path answer → answer ≡ looked_up lookup text path
unfolding looked_up
looked_only lookup text path answer =
    first_only (ReadsPath path) (read_parts path) (λ parts. read_text text >>= λ d. look_at lookup (followed parts d.tree))
    (λ parts. First (ReadsText text) answer (λ d. LooksTree lookup parts d.tree answer)) answer (path_only path)
    (λ parts e. first_only (ReadsText text) (read_text text) (λ d. look_at lookup (followed parts d.tree)) (λ d. LooksTree lookup parts d.tree answer) answer (text_only text)
    (λ d h (o, f, is). is ∙ ap (look_at lookup) (follows_only parts d.tree o (read_is text d h).tree f)))
