use Rattle.std.proofs.Common.{ap, sym, ◌∙◌, nat_cmp, cond, true, not, List, ℕ}
use Rattle.std.specs.BTreeSet.{contains}
use Rattle.std.specs.Cmp.Lexicographic.{slice_cmp, texts_ties}
use Rattle.xattr_body.specs.Section.{same_name}
use Rattle.xattr_body.proofs.reading.add_name.Goals as goal

pub returns : goal.returns
returns c =
    let has = contains (slice_cmp nat_cmp) c.args.names.now in
    let key = c.in_ok-from_slice.field-0 in
    let same = c.in_ok-from_slice.ensures in
    record {
      told = c.in_ok-added.ensures.added ∙ ap (λ (k : List ℕ). not (has k)) same;
      updates = λ q.
          c.in_ok-added.ensures.updates.0 q ∙ ap (λ b. cond b true (has q)) (sym (texts_ties key q))
          ∙ ap (λ (k : List ℕ). cond (same_name k q) true (has q)) same;
    }
