-- Representations of a log: whole, or as what it comes to.
use Rattle.std.specs.Prelude.{◌≡◌, List, [], ◌∷◌, ◌++◌}
use Rattle.vb_log.specs.declared.entry.Entry.{Entry}
use Rattle.vb_log.specs.Content.{Content, no_content, with_entry, content_of}

-- What a representation of logs has: the log without entries, what a log comes to, and a log with
-- one entry more.
pub record LogKind (L : Type 0) : Type 0 where
  pub begin : L
  pub view : L → Content
  pub add : L → Entry → L

-- what a log comes to follows its entries
pub record IsFaithful {L : Type 0} (k : LogKind L) : Type 0 where
  pub empty : k.view k.begin ≡ no_content
  pub adds : (log : L) (e : Entry) → k.view (k.add log e) ≡ with_entry (k.view log) e

-- logs kept whole
abbrev pub whole_logs : LogKind (List Entry)
whole_logs = record { begin = []; view = content_of; add = λ log e. log ++ e ∷ [] }

-- logs kept as what they come to
abbrev pub folds : LogKind Content
folds = record { begin = no_content; view = λ c. c; add = with_entry }
