-- What a call that commits what is ready made of a memory, from its parts.
use Rattle.std.specs.Prelude.{◌≡◌, ◌+◌, ◌*◌, ℕ}
use Rattle.std.proofs.Common.{◌∙◌, ap}
use Rattle.vb_log.specs.Content.{Content}
use Rattle.copy_memory.specs.Settling.{settles, stood, would_commit, committing_first, commit_length}
use Rattle.copy_memory.specs.Shown.{ShownMemory, Rests}

-- a memory with another log, which counts so much as not on disk
abbrev pub having : ShownMemory → ℕ → Content → ℕ → ℕ → ShownMemory
having m long content entries bytes = record m {
  core = record m.core { length = long };
  content = content;
  unflushed_entries = entries;
  unflushed_bytes = bytes;
}

module _ (place mem disk : ℕ) (m v new : ShownMemory) (room long entries bytes : ℕ) (content : Content) where
  -- The others and the tickets were told of the Commits of what was ready, after these were made in the content.
  pub settles_from : v ≡ record m { room = room } → long ≡ m.core.length + would_commit place mem disk m.tracker
      → content ≡ committing_first (would_commit place mem disk m.tracker) m.content → entries ≡ m.unflushed_entries + would_commit place mem disk m.tracker
      → bytes ≡ m.unflushed_bytes + would_commit place mem disk m.tracker * commit_length
      → Rests (stood place mem disk v.core.length (having v long content entries bytes)) new → Rests (settles place mem disk m) new
  settles_from same is_long is_content are_entries are_bytes made =
      made
      ∙ ap (λ (x : ShownMemory). record (stood place mem disk x.core.length (having x long content entries bytes)) { room = new.room }) same
      ∙ (λ i. record (stood place mem disk m.core.length (having m (is_long i) (is_content i) (are_entries i) (are_bytes i))) { room = new.room })
