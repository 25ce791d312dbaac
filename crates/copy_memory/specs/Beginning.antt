-- How a copy begins in memory.
use Rattle.std.specs.Prelude.{◌≡◌, ℕ, []}
use Rattle.replica_core.specs.declared.copy.CopyCore.{CopyCore}
use Rattle.vb_log.specs.Content.{Content}
use Rattle.vb_log.specs.Logs.{folds}
use Rattle.copy_model.specs.Copies.{Copy}
use Rattle.copy_model.specs.Entries.{core_of}

-- A copy begins with these numbers, in this vbucket, and with a log that comes to this: it has seen no moment and inherited
-- nothing, no ticket is open, it has nothing to say, and all of its log is on disk.
pub record Begins (core : CopyCore) (number : ℕ) (content : Content) (c : Copy Content ℕ) : Type 0 where
  pub core_is : core ≡ core_of folds c
  pub number_is : number ≡ c.number
  pub log_is : content ≡ c.log
  pub seen : c.seen ≡ 0
  pub inherited : c.inherited ≡ 0
  pub tickets : c.tickets ≡ []
  pub unspoken : c.unspoken ≡ []
  pub entries : c.unflushed_entries ≡ 0
  pub bytes : c.unflushed_bytes ≡ 0
