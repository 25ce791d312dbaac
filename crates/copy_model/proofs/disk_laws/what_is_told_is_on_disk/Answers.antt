use Rattle.copy_model.proofs.Stored.{flush_stores, promotion_stores}
use Rattle.copy_model.proofs.disk_laws.what_is_told_is_on_disk.Goals as goal

pub returns-clause-flushed : goal.returns-clause-flushed
returns-clause-flushed g c = λ k y luck copy n. flush_stores k y luck copy n

pub returns-clause-promoted : goal.returns-clause-promoted
returns-clause-promoted g c =
    λ k y luck copy term answers weak. promotion_stores k y luck copy term answers weak
