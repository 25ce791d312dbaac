-- What a vbucket in memory shows to contracts.
use Rattle.std.specs.Prelude.{◌≡◌, ◌⊎◌, ◌≤◌, ℕ, Bool, Some, refl}
use Rattle.std.specs.FinMap as map
use Rattle.std.specs.Coded.{Coded, code_by, coded×, coded_ℕ, coded_bool}
use Rattle.doc_model.specs.declared.document.Item.{Item}
use Rattle.doc_model.specs.declared.key.DocKey.{DocKey}
use Rattle.doc_model.specs.Keys.{key_cmp}
use Rattle.replica_core.specs.declared.copy.CopyCore.{CopyCore}
use Rattle.vb_log.specs.Content.{Content}
use Rattle.vb_log.specs.Prepares.{IsAllowedPending}
use Rattle.vb_log.specs.Stored.{IsStorable}
use Rattle.magma_store.specs.declared.meta.Meta.{Meta}
use Rattle.magma_store.specs.Store.{Shown}
use Rattle.copy_model.specs.declared.limits.TheConstants.{LAST_MOMENT}

-- A vbucket: its store; the numbers of its copy and its own number; what was changed since it was last put on disk, with the
-- manifest, the greatest CAS and the length of the whole log; what the items on disk count together that are still there and
-- weren't changed since; whether the log was begun anew beside the disk's; the greatest moment seen; up to which position
-- prepares are inherited; and how many entries aren't on disk, and their bytes.
pub record ShownVb (D : Type 0) : Type 0 where
  pub store : Shown D
  pub core : CopyCore
  pub number : ℕ
  pub recent : Content
  pub showing : ℕ
  pub is_anew : Bool
  pub seen : ℕ
  pub inherited : ℕ
  pub unflushed_entries : ℕ
  pub unflushed_bytes : ℕ

abbrev pub coded_vb : {D : Type 0} → Coded (Shown D) → Coded CopyCore → Coded Content → Coded (ShownVb D)
coded_vb {D = D} store core content =
    code_by (Shown D × (CopyCore × (ℕ × (Content × (ℕ × (Bool × (ℕ × (ℕ × (ℕ × ℕ)))))))))
    (coded× store (coded× core (coded× coded_ℕ (coded× content (coded× coded_ℕ (coded× coded_bool (coded× coded_ℕ (coded× coded_ℕ (coded× coded_ℕ coded_ℕ)))))))))
    (λ v. (v.store, (v.core, (v.number, (v.recent, (v.showing, (v.is_anew, (v.seen, (v.inherited, (v.unflushed_entries, v.unflushed_bytes))))))))))
    (λ p. record {
      store = p.0;
      core = p.1.0;
      number = p.1.1.0;
      recent = p.1.1.1.0;
      showing = p.1.1.1.1.0;
      is_anew = p.1.1.1.1.1.0;
      seen = p.1.1.1.1.1.1.0;
      inherited = p.1.1.1.1.1.1.1.0;
      unflushed_entries = p.1.1.1.1.1.1.1.1.0;
      unflushed_bytes = p.1.1.1.1.1.1.1.1.1;
    }) (λ _. refl)

-- each item of a map is one that a store can keep
abbrev pub AreStorable : map.FinMap key_cmp Item → Type 0
AreStorable items = (key : DocKey) (item : Item) → map.get items key ≡ Some item → IsStorable item

-- What is so of a vbucket on whatever disk: what it has to put there can be put there.
pub record IsFit (meta : Meta) (core : CopyCore) (recent : Content) (seen : ℕ) : Type 0 where
  pub chain : core.chain ≡ meta.chain
  pub place : core.place ≡ meta.place
  pub promised : core.accepted ≤ core.promise
  pub term : (core.accepted ≡ 0) ⊎ (4 ≤ core.accepted)
  pub length : core.length ≡ recent.length
  pub items : AreStorable recent.items
  pub waiting : IsAllowedPending recent.prepares
  pub moment : seen ≤ LAST_MOMENT
