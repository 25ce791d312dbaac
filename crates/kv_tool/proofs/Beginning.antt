-- On devices with the same bytes a vbucket begins as one copy, and behind a flush with the log that was flushed.
use Rattle.std.proofs.Common.{◌≡◌, ℕ, List, [], ◌∷◌, ◌++◌, Ok, sym, ap, subst, ◌∙◌, inl, inr, append-nil}
use Rattle.std.proofs.lemmas.List.{append_cancel_left}
use Rattle.manifest_rules.specs.Catalog.{Catalog}
use Rattle.manifest_rules.specs.State.{state_of}
use Rattle.manifest_rules.proofs.States.{same_state}
use Rattle.magma_disk.specs.Calls.{MayLeave}
use Rattle.magma_disk.specs.Device.{Device}
use Rattle.magma_store.specs.Held.{Held}
use Rattle.magma_store.proofs.OneStore.{one_store, no_store}
use Rattle.vb_log.specs.declared.entry.Pending.{Pending}
use Rattle.vb_log.specs.Content.{Content}
use Rattle.vb_log.specs.Prepares.{widest, pending_bytes}
use Rattle.vb_log.proofs.PendingBytes.{same_pending, widest_bounds}
use Rattle.copy_model.specs.Copies.{Pair, Copy}
use Rattle.vb_core.specs.Openings.{IsAllOnDisk, HoldsSound, IsSound, BeginsWith, BeginsOn, begun, put_on_disk}
use Rattle.vb_core.specs.Pairs.{IsTail, Tells, IsPair}
use Rattle.kv_tool.specs.Course.{only_chain, Knowledge, IsAt, known_by, Begins, KeepsAll}

-- ---- a tail tells one thing

-- two manifests are one, and so are the changes that wait
record IsOneTail (m n : Catalog) (ps qs : List Pending) : Type 0 where
  manifest : m ≡ n
  prepares : ps ≡ qs

one_tail : (tail : List ℕ) (m n : Catalog) (ps qs : List Pending) → IsTail tail m ps → IsTail tail n qs → IsOneTail m n ps qs
one_tail tail m n ps qs a b =
    let both : state_of m ++ pending_bytes ps ≡ state_of n ++ pending_bytes qs = sym a.spelled ∙ b.spelled in
    let one : m ≡ n = same_state m n (pending_bytes ps) (pending_bytes qs) a.kept b.kept both in
    let behind : pending_bytes ps ≡ pending_bytes qs =
    append_cancel_left (state_of n) (pending_bytes ps) (pending_bytes qs)
    (ap (λ (c : Catalog). state_of c ++ pending_bytes ps) (sym one) ∙ both) in
    let same = same_pending widest ps qs [] [] widest_bounds a.allowed b.allowed (append-nil (pending_bytes ps) ∙ behind ∙ sym (append-nil (pending_bytes qs))) in
    record { manifest = one; prepares = same.one }

one_told : (tail : List ℕ) (m n : Catalog) (ps qs : List Pending) → Tells tail m ps → Tells tail n qs → IsOneTail m n ps qs
one_told tail m n ps qs (inl a) (inl b) = one_tail tail m n ps qs a b
one_told tail m n ps qs (inl a) (inr (none, first, nothing)) = absurd (none m ps a)
one_told tail m n ps qs (inr (none, first, nothing)) (inl b) = absurd (none n qs b)
one_told tail m n ps qs (inr (none, first, nothing)) (inr (same, one, empty)) = record { manifest = first ∙ sym one; prepares = nothing ∙ sym empty }

-- ---- a store holds one pair

one_pair : (held : Held) (layout : ℕ) (d e : Pair Content ℕ) → IsPair held layout d → IsPair held layout e → d ≡ e
one_pair held layout d e a b =
    let told = one_told held.meta.tail d.log.manifest e.log.manifest d.log.prepares e.log.prepares a.tail_tells b.tail_tells in
    λ i. record {
      promise = (a.promise_is ∙ sym b.promise_is) i;
      accepted = (a.accepted_is ∙ sym b.accepted_is) i;
      log = record {
        items = (a.items_are ∙ sym b.items_are) i;
        prepares = told.prepares i;
        manifest = told.manifest i;
        greatest_cas = (a.cas_is ∙ sym b.cas_is) i;
        length = (a.length_is ∙ sym b.length_is) i;
      };
      incarnation = (a.incarnation_is ∙ sym b.incarnation_is) i;
      layout = (a.layout_is ∙ sym b.layout_is) i;
    }

-- ---- a copy begins in one way

one_with : (held : Held) (d : Pair Content ℕ) (a b : Copy Content ℕ) → BeginsWith held only_chain 0 0 d a → BeginsWith held only_chain 0 0 d b → a ≡ b
one_with held d a b (inl p) (inl q) = p.1 ∙ sym q.1
one_with held d a b (inl p) (inr q) = absurd (q.0 p.0)
one_with held d a b (inr p) (inl q) = absurd (p.0 q.0)
one_with held d a b (inr p) (inr q) = p.1 ∙ sym q.1

-- on the pairs of one store
one_on_store : (first second : Held) (d e : Pair Content ℕ) (a b : Copy Content ℕ) → first ≡ second → d.layout ≡ e.layout → IsPair first d.layout d → IsPair second e.layout e
    → BeginsWith first only_chain 0 0 d a → BeginsWith second only_chain 0 0 e b → a ≡ b
one_on_store first second d e a b held layout p q with_a with_b =
    let there : IsPair first d.layout e = subst (λ (h : Held). IsPair h d.layout e) (sym held) (subst (λ (n : ℕ). IsPair second n e) (sym layout) q) in
    let same : e ≡ d = one_pair first d.layout e d there p in
    one_with first d a b with_a (subst (λ (x : Pair Content ℕ). BeginsWith first only_chain 0 0 x b) same (subst (λ (h : Held). BeginsWith h only_chain 0 0 e b) (sym held) with_b))

one_copy : (bytes : List ℕ) (a b : Copy Content ℕ) → BeginsOn bytes only_chain 0 0 a → BeginsOn bytes only_chain 0 0 b → a ≡ b
one_copy bytes a b (inl p) (inl q) = p.1 ∙ sym q.1
one_copy bytes a b (inl p) (inr (held, d, can, pair, with)) = absurd (no_store held d.layout bytes can.is_store p.0)
one_copy bytes a b (inr (held, d, can, pair, with)) (inl q) = absurd (no_store held d.layout bytes can.is_store q.0)
one_copy bytes a b (inr (first, d, can, pair, with)) (inr (second, e, could, other, so)) =
    let one = one_store first second d.layout e.layout bytes can.is_store could.is_store in
    one_on_store first second d e a b one.0 one.1 pair other with so

pub one_beginning : (d e : Device) (past others : List Device) (one two : Knowledge) → d.bytes ≡ e.bytes → Begins (d ∷ past) one → Begins (e ∷ others) two → one ≡ two
one_beginning d e past others one two same (a, begins, is) (b, begin, be) =
    let copies : a ≡ b = one_copy e.bytes a b (subst (λ (l : List ℕ). BeginsOn l only_chain 0 0 a) same begins) begin in
    is ∙ ap (λ (c : Copy Content ℕ). known_by c.log.prepares (put_on_disk (begun c))) copies ∙ sym be

-- ---- behind a flush that was done

-- a copy that begins on the pair of a store that tells its log begins with that log
with_its_log : (held : Held) (e : Pair Content ℕ) (c : Copy Content ℕ) → IsSound held e → BeginsWith held only_chain 0 0 e c → c.log ≡ e.log
with_its_log held e c sound (inl p) = ap (λ (c : Copy Content ℕ). c.log) p.1
with_its_log held e c sound (inr p) = absurd (p.0 sound)

-- the pairs of one store are one
pair_there : (first second : Held) (d e : Pair Content ℕ) → first ≡ second → d.layout ≡ e.layout → IsPair first d.layout d → IsPair second e.layout e → e ≡ d
pair_there first second d e held layout p q =
    one_pair first d.layout e d (subst (λ (h : Held). IsPair h d.layout e) (sym held) (subst (λ (n : ℕ). IsPair second n e) (sym layout) q)) p

log_there : (copy c : Copy Content ℕ) (bytes : List ℕ) → IsAllOnDisk copy → HoldsSound copy bytes → BeginsOn bytes only_chain 0 0 c → c.log ≡ copy.log
log_there copy c bytes all holds (inl p) = absurd (no_store holds.held copy.disk.layout bytes holds.is_store p.0)
log_there copy c bytes all holds (inr (held, e, can, pair, with)) =
    let one = one_store holds.held held copy.disk.layout e.layout bytes holds.is_store can.is_store in
    let same : e ≡ copy.disk = pair_there holds.held held copy.disk e one.0 one.1 holds.pair pair in
    let sound : IsSound held e = subst (λ (h : Held). IsSound h e) one.0 (subst (λ (d : Pair Content ℕ). IsSound holds.held d) (sym same) holds.sound) in
    with_its_log held e c sound with ∙ ap (λ (d : Pair Content ℕ). d.log) same ∙ all.log

pub flushed_there : (states : List Device) (count faults : ℕ) (copy : Copy Content ℕ) (d : Device) (past : List Device) (begin : Knowledge) → KeepsAll states (Ok count) (IsAt copy faults) → MayLeave states d.bytes → Begins (d ∷ past) begin
    → (next : Copy Content ℕ) × (next.log ≡ copy.log) × (begin ≡ known_by copy.log.prepares next)
flushed_there states count faults copy d past begin keeps may (c, begins, is) =
    let has = keeps.1 d.bytes may in
    let same : c.log ≡ copy.log = log_there copy c d.bytes has.0 has.1 begins in (
      put_on_disk (begun c),
      same,
      is ∙ ap (λ (l : Content). known_by l.prepares (put_on_disk (begun c))) same,
    )
