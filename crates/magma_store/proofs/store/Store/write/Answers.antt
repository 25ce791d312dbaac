use Rattle.std.proofs.Common.{◌≡◌, IsTrue, ℕ, List, ◌+◌, ◌<◌, ◌≤◌, ◌^◌, length, map as list_map, inl, refl, sym, ◌∙◌, ap, subst, arith}
use Rattle.manifest_rules.specs.State.{are_rising}
use Rattle.std.proofs.lemmas.Result.{IfOk-weaker, IfErr-weaker}
use Rattle.magma_disk.specs.Moments.{Throughout}
use Rattle.magma_store.specs.declared.meta.Meta.{Meta}
use Rattle.magma_store.specs.declared.meta.Numbers.{Numbers}
use Rattle.magma_store.specs.declared.spot.Placed.{Placed}
use Rattle.magma_store.specs.Changes.{Writes, AreWords, change_bytes}
use Rattle.magma_store.specs.Held.{AreDropped, numbers_of}
use Rattle.magma_store.specs.Journal.{piece_bytes}
use Rattle.magma_store.specs.Layout.{write_size, needed_for, free, LaysWrite}
use Rattle.magma_store.specs.Reading.{items_behind}
use Rattle.magma_store.specs.Spots.{placed, with_spots}
use Rattle.magma_store.specs.Store.{Shown, IsOpen, Either, IsUnwritten, written}
use Rattle.magma_store.specs.Taking.{spots_left}
use Rattle.magma_store.proofs.Storings.{IsBased, based, stays_either, piece_len}
use Rattle.magma_store.proofs.Writings.{IsWrite, write_moments, write_open, spelled_len, on_ok, none_in, leads_in}
use Rattle.magma_store.proofs.store.Store.write.Goals as goal

pub returns-then-self-gt-FILLED_LIMIT-clause-any_moment : goal.returns-then-self-gt-FILLED_LIMIT-clause-any_moment
returns-then-self-gt-FILLED_LIMIT-clause-any_moment g c = λ held manifest is batch.
    let store = c.args.self.now in
    let states = g.D.Disk.states in
    let items = list_map (λ i. i.now) c.args.batch.now in
    (store.layout + write_size c.args.meta.tail items, refl, stays_either held store.spots store.layout (states store.disk) _ (written c.args.is_anew manifest items c.args.meta held) _ (based states held store is) refl)

pub returns-in_err-piece-clause-any_moment : goal.returns-in_err-piece-clause-any_moment
returns-in_err-piece-clause-any_moment g c = λ held manifest is batch.
    let store = c.args.self.now in
    let states = g.D.Disk.states in
    let items = list_map (λ i. i.now) c.args.batch.now in
    (store.layout + write_size c.args.meta.tail items, refl, stays_either held store.spots store.layout (states store.disk) _ (written c.args.is_anew manifest items c.args.meta held) _ (based states held store is) refl)

pub returns-then-needed-free-clause-any_moment : goal.returns-then-needed-free-clause-any_moment
returns-then-needed-free-clause-any_moment g c = λ held manifest is batch.
    let store = c.args.self.now in
    let states = g.D.Disk.states in
    let items = list_map (λ i. i.now) c.args.batch.now in
    (store.layout + write_size c.args.meta.tail items, refl, stays_either held store.spots store.layout (states store.disk) _ (written c.args.is_anew manifest items c.args.meta held) _ (based states held store is) refl)

pub returns-in_err-dropped-clause-any_moment : goal.returns-in_err-dropped-clause-any_moment
returns-in_err-dropped-clause-any_moment g c = λ held manifest is batch.
    let store = c.args.self.now in
    let states = g.D.Disk.states in
    let items = list_map (λ i. i.now) c.args.batch.now in
    (store.layout + write_size c.args.meta.tail items, refl, stays_either held store.spots store.layout (states store.disk) _ (written c.args.is_anew manifest items c.args.meta held) _ (based states held store is) refl)

pub returns-in_err-put_places-clause-any_moment : goal.returns-in_err-put_places-clause-any_moment
returns-in_err-put_places-clause-any_moment g c = λ held manifest is batch.
    let store = c.args.self.now in
    let states = g.D.Disk.states in
    let items = list_map (λ i. i.now) c.args.batch.now in
    (store.layout + write_size c.args.meta.tail items, refl, stays_either held store.spots store.layout (states store.disk) _ (written c.args.is_anew manifest items c.args.meta held) _ (based states held store is) (ap (λ (s : Shown g.row.D.Denot). states s.disk) c.self.view_is))

pub returns-then-needed-free-clause-refused : goal.returns-then-needed-free-clause-refused
returns-then-needed-free-clause-refused g c =
    let items = list_map (λ i. i.now) c.args.batch.now in
    let tail = c.as_slice-tail.result.now in
    let len : length c.in_ok-piece.piece.items ≡ write_size c.args.meta.tail items =
    spelled_len c.args.is_anew c.numbers_of.result tail items c.in_ok-piece.piece.items c.in_ok-piece.ensures.bytes ∙ ap (λ (l : List ℕ). write_size l items) c.as_slice-tail.ensures in
    let size : c.len.result ≡ write_size c.args.meta.tail items = omega (arith, len) in
    let at : c.self.inside.filled ≡ c.args.self.now.layout = ap (λ (s : Shown g.row.D.Denot). s.layout) c.self.view_is in
    let needed : c.room-needed.result.0 ≡ needed_for c.args.self.now.layout (write_size c.args.meta.tail items) =
    c.room-needed.ensures.needed ∙ ap (needed_for c.self.inside.filled) size ∙ ap (λ n. needed_for n (write_size c.args.meta.tail items)) at in
    let left : c.room-needed.result.1 ≡ free c.args.self.now.layout = c.room-needed.ensures.free ∙ ap free at in
    (refl, needed, left, omega arith)

pub put_places-requires-clause-rise : goal.put_places-requires-clause-rise
put_places-requires-clause-rise g c = subst (λ (ids : List ℕ). IsTrue (are_rising ids)) (sym c.deref.ensures.value) c.in_ok-dropped.ensures.rise

pub put_places-requires-clause-apart : goal.put_places-requires-clause-apart
put_places-requires-clause-apart g c =
    let items = list_map (λ i. i.now) c.args.batch.now in
    let tail = c.as_slice-tail.result.now in
    none_in items c.args.meta tail c.deref.result.now c.as_slice.result.now (c.self.inside.filled + 9 + items_behind tail) c.requires.batch c.as_slice-tail.ensures
    (subst (AreDropped tail) (sym c.deref.ensures.value) c.in_ok-dropped.ensures.dropped) (c.as_slice.ensures ∙ c.in_ok-piece.ensures.places)

pub invariant_of-self-2 : goal.invariant_of-self-2
invariant_of-self-2 g c =
    let items = list_map (λ i. i.now) c.args.batch.now in
    let tail = c.as_slice-tail.result.now in
    (c.self.invariant.0, leads_in c.args.is_anew items c.args.meta (c.self.inside.filled + 9 + items_behind tail) c.deref.result.now c.as_slice.result.now c.self.inside.spots c.put_places.new.spots c.requires.batch c.self.invariant.1 (c.as_slice.ensures ∙ c.in_ok-piece.ensures.places) c.in_ok-put_places.ensures.ok)

pub returns-clause-any_moment : goal.returns-clause-any_moment
returns-clause-any_moment g c = λ held manifest is batch.
    let S = Shown g.row.D.Denot in
    let states = g.D.Disk.states in
    let inside = c.self.inside in
    let seen : S = record { disk = inside.disk; spots = inside.spots; meta = inside.meta; layout = inside.filled } in
    let items = list_map (λ i. i.now) c.args.batch.now in
    let meta = c.args.meta in
    let tail = c.as_slice-tail.result.now in
    let now = c.add.new.self in
    let told = change_bytes (Writes c.args.is_anew (numbers_of meta) meta.tail items) in
    let words : AreWords (numbers_of meta) = subst AreWords c.numbers_of.ensures.is c.numbers_of.ensures.words in
    let spelled : c.in_ok-piece.piece.items ≡ piece_bytes told =
    c.in_ok-piece.ensures.bytes ∙ ap (λ (x : Numbers). piece_bytes (change_bytes (Writes c.args.is_anew x tail items))) c.numbers_of.ensures.is
    ∙ ap (λ (l : List ℕ). piece_bytes (change_bytes (Writes c.args.is_anew (numbers_of meta) l items))) c.as_slice-tail.ensures in
    let piece : c.as_slice-2.result.now ≡ piece_bytes told = c.as_slice-2.ensures.value ∙ spelled in
    let small : length told < 2 ^ 64 = omega (arith, ap length spelled, piece_len told) in
    let opened : IsOpen states held seen = subst (IsOpen states held) (sym c.self.view_is) is in
    let w : IsWrite c.args.is_anew manifest items meta held = record { batched = batch; words = words; chain_own = c.requires.own.0 ∙ ap (λ (m : Meta). m.chain) is.meta; place_own = c.requires.own.1 ∙ ap (λ (m : Meta). m.place) is.meta } in
    let b : IsBased held seen.spots seen.layout (states seen.disk) = based states held seen opened in
    subst (λ (s : S). (after : ℕ) × LaysWrite s.layout c.args.is_anew items meta after × Throughout (Either held s.layout (written c.args.is_anew manifest items meta held) after) (states s.disk) (states now.disk)) c.self.view_is
    (write_moments c.args.is_anew manifest items meta held seen.spots seen.layout (states seen.disk) w b (states now.disk)
    (c.add.ensures.any_moment b.records told b.rests b.base.size small piece))

pub returns-clause-done : goal.returns-clause-done
returns-clause-done g c =
    let S = Shown g.row.D.Denot in
    let states = g.D.Disk.states in
    let inside = c.self.inside in
    let seen : S = record { disk = inside.disk; spots = inside.spots; meta = inside.meta; layout = inside.filled } in
    let items = list_map (λ i. i.now) c.args.batch.now in
    let meta = c.args.meta in
    let tail = c.as_slice-tail.result.now in
    let now = c.add.new.self in
    let told = change_bytes (Writes c.args.is_anew (numbers_of meta) meta.tail items) in
    let words : AreWords (numbers_of meta) = subst AreWords c.numbers_of.ensures.is c.numbers_of.ensures.words in
    let spelled : c.in_ok-piece.piece.items ≡ piece_bytes told =
    c.in_ok-piece.ensures.bytes ∙ ap (λ (x : Numbers). piece_bytes (change_bytes (Writes c.args.is_anew x tail items))) c.numbers_of.ensures.is
    ∙ ap (λ (l : List ℕ). piece_bytes (change_bytes (Writes c.args.is_anew (numbers_of meta) l items))) c.as_slice-tail.ensures in
    let piece : c.as_slice-2.result.now ≡ piece_bytes told = c.as_slice-2.ensures.value ∙ spelled in
    let small : length told < 2 ^ 64 = omega (arith, ap length spelled, piece_len told) in
    let rest = c.add.ensures.rest in
    let len : length c.as_slice-2.result.now ≡ write_size meta.tail items = spelled_len c.args.is_anew (numbers_of meta) meta.tail items c.as_slice-2.result.now piece in
    let dropped = c.deref.result.now in
    let drops : AreDropped meta.tail dropped = subst (λ l. AreDropped l dropped) c.as_slice-tail.ensures (subst (AreDropped tail) (sym c.deref.ensures.value) c.in_ok-dropped.ensures.dropped) in
    let spots : now.spots ≡ with_spots (spots_left c.args.is_anew dropped seen.spots) (placed (seen.layout + 9 + items_behind meta.tail) items) =
    ap (λ (s : S). s.spots) rest ∙ c.in_ok-put_places.ensures.ok
    ∙ ap (λ (ps : List Placed). with_spots (spots_left c.args.is_anew dropped seen.spots) ps) (c.as_slice.ensures ∙ c.in_ok-piece.ensures.places)
    ∙ ap (λ (l : List ℕ). with_spots (spots_left c.args.is_anew dropped seen.spots) (placed (seen.layout + 9 + items_behind l) items)) c.as_slice-tail.ensures in
    IfOk-weaker c.add.result _ _
    (λ _ added held manifest is batch.
    let opened : IsOpen states held seen = subst (IsOpen states held) (sym c.self.view_is) is in
    let w : IsWrite c.args.is_anew manifest items meta held = record { batched = batch; words = words; chain_own = c.requires.own.0 ∙ ap (λ (m : Meta). m.chain) is.meta; place_own = c.requires.own.1 ∙ ap (λ (m : Meta). m.place) is.meta } in
    let b : IsBased held seen.spots seen.layout (states seen.disk) = based states held seen opened in
    write_open c.args.is_anew manifest items meta held seen.spots seen.layout (states seen.disk) w b states now dropped
    (added b.records told b.rests b.base.size small piece) drops
    (ap (λ (s : S). s.meta) rest)
    (ap (λ (s : S). s.layout) rest ∙ ap (λ k. seen.layout + k) len) spots)
    c.add.ensures.added

pub returns-clause-layout : goal.returns-clause-layout
returns-clause-layout g c =
    let items = list_map (λ i. i.now) c.args.batch.now in
    let tail = c.as_slice-tail.result.now in
    let len : length c.in_ok-piece.piece.items ≡ write_size c.args.meta.tail items =
    spelled_len c.args.is_anew c.numbers_of.result tail items c.in_ok-piece.piece.items c.in_ok-piece.ensures.bytes ∙ ap (λ (l : List ℕ). write_size l items) c.as_slice-tail.ensures in
    let size : c.len.result ≡ write_size c.args.meta.tail items = omega (arith, len) in
    let at : c.self.inside.filled ≡ c.args.self.now.layout = ap (λ (s : Shown g.row.D.Denot). s.layout) c.self.view_is in
    let needed : c.room-needed.result.0 ≡ needed_for c.args.self.now.layout (write_size c.args.meta.tail items) =
    c.room-needed.ensures.needed ∙ ap (needed_for c.self.inside.filled) size ∙ ap (λ n. needed_for n (write_size c.args.meta.tail items)) at in
    let left : c.room-needed.result.1 ≡ free c.args.self.now.layout = c.room-needed.ensures.free ∙ ap free at in
    on_ok c.add.result (LaysWrite c.args.self.now.layout c.args.is_anew items c.args.meta c.add.new.self.layout)
    (ap (λ (s : Shown g.row.D.Denot). s.layout) c.add.ensures.rest ∙ (let e = ap length c.as_slice-2.ensures.value in omega arith))

pub returns-clause-room : goal.returns-clause-room
returns-clause-room g c =
    let items = list_map (λ i. i.now) c.args.batch.now in
    let tail = c.as_slice-tail.result.now in
    let len : length c.in_ok-piece.piece.items ≡ write_size c.args.meta.tail items =
    spelled_len c.args.is_anew c.numbers_of.result tail items c.in_ok-piece.piece.items c.in_ok-piece.ensures.bytes ∙ ap (λ (l : List ℕ). write_size l items) c.as_slice-tail.ensures in
    let size : c.len.result ≡ write_size c.args.meta.tail items = omega (arith, len) in
    let at : c.self.inside.filled ≡ c.args.self.now.layout = ap (λ (s : Shown g.row.D.Denot). s.layout) c.self.view_is in
    let needed : c.room-needed.result.0 ≡ needed_for c.args.self.now.layout (write_size c.args.meta.tail items) =
    c.room-needed.ensures.needed ∙ ap (needed_for c.self.inside.filled) size ∙ ap (λ n. needed_for n (write_size c.args.meta.tail items)) at in
    let left : c.room-needed.result.1 ≡ free c.args.self.now.layout = c.room-needed.ensures.free ∙ ap free at in
    on_ok c.add.result _ (let low : c.room-needed.result.0 ≤ c.room-needed.result.1 = omega arith in omega arith)

pub returns-clause-refused : goal.returns-clause-refused
returns-clause-refused g c =
    let items = list_map (λ i. i.now) c.args.batch.now in
    let tail = c.as_slice-tail.result.now in
    let len : length c.in_ok-piece.piece.items ≡ write_size c.args.meta.tail items =
    spelled_len c.args.is_anew c.numbers_of.result tail items c.in_ok-piece.piece.items c.in_ok-piece.ensures.bytes ∙ ap (λ (l : List ℕ). write_size l items) c.as_slice-tail.ensures in
    let size : c.len.result ≡ write_size c.args.meta.tail items = omega (arith, len) in
    let at : c.self.inside.filled ≡ c.args.self.now.layout = ap (λ (s : Shown g.row.D.Denot). s.layout) c.self.view_is in
    let needed : c.room-needed.result.0 ≡ needed_for c.args.self.now.layout (write_size c.args.meta.tail items) =
    c.room-needed.ensures.needed ∙ ap (needed_for c.self.inside.filled) size ∙ ap (λ n. needed_for n (write_size c.args.meta.tail items)) at in
    let left : c.room-needed.result.1 ≡ free c.args.self.now.layout = c.room-needed.ensures.free ∙ ap free at in
    let low : needed_for c.args.self.now.layout (write_size c.args.meta.tail items) ≤ free c.args.self.now.layout = omega arith in
    IfErr-weaker c.add.result _ _
    (λ why is. subst (IsUnwritten g.D.Disk.states (needed_for c.args.self.now.layout (write_size c.args.meta.tail items)) (free c.args.self.now.layout) c.args.self.now c.add.new.self) (sym is) (inl low))
    c.add.ensures.stopped
