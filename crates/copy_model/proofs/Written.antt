-- What a copy's steps leave on its disk, beside what they would if the disk failed at once.
use Rattle.std.specs.Prelude.{◌≡◌, ℕ, nat_lt, is_some, Bool, true, false, cond, not, ◌⊎◌, List, [], ◌∷◌, Option, Some, None, refl}
use Rattle.std.proofs.Common.{sym, ◌∙◌, ap, inl, inr}
use Rattle.vb_log.specs.declared.entry.Pending.{Pending}
use Rattle.vb_log.specs.Logs.{LogKind}
use Rattle.replica_core.specs.Terms.{is_active, is_dead}
use Rattle.copy_model.specs.Copies.{Pair, Copy, Chance, Fine, ReadFails, DiskFails, NoMemory, LayoutKind, Luck, lacks_memory, fails_disk, fails_read}
use Rattle.copy_model.specs.Entries.{is_ready_at, committed, committing, content, settled}
use Rattle.copy_model.specs.Disk.{Put, Done, NoRoom, Failed, put_then, dead_with, promised, write_promise, pair_at, needed, free, on_disk, write_log, tells_flush, after_flush, flushing, must_flush, flushed_first}
use Rattle.copy_model.proofs.Dead.{if_one}

-- what holds of both sides of a test, twice, holds of what it comes to
pub if_both : {A B : Type 0} (P : A → B → Type 0) (b : Bool) (x y : A) (z w : B) → P x z → P y w
    → P (cond b x y) (cond b z w)
if_both P true x y z w p q = p
if_both P false x y z w p q = q

-- a copy with this disk, and with this pair that a stopped write may have left
pub record Keeps {L Y : Type 0} (pair : Pair L Y) (other : Option (Pair L Y))
    (d : Copy L Y) : Type 0 where
  pub disk : d.disk ≡ pair
  pub torn : d.torn ≡ other

-- whether an event fares well
abbrev pub is_well : Chance → Bool
is_well Fine = true
is_well ReadFails = false
is_well DiskFails = false
is_well NoMemory = false

-- What a copy's disk holds after an event, if it held a pair before, and this is what a disk that
-- fails at once would have in its place: the same as before, and if the event fares well the disk
-- that fails would have nothing new either; the same, where it failed before any write; what was
-- written, with the layout of the write; or one of both.
pub data Fares {L Y : Type 0} (begun : Option (Pair L Y)) (luck : Luck Y) (pair : Pair L Y)
    (other : Option (Pair L Y)) (d : Copy L Y) : Type 0 where
  Stays : (keeps : Keeps pair other d)
      (idle : is_well luck.chance ≡ true → (begun ≡ other) ⊎ (begun ≡ None))
      → Fares begun luck pair other d
  Stops : (disk : d.disk ≡ pair) (torn : d.torn ≡ None) (dead : is_dead d.role ≡ true)
      (idle : begun ≡ None) → Fares begun luck pair other d
  Writes : (writes : is_some begun ≡ true) (lays : d.disk.layout ≡ luck.layout)
      (torn : d.torn ≡ other) → Fares begun luck pair other d
  Tears : (writes : is_some begun ≡ true) (disk : d.disk ≡ pair) (dead : is_dead d.role ≡ true)
      (unwell : is_well luck.chance ≡ false) → Fares begun luck pair other d

-- through a test that is known on each side
pub if_told : {A : Type 0} (P : A → Type 0) (b : Bool) (x y : A) → (b ≡ true → P x)
    → (b ≡ false → P y) → P (cond b x y)
if_told P true x y p q = p refl
if_told P false x y p q = q refl

pub failing_unwell : (chance : Chance) → fails_disk chance ≡ true → is_well chance ≡ false
failing_unwell Fine p = absurd (cc)
failing_unwell ReadFails p = refl
failing_unwell DiskFails p = refl
failing_unwell NoMemory p = refl

pub lacking_unwell : (chance : Chance) → lacks_memory chance ≡ true → is_well chance ≡ false
lacking_unwell Fine p = absurd (cc)
lacking_unwell ReadFails p = refl
lacking_unwell DiskFails p = refl
lacking_unwell NoMemory p = refl

pub unread_unwell : (chance : Chance) → not (fails_read chance) ≡ false → is_well chance ≡ false
unread_unwell Fine p = absurd (cc)
unread_unwell ReadFails p = refl
unread_unwell DiskFails p = refl
unread_unwell NoMemory p = refl

-- both copies keep the disk
pub stays : {L Y : Type 0} {luck : Luck Y} {pair : Pair L Y} {other : Option (Pair L Y)}
    {d : Copy L Y} → Keeps pair other d → Fares d.torn luck pair other d
stays h = Stays h (λ well. inl h.torn)

-- an event that doesn't fare well keeps the disk
pub stays_unwell : {L Y : Type 0} {begun : Option (Pair L Y)} {luck : Luck Y} {pair : Pair L Y}
    {other : Option (Pair L Y)} {d : Copy L Y} → Keeps pair other d
    → is_well luck.chance ≡ false → Fares begun luck pair other d
stays_unwell h unwell = Stays h (λ well. absurd (let e = sym well ∙ unwell in cc))

-- what is made of a write's outcome: it keeps the disk, and a stopped copy is as it is
pub record Handles {L Y : Type 0} (pair : Pair L Y) (other : Option (Pair L Y))
    (g : Put (Copy L Y) → Copy L Y) : Type 0 where
  pub done : (d : Copy L Y) → Keeps d.disk d.torn (g (Done d))
  pub full : (needed free : ℕ) → Keeps pair other (g (NoRoom needed free))
  pub failed : (d : Copy L Y) → g (Failed d) ≡ d

-- a disk that fails at once
abbrev pub fails : {Y : Type 0} → Y → Luck Y
fails z = record { chance = DiskFails; layout = z }

module _ {L : Type 0} (k : LogKind L) where
  pub keeps : {Y : Type 0} (c : Copy L Y) → Keeps c.disk c.torn c
  keeps c = record { disk = refl; torn = refl }

  pub keeps_on : {Y : Type 0} (pair : Pair L Y) (other : Option (Pair L Y)) (d e : Copy L Y)
      → Keeps pair other d → Keeps d.disk d.torn e → Keeps pair other e
  keeps_on pair other d e h next = record { disk = next.disk ∙ h.disk; torn = next.torn ∙ h.torn }

  committing_keeps : {Y : Type 0} (ps : List Pending) (c : Copy L Y)
      → Keeps c.disk c.torn (committing k ps c)
  committing_keeps [] c = keeps c
  committing_keeps (p ∷ ps) c =
      if_one (Keeps c.disk c.torn) (is_ready_at k c p)
      (committing k ps (committed k p.position c)) c
      (committing_keeps ps (committed k p.position c)) (keeps c)

  pub settled_keeps : {Y : Type 0} (c : Copy L Y) → Keeps c.disk c.torn (settled k c)
  settled_keeps c = committing_keeps (content k c).prepares c

  after_flush_keeps : {Y : Type 0} (c : Copy L Y) → Keeps c.disk c.torn (after_flush k c)
  after_flush_keeps c =
      if_one (Keeps c.disk c.torn) (is_active c.role) _ _ (settled_keeps c)
      (if_one (Keeps c.disk c.torn) (tells_flush c) _ _ record { disk = refl; torn = refl }
      (keeps c))

  -- ---- writes

  pub write_promise_fares : {Y : Type 0} (z : Y) (luck : Luck Y) (term : ℕ) (c : Copy L Y)
      (g : Put (Copy L Y) → Copy L Y) → Handles c.disk c.torn g
      → Fares (g (write_promise (fails z) term c)).torn luck c.disk c.torn
      (g (write_promise luck term c))
  write_promise_fares {Y = Y} z luck term c g h =
      let begun = ap (λ (x : Copy L Y). is_some x.torn)
      (h.failed (dead_with (Some (promised term z c.disk)) c)) in
      let stopped = h.failed (dead_with (Some (promised term luck.layout c.disk)) c) in
      let done = h.done (record c { promise = term; disk = promised term luck.layout c.disk }) in
      if_told (λ p. Fares (g (write_promise (fails z) term c)).torn luck c.disk c.torn (g p))
      (fails_disk luck.chance) _ _
      (λ failed. Tears begun (ap (λ (x : Copy L Y). x.disk) stopped)
      (ap (λ (x : Copy L Y). is_dead x.role) stopped)
      (failing_unwell luck.chance failed))
      (λ goes. Writes begun (ap (λ (x : Pair L Y). x.layout) done.disk) done.torn)

  write_log_where : {Y : Type 0} (y : LayoutKind Y) (z : Y) (luck : Luck Y) (term : ℕ)
      (c : Copy L Y) (g : Put (Copy L Y) → Copy L Y) → Handles c.disk c.torn g
      → (b : Bool) → Fares (g (cond b (Failed (dead_with None c))
      (Failed (dead_with (Some (pair_at term z c)) c)))).torn luck c.disk c.torn
      (g (cond b (cond (fails_disk luck.chance) (Failed (dead_with None c))
      (NoRoom (needed k y c) (free y c)))
      (cond (fails_disk luck.chance) (Failed (dead_with (Some (pair_at term luck.layout c)) c))
      (Done (on_disk (pair_at term luck.layout c) c)))))
  write_log_where {Y = Y} y z luck term c g h true =
      let stopped = h.failed (dead_with None c) in
      if_one (λ p. Fares (g (Failed (dead_with None c))).torn luck c.disk c.torn (g p))
      (fails_disk luck.chance) _ _
      (Stops (ap (λ (x : Copy L Y). x.disk) stopped) (ap (λ (x : Copy L Y). x.torn) stopped)
      (ap (λ (x : Copy L Y). is_dead x.role) stopped)
      (ap (λ (x : Copy L Y). x.torn) stopped))
      (Stays (h.full (needed k y c) (free y c))
      (λ well. inr (ap (λ (x : Copy L Y). x.torn) stopped)))
  write_log_where {Y = Y} y z luck term c g h false =
      let begun = ap (λ (x : Copy L Y). is_some x.torn)
      (h.failed (dead_with (Some (pair_at term z c)) c)) in
      let stopped = h.failed (dead_with (Some (pair_at term luck.layout c)) c) in
      let done = h.done (on_disk (pair_at term luck.layout c) c) in
      if_told (λ p. Fares (g (Failed (dead_with (Some (pair_at term z c)) c))).torn luck
      c.disk c.torn (g p)) (fails_disk luck.chance) _ _
      (λ failed. Tears begun (ap (λ (x : Copy L Y). x.disk) stopped)
      (ap (λ (x : Copy L Y). is_dead x.role) stopped)
      (failing_unwell luck.chance failed))
      (λ goes. Writes begun (ap (λ (x : Pair L Y). x.layout) done.disk) done.torn)

  pub write_log_fares : {Y : Type 0} (y : LayoutKind Y) (z : Y) (luck : Luck Y) (term : ℕ)
      (c : Copy L Y) (g : Put (Copy L Y) → Copy L Y) → Handles c.disk c.torn g
      → Fares (g (write_log k y (fails z) term c)).torn luck c.disk c.torn
      (g (write_log k y luck term c))
  write_log_fares y z luck term c g h =
      write_log_where y z luck term c g h (nat_lt (free y c) (needed k y c))

  -- what follows a flush keeps the disk
  flushes_then : {Y : Type 0} (pair : Pair L Y) (other : Option (Pair L Y))
      (g : Put (Copy L Y) → Copy L Y) → Handles pair other g
      → Handles pair other (λ p. g (put_then (after_flush k) p))
  flushes_then pair other g h = record {
    done = λ d. keeps_on d.disk d.torn (after_flush k d) (g (Done (after_flush k d)))
        (after_flush_keeps d) (h.done (after_flush k d));
    full = h.full;
    failed = h.failed;
  }

  pub flushing_fares : {Y : Type 0} (y : LayoutKind Y) (z : Y) (luck : Luck Y) (c : Copy L Y)
      (g : Put (Copy L Y) → Copy L Y) → Handles c.disk c.torn g
      → Fares (g (flushing k y (fails z) c)).torn luck c.disk c.torn
      (g (flushing k y luck c))
  flushing_fares y z luck c g h =
      write_log_fares y z luck c.accepted c (λ p. g (put_then (after_flush k) p))
      (flushes_then c.disk c.torn g h)

  pub flushed_first_fares : {Y : Type 0} (y : LayoutKind Y) (z : Y) (luck : Luck Y) (c : Copy L Y)
      (g : Put (Copy L Y) → Copy L Y) → Handles c.disk c.torn g
      → Fares (g (flushed_first k y (fails z) c)).torn luck c.disk c.torn
      (g (flushed_first k y luck c))
  flushed_first_fares y z luck c g h =
      if_both (λ p q. Fares (g p).torn luck c.disk c.torn (g q)) (must_flush c) _ _ _ _
      (flushing_fares y z luck c g h) (stays (h.done c))
