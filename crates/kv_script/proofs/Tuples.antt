-- Where no parts of a line are right, the line is bad.
use Rattle.std.specs.Prelude.{ℕ, Bool, List, Err}
use Rattle.kv_script.specs.declared.keyword.Keyword.TheVariants as keywords
use Rattle.kv_script.specs.declared.line.Line.{Line}
use Rattle.kv_script.specs.declared.line.Line.TheVariants as lines
use Rattle.kv_script.specs.declared.line.LineFault.{LineFault}
use Rattle.kv_script.specs.declared.line.LineFault.TheVariants as faults
use Rattle.kv_script.specs.Lines.{IsCopyAndNumber, IsFed, IsPromotion, IsWorded}
use Rattle.kv_script.specs.Reading.{Reads}

pub fed_bad : (copy : List ℕ) (connection : ℕ) (bytes : List ℕ) (parts : List (List ℕ)) → ((right : List ℕ × ℕ × List ℕ) → ¬ (IsFed right.0 right.1 right.2 parts)) → IsFed copy connection bytes parts → ⊥
fed_bad copy connection bytes parts bad h = bad (copy, connection, bytes) h

-- what a line has of a copy and a number
abbrev Counted : ℕ → List (List ℕ) → Type 0
Counted least parts = (read : List ℕ × ℕ) × IsCopyAndNumber least read.0 read.1 parts

clean_parts : (parts : List (List ℕ)) (line : Line) → IsWorded line keywords.Clean parts → Counted 1 parts
clean_parts parts (lines.Clean copy most) w = ((copy, most), w.follows)
clean_parts parts line w = absurd (cc (w.begins))

fence_parts : (parts : List (List ℕ)) (line : Line) → IsWorded line keywords.Fence parts → Counted 4 parts
fence_parts parts (lines.Fence copy term) w = ((copy, term), w.follows)
fence_parts parts line w = absurd (cc (w.begins))

fuse_parts : (parts : List (List ℕ)) (line : Line) → IsWorded line keywords.Fuse parts → Counted 1 parts
fuse_parts parts (lines.Fuse copy after) w = ((copy, after), w.follows)
fuse_parts parts line w = absurd (cc (w.begins))

fail_parts : (parts : List (List ℕ)) (line : Line) → IsWorded line keywords.Fail parts → Counted 1 parts
fail_parts parts (lines.Fail copy after) w = ((copy, after), w.follows)
fail_parts parts line w = absurd (cc (w.begins))

promote_parts : (parts : List (List ℕ)) (line : Line) → IsWorded line keywords.Promote parts
    → (read : List ℕ × ℕ × Bool × List ℕ) × IsPromotion read.0 read.1 read.2 read.3 parts
promote_parts parts (lines.Promote copy term weak answers) w = ((copy, term, weak, answers), w.follows)
promote_parts parts line w = absurd (cc (w.begins))

carried : {A B : Type 0} (P : A → Type 0) (Q : B → Type 0) (e : LineFault) → ((y : B) → Q y → (x : A) × P x) → Reads P (Err e) → Reads Q (Err e)
carried P Q faults.Bad f h = λ y q. let x = f y q in h x.0 x.1
carried P Q faults.NoMemory f h = tt

pub clean_bad : (parts : List (List ℕ)) (e : LineFault) → Reads (λ (read : List ℕ × ℕ). IsCopyAndNumber 1 read.0 read.1 parts) (Err e) → Reads (λ line. IsWorded line keywords.Clean parts) (Err e)
clean_bad parts e h = carried (λ (read : List ℕ × ℕ). IsCopyAndNumber 1 read.0 read.1 parts) (λ line. IsWorded line keywords.Clean parts) e (clean_parts parts) h

pub fence_bad : (parts : List (List ℕ)) (e : LineFault) → Reads (λ (read : List ℕ × ℕ). IsCopyAndNumber 4 read.0 read.1 parts) (Err e) → Reads (λ line. IsWorded line keywords.Fence parts) (Err e)
fence_bad parts e h = carried (λ (read : List ℕ × ℕ). IsCopyAndNumber 4 read.0 read.1 parts) (λ line. IsWorded line keywords.Fence parts) e (fence_parts parts) h

pub fuse_bad : (parts : List (List ℕ)) (e : LineFault) → Reads (λ (read : List ℕ × ℕ). IsCopyAndNumber 1 read.0 read.1 parts) (Err e) → Reads (λ line. IsWorded line keywords.Fuse parts) (Err e)
fuse_bad parts e h = carried (λ (read : List ℕ × ℕ). IsCopyAndNumber 1 read.0 read.1 parts) (λ line. IsWorded line keywords.Fuse parts) e (fuse_parts parts) h

pub fail_bad : (parts : List (List ℕ)) (e : LineFault) → Reads (λ (read : List ℕ × ℕ). IsCopyAndNumber 1 read.0 read.1 parts) (Err e) → Reads (λ line. IsWorded line keywords.Fail parts) (Err e)
fail_bad parts e h = carried (λ (read : List ℕ × ℕ). IsCopyAndNumber 1 read.0 read.1 parts) (λ line. IsWorded line keywords.Fail parts) e (fail_parts parts) h

pub promote_bad : (parts : List (List ℕ)) (e : LineFault) → Reads (λ (read : List ℕ × ℕ × Bool × List ℕ). IsPromotion read.0 read.1 read.2 read.3 parts) (Err e) → Reads (λ line. IsWorded line keywords.Promote parts) (Err e)
promote_bad parts e h = carried (λ (read : List ℕ × ℕ × Bool × List ℕ). IsPromotion read.0 read.1 read.2 read.3 parts) (λ line. IsWorded line keywords.Promote parts) e (promote_parts parts) h
