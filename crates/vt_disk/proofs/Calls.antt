-- What one call after another did to a disk.
use Rattle.std.specs.Prelude.{Result, Ok, Err, OnErr}
use Rattle.std.proofs.Common.{ℕ, ◌+◌, ◌≤◌, IsTrue, List, ◌∙◌, arith}
use Rattle.vt_disk.specs.Disk.{ChangesAt, AreAmong}
use Rattle.vt_disk.specs.Calls.{OnlyReads, WritesAt, MadeCalls}
use Rattle.vt_disk.specs.Members.{DiskOf}
use Rattle.vt_disk.proofs.Bytes.{same_refl, same_then, same_wider}

-- what holds anyway holds after an error
pub on_err : {T E P : Type 0} (r : Result T E) → P → OnErr r P
on_err (Ok v) holds = tt
on_err (Err e) holds = holds

module _ (P : ℕ → Type 0) where
  -- one change after another
  pub changes_then : (first second third : List ℕ → Type 0) → ChangesAt P first second
      → ChangesAt P second third → ChangesAt P first third
  changes_then first second third one two c left =
      let back = two c left in
      let from = one back.0 back.1 in
      (from.0, from.1, same_then P from.0 back.0 c from.2 back.2)

  -- fewer images
  pub changes_none : (first second : List ℕ → Type 0) → AreAmong second first
      → ChangesAt P first second
  changes_none first second fewer c left = (c, fewer c left, same_refl P c)

  -- a change at P is one at all that holds P
  pub changes_wider : (Q : ℕ → Type 0) → ((i : ℕ) → P i → Q i) → (first second : List ℕ → Type 0)
      → ChangesAt P first second → ChangesAt Q first second
  changes_wider Q wider first second changes c left =
      let from = changes c left in
      (from.0, from.1, same_wider P Q wider from.0 c from.2)

module _ {D : Type 0} (disk : DiskOf D) where
  pub writes_wider : (P Q : ℕ → Type 0) → ((i : ℕ) → P i → Q i) → (fewer most : ℕ) → fewer ≤ most
      → (old new : D) → WritesAt disk P fewer old new → WritesAt disk Q most old new
  writes_wider P Q wider fewer most few old new writes = record {
    bytes = λ told. same_wider P Q wider (disk.bytes old) (disk.bytes new) (writes.bytes told);
    images = changes_wider P Q wider (disk.images old) (disk.images new) writes.images;
    size = writes.size;
    calls = λ told. omega (arith, writes.calls told);
  }

  pub writes_then : (P : ℕ → Type 0) (first second : ℕ) (old mid new : D)
      → WritesAt disk P first old mid → WritesAt disk P second mid new
      → WritesAt disk P (first + second) old new
  writes_then P first second old mid new one two = record {
    bytes = λ told. same_then P (disk.bytes old) (disk.bytes mid) (disk.bytes new) (one.bytes told)
        (two.bytes told);
    images = changes_then P (disk.images old) (disk.images mid) (disk.images new) one.images
        two.images;
    size = two.size ∙ one.size;
    calls = λ told. omega (arith, one.calls told, two.calls told);
  }

  -- reads and syncs change nothing
  pub reads_as_writes : (P : ℕ → Type 0) (most : ℕ) (old new : D) → OnlyReads disk most old new
      → WritesAt disk P most old new
  reads_as_writes P most old new reads = record {
    bytes = λ told. rw reads.bytes (same_refl P (disk.bytes old));
    images = changes_none P (disk.images old) (disk.images new) reads.images;
    size = reads.size;
    calls = reads.calls;
  }

  pub reads_then : (first second : ℕ) (old mid new : D) → OnlyReads disk first old mid
      → OnlyReads disk second mid new → OnlyReads disk (first + second) old new
  reads_then first second old mid new one two = record {
    bytes = two.bytes ∙ one.bytes;
    images = λ c left. one.images c (two.images c left);
    size = two.size ∙ one.size;
    calls = λ told. omega (arith, one.calls told, two.calls told);
  }

  pub made_then : (first second : ℕ) (old mid new : D) → MadeCalls disk first old mid
      → MadeCalls disk second mid new → MadeCalls disk (first + second) old new
  made_then first second old mid new one two told = omega (arith, one told, two told)
