-- How far the numbers of a summary come.
use Rattle.std.proofs.Common.{◌+◌, ◌≤◌, ℕ, Bool, true, false, arith}
use Rattle.vt_rehearse.specs.declared.summary.Summary.{Summary}
use Rattle.vt_rehearse.specs.Counts.{nothing_done, with_compared, with_crash, with_events, with_read, with_synced, with_write}
use Rattle.vt_rehearse.specs.Limits.{AreAtMost}

pub more : (a b : ℕ) (s : Summary) → a ≤ b → AreAtMost a s → AreAtMost b s
more a b s less it = omega (arith, less, it)

pub more_events : (a n : ℕ) (s : Summary) → AreAtMost a s → AreAtMost (a + n) (with_events n s)
more_events a n s it = omega (arith, it)

pub more_compared : (a : ℕ) (same : Bool) (s : Summary) → AreAtMost a s → AreAtMost (a + 1) (with_compared same s)
more_compared a same s it = omega (arith, it)

-- a write is counted three times: as an event, as a write, and by what it came to
pub more_write : (is_held : Bool) (a : ℕ) (s : Summary) → AreAtMost a s → AreAtMost (a + 3) (with_write is_held s)
more_write true a s it = omega (arith, it)
more_write false a s it = omega (arith, it)

pub more_read : (is_found : Bool) (a : ℕ) (s : Summary) → AreAtMost a s → AreAtMost (a + 3) (with_read is_found s)
more_read true a s it = omega (arith, it)
more_read false a s it = omega (arith, it)

pub more_synced : (a : ℕ) (s : Summary) → AreAtMost a s → AreAtMost (a + 1) (with_synced s)
more_synced a s it = omega (arith, it)

pub more_crash : (a lost : ℕ) (s : Summary) → AreAtMost a s → AreAtMost (a + lost + 1) (with_crash lost s)
more_crash a lost s it = omega (arith, it)

pub none_counted : (n : ℕ) → AreAtMost n nothing_done
none_counted n = omega arith
