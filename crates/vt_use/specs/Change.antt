-- What was done to the partitions, and to the dialer, which makes links.
use Rattle.std.specs.Prelude.{ℕ, ◌≡◌, Bool, List}
use Rattle.vt_partitions.specs.Parts.{Standing}
use Rattle.vt_dial.specs.Dialled.{Dialled}
use Rattle.vt_use.specs.Members.{PartsOf, DialerOf, LinkOf}

-- The partitions before a while and behind it: they themselves; what stands under which name, where
-- they tell it; and their count of faults.
pub record PartsChange (Parts Disk : Type 0) : Type 0 where
  pub before : Parts
  pub after : Parts
  pub tells : Bool
  pub old : (name : List ℕ) → Standing Disk
  pub new : (name : List ℕ) → Standing Disk
  pub faults : ℕ
  pub faults' : ℕ

-- what was done to the partitions by name over a while
abbrev pub parts_change : {P D : Type 0} → PartsOf P D → (before after : P) → PartsChange P D
parts_change parts before after = record {
  before = before;
  after = after;
  tells = parts.tells;
  old = parts.standing before;
  new = parts.standing after;
  faults = parts.faults before;
  faults' = parts.faults after;
}

-- The dialer before a while and behind it: it itself; what became of its link, where it tells it;
-- its count of faults; and how many calls of reading and of writing a link of it counts as failed.
pub record DialerChange (Dialer Link : Type 0) : Type 0 where
  pub before : Dialer
  pub after : Dialer
  pub tells : Bool
  pub old : Dialled Link
  pub new : Dialled Link
  pub faults : ℕ
  pub faults' : ℕ
  pub read_faults : Link → ℕ
  pub write_faults : Link → ℕ

-- what was done to the dialer and to its links over a while
abbrev pub dialer_change : {N L : Type 0} → DialerOf N L → LinkOf L → (before after : N)
    → DialerChange N L
dialer_change dialer link before after = record {
  before = before;
  after = after;
  tells = dialer.tells;
  old = dialer.dialled before;
  new = dialer.dialled after;
  faults = dialer.faults before;
  faults' = dialer.faults after;
  read_faults = link.read_faults;
  write_faults = link.write_faults;
}

-- no partition was handed out
abbrev pub NoneHandedOut : {P D : Type 0} → PartsChange P D → Type 0
NoneHandedOut parts = parts.after ≡ parts.before

-- no link was made
abbrev pub NoneDialled : {N L : Type 0} → DialerChange N L → Type 0
NoneDialled dialer = dialer.after ≡ dialer.before
