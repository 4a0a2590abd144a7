-- A call that reads, and one for a group that is whole.
use Rattle.std.proofs.Common.{◌≡◌, ◌≢◌, ℕ, Option, Some, None}
use Rattle.vt_isect.specs.declared.phase.Phase.{Phase}
use Rattle.vt_isect.specs.declared.phase.Phase.TheVariants.{Rest, ReadSelector, ReadFrame, WriteFrame, SyncFrames, WriteSelector, SyncSelectors, ChangeHead}
use Rattle.vt_isect.specs.Remembered.{first_read}
use Rattle.vt_isect.specs.Section.{ChangesGroup, HasBucket, HasGroup, PutsEntries}
use Rattle.vt_isect.specs.Sound.{made_of}
use Rattle.vt_isect.specs.Writeback.{NextCallReads}

-- it reads a selector, or a frame
pub read_phase : (P : Phase → Type 0) → P ReadSelector → ((s : ℕ) → P (ReadFrame s)) → (p : Phase) → NextCallReads p → P p
read_phase P selector frame Rest it = absurd it
read_phase P selector frame ReadSelector it = selector
read_phase P selector frame (ReadFrame s) it = frame s
read_phase P selector frame (WriteFrame s) it = absurd it
read_phase P selector frame SyncFrames it = absurd it
read_phase P selector frame (WriteSelector j) it = absurd it
read_phase P selector frame SyncSelectors it = absurd it
read_phase P selector frame ChangeHead it = absurd it

-- or it is a call for a group
pub changes_phase : (P : Phase → Type 0) → ((s : ℕ) → P (WriteFrame s)) → P SyncFrames → ((j : ℕ) → P (WriteSelector j)) → P SyncSelectors → (p : Phase) → ChangesGroup p → P p
changes_phase P frame frames selector selectors Rest it = absurd it
changes_phase P frame frames selector selectors ReadSelector it = absurd it
changes_phase P frame frames selector selectors (ReadFrame s) it = absurd it
changes_phase P frame frames selector selectors (WriteFrame s) it = frame s
changes_phase P frame frames selector selectors SyncFrames it = frames
changes_phase P frame frames selector selectors (WriteSelector j) it = selector j
changes_phase P frame frames selector selectors SyncSelectors it = selectors
changes_phase P frame frames selector selectors ChangeHead it = absurd it

pub read_puts : (p : Phase) → NextCallReads p → PutsEntries p
read_puts = read_phase PutsEntries tt (λ s. tt)

pub read_whole : (p : Phase) → NextCallReads p → ¬ HasGroup p
read_whole = read_phase (λ p. ¬ HasGroup p) (λ has. has) (λ s has. has)

pub read_runs : (p : Phase) → NextCallReads p → p ≢ Rest
read_runs = read_phase (λ p. p ≢ Rest) (λ e. cc) (λ s e. cc)

pub read_apart : (p : Phase) → NextCallReads p → p ≢ ChangeHead
read_apart = read_phase (λ p. p ≢ ChangeHead) (λ e. cc) (λ s e. cc)

pub read_frame : (k : ℕ) (p : Phase) → NextCallReads p → p ≢ WriteFrame k
read_frame k = read_phase (λ p. p ≢ WriteFrame k) (λ e. cc) (λ s e. cc)

pub read_selector : (k : ℕ) (p : Phase) → NextCallReads p → p ≢ WriteSelector k
read_selector k = read_phase (λ p. p ≢ WriteSelector k) (λ e. cc) (λ s e. cc)

pub read_made : (j : ℕ) (p : Phase) → NextCallReads p → made_of p j ≡ 1
read_made j = read_phase (λ p. made_of p j ≡ 1) (λ i. 1) (λ s i. 1)

-- a frame is read first where it is remembered
pub first_frame : (current : Option ℕ) (number : ℕ) → first_read current ≡ ReadFrame number → current ≡ Some number
first_frame None number e = absurd (cc)
first_frame (Some n) number e = cc

-- the group's syncs and the writes of its selectors
pub whole_phase : (P : Phase → Type 0) → P SyncFrames → ((j : ℕ) → P (WriteSelector j)) → P SyncSelectors → (p : Phase) → HasGroup p → P p
whole_phase P frames selector selectors Rest it = absurd it
whole_phase P frames selector selectors ReadSelector it = absurd it
whole_phase P frames selector selectors (ReadFrame s) it = absurd it
whole_phase P frames selector selectors (WriteFrame s) it = absurd it
whole_phase P frames selector selectors SyncFrames it = frames
whole_phase P frames selector selectors (WriteSelector j) it = selector j
whole_phase P frames selector selectors SyncSelectors it = selectors
whole_phase P frames selector selectors ChangeHead it = absurd it

pub whole_puts : (p : Phase) → HasGroup p → PutsEntries p
whole_puts = whole_phase PutsEntries tt (λ j. tt) tt

pub whole_bucket : (p : Phase) → HasGroup p → ¬ HasBucket p
whole_bucket = whole_phase (λ p. ¬ HasBucket p) (λ has. has) (λ j has. has) (λ has. has)
