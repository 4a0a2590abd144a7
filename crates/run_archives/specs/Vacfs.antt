-- The command `vacfs STORE SCORE`: an archive as a tree of files for a client that speaks 9P2000 on
-- the standard streams (vacfs(4)).
use Rattle.std.specs.Prelude.{ℕ, ◌≡◌, ◌≢◌, ◌⊎◌, false, OnErr, Result, Ok, Err, List, []}
use Rattle.vt_base.specs.ScoreText.{SpellsScore}
use Rattle.vt_base.specs.declared.why.Why.TheVariants as whys
use Rattle.vt_disk.specs.Members.{DiskOf}
use Rattle.vt_use.specs.Places.{UsesAt}
use Rattle.vt_use.specs.declared.used_at.StoreAt.{StoreAt}
use Rattle.vt_use.specs.declared.used_at.StoreError.{StoreError}
use Rattle.vt_use.specs.declared.used_at.UsedAt.{UsedAt}
use Rattle.vac_read.specs.declared.error.VacBad.{VacBad}
use Rattle.nine_view.specs.declared.serving.Served.{Served}
use Rattle.vac_view.specs.Viewing.{ViewsBy}
use Rattle.run_base.specs.declared.error.CommandError.TheVariants.{BadArchive, NoMemory, Refused}
use Rattle.run_base.specs.declared.place.Place.{Place}
use Rattle.run_base.specs.declared.place.Place.TheVariants.{Memory, At}
use Rattle.run_base.specs.Blocks.{SaysNoScore, TellsRefusal}
use Rattle.run_base.specs.Change.{StreamChange, DialerChange, FilesChange, IsUntouched, PartsChange, PassesNothing, UsesNoStore, UsesNothing}
use Rattle.run_base.specs.Errors.{CommandOutcome}
use Rattle.run_base.specs.Formatting.{RefusesWord}
use Rattle.run_base.specs.Members.{LinkOf}
use Rattle.run_base.specs.Places.{AtPlace}
use Rattle.run_archives.specs.Viewed.{outcome_of_view, passed_over}

-- ---- in memory

-- why none is found there
abbrev pub IsUnmade : (List ℕ → List ℕ) → (s : List ℕ) → CommandOutcome → Type 0
IsUnmade score_of s outcome =
    (outcome ≡ Err NoMemory)
    ⊎ ((s ≡ score_of []) × (outcome ≡ Err (BadArchive 0)))
    ⊎ ((s ≢ score_of []) × (outcome ≡ Err (Refused whys.Absent)))

-- The store in memory has no block but that of no bytes, which is no root, so it has no archive of
-- this score; or memory ran out before that was known. Nothing is done.
pub record FindsNoArchive (score_of : List ℕ → List ℕ) (s : List ℕ) (outcome : CommandOutcome)
    (Idle : Type 0) : Type 0 where
  pub why : IsUnmade score_of s outcome
  pub idle : Idle

-- ---- at a configuration or a server

-- what came of an archive is told, or why its store wasn't used; then nothing was read or written
abbrev pub TellsView : {R K : Type 0} → (file : List ℕ) → StoreAt
    → Result (UsedAt (Result Served VacBad)) StoreError → CommandOutcome → StreamChange R
    → StreamChange K → Type 0
TellsView file at (Ok used) outcome source sink = (outcome ≡ outcome_of_view used.output used.refusal)
    × OnErr used.output (PassesNothing source sink)
TellsView file at (Err bad) outcome source sink =
    TellsRefusal file at bad outcome × PassesNothing source sink

-- an archive of the store at this place was asked for, and served, or couldn't be read; or the store
-- wasn't used, for its cause
pub record ViewsAt {R K P D N L : Type 0} (score_of : List ℕ → List ℕ) (disk : DiskOf D)
    (link : LinkOf L) (file : List ℕ) (at : StoreAt) (s : List ℕ) (outcome : CommandOutcome)
    (source : StreamChange R) (sink : StreamChange K) (parts : PartsChange P D)
    (dialer : DialerChange N L) : Type 0 where
  pub used : Result (UsedAt (Result Served VacBad)) StoreError
  pub uses : UsesAt score_of disk link at 0 false (λ result S act holds calls from to.
      ViewsBy act holds score_of s (passed_over source sink) result calls from to) used parts dialer
  pub told : TellsView file at used outcome source sink

-- ---- the command

-- the archive of this score, of the store at this place, was served, or it is told why not
abbrev pub ViewsPlace : {R K P D N L : Type 0} → (List ℕ → List ℕ) → DiskOf D → LinkOf L
    → (store s : List ℕ) → CommandOutcome → StreamChange R → StreamChange K → PartsChange P D
    → DialerChange N L → Place → Type 0
ViewsPlace score_of disk link store s outcome source sink parts dialer Memory =
    FindsNoArchive score_of s outcome (IsUntouched source × UsesNoStore parts dialer sink)
ViewsPlace score_of disk link store s outcome source sink parts dialer (At at) =
    ViewsAt score_of disk link store at s outcome source sink parts dialer

-- What `vacfs` does: its word is no score, or the archive of that score was served.
abbrev pub DoesVacfs : {R K I P D N L : Type 0} → (List ℕ → List ℕ) → DiskOf D → LinkOf L
    → (store score_word : List ℕ) → CommandOutcome → StreamChange R → StreamChange K → FilesChange I
    → PartsChange P D → DialerChange N L → Type 0
DoesVacfs score_of disk link store score_word outcome source sink files parts dialer =
    RefusesWord (SaysNoScore score_word) outcome
    (IsUntouched source × UsesNothing files parts dialer sink)
    ⊎ ((s : List ℕ) × SpellsScore s score_word
    × AtPlace store files (ViewsPlace score_of disk link store s outcome source sink parts dialer)
    outcome (IsUntouched source × UsesNoStore parts dialer sink))
