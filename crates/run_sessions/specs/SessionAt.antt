-- The command `session STORE`: one session over a store, in memory or of a configuration (venti(8)).
use Rattle.std.specs.Prelude.{ℕ, ◌≡◌, ◌≢◌, ◌⊎◌, List}
use Rattle.vt_disk.specs.Members.{DiskOf}
use Rattle.run_base.specs.Change.{StreamChange, FilesChange, NoneHandedOut, NoneRead, PartsChange}
use Rattle.run_sessions.specs.Session.{DoesSession}
use Rattle.run_sessions.specs.SessionConf.{DoesSessionConf}
use Rattle.run_base.specs.Errors.{CommandOutcome}
use Rattle.run_base.specs.Places.{in_memory}

-- what `session` does, by its word: over a store in memory, or over a configuration's
abbrev pub DoesSessionAt : {R K I P D : Type 0} → (List ℕ → List ℕ) → DiskOf D
    → (store : List ℕ) → CommandOutcome → StreamChange R → StreamChange K → FilesChange I
    → PartsChange P D → Type 0
DoesSessionAt score disk store outcome source sink files parts =
    ((store ≡ in_memory) × DoesSession score outcome source sink × NoneRead files
    × NoneHandedOut parts)
    ⊎ ((store ≢ in_memory) × DoesSessionConf score disk store outcome source sink files parts)
