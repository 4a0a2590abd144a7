-- What each round of a rehearsal does, by what is drawn for it.
use Rattle.std.specs.Prelude.{ℕ, zero, suc, ⊤, ◌<◌, ◌==◌, List, [], ◌∷◌, nat_lt, if◌then◌else◌}
use Rattle.vt_memdisk.specs.declared.crash.CrashMode.{CrashMode}
use Rattle.vt_memdisk.specs.declared.crash.CrashMode.TheVariants.{Synced, Written, EvenWritten, Garbled}
use Rattle.vt_rehearse.specs.declared.rounds.Round.{Round}
use Rattle.vt_rehearse.specs.declared.rounds.Round.TheVariants.{Write, Read, Sync, Commit, Begin, Advance, Evict, Crash}
use Rattle.vt_rehearse.specs.declared.TheConstants.{SESSIONS, SHARDS}
use Rattle.vt_rehearse.specs.declared.words.TheConstants.{WORDS}
use Rattle.vt_rehearse.specs.Draws.{drawn, next_draw}

-- what a crash leaves, by a number below 4
abbrev pub mode_of : ℕ → CrashMode
mode_of n = if n == 0 then Synced else if n == 1 then Written
    else if n == 2 then EvenWritten else Garbled

-- The round of this kind, from 0 to 15, whose further numbers are drawn from x on: of a write and
-- a read the session and then the word; of a sync the session; of a shard's work the shard; of a
-- crash its mode.
abbrev pub round_of : (kind x : ℕ) → Round
round_of kind x =
    if nat_lt kind 6 then Write (drawn x 3) (drawn (next_draw x) 64)
    else if nat_lt kind 9 then Read (drawn x 3) (drawn (next_draw x) 64)
    else if kind == 9 then Sync (drawn x 3)
    else if nat_lt kind 12 then Commit
    else if kind == 12 then Begin (drawn x 2)
    else if kind == 13 then Advance (drawn x 2)
    else if kind == 14 then Evict (drawn x 2)
    else Crash (mode_of (drawn x 4))

-- from where the next round is drawn
abbrev pub behind : (kind x : ℕ) → ℕ
behind kind x =
    if nat_lt kind 9 then next_draw (next_draw x)
    else if kind == 9 then next_draw x
    else if nat_lt kind 12 then x
    else next_draw x

-- the round that is drawn at x, its kind first
abbrev pub round_at : (x : ℕ) → Round
round_at x = round_of (drawn x 16) (next_draw x)

-- the number behind those that a round was drawn by
abbrev pub behind_round : (x : ℕ) → ℕ
behind_round x = behind (drawn x 16) (next_draw x)

-- The sessions, words and shards of the round are those that there are.
abbrev pub IsDrawn : Round → Type 0
IsDrawn (Write session word) = (session < SESSIONS) × (word < WORDS)
IsDrawn (Read session word) = (session < SESSIONS) × (word < WORDS)
IsDrawn (Sync session) = session < SESSIONS
IsDrawn Commit = ⊤
IsDrawn (Begin shard) = shard < SHARDS
IsDrawn (Advance shard) = shard < SHARDS
IsDrawn (Evict shard) = shard < SHARDS
IsDrawn (Crash mode) = ⊤

-- so many rounds, one after another
abbrev pub rounds_from : (x count : ℕ) → List Round
rounds_from x zero = []
rounds_from x (suc count) = round_at x ∷ rounds_from (behind_round x) count
