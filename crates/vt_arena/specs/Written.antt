-- The device calls of a commit.
use Rattle.std.specs.Prelude.{ℕ, ◌+◌, nat_lt, if◌then◌else◌, List, [], length, take}
use Rattle.std.specs.Option.{option_map_or}
use Rattle.std.specs.Prelude.{slice_get}
use Rattle.vt_disk.specs.declared.region.Region.{Region}
use Rattle.vt_disk.specs.DeviceCalls.{DeviceCall}
use Rattle.vt_disk.specs.DeviceCalls.DeviceCall.{write}
use Rattle.vt_twin.specs.Twin.{next_call as next_head_call}
use Rattle.vt_clump.specs.declared.packed.Packed.{Packed}
use Rattle.vt_model.specs.declared.TheConstants.{ARENA_HEAD_LEN}
use Rattle.vt_arena.specs.Arena.{ArenaState, pieces, changing}
use Rattle.vt_arena.specs.Layout.{directory_place, head_place}
use Rattle.vt_arena.specs.Whole.{staged_room, staged_directory}

-- the bytes of the clump that is staged at this place
abbrev pub clump_at : (staged : List Packed) → (n : ℕ) → List ℕ
clump_at staged n = option_map_or (λ p. p.bytes) (slice_get staged n) []

-- The write of the next piece: the next clump behind those before it or, once all clumps are
-- written, their directory below the one that is there.
abbrev pub next_piece : ArenaState → Region → DeviceCall
next_piece a region =
    if nat_lt a.written (length a.staged) then
    write (region.start + ARENA_HEAD_LEN + a.head.used + staged_room (take a.written a.staged))
    (clump_at a.staged a.written)
    else write (directory_place region (a.head.clumps + length a.staged))
    (staged_directory a.staged)

-- the next call of a commit: that write or, once all pieces are written, the next call of the
-- head's change
abbrev pub next_commit_call : ArenaState → Region → DeviceCall
next_commit_call a region =
    if nat_lt a.written (pieces a) then next_piece a region
    else next_head_call (changing a) (head_place region)
