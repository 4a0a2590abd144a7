-- Files that a fake keeps by name.
use Rattle.std.specs.Prelude.{ℕ, List, bytes_eq, codes, replicate, if◌then◌else◌}

-- What a file of this name has: lines that name users, lines that name groups, or eight sevens.
unfoldable pub kept_under : (name : List ℕ) → List ℕ
kept_under name = if bytes_eq name (codes "/etc/passwd")
    then codes "root:x:0:0:root:/root:/bin/sh\n\nnoid\nbad:x:01:1\na:x:7:1:\nb::7:1:\n:x:8\nlast:x:9"
    else if bytes_eq name (codes "/etc/group")
    then codes "wheel:x:0:\nstaff:x:7:a\n" else replicate 8 7
