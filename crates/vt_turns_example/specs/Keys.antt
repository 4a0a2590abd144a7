-- Which keys there are, and the place of a key's Bloom bit.
use Rattle.std.specs.Prelude.{ℕ, ◌<◌, ◌-◌, ◌^◌}
use Rattle.vt_turns_example.specs.declared.link.Ask.{Ask}
use Rattle.vt_turns_example.specs.declared.link.Ask.TheVariants.{Write, Look}

-- each key but the largest number
abbrev pub IsKey : ℕ → Type 0
IsKey key = key < 2 ^ 64 - 1

-- the key that is asked for
abbrev pub key_of : Ask → ℕ
key_of (Write block) = block.key
key_of (Look key) = key

-- what is asked is about a key
abbrev pub IsAsk : Ask → Type 0
IsAsk ask = IsKey (key_of ask)
