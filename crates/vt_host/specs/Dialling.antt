-- How an address is dialled.
use Rattle.std.specs.Prelude.{ℕ, ◌≡◌, ◌⊎◌, true, false, List, [], ◌∷◌, ◌++◌, Some, Result, MatchResult, IsUtf8}
use Rattle.vt_conf.specs.declared.address.Address.{Address}
use Rattle.vt_dial.specs.Dialled.{Dialled, nobody, out, back, more}
use Rattle.vt_host.specs.Calls.{Connecting}
use Rattle.vt_host.specs.declared.dialer.StdDialer.{StdDialer}
use Rattle.vt_host.specs.declared.faults.Faults.{Faults}
use Rattle.vt_host.specs.declared.link.StdLink.{StdLink}

-- what makes the connections of a dialer
abbrev pub dialer_net : {N : Type 0} → StdDialer N → N
dialer_net dialer = dialer.net

-- How many calls of the system's dialer have failed.
abbrev pub dialer_faults : {N : Type 0} → StdDialer N → ℕ
dialer_faults dialer = dialer.faults.count

-- the address has one host, which is this text
abbrev pub NamesHost : Address → (host : List ℕ) → Type 0
NamesHost address host = (address.host ≡ Some host) × IsUtf8 host

-- A connection to the host of an address, at its port, was to be made, and to nobody else; none
-- was, where the address is that of every host, or its host's name isn't UTF-8.
abbrev pub Connects : {T E : Type 0} → Address → Result T E → (old new : List Connecting) → Type 0
Connects address result old new = MatchResult result
    (λ _. (host : List ℕ) × NamesHost address host
    × (new ≡ old ++ record { host = host; port = address.port; ok = true } ∷ []))
    (λ _. (((host : List ℕ) → ¬ NamesHost address host) × (new ≡ old))
    ⊎ ((host : List ℕ) × NamesHost address host
    × (new ≡ old ++ record { host = host; port = address.port; ok = false } ∷ [])))

-- the two directions of a connection as a link, with the counts of its failed calls
abbrev pub link_of : {I O : Type 0} → (both : I × O) → (reads writes : Faults) → StdLink I O
link_of both reads writes = record {
  source = record { input = both.0; faults = reads };
  sink = record { output = both.1; faults = writes };
}

-- What became of a dialer's link, where this became of its connection: one that is back has the
-- counts that the dialer keeps.
abbrev pub linked : {I O : Type 0} → (reads writes : Faults) → Dialled (I × O) → Dialled (StdLink I O)
linked reads writes nobody = nobody
linked reads writes (out to) = out to
linked reads writes (back to both) = back to (link_of both reads writes)
linked reads writes more = more

-- of this dialer
abbrev pub linked_of : {N I O : Type 0} → Dialled (I × O) → StdDialer N → Dialled (StdLink I O)
linked_of made dialer = linked dialer.read_faults dialer.write_faults made
