-- What a dialer in memory holds.
use Rattle.std.specs.Prelude.{ℕ, Option, Some}
use Rattle.vt_conf.specs.declared.address.Address.{Address}
use Rattle.vt_out.specs.declared.mem_link.MemLink.{MemLink}
use Rattle.vt_dial.specs.declared.mem_dialer.MemDialer.{MemDialer}
use Rattle.vt_dial.specs.Dialled.{Dialled}
use Rattle.vt_dial.specs.Places.{dialled_at, waiting_in}

-- the address of its server
abbrev pub server_of : MemDialer → Address
server_of dialer = record { host = Some dialer.host; port = dialer.port }

-- what became of its link
abbrev pub dialled_of : MemDialer → Dialled MemLink
dialled_of dialer = dialled_at (server_of dialer) dialer.place

-- the link that waits to be made
abbrev pub waiting_of : MemDialer → Option MemLink
waiting_of dialer = waiting_in dialer.place

-- How many calls of a dialer in memory have failed.
abbrev pub dialer_faults : MemDialer → ℕ
dialer_faults dialer = dialer.faults
