-- Where the link of a dialer in memory is.
use Rattle.std.specs.Prelude.{Option, Some, None}
use Rattle.vt_conf.specs.declared.address.Address.{Address}
use Rattle.vt_out.specs.declared.mem_link.MemLink.{MemLink}
use Rattle.vt_dial.specs.declared.place.Place.{Place}
use Rattle.vt_dial.specs.declared.place.Place.TheVariants.{Waiting, Out, Back, Lost}
use Rattle.vt_dial.specs.Dialled.{Dialled, nobody, out, back, more}

-- what became of the link to this server
abbrev pub dialled_at : Address → Place → Dialled MemLink
dialled_at server (Waiting link) = nobody
dialled_at server Out = out server
dialled_at server (Back link) = back server link
dialled_at server Lost = more

-- the link that waits to be made
abbrev pub waiting_in : Place → Option MemLink
waiting_in (Waiting link) = Some link
waiting_in Out = None
waiting_in (Back link) = None
waiting_in Lost = None
