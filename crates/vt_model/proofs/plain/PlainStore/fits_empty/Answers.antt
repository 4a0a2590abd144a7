use Rattle.std.proofs.Common.{◌∙◌}
use Rattle.vt_model.proofs.Room.{fits_alone}
use Rattle.vt_model.proofs.plain.PlainStore.fits_empty.Goals as goal

pub returns : goal.returns
returns g c =
    let layout = c.self.inside.layout in
    rw (← c.self.view_is)
    ((rw (c.version_of.ensures, c.room_of.ensures) at c.has_room.ensures)
    ∙ fits_alone layout c.args.arena c.args.len)
