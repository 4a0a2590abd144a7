use Rattle.std.proofs.Common.{◌∙◌}
use Rattle.vt_model.specs.Places.{lengths_in}
use Rattle.vt_model.specs.Stored.{history_of}
use Rattle.vt_model.proofs.Room.{fits_is, fits_none}
use Rattle.vt_model.proofs.plain.PlainStore.fits.Goals as goal

pub returns-in-Some : goal.returns-in-Some
returns-in-Some g c =
    let layout = c.self.inside.layout in
    let known = rw (c.version_of-version.ensures, c.room_of-room.ensures, c.deref.ensures.value) at c.in-Some.ensures.left in
    rw (← c.self.view_is)
    ((rw c.version_of-version.ensures at c.has_room.ensures)
    ∙ fits_is layout c.args.arena (lengths_in c.args.arena (history_of c.self.inside.blocks.items))
    c.args.len c.in-Some.left known)

pub returns-in-None : goal.returns-in-None
returns-in-None g c =
    let layout = c.self.inside.layout in
    let over = rw (c.version_of-version.ensures, c.room_of-room.ensures, c.deref.ensures.value) at c.in-None.ensures.left in
    rw (← c.self.view_is)
    (fits_none layout c.args.arena (lengths_in c.args.arena (history_of c.self.inside.blocks.items))
    c.args.len over)
