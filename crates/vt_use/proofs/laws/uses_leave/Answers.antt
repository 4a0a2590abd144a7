-- what stays, and what the end leaves
use Rattle.std.proofs.Common.{List, length, subst}
use Rattle.vt_model.specs.Places.{Setup}
use Rattle.vt_part.specs.Table.{Table}
use Rattle.vt_core.specs.Core.{devices_of, setup_of}
use Rattle.vt_core.specs.Mounting.{AllStandFor, EachStands}
use Rattle.vt_use.proofs.Marks.{marked_on}
use Rattle.vt_use.proofs.Uses.{end_keeps, end_marks, end_sound, use_keeps}
use Rattle.vt_use.proofs.laws.uses_leave.Goals as goal

pub returns : goal.returns
returns g c score now writes exchanges closed last old kept new it tells sound =
    let disk = g.D.Disk in
    let keeps = use_keeps score disk now writes exchanges closed old kept new it in
    let left = end_sound score disk closed kept new last tells sound writes it.ends in
    let marks = end_marks score disk closed kept new last tells sound writes it.ends in
    record {
      sound = left;
      keeps = keeps;
      durable = (end_keeps score disk closed kept new writes it.ends).store.durable;
      stands = subst (λ (t : List Table). EachStands score disk (setup_of old) t new.log.durable
          (devices_of new) last) keeps.store.tables
          (subst (λ (s : Setup). EachStands score disk s new.log.tables new.log.durable
          (devices_of new) last) keeps.store.setup
          (c.stores_can_be_mounted.ensures.prefix score new last left));
      done = λ is well. (
        marked_on disk (length last) new (marks is well)
            (λ i s. c.marks_are_read.ensures.heads score new last i s tells left)
            (λ b. c.marks_are_read.ensures.mark score new last b tells left),
        subst (λ (t : List Table). AllStandFor score disk (setup_of old) t
            (devices_of new) last (length last)) keeps.store.tables
            (subst (λ (s : Setup). AllStandFor score disk s new.log.tables (devices_of new)
            last (length last)) keeps.store.setup
            (c.stores_can_be_mounted.ensures.all score new last left (marks is well).durable)),
      );
    }
