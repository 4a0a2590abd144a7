use Rattle.vt_core.proofs.MarksRead.{head_read, mark_read, one_head, one_mark}
use Rattle.vt_core.proofs.laws.marks_are_read.Goals as goal

pub returns-clause-heads : goal.returns-clause-heads
returns-clause-heads g c = λ score k h i s tells sound at none.
    head_read g.D.Disk tells (λ d. g.met.D.Disk.read_is_image d tells) score k h sound c.images_agree.ensures.head i s at none

pub returns-clause-mark : goal.returns-clause-mark
returns-clause-mark g c = λ score k h b tells sound is none.
    mark_read g.D.Disk tells (λ d. g.met.D.Disk.read_is_image d tells) score k h sound c.crash_gives_old_or_new.ensures.rest b is none

pub returns-clause-one_head : goal.returns-clause-one_head
returns-clause-one_head g c = λ devices i head other tells a b.
    one_head g.D.Disk tells c.sections_are_told_apart.ensures.head devices i head other a b

pub returns-clause-one_mark : goal.returns-clause-one_mark
returns-clause-one_mark g c = λ devices mark other tells a b.
    one_mark g.D.Disk tells c.saved_filters_are_told_apart.ensures.one_saved devices mark other a b
