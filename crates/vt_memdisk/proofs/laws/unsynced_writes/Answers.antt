use Rattle.vt_disk.proofs.Bytes.{same_but_written}
use Rattle.vt_memdisk.proofs.Writes.{left_is_image, image_is_left}
use Rattle.vt_memdisk.proofs.laws.unsynced_writes.Goals as goal

pub returns-clause-left : goal.returns-clause-left
returns-clause-left c = left_is_image

pub returns-clause-image : goal.returns-clause-image
returns-clause-image c = image_is_left

pub returns-clause-whole : goal.returns-clause-whole
returns-clause-whole c = same_but_written
