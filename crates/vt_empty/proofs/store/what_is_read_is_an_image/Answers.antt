use Rattle.vt_empty.proofs.store.what_is_read_is_an_image.Goals as goal

pub returns : goal.returns
returns g c = λ disk tells. g.met.D.Disk.read_is_image disk tells
