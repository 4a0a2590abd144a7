use Rattle.std.proofs.Common.{refl}
use Rattle.vt_memdisk.proofs.Combinations.{only_synced}
use Rattle.vt_memdisk.proofs.laws.nothing_pending.Goals as goal

pub returns : goal.returns
returns c synced pending none = only_synced synced synced pending none refl
