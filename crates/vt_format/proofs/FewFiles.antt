-- How many files a configuration names.
use Rattle.std.proofs.Common.{◌≡◌, ◌+◌, ◌^◌, ◌<◌, ◌≤◌, Option, Some, None, length, arith, length-append}
use Rattle.vt_conf.specs.declared.conf.Conf.{Conf}
use Rattle.vt_conf.specs.declared.conf.PartFile.{PartFile}
use Rattle.vt_format.specs.Index.{files_behind, files_in_order, listed}

listed_few : (o : Option PartFile) → length (listed o) ≤ 1
listed_few None = omega arith
listed_few (Some file) = omega arith

pub few_files : (conf : Conf) → length conf.arenas.items ≤ 64 → length conf.sections.items ≤ 64 → length (files_in_order conf) < 2 ^ 32
few_files conf arenas sections =
    let all : length (files_in_order conf) ≡ length conf.arenas.items + length (files_behind conf) = length-append conf.arenas.items (files_behind conf) in
    let behind : length (files_behind conf) ≡ length conf.sections.items + length (listed conf.filter) =
    length-append conf.sections.items (listed conf.filter) in
    omega (arith, arenas, sections, all, behind, listed_few conf.filter)
