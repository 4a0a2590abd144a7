-- A record whose fields stand in the metadata.
use Rattle.std.specs.Prelude.{◌==◌, drop, slice_index, if◌then◌else◌}
use Rattle.byteorder.specs.Endian.{big_number}
use Rattle.vac_meta.specs.declared.decoding.Found.{Found}
use Rattle.vac_meta.specs.declared.record.Record.{Record}
use Rattle.vac_meta.specs.declared.record.RecordKind.TheVariants.{File, Folder}

-- what its fields say
abbrev pub found_record : Found → Record
found_record f = record {
  name = f.name.now;
  kind = if slice_index f.numbers.now 0 == 0 then File else Folder;
  entry = big_number 4 (drop 1 f.numbers.now);
  mode = big_number 4 (drop 5 f.numbers.now);
  mtime = big_number 4 (drop 9 f.numbers.now);
  qid = big_number 8 (drop 13 f.numbers.now);
  uid = f.uid.now;
  gid = f.gid.now;
}
