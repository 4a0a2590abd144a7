-- The metadata of good items spells their records.
use Rattle.std.proofs.Common.{ℕ, ◌+◌, ◌^◌, ◌<◌, ◌≤◌, Option, Some, None, List, length, refl, arith, length-append}
use Rattle.std.specs.List.{AllByRecursion}
use Rattle.vt_out.specs.FolderItems.{Items, none, file, folder, other}
use Rattle.vac_meta.specs.declared.record.Record.{Record}
use Rattle.vac_meta.specs.declared.record.RecordKind.{RecordKind}
use Rattle.vac_meta.specs.declared.record.RecordKind.TheVariants.{File, Folder}
use Rattle.vac_meta.specs.Records.{IsRecord, Ascend, SpellsMetadata, all_spelled, record_bytes}
use Rattle.vac_model.specs.declared.TheConstants.{MAX_METADATA}
use Rattle.vac_model.specs.Archives.{item_record, records_of, metadata}
use Rattle.vac_model.specs.Good.{IsGood, AreGood}
use Rattle.vac_model.specs.Kept.{Numbered}

-- how many entries items have
abbrev pub width : Items Numbered → ℕ
width none = 0
width (file about bytes others) = 1 + width others
width (folder about inside others) = 2 + width others
width (other about others) = width others

is_record : (last : Option (List ℕ)) (about : Numbered) (kind : RecordKind) (n : ℕ)
    → IsGood last about → n < 2 ^ 32 → IsRecord (item_record about kind n)
is_record last about kind n good small = record {
  fits = record { name = good.name; uid = good.uid; gid = good.gid };
  ranges = record {
    entry = small;
    mode = good.mode_fits;
    mtime = good.mtime;
    qid = good.qid;
  };
}

are_records : (last : Option (List ℕ)) (n : ℕ) (items : Items Numbered) → AreGood last items
    → n + width items < 2 ^ 32 → AllByRecursion IsRecord (records_of n items)
are_records last n none good small = tt
are_records last n (file about bytes others) good small = (
  is_record last about File n good.0 (omega (arith, small)),
  are_records (Some about.facts.name) (n + 1) others good.2 (omega (arith, small)),
)
are_records last n (folder about inside others) good small = (
  is_record last about Folder n good.0 (omega (arith, small)),
  are_records (Some about.facts.name) (n + 2) others good.3 (omega (arith, small)),
)
are_records last n (other about others) good small = absurd good

ascend : (last : Option (List ℕ)) (n : ℕ) (items : Items Numbered) → AreGood last items
    → Ascend last (records_of n items)
ascend last n none good = tt
ascend last n (file about bytes others) good =
    (good.0.next, ascend (Some about.facts.name) (n + 1) others good.2)
ascend last n (folder about inside others) good =
    (good.0.next, ascend (Some about.facts.name) (n + 2) others good.3)
ascend last n (other about others) good = absurd good

-- a record has more bytes than its item has entries
record_is_long : (r : Record) → 2 ≤ length (record_bytes r)
record_is_long r = omega arith

few_entries : (n : ℕ) (items : Items Numbered)
    → width items ≤ length (all_spelled (records_of n items))
few_entries n none = omega arith
few_entries n (file about bytes others) =
    let r = item_record about File n in
    omega (
      arith,
      length-append (record_bytes r) (all_spelled (records_of (n + 1) others)),
      record_is_long r,
      few_entries (n + 1) others,
    )
few_entries n (folder about inside others) =
    let r = item_record about Folder n in
    omega (
      arith,
      length-append (record_bytes r) (all_spelled (records_of (n + 2) others)),
      record_is_long r,
      few_entries (n + 2) others,
    )
few_entries n (other about others) = few_entries n others

pub is_spelled : (items : Items Numbered) → AreGood None items
    → length (metadata items) ≤ MAX_METADATA → SpellsMetadata (records_of 0 items) (metadata items)
is_spelled items good short =
    let most : length (metadata items) ≤ 16777216 = short in
    record {
      allowed = record {
        each = are_records None 0 items good (omega (arith, most, few_entries 0 items));
        ascending = ascend None 0 items good;
      };
      is = refl;
    }

pub width_fits : (items : Items Numbered) → length (metadata items) ≤ MAX_METADATA
    → width items ≤ 16777216
width_fits items short =
    let most : length (metadata items) ≤ 16777216 = short in
    omega (arith, most, few_entries 0 items)
