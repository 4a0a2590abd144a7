-- A setup for which devices stand has the versions of the log that was found on them.
use Rattle.std.proofs.Common.{◌≡◌, ℕ, List, Option, map, sym, ◌∙◌, subst, take}
use Rattle.std.specs.Prelude.{IsTrue}
use Rattle.std.specs.Option.{option_to_list}
use Rattle.vt_disk.specs.Members.{DiskOf}
use Rattle.vt_model.specs.History.{History}
use Rattle.vt_model.specs.Places.{Setup}
use Rattle.vt_part.specs.Layout.{layout_of}
use Rattle.vt_part.specs.declared.layout.ArenaRegion.{ArenaRegion}
use Rattle.vt_log.specs.Log.{LogState}
use Rattle.vt_log.specs.Logs.{AreArenas, IsLog, versions_of}
use Rattle.vt_log.proofs.IsLog.{one_versions}
use Rattle.vt_log.proofs.StandForPrefix.{moment_stands}
use Rattle.vt_recover.specs.Recalling.{HasVersionsOf}
use Rattle.vt_core.specs.Mounting.{IsLogOf}
use Rattle.vt_core.specs.Opening.{IsLogFound, with_log}
use Rattle.vt_core.proofs.Fields.{short_regions}
use Rattle.vt_core.proofs.Standing.{images_read}

module _ {D : Type 0} (score : List ℕ → List ℕ) (disk : DiskOf D) (before : List D) (log : LogState D) (devices : List D) (filter : Option D) (given : IsLogFound score disk before devices filter log)
    (tells : IsTrue disk.tells) (read : (d : D) → disk.images d (disk.bytes d)) where
  -- the arenas of whatever log is read have its versions
  pub versions_read : (g : History) (base : ℕ) → (is : IsLog score (layout_of log.tables) (map disk.bytes before) g base) → log.versions ≡ versions_of is.contents
  versions_read g base is =
      let it = moment_stands score disk log g (map disk.bytes log.disks) (given.found g base tells is).0 (images_read disk read log.disks) in
      let stands = it.3 in
      let arenas : AreArenas score (layout_of log.tables) (map disk.bytes before) stands.log.contents =
      subst (λ (rs : List ArenaRegion). AreArenas score rs (map disk.bytes before) stands.log.contents) given.layout
      (subst (λ (files : List (List ℕ)). AreArenas score log.layout files stands.log.contents) given.held.bytes_are stands.log.arenas) in
      let own : IsLog score (layout_of log.tables) (map disk.bytes before) (take it.0 g) stands.base = record {
        contents = stands.log.contents;
        arenas = arenas;
        order = stands.log.order;
        history = stands.log.history;
        base_is = stands.log.base_is;
      } in
      stands.versions ∙ one_versions score (layout_of log.tables) (map disk.bytes before) (take it.0 g) g stands.base base (short_regions disk log given.whole) own is

  -- and so has a setup for which every combination of images stands
  pub setup_versions : (c : Setup) (h g : History) (base : ℕ) → IsLogOf score disk log.tables (with_log before devices filter) c h g base → HasVersionsOf log c
  setup_versions c h g base of =
      let it = of.each (record { partitions = map disk.bytes before; sections = map disk.bytes devices; filter = map disk.bytes (option_to_list filter) })
      (record { partitions = images_read disk read before; sections = images_read disk read devices; filter = images_read disk read (option_to_list filter) }) in
      it.stands.log.versions ∙ sym (versions_read (take it.n h) it.stands.log.base it.stands.log.log)
