-- A rehearsal's store before its rounds.
use Rattle.std.proofs.Common.{◌≡◌, ◌<◌, ℕ, List, [], length, refl, sym, ◌∙◌, ap, subst, arith}
use Rattle.std.proofs.lemmas.List.{length-map}
use Rattle.vt_disk.specs.Members.{DiskOf}
use Rattle.vt_empty.specs.Shape.{setup_for}
use Rattle.vt_empty.specs.Store.{AreFresh}
use Rattle.vt_log.specs.Logs.{arena_count}
use Rattle.vt_model.specs.Places.{Setup}
use Rattle.vt_part.specs.Parts.{table_of}
use Rattle.vt_part.specs.Table.{Table}
use Rattle.vt_recover.specs.declared.devices.Devices.{Devices}
use Rattle.vt_core.specs.Core.{setup_of}
use Rattle.vt_core.specs.Mounting.{KeepsLimits, MountsStore, devices_in, tables_in}
use Rattle.vt_rehearse.specs.declared.TheConstants.{SESSIONS}
use Rattle.vt_rehearse.specs.Shape.{the_shape, the_sizes}
use Rattle.vt_rehearse.specs.Stage.{AreAlike, HasWords, IsFilled, IsMemory, StageState}

pub alike_first : {D : Type 0} (score : List ℕ → List ℕ) (disk : DiskOf D) (memory : IsMemory disk) (devices : Devices D) (fresh : AreFresh disk the_shape devices) (first : StageState D)
    → MountsStore score disk (tables_in devices) (devices_in devices) the_sizes SESSIONS first.core → first.listed ≡ [] → AreAlike score disk first
alike_first score disk memory devices fresh first mounts unlisted =
    let it = mounts.recalls (setup_for the_shape) [] [] 0 memory.tells (fresh.log score) in
    let tables = mounts.fresh.tables_are in
    let arenas = fresh.arenas in
    let some : 0 < arena_count (tables_in devices) = omega (arith, arenas) in
    record {
      history = [];
      store = record {
        sound = it.sound;
        partitions = ap (λ (ts : List Table). length ts) tables ∙ length-map devices.parts.items (λ p. table_of p) ∙ fresh.partitions;
        arenas = subst (λ (ts : List Table). 0 < arena_count ts) (sym tables) some;
        shards = mounts.fresh.shards ∙ fresh.sections;
        stops = mounts.fresh.stops;
        limits = subst (λ (ts : List Table). KeepsLimits ts (setup_of first.core)) (sym tables) mounts.fresh.limits;
      };
      free = mounts.fresh.waiting;
      list = subst (λ (l : List ℕ). HasWords [] l) (sym unlisted) (record {
        blocks = refl;
        words = λ i d lt. absurd (omega (arith, lt));
        once = λ i j d less lt. absurd (omega (arith, lt));
      });
      filled = subst (λ (c : Setup). IsFilled c []) (sym it.setup) (record { arenas = refl; versions = refl; full = λ arena less. absurd (omega (arith, less)) });
    }
