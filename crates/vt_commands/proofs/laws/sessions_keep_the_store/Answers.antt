-- what was opened has the log of the partitions, and what is closed stands under their names
use Rattle.std.proofs.Common.{◌≡◌, List, ℕ, ap, length, map, subst, ◌∙◌}
use Rattle.std.specs.Prelude.{◌&&◌}
use Rattle.vt_model.specs.Places.{Setup}
use Rattle.vt_part.specs.Table.{Table}
use Rattle.vt_model.specs.Causes.{OneRose}
use Rattle.vt_session.specs.Talk.{Alone}
use Rattle.vt_core.specs.Core.{devices_of, each_of}
use Rattle.vt_core.specs.Files.{PerDevice, all_of}
use Rattle.vt_core.specs.Mounting.{AllStandFor, EachStands}
use Rattle.vt_use.specs.Sessions.{AreUnsaid, faults_over}
use Rattle.vt_commands.proofs.laws.sessions_keep_the_store.Goals as goal

pub returns-clause-served : goal.returns-clause-served
returns-clause-served g c score conf outcome source sink parts tables devices setup h history base x tells disk_tells told under log =
    let disk = g.P.Disk.Disk in
    let s = x.serves in
    let k = x.opened in
    let both = source.tells && sink.tells in
    let recalls = c.opened_stores_recall.ensures.recalls score parts.tells conf 1 parts.old x.during k tables devices
    setup h history base tells disk_tells x.opens under log in
    let tables_are = c.opened_stores_recall.ensures.tables score parts.tells conf 1 parts.old x.during k tables devices
    setup h history base tells disk_tells x.opens under log in
    let session = s.serves.session history disk_tells recalls.sound told in
    let left = c.sessions_leave_all.ensures score s.end s.now k s.ended both s.input s.output history s.serves
    disk_tells recalls.sound told in
    let handed : x.opens.handed ≡ devices = c.devices_have_names.ensures.one parts.old conf x.opens.handed devices
    (record { shape = x.opens.shape; under = x.opens.taken.stood tells }) under in
    let counts_are : each_of disk.faults k ≡ map disk.faults (all_of devices) =
    x.opens.faults_are ∙ ap (λ (d : PerDevice _). map disk.faults (all_of d)) handed in
    record {
      faults = faults_over disk k s.serves.served;
      turns = session.turns;
      between = session.between;
      alone = subst (λ (m : Setup). Alone score m (faults_over disk k s.serves.served) history s.input s.output
          session.turns s.end.ended session.between) recalls.setup session.alone;
      unsaid = session.unsaid;
      last = session.last;
      are_unsaid = subst (λ (m : Setup). AreUnsaid score m s.input session.turns session.unsaid s.end.ended
          session.between session.last) recalls.setup session.are_unsaid;
      back = devices_of s.ended;
      under = c.shapes_are_kept.ensures.closed score parts.tells conf 1 parts.old x.during parts.new k s.ended tells
          x.opens s.shape s.given;
      least = s.ended.log.durable;
      stands = subst (λ (t : List Table). EachStands score disk (record setup { base = base }) t s.ended.log.durable
          (devices_of s.ended) session.last) tables_are
          (subst (λ (m : Setup). EachStands score disk m k.log.tables s.ended.log.durable (devices_of s.ended)
          session.last) recalls.setup left.stands);
      synced = left.synced;
      quiet = λ none.
          let well = c.sessions_end_well.ensures score s.end s.now k s.ended both s.input s.output history s.serves
          disk_tells recalls.sound told (record {
            goes_on = x.opens.mounts.fresh.stops;
            none_rose = λ rose. none (subst (λ (counts : List ℕ). OneRose counts (each_of disk.faults s.ended)) counts_are rose);
          }) in record {
            failures = well.failures;
            stands = subst (λ (t : List Table). AllStandFor score disk (record setup { base = base }) t (devices_of s.ended)
                session.last (length session.last)) tables_are
                (subst (λ (m : Setup). AllStandFor score disk m k.log.tables (devices_of s.ended) session.last
                (length session.last)) recalls.setup well.stands);
            marks = well.read;
          };
    }

pub returns-clause-refused : goal.returns-clause-refused
returns-clause-refused g c score file conf outcome source sink parts tables devices back x tells disk_tells under under' =
    c.refused_stores_stand.ensures.standing score parts.tells conf parts.old parts.new parts.faults parts.faults'
    x.bad tables devices back tells disk_tells x.refused under under'
