use Rattle.std.proofs.Common.{◌≡◌, ◌+◌, ◌*◌, ℕ, List, [], Some, None, sym, ◌∙◌, ap, subst, arith}
use Rattle.vt_disk.proofs.Calls.{on_err, writes_wider}
use Rattle.vt_isect.specs.Agreement.{KnownAgrees}
use Rattle.vt_isect.specs.Filling.{FillsBucket, ReadsKnown, StopsClearing, with_buckets}
use Rattle.vt_isect.specs.Section.{SectionState}
use Rattle.vt_isect.specs.Sound.{IsSoundSection}
use Rattle.vt_isect.specs.View.{state_of}
use Rattle.vt_isect.proofs.Fills.{agrees_cleared, more_buckets, sync_reads, synced_writes, synced_sound, synced_reads, synced_cleared, synced_empty}
use Rattle.vt_isect.proofs.section.Section.clear.Goals as goal

pub returns-in_err-write_cleared-clause-agrees : goal.returns-in_err-write_cleared-clause-agrees
returns-in_err-write_cleared-clause-agrees g c score setup h known agrees waits next =
    subst (λ (x : SectionState g.row.D.Denot). KnownAgrees score setup h x (with_buckets c.args.first c.args.count (Some []) known)) (sym c.write_cleared.ensures.same)
    (agrees_cleared score setup h c.args.self.now c.write_cleared.new.self.disk c.args.first c.args.count known agrees waits next)

pub returns-in_err-write_cleared-clause-writes : goal.returns-in_err-write_cleared-clause-writes
returns-in_err-write_cleared-clause-writes g c =
    writes_wider g.D.Disk _ _ (λ i here. here) (2 * c.args.count) (2 * c.args.count + 1) (omega arith) _ _ c.write_cleared.ensures.writes

pub returns-in_err-sync-clause-writes : goal.returns-in_err-sync-clause-writes
returns-in_err-sync-clause-writes g c =
    let synced = sync_reads g.D.Disk (state_of c.self.inside) c.write_cleared.new.self c.sync.new.self c.self.view_is c.sync.ensures.bytes c.sync.ensures.images c.sync.ensures.size c.sync.ensures.calls in
    synced_writes g.D.Disk c.args.self.now c.write_cleared.new.self c.sync.new.self c.args.first c.args.count c.write_cleared.ensures.writes synced

pub returns-clause-writes : goal.returns-clause-writes
returns-clause-writes g c =
    let synced = sync_reads g.D.Disk (state_of c.self.inside) c.write_cleared.new.self c.sync.new.self c.self.view_is c.sync.ensures.bytes c.sync.ensures.images c.sync.ensures.size c.sync.ensures.calls in
    synced_writes g.D.Disk c.args.self.now c.write_cleared.new.self c.sync.new.self c.args.first c.args.count c.write_cleared.ensures.writes synced

pub returns-clause-calls : goal.returns-clause-calls
returns-clause-calls g c told =
    let same : g.D.Disk.calls c.self.inside.disk ≡ g.D.Disk.calls c.write_cleared.new.self.disk = ap (λ (x : SectionState g.row.D.Denot). g.D.Disk.calls x.disk) c.self.view_is in
    omega (arith, c.in_ok-write_cleared.ensures.calls told, c.sync.ensures.calls told, same)

pub returns-in_err-sync-clause-stops : goal.returns-in_err-sync-clause-stops
returns-in_err-sync-clause-stops g c =
    let synced = sync_reads g.D.Disk (state_of c.self.inside) c.write_cleared.new.self c.sync.new.self c.self.view_is c.sync.ensures.bytes c.sync.ensures.images c.sync.ensures.size c.sync.ensures.calls in
    let t = c.args.self.now in
    on_err {P = StopsClearing g.D.Disk c.args.first c.args.count t (record (state_of c.self.inside) { disk = c.sync.new.self })} c.from_residual-in_err-sync.result (record {
      done = c.args.count;
      few = omega arith;
      whole = λ told low. absurd (omega (arith, low));
      cleared = λ told n region within place. subst (λ (file : List ℕ). FillsBucket n [] region (g.D.Disk.bytes t.disk) file) (sym synced.bytes)
          (c.in_ok-write_cleared.ensures.written told n region within place);
      writes = writes_wider g.D.Disk _ _ (more_buckets g.D.Disk t c.args.first c.args.count (c.args.count + 1) (omega arith)) (2 * c.args.count + 1) (2 * c.args.count + 2) (omega arith) _ _
          (synced_writes g.D.Disk t c.write_cleared.new.self c.sync.new.self c.args.first c.args.count c.write_cleared.ensures.writes synced);
    })

pub returns-clause-written : goal.returns-clause-written
returns-clause-written g c told n region within place =
    let synced = sync_reads g.D.Disk (state_of c.self.inside) c.write_cleared.new.self c.sync.new.self c.self.view_is c.sync.ensures.bytes c.sync.ensures.images c.sync.ensures.size c.sync.ensures.calls in
    let t = c.args.self.now in
    let u = c.write_cleared.new.self in
    let d = c.sync.new.self in
    subst (λ (file : List ℕ). FillsBucket n [] region (g.D.Disk.bytes t.disk) file) (sym synced.bytes)
    (c.in_ok-write_cleared.ensures.written told n region within place)

pub returns-in_err-sync-clause-others : goal.returns-in_err-sync-clause-others
returns-in_err-sync-clause-others g c known told sound =
    let synced = sync_reads g.D.Disk (state_of c.self.inside) c.write_cleared.new.self c.sync.new.self c.self.view_is c.sync.ensures.bytes c.sync.ensures.images c.sync.ensures.size c.sync.ensures.calls in
    let t = c.args.self.now in
    let u = c.write_cleared.new.self in
    let d = c.sync.new.self in
    subst (λ (x : SectionState g.row.D.Denot). IsSoundSection (record x { disk = d }) (with_buckets c.args.first c.args.count None known) (g.D.Disk.bytes d) (g.D.Disk.images d)) (sym c.self.view_is)
    (synced_sound u d (with_buckets c.args.first c.args.count None known) (g.D.Disk.bytes u.disk) (g.D.Disk.bytes d) (g.D.Disk.images u.disk) (g.D.Disk.images d) synced.bytes synced.images
    (c.write_cleared.ensures.others known told sound))

pub returns-in_err-sync-clause-agrees : goal.returns-in_err-sync-clause-agrees
returns-in_err-sync-clause-agrees g c score setup h known agrees waits next =
    let d = c.sync.new.self in
    subst (λ (x : SectionState g.row.D.Denot). KnownAgrees score setup h (record x { disk = d }) (with_buckets c.args.first c.args.count (Some []) known))
    (sym (c.self.view_is ∙ c.write_cleared.ensures.same))
    (agrees_cleared score setup h c.args.self.now d c.args.first c.args.count known agrees waits next)

pub returns-clause-others : goal.returns-clause-others
returns-clause-others g c known told sound =
    let synced = sync_reads g.D.Disk (state_of c.self.inside) c.write_cleared.new.self c.sync.new.self c.self.view_is c.sync.ensures.bytes c.sync.ensures.images c.sync.ensures.size c.sync.ensures.calls in
    let t = c.args.self.now in
    let u = c.write_cleared.new.self in
    let d = c.sync.new.self in
    subst (λ (x : SectionState g.row.D.Denot). IsSoundSection (record x { disk = d }) (with_buckets c.args.first c.args.count None known) (g.D.Disk.bytes d) (g.D.Disk.images d)) (sym c.self.view_is)
    (synced_sound u d (with_buckets c.args.first c.args.count None known) (g.D.Disk.bytes u.disk) (g.D.Disk.bytes d) (g.D.Disk.images u.disk) (g.D.Disk.images d) synced.bytes synced.images
    (c.write_cleared.ensures.others known told sound))

pub returns-clause-agrees : goal.returns-clause-agrees
returns-clause-agrees g c score setup h known agrees waits next =
    let d = c.sync.new.self in
    subst (λ (x : SectionState g.row.D.Denot). KnownAgrees score setup h (record x { disk = d }) (with_buckets c.args.first c.args.count (Some []) known))
    (sym (c.self.view_is ∙ c.write_cleared.ensures.same))
    (agrees_cleared score setup h c.args.self.now d c.args.first c.args.count known agrees waits next)

pub returns-clause-read : goal.returns-clause-read
returns-clause-read g c known told reads =
    let synced = sync_reads g.D.Disk (state_of c.self.inside) c.write_cleared.new.self c.sync.new.self c.self.view_is c.sync.ensures.bytes c.sync.ensures.images c.sync.ensures.size c.sync.ensures.calls in
    let t = c.args.self.now in
    let u = c.write_cleared.new.self in
    let d = c.sync.new.self in
    subst (λ (x : SectionState g.row.D.Denot). ReadsKnown g.D.Disk (record x { disk = d }) (with_buckets c.args.first c.args.count (Some []) known)) (sym c.self.view_is)
    (synced_reads t u d c.args.first c.args.count (g.D.Disk.bytes t.disk) (g.D.Disk.bytes u.disk) (g.D.Disk.bytes d) (g.D.Disk.images t.disk) (g.D.Disk.images u.disk) (g.D.Disk.images d)
    c.write_cleared.ensures.same c.requires.rest synced.bytes synced.images
    (with_buckets c.args.first c.args.count (Some []) known) (c.in_ok-write_cleared.ensures.read known told reads))

pub returns-clause-cleared : goal.returns-clause-cleared
returns-clause-cleared g c known told sound =
    let synced = sync_reads g.D.Disk (state_of c.self.inside) c.write_cleared.new.self c.sync.new.self c.self.view_is c.sync.ensures.bytes c.sync.ensures.images c.sync.ensures.size c.sync.ensures.calls in
    let t = c.args.self.now in
    let u = c.write_cleared.new.self in
    let d = c.sync.new.self in
    subst (λ (x : SectionState g.row.D.Denot). IsSoundSection (record x { disk = d }) (with_buckets c.args.first c.args.count (Some []) known) (g.D.Disk.bytes d) (g.D.Disk.images d)) (sym c.self.view_is)
    (synced_cleared t u d c.args.first c.args.count (g.D.Disk.bytes t.disk) (g.D.Disk.bytes u.disk) (g.D.Disk.bytes d) (g.D.Disk.images t.disk) (g.D.Disk.images u.disk) (g.D.Disk.images d)
    c.write_cleared.ensures.same c.requires.rest synced.bytes synced.images
    (λ file left. c.in_ok-sync.ensures.settled told file left ∙ sym c.sync.ensures.bytes) known (g.met.D.Disk.read_is_image _ told)
    (λ it. c.write_cleared.ensures.others known told it) (λ it. c.in_ok-write_cleared.ensures.read known told it) sound)

pub returns-clause-empty : goal.returns-clause-empty
returns-clause-empty g c told =
    let synced = sync_reads g.D.Disk (state_of c.self.inside) c.write_cleared.new.self c.sync.new.self c.self.view_is c.sync.ensures.bytes c.sync.ensures.images c.sync.ensures.size c.sync.ensures.calls in
    let t = c.args.self.now in
    let u = c.write_cleared.new.self in
    let d = c.sync.new.self in
    synced_empty t u d c.args.first c.args.count (g.D.Disk.bytes t.disk) (g.D.Disk.bytes u.disk) (g.D.Disk.bytes d) (g.D.Disk.images t.disk) (g.D.Disk.images u.disk) (g.D.Disk.images d)
    c.write_cleared.ensures.same c.requires.rest synced.bytes synced.images
    (λ file left. c.in_ok-sync.ensures.settled told file left ∙ sym c.sync.ensures.bytes) (λ it. c.in_ok-write_cleared.ensures.read _ told it) c.requires.in_range.0 c.requires.in_range.1
