-- what was opened has the log of the partitions; what isn't opened stands
use Rattle.std.proofs.Common.{◌≡◌, Bool, List, ℕ, Result, sym, subst}
use Rattle.vt_base.specs.declared.score.Score.{Score}
use Rattle.vt_base.specs.declared.why.Why.{Why}
use Rattle.vt_core.specs.Files.{PerDevice}
use Rattle.vt_core.specs.Mounting.{LeavesStanding}
use Rattle.vt_open.specs.Names.{AreUnder}
use Rattle.vt_use.specs.OneBlock.{ReadsOne, WritesOne, own_answer}
use Rattle.vt_use.specs.StoredBlocks.{ReadsStore, WritesStore}
use Rattle.vt_commands.proofs.Stored.{unended, where_block}
use Rattle.vt_commands.proofs.laws.blocks_keep_the_store.Goals as goal

pub returns-clause-read : goal.returns-clause-read
returns-clause-read g c score file conf kind s outcome sink parts dialer tables devices setup h history base x
    tells disk_tells under log =
    let disk = g.P.Disk.Disk in
    where_block score disk g.N.Link.Link conf 0 Bool.false parts dialer
    (λ output S act holds calls from to. ReadsOne kind s output calls)
    (λ (result : Result (List ℕ) Why). ReadsStore score disk conf kind s result parts.new tables
    (record setup { base = base }) history)
    ((back : PerDevice _) → AreUnder parts.new conf back → LeavesStanding score disk tables devices back)
    (λ output said added closed uses. subst (λ (result : Result (List ℕ) Why).
    ReadsStore score disk conf kind s result parts.new tables (record setup { base = base }) history)
    (sym (unended (own_answer output said) closed uses.does.asks.ends.0))
    (c.stores_are_read.ensures score parts.tells conf kind s output said added closed parts.old parts.new
    tables devices setup h history base tells disk_tells uses under log))
    (λ bad refuses back under'. c.refused_stores_stand.ensures.standing score parts.tells conf parts.old
    parts.new parts.faults parts.faults' bad tables devices back tells disk_tells refuses under under')
    x.used x.uses

pub returns-clause-written : goal.returns-clause-written
returns-clause-written g c score file conf now kind bytes outcome sink parts dialer tables devices setup h
    history base x tells disk_tells under log =
    let disk = g.P.Disk.Disk in
    where_block score disk g.N.Link.Link conf now Bool.true parts dialer
    (λ output S act holds calls from to. WritesOne score (record { kind = kind; bytes = bytes }) output
    calls)
    (λ (result : Result Score Why). WritesStore score disk conf kind bytes result parts.new tables
    (record setup { base = base }) history)
    ((back : PerDevice _) → AreUnder parts.new conf back → LeavesStanding score disk tables devices back)
    (λ output said added closed uses. c.stores_are_written.ensures score parts.tells conf now
    (record { kind = kind; bytes = bytes }) output said added closed parts.old parts.new tables devices setup
    h history base tells disk_tells uses under log)
    (λ bad refuses back under'. c.refused_stores_stand.ensures.standing score parts.tells conf parts.old
    parts.new parts.faults parts.faults' bad tables devices back tells disk_tells refuses under under')
    x.used x.uses
