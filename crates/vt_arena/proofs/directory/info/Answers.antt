use Rattle.std.proofs.Common.{◌≡◌, true, false, sym, ◌∙◌}
use Rattle.vt_arena.specs.Directory.{walks_headers}
use Rattle.vt_arena.proofs.Walks.{on_entry, on_header, walks_block, walks_clump, walks_moved, walks_stays}
use Rattle.vt_arena.proofs.directory.info.Goals as goal

pub returns-then-walks_headers-clause-answer : goal.returns-then-walks_headers-clause-answer
returns-then-walks_headers-clause-answer g c =
    let it = c.info_by_header.ensures.answer in
    let on : walks_headers c.args.head.now ≡ true = sym c.walks_headers.ensures ∙ c.if-walks_headers.true in
    let walks = on_header c.args.head.now c.args.region c.args.at.now c.info_by_header.new.at (g.D.Disk.bytes c.args.disk.now) it.0 _ c.info_by_header.result on (it.1, it.2) in
    (it.0, walks.0, walks.1)

pub returns-then-walks_headers-clause-moved : goal.returns-then-walks_headers-clause-moved
returns-then-walks_headers-clause-moved g c =
    let it = returns-then-walks_headers-clause-answer g c in
    walks_moved c.args.head.now c.args.at.now c.info_by_header.new.at it.0 c.info_by_header.result c.requires.some it.2

pub returns-then-walks_headers-clause-clump : goal.returns-then-walks_headers-clause-clump
returns-then-walks_headers-clause-clump g c =
    let it = returns-then-walks_headers-clause-answer g c in
    walks_clump c.args.head.now c.args.at.now c.info_by_header.new.at it.0 c.info_by_header.result c.requires.clump it.2

pub returns-then-walks_headers-clause-stays : goal.returns-then-walks_headers-clause-stays
returns-then-walks_headers-clause-stays g c =
    let it = returns-then-walks_headers-clause-answer g c in
    walks_stays c.args.head.now c.args.at.now c.info_by_header.new.at it.0 c.info_by_header.result it.2

pub returns-then-walks_headers-clause-committed : goal.returns-then-walks_headers-clause-committed
returns-then-walks_headers-clause-committed g c score_of number old before behind s told content blocks split head_is stands =
    let it = returns-then-walks_headers-clause-answer g c in
    walks_block score_of c.args.region number old before behind s (g.D.Disk.bytes c.args.disk.now) c.requires.len.1 content blocks split c.args.head.now head_is c.args.at.now stands
    it.0 c.info_by_header.new.at c.info_by_header.result (it.1 told) it.2

pub returns-clause-answer : goal.returns-clause-answer
returns-clause-answer g c =
    let it = c.info_by_entry.ensures.answer in
    let off : walks_headers c.args.head.now ≡ false = sym c.walks_headers.ensures ∙ c.if-walks_headers.false in
    let walks = on_entry c.args.head.now c.args.region c.args.at.now c.info_by_entry.new.at (g.D.Disk.bytes c.args.disk.now) it.0 _ c.info_by_entry.result off (it.1, it.2) in
    (it.0, walks.0, walks.1)

pub returns-clause-moved : goal.returns-clause-moved
returns-clause-moved g c =
    let it = returns-clause-answer g c in
    walks_moved c.args.head.now c.args.at.now c.info_by_entry.new.at it.0 c.info_by_entry.result c.requires.some it.2

pub returns-clause-clump : goal.returns-clause-clump
returns-clause-clump g c =
    let it = returns-clause-answer g c in
    walks_clump c.args.head.now c.args.at.now c.info_by_entry.new.at it.0 c.info_by_entry.result c.requires.clump it.2

pub returns-clause-stays : goal.returns-clause-stays
returns-clause-stays g c =
    let it = returns-clause-answer g c in
    walks_stays c.args.head.now c.args.at.now c.info_by_entry.new.at it.0 c.info_by_entry.result it.2

pub returns-clause-committed : goal.returns-clause-committed
returns-clause-committed g c score_of number old before behind s told content blocks split head_is stands =
    let it = returns-clause-answer g c in
    walks_block score_of c.args.region number old before behind s (g.D.Disk.bytes c.args.disk.now) c.requires.len.1 content blocks split c.args.head.now head_is c.args.at.now stands
    it.0 c.info_by_entry.new.at c.info_by_entry.result (it.1 told) it.2
