-- The log that is there is found.
use Rattle.std.proofs.Common.{◌≡◌, ◌++◌, ◌+◌, ◌*◌, ◌≤◌, List, length, take, drop, map, sym, ◌∙◌, ap, subst, arith}
use Rattle.std.specs.Prelude.{All, sum_by}
use Rattle.vt_disk.specs.Calls.{IsSynced}
use Rattle.vt_part.specs.declared.part.Part.{Part}
use Rattle.vt_part.specs.Layout.{AreDistinct, layout_of}
use Rattle.vt_part.specs.Parts.{tables_of, names_of}
use Rattle.vt_log.specs.Answers.{HoldTheSame}
use Rattle.vt_log.specs.Faults.{AreReadAt, IsMountedBy, RefusesLogMount}
use Rattle.vt_log.specs.Log.{LogState, disks_of}
use Rattle.vt_log.specs.Logs.{arena_count}
use Rattle.vt_log.specs.Mounting.{found_log, reads_to_find_all, TellsOfSettled}
use Rattle.vt_log.specs.Whole.{IsWholeLog}
use Rattle.vt_log.proofs.FoundLog.{given_back, found_of, found_whole, mounted_by, mount_sound, mount_is, regions_on, numbers_small, log_passes, not_refused}
use Rattle.vt_log.proofs.mounting.mount.Goals as goal

pub into_log-requires-clause-whole : goal.into_log-requires-clause-whole
into_log-requires-clause-whole g c =
    let new = c.find_log.new.parts in
    let items = c.args.parts.items in
    let o = c.in-Ok.opened in
    let back : take c.args.parts.len (new ++ drop (length new) items) ≡ new = given_back c.args.parts.len new items (omega arith) (omega arith) in
    let answer = c.in-Ok.ensures.answer in
    let it = found_of g.D.Disk _ items c.deref_mut.result.now new answer.0 o.layout o.heads.items o.base o.arena
    c.deref_mut.ensures.value c.requires.rooms c.requires.few c.find_log.ensures.read c.in-Ok.ensures.layout c.in-Ok.ensures.found answer.2 c.in-Ok.ensures.base c.in-Ok.ensures.arena in
    subst (λ (ps : List (Part _)). IsWholeLog g.D.Disk (found_log (disks_of ps) (tables_of ps) o.layout o.heads.items o.base o.arena)) (sym back)
    (found_whole g.D.Disk (disks_of new) (tables_of new) o.layout (map g.D.Disk.bytes (disks_of items)) answer.0 o.heads.items o.base o.arena it)

pub returns-in-Ok-clause-whole : goal.returns-in-Ok-clause-whole
returns-in-Ok-clause-whole g c =
    let new = c.find_log.new.parts in
    let items = c.args.parts.items in
    let o = c.in-Ok.opened in
    let back : take c.args.parts.len (new ++ drop (length new) items) ≡ new = given_back c.args.parts.len new items (omega arith) (omega arith) in
    let l_is : c.into_log.result ≡ found_log (disks_of new) (tables_of new) o.layout o.heads.items o.base o.arena =
    c.into_log.ensures ∙ ap (λ (ps : List (Part _)). found_log (disks_of ps) (tables_of ps) o.layout o.heads.items o.base o.arena) back in
    let answer = c.in-Ok.ensures.answer in
    let it = found_of g.D.Disk _ items c.deref_mut.result.now new answer.0 o.layout o.heads.items o.base o.arena
    c.deref_mut.ensures.value c.requires.rooms c.requires.few c.find_log.ensures.read c.in-Ok.ensures.layout c.in-Ok.ensures.found answer.2 c.in-Ok.ensures.base c.in-Ok.ensures.arena in
    subst (λ (l : LogState _). IsWholeLog g.D.Disk l) (sym l_is)
    (found_whole g.D.Disk (disks_of new) (tables_of new) o.layout (map g.D.Disk.bytes (disks_of items)) answer.0 o.heads.items o.base o.arena it)

pub returns-in-Ok-clause-found : goal.returns-in-Ok-clause-found
returns-in-Ok-clause-found g c h base told distinct log =
    let new = c.find_log.new.parts in
    let items = c.args.parts.items in
    let o = c.in-Ok.opened in
    let back : take c.args.parts.len (new ++ drop (length new) items) ≡ new = given_back c.args.parts.len new items (omega arith) (omega arith) in
    let l_is : c.into_log.result ≡ found_log (disks_of new) (tables_of new) o.layout o.heads.items o.base o.arena =
    c.into_log.ensures ∙ ap (λ (ps : List (Part _)). found_log (disks_of ps) (tables_of ps) o.layout o.heads.items o.base o.arena) back in
    let answer = c.in-Ok.ensures.answer in
    let it = found_of g.D.Disk _ items c.deref_mut.result.now new answer.0 o.layout o.heads.items o.base o.arena
    c.deref_mut.ensures.value c.requires.rooms c.requires.few c.find_log.ensures.read c.in-Ok.ensures.layout c.in-Ok.ensures.found answer.2 c.in-Ok.ensures.base c.in-Ok.ensures.arena in
    mount_sound g.D.Disk items c.into_log.result (disks_of new) (tables_of new) answer.0 o.layout o.heads.items o.base o.arena g.S.Scorer.score_of h base it l_is
    (c.in-Ok.ensures.layout ∙ ap (λ (ps : List (Part _)). layout_of (tables_of ps)) c.deref_mut.ensures.value) told c.in-Ok.ensures.settled log

pub returns-in-Ok-clause-mounted : goal.returns-in-Ok-clause-mounted
returns-in-Ok-clause-mounted g c =
    let new = c.find_log.new.parts in
    let items = c.args.parts.items in
    let o = c.in-Ok.opened in
    let back : take c.args.parts.len (new ++ drop (length new) items) ≡ new = given_back c.args.parts.len new items (omega arith) (omega arith) in
    let l_is : c.into_log.result ≡ found_log (disks_of new) (tables_of new) o.layout o.heads.items o.base o.arena =
    c.into_log.ensures ∙ ap (λ (ps : List (Part _)). found_log (disks_of ps) (tables_of ps) o.layout o.heads.items o.base o.arena) back in
    let answer = c.in-Ok.ensures.answer in
    let it = found_of g.D.Disk _ items c.deref_mut.result.now new answer.0 o.layout o.heads.items o.base o.arena
    c.deref_mut.ensures.value c.requires.rooms c.requires.few c.find_log.ensures.read c.in-Ok.ensures.layout c.in-Ok.ensures.found answer.2 c.in-Ok.ensures.base c.in-Ok.ensures.arena in
    mount_is g.D.Disk c.into_log.result (disks_of new) (tables_of new) (map g.D.Disk.bytes (disks_of items)) answer.0 o.layout o.heads.items o.base o.arena it l_is

pub returns-in-Ok-clause-answer : goal.returns-in-Ok-clause-answer
returns-in-Ok-clause-answer g c =
    let new = c.find_log.new.parts in
    let items = c.args.parts.items in
    let o = c.in-Ok.opened in
    let back : take c.args.parts.len (new ++ drop (length new) items) ≡ new = given_back c.args.parts.len new items (omega arith) (omega arith) in
    let l_is : c.into_log.result ≡ found_log (disks_of new) (tables_of new) o.layout o.heads.items o.base o.arena =
    c.into_log.ensures ∙ ap (λ (ps : List (Part _)). found_log (disks_of ps) (tables_of ps) o.layout o.heads.items o.base o.arena) back in
    let answer = c.in-Ok.ensures.answer in
    let it = found_of g.D.Disk _ items c.deref_mut.result.now new answer.0 o.layout o.heads.items o.base o.arena
    c.deref_mut.ensures.value c.requires.rooms c.requires.few c.find_log.ensures.read c.in-Ok.ensures.layout c.in-Ok.ensures.found answer.2 c.in-Ok.ensures.base c.in-Ok.ensures.arena in
    let layout_is : o.layout ≡ layout_of (tables_of items) = c.in-Ok.ensures.layout ∙ ap (λ (ps : List (Part _)). layout_of (tables_of ps)) c.deref_mut.ensures.value in (
      answer.0,
      λ told. subst (λ (ps : List (Part _)). AreReadAt (layout_of (tables_of ps)) (map g.D.Disk.bytes (disks_of ps)) answer.0) c.deref_mut.ensures.value (answer.1 told),
      subst (λ (l : LogState _). IsMountedBy (names_of items) (layout_of (tables_of items)) answer.0 l) (sym l_is)
          (subst (λ (rs : List _). IsMountedBy (names_of items) rs answer.0 (found_log (disks_of new) (tables_of new) o.layout o.heads.items o.base o.arena)) layout_is
          (mounted_by g.D.Disk (disks_of new) (tables_of new) o.layout (map g.D.Disk.bytes (disks_of items)) answer.0 o.heads.items o.base o.arena it (names_of items)
          (subst (λ (ps : List (Part _)). AreDistinct (names_of ps)) c.deref_mut.ensures.value c.in-Ok.ensures.distinct))),
      λ told.
          let disks_are : c.into_log.result.disks ≡ disks_of new = ap (λ (l : LogState _). l.disks) c.into_log.ensures ∙ ap (λ (ps : List (Part _)). disks_of ps) back in
          let most = subst (λ (ps : List (Part _)). sum_by g.D.Disk.calls (disks_of new) ≤ sum_by g.D.Disk.calls (disks_of ps) + (length ps + reads_to_find_all (layout_of (tables_of ps)) answer.0))
          c.deref_mut.ensures.value (answer.3.calls_most told) in
          omega (arith, most, ap (λ (ds : List _). sum_by g.D.Disk.calls ds) disks_are),
    )

pub returns-in-Ok-clause-settled : goal.returns-in-Ok-clause-settled
returns-in-Ok-clause-settled g c =
    let new = c.find_log.new.parts in
    let back : take c.args.parts.len (new ++ drop (length new) c.args.parts.items) ≡ new = given_back c.args.parts.len new c.args.parts.items (omega arith) (omega arith) in
    let disks_are : c.into_log.result.disks ≡ disks_of new = ap (λ (l : LogState _). l.disks) c.into_log.ensures ∙ ap (λ (ps : List (Part _)). disks_of ps) back in
    subst (All (IsSynced g.D.Disk)) (sym disks_are) c.in-Ok.ensures.settled

pub returns-in-Ok-clause-disks : goal.returns-in-Ok-clause-disks
returns-in-Ok-clause-disks g c =
    let new = c.find_log.new.parts in
    let back : take c.args.parts.len (new ++ drop (length new) c.args.parts.items) ≡ new = given_back c.args.parts.len new c.args.parts.items (omega arith) (omega arith) in
    let disks_are : c.into_log.result.disks ≡ disks_of new = ap (λ (l : LogState _). l.disks) c.into_log.ensures ∙ ap (λ (ps : List (Part _)). disks_of ps) back in
    subst (HoldTheSame g.D.Disk (disks_of c.args.parts.items)) (sym disks_are)
    (subst (λ (ps : List (Part _)). HoldTheSame g.D.Disk (disks_of ps) (disks_of new)) c.deref_mut.ensures.value c.find_log.ensures.read.disks)

pub returns-in-Ok-clause-most_calls : goal.returns-in-Ok-clause-most_calls
returns-in-Ok-clause-most_calls g c told =
    let new = c.find_log.new.parts in
    let back : take c.args.parts.len (new ++ drop (length new) c.args.parts.items) ≡ new = given_back c.args.parts.len new c.args.parts.items (omega arith) (omega arith) in
    let disks_are : c.into_log.result.disks ≡ disks_of new = ap (λ (l : LogState _). l.disks) c.into_log.ensures ∙ ap (λ (ps : List (Part _)). disks_of ps) back in
    let most = subst (λ (ps : List (Part _)). sum_by g.D.Disk.calls (disks_of new) ≤ sum_by g.D.Disk.calls (disks_of ps) + (length ps + 3 * arena_count (tables_of ps))) c.deref_mut.ensures.value
    (c.find_log.ensures.read.calls_most told) in
    omega (arith, most, ap (λ (ds : List _). sum_by g.D.Disk.calls ds) disks_are)

pub returns-in-Err-clause-found : goal.returns-in-Err-clause-found
returns-in-Err-clause-found g c h base told distinct log =
    let items = c.args.parts.items in
    let answer = c.in-Err.ensures.answer in
    let are : AreReadAt (layout_of (tables_of items)) (map g.D.Disk.bytes (disks_of items)) answer.0 =
    subst (λ (ps : List (Part _)). AreReadAt (layout_of (tables_of ps)) (map g.D.Disk.bytes (disks_of ps)) answer.0) c.deref_mut.ensures.value (answer.1 told) in
    not_refused (names_of items) (layout_of (tables_of items)) answer.0 c.in-Err.bad distinct
    (log_passes g.D.Disk (disks_of items) (layout_of (tables_of items)) answer.0 g.S.Scorer.score_of h base (λ d. (g.met.D.Disk.images_fit _ _ (g.met.D.Disk.read_is_image d told)).0) (regions_on g.D.Disk items c.requires.rooms) (numbers_small items) are log)
    (subst (λ (ps : List (Part _)). RefusesLogMount (names_of ps) (layout_of (tables_of ps)) answer.0 c.in-Err.bad) c.deref_mut.ensures.value answer.2)

pub returns-in-Err-clause-told : goal.returns-in-Err-clause-told
returns-in-Err-clause-told g c =
    let new = c.find_log.new.parts in
    let items = c.args.parts.items in
    let back : take c.args.parts.len (new ++ drop (length new) items) ≡ new = given_back c.args.parts.len new items (omega arith) (omega arith) in
    subst (λ (ps : List (Part _)). TellsOfSettled g.D.Disk items ps c.in-Err.bad) (sym back)
    (subst (λ (ps : List (Part _)). TellsOfSettled g.D.Disk ps new c.in-Err.bad) c.deref_mut.ensures.value c.in-Err.ensures.told)
