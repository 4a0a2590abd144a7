use Rattle.std.proofs.Common.{◌≡◌, inl, inr, ℕ, length, refl, ◌∙◌, ap, subst, arith}
use Rattle.std.proofs.lemmas.Result.{err_from_is_err_and}
use Rattle.std.specs.Prelude.{IsTrue}
use Rattle.vt_core.specs.Mounting.{MountsStore, devices_in, tables_in}
use Rattle.vt_open.specs.declared.error.OpenError.TheVariants.{Refused}
use Rattle.vt_conf.specs.Room.{cached_blocks, entry_room}
use Rattle.vt_open.specs.Opening.{sizes_of}
use Rattle.vt_shard.specs.declared.mounting.Sizes.{Sizes}
use Rattle.vt_open.proofs.Opened.{all_rooms, arenas_some, finds_none, many_arenas, many_sections, opens, shape_back_}
use Rattle.vt_open.proofs.opening.open_store.Goals as goal

pub mount-requires-clause-many : goal.mount-requires-clause-many
mount-requires-clause-many g c =
    let all = c.in_ok-devices.ensures.taken in
    let a = many_arenas g.P.Disk.Disk (IsTrue g.P.Parts.tells) c.args.conf.now (g.P.Parts.standing c.args.parts.now) (g.P.Parts.standing c.take_all.new.parts) c.in_ok-devices.devices all in
    let s = many_sections g.P.Disk.Disk (IsTrue g.P.Parts.tells) c.args.conf.now (g.P.Parts.standing c.args.parts.now) (g.P.Parts.standing c.take_all.new.parts) c.in_ok-devices.devices all in
    omega (arith, a, s, c.requires.few)

pub mount-requires-clause-rooms : goal.mount-requires-clause-rooms
mount-requires-clause-rooms g c =
    all_rooms g.P.Disk.Disk (IsTrue g.P.Parts.tells) c.args.conf.now (g.P.Parts.standing c.args.parts.now) (g.P.Parts.standing c.take_all.new.parts) c.in_ok-devices.devices c.in_ok-devices.ensures.taken

pub mount-requires-clause-some_arena : goal.mount-requires-clause-some_arena
mount-requires-clause-some_arena g c =
    arenas_some g.P.Disk.Disk (IsTrue g.P.Parts.tells) c.args.conf.now (g.P.Parts.standing c.args.parts.now) (g.P.Parts.standing c.take_all.new.parts) c.in_ok-devices.devices c.in_ok-devices.ensures.taken c.requires.some_arenas

pub mount-requires-clause-some_section : goal.mount-requires-clause-some_section
mount-requires-clause-some_section g c =
    let s = many_sections g.P.Disk.Disk (IsTrue g.P.Parts.tells) c.args.conf.now (g.P.Parts.standing c.args.parts.now) (g.P.Parts.standing c.take_all.new.parts) c.in_ok-devices.devices c.in_ok-devices.ensures.taken in
    omega (arith, s, c.requires.some_section)

pub give_all-requires : goal.give_all-requires
give_all-requires g c =
    shape_back_ g.P.Disk.Disk (IsTrue g.P.Parts.tells) c.args.conf.now (g.P.Parts.standing c.args.parts.now) (g.P.Parts.standing c.take_all.new.parts) c.in_ok-devices.devices c.in_ok-devices.ensures.taken
    g.S.Scorer.score_of c.in-Err.devices c.in-Err.bad c.in-Err.ensures.refused

-- not all partitions are handed out
pub returns-in_err-devices-clause-refused : goal.returns-in_err-devices-clause-refused
returns-in_err-devices-clause-refused g c =
    let p = err_from_is_err_and c.from_residual.result c.from_residual.ensures.1 in
    rw (p.1, p.2) (inl c.in_err-devices.ensures.refused)

pub returns-in_err-devices-clause-differs : goal.returns-in_err-devices-clause-differs
returns-in_err-devices-clause-differs g c =
    let p = err_from_is_err_and c.from_residual.result c.from_residual.ensures.1 in
    rw (p.1, p.2) (c.refused_stores_stand.ensures.differs g.S.Scorer.score_of g.P.Parts.tells c.args.conf.now
    (g.P.Parts.standing c.args.parts.now) (g.P.Parts.standing c.take_all.new.parts) (g.P.Parts.faults c.args.parts.now) (g.P.Parts.faults c.take_all.new.parts)
    c.in_err-devices.field-0.0 (inl c.in_err-devices.ensures.refused))

pub returns-in_err-devices-clause-found : goal.returns-in_err-devices-clause-found
returns-in_err-devices-clause-found g c = λ tables handed setup h more base t tells under log limits.
    let p = err_from_is_err_and c.from_residual.result c.from_residual.ensures.1 in
    rw (p.1, p.2) (c.refused_stores_stand.ensures.found g.S.Scorer.score_of g.P.Parts.tells c.args.conf.now
    (g.P.Parts.standing c.args.parts.now) (g.P.Parts.standing c.take_all.new.parts) (g.P.Parts.faults c.args.parts.now) (g.P.Parts.faults c.take_all.new.parts)
    c.in_err-devices.field-0.0 tables handed setup h more base t tells (inl c.in_err-devices.ensures.refused) under log limits)

pub returns-in_err-devices-clause-standing : goal.returns-in_err-devices-clause-standing
returns-in_err-devices-clause-standing g c = λ tables handed back t tells under also.
    let p = err_from_is_err_and c.from_residual.result c.from_residual.ensures.1 in
    rw p.1 (c.refused_stores_stand.ensures.standing g.S.Scorer.score_of g.P.Parts.tells c.args.conf.now
    (g.P.Parts.standing c.args.parts.now) (g.P.Parts.standing c.take_all.new.parts) (g.P.Parts.faults c.args.parts.now) (g.P.Parts.faults c.take_all.new.parts)
    c.in_err-devices.field-0.0 tables handed back t tells (inl c.in_err-devices.ensures.refused) under also)

pub returns-in-Ok-clause-opens : goal.returns-in-Ok-clause-opens
returns-in-Ok-clause-opens g c =
    let e = c.in-Ok.ensures in
    let conf = c.args.conf.now in
    let many : c.len-sections.result ≡ length conf.sections.items = omega (arith, c.len-sections.ensures, conf.sections.ok.0) in
    let lumps : c.cached_blocks.result ≡ (sizes_of conf).lumps =
    c.cached_blocks.ensures ∙ ap (λ (n : ℕ). cached_blocks conf.mem n) many in
    let clean : c.entry_room.result ≡ (sizes_of conf).clean =
    c.entry_room.ensures ∙ ap (λ (n : ℕ). entry_room conf.icmem n) many in
    let sizes : record { lumps = c.cached_blocks.result; clean = c.entry_room.result } ≡ sizes_of conf =
    ap (λ (n : ℕ). record { lumps = n; clean = c.entry_room.result }) lumps ∙ ap (λ (n : ℕ). record { lumps = (sizes_of conf).lumps; clean = n }) clean in
    opens g.P.Disk.Disk (IsTrue g.P.Parts.tells) c.args.conf.now (g.P.Parts.standing c.args.parts.now) (g.P.Parts.standing c.take_all.new.parts) c.in_ok-devices.devices c.in_ok-devices.ensures.taken
    g.S.Scorer.score_of c.args.sessions c.in-Ok.core (subst (λ (z : Sizes). MountsStore g.S.Scorer.score_of g.P.Disk.Disk (tables_in c.in_ok-devices.devices) (devices_in c.in_ok-devices.devices) z c.args.sessions c.in-Ok.core) sizes e.mounts) (λ tells. e.standing tells)

-- no store is found on them
pub returns-in-Err-clause-refused : goal.returns-in-Err-clause-refused
returns-in-Err-clause-refused g c = inr (
  c.in-Err.bad,
  refl,
  c.give_all.ensures.faults ∙ c.in_ok-devices.ensures.faults,
  finds_none g.P.Disk.Disk (IsTrue g.P.Parts.tells) c.args.conf.now (g.P.Parts.standing c.args.parts.now) (g.P.Parts.standing c.take_all.new.parts) c.in_ok-devices.devices c.in_ok-devices.ensures.taken
      g.S.Scorer.score_of (g.P.Parts.standing c.give_all.new.parts) c.in-Err.devices c.in-Err.bad c.in-Err.ensures.refused c.give_all.ensures.given
      (λ tells. c.in-Err.ensures.standing tells) (λ setup h more base tells log limits. c.in-Err.ensures.found setup h more base tells log limits),
)

pub returns-in-Err-clause-differs : goal.returns-in-Err-clause-differs
returns-in-Err-clause-differs g c =
    c.refused_stores_stand.ensures.differs g.S.Scorer.score_of g.P.Parts.tells c.args.conf.now
    (g.P.Parts.standing c.args.parts.now) (g.P.Parts.standing c.give_all.new.parts) (g.P.Parts.faults c.args.parts.now) (g.P.Parts.faults c.give_all.new.parts)
    (Refused c.in-Err.bad) (returns-in-Err-clause-refused g c)

pub returns-in-Err-clause-found : goal.returns-in-Err-clause-found
returns-in-Err-clause-found g c = λ tables handed setup h more base t tells under log limits.
    c.refused_stores_stand.ensures.found g.S.Scorer.score_of g.P.Parts.tells c.args.conf.now
    (g.P.Parts.standing c.args.parts.now) (g.P.Parts.standing c.give_all.new.parts) (g.P.Parts.faults c.args.parts.now) (g.P.Parts.faults c.give_all.new.parts)
    (Refused c.in-Err.bad) tables handed setup h more base t tells (returns-in-Err-clause-refused g c) under log limits

pub returns-in-Err-clause-standing : goal.returns-in-Err-clause-standing
returns-in-Err-clause-standing g c = λ tables handed back t tells under also.
    c.refused_stores_stand.ensures.standing g.S.Scorer.score_of g.P.Parts.tells c.args.conf.now
    (g.P.Parts.standing c.args.parts.now) (g.P.Parts.standing c.give_all.new.parts) (g.P.Parts.faults c.args.parts.now) (g.P.Parts.faults c.give_all.new.parts)
    (Refused c.in-Err.bad) tables handed back t tells (returns-in-Err-clause-refused g c) under also
