use Rattle.std.proofs.Common.{◌≡◌, ◌<◌, ◌^◌, ◌++◌, ◌⊎◌, inl, inr, ℕ, Bool, List, Result, Err, None, true, false, sym, ◌∙◌, ap, subst, arith}
use Rattle.std.specs.Prelude.{if◌then◌else◌}
use Rattle.vt_disk.specs.Calls.{MadeCalls}
use Rattle.vt_disk.proofs.Calls.{made_then, reads_then}
use Rattle.vt_arena.specs.declared.error.ArenaBad.{ArenaBad}
use Rattle.vt_arena.specs.declared.error.ArenaBad.TheVariants.{Fault}
use Rattle.vt_arena.specs.declared.head.ArenaHead.{ArenaHead}
use Rattle.vt_arena.specs.declared.head.Found.{Found}
use Rattle.vt_arena.specs.Faults.{bad_last_header, first_bad_fields, has_last, last_offset}
use Rattle.vt_arena.specs.Layout.{arena_head}
use Rattle.vt_arena.specs.Reading.{header_at}
use Rattle.vt_arena.proofs.ArenaFound.{arena_passes, finds_bad, finds_last, finds_last_bad, finds_plain, head_found, header_placed, last_agrees, names_found, names_read, only_fault, only_fault_last, read_last_is, read_plain_is, stand_widths}
use Rattle.vt_arena.proofs.mounting.find.Goals as goal

first_of : {F A B : Type 0} → (F × A) ⊎ B → F ⊎ B
first_of (inl it) = inl it.0
first_of (inr it) = inr it

pub returns-in-Err-clause-answer : goal.returns-in-Err-clause-answer
returns-in-Err-clause-answer g c =
    let it = c.in-Err.ensures.answer in
    finds_bad c.args.region c.args.number (g.D.Disk.bytes c.args.disk.now) it.0 _ c.in-Err.bad (let r : Result Found ArenaBad = Err c.in-Err.bad in r ≡ Err Fault)
    (λ (n : ℕ). MadeCalls g.D.Disk n c.args.disk.now c.find_head.new.disk) it.1 it.2 (λ is. ap (λ (bad : ArenaBad). Err bad) is) (first_of c.in-Err.ensures.calls)

pub returns-in-Err-clause-found : goal.returns-in-Err-clause-found
returns-in-Err-clause-found g c score_of old told arena =
    let it = c.in-Err.ensures.answer in
    only_fault c.args.number c.args.region.len it.0 c.in-Err.bad it.2
    (ap (λ (l : List ℕ). first_bad_fields c.args.number c.args.region.len l) (it.1 told ∙ arena.head)
    ∙ arena_passes score_of c.args.region _ c.args.number old (g.D.Disk.bytes c.args.disk.now) c.requires (g.met.D.Disk.images_fit _ _ (g.met.D.Disk.read_is_image _ told)).0 arena (omega (arith, c.ranges.number.fits)))

-- where the head doesn't say where the last clump is
pub returns-then-not-has_last-clause-answer : goal.returns-then-not-has_last-clause-answer
returns-then-not-has_last-clause-answer g c =
    let it = c.in-Ok.ensures.answer in
    let off : has_last c.in-Ok.found.head ≡ false = sym c.has_last.ensures ∙ c.if-not-has_last.true in
    let small : c.args.number < 2 ^ 32 = omega (arith, c.ranges.number.fits) in
    let stand = c.in-Ok.ensures.checked in
    let wide = stand_widths c.args.number c.args.region.len c.in-Ok.found.head c.requires.len.1 stand in (
      it.0,
      (λ told. read_plain_is c.args.region c.args.number (g.D.Disk.bytes c.args.disk.now) it.0 (it.1 told)
          (names_found c.args.number c.args.region.len it.0 c.in-Ok.found wide small stand it.2.1 ∙ off)),
      finds_plain c.args.number c.args.region.len it.0 c.in-Ok.found wide small stand it.2.1 off,
      inr (subst (λ (b : Bool). MadeCalls g.D.Disk (if b then 3 else 2) c.args.disk.now c.find_head.new.disk)
          (sym (names_found c.args.number c.args.region.len it.0 c.in-Ok.found wide small stand it.2.1 ∙ off)) c.in-Ok.ensures.second),
    )

pub returns-then-not-has_last-clause-found : goal.returns-then-not-has_last-clause-found
returns-then-not-has_last-clause-found g c score_of old told arena =
    let it = c.in-Ok.ensures.answer in
    head_found score_of c.args.region _ c.args.number old (g.D.Disk.bytes c.args.disk.now) c.requires (g.met.D.Disk.images_fit _ _ (g.met.D.Disk.read_is_image _ told)).0 arena
    c.in-Ok.found.head c.in-Ok.ensures.checked (it.2.1 ∙ it.1 told)

pub returns-then-not-has_last-clause-calls : goal.returns-then-not-has_last-clause-calls
returns-then-not-has_last-clause-calls g c = inr (inl c.in-Ok.ensures.second)

-- where it does
pub returns-in-Ok-check_last_header-clause-answer : goal.returns-in-Ok-check_last_header-clause-answer
returns-in-Ok-check_last_header-clause-answer g c =
    let it = c.in-Ok.ensures.answer in
    let last = c.in-Ok-check_last_header.ensures.answer in
    let on : has_last c.in-Ok.found.head ≡ true = sym c.has_last.ensures ∙ c.if-not-has_last.false in
    let small : c.args.number < 2 ^ 32 = omega (arith, c.ranges.number.fits) in
    let stand = c.in-Ok.ensures.checked in
    let wide = stand_widths c.args.number c.args.region.len c.in-Ok.found.head c.requires.len.1 stand in (
      it.0 ++ last.0,
      (λ told. read_last_is c.args.region c.args.number (g.D.Disk.bytes c.args.disk.now) it.0 last.0 (it.1 told)
          (names_found c.args.number c.args.region.len it.0 c.in-Ok.found wide small stand it.2.1 ∙ on)
          (header_placed c.args.number c.args.region.len it.0 c.in-Ok.found wide small stand it.2.1 c.args.region _ _ last.0 (last.1 told) c.in-Ok.ensures.reads.bytes)),
      finds_last c.args.number c.args.region.len it.0 c.in-Ok.found wide small stand it.2.1 on last.0 last.2,
      inr (subst (λ (b : Bool). MadeCalls g.D.Disk (if b then 3 else 2) c.args.disk.now c.check_last_header.new.disk)
          (sym (names_read c.args.number c.args.region.len it.0 c.in-Ok.found wide small stand it.2.1 on last.0)) (made_then g.D.Disk 2 1 _ _ _ c.in-Ok.ensures.second c.check_last_header.ensures.calls)),
    )

pub returns-in-Ok-check_last_header-clause-found : goal.returns-in-Ok-check_last_header-clause-found
returns-in-Ok-check_last_header-clause-found g c score_of old told arena =
    let it = c.in-Ok.ensures.answer in
    head_found score_of c.args.region _ c.args.number old (g.D.Disk.bytes c.args.disk.now) c.requires (g.met.D.Disk.images_fit _ _ (g.met.D.Disk.read_is_image _ told)).0 arena
    c.in-Ok.found.head c.in-Ok.ensures.checked (it.2.1 ∙ it.1 told)

pub returns-in-Ok-check_last_header-clause-reads : goal.returns-in-Ok-check_last_header-clause-reads
returns-in-Ok-check_last_header-clause-reads g c = reads_then g.D.Disk 2 1 _ _ _ c.find_head.ensures.reads c.check_last_header.ensures.reads

pub returns-in-Ok-check_last_header-clause-calls : goal.returns-in-Ok-check_last_header-clause-calls
returns-in-Ok-check_last_header-clause-calls g c = inr (inr (made_then g.D.Disk 2 1 _ _ _ c.in-Ok.ensures.second c.check_last_header.ensures.calls))

-- where the last clump isn't as long as the head says
pub returns-in-Err-check_last_header-clause-answer : goal.returns-in-Err-check_last_header-clause-answer
returns-in-Err-check_last_header-clause-answer g c =
    let it = c.in-Ok.ensures.answer in
    let last = c.in-Err-check_last_header.ensures.answer in
    let on : has_last c.in-Ok.found.head ≡ true = sym c.has_last.ensures ∙ c.if-not-has_last.false in
    let small : c.args.number < 2 ^ 32 = omega (arith, c.ranges.number.fits) in
    let stand = c.in-Ok.ensures.checked in
    let wide = stand_widths c.args.number c.args.region.len c.in-Ok.found.head c.requires.len.1 stand in (
      it.0 ++ last.0,
      (λ told. read_last_is c.args.region c.args.number (g.D.Disk.bytes c.args.disk.now) it.0 last.0 (it.1 told)
          (names_found c.args.number c.args.region.len it.0 c.in-Ok.found wide small stand it.2.1 ∙ on)
          (header_placed c.args.number c.args.region.len it.0 c.in-Ok.found wide small stand it.2.1 c.args.region _ _ last.0 (last.1 told) c.in-Ok.ensures.reads.bytes)),
      finds_last_bad c.args.number c.args.region.len it.0 c.in-Ok.found wide small stand it.2.1 on last.0 c.in-Err-check_last_header.bad last.2,
      inr (subst (λ (b : Bool). MadeCalls g.D.Disk (if b then 3 else 2) c.args.disk.now c.check_last_header.new.disk)
          (sym (names_read c.args.number c.args.region.len it.0 c.in-Ok.found wide small stand it.2.1 on last.0)) (made_then g.D.Disk 2 1 _ _ _ c.in-Ok.ensures.second c.check_last_header.ensures.calls)),
    )

pub returns-in-Err-check_last_header-clause-found : goal.returns-in-Err-check_last_header-clause-found
returns-in-Err-check_last_header-clause-found g c score_of old told arena =
    let it = c.in-Ok.ensures.answer in
    let last = c.in-Err-check_last_header.ensures.answer in
    let file = g.D.Disk.bytes c.args.disk.now in
    let whole = (g.met.D.Disk.images_fit _ _ (g.met.D.Disk.read_is_image _ told)).0 in
    let on : has_last c.in-Ok.found.head ≡ true = sym c.has_last.ensures ∙ c.if-not-has_last.false in
    let head_is : c.in-Ok.found.head ≡ arena_head score_of c.args.number old =
    head_found score_of c.args.region _ c.args.number old file c.requires whole arena c.in-Ok.found.head c.in-Ok.ensures.checked (it.2.1 ∙ it.1 told) in
    let there : last.0 ≡ header_at c.args.region (last_offset c.in-Ok.found.head.used c.in-Ok.found.head.last) file =
    last.1 told ∙ ap (λ (l : List ℕ). header_at c.args.region (last_offset c.in-Ok.found.head.used c.in-Ok.found.head.last) l) c.in-Ok.ensures.reads.bytes in
    let none : bad_last_header c.in-Ok.found.head.last last.0 ≡ None =
    ap (λ (l : List ℕ). bad_last_header c.in-Ok.found.head.last l) there
    ∙ ap (λ (h : ArenaHead). bad_last_header h.last (header_at c.args.region (last_offset h.used h.last) file)) head_is
    ∙ last_agrees score_of c.args.region _ c.args.number old file c.requires whole arena (ap has_last (sym head_is) ∙ on) in
    only_fault_last c.in-Ok.found.head.last last.0 c.in-Err-check_last_header.bad last.2 none

pub returns-in-Err-check_last_header-clause-reads : goal.returns-in-Err-check_last_header-clause-reads
returns-in-Err-check_last_header-clause-reads g c = reads_then g.D.Disk 2 1 _ _ _ c.find_head.ensures.reads c.check_last_header.ensures.reads

pub returns-in-Err-check_last_header-clause-calls : goal.returns-in-Err-check_last_header-clause-calls
returns-in-Err-check_last_header-clause-calls g c = inr (inr (made_then g.D.Disk 2 1 _ _ _ c.in-Ok.ensures.second c.check_last_header.ensures.calls))
