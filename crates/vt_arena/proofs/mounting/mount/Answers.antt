use Rattle.std.proofs.Common.{◌≡◌, ⊎_elim, inl, inr, ℕ, List, Result, Ok, Err, refl, sym, ◌∙◌, ap, subst}
use Rattle.vt_disk.specs.Region.{region_bytes}
use Rattle.vt_disk.proofs.Calls.{made_then, reads_then}
use Rattle.vt_twin.specs.Frames.{named_number}
use Rattle.vt_arena.specs.declared.TheConstants.{FRAME_LEN}
use Rattle.vt_arena.specs.Arena.{ArenaState}
use Rattle.vt_arena.specs.declared.error.ArenaBad.{ArenaBad}
use Rattle.vt_arena.specs.declared.error.ArenaBad.TheVariants.{Fault}
use Rattle.vt_arena.specs.Heads.{fields_of}
use Rattle.vt_arena.specs.Faults.{read_at, reads_to_find}
use Rattle.vt_arena.specs.Layout.{IsArena}
use Rattle.vt_arena.proofs.ArenaFound.{sync_reads}
use Rattle.vt_arena.proofs.Finds.{mounts_bad}
use Rattle.vt_arena.specs.Sound.{IsSoundArena}
use Rattle.vt_arena.proofs.Fresh.{fresh_sound}
use Rattle.vt_arena.proofs.mounting.mount.Goals as goal

pub returns-in-Ok-resume-clause-sound : goal.returns-in-Ok-resume-clause-sound
returns-in-Ok-resume-clause-sound g c score_of old told arena =
    let same : g.D.Disk.bytes c.find.new.disk ≡ g.D.Disk.bytes c.args.disk.now = c.find.ensures.reads.bytes ∙ c.sync.ensures.bytes in
    subst (λ (a : ArenaState). IsSoundArena score_of a c.args.region old (g.D.Disk.bytes c.find.new.disk) (g.D.Disk.images c.find.new.disk)) (sym c.in-Ok-resume.ensures)
    (fresh_sound score_of c.args.region (g.D.Disk.size c.args.disk.now) c.args.number _ old c.in-Ok-find.found.head (g.D.Disk.bytes c.find.new.disk) (g.D.Disk.images c.find.new.disk) c.requires
    (λ image left. ap (λ (l : List ℕ). region_bytes c.args.region l) (c.in-Ok.ensures.settled told image (c.find.ensures.reads.images image left) ∙ sym same))
    (subst (λ (l : List ℕ). IsArena score_of c.args.region c.args.number old l) (sym same) arena)
    (c.in-Ok-find.ensures.selector told ∙ ap (λ (l : List ℕ). named_number c.args.region FRAME_LEN l) (sym c.find.ensures.reads.bytes))
    (c.in-Ok-find.ensures.found score_of old told (subst (λ (l : List ℕ). IsArena score_of c.args.region c.args.number old l) (sym c.sync.ensures.bytes) arena))
    c.in-Ok-find.ensures.checked)

-- an answer that is a fault
fault_is : {T : Type 0} (bad : ArenaBad) → (let r : Result T ArenaBad = Err bad in r ≡ Err Fault) → bad ≡ Fault
fault_is bad is = cc

never_is : {T : Type 0} (v : T) → (let r : Result T ArenaBad = Ok v in r ≡ Err Fault) → ⊥
never_is v is = cc

pub returns-in_default-clause-answer : goal.returns-in_default-clause-answer
returns-in_default-clause-answer g c = (read_at c.args.region c.args.number (g.D.Disk.bytes c.args.disk.now), (λ told. refl), tt, inl refl)

pub returns-in-Err-clause-answer : goal.returns-in-Err-clause-answer
returns-in-Err-clause-answer g c =
    let found = c.in-Err.ensures.answer in (
      found.0,
      (λ told. found.1 told ∙ ap (λ (l : List ℕ). read_at c.args.region c.args.number l) c.sync.ensures.bytes),
      mounts_bad c.args.number c.args.region.len found.0 c.in-Err.bad found.2,
      ⊎_elim (λ fault. inl (ap (λ (bad : ArenaBad). Err bad) (fault_is c.in-Err.bad fault)))
          (λ made. inr (made_then g.D.Disk 1 (reads_to_find c.args.number c.args.region.len found.0) _ _ _ c.sync.ensures.calls made)) found.3,
    )

pub returns-in-Ok-resume-clause-answer : goal.returns-in-Ok-resume-clause-answer
returns-in-Ok-resume-clause-answer g c =
    let found = c.in-Ok-find.ensures.answer in (
      found.0,
      (λ told. found.1 told ∙ ap (λ (l : List ℕ). read_at c.args.region c.args.number l) c.sync.ensures.bytes),
      (found.2.0, ap (λ (a : ArenaState). fields_of a.head) c.in-Ok-resume.ensures ∙ found.2.1),
      ⊎_elim (λ fault. absurd (never_is c.in-Ok-find.found fault))
          (λ made. inr (made_then g.D.Disk 1 (reads_to_find c.args.number c.args.region.len found.0) _ _ _ c.sync.ensures.calls made)) found.3,
    )

pub returns-in-Err-resume-clause-answer : goal.returns-in-Err-resume-clause-answer
returns-in-Err-resume-clause-answer g c =
    let found = c.in-Ok-find.ensures.answer in (
      found.0,
      (λ told. found.1 told ∙ ap (λ (l : List ℕ). read_at c.args.region c.args.number l) c.sync.ensures.bytes),
      found.2.0,
      ⊎_elim (λ fault. absurd (never_is c.in-Ok-find.found fault))
          (λ made. inr (made_then g.D.Disk 1 (reads_to_find c.args.number c.args.region.len found.0) _ _ _ c.sync.ensures.calls made)) found.3,
    )

pub returns-in_default-clause-settled : goal.returns-in_default-clause-settled
returns-in_default-clause-settled g c = inl (refl, c.sync.ensures.calls)

pub returns-in-Err-clause-settled : goal.returns-in-Err-clause-settled
returns-in-Err-clause-settled g c = inr (λ told image left. c.in-Ok.ensures.settled told image (c.find.ensures.reads.images image left) ∙ sym (c.find.ensures.reads.bytes ∙ c.sync.ensures.bytes))

pub returns-in-Ok-resume-clause-settled : goal.returns-in-Ok-resume-clause-settled
returns-in-Ok-resume-clause-settled g c = inr (λ told image left. c.in-Ok.ensures.settled told image (c.find.ensures.reads.images image left) ∙ sym (c.find.ensures.reads.bytes ∙ c.sync.ensures.bytes))

pub returns-in-Err-resume-clause-settled : goal.returns-in-Err-resume-clause-settled
returns-in-Err-resume-clause-settled g c = inr (λ told image left. c.in-Ok.ensures.settled told image (c.find.ensures.reads.images image left) ∙ sym (c.find.ensures.reads.bytes ∙ c.sync.ensures.bytes))

pub returns-in-Err-clause-sound : goal.returns-in-Err-clause-sound
returns-in-Err-clause-sound g c score_of old told arena =
    inl (c.in-Err.ensures.found score_of old told (subst (λ (l : List ℕ). IsArena score_of c.args.region c.args.number old l) (sym c.sync.ensures.bytes) arena))

pub returns-in-Ok-resume-clause-reads : goal.returns-in-Ok-resume-clause-reads
returns-in-Ok-resume-clause-reads g c =
    reads_then g.D.Disk 1 3 _ _ _ (sync_reads g.D.Disk _ _ c.sync.ensures.bytes c.sync.ensures.images c.sync.ensures.size c.sync.ensures.calls) c.find.ensures.reads

pub returns-in-Err-resume-clause-reads : goal.returns-in-Err-resume-clause-reads
returns-in-Err-resume-clause-reads g c =
    reads_then g.D.Disk 1 3 _ _ _ (sync_reads g.D.Disk _ _ c.sync.ensures.bytes c.sync.ensures.images c.sync.ensures.size c.sync.ensures.calls) c.find.ensures.reads
