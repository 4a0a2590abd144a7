-- The two values of a damage are of one form, and differ.
use Rattle.std.proofs.Common.{◌≡◌, ◌≢◌, ⊎_elim, ℕ, List, codes, Result, Ok, Err, sym, ◌∙◌, subst, arith}
use Rattle.std.specs.Prelude.{IfErr}
use Rattle.vt_base.specs.declared.place.Entry.{Entry}
use Rattle.vt_base.specs.declared.why.FieldValue.TheVariants as value
use Rattle.vt_bucket.specs.declared.decoding.BucketBad.{BucketBad}
use Rattle.vt_bucket.specs.declared.decoding.BucketBad.TheVariants.{Magic, Number, Count, Order}
use Rattle.vt_bucket.specs.Faults.{FaultIs}
use Rattle.vt_isect.specs.declared.error.ShardErr.{ShardErr}
use Rattle.vt_isect.specs.declared.error.ShardErr.TheVariants.{Fault, Damaged, Stopped}
use Rattle.vt_isect.specs.Faults.{NamesDamage, damage_of_bucket}
use Rattle.vt_isect.specs.Merging.{IsDamage, IsFaultyFrame, IsOverfull}
use Rattle.vt_disk.specs.Members.{DiskOf}
use Rattle.vt_twin.specs.declared.step.Step.{Step}
use Rattle.vt_isect.specs.declared.phase.Phase.TheVariants.{ReadFrame}
use Rattle.vt_isect.specs.Section.{SectionState}
use Rattle.vt_isect.specs.Writeback.{SectionAdvances, FindsDamage}

one_magic : (a b : List ℕ) → value.Magic a ≡ value.Magic b → a ≡ b
one_magic a b e = cc

one_number : (a b : ℕ) → value.Number a ≡ value.Number b → a ≡ b
one_number a b e = cc

fault_differs : (fault : BucketBad) (n : ℕ) (frame : List ℕ) → FaultIs fault n frame → NamesDamage (damage_of_bucket n fault)
fault_differs (Magic found) n frame it = record { form = tt; values = λ same. it.1 (sym it.0 ∙ sym (one_magic (codes "VBKT") found same)) }
fault_differs (Number found) n frame it = record { form = tt; values = λ same. it.2 (sym (one_number n found same)) }
fault_differs (Count found) n frame it = record { form = tt; values = λ same. let e = one_number 263 found same in omega (arith, it.3, e) }
fault_differs (Order entry count) n frame it = record { form = tt; values = λ same. let e = one_number count entry same in omega (arith, it.4, e) }

pub faulty_differs : (n : ℕ) (frame : List ℕ) (bad : ShardErr) → IsFaultyFrame n frame bad → NamesDamage bad
faulty_differs n frame bad it = subst NamesDamage (sym it.2) (fault_differs it.0 n frame it.1)

damage_differs : (n : ℕ) (group : List Entry) (frame : List ℕ) (bad : ShardErr)
    → IsDamage n group frame bad → NamesDamage bad
damage_differs n group frame bad it = ⊎_elim
    (λ (faulty : IsFaultyFrame n frame bad). faulty_differs n frame bad faulty)
    (λ (full : IsOverfull n group frame bad).
    subst NamesDamage (sym full.5)
    (record { form = tt; values = λ same. let e = one_number 263 full.2 same in omega (arith, full.4, e) }))
    it

-- a step that ends without a success names damage, or none
pub differs_by : {D : Type 0} (disk : DiskOf D) (result : Result Step ShardErr) (t u : SectionState D) → SectionAdvances result t u
    → ((s : ℕ) → IfErr result (λ bad. bad ≢ Fault → t.phase ≡ ReadFrame s → FindsDamage disk s t bad)) → IfErr result NamesDamage
differs_by disk (Ok step) t u steps damaged = tt
differs_by disk (Err Fault) t u steps damaged = tt
differs_by disk (Err (Damaged b want found)) t u steps damaged =
    let it = damaged steps.0.0 (λ e. cc) steps.0.1 in
    damage_differs _ _ it.0 (Damaged b want found) it.1
differs_by disk (Err (Stopped n)) t u steps damaged = tt
