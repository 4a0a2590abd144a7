use Rattle.std.proofs.Common.{ℕ, zero, suc, ◌+◌, ◌<◌, List, drop, replicate, refl, sym, subst, arith, get_or-drop}
use Rattle.std.specs.Prelude.{slice_index}
use Rattle.vt_arena.proofs.Clumps.{taken_bytes}
use Rattle.vt_base.specs.Bytes.{AreBytes}
use Rattle.vt_check.proofs.clumps.own_entry.Goals as goal

zeros : (n i : ℕ) → slice_index (replicate n 0) i < 256
zeros zero i = omega arith
zeros (suc n) zero = omega arith
zeros (suc n) (suc i) = zeros n i

dropped_bytes : (n : ℕ) (bytes : List ℕ) → AreBytes bytes → AreBytes (drop n bytes)
dropped_bytes n bytes are i = subst (λ (b : ℕ). b < 256) (sym (get_or-drop n bytes i 0)) (are (n + i))

pub returns-then-clump-ge-HEADER_LEN-clause-read : goal.returns-then-clump-ge-HEADER_LEN-clause-read
returns-then-clump-ge-HEADER_LEN-clause-read c =
    let clump : List ℕ = c.args.clump.now in
    let are : AreBytes clump = λ i. omega (arith, c.type_inv.clump i) in
    record {
      len = c.copy_from_slice.ensures.len;
      bytes = subst AreBytes (sym c.copy_from_slice.ensures.after) (taken_bytes 25 (drop 4 clump) (dropped_bytes 4 clump are));
    }

pub returns-else-clump-ge-HEADER_LEN-clause-read : goal.returns-else-clump-ge-HEADER_LEN-clause-read
returns-else-clump-ge-HEADER_LEN-clause-read c = record { len = refl; bytes = zeros 25 }
