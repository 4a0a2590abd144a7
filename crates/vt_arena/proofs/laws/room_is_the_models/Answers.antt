use Rattle.std.proofs.Common.{◌≡◌, ℕ, ◌+◌, [], ◌∷◌, ◌++◌, length, nat_le, sym, ◌∙◌, ap, arith, length-append}
use Rattle.std.specs.Prelude.{sum_by}
use Rattle.std.proofs.lemmas.List.{length-map}
use Rattle.std.proofs.lemmas.List.Sums.{sum_by_push}
use Rattle.vt_clump.specs.Spelling.{Stored}
use Rattle.vt_model.specs.declared.TheConstants.{ARENA_HEAD_LEN}
use Rattle.vt_model.specs.Places.{clump_len_in, directory_len_in, needed}
use Rattle.vt_arena.specs.Places.{arena_room, lengths_of}
use Rattle.vt_arena.proofs.laws.room_is_the_models.Goals as goal

pub returns : goal.returns
returns c = record {
  fits = λ setup arena version len n stored version_is room.
      let all = lengths_of stored ++ n ∷ [] in
      let clumps : sum_by (clump_len_in version) (lengths_of stored) + clump_len_in version n ≡ sum_by (clump_len_in version) all =
      sym (sum_by_push (clump_len_in version) (lengths_of stored) n) in
      let count : length stored + 1 ≡ length all =
      omega (arith, length-append (lengths_of stored) (n ∷ []), length-map stored (λ (s : Stored). length s.block)) in
      (λ i. nat_le (clumps i + directory_len_in version (count i)) (arena_room len))
      ∙ ap (λ (v : ℕ). nat_le (sum_by (clump_len_in v) all + directory_len_in v (length all))
      (arena_room len)) (sym version_is)
      ∙ ap (λ (k : ℕ). nat_le (needed setup arena all) k) (sym room);
  offset = λ setup arena version before version_is.
      ap (λ (v : ℕ). ARENA_HEAD_LEN + sum_by (clump_len_in v) (lengths_of before)) (sym version_is);
}
