-- What is known of an arena behind some more of its clumps, and behind the last of them.
use Rattle.std.proofs.Common.{◌≡◌, ◌∙◌, ℕ, ◌+◌, ◌-◌, ◌^◌, ◌<◌, ◌≤◌, Option, None, Some, List, [], ◌∷◌, ◌++◌, length, map, drop, refl, sym, ap, subst, arith, length-append, length-drop, length-take}
use Rattle.std.specs.Prelude.{All, IsTrue, IfSome, sum_by}
use Rattle.std.specs.Option.{option_or}
use Rattle.std.proofs.lemmas.List.{length-map}
use Rattle.std.proofs.lemmas.List.Sums.{sum_by-append, sum_by-cons}
use Rattle.vt_arena.specs.declared.head.ArenaHead.{ArenaHead}
use Rattle.vt_arena.specs.Heads.{fields_of}
use Rattle.vt_arena.specs.Layout.{Content, IsArena, fields_at}
use Rattle.vt_arena.proofs.Layouts.{all_head, all_tail}
use Rattle.vt_base.specs.Bytes.{AreBytes}
use Rattle.vt_log.specs.Whole.{IsHeadFor}
use Rattle.vt_model.specs.declared.TheConstants.{ARENA_HEAD_LEN}
use Rattle.vt_part.specs.declared.layout.ArenaRegion.{ArenaRegion}
use Rattle.vt_check.specs.declared.checking.Damage.{Damage}
use Rattle.vt_check.specs.declared.clumps.Cut.{Cut}
use Rattle.vt_check.specs.declared.clumps.Followed.{Followed}
use Rattle.vt_check.specs.Checking.{DamageDiffers, TellsOf, bad_chain, bad_clump, bad_end, bad_entry, bad_link, bad_sum, clumps_at, end_damage, entries_of, first_damage, in_second, taken}
use Rattle.vt_check.specs.Following.{HasFollowed, IsEntryRead, IsWithinWindow, cut_bytes, taken_by_cuts}
use Rattle.vt_check.proofs.Differs.{bad_chain_differs, bad_end_differs, bad_entry_differs, bad_link_differs, bad_sum_differs, either_differs, second_differs}
use Rattle.vt_check.proofs.Following.{cut_len}
use Rattle.vt_check.proofs.Judging.{is_arena, no_damage}

-- ---- how much was followed

bytes_sum : (version : ℕ) (window : List ℕ) (cuts : List Cut) → All (IsWithinWindow window) cuts
    → sum_by (λ clump. taken version (length clump)) (map (cut_bytes window) cuts) ≡ taken_by_cuts version cuts
bytes_sum version window [] all = refl
bytes_sum version window (x ∷ xs) all =
    let here : taken version (length (cut_bytes window x)) ≡ taken version (x.end - x.start) =
    ap (λ (n : ℕ). taken version n) (cut_len window x (all_head (IsWithinWindow window) x xs all)) in
    let rest : sum_by (λ clump. taken version (length clump)) (map (cut_bytes window) xs) ≡ taken_by_cuts version xs =
    bytes_sum version window xs (all_tail (IsWithinWindow window) x xs all) in
    sum_by-cons (λ (c : List ℕ). taken version (length c)) (cut_bytes window x) (map (cut_bytes window) xs)
    ∙ (λ i. here i + rest i)
    ∙ sym (sum_by-cons (λ (c : Cut). taken version (c.end - c.start)) x xs)

pub counted : (score : List ℕ → List ℕ) (version : ℕ) (window : List ℕ) (clumps entries more : List (List ℕ)) (cuts : List Cut) (f g : Followed)
    → HasFollowed score version clumps entries f → HasFollowed score version (clumps ++ map (cut_bytes window) cuts) more g → All (IsWithinWindow window) cuts
    → (g.clumps ≡ f.clumps + length cuts) × (g.used ≡ f.used + taken_by_cuts version cuts)
counted score version window clumps entries more cuts f g old new within = (
  omega (arith, new.count, old.count, length-append clumps (map (cut_bytes window) cuts), length-map cuts (cut_bytes window)),
  omega (
    arith,
    new.used,
    old.used,
    sum_by-append (λ (c : List ℕ). taken version (length c)) clumps (map (cut_bytes window) cuts),
    bytes_sum version window cuts within,
  ),
)

-- ---- what is told

module _ (score : List ℕ → List ℕ) (r : ArenaRegion) (head : ArenaHead) (file : List ℕ) (least : ARENA_HEAD_LEN ≤ r.region.len) (most : r.region.len ≤ 2 ^ 30)
    (fields : fields_at r.region file ≡ fields_of head) (its : IsHeadFor r head) where
  back : (a : Content) × IsArena score r.region r.number a file → first_damage score r.region head file ≡ None
  back (a, is) = no_damage score r head file least most fields its a is

  pub tells_damage : (damage : Damage) → first_damage score r.region head file ≡ Some damage → TellsOf score r head file (Some damage)
  tells_damage damage is = record {
    first = sym is;
    sound = (λ none. absurd (cc), λ a. sym is ∙ back a);
  }

  -- all clumps were followed
  pub tells_end : (clumps entries : List (List ℕ)) (f : Followed) → HasFollowed score head.version clumps entries f
      → clumps_at head.version r.region head.clumps file ≡ clumps
      → entries_of r.region head file (clumps_at head.version r.region head.clumps file) ≡ entries → (damage : Option Damage)
      → damage ≡ end_damage score head clumps entries → TellsOf score r head file damage
  tells_end clumps entries f it clumps_are entries_are damage is =
      let rest : Option Damage = end_damage score head clumps entries in
      let all : first_damage score r.region head file ≡ rest =
      (λ i. option_or (bad_clump score (clumps_are i)) (end_damage score head (clumps_are i) (entries_are i)))
      ∙ ap (λ (o : Option Damage). option_or o rest) it.sound in
      record {
        first = is ∙ sym all;
        sound = (
          λ none. is_arena score r head file least most fields its
              (subst (λ (l : List (List ℕ)). All AreBytes l) (sym clumps_are) it.bytes)
              (ap (λ (l : List (List ℕ)). length l) entries_are ∙ it.entries_count ∙ ap (λ (l : List (List ℕ)). length l) (sym clumps_are))
              (subst (λ (l : List (List ℕ)). All IsEntryRead l) (sym entries_are) it.reads)
              (all ∙ sym is ∙ none),
          λ a. is ∙ sym all ∙ back a,
        );
      }

pub end_differs : (score : List ℕ → List ℕ) (head : ArenaHead) (clumps entries : List (List ℕ)) (damage : Option Damage)
    → damage ≡ end_damage score head clumps entries → IfSome damage DamageDiffers
end_differs score head clumps entries damage is =
    let v : ℕ = head.version in
    let of_chain : Option Damage = bad_chain score entries head.chain.0 in
    let of_entries : Option Damage = option_or (bad_entry clumps entries) of_chain in
    let of_last : Option Damage = option_or (in_second v (bad_end head.last clumps)) of_entries in
    let of_sum : Option Damage = option_or (bad_sum v head.used clumps) of_last in
    subst (λ (o : Option Damage). IfSome o DamageDiffers) (sym is)
    (either_differs (in_second v (bad_link 0 clumps)) of_sum (second_differs v (bad_link 0 clumps) (bad_link_differs 0 clumps))
    (either_differs (bad_sum v head.used clumps) of_last (bad_sum_differs v head.used clumps)
    (either_differs (in_second v (bad_end head.last clumps)) of_entries (second_differs v (bad_end head.last clumps) (bad_end_differs head.last clumps))
    (either_differs (bad_entry clumps entries) of_chain (bad_entry_differs clumps entries) (bad_chain_differs score entries head.chain.0)))))
