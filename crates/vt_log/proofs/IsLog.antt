-- Files are one log at most.
use Rattle.std.proofs.Common.{◌≡◌, ℕ, ◌^◌, ◌≤◌, List, get_or, sym, ◌∙◌, ap, subst, arith, Some}
use Rattle.std.specs.Prelude.{All, slice_get}
use Rattle.std.proofs.lemmas.List.{same_lists}
use Rattle.std.proofs.lemmas.Option.{slice_get-get_or, same_Some}
use Rattle.vt_model.specs.History.{History}
use Rattle.vt_part.specs.declared.layout.ArenaRegion.{ArenaRegion}
use Rattle.vt_arena.specs.Layout.{Content, IsArena}
use Rattle.vt_arena.proofs.Unique.{one_content}
use Rattle.vt_log.specs.Logs.{blocks_from, first_unsealed, versions_of, AreArenas, IsLog}
use Rattle.vt_log.proofs.Lists.{slice_get_other, at_slice}

pub same_contents : (score_of : List ℕ → List ℕ) (layout : List ArenaRegion) (files : List (List ℕ)) (cs ds : List Content) → All (λ r. r.region.len ≤ 2 ^ 30) layout
    → AreArenas score_of layout files cs → AreArenas score_of layout files ds → cs ≡ ds
same_contents score_of layout files cs ds short one two = same_lists cs ds (one.many ∙ sym two.many) (λ k d below.
    let a = get_or cs k d in
    let b = get_or ds k d in
    let at_a : slice_get cs k ≡ Some a = slice_get-get_or cs k d below in
    let at_b : slice_get ds k ≡ Some b = slice_get-get_or ds k d (omega (arith, below, one.many, two.many)) in
    let r = slice_get_other layout cs k a one.many at_a in
    let x = one.each k r.0 a r.1 at_a in
    let y = two.each k r.0 b r.1 at_b in
    let file : x.0 ≡ y.0 = same_Some x.0 y.0 (sym x.1 ∙ y.1) in
    let few : r.0.region.len ≤ 2 ^ 30 = at_slice (λ (r : ArenaRegion). r.region.len ≤ 2 ^ 30) layout k r.0 short r.1 in
    one_content score_of r.0.region r.0.number a b x.0 few x.2 (subst (λ (z : List ℕ). IsArena score_of r.0.region r.0.number b z) (sym file) y.2))

pub one_log : (score_of : List ℕ → List ℕ) (layout : List ArenaRegion) (files : List (List ℕ)) (g h : History) (a b : ℕ) → All (λ r. r.region.len ≤ 2 ^ 30) layout
    → IsLog score_of layout files g a → IsLog score_of layout files h b → (g ≡ h) × (a ≡ b)
one_log score_of layout files g h a b short one two =
    let same = same_contents score_of layout files one.contents two.contents short one.arenas two.arenas in
    (one.history ∙ ap (blocks_from 0) same ∙ sym two.history, one.base_is ∙ ap first_unsealed same ∙ sym two.base_is)

pub one_versions : (score_of : List ℕ → List ℕ) (layout : List ArenaRegion) (files : List (List ℕ)) (g h : History) (a b : ℕ) → All (λ r. r.region.len ≤ 2 ^ 30) layout
    → (one : IsLog score_of layout files g a) → (two : IsLog score_of layout files h b) → versions_of one.contents ≡ versions_of two.contents
one_versions score_of layout files g h a b short one two = ap versions_of (same_contents score_of layout files one.contents two.contents short one.arenas two.arenas)
