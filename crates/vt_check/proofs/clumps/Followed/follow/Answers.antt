use Rattle.std.proofs.Common.{◌≡◌, ◌+◌, ◌-◌, ◌<◌, ◌++◌, ◌∷◌, [], ℕ, suc, List, length, map, take, drop, refl, sym, ◌∙◌, ap, subst, arith, append_assoc}
use Rattle.std.specs.Prelude.{All, slice_get, Some}
use Rattle.std.specs.List.{AllZip}
use Rattle.std.proofs.lemmas.List.{map-append, take_all}
use Rattle.std.proofs.lemmas.Option.{get_or_from_slice_get}
use Rattle.vt_check.specs.declared.clumps.Cut.{Cut}
use Rattle.vt_check.specs.declared.clumps.Tested.{Tested}
use Rattle.vt_check.specs.Checking.{bad_clump}
use Rattle.vt_check.specs.Following.{HasFollowed, IsWithinWindow, TestsAs, cut_bytes}
use Rattle.vt_check.specs.declared.clumps.Followed.{Followed}
use Rattle.vt_check.proofs.Lists.{at_all, some_at}
use Rattle.vt_check.proofs.Following.{followed_to, grows, split_at_place, step_on, sum_grows, used_on, zip_at}
use Rattle.vt_check.proofs.clumps.Followed.follow.Goals as goal
use Rattle.vt_check.proofs.clumps.Followed.follow.Goals.{in-Sound, in-BadEntry}

-- what stands behind those that were followed
behind_is : (window : List ℕ) (clumps behind : List (List ℕ)) (cuts : List Cut) (i : ℕ) (cut : Cut) → slice_get cuts i ≡ Some cut
    → clumps ++ (map (cut_bytes window) cuts ++ behind)
    ≡ (clumps ++ map (cut_bytes window) (take i cuts)) ++ (cut_bytes window cut ∷ (map (cut_bytes window) (drop (suc i) cuts) ++ behind))
behind_is window clumps behind cuts i cut at =
    let f = cut_bytes window in
    ap (λ (l : List Cut). clumps ++ (map f l ++ behind)) (split_at_place cuts i cut at)
    ∙ ap (λ (l : List (List ℕ)). clumps ++ (l ++ behind)) (map-append f (take i cuts) (cut ∷ drop (suc i) cuts))
    ∙ ap (λ (l : List (List ℕ)). clumps ++ l) (append_assoc (map f (take i cuts)) (f cut ∷ map f (drop (suc i) cuts)) behind)
    ∙ sym (append_assoc clumps (map f (take i cuts)) (f cut ∷ (map f (drop (suc i) cuts) ++ behind)))

pub returns-in-BadClump-clause-followed : goal.returns-in-BadClump-clause-followed
returns-in-BadClump-clause-followed g c = λ window clumps entries it within tests behind.
    let score = g.S.Scorer.score_of in
    let i = c.loop-i.i in
    let cuts : List Cut = c.args.cuts.now in
    let here = zip_at (λ (cut : Cut) (found : Tested). TestsAs score (cut_bytes window cut) cut.entry found) cuts c.args.tested.now i tests c.loop-i-test.true in
    let now = c.loop-i.invariant.2 window clumps entries it within tests in
    let is = sym (get_or_from_slice_get c.args.tested.now i here.1 _ here.3) ∙ c.in-BadClump.is in
    let test = subst (λ (t : Tested). TestsAs score (cut_bytes window here.0) here.0.entry t) is here.4 in
    ap (λ (l : List (List ℕ)). bad_clump score l)
    (append_assoc clumps (map (cut_bytes window) cuts) behind ∙ behind_is window clumps behind cuts i here.0 here.2)
    ∙ followed_to score c.args.version _ _ c.loop-i.self c.loop-i.self now (cut_bytes window here.0) here.0.entry c.in-BadClump.damage test
    (map (cut_bytes window) (drop (suc i) cuts) ++ behind)

pub returns-clause-followed : goal.returns-clause-followed
returns-clause-followed g c = λ window clumps entries it within tests.
    let cuts : List Cut = c.args.cuts.now in
    let whole : take c.loop-i.i cuts ≡ cuts = take_all c.loop-i.i cuts c.loop-i-test.false in
    subst (λ (l : List Cut). HasFollowed g.S.Scorer.score_of c.args.version (clumps ++ map (cut_bytes window) l) (entries ++ map (λ (cut : Cut). cut.entry) l) c.loop-i.self) whole
    (c.loop-i.invariant.2 window clumps entries it within tests)

pub loop-i-preserved : goal.loop-i-preserved
loop-i-preserved g c =
    let score = g.S.Scorer.score_of in
    let i = c.loop-i.i in
    let cuts : List Cut = c.args.cuts.now in
    let Tests : List ℕ → Cut → Tested → Type 0 = λ window cut found. TestsAs score (cut_bytes window cut) cut.entry found in
    let cut = some_at cuts i c.loop-i-test.true in
    elim c.match-tested-i.branch [
      | in-Sound w ↦ (
        omega (arith, ap (λ (f : Followed). f.clumps) w.self-is, w.step.ensures.count, c.loop-i.invariant.0),
        omega (
          arith,
          ap (λ (f : Followed). f.used) w.self-is,
          used_on c.args.version _ _ cut.0 _ w.step.ensures.used (get_or_from_slice_get cuts i cut.0 _ cut.1),
          c.loop-i.invariant.1,
          sum_grows c.args.version cuts i cut.0 cut.1,
        ),
        λ window clumps entries it within tests.
            let here = zip_at (Tests window) cuts c.args.tested.now i tests c.loop-i-test.true in
            let now = c.loop-i.invariant.2 window clumps entries it within tests in
            let is = sym (get_or_from_slice_get c.args.tested.now i here.1 _ here.3) ∙ w.in-Sound.is in
            let test = subst (λ (t : Tested). Tests window here.0 t) is here.4 in
            subst (λ (f : Followed). HasFollowed score c.args.version (clumps ++ map (cut_bytes window) (take (i + 1) cuts)) (entries ++ map (λ (t : Cut). t.entry) (take (i + 1) cuts)) f) (sym w.self-is)
            (subst (λ (es : List (List ℕ)). HasFollowed score c.args.version (clumps ++ map (cut_bytes window) (take (i + 1) cuts)) es w.step.new.self) (grows (λ (t : Cut). t.entry) entries cuts i here.0 here.2)
            (subst (λ (cs : List (List ℕ)). HasFollowed score c.args.version cs ((entries ++ map (λ (t : Cut). t.entry) (take i cuts)) ++ here.0.entry ∷ []) w.step.new.self)
            (grows (cut_bytes window) clumps cuts i here.0 here.2)
            (step_on score c.args.version window _ _ c.loop-i.self w.step.new.self here.0 _ _ w.step.ensures.followed (get_or_from_slice_get cuts i here.0 _ here.2) now
            (at_all (IsWithinWindow window) cuts i here.0 within here.2) test.0 test.1))),
      )
      | in-BadEntry w ↦ (
        omega (arith, ap (λ (f : Followed). f.clumps) w.self-is, w.step-in-BadEntry.ensures.count, c.loop-i.invariant.0),
        omega (
          arith,
          ap (λ (f : Followed). f.used) w.self-is,
          used_on c.args.version _ _ cut.0 _ w.step-in-BadEntry.ensures.used (get_or_from_slice_get cuts i cut.0 _ cut.1),
          c.loop-i.invariant.1,
          sum_grows c.args.version cuts i cut.0 cut.1,
        ),
        λ window clumps entries it within tests.
            let here = zip_at (Tests window) cuts c.args.tested.now i tests c.loop-i-test.true in
            let now = c.loop-i.invariant.2 window clumps entries it within tests in
            let is = sym (get_or_from_slice_get c.args.tested.now i here.1 _ here.3) ∙ w.in-BadEntry.is in
            let test = subst (λ (t : Tested). Tests window here.0 t) is here.4 in
            subst (λ (f : Followed). HasFollowed score c.args.version (clumps ++ map (cut_bytes window) (take (i + 1) cuts)) (entries ++ map (λ (t : Cut). t.entry) (take (i + 1) cuts)) f) (sym w.self-is)
            (subst (λ (es : List (List ℕ)). HasFollowed score c.args.version (clumps ++ map (cut_bytes window) (take (i + 1) cuts)) es w.step-in-BadEntry.new.self) (grows (λ (t : Cut). t.entry) entries cuts i here.0 here.2)
            (subst (λ (cs : List (List ℕ)). HasFollowed score c.args.version cs ((entries ++ map (λ (t : Cut). t.entry) (take i cuts)) ++ here.0.entry ∷ []) w.step-in-BadEntry.new.self)
            (grows (cut_bytes window) clumps cuts i here.0 here.2)
            (step_on score c.args.version window _ _ c.loop-i.self w.step-in-BadEntry.new.self here.0 _ _ w.step-in-BadEntry.ensures.followed (get_or_from_slice_get cuts i here.0 _ here.2) now
            (at_all (IsWithinWindow window) cuts i here.0 within here.2) test.0 test.1))),
      )
    ]
