use Rattle.std.proofs.Common.{◌≡◌, ◌+◌, ◌<◌, ◌^◌, ◌++◌, ℕ, Some, None, Result, Ok, Err, List, [], ◌∷◌, length, map, refl, sym, ◌∙◌, ap, subst, arith}
use Rattle.std.specs.List.{AllByRecursion}
use Rattle.std.proofs.lemmas.Option.{MatchOption-at_some}
use Rattle.std.proofs.lemmas.Result.{err_from_is_err_and}
use Rattle.vac_read.specs.declared.error.VacBad.TheVariants.{NoMemory}
use Rattle.vac_read.proofs.Few.{few_as, few_nothing, few_then}
use Rattle.nine_wire.specs.declared.stat.Qid as wire
use Rattle.nine_wire.specs.Messages.{Qid}
use Rattle.nine_wire.specs.Views.{wire_qid}
use Rattle.nine_view.specs.declared.place.Place.{Place}
use Rattle.nine_view.specs.declared.request_error.RequestError.{RequestError}
use Rattle.nine_view.specs.Asking.{WalkAsks}
use Rattle.nine_view.specs.Walking.{AreQids}
use Rattle.nine_view.specs.Walks.{IsLost, Walks}
use Rattle.nine_view.proofs.Steps.{a_walk, lost_on, qids_at, walks_more, walks_no_further}
use Rattle.nine_view.proofs.WalkAsking.{Went, went_asks, went_failed, went_more, went_no_further}
use Rattle.nine_view.proofs.WalkNames.{few_more, names_begin, names_end, names_on, no_more, no_path, one_more, path_at, paths_more}
use Rattle.nine_view.proofs.walking.walk_names.Goals as goal
use Rattle.nine_view.proofs.walking.walk_names.Goals.{in-Ok-end+in_ok-push, in_default-end}

pub loop-left-init : goal.loop-left-init
loop-left-init g c =
    let none : c.new-qids.result.items ≡ [] = c.new-qids.ensures.items in
    let len = ap (λ (l : List wire.Qid). length l) none in
    record {
      front = [];
      names_are = names_begin c.split_first-left.result (λ r. r.0.now) (λ r. r.1) c.args.names.now
          c.split_first-left.ensures.some c.split_first-left.ensures.none;
      few = omega arith;
      paths = subst AreQids (sym none) tt;
      told = c.requires;
      reads = few_nothing g.B.Blocks.does g.B.Blocks.holds g.B.Scorer.score_of
          c.args.blocks.now (Ok (tt {0})) _ _ refl
          (λ blocks right. (
            right,
            ap (λ (l : List wire.Qid). a_walk (map wire_qid l) (Ok c.args.from)) none,
          ))
          (λ blocks right. (refl, refl, refl));
    }

pub returns-in-Err-clause-reads : goal.returns-in-Err-clause-reads
returns-in-Err-clause-reads g c =
    let inv = c.loop-left.invariant in
    let front : List (List ℕ) = inv.front in
    let name : List ℕ = c.in-Some.name.now in
    let rest : List (List ℕ) = c.in-Some.rest in
    let names : List (List ℕ) = c.args.names.now in
    let at : names ≡ front ++ name ∷ rest =
    MatchOption-at_some _ _ _ c.in-Some.is inv.names_are in
    let qids : List Qid = map wire_qid c.loop-left.qids.items in
    few_as g.B.Blocks.does g.B.Blocks.holds g.B.Scorer.score_of c.args.blocks.now
    c.loop-left.blocks (Ok (tt {0}))
    (Ok (record { qids = c.loop-left.qids; end = Err c.in-Err.why })) _ _ _ _ refl inv.reads
    (λ blocks walks right.
    let w = walks right in (
      w.0,
      subst (λ (l : List (List ℕ)).
          Walks blocks (Ok c.args.from) l (a_walk qids (Err c.in-Err.why))) (sym at)
          (walks_no_further blocks (name ∷ rest) front (Ok c.args.from) qids c.in-Err.why
          (subst (λ (e : Result Place RequestError).
          Walks blocks (Ok c.args.from) front (a_walk qids e)) c.in-Err.is w.1)),
    ))
    (λ blocks n walks few right.
    subst (λ (l : List (List ℕ)).
    WalkAsks (g.B.Scorer.score_of []) blocks None c.args.kept.now c.loop-left.kept (Ok c.args.from) l n)
    (sym at)
    (went_asks (g.B.Scorer.score_of []) blocks (front ++ name ∷ rest) None c.args.kept.now
    c.loop-left.kept (Ok c.args.from) (Err c.in-Err.why) n
    (went_no_further (g.B.Scorer.score_of []) blocks front (name ∷ rest) c.args.kept.now
    c.loop-left.kept (Ok c.args.from) c.in-Err.why n
    (subst (λ (e : Result Place RequestError).
    Went (g.B.Scorer.score_of []) blocks c.args.kept.now c.loop-left.kept (Ok c.args.from) front e n)
    c.in-Err.is (few right)))))

pub returns-in-Err-clause-paths : goal.returns-in-Err-clause-paths
returns-in-Err-clause-paths g c = c.loop-left.invariant.paths

pub returns-in_err-end-clause-reads : goal.returns-in_err-end-clause-reads
returns-in_err-end-clause-reads g c =
    let p = err_from_is_err_and c.from_residual.result c.from_residual.ensures.1 in
    let bad = c.in_err-end.field-0.0 in
    let inv = c.loop-left.invariant in
    let front : List (List ℕ) = inv.front in
    let name : List ℕ = c.in-Some.name.now in
    let rest : List (List ℕ) = c.in-Some.rest in
    let names : List (List ℕ) = c.args.names.now in
    let at : names ≡ front ++ name ∷ rest =
    MatchOption-at_some _ _ _ c.in-Some.is inv.names_are in
    let qids : List Qid = map wire_qid c.loop-left.qids.items in
    rw (p.1, p.2) (few_then g.B.Blocks.does g.B.Blocks.holds g.B.Scorer.score_of
    c.args.blocks.now c.loop-left.blocks c.step.new.blocks (tt {0}) (Err bad) (Err bad) _ _ _ _ _ _
    refl inv.reads c.in_err-end.ensures.reads
    (λ blocks walks lost right.
    let w = walks right in
    let l = lost w.0 in (
      l.0,
      λ some. subst (λ (l : List (List ℕ)). IsLost blocks (Ok c.args.from) l bad) (sym at)
          (lost_on blocks name rest front c.args.from qids c.in-Ok.at bad
          (subst (λ (e : Result Place RequestError).
          Walks blocks (Ok c.args.from) front (a_walk qids e)) c.in-Ok.is w.1) (l.1 some)),
    ))
    (λ blocks m n walks steps few more right.
    subst (λ (l : List (List ℕ)). WalkAsks (g.B.Scorer.score_of []) blocks (Some bad)
    c.args.kept.now c.step.new.kept (Ok c.args.from) l (m + n)) (sym at)
    (went_failed (g.B.Scorer.score_of []) blocks front rest c.args.kept.now c.loop-left.kept
    c.step.new.kept (Ok c.args.from) c.in-Ok.at name bad m n
    (subst (λ (e : Result Place RequestError).
    Went (g.B.Scorer.score_of []) blocks c.args.kept.now c.loop-left.kept (Ok c.args.from) front e m)
    c.in-Ok.is (few right)) more)))

pub returns-in_err-push-clause-reads : goal.returns-in_err-push-clause-reads
returns-in_err-push-clause-reads g c =
    let p = err_from_is_err_and c.from_residual-in_err-push.result
    c.from_residual-in_err-push.ensures.1 in
    let front : List (List ℕ) = c.loop-left.invariant.front in
    let name : List ℕ = c.in-Some.name.now in
    let rest : List (List ℕ) = c.in-Some.rest in
    let names : List (List ℕ) = c.args.names.now in
    let at : names ≡ front ++ name ∷ rest =
    MatchOption-at_some _ _ _ c.in-Some.is c.loop-left.invariant.names_are in
    rw (p.1, p.2) (few_then g.B.Blocks.does g.B.Blocks.holds g.B.Scorer.score_of
    c.args.blocks.now c.loop-left.blocks c.step.new.blocks (tt {0}) (Ok c.in_ok-end.end)
    (Err NoMemory) _ _ _ _ _ _ refl c.loop-left.invariant.reads c.in_ok-end.ensures.reads
    (λ blocks walks steps right. ((steps (walks right).0).0, λ some. absurd (some refl)))
    (λ blocks m n walks steps few more right.
    subst (λ (l : List (List ℕ)). WalkAsks (g.B.Scorer.score_of []) blocks (Some NoMemory)
    c.args.kept.now c.step.new.kept (Ok c.args.from) l (m + n)) (sym at)
    (went_failed (g.B.Scorer.score_of []) blocks front rest c.args.kept.now c.loop-left.kept
    c.step.new.kept (Ok c.args.from) c.in-Ok.at name NoMemory m n
    (subst (λ (e : Result Place RequestError).
    Went (g.B.Scorer.score_of []) blocks c.args.kept.now c.loop-left.kept (Ok c.args.from) front e m)
    c.in-Ok.is (few right)) more)))

pub loop-left-preserved : goal.loop-left-preserved
loop-left-preserved g c =
    let inv = c.loop-left.invariant in
    let front : List (List ℕ) = inv.front in
    let name : List ℕ = c.in-Some.name.now in
    let rest : List (List ℕ) = c.in-Some.rest in
    let names : List (List ℕ) = c.args.names.now in
    let at : names ≡ front ++ name ∷ rest =
    MatchOption-at_some _ _ _ c.in-Some.is inv.names_are in
    let qids : List Qid = map wire_qid c.loop-left.qids.items in
    let end : Result Place RequestError = c.in_ok-end.end in
    let old : List wire.Qid = c.loop-left.qids.items in
    let new : List wire.Qid = c.match-end-2.qids.items in
    let same : map wire_qid new ≡ map wire_qid old ++ qids_at end =
    elim c.match-end-2.branch [
      | in-Ok-end+in_ok-push w ↦
          one_more old new w.qid_of.result end w.in-Ok-end.at
          (ap (λ v. v.items) w.qids-is ∙ w.in_ok-push.ensures.items) w.qid_of.ensures
          w.in-Ok-end.is
      | in_default-end w ↦
          no_more old new end (ap (λ v. v.items) w.qids-is) w.in_default-end.not-Ok
    ] in
    let last : AllByRecursion (λ q. q.path < 2 ^ 64) (qids_at end) =
    elim c.match-end-2.branch [
      | in-Ok-end+in_ok-push w ↦
          path_at end w.in-Ok-end.at w.in-Ok-end.is
          (let e = ap (λ (q : Qid). q.path) w.qid_of.ensures in omega arith)
      | in_default-end w ↦ no_path end w.in_default-end.not-Ok
    ] in
    record {
      front = front ++ name ∷ [];
      names_are = names_on c.split_first-left-in-Some.result (λ r. r.0.now) (λ r. r.1) names front
          name rest at c.split_first-left-in-Some.ensures.some
          c.split_first-left-in-Some.ensures.none;
      few = few_more old new end front name same inv.few;
      paths = paths_more old new end same inv.paths last;
      told = c.in_ok-end.ensures.told;
      reads = few_then g.B.Blocks.does g.B.Blocks.holds g.B.Scorer.score_of
          c.args.blocks.now c.loop-left.blocks c.step.new.blocks (tt {0}) (Ok end) (Ok (tt {0})) _ _ _
          _ _ _ refl inv.reads c.in_ok-end.ensures.reads
          (λ blocks walks steps right.
          let w = walks right in
          let s = steps w.0 in (
            s.0,
            subst (λ (l : List Qid).
                Walks blocks (Ok c.args.from) (front ++ name ∷ []) (a_walk l end)) (sym same)
                (walks_more blocks name front c.args.from qids c.in-Ok.at end
                (subst (λ (e : Result Place RequestError).
                Walks blocks (Ok c.args.from) front (a_walk qids e)) c.in-Ok.is w.1) s.1),
          ))
          (λ blocks m n walks steps few more right.
          went_more (g.B.Scorer.score_of []) blocks front c.args.kept.now c.loop-left.kept
          c.step.new.kept (Ok c.args.from) c.in-Ok.at name end m n
          (subst (λ (e : Result Place RequestError).
          Went (g.B.Scorer.score_of []) blocks c.args.kept.now c.loop-left.kept (Ok c.args.from) front
          e m) c.in-Ok.is (few right))
          more c.in_ok-end.ensures.kept (steps (walks right).0).1);
    }

pub returns-clause-reads : goal.returns-clause-reads
returns-clause-reads g c =
    let inv = c.loop-left.invariant in
    let names : List (List ℕ) = c.args.names.now in
    let all : names ≡ inv.front = names_end c.loop-left.left _ _ c.in_default.not-Some inv.names_are in
    let qids : List Qid = map wire_qid c.loop-left.qids.items in
    few_as g.B.Blocks.does g.B.Blocks.holds g.B.Scorer.score_of c.args.blocks.now
    c.loop-left.blocks (Ok (tt {0}))
    (Ok (record { qids = c.loop-left.qids; end = c.loop-left.end })) _ _ _ _ refl inv.reads
    (λ blocks walks right.
    let w = walks right in (
      w.0,
      subst (λ (l : List (List ℕ)). Walks blocks (Ok c.args.from) l (a_walk qids c.loop-left.end))
          (sym all) w.1,
    ))
    (λ blocks n walks few right.
    subst (λ (l : List (List ℕ)). WalkAsks (g.B.Scorer.score_of []) blocks None c.args.kept.now
    c.loop-left.kept (Ok c.args.from) l n) (sym all)
    (went_asks (g.B.Scorer.score_of []) blocks inv.front None c.args.kept.now c.loop-left.kept
    (Ok c.args.from) c.loop-left.end n (few right)))

pub returns-clause-paths : goal.returns-clause-paths
returns-clause-paths g c = c.loop-left.invariant.paths
