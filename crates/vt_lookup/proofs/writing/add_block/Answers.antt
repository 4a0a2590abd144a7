use Rattle.std.proofs.Common.{◌≡◌, [], ◌∷◌, ◌++◌, length, Option, Some, sym, ◌∙◌, ap, subst}
use Rattle.vt_clump.specs.Clumps.{stored_of}
use Rattle.vt_log.specs.Logs.{accepted_in}
use Rattle.vt_log.specs.Queue.{spot_of}
use Rattle.vt_log.specs.Sound.{IsSoundLog}
use Rattle.vt_base.specs.Protocol.{write}
use Rattle.vt_model.specs.Answer.{with_added}
use Rattle.vt_model.specs.History.{Accepted}
use Rattle.vt_model.specs.Legal.{IsLegal}
use Rattle.vt_model.specs.Places.{Setup, next_arena, place_of}
use Rattle.vt_lookup.proofs.Adding.{block_is, entry_is, taken_opened}
use Rattle.vt_lookup.proofs.writing.add_block.Goals as goal

pub returns-clause-sound : goal.returns-clause-sound
returns-clause-sound g c = λ setup h durable block tells sound is added.
    let score = g.S.Scorer.score_of in
    let packed = c.args.packed in
    let l = c.args.log.now in
    let place = c.in-Ok.place in
    let took = c.in-Ok.ensures.appends h is sound.log in
    let m = write packed.kind (stored_of packed).block in
    let operation = c.refusals_add_nothing.ensures.operation score setup h m block added in
    let model = c.places_stay.ensures.arena score setup h m block added in
    let log : next_arena setup h packed.len ≡ Some place.arena = ap (λ (d : Setup). next_arena d h packed.len) sound.opened ∙ took.0 in
    let same : block ≡ accepted_in place.arena (stored_of packed) = block_is score setup h packed block place.arena is operation model log in
    let legal : IsLegal score setup (h ++ block ∷ []) = subst (λ (o : Option Accepted). IsLegal score setup (with_added h o)) added (c.adding_keeps_legal.ensures score setup h m sound.legal) in
    let stands : place_of setup (h ++ block ∷ []) (length h) ≡ Some (spot_of place) =
    subst (λ (e : Accepted). place_of setup (h ++ e ∷ []) (length h) ≡ Some (spot_of place)) (sym same)
    (ap (λ (d : Setup). place_of d (h ++ accepted_in place.arena (stored_of packed) ∷ []) (length h)) sound.opened ∙ took.1) in
    record {
      log = subst (λ (e : Accepted). IsSoundLog score g.D.Disk c.append.new.self (h ++ e ∷ [])) (sym same) took.2;
      shard = c.put.ensures.adds score setup h durable 0 block sound.shard legal.keys (c.front-number.ensures.front ∙ sound.log.front)
          (entry_is score setup h packed block place.arena is operation model log place c.front-number.result stands);
      opened = taken_opened setup packed place l c.append.new.self c.in-Ok.ensures.takes sound.opened;
      legal = legal;
    }
