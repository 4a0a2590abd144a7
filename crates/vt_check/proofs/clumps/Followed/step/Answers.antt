use Rattle.std.proofs.Common.{◌≡◌, ◌+◌, ◌-◌, ◌/◌, ◌++◌, ℕ, List, length, refl, sym, ◌∙◌, ap, arith}
use Rattle.std.specs.Option.{option_or}
use Rattle.vt_check.specs.Checking.{taken}
use Rattle.vt_check.proofs.Following.{followed_more, joined}
use Rattle.vt_check.proofs.clumps.Followed.step.Goals as goal

pub returns-clause-followed : goal.returns-clause-followed
returns-clause-followed g c = λ clumps entries clump it len sound creator damage.
    let f = c.args.self.now in
    let version : ℕ = c.args.version in
    let chain : c.score-self.result.0 ≡ g.S.Scorer.score_of (f.chain.0 ++ c.args.cut.now.entry) =
    c.score-self.ensures ∙ ap g.S.Scorer.score_of (joined c.put-at.new.buf c.put.new.buf f.chain.0 c.args.cut.now.entry c.put-at.result
    (omega arith) (omega arith) c.requires.cut.entry.len c.put-at.ensures.written c.put-at.ensures.end c.put.ensures.written) in
    followed_more g.S.Scorer.score_of version clumps entries f _ it clump c.args.cut.now.entry refl
    (ap (λ (n : ℕ). f.used + n) (c.taken.ensures.taken ∙ ap (λ (n : ℕ). taken version n) (sym len)))
    (c.sectors_in-self.ensures ∙ ap (λ (n : ℕ). taken 2 n / 512) (sym len))
    (c.or-self.ensures ∙ ap (λ o. option_or f.link o) (c.link_damage.ensures clump creator))
    chain
    (c.or-self-2.ensures ∙ ap (λ o. option_or f.entry o) (sym damage)) sound.none sound.bytes c.requires.cut.entry
