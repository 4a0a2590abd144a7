use Rattle.std.proofs.Common.{◌≡◌, ◌∙◌, ◌∷◌, [], ◌++◌, ap, sym, refl, subst, arith, length, ⊎_elim}
use mathlib.Core.List.{IsPrefix}
use lib.ListN.{get_elem?}
use Rattle.vt_turns.proofs.Lists.{inside}
use Rattle.vt_turns_example.specs.declared.part.Part.TheVariants.{Log, Shard}
use Rattle.vt_turns_example.specs.Blocks.{held_value}
use Rattle.vt_turns_example.proofs.Holding.{took_both, none_again}
use Rattle.vt_turns_example.proofs.Answering.{number_held, number_none, wrote_held, wrote_nothing, wrote_new}
use Rattle.vt_turns_example.proofs.store.Store.write.Goals as goal

pub compare-said-requires : goal.compare-said-requires
compare-said-requires g c =
    let s = c.take_shard-shard in
    let l = c.take_log-log in
    let sv = s.ensures.view in
    let lv = l.ensures.view in
    let v = c.args.pass.now.me.0 in
    let kept = ap (λ o. o.kept) c.requires.free.0.1 ∙ c.args.self.now.kept in
    let t = took_both c.args.block.key s.result.1 v s.new.pass.me.0 l.new.pass.me.0 sv.0 lv.0 l.result s.result.0 sv.1 lv.1 lv.2 s.ensures.number.0 l.ensures.sound s.ensures.covers kept in
    let found = number_held l.new.pass.me.0.seen c.in-Some.n c.args.block.key (sym t.number ∙ sym c.find.ensures ∙ c.in-Some.is) in
    let there = ap (λ h. get_elem? h c.in-Some.n) t.log_is ∙ found.1 in
    record { near = inside l.result.blocks.items c.in-Some.n found.0 there }

pub give_both-requires-clause-log : goal.give_both-requires-clause-log
give_both-requires-clause-log g c =
    let s = c.take_shard-shard in
    let l = c.take_log-log in
    let sv = s.ensures.view in
    let lv = l.ensures.view in
    let v = c.args.pass.now.me.0 in
    let kept = ap (λ o. o.kept) c.requires.free.0.1 ∙ c.args.self.now.kept in
    let t = took_both c.args.block.key s.result.1 v s.new.pass.me.0 l.new.pass.me.0 sv.0 lv.0 l.result s.result.0 sv.1 lv.1 lv.2 s.ensures.number.0 l.ensures.sound s.ensures.covers kept in
    (l.result, t.has_log, refl)

pub give_both-requires-clause-shard : goal.give_both-requires-clause-shard
give_both-requires-clause-shard g c =
    let s = c.take_shard-shard in
    let l = c.take_log-log in
    let sv = s.ensures.view in
    let lv = l.ensures.view in
    let v = c.args.pass.now.me.0 in
    let kept = ap (λ o. o.kept) c.requires.free.0.1 ∙ c.args.self.now.kept in
    let t = took_both c.args.block.key s.result.1 v s.new.pass.me.0 l.new.pass.me.0 sv.0 lv.0 l.result s.result.0 sv.1 lv.1 lv.2 s.ensures.number.0 l.ensures.sound s.ensures.covers kept in
    (s.result.0, t.has_shard, refl, refl, refl)

pub add-said-requires-clause-log : goal.add-said-requires-clause-log
add-said-requires-clause-log g c =
    let s = c.take_shard-shard in
    let l = c.take_log-log in
    let sv = s.ensures.view in
    let lv = l.ensures.view in
    let v = c.args.pass.now.me.0 in
    let kept = ap (λ o. o.kept) c.requires.free.0.1 ∙ c.args.self.now.kept in
    let t = took_both c.args.block.key s.result.1 v s.new.pass.me.0 l.new.pass.me.0 sv.0 lv.0 l.result s.result.0 sv.1 lv.1 lv.2 s.ensures.number.0 l.ensures.sound s.ensures.covers kept in
    t.has_log

pub add-said-requires-clause-shard : goal.add-said-requires-clause-shard
add-said-requires-clause-shard g c =
    let s = c.take_shard-shard in
    let l = c.take_log-log in
    let sv = s.ensures.view in
    let lv = l.ensures.view in
    let v = c.args.pass.now.me.0 in
    let kept = ap (λ o. o.kept) c.requires.free.0.1 ∙ c.args.self.now.kept in
    let t = took_both c.args.block.key s.result.1 v s.new.pass.me.0 l.new.pass.me.0 sv.0 lv.0 l.result s.result.0 sv.1 lv.1 lv.2 s.ensures.number.0 l.ensures.sound s.ensures.covers kept in
    t.has_shard

pub returns-in-Some-clause-free : goal.returns-in-Some-clause-free
returns-in-Some-clause-free g c =
    let s = c.take_shard-shard in
    let l = c.take_log-log in
    let sv = s.ensures.view in
    let lv = l.ensures.view in
    (c.give_both.ensures.own, none_again c.args.pass.now.me.0 s.new.pass.me.0 l.new.pass.me.0 c.give_both.new.pass.me.0 s.result.1 sv.0 lv.0 (Shard s.result.0) (Log l.result) sv.1 lv.1 c.requires.free.1 c.give_both.ensures.gave)

pub returns-in-None-clause-free : goal.returns-in-None-clause-free
returns-in-None-clause-free g c =
    let s = c.take_shard-shard in
    let l = c.take_log-log in
    let sv = s.ensures.view in
    let lv = l.ensures.view in
    (c.add-said.ensures.own, none_again c.args.pass.now.me.0 s.new.pass.me.0 l.new.pass.me.0 c.add-said.new.pass.me.0 s.result.1 sv.0 lv.0 (Shard s.result.0) (Log l.result) sv.1 lv.1 c.requires.free.1 c.add-said.ensures.gave)

pub returns-in-Some-clause-answered : goal.returns-in-Some-clause-answered
returns-in-Some-clause-answered g c =
    let s = c.take_shard-shard in
    let l = c.take_log-log in
    let sv = s.ensures.view in
    let lv = l.ensures.view in
    let v = c.args.pass.now.me.0 in
    let kept = ap (λ o. o.kept) c.requires.free.0.1 ∙ c.args.self.now.kept in
    let t = took_both c.args.block.key s.result.1 v s.new.pass.me.0 l.new.pass.me.0 sv.0 lv.0 l.result s.result.0 sv.1 lv.1 lv.2 s.ensures.number.0 l.ensures.sound s.ensures.covers kept in
    let found = number_held l.new.pass.me.0.seen c.in-Some.n c.args.block.key (sym t.number ∙ sym c.find.ensures ∙ c.in-Some.is) in
    let there = ap (λ h. get_elem? h c.in-Some.n) t.log_is ∙ found.1 in
    let w = c.give_both.new.pass.me.0 in
    let same = c.give_both.ensures.same in
    wrote_held v w c.args.block found.0.value c.len-at.result c.compare-said.result (subst (λ h. IsPrefix v.seen h) (sym same.0) t.pre) (same.1 ∙ t.own)
    (let long = ap length (t.log_is ∙ sym same.0) in omega arith) (ap (λ h. held_value h c.args.block.key) same.0 ∙ found.2) (c.compare-said.ensures found.0 there)

pub returns-in-None-clause-answered : goal.returns-in-None-clause-answered
returns-in-None-clause-answered g c =
    let s = c.take_shard-shard in
    let l = c.take_log-log in
    let sv = s.ensures.view in
    let lv = l.ensures.view in
    let v = c.args.pass.now.me.0 in
    let kept = ap (λ o. o.kept) c.requires.free.0.1 ∙ c.args.self.now.kept in
    let t = took_both c.args.block.key s.result.1 v s.new.pass.me.0 l.new.pass.me.0 sv.0 lv.0 l.result s.result.0 sv.1 lv.1 lv.2 s.ensures.number.0 l.ensures.sound s.ensures.covers kept in
    let w = c.add-said.new.pass.me.0 in
    let seen = l.new.pass.me.0.seen in
    let long : c.len-at.result ≡ length seen = let e = ap length t.log_is in omega arith in
    let none = number_none seen 0 c.args.block.key (sym t.number ∙ sym c.find.ensures ∙ c.in-None.is) in
    ⊎_elim (λ a. wrote_new v w seen c.args.block c.len-at.result c.add-said.result a.0 t.pre long none a.1 (a.2 ∙ ap (λ own. own ++ length seen ∷ []) t.own))
    (λ a. wrote_nothing v w c.args.block c.len-at.result c.add-said.result a.0 (subst (λ h. IsPrefix v.seen h) (sym a.1) t.pre) (a.2 ∙ t.own) (long ∙ ap length (sym a.1))) c.add-said.ensures.said
