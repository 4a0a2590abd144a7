-- How workers are started and joined.
use Rattle.std.proofs.Common.{◌≡◌, ℕ, ◌+◌, ◌-◌, ◌<◌, List, [], ◌∷◌, ◌++◌, length, sym, refl, ap, ◌∙◌, subst, ⊎_elim, arith, append-nil, append_assoc, true}
use mathlib.Core.Option.{some-ne-none}
use mathlib.Core.List.{IsPrefix}
use lib.ListN.{get_elem?}
use Rattle.atomic_table.proofs.Lists.{at_longer, at_last, at_snoc}
use Rattle.vt_turns.specs.Views.{HoldsNone, turn_of, less_one, split_off, joined_views}
use Rattle.vt_turns.specs.Steps.{Loads}
use Rattle.vt_turns.specs.Calls.{Closes}
use Rattle.vt_turns.specs.Lists.{times, once}
use Rattle.vt_turns.proofs.Lists.{whole_prefix, there}
use Rattle.vt_turns_example.specs.declared.part.Block.{Block}
use Rattle.vt_turns_example.specs.declared.part.Part.{Part}
use Rattle.vt_turns_example.specs.declared.part.Part.TheVariants.{Log, Shard}
use Rattle.vt_turns_example.specs.declared.store.Store.{Store}
use Rattle.vt_turns_example.specs.declared.link.Line.{Line}
use Rattle.vt_turns_example.specs.declared.workers.End.{End}
use Rattle.vt_turns_example.specs.declared.workers.Started.{Started}
use Rattle.vt_turns_example.specs.Parts.{part_means, is_cut, log_of}
use Rattle.vt_turns_example.specs.Stores.{Pass, TheView, IsPassOfStore, IsFree}
use Rattle.vt_turns_example.specs.Talk.{IsTalk}
use Rattle.vt_turns_example.specs.Work.{Works}
use Rattle.vt_turns_example.specs.Workers.{less, own_of, owns, Joins, ServedTwo, BeginsWorker, AllBegun, Begun, Joining, HasServed, IsOneHistory}
use Rattle.vt_turns_example.proofs.Talks.{talk_on, talk_from, prefix_on}
use Rattle.vt_turns_example.proofs.Cuts.{log_at, not_shard}

pub less_none : (v : TheView) → v ≡ less v 0
less_none v = let e : v.share ≡ v.share - 0 = omega arith in ap (λ (n : ℕ). record v { share = n }) e

-- one share more is given away
pub less_more : (v u : TheView) (n : ℕ) → u ≡ less v n → less_one u ≡ less v (n + 1)
less_more v u n is = ap less_one is ∙ (let e : (v.share - n) - 1 ≡ v.share - (n + 1) = omega arith in ap (λ (m : ℕ). record v { share = m }) e)

pub split_same : (v u : TheView) (n : ℕ) → u ≡ less v n → split_off u ≡ split_off v
split_same v u n is = ap split_off is

pub joins_of : (v w u : TheView) (found : ℕ) → HoldsNone v → Loads part_means (joined_views v w) found u → Joins v w u
joins_of v w u found none l = record {
  opening = ap (λ (x : TheView). x.opening) l.is;
  share = ap (λ (x : TheView). x.share) l.is;
  own = ap (λ (x : TheView). x.own) l.is;
  none_held = λ k. ap (λ (x : TheView). turn_of x k) l.is ∙ none k;
  mine = subst (λ s. IsPrefix v.seen s) (sym (ap (λ (x : TheView). x.seen) l.is)) l.goes_on;
  theirs = subst (λ s. IsPrefix w.seen s) (sym (ap (λ (x : TheView). x.seen) l.is)) (l.olds (length v.olds) w.seen (at_longer (v.olds ++ w.seen ∷ []) w.olds (length v.olds) w.seen (at_last v.olds w.seen (length v.olds) refl)));
}

pub works_in : (store : Store) (p r : Pass) (lines : List Line) → IsPassOfStore store p → Works p r lines → IsFree store r
works_in store p r lines i w = (((w.table ∙ i.0.0, w.none_out.0, w.none_out.1), w.opening ∙ i.1, (let e = w.share in let s = i.2 in omega arith)), w.none_held)

-- a pass that was split off a free one is free
pub split_free : (store : Store) (p q : Pass) → IsFree store p → (q.table_id ≡ p.table_id) → (q.me.1 ≡ []) → q.me.0 ≡ split_off p.me.0 → IsFree store q
split_free store p q f table out is = (((table ∙ f.0.0.0, out, ap (λ (z : TheView). z.away) is), ap (λ (z : TheView). z.opening) is ∙ f.0.1, (let one = ap (λ (z : TheView). z.share) is in omega arith)), λ k. ap (λ (z : TheView). turn_of z k) is)

-- two links were served
pub two_served : (v u : TheView) (p q r s : Pass) (first second : List Line) → q.me.0 ≡ split_off v → p.me.0 ≡ less_one v → 1 < v.share → Works q r first → Works p s second → Joins s.me.0 r.me.0 u → ServedTwo v first second u
two_served v u p q r s first second q_is p_is two a b j = record {
  share = let x = j.share in let y = a.share in let z = b.share in let one : q.me.0.share ≡ 1 = ap (λ (t : TheView). t.share) q_is in let rest : p.me.0.share ≡ v.share - 1 = ap (λ (t : TheView). t.share) p_is in omega arith;
  seen = prefix_on v.seen s.me.0.seen u.seen (subst (λ (h : List Block). IsPrefix h s.me.0.seen) (ap (λ (t : TheView). t.seen) p_is) b.seen) j.mine;
  by_first = a.added;
  by_second = b.added;
  first_talk = subst (λ (n : ℕ). IsTalk u.seen n first a.added) (ap (λ (t : TheView). length t.seen) q_is) (talk_on r.me.0.seen u.seen (length q.me.0.seen) first a.added j.theirs a.talk);
  second_talk = subst (λ (n : ℕ). IsTalk u.seen n second b.added) (ap (λ (t : TheView). length t.seen) p_is) (talk_on s.me.0.seen u.seen (length p.me.0.seen) second b.added j.mine b.talk);
  own = j.own ∙ (λ i. (b.own ∙ ap (λ (t : TheView). t.own ++ b.added) p_is) i ++ (a.own ∙ ap (λ (t : TheView). t.own ++ a.added) q_is) i);
}

module _ {L : Type 0} (told : L → List Line) where
  pub owns_more : (ends : List (End L)) (e : End L) → owns (ends ++ e ∷ []) ≡ owns ends ++ own_of e
  owns_more [] e = append-nil (own_of e)
  owns_more (x ∷ xs) e = ap (λ (z : List ℕ). own_of x ++ z) (owns_more xs e) ∙ sym (append_assoc (own_of x) (owns xs) (own_of e))

  pub begun_none : (store : Store) (v : TheView) (all : List (Started L)) → all ≡ [] → AllBegun told store v all
  begun_none store v all none k s e = absurd (some-ne-none s (sym (ap (λ (l : List (Started L)). get_elem? l k) (sym none) ∙ e)))

  pub begun_more : (store : Store) (v : TheView) (all more : List (Started L)) (s : Started L) (p : Pass) → more ≡ all ++ s ∷ [] → AllBegun told store v all
      → p.me.0 ≡ split_off v → IsPassOfStore store p → BeginsWorker told p s → AllBegun told store v more
  begun_more store v all more s p is old view_is own begins k t e =
      ⊎_elim (λ old_at. old k t old_at) (λ (same : s ≡ t). (p, view_is, own, subst (λ (z : Started L). BeginsWorker told p z) same begins))
      (at_snoc all s t k (ap (λ (l : List (Started L)). get_elem? l k) (sym is) ∙ e))

  pub joining_none : (store : Store) (v u : TheView) (all : List (Started L)) (ends : List (End L)) (n : ℕ) → ends ≡ [] → n ≡ length all → Begun told store v u all → Joining told v u ends n
  joining_none store v u all ends n none many b = record {
    opening = ap (λ (x : TheView). x.opening) b.0;
    share = let e : u.share ≡ v.share - length all = ap (λ (x : TheView). x.share) b.0 in let less = b.1 in omega arith;
    seen = subst (λ (s : List Block). IsPrefix v.seen s) (sym (ap (λ (x : TheView). x.seen) b.0)) (whole_prefix v.seen);
    own = ap (λ (x : TheView). x.own) b.0 ∙ sym (append-nil v.own) ∙ ap (λ (z : List (End L)). v.own ++ owns z) (sym none);
    talks = λ k e at. absurd (some-ne-none e (sym (ap (λ (l : List (End L)). get_elem? l k) (sym none) ∙ at)));
  }

  pub joining_more : (v u u' : TheView) (p r : Pass) (ends more : List (End L)) (e : End L) (left n : ℕ) → Joining told v u ends n → n ≡ left + 1 → p.me.0 ≡ split_off v → Works p r (told e.link) → e.pass.value ≡ r
      → Joins u r.me.0 u' → more ≡ ends ++ e ∷ [] → Joining told v u' more left
  joining_more v u u' p r ends more e left n a left_is view_is w pass_is j more_is = record {
    opening = j.opening ∙ a.opening;
    share = let one : p.me.0.share ≡ 1 = ap (λ (x : TheView). x.share) view_is in let same = w.share in let sum = j.share in let old = a.share in omega arith;
    seen = prefix_on v.seen u.seen u'.seen a.seen j.mine;
    own = j.own ∙ ap (λ (z : List ℕ). z ++ r.me.0.own) a.own ∙ append_assoc v.own (owns ends) r.me.0.own ∙ ap (λ (z : List ℕ). v.own ++ z) (ap (λ (q : Pass). owns ends ++ q.me.0.own) (sym pass_is) ∙ sym (owns_more ends e) ∙ ap owns (sym more_is));
    talks = λ k t at. ⊎_elim (λ old_at. talk_on u.seen u'.seen (length v.seen) (told t.link) (own_of t) j.mine (a.talks k t old_at)) (λ (same : e ≡ t). subst (λ (z : End L). IsTalk u'.seen (length v.seen) (told z.link) (own_of z)) same mine)
        (at_snoc ends e t k (ap (λ (l : List (End L)). get_elem? l k) (sym more_is) ∙ at));
  }
    where
      added_is : w.added ≡ own_of e
      added_is = sym (w.own ∙ ap (λ (x : TheView). x.own ++ w.added) view_is) ∙ ap (λ (q : Pass). q.me.0.own) (sym pass_is)

      mine : IsTalk u'.seen (length v.seen) (told e.link) (own_of e)
      mine = subst (λ (z : ℕ × List ℕ). IsTalk u'.seen z.0 (told e.link) z.1) (λ i. (length (view_is i).seen, added_is i)) (talk_on r.me.0.seen u'.seen (length p.me.0.seen) (told e.link) w.added j.theirs w.talk)

  -- the log of the parts with which a store is closed
  log_is : (v : TheView) (cut : ℕ) (parts : List Part) (c : Closes part_means v parts) → is_cut cut v.opening.parts ≡ true → v.opening.kept ≡ true → c.history ≡ log_of parts
  log_is v cut [] c is kept = absurd (let l = log_at cut v.opening.parts is in let none : length v.opening.parts ≡ 0 = sym c.as_many in let far = Rattle.vt_turns.proofs.Lists.inside v.opening.parts 0 (Log l.0) l.1 in omega arith)
  log_is v cut (Log l ∷ ps) c is kept = let o = log_at cut v.opening.parts is in sym ((c.stands 0 (Log o.0) (Log l) o.1 refl).sound kept)
  log_is v cut (Shard s ∷ ps) c is kept = absurd (let o = log_at cut v.opening.parts is in not_shard o.0 s (c.stands 0 (Log o.0) (Shard s) o.1 refl).covers)

  pub closed_whole : (v u : TheView) (cut : ℕ) (ends : List (End L)) (parts : List Part) → (v.own ≡ []) × (v.opening.history ≡ []) → is_cut cut u.opening.parts ≡ true → u.opening.kept ≡ true → HasServed told v u ends → Closes part_means u parts → IsOneHistory told ends (log_of parts)
  closed_whole v u cut ends parts empty is kept s c = let same = log_is u cut parts c is kept in record {
    talks = λ k x at. talk_from (log_of parts) (length v.seen) 0 (told x.link) (own_of x) (omega arith) (talk_on u.seen (log_of parts) (length v.seen) (told x.link) (own_of x) (subst (λ (h : List Block). IsPrefix u.seen h) same c.seen) (s.talks k x at));
    once_each = λ n. ap (times n) (sym (s.own ∙ ap (λ z. z ++ owns ends) empty.0)) ∙ c.own n ∙ (λ i. once (length ((ap (λ o. o.history) s.opening ∙ empty.1) i)) (length (same i)) n);
  }
