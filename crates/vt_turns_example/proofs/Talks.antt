-- Talks of a longer history, and one talk behind another.
use Rattle.std.proofs.Common.{◌≡◌, ℕ, ◌≤◌, List, [], ◌∷◌, ◌++◌, length, take, sym, refl, ap, ◌∙◌, subst, arith, append-nil, append_assoc}
use Rattle.std.proofs.lemmas.List.{take-append-le}
use mathlib.Core.Option.{some}
use mathlib.Core.List.{IsPrefix}
use lib.ListN.{get_elem?}
use Rattle.atomic_table.proofs.Lists.{at_longer}
use Rattle.vt_turns.specs.Views.{HoldsNone}
use Rattle.vt_turns.proofs.Lists.{prefix_length, whole_prefix}
use Rattle.vt_turns_example.specs.declared.part.Block.{Block}
use Rattle.vt_turns_example.specs.declared.link.Ask.{Ask}
use Rattle.vt_turns_example.specs.declared.link.Ask.TheVariants.{Write, Look}
use Rattle.vt_turns_example.specs.declared.link.Said.{Said}
use Rattle.vt_turns_example.specs.declared.link.Said.TheVariants.{Added, Held, Collision, NoMemory, Absent, Unknown}
use Rattle.vt_turns_example.specs.declared.link.Line.{Line}
use Rattle.vt_turns_example.specs.Talk.{AnswersAsk, Adds, TellsLine, IsTalk}
use Rattle.vt_turns_example.specs.Stores.{Pass, TheView, Answered}
use Rattle.vt_turns_example.specs.Work.{Works}

pub prefix_on : (a b c : List Block) → IsPrefix a b → IsPrefix b c → IsPrefix a c
prefix_on a b c p q = (p.0 ++ q.0, sym (append_assoc a p.0 q.0) ∙ ap (λ z. z ++ q.0) p.1 ∙ q.1)

take_same : (n : ℕ) (h g : List Block) → IsPrefix h g → n ≤ length h → take n g ≡ take n h
take_same n h g p le = ap (take n) (sym p.1) ∙ take-append-le n h p.0 le

adds_on : (ask : Ask) (said : Said) (at : ℕ) (h g : List Block) (added rest : List ℕ) → IsPrefix h g → Adds ask said at h added rest → Adds ask said at g added rest
adds_on (Write b) Added at h g added rest p a = (a.0, subst (λ (z : List Block). get_elem? z at ≡ some b) p.1 (at_longer h p.0 at b a.1))
adds_on (Look key) Added at h g added rest p a = a
adds_on ask Held at h g added rest p a = a
adds_on ask Collision at h g added rest p a = a
adds_on ask NoMemory at h g added rest p a = a
adds_on ask Absent at h g added rest p a = a
adds_on ask Unknown at h g added rest p a = a

adds_more : (ask : Ask) (said : Said) (at : ℕ) (h : List Block) (added rest more : List ℕ) → Adds ask said at h added rest → Adds ask said at h (added ++ more) (rest ++ more)
adds_more (Write b) Added at h added rest more a = (ap (λ (z : List ℕ). z ++ more) a.0, a.1)
adds_more (Look key) Added at h added rest more a = a
adds_more ask Held at h added rest more a = ap (λ (z : List ℕ). z ++ more) a
adds_more ask Collision at h added rest more a = ap (λ (z : List ℕ). z ++ more) a
adds_more ask NoMemory at h added rest more a = ap (λ (z : List ℕ). z ++ more) a
adds_more ask Absent at h added rest more a = ap (λ (z : List ℕ). z ++ more) a
adds_more ask Unknown at h added rest more a = ap (λ (z : List ℕ). z ++ more) a

tells_on : (h g : List Block) (from : ℕ) (l : Line) (added rest : List ℕ) → IsPrefix h g → TellsLine h from l added rest → TellsLine g from l added rest
tells_on h g from l added rest p t = record {
  since = t.since;
  within = let le = prefix_length h g p in let w = t.within in omega arith;
  answers = subst (λ (z : List Block). AnswersAsk l.ask l.said z) (sym (take_same l.at h g p t.within)) t.answers;
  adds = adds_on l.ask l.said l.at h g added rest p t.adds;
}

-- a talk of a history is one of every history that goes on from it
pub talk_on : (h g : List Block) (from : ℕ) (lines : List Line) (added : List ℕ) → IsPrefix h g → IsTalk h from lines added → IsTalk g from lines added
talk_on h g from [] added p t = t
talk_on h g from (l ∷ ls) added p t = (t.0, tells_on h g from l added t.0 p t.1, talk_on h g l.at ls t.0 p t.2)

-- and one from each smaller number
pub talk_from : (h : List Block) (n m : ℕ) (lines : List Line) (added : List ℕ) → m ≤ n → IsTalk h n lines added → IsTalk h m lines added
talk_from h n m [] added le t = t
talk_from h n m (l ∷ ls) added le t = (
  t.0,
  record {
    since = let since = t.1.since in omega arith;
    within = t.1.within;
    answers = t.1.answers;
    adds = t.1.adds;
  },
  t.2,
)

pub talk_append : (q h : List Block) (from : ℕ) (ls ms : List Line) (a b : List ℕ) → IsPrefix q h → from ≤ length q → IsTalk q from ls a → IsTalk h (length q) ms b → IsTalk h from (ls ++ ms) (a ++ b)
talk_append q h from [] ms a b p le s t = subst (λ (z : List ℕ). IsTalk h from ms (z ++ b)) (sym s) (talk_from h (length q) from ms b le t)
talk_append q h from (l ∷ ls) ms a b p le s t = let on = tells_on q h from l a s.0 p s.1 in (
  s.0 ++ b,
  record {
    since = on.since;
    within = on.within;
    answers = on.answers;
    adds = adds_more l.ask l.said l.at h a s.0 b on.adds;
  },
  talk_append q h l.at ls ms s.0 b p s.1.within s.2 t,
)

-- one answer is a talk
pub one_talk : (v w : TheView) (line : Line) (ask : Ask) → line.ask ≡ ask → (a : Answered v ask line.said line.at w) → IsTalk w.seen (length v.seen) (line ∷ []) a.added
one_talk v w line ask is a = (
  [],
  record {
    since = a.since;
    within = a.within;
    answers = subst (λ (q : Ask). AnswersAsk q line.said (take line.at w.seen)) (sym is) a.answers;
    adds = subst (λ (q : Ask). Adds q line.said line.at w.seen a.added []) (sym is) a.adds;
  },
  refl,
)

pub works_none : (p : Pass) → (p.me.1 ≡ []) × (p.me.0.away ≡ 0) → HoldsNone p.me.0 → Works p p []
works_none p out none = record { table = refl; none_out = out; opening = refl; share = refl; none_held = none; seen = whole_prefix p.me.0.seen; added = []; own = sym (append-nil p.me.0.own); talk = refl }

pub works_on : (p q r : Pass) (ls ms : List Line) → Works p q ls → Works q r ms → Works p r (ls ++ ms)
works_on p q r ls ms a b = record {
  table = b.table ∙ a.table;
  none_out = b.none_out;
  opening = b.opening ∙ a.opening;
  share = b.share ∙ a.share;
  none_held = b.none_held;
  seen = prefix_on p.me.0.seen q.me.0.seen r.me.0.seen a.seen b.seen;
  added = a.added ++ b.added;
  own = b.own ∙ ap (λ z. z ++ b.added) a.own ∙ append_assoc p.me.0.own a.added b.added;
  talk = talk_append q.me.0.seen r.me.0.seen (length p.me.0.seen) ls ms a.added b.added b.seen (prefix_length p.me.0.seen q.me.0.seen a.seen) a.talk b.talk;
}
