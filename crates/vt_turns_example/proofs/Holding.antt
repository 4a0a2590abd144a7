-- What a pass holds after parts were taken, booked and given, and what may be booked and raised.
use Rattle.std.proofs.Common.{◌≡◌, ◌≢◌, ℕ, zero, suc, ◌+◌, ◌<◌, List, [], ◌∷◌, ◌++◌, length, sym, refl, ap, ◌∙◌, subst, arith, true, false, length-append}
use Rattle.std.specs.Prelude.{Some, None}
use Rattle.std.specs.Ordering.{nat_cmp}
use Rattle.std.specs.BTreeMap.{get, is_at, Updates}
use Rattle.std.proofs.lemmas.Bool.Decides.{nat_tests}
use mathlib.Core.Option.{some, some-ne-none}
use mathlib.Core.List.{IsPrefix}
use lib.ListN.{get_elem?}
use native.Mathlib.Decide.{ℕ_discrete}
use Rattle.vt_turns.specs.Views.{turn_of, HoldsNone, booking, without, with_bits, holding, raising}
use Rattle.vt_turns.specs.Calls.{MayBook, MayRaise}
use Rattle.vt_turns.specs.Lists.{put_at}
use Rattle.vt_turns.proofs.Lists.{at_put_here, at_put_else}
use Rattle.atomic_table.proofs.Lists.{at_last}
use Rattle.vt_turns_example.specs.declared.part.Block.{Block}
use Rattle.vt_turns_example.specs.declared.part.Log.{Log as TheLog}
use Rattle.vt_turns_example.specs.declared.part.Shard.{Shard as TheShard}
use Rattle.vt_turns_example.specs.declared.part.Part.{Part}
use Rattle.vt_turns_example.specs.declared.part.Part.TheVariants.{Log, Shard}
use Rattle.vt_turns_example.specs.Blocks.{number_from}
use Rattle.vt_turns_example.specs.Laws.{number_outside}
use Rattle.vt_turns_example.specs.Parts.{part_means, covers_key, sound_for, bit_place}
use Rattle.vt_turns_example.specs.Stores.{TheView, GaveBoth}
use Rattle.vt_turns_example.proofs.Answering.{number_new}

pub gone : (v : TheView) (k : ℕ) (x y : Part) → turn_of (without k (booking part_means k x y v)) k ≡ None
gone v k x y = at_put_here None (booking part_means k x y v).turns k None

pub stays : (v : TheView) (k j : ℕ) (x y : Part) → j ≢ k → turn_of (without k (booking part_means k x y v)) j ≡ turn_of v j
stays v k j x y n = at_put_else None (booking part_means k x y v).turns k j None n ∙ at_put_else None v.turns k j (Some y) n

pub gave_two : (v w1 w2 : TheView) (n : ℕ) (x y x' y' : Part) → w1 ≡ without 0 (booking part_means 0 x y v) → w2 ≡ without n (booking part_means n x' y' w1) → 0 < n → GaveBoth n v w2
gave_two v w1 w2 n x y x' y' a b above = record {
  log = ap (λ (w : TheView). turn_of w 0) b ∙ stays w1 n 0 x' y' (λ e. omega arith) ∙ ap (λ (w : TheView). turn_of w 0) a ∙ gone v 0 x y;
  shard = ap (λ (w : TheView). turn_of w n) b ∙ gone w1 n x' y';
  others = λ k not_log not_shard. ap (λ (w : TheView). turn_of w k) b ∙ stays w1 n k x' y' not_shard ∙ ap (λ (w : TheView). turn_of w k) a ∙ stays v 0 k x y not_log;
  share = ap (λ (w : TheView). w.share) b ∙ ap (λ (w : TheView). w.share) a;
}

pub log_books : (v : TheView) (l l' : TheLog) → l.blocks.items ≡ l'.blocks.items → MayBook part_means v 0 (Log l) (Log l')
log_books v l l' items = record {
  front = λ _. ap length (sym items);
  sound = λ h _ s k. sym items ∙ s k;
  covers = λ b. refl;
  durable = λ _. omega arith;
  within = λ n _ w. w;
  mark = omega arith;
  stop = λ n e. e;
  count = omega arith;
  full = λ e. e;
}

covers_same : (s s' : TheShard) → s.low ≡ s'.low → s.high ≡ s'.high → (key : ℕ) → covers_key s' key ≡ covers_key s key
covers_same s s' low high key = cc

get_same : (s s' : TheShard) (key : ℕ) → s.numbers.entries ≡ s'.numbers.entries → get nat_cmp s'.numbers key ≡ get nat_cmp s.numbers key
get_same s s' key e = ap (λ es. Rattle.std.specs.Map.lookup (is_at (nat_cmp key)) es) (sym e)

pub shard_books : (v : TheView) (n : ℕ) (s s' : TheShard) → 0 < n → s.numbers.entries ≡ s'.numbers.entries → s.low ≡ s'.low → s.high ≡ s'.high → MayBook part_means v n (Shard s) (Shard s')
shard_books v n s s' above entries low high = record {
  front = λ _. refl;
  sound = λ h _ sound k key inside. get_same s s' key entries ∙ sound k key (sym (covers_same s s' low high key) ∙ inside);
  covers = λ b. covers_same s s' low high b.key;
  durable = λ e. absurd (omega arith);
  within = λ n _ w. w;
  mark = omega arith;
  stop = λ n e. e;
  count = omega arith;
  full = λ e. e;
}

another : (key q : ℕ) → key ≢ q → is_at (nat_cmp key) q ≡ false
another key q ne = grind (arith, nat_tests)

-- a block is added, whose bit is set
pub adds : (v : TheView) (n : ℕ) (l l' : TheLog) (s s' : TheShard) (b : Block) (number : ℕ) → 0 < n → turn_of v 0 ≡ Some (Log l) → turn_of v n ≡ Some (Shard s) → length l.blocks.items ≡ length v.seen → number ≡ length l.blocks.items
    → covers_key s b.key ≡ true → get nat_cmp s.numbers b.key ≡ None → v.opening.kept ≡ true
    → l'.blocks.items ≡ l.blocks.items ++ b ∷ [] → Updates nat_cmp s.numbers s'.numbers b.key (Some number) → s'.low ≡ s.low → s'.high ≡ s.high
    → MayRaise part_means (with_bits (bit_place b.key ∷ []) v) (Log l) (Log l') n (Shard s) (Shard s') b
adds v n l l' s s' b number above has_log has_shard seen number_is inside new kept log_is updates low high = record {
  shard = above;
  has_log = has_log;
  has_shard = has_shard;
  front = ap length log_is ∙ length_more l.blocks.items b;
  covered = λ _. inside;
  bits_set = λ _ k p e. (length v.bits, at_last v.bits (bit_place b.key) (length v.bits) refl ∙ only k p e);
  log_sound = λ sound k. log_is ∙ ap (λ h. h ++ b ∷ []) (sound k);
  shard_sound = λ sound k key covered. by_key key (covers_same s s' (sym low) (sym high) key) covered (sound k) (ℕ_discrete b.key key);
  same_log = record { covers = λ c. refl; durable = refl; within = λ o m w. w; mark = refl; stop = refl; count = refl; full = refl };
  same_shard = record { covers = λ c. covers_same s s' (sym low) (sym high) c.key; durable = refl; within = λ o m w. w; mark = refl; stop = refl; count = refl; full = refl };
}
  where
    length_more : (h : List Block) (c : Block) → length (h ++ c ∷ []) ≡ length h + 1
    length_more h c = omega (arith, length-append h (c ∷ []))

    only : (k p : ℕ) → get_elem? (bit_place b.key ∷ []) k ≡ some p → some (bit_place b.key) ≡ some p
    only zero p e = e
    only (suc k) p e = absurd (some-ne-none p (sym e))

    by_key : (key : ℕ) → covers_key s' key ≡ covers_key s key → covers_key s' key ≡ true → ((k : ℕ) → covers_key s k ≡ true → get nat_cmp s.numbers k ≡ number_from 0 v.seen k) → Dec (b.key ≡ key) → get nat_cmp s'.numbers key ≡ number_from 0 (v.seen ++ b ∷ []) key
    by_key key same covered sound (yes e) =
        let none : number_from 0 v.seen b.key ≡ None = sym (sound b.key inside) ∙ new in
        let here : get nat_cmp s'.numbers b.key ≡ number_from 0 (v.seen ++ b ∷ []) b.key = updates.1 ∙ ap Some (omega arith) ∙ sym (number_new 0 v.seen b none) in
        subst (λ (k : ℕ). get nat_cmp s'.numbers k ≡ number_from 0 (v.seen ++ b ∷ []) k) e here
    by_key key same covered sound (no other) = updates.2 key (another b.key key other) ∙ sound key (sym same ∙ covered) ∙ number_outside 0 v.seen b key other

-- what is held after a block was added and both parts were given
pub raised_gave : (v w0 w1 w2 w3 : TheView) (n : ℕ) (y z : Part) (blk : Block) (places : List ℕ) → w0 ≡ with_bits places v → w1 ≡ raising part_means y n z blk w0 → w2 ≡ without 0 w1 → w3 ≡ without n w2 → 0 < n → (turn_of w2 n ≡ Some z) × GaveBoth n v w3
raised_gave v w0 w1 w2 w3 n y z blk places o a b c above = (has, record { log = first; shard = second; others = third; share = share })
  where
    has : turn_of w2 n ≡ Some z
    has = ap (λ (w : TheView). turn_of w n) b ∙ at_put_else None w1.turns 0 n None (λ e. omega arith) ∙ ap (λ (w : TheView). turn_of w n) a ∙ at_put_here None (put_at None w0.turns 0 (Some y)) n (Some z)

    first : turn_of w3 0 ≡ None
    first = ap (λ (w : TheView). turn_of w 0) c ∙ at_put_else None w2.turns n 0 None (λ e. omega arith) ∙ ap (λ (w : TheView). turn_of w 0) b ∙ at_put_here None w1.turns 0 None

    second : turn_of w3 n ≡ None
    second = ap (λ (w : TheView). turn_of w n) c ∙ at_put_here None w2.turns n None

    third : (k : ℕ) → k ≢ 0 → k ≢ n → turn_of w3 k ≡ turn_of v k
    third k m d = ap (λ (w : TheView). turn_of w k) c ∙ at_put_else None w2.turns n k None d ∙ ap (λ (w : TheView). turn_of w k) b ∙ at_put_else None w1.turns 0 k None m ∙ ap (λ (w : TheView). turn_of w k) a
        ∙ at_put_else None (put_at None w0.turns 0 (Some y)) n k (Some z) d ∙ at_put_else None w0.turns 0 k (Some y) m ∙ ap (λ (w : TheView). turn_of w k) o

    share : w3.share ≡ v.share
    share = ap (λ (w : TheView). w.share) c ∙ ap (λ (w : TheView). w.share) b ∙ ap (λ (w : TheView). w.share) a ∙ ap (λ (w : TheView). w.share) o

-- both parts are held
pub holds_both : (v w1 w2 : TheView) (n : ℕ) (h g : List Block) (x y : Part) → w1 ≡ holding part_means n h x v → w2 ≡ holding part_means 0 g y w1 → 0 < n → (turn_of w2 0 ≡ Some y) × (turn_of w2 n ≡ Some x)
holds_both v w1 w2 n h g x y a b above = (
  ap (λ (w : TheView). turn_of w 0) b ∙ at_put_here None w1.turns 0 (Some y),
  ap (λ (w : TheView). turn_of w n) b ∙ at_put_else None w1.turns 0 n (Some y) (λ e. omega arith) ∙ ap (λ (w : TheView). turn_of w n) a ∙ at_put_here None v.turns n (Some x),
)

-- what was held by none is so again
pub none_again : (v w1 w2 w3 : TheView) (n : ℕ) (h g' : List Block) (x y : Part) → w1 ≡ holding part_means n h x v → w2 ≡ holding part_means 0 g' y w1 → HoldsNone v → GaveBoth n w2 w3 → HoldsNone w3
none_again v w1 w2 w3 n h g' x y a b none g k = go (ℕ_discrete k 0) (ℕ_discrete k n)
  where
    go : Dec (k ≡ 0) → Dec (k ≡ n) → turn_of w3 k ≡ None
    go (yes e) d = ap (λ (i : ℕ). turn_of w3 i) e ∙ g.log
    go (no m) (yes e) = ap (λ (i : ℕ). turn_of w3 i) e ∙ g.shard
    go (no m) (no o) = g.others k m o ∙ ap (λ (w : TheView). turn_of w k) b ∙ at_put_else None w1.turns 0 k (Some y) m ∙ ap (λ (w : TheView). turn_of w k) a ∙ at_put_else None v.turns n k (Some x) o ∙ none k

-- a shard's turn shows nothing more of the history
pub view_seen : (v w : TheView) (n : ℕ) (h : List Block) (x : Part) → 0 < n → w ≡ holding part_means n h x v → w.seen ≡ v.seen
view_seen v w zero h x above e = absurd (omega arith)
view_seen v w (suc n) h x above e = ap (λ (u : TheView). u.seen) e

-- a shard and then the log were taken, for a key
pub record TookBoth (key n : ℕ) (v w : TheView) (log : TheLog) (shard : TheShard) : Type 0 where
  pub has_log : turn_of w 0 ≡ Some (Log log)
  pub has_shard : turn_of w n ≡ Some (Shard shard)
  pub pre : IsPrefix v.seen w.seen
  pub own : w.own ≡ v.own
  pub log_is : log.blocks.items ≡ w.seen
  pub number : get nat_cmp shard.numbers key ≡ number_from 0 w.seen key

pub took_both : (key n : ℕ) (v w1 w : TheView) (h g : List Block) (log : TheLog) (shard : TheShard) → w1 ≡ holding part_means n h (Shard shard) v → w ≡ holding part_means 0 g (Log log) w1 → IsPrefix w1.seen g → 0 < n
    → ((k : ℕ) (x : Part) → turn_of w k ≡ Some x → sound_for w.opening.kept w.seen x) → covers_key shard key ≡ true → v.opening.kept ≡ true → TookBoth key n v w log shard
took_both key n v w1 w h g log shard a b pre above sound inside kept = record {
  has_log = has.0;
  has_shard = has.1;
  pre = subst (λ s. IsPrefix v.seen s) (sym seen) (subst (λ s. IsPrefix s g) (view_seen v w1 n h (Shard shard) above a) pre);
  own = ap (λ (z : TheView). z.own) b ∙ ap (λ (z : TheView). z.own) a;
  log_is = sound 0 (Log log) has.0 kept';
  number = sound n (Shard shard) has.1 kept' key inside;
}
  where
    has : (turn_of w 0 ≡ Some (Log log)) × (turn_of w n ≡ Some (Shard shard))
    has = holds_both v w1 w n h g (Shard shard) (Log log) a b above

    seen : w.seen ≡ g
    seen = ap (λ (z : TheView). z.seen) b

    kept' : w.opening.kept ≡ true
    kept' = ap (λ (z : TheView). z.opening.kept) b ∙ ap (λ (z : TheView). z.opening.kept) a ∙ kept

-- a part was taken and given back
pub turned_none : (v w1 w2 : TheView) (n : ℕ) (h : List Block) (x : Part) → w1 ≡ holding part_means n h x v → w2 ≡ without n w1 → HoldsNone v → HoldsNone w2
turned_none v w1 w2 n h x a b none k = go (ℕ_discrete k n)
  where
    go : Dec (k ≡ n) → turn_of w2 k ≡ None
    go (yes e) = ap (λ (i : ℕ). turn_of w2 i) e ∙ ap (λ (w : TheView). turn_of w n) b ∙ at_put_here None w1.turns n None
    go (no ne) = ap (λ (w : TheView). turn_of w k) b ∙ at_put_else None w1.turns n k None ne ∙ ap (λ (w : TheView). turn_of w k) a ∙ at_put_else None v.turns n k (Some x) ne ∙ none k
