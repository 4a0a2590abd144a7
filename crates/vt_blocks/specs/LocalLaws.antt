-- Laws of a store as a store of blocks: what was taken in is held, and nothing else.
use Rattle.std.proofs.Common.{◌≡◌, ◌⊎◌, ℕ, ◌≤◌, inl, inr, Bool, true, false, cond, Option, Some, None, Ok, Err, List, [], ◌∷◌, ◌++◌, length, take, refl, sym, ◌∙◌, ap, subst, arith}
use Rattle.std.specs.Prelude.{find, slice_get, is_some, not, nat_lt, nat_le, ◌==◌, IsTrue}
use Rattle.std.specs.List.{All}
use Rattle.std.specs.Option.{option_map, option_or}
use Rattle.std.specs.Str.{bytes_eq}
use Rattle.std.proofs.lemmas.Bool.{cases_Bool, ltb-true, eqb-true, false≢true}
use Rattle.std.proofs.lemmas.List.{take_at, take_all, take-append-le, nil_from_length}
use Rattle.std.proofs.lemmas.List.Elements.{All-get_or}
use Rattle.std.proofs.lemmas.Option.{slice_get_within, get_or_from_slice_get}
use Rattle.std.proofs.lemmas.Slice.Eq.{bytes_eq-Decides}
use Rattle.vt_base.specs.Kind.{IsKind, is_kind}
use Rattle.vt_base.specs.Protocol.{Operation, read, write, sync as sync_all, RMessage, r_read, r_write, r_sync, r_error, why_words}
use Rattle.vt_base.specs.declared.TheConstants.{MAX_BLOCK}
use Rattle.vt_base.specs.declared.why.Why.{Why}
use Rattle.vt_base.specs.declared.why.Why.TheVariants as whys
use Rattle.vt_model.specs.History.{History, Accepted, Block, IsBlock, held, has_key}
use Rattle.vt_model.specs.Places.{Setup, next_arena, crowd, bucket_of, bucket_count}
use Rattle.vt_model.specs.declared.TheConstants.{BUCKET_ROOM}
use Rattle.vt_model.specs.Answer.{Outcome, answer, answer_to_read, adds, collides, lends, refuses, replies, with_added}
use Rattle.vt_model.specs.Legal.{IsLegal}
use Rattle.vt_model.proofs.Added.{adds_when, added-refused}
use Rattle.vt_model.proofs.Adding.{IsLegal-with_added}
use Rattle.vt_model.proofs.Keys.{equal_bytes}
use Rattle.vt_model.proofs.Numbers.{held-zero, held-by, held-first, collides-free}
use Rattle.vt_model.specs.Causes.{IsCauseFor, Cause, disk_fault, stopped, damaged, no_memory, why_of}
use Rattle.vt_handler.specs.Condition.{Condition, ConditionGoesOn, IsNoDamage}
use Rattle.vt_blocks.specs.Members.{StoreOf}
use Rattle.vt_handler.specs.Serving.{AnswersAsModel, ServesOperation, IsOfDurable}
use Rattle.vt_tree.specs.declared.error.BlockErr.{BlockErr}
use Rattle.vt_tree.specs.Calls.{Call, get, put, sync, asked_of, after, TellsOfMap, IsBlockRefusal}
use Rattle.vt_tree.specs.MapLaws.{block_again, block_same}
use Rattle.vt_tree.specs.Maps.{Maps, with_block, HasNoOther, IsWithin, IsWriteOnce}
use Rattle.vt_blocks.specs.Local.{LocalState, DoesLocal, HoldsLocal, StandsFor, HasKind, IsToldAs, err_of}

-- ---- what a history holds with a block more

-- a search in a list with an element more
find_more : {A B : Type 0} (p : A → Bool) (f : A → B) (xs : List A) (x : A)
    → option_map f (find p (xs ++ x ∷ []))
    ≡ option_or (option_map f (find p xs)) (cond (p x) (Some (f x)) None)
find_more {A} {B} p f [] x = last (p x)
  where
    last : (b : Bool) → option_map f (cond b (Some x) None) ≡ cond b (Some (f x)) None
    last true = refl
    last false = refl
find_more {A} {B} p f (y ∷ xs) x = either (p y) (find_more p f xs x)
  where
    either : (b : Bool) → option_map f (find p (xs ++ x ∷ []))
        ≡ option_or (option_map f (find p xs)) (cond (p x) (Some (f x)) None)
        → option_map f (cond b (Some y) (find p (xs ++ x ∷ [])))
        ≡ option_or (option_map f (cond b (Some y) (find p xs))) (cond (p x) (Some (f x)) None)
    either true rest = refl
    either false rest = rest

-- the search goes on to the new block where it found none
added_block : (score : List ℕ → List ℕ) (h : History) (e : Accepted) (s : List ℕ) (kind : ℕ)
    → held score (h ++ e ∷ []) s kind ≡ with_block score e.block (held score h) s kind
added_block score h e s kind = either (bytes_eq s (score []))
  where
    either : (b : Bool)
        → cond b (Some []) (option_map (λ (x : Accepted). x.block.bytes)
        (find (has_key score s kind) (h ++ e ∷ [])))
        ≡ option_or (cond b (Some []) (option_map (λ (x : Accepted). x.block.bytes)
        (find (has_key score s kind) h)))
        (cond (has_key score s kind e) (Some e.block.bytes) None)
    either true = refl
    either false = find_more (has_key score s kind) (λ (x : Accepted). x.block.bytes) h e

-- ---- what the model's answers tell

-- a block that is lent is there
lends_gives : (count : ℕ) (o : Option (List ℕ)) (bytes : List ℕ)
    → (lends count o).reply ≡ r_read bytes → o ≡ Some bytes
lends_gives count None bytes is = absurd (cc)
lends_gives count (Some b) bytes is = of (nat_lt count (length b)) is
  where
    of : (t : Bool) → (cond t (refuses whys.TooSmall) (replies (r_read b))).reply ≡ r_read bytes
        → Some b ≡ Some bytes
    of true is = absurd (cc)
    of false is = cc

-- a block that was given is held
read_gives : (score : List ℕ → List ℕ) (h : History) (s : List ℕ) (kind count : ℕ)
    (bytes : List ℕ) → (answer_to_read score h s kind count).reply ≡ r_read bytes
    → held score h s kind ≡ Some bytes
read_gives score h s kind count bytes is = of (not (is_kind kind)) is
  where
    of : (t : Bool) → (cond t (refuses whys.BadType) (lends count (held score h s kind))).reply
        ≡ r_read bytes → held score h s kind ≡ Some bytes
    of true is = absurd (cc)
    of false is = lends_gives count (held score h s kind) bytes is

-- a refusal, where no held block is longer than is asked for, says that none is there
lends_none : (count : ℕ) (o : Option (List ℕ)) (text : List ℕ)
    → ((b : List ℕ) → o ≡ Some b → length b ≤ count) → (lends count o).reply ≡ r_error text
    → o ≡ None
lends_none count None text most is = refl
lends_none count (Some b) text most is = elim (cases_Bool (nat_lt count (length b))) [
  | inl long ↦
      let few = most b refl in
      let more = ltb-true count (length b) long in
      absurd (omega arith)
  | inr fits ↦
      let here : (replies (r_read b)).reply ≡ r_error text =
      ap (λ (t : Bool). (cond t (refuses whys.TooSmall) (replies (r_read b))).reply) (sym fits)
      ∙ is in
      absurd (cc)
]

-- a read of a known type that had room for what is held, and was refused, asked for what isn't held
read_absent : (score : List ℕ → List ℕ) (h : History) (s : List ℕ) (kind count : ℕ)
    (text : List ℕ) → IsKind kind
    → ((b : List ℕ) → held score h s kind ≡ Some b → length b ≤ count)
    → (answer_to_read score h s kind count).reply ≡ r_error text → held score h s kind ≡ None
read_absent score h s kind count text known most is = elim (cases_Bool (is_kind kind)) [
  | inl is_one ↦
      lends_none count (held score h s kind) text most
      (ap (λ (t : Bool). (cond (not t) (refuses whys.BadType)
      (lends count (held score h s kind))).reply) (sym is_one) ∙ is)
  | inr other ↦ absurd (false≢true (subst IsTrue other known))
]

-- what a legal history holds isn't too long
held_most : (score : List ℕ → List ℕ) (h : History) → All (λ e. IsBlock e.block) h
    → (s : List ℕ) (kind : ℕ) (b : List ℕ) → held score h s kind ≡ Some b → length b ≤ MAX_BLOCK
held_most score h blocks s kind b is = elim (cases_Bool (bytes_eq s (score []))) [
  | inl zero ↦
      let here : Some [] ≡ Some b =
      ap (λ (t : Bool). cond t (Some []) (option_map (λ (x : Accepted). x.block.bytes)
      (find (has_key score s kind) h))) (sym zero) ∙ is in
      let none : [] ≡ b = cc in
      omega (arith, ap length none)
  | inr other ↦
      let nonzero : s ≡ score [] → ⊥ =
      λ same. false≢true (sym other ∙ (bytes_eq-Decides s (score [])).1 same) in
      let found = held-by score h s kind b nonzero is in
      let known = stored h found.0 found.1.block blocks found.1.stands in
      omega (arith, known.most, ap length found.2)
]
  where
    stored : (g : History) (i : ℕ) (e : Accepted) → All (λ x. IsBlock x.block) g
        → slice_get g i ≡ Some e → IsBlock e.block
    stored g i e all stands =
        subst (λ (x : Accepted). IsBlock x.block) (get_or_from_slice_get g i e e stands)
        (All-get_or (λ (x : Accepted). IsBlock x.block) g i e (slice_get_within g i e stands) all)

-- what is answered to a write, by its tests
abbrev tested : (k t z c p f : Bool) (o : Option ℕ) (zero s : List ℕ) (kind : ℕ)
    (bytes : List ℕ) → Outcome
tested k t z c p f o zero s kind bytes =
    cond (not k) (refuses whys.BadType) (cond t (refuses whys.TooBig)
    (cond z (replies (r_write zero)) (cond c (refuses whys.Collision)
    (cond p (replies (r_write s)) (cond f (refuses whys.IndexFull) (adds s kind bytes o))))))

-- a write that is taken brings no bytes; or a block that collides with none, and that is there, or
-- is added
taken_as : (k t z c p f : Bool) (o : Option ℕ) (zero s : List ℕ) (kind : ℕ)
    (bytes score : List ℕ) → (tested k t z c p f o zero s kind bytes).reply ≡ r_write score
    → (z ≡ true) ⊎ ((c ≡ false) × ((p ≡ true) ⊎ ((e : Accepted)
    × ((tested k t z c p f o zero s kind bytes).added ≡ Some e))))
taken_as false t z c p f o zero s kind bytes score is = absurd (cc)
taken_as true true z c p f o zero s kind bytes score is = absurd (cc)
taken_as true false true c p f o zero s kind bytes score is = inl refl
taken_as true false false true p f o zero s kind bytes score is = absurd (cc)
taken_as true false false false true f o zero s kind bytes score is = inr (refl, inl refl)
taken_as true false false false false true o zero s kind bytes score is = absurd (cc)
taken_as true false false false false false None zero s kind bytes score is = absurd (cc)
taken_as true false false false false false (Some arena) zero s kind bytes score is =
    inr (
      refl,
      inr (
        record {
          block = record { kind = kind; bytes = bytes };
          arena = arena;
        },
        refl,
      ),
    )

-- ---- a store that is alone

module _ {S : Type 0} (T : StoreOf S)
    (durable_is_held : (s : S) (h : History) → T.holds s h → (T.condition s).durable ≤ length h)
  where
    -- an answer is about the whole history, which goes on by what it adds alone
    alone_answers : (c c' : Condition) (holds : History → Type 0) (h : History) (m : Operation)
        (reply : RMessage) → IsTrue c.alone → AnswersAsModel T.score_of c c' holds h m reply
        → ((answer T.score_of c.setup h m).reply ≡ reply)
        × holds (with_added h (answer T.score_of c.setup h m).added)
        × IsOfDurable m (length h) c'.durable
    alone_answers c c' holds h m reply alone a =
        let own = a.lengthens.alone_is alone in
        let front : take a.number a.new ≡ h =
        ap (λ (l : History). take a.number l) a.lengthens.new_is
        ∙ take_at h a.lengthens.later a.number (sym own.0) in (
          ap (λ (l : History). (answer T.score_of c.setup l m).reply) (sym front) ∙ a.reply_is,
          subst holds (own.1
              ∙ ap (λ (l : History). with_added h (answer T.score_of c.setup l m).added) front)
              a.holds_it,
          subst (λ (n : ℕ). IsOfDurable m n c'.durable) own.0 a.covered,
        )

    module _ (l l' : LocalState S) (m : Maps) (hold : HoldsLocal T T.score_of l m)
        (goes : ConditionGoesOn (T.condition l.store) (T.condition l'.store)) where
      -- the history stays
      stays : (h : History) → T.holds l'.store h → h ≡ hold.history → HoldsLocal T T.score_of l' m
      stays h has same = record {
        scores = hold.scores;
        alone = goes.alone hold.alone;
        history = hold.history;
        holds_it = subst (λ (g : History). T.holds l'.store g) same has;
        legal = subst (λ (c : Setup). IsLegal T.score_of c hold.history) (sym goes.setup)
            hold.legal;
        held = hold.held;
        number = hold.number;
        is_durable = omega (arith, hold.is_durable, goes.durable);
        synced = hold.synced;
      }

      -- All of the history is durable.
      covered : T.holds l'.store hold.history → length hold.history ≤ (T.condition l'.store).durable
          → HoldsLocal T T.score_of l' (record m { synced = m.held })
      covered has all = record {
        scores = hold.scores;
        alone = goes.alone hold.alone;
        history = hold.history;
        holds_it = has;
        legal = subst (λ (c : Setup). IsLegal T.score_of c hold.history) (sym goes.setup)
            hold.legal;
        held = hold.held;
        number = length hold.history;
        is_durable = all;
        synced = λ s kind. hold.held s kind
            ∙ ap (λ (g : History). held T.score_of g s kind)
            (sym (take_all (length hold.history) hold.history (omega arith)));
      }

      -- it goes on by a block
      grows : (b : Block) (e : Accepted) → e.block ≡ b → T.holds l'.store (hold.history ++ e ∷ [])
          → IsLegal T.score_of (T.condition l.store).setup (hold.history ++ e ∷ [])
          → HoldsLocal T T.score_of l' (record m { held = with_block T.score_of b m.held })
      grows b e is has legal = record {
        scores = hold.scores;
        alone = goes.alone hold.alone;
        history = hold.history ++ e ∷ [];
        holds_it = has;
        legal = subst (λ (c : Setup). IsLegal T.score_of c (hold.history ++ e ∷ [])) (sym
            goes.setup)
            legal;
        held = λ s kind.
            block_same T.score_of b m.held (held T.score_of hold.history) hold.held s kind
            ∙ ap (λ (x : Block). with_block T.score_of x (held T.score_of hold.history) s kind)
            (sym is)
            ∙ sym (added_block T.score_of hold.history e s kind);
        number = hold.number;
        is_durable = omega (arith, hold.is_durable, goes.durable);
        synced = λ s kind. hold.synced s kind
            ∙ ap (λ (g : History). held T.score_of g s kind)
            (sym (take-append-le hold.number hold.history (e ∷ []) few));
      }
        where
          few : hold.number ≤ length hold.history
          few = omega (arith, hold.is_durable, durable_is_held l.store hold.history hold.holds_it)

      -- it has the block
      again : (b : Block) (x : List ℕ)
          → held T.score_of hold.history (T.score_of b.bytes) b.kind ≡ Some x
          → T.holds l'.store hold.history
          → HoldsLocal T T.score_of l' (record m { held = with_block T.score_of b m.held })
      unfolding stays
      again b x there has =
          let stay = stays hold.history has refl in
          record {
            scores = stay.scores;
            alone = stay.alone;
            history = stay.history;
            holds_it = stay.holds_it;
            legal = stay.legal;
            held = λ s kind.
                block_again T.score_of b m.held x (hold.held (T.score_of b.bytes) b.kind
                ∙ there) s kind
                ∙ hold.held s kind;
            number = stay.number;
            is_durable = stay.is_durable;
            synced = stay.synced;
          }

      -- a call that is refused leaves the history
      refused_stays : (op : Operation) (why : Why)
          → ServesOperation T.score_of (T.condition l.store) (T.condition l'.store)
          (T.holds l'.store)
          hold.history op (λ r. r) (Err why)
          → HoldsLocal T T.score_of l' m
      refused_stays op why (inl served) =
          let own = alone_answers (T.condition l.store) (T.condition l'.store) (T.holds l'.store)
          hold.history op (r_error (why_words why)) hold.alone served.1 in
          let none = added-refused T.score_of (T.condition l.store).setup hold.history op (why_words
          why)
          own.0 in
          stays (with_added hold.history (answer T.score_of (T.condition l.store).setup hold.history
          op).added) own.1 (ap (λ (o : Option Accepted). with_added hold.history o) none)
      refused_stays op why (inr failed) =
          stays failed.new failed.holds_it (failed.lengthens.alone_is hold.alone).1

      -- an answer that adds nothing does so too
      read_adds : (s : List ℕ) (kind count : ℕ) (o : Option Accepted)
          → (answer T.score_of (T.condition l.store).setup hold.history (read s kind count)).added
          ≡ o
          → o ≡ None
      read_adds s kind count None is = refl
      read_adds s kind count (Some e) is =
          let never = (adds_when T.score_of (T.condition l.store).setup hold.history
          (read s kind count) e is).operation in absurd (cc)

      -- ---- call by call

      gets : (s : List ℕ) (kind : ℕ) (bytes : List ℕ)
          → AnswersAsModel T.score_of (T.condition l.store) (T.condition l'.store)
          (T.holds l'.store)
          hold.history (read s kind MAX_BLOCK) (r_read bytes)
          → (m.held s kind ≡ Some bytes) × HoldsLocal T T.score_of l' m
      gets s kind bytes a =
          let own = alone_answers (T.condition l.store) (T.condition l'.store) (T.holds l'.store)
          hold.history (read s kind MAX_BLOCK) (r_read bytes) hold.alone a in
          let none = read_adds s kind MAX_BLOCK (answer T.score_of (T.condition l.store).setup
          hold.history (read s kind MAX_BLOCK)).added refl in (
            hold.held s kind ∙ read_gives T.score_of hold.history s kind MAX_BLOCK bytes own.0,
            stays (with_added hold.history (answer T.score_of (T.condition l.store).setup
                hold.history
                (read s kind MAX_BLOCK)).added) own.1
                (ap (λ (o : Option Accepted). with_added hold.history o) none),
          )

      -- a block that isn't given isn't there, unless a call failed or memory was short
      refused_get : (s : List ℕ) (kind : ℕ) (why : Why) (err : BlockErr) → IsKind kind
          → IsToldAs why err
          → ServesOperation T.score_of (T.condition l.store) (T.condition l'.store)
          (T.holds l'.store)
          hold.history (read s kind MAX_BLOCK) (λ r. r) (Err why)
          → IsBlockRefusal err → m.held s kind ≡ None
      refused_get s kind why err known (inr short) serves refusal =
          absurd (subst IsBlockRefusal short.1 refusal)
      refused_get s kind why err known (inl told) (inl served) refusal =
          let own = alone_answers (T.condition l.store) (T.condition l'.store) (T.holds l'.store)
          hold.history (read s kind MAX_BLOCK) (r_error (why_words why)) hold.alone served.1 in
          hold.held s kind
          ∙ read_absent T.score_of hold.history s kind MAX_BLOCK (why_words why) known
          (held_most T.score_of hold.history hold.legal.blocks s kind) own.0
      refused_get s kind why err known (inl told) (inr failed) refusal =
          absurd (of failed.cause failed.why_is failed.may.1 failed.undamaged)
        where
          of : (cause : Cause) → why ≡ why_of cause
              → IsCauseFor T.score_of (T.condition l.store).setup (read s kind MAX_BLOCK) cause
              → IsNoDamage cause → ⊥
          of (disk_fault before behind) is may undamaged =
              subst IsBlockRefusal (told ∙ ap err_of is) refusal
          of (stopped part first) is may undamaged = may
          of (damaged site want found) is may undamaged = undamaged
          of no_memory is may undamaged = subst IsBlockRefusal (told ∙ ap err_of is) refusal

      -- a block that is taken in collides with none, and is there afterwards
      puts : (b : Block) (score : List ℕ)
          → AnswersAsModel T.score_of (T.condition l.store) (T.condition l'.store)
          (T.holds l'.store)
          hold.history (write b.kind b.bytes) (r_write score)
          → HasNoOther T.score_of m.held b
          × HoldsLocal T T.score_of l' (record m { held = with_block T.score_of b m.held })
      puts b score a = (
        free how,
        of (answer T.score_of (T.condition l.store).setup hold.history
            (write b.kind b.bytes)).added refl,
      )
        where
          own : ((answer T.score_of (T.condition l.store).setup hold.history (write b.kind
              b.bytes)).reply ≡ r_write score) × T.holds l'.store (with_added hold.history (answer
              T.score_of (T.condition l.store).setup hold.history (write b.kind b.bytes)).added)
              × IsOfDurable (write b.kind b.bytes) (length hold.history) (T.condition
              l'.store).durable
          own = alone_answers (T.condition l.store) (T.condition l'.store) (T.holds l'.store)
              hold.history (write b.kind b.bytes) (r_write score) hold.alone a

          how : ((length b.bytes == 0) ≡ true) ⊎ ((collides T.score_of hold.history b.bytes ≡ false)
              × ((is_some (held T.score_of hold.history (T.score_of b.bytes) b.kind) ≡ true)
              ⊎ ((e : Accepted) × ((answer T.score_of (T.condition l.store).setup hold.history
              (write b.kind b.bytes)).added ≡ Some e))))
          how = taken_as (is_kind b.kind) (nat_lt MAX_BLOCK (length b.bytes)) (length b.bytes == 0)
              (collides T.score_of hold.history b.bytes)
              (is_some (held T.score_of hold.history (T.score_of b.bytes) b.kind))
              (nat_le BUCKET_ROOM (crowd T.score_of (bucket_count (T.condition l.store).setup)
              hold.history
              (bucket_of (bucket_count (T.condition l.store).setup) (T.score_of b.bytes))))
              (next_arena (T.condition l.store).setup hold.history (length b.bytes))
              (T.score_of []) (T.score_of b.bytes) b.kind b.bytes score own.0

          zero_bytes : (length b.bytes == 0) ≡ true → [] ≡ b.bytes
          zero_bytes zero = sym (nil_from_length b.bytes (eqb-true (length b.bytes) 0 zero))

          zero_there : [] ≡ b.bytes → (kind : ℕ)
              → held T.score_of hold.history (T.score_of b.bytes) kind ≡ Some []
          zero_there none kind =
              ap (λ (x : List ℕ). held T.score_of hold.history (T.score_of x) kind) (sym none)
              ∙ held-zero T.score_of hold.history kind

          free : ((length b.bytes == 0) ≡ true) ⊎ ((collides T.score_of hold.history b.bytes
              ≡ false)
              × ((is_some (held T.score_of hold.history (T.score_of b.bytes) b.kind) ≡ true)
              ⊎ ((e : Accepted) × ((answer T.score_of (T.condition l.store).setup hold.history
              (write b.kind b.bytes)).added ≡ Some e)))) → HasNoOther T.score_of m.held b
          free (inl zero) kind bytes has =
              let none = zero_bytes zero in
              let both : Some [] ≡ Some bytes =
              sym (zero_there none kind) ∙ sym (hold.held (T.score_of b.bytes) kind) ∙ has in
              let same : [] ≡ bytes = cc in
              sym same ∙ none
          free (inr block) kind bytes has =
              let apart = collides-free T.score_of hold.history b.bytes block.0 in
              let found = held-by T.score_of hold.history (T.score_of b.bytes) kind bytes apart.0
              (sym (hold.held (T.score_of b.bytes) kind) ∙ has) in
              sym found.2 ∙ apart.1 found.0 (record {
                block = found.1.block;
                stands = found.1.stands;
                score_is = found.1.score_is;
              })

          there : (answer T.score_of (T.condition l.store).setup hold.history (write b.kind
              b.bytes)).added ≡ None → (x : List ℕ)
              × (held T.score_of hold.history (T.score_of b.bytes) b.kind ≡ Some x)
          there none = elim how [
            | inl zero ↦ ([], zero_there (zero_bytes zero) b.kind)
            | inr block ↦ elim block.1 [
              | inl some ↦ given (held T.score_of hold.history (T.score_of b.bytes) b.kind) some
              | inr added ↦ let never : None ≡ Some added.0 = sym none ∙ added.1 in absurd (cc)
            ]
          ]
            where
              given : (o : Option (List ℕ)) → is_some o ≡ true → (x : List ℕ) × (o ≡ Some x)
              given None some = absurd (false≢true some)
              given (Some x) some = (x, refl)

          of : (o : Option Accepted) → (answer T.score_of (T.condition l.store).setup hold.history
              (write b.kind b.bytes)).added ≡ o
              → HoldsLocal T T.score_of l' (record m { held = with_block T.score_of b m.held })
          of None is =
              let has = there is in
              again b has.0 has.1 (subst (λ (x : Option Accepted).
              T.holds l'.store (with_added hold.history x)) is own.1)
          of (Some e) is =
              let written = (adds_when T.score_of (T.condition l.store).setup hold.history
              (write b.kind b.bytes) e is).operation in
              let kinds : e.block.kind ≡ b.kind = cc in
              let bytes : e.block.bytes ≡ b.bytes = cc in
              grows b e (λ i. record { kind = kinds i; bytes = bytes i })
              (subst (λ (x : Option Accepted). T.holds l'.store (with_added hold.history x)) is
              own.1)
              (subst (λ (x : Option Accepted).
              IsLegal T.score_of (T.condition l.store).setup (with_added hold.history x)) is
              (IsLegal-with_added T.score_of (T.condition l.store).setup hold.history
              (write b.kind b.bytes) hold.legal))

      syncs : AnswersAsModel T.score_of (T.condition l.store) (T.condition l'.store)
          (T.holds l'.store)
          hold.history sync_all r_sync
          → HoldsLocal T T.score_of l' (record m { synced = m.held })
      syncs a =
          let own = alone_answers (T.condition l.store) (T.condition l'.store) (T.holds l'.store)
          hold.history sync_all r_sync hold.alone a in
          covered own.1 own.2

    told : (l l' : LocalState S) (call : Call) (m : Maps) → DoesLocal T l call l'
        → HoldsLocal T T.score_of l m
        → TellsOfMap T.score_of m.held call × HoldsLocal T T.score_of l' (after T.score_of call m)
    told l l' call m does hold =
        of call does.stands does.kind (does.serves hold.history hold.holds_it)
      where
        of : (x : Call) → StandsFor x does.reply → HasKind x
            → ServesOperation T.score_of (T.condition l.store) (T.condition l'.store)
            (T.holds l'.store)
            hold.history (asked_of x) (λ r. r) does.reply
            → TellsOfMap T.score_of m.held x × HoldsLocal T T.score_of l' (after T.score_of x m)
        of (get kind s (Ok bytes)) stands known serves =
            gets l l' m hold does.goes_on s kind bytes
            (subst (ServesOperation T.score_of (T.condition l.store) (T.condition l'.store) (T.holds
            l'.store)
            hold.history (read s kind MAX_BLOCK) (λ r. r)) stands serves)
        of (get kind s (Err err)) stands known serves =
            let here = subst
            (ServesOperation T.score_of (T.condition l.store) (T.condition l'.store)
            (T.holds l'.store) hold.history (read s kind MAX_BLOCK) (λ r. r)) stands.1 serves in (
              refused_get l l' m hold does.goes_on s kind stands.0 err known stands.2 here,
              refused_stays l l' m hold does.goes_on (read s kind MAX_BLOCK) stands.0 here,
            )
        of (put b (Ok score)) stands known serves =
            puts l l' m hold does.goes_on b score.0
            (subst (ServesOperation T.score_of (T.condition l.store) (T.condition l'.store) (T.holds
            l'.store)
            hold.history (write b.kind b.bytes) (λ r. r)) stands serves)
        of (put b (Err err)) stands known serves = (
          tt,
          refused_stays l l' m hold does.goes_on (write b.kind b.bytes) stands.0
              (subst (ServesOperation T.score_of (T.condition l.store) (T.condition l'.store)
              (T.holds
              l'.store)
              hold.history (write b.kind b.bytes) (λ r. r)) stands.1 serves),
        )
        of (sync (Ok done)) stands known serves = (
          tt,
          syncs l l' m hold does.goes_on
              (subst (ServesOperation T.score_of (T.condition l.store) (T.condition l'.store)
              (T.holds
              l'.store)
              hold.history sync_all (λ r. r)) stands serves),
        )
        of (sync (Err err)) stands known serves = (
          tt,
          refused_stays l l' m hold does.goes_on sync_all stands.0
              (subst (ServesOperation T.score_of (T.condition l.store) (T.condition l'.store)
              (T.holds
              l'.store)
              hold.history sync_all (λ r. r)) stands.1 serves),
        )

    -- the scorer scores as the store does
    same_scorer : (score_of : List ℕ → List ℕ) → ((bytes : List ℕ)
        → score_of bytes ≡ T.score_of bytes)
        → score_of ≡ T.score_of
    same_scorer score_of scores = λ i bytes. scores bytes i

    store_tells : (score_of : List ℕ → List ℕ) (l l' : LocalState S) (call : Call) (m : Maps)
        → DoesLocal T l call l' → HoldsLocal T score_of l m
        → TellsOfMap score_of m.held call × HoldsLocal T score_of l' (after score_of call m)
    store_tells score_of l l' call m does hold =
        let same = same_scorer score_of hold.scores in
        subst (λ (f : List ℕ → List ℕ).
        TellsOfMap f m.held call × HoldsLocal T f l' (after f call m)) (sym same)
        (told l l' call m does
        (subst (λ (f : List ℕ → List ℕ). HoldsLocal T f l m) same hold))

    store_synced : (score_of : List ℕ → List ℕ) (l : LocalState S) (m : Maps)
        → HoldsLocal T score_of l m → IsWithin m.synced m.held
    store_synced score_of l m hold s kind bytes has =
        hold.held s kind
        ∙ held-first T.score_of hold.history hold.number s kind bytes
        (sym (hold.synced s kind) ∙ has)

    once : (l : LocalState S) (m : Maps) → HoldsLocal T T.score_of l m
        → IsWriteOnce T.score_of m.held
    once l m hold = record {
      scores = λ s kind bytes has. of_score s kind bytes (sym (hold.held s kind) ∙ has);
      contents = λ s kind other a b x y.
          one s kind other a b (sym (hold.held s kind) ∙ x) (sym (hold.held s other) ∙ y);
      zero_score = λ kind.
          hold.held (T.score_of []) kind ∙ held-zero T.score_of hold.history kind;
    }
      where
        of_zero : (s : List ℕ) (kind : ℕ) (bytes : List ℕ) → s ≡ T.score_of []
            → held T.score_of hold.history s kind ≡ Some bytes → [] ≡ bytes
        of_zero s kind bytes zero has =
            let both : Some [] ≡ Some bytes =
            sym (held-zero T.score_of hold.history kind)
            ∙ ap (λ (x : List ℕ). held T.score_of hold.history x kind) (sym zero) ∙ has in
            cc

        either : (s : List ℕ) → (s ≡ T.score_of []) ⊎ (s ≡ T.score_of [] → ⊥)
        either s = elim (cases_Bool (bytes_eq s (T.score_of []))) [
          | inl zero ↦ inl ((bytes_eq-Decides s (T.score_of [])).0 zero)
          | inr other ↦
              inr (λ same. false≢true (sym other ∙ (bytes_eq-Decides s (T.score_of [])).1 same))
        ]

        of_score : (s : List ℕ) (kind : ℕ) (bytes : List ℕ)
            → held T.score_of hold.history s kind ≡ Some bytes → T.score_of bytes ≡ s
        of_score s kind bytes has = elim (either s) [
          | inl zero ↦ ap T.score_of (sym (of_zero s kind bytes zero has)) ∙ sym zero
          | inr other ↦
              let found = held-by T.score_of hold.history s kind bytes other has in
              ap T.score_of (sym found.2) ∙ found.1.score_is
        ]

        one : (s : List ℕ) (kind other : ℕ) (a b : List ℕ)
            → held T.score_of hold.history s kind ≡ Some a
            → held T.score_of hold.history s other ≡ Some b → a ≡ b
        one s kind other a b x y = elim (either s) [
          | inl zero ↦ sym (of_zero s kind a zero x) ∙ of_zero s other b zero y
          | inr some ↦
              let found = held-by T.score_of hold.history s kind a some x in
              let more = held-by T.score_of hold.history s other b some y in
              sym found.2
              ∙ equal_bytes T.score_of (T.condition l.store).setup hold.history hold.legal found.0
              more.0 found.1.block more.1.block found.1.stands more.1.stands
              (found.1.score_is ∙ sym more.1.score_is)
              ∙ more.2
        ]

    store_once : (score_of : List ℕ → List ℕ) (l : LocalState S) (m : Maps)
        → HoldsLocal T score_of l m → IsWriteOnce score_of m.held
    store_once score_of l m hold =
        let same = same_scorer score_of hold.scores in
        subst (λ (f : List ℕ → List ℕ). IsWriteOnce f m.held) (sym same)
        (once l m (subst (λ (f : List ℕ → List ℕ). HoldsLocal T f l m) same hold))

-- ---- the same where the store is told by what is known of it

-- what a call tells is true of what the store holds, and stays so
pub tells : {S : Type 0} {T : StoreOf S}
    (law : (s : S) (h : History) → T.holds s h → (T.condition s).durable ≤ length h)
    (score_of : List ℕ → List ℕ) (l l' : LocalState S) (call : Call) (m : Maps)
    → DoesLocal T l call l' → HoldsLocal T score_of l m
    → TellsOfMap score_of m.held call × HoldsLocal T score_of l' (after score_of call m)
tells {S} {T} law score_of l l' call m does hold =
    store_tells T law score_of l l' call m does hold

-- what was synced is held
pub synced_is_held : {S : Type 0} {T : StoreOf S}
    (law : (s : S) (h : History) → T.holds s h → (T.condition s).durable ≤ length h)
    (score_of : List ℕ → List ℕ) (l : LocalState S) (m : Maps) → HoldsLocal T score_of l m
    → IsWithin m.synced m.held
synced_is_held {S} {T} law score_of l m hold = store_synced T law score_of l m hold

-- what is held is write-once
pub write_once : {S : Type 0} {T : StoreOf S}
    (law : (s : S) (h : History) → T.holds s h → (T.condition s).durable ≤ length h)
    (score_of : List ℕ → List ℕ) (l : LocalState S) (m : Maps) → HoldsLocal T score_of l m
    → IsWriteOnce score_of m.held
write_once {S} {T} law score_of l m hold = store_once T law score_of l m hold
