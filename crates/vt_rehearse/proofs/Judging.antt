-- What the model answers to a write and a read of a word, on a history of words.
use Rattle.std.proofs.Common.{◌≡◌, ⊎_elim, ◌+◌, ◌*◌, ◌%◌, ◌<◌, ◌≤◌, ℕ, Bool, true, false, cond, List, [], ◌∷◌, ◌++◌, length, Option, Some, None, refl, sym, ◌∙◌, ap, arith, get_or}
use Rattle.std.proofs.lemmas.Bool.{eqb-true, le-ltb, lt-leb}
use Rattle.std.proofs.lemmas.List.{length-replicate}
use Rattle.std.proofs.lemmas.List.Sums.{count_by-le-length}
use Rattle.std.proofs.Math.Nat.{mod-lt}
use Rattle.std.specs.List.{Contains}
use Rattle.std.specs.Prelude.{◌==◌, nat_le, nat_lt, is_some}
use Rattle.vt_base.specs.declared.TheConstants.{MAX_BLOCK}
use Rattle.vt_base.specs.declared.answer.Said.{Said}
use Rattle.vt_base.specs.declared.answer.Said.TheVariants.{Score, Block, Synced, Refused}
use Rattle.vt_base.specs.declared.why.Why.{Why}
use Rattle.vt_base.specs.declared.why.Why.TheVariants.{BadType, TooBig, TooSmall, Absent, Collision, IndexFull, ArenasFull, DiskFault, Stopped, Damaged, NoMemory}
use Rattle.vt_base.specs.Protocol.{Operation, read, write, RMessage, r_read, r_write, r_refused, why_words}
use Rattle.vt_model.specs.Answer.{Outcome, adds, answer, collides, lends, refuses, replies}
use Rattle.vt_model.specs.History.{Accepted, History, held}
use Rattle.vt_model.specs.Places.{Setup, bucket_count, bucket_of, crowd, next_arena}
use Rattle.vt_model.specs.declared.TheConstants.{BUCKET_ROOM}
use Rattle.vt_base.specs.Operations.{reply_saying}
use Rattle.vt_core.specs.Events.{GivesAnswer}
use Rattle.vt_core.specs.Machine.{Machine}
use Rattle.vt_rehearse.specs.Stage.{HasWords}
use Rattle.vt_rehearse.specs.Words.{AreApart, word_of}
use Rattle.vt_rehearse.proofs.Listed.{few_words, has_word, lacks_word, no_collision}

-- ---- how long words are

word_len : (w : ℕ) → length (word_of w) ≡ 1 + 37 * w % 200
word_len w = length-replicate (1 + 37 * w % 200) w

pub word_short : (w : ℕ) → length (word_of w) ≤ 200
word_short w = let len = word_len w in let lt = mod-lt (37 * w) {m = 200} (omega arith) in omega (arith, len, lt)

pub word_some : (w : ℕ) → 0 < length (word_of w)
word_some w = let len = word_len w in omega (arith, len)

unequal : (a b : ℕ) → (a ≡ b → ⊥) → (a == b) ≡ false
unequal a b other = by (a == b) refl
  where
    by : (t : Bool) → (a == b) ≡ t → t ≡ false
    by false is = refl
    by true is = absurd (other (eqb-true a b is))

-- ---- the model's answers

module _ (score : List ℕ → List ℕ) (apart : AreApart score) (w : ℕ) (below : w < 64) (c : Setup) (h : History) (listed : List ℕ) (has : HasWords h listed) where
  -- the answer to a write of the word, by its tests
  abbrev tested : (long none collision is_held full : Bool) → Outcome
  tested long none collision is_held full =
      cond long (refuses TooBig) (cond none (replies (r_write (score []))) (cond collision (refuses Collision)
      (cond is_held (replies (r_write (score (word_of w)))) (cond full (refuses IndexFull) (adds (score (word_of w)) 13 (word_of w) (next_arena c h (length (word_of w))))))))

  not_long : nat_lt MAX_BLOCK (length (word_of w)) ≡ false
  not_long = let short = word_short w in le-ltb MAX_BLOCK (length (word_of w)) (omega (arith, short))

  not_none : (length (word_of w) == 0) ≡ false
  not_none = let some = word_some w in unequal (length (word_of w)) 0 (λ none. omega (arith, some, none))

  not_full : nat_le BUCKET_ROOM (crowd score (bucket_count c) h (bucket_of (bucket_count c) (score (word_of w)))) ≡ false
  not_full =
      let few = few_words h listed has in
      let most = count_by-le-length (λ (e : Accepted). bucket_of (bucket_count c) (score e.block.bytes) == bucket_of (bucket_count c) (score (word_of w))) h in
      lt-leb BUCKET_ROOM (crowd score (bucket_count c) h (bucket_of (bucket_count c) (score (word_of w)))) (omega (arith, few, most))

  as_tested : (is_held : Bool) → is_some (held score h (score (word_of w)) 13) ≡ is_held
      → answer score c h (write 13 (word_of w)) ≡ tested false false false is_held (nat_le BUCKET_ROOM (crowd score (bucket_count c) h (bucket_of (bucket_count c) (score (word_of w)))))
  as_tested is_held is =
      let full = nat_le BUCKET_ROOM (crowd score (bucket_count c) h (bucket_of (bucket_count c) (score (word_of w)))) in
      ap (λ (b : Bool). tested b (length (word_of w) == 0) (collides score h (word_of w)) (is_some (held score h (score (word_of w)) 13)) full) not_long
      ∙ ap (λ (b : Bool). tested false b (collides score h (word_of w)) (is_some (held score h (score (word_of w)) 13)) full) not_none
      ∙ ap (λ (b : Bool). tested false false b (is_some (held score h (score (word_of w)) 13)) full) (no_collision score apart w below h listed has)
      ∙ ap (λ (b : Bool). tested false false false b full) is

  pub held_answer : Contains listed w → answer score c h (write 13 (word_of w)) ≡ replies (r_write (score (word_of w)))
  held_answer it = as_tested true (ap is_some (has_word score apart w below h listed has it))

  pub new_answer : ¬ Contains listed w → answer score c h (write 13 (word_of w)) ≡ adds (score (word_of w)) 13 (word_of w) (next_arena c h (length (word_of w)))
  new_answer it = as_tested false (ap is_some (lacks_word score apart w below h listed has it))
      ∙ ap (λ (b : Bool). tested false false false false b) not_full

  pub found_answer : Contains listed w → answer score c h (read (score (word_of w)) 13 MAX_BLOCK) ≡ replies (r_read (word_of w))
  found_answer it = ap (λ (o : Option (List ℕ)). lends MAX_BLOCK o) (has_word score apart w below h listed has it)
      ∙ ap (λ (b : Bool). cond b (refuses TooSmall) (replies (r_read (word_of w)))) not_long

  pub missing_answer : ¬ Contains listed w → answer score c h (read (score (word_of w)) 13 MAX_BLOCK) ≡ refuses Absent
  missing_answer it = ap (λ (o : Option (List ℕ)). lends MAX_BLOCK o) (lacks_word score apart w below h listed has it)

-- ---- what an answer says

pub says_score : (said : Said) (s : List ℕ) → reply_saying said ≡ r_write s → said ≡ Score (record { 0 = s })
says_score (Score given) s is = let same : given.0 ≡ s = cc in ap (λ (b : List ℕ). Score (record { 0 = b })) same
says_score (Block b) s is = absurd (cc)
says_score Synced s is = absurd (cc)
says_score (Refused why) s is = absurd (cc)

pub says_block : (said : Said) (bytes : List ℕ) → reply_saying said ≡ r_read bytes → said ≡ Block bytes
says_block (Score given) bytes is = absurd (cc)
says_block (Block b) bytes is = let same : b ≡ bytes = cc in ap (λ (x : List ℕ). Block x) same
says_block Synced bytes is = absurd (cc)
says_block (Refused why) bytes is = absurd (cc)

why_absent : (why : Why) → why_words why ≡ why_words Absent → why ≡ Absent
why_absent Absent is = refl
why_absent BadType is = let no : 8 ≡ 13 = ap length is in absurd (omega (arith, no))
why_absent TooBig is = let no : 98 ≡ 110 = ap (λ (text : List ℕ). get_or text 0 0) is in absurd (omega (arith, no))
why_absent TooSmall is = let no : 15 ≡ 13 = ap length is in absurd (omega (arith, no))
why_absent ArenasFull is = let no : 11 ≡ 13 = ap length is in absurd (omega (arith, no))
why_absent Collision is = let no : 15 ≡ 13 = ap length is in absurd (omega (arith, no))
why_absent IndexFull is = let no : 10 ≡ 13 = ap length is in absurd (omega (arith, no))
why_absent DiskFault is = let no : 10 ≡ 13 = ap length is in absurd (omega (arith, no))
why_absent (Stopped call) is = let no : 115 ≡ 110 = ap (λ (text : List ℕ). get_or text 0 0) is in absurd (omega (arith, no))
why_absent (Damaged site want found) is = let no : 98 ≡ 110 = ap (λ (text : List ℕ). get_or text 0 0) is in absurd (omega (arith, no))
why_absent NoMemory is = let no : 9 ≡ 13 = ap length is in absurd (omega (arith, no))

refused_so : (said : Said) (wanted : Why) → ((why : Why) → why_words why ≡ why_words wanted → why ≡ wanted) → reply_saying said ≡ r_refused wanted → said ≡ Refused wanted
refused_so (Score given) wanted only is = absurd (cc)
refused_so (Block b) wanted only is = absurd (cc)
refused_so Synced wanted only is = absurd (cc)
refused_so (Refused why) wanted only is = let same : why_words why ≡ why_words wanted = cc in ap (λ (x : Why). Refused x) (only why same)

pub says_absent : (said : Said) → reply_saying said ≡ r_refused Absent → said ≡ Refused Absent
says_absent said is = refused_so said Absent why_absent is

-- ---- what is given

-- an answer that adds nothing
pub given_reply : (score : List ℕ → List ℕ) (m : Operation) (said : Said) (old new : Machine) (reply : RMessage) → answer score old.setup old.history m ≡ replies reply
    → GivesAnswer score m said old new → (reply_saying said ≡ reply) × (new ≡ old)
given_reply score m said old new reply is gives = ⊎_elim
    (λ accepts. let no : Some accepts.block ≡ None = ap (λ (o : Outcome). o.added) (sym accepts.answer_is ∙ is) in absurd (cc))
    (λ answers. (ap (λ (o : Outcome). o.reply) (sym answers.answer_is ∙ is), answers.same))
    gives

-- one that adds a block
pub given_block : (score : List ℕ → List ℕ) (m : Operation) (said : Said) (old new : Machine) (reply : RMessage) (e : Accepted) → answer score old.setup old.history m ≡ record { reply = reply; added = Some e }
    → GivesAnswer score m said old new → (reply_saying said ≡ reply) × (new ≡ record old { history = old.history ++ e ∷ [] })
given_block score m said old new reply e is gives = ⊎_elim
    (λ accepts.
    let added : Some accepts.block ≡ Some e = ap (λ (o : Outcome). o.added) (sym accepts.answer_is ∙ is) in
    let same : accepts.block ≡ e = cc in
    (ap (λ (o : Outcome). o.reply) (sym accepts.answer_is ∙ is), accepts.new_is ∙ ap (λ (b : Accepted). record old { history = old.history ++ b ∷ [] }) same))
    (λ answers. let no : None ≡ Some e = ap (λ (o : Outcome). o.added) (sym answers.answer_is ∙ is) in absurd (cc))
    gives
