-- What is noted of an answer to a write.
use Rattle.std.proofs.Common.{◌≡◌, ◌↔◌, ⊎_elim, ◌==◌, ℕ, Bool, true, false, List, refl, sym, ◌∙◌, ap, subst, arith}
use Rattle.std.proofs.lemmas.Bool.Decides.{Decides-eqb, eqb_tells}
use Rattle.std.specs.List.{Contains}
use Rattle.std.specs.Prelude.{IsTrue}
use Rattle.vt_base.specs.declared.answer.Said.{Said}
use Rattle.vt_base.specs.declared.answer.Said.TheVariants.{Block, Refused}
use Rattle.vt_base.specs.declared.why.Why.TheVariants.{Absent}
use Rattle.vt_rehearse.specs.Counts.{with_compared, with_write}
use Rattle.vt_core.specs.Core.{CoreState, history_len}
use Rattle.vt_disk.specs.Members.{DiskOf}
use Rattle.vt_rehearse.specs.Rehearsal.{AsksToWrite, IsWordRead, IsWritten, NotesWhether, LooksUpWord, ReadsWord, WritesWord, listed_after}
use Rattle.vt_rehearse.specs.Stage.{StageState}
use Rattle.vt_rehearse.specs.Words.{word_of}

-- what is right was compared, and found to be so
pub found_right : {D : Type 0} (right : Type 0) (old new : StageState D) → NotesWhether right old new → right → new ≡ record old { summary = with_compared true old.summary }
found_right {D} right old new (is_right, judged, same) holds = same ∙ ap (λ (b : Bool). record old { summary = with_compared b old.summary }) (judged.1 holds)

-- the store has no block more exactly where it held the word
held_told : (own : List ℕ) (word : ℕ) (listed : List ℕ) (is_held : Bool) (said : Said) (before after : ℕ) → IsWritten own word listed is_held said before after → (after == before) ≡ is_held
held_told own word listed is_held said before after is = ⊎_elim
    (λ held. (Decides-eqb after before).1 held.2 ∙ sym held.1)
    (λ new. let more = new.2 in ⊎_elim (λ same. let it = same.1 in absurd (omega (arith, more, it))) (λ other. other.0) (eqb_tells after before) ∙ sym new.1)
    is.1

module _ {D : Type 0} (score : List ℕ → List ℕ) (disk : DiskOf D) (session word : ℕ) (old mid judged : StageState D) (said : Said) (before : ℕ) (before_is : before ≡ history_len old.core)
    (same : mid ≡ record old { core = mid.core })
    (judges : NotesWhether ((h : Bool) × IsWritten (score (word_of word)) word mid.listed h said before (history_len mid.core)) mid judged) where
  module _ (is_held : Bool) (it : AsksToWrite score disk session word old.listed is_held old.core mid.core) (told : it.said ≡ said) where
    listed_is : mid.listed ≡ old.listed
    listed_is = ap (λ (s : StageState D). s.listed) same

    here : IsWritten (score (word_of word)) word old.listed is_held said (history_len old.core) (history_len mid.core)
    here = subst (λ (x : Said). IsWritten (score (word_of word)) word old.listed is_held x (history_len old.core) (history_len mid.core)) told it.as_listed

    pub judged_right : judged ≡ record old { core = mid.core; summary = with_compared true old.summary }
    judged_right = found_right ((h : Bool) × IsWritten (score (word_of word)) word mid.listed h said before (history_len mid.core)) mid judged judges (
      is_held,
      subst (λ (l : List ℕ). IsWritten (score (word_of word)) word l is_held said before (history_len mid.core)) (sym listed_is)
          (subst (λ (n : ℕ). IsWritten (score (word_of word)) word old.listed is_held said n (history_len mid.core)) (sym before_is) here),
    )
        ∙ ap (λ (s : StageState D). record s { summary = with_compared true s.summary }) same

    -- whether it was held is what the count of blocks tells
    pub told_is : (after : ℕ) → after ≡ history_len judged.core → (after == before) ≡ is_held
    told_is after after_is =
        let len : after ≡ history_len mid.core = after_is ∙ ap (λ (s : StageState D). history_len s.core) judged_right in
        ap (λ (n : ℕ). n == before) len ∙ ap (λ (n : ℕ). history_len mid.core == n) before_is
        ∙ held_told (score (word_of word)) word old.listed is_held said (history_len old.core) (history_len mid.core) here

    pub whole_write : (new : StageState D) → new ≡ record judged { listed = listed_after is_held word judged.listed; summary = with_write is_held judged.summary }
        → new ≡ record { core = mid.core; listed = listed_after is_held word old.listed; summary = with_write is_held (with_compared true old.summary) }
    whole_write new noted = noted ∙ ap (λ (s : StageState D). record s { listed = listed_after is_held word s.listed; summary = with_write is_held s.summary }) judged_right

    pub writes_word : (new : StageState D) → new ≡ record judged { listed = listed_after is_held word judged.listed; summary = with_write is_held judged.summary } → WritesWord score disk session word old new
    writes_word new noted =
        let core : new.core ≡ mid.core = ap (λ (s : StageState D). s.core) (whole_write new noted) in
        record {
          is_held = is_held;
          writes = subst (λ (k : CoreState D). AsksToWrite score disk session word old.listed is_held old.core k) (sym core) it;
          same = whole_write new noted ∙ ap (λ (k : CoreState D). record { core = k; listed = listed_after is_held word old.listed; summary = with_write is_held (with_compared true old.summary) }) (sym core);
        }

-- a block is told exactly where one is found
block_told : (word : ℕ) (listed : List ℕ) (is_found : Bool) (said : Said) (b : Bool) → IsWordRead word listed is_found said → IsTrue b ↔ ((bytes : List ℕ) × (said ≡ Block bytes)) → b ≡ is_found
block_told word listed is_found said b is tells = ⊎_elim
    (λ found. tells.1 (_, found.2) ∙ sym found.1)
    (λ none. by b refl none tells)
    is
  where
    by : (c : Bool) → b ≡ c → (¬ Contains listed word) × (is_found ≡ false) × (said ≡ Refused Absent) → IsTrue b ↔ ((bytes : List ℕ) × (said ≡ Block bytes)) → b ≡ is_found
    by true is none tells = let told = tells.0 is in let no : Block told.0 ≡ Refused Absent = sym told.1 ∙ none.2 in absurd (cc)
    by false is none tells = is ∙ sym none.1

module _ {D : Type 0} (score : List ℕ → List ℕ) (disk : DiskOf D) (session word : ℕ) (old mid new : StageState D) (said : Said) (is_found b : Bool) where
  pub looked_up : (it : ReadsWord score disk session word old.listed is_found old.core mid.core) → it.said ≡ said → mid ≡ record old { core = mid.core }
      → NotesWhether ((f : Bool) × IsWordRead word mid.listed f said) mid new → IsTrue b ↔ ((bytes : List ℕ) × (said ≡ Block bytes)) → LooksUpWord score disk session word b old new
  looked_up it told same judges tells =
      let listed : mid.listed ≡ old.listed = ap (λ (s : StageState D). s.listed) same in
      let here : IsWordRead word old.listed is_found said = subst (λ (x : Said). IsWordRead word old.listed is_found x) told it.as_listed in
      let right = subst (λ (l : List ℕ). IsWordRead word l is_found said) (sym listed) here in
      let found = found_right ((f : Bool) × IsWordRead word mid.listed f said) mid new judges (is_found, right) in
      let core : new.core ≡ mid.core = ap (λ (s : StageState D). s.core) found in
      let b_is : b ≡ is_found = block_told word old.listed is_found said b here tells in
      record {
        reads = subst (λ (k : CoreState D). ReadsWord score disk session word old.listed b old.core k) (sym core)
            (subst (λ (f : Bool). ReadsWord score disk session word old.listed f old.core mid.core) (sym b_is) it);
        same = found ∙ ap (λ (s : StageState D). record s { summary = with_compared true s.summary }) same ∙ ap (λ (k : CoreState D). record old { core = k; summary = with_compared true old.summary }) (sym core);
      }
