-- What a history of words holds, and how many there are.
use Rattle.std.proofs.Common.{◌≡◌, ◌≢◌, ◌⊎◌, ⊎_elim, inl, inr, ◌<◌, ◌≤◌, ℕ, zero, suc, Bool, true, false, cond, List, [], ◌∷◌, length, map, Some, None, refl, sym, ◌∙◌, ap, subst, arith, get_or, drop}
use Rattle.std.proofs.lemmas.Bool.{cases_eq, eqb-true}
use Rattle.std.proofs.lemmas.Bool.Decides.{Decides-eqb}
use Rattle.std.proofs.lemmas.List.{length-map}
use Rattle.std.proofs.lemmas.List.Elements.{All-contains}
use Rattle.std.proofs.lemmas.Map.Made.{IsDistinct-from_AllPairs}
use Rattle.std.proofs.lemmas.Map.Steps.{length-le_from_distinct_below}
use Rattle.std.proofs.lemmas.Map.Views.{Contains-from_any}
use Rattle.std.proofs.lemmas.Slice.Eq.{bytes_eq-Decides}
use Rattle.std.specs.Prelude.{◌==◌, ◌&&◌, ◌||◌, not, eqb}
use Rattle.std.specs.List.{All, AllPairs, Contains, find, list_any}
use Rattle.std.specs.Option.{option_map}
use Rattle.std.specs.Str.{bytes_eq}
use Rattle.vt_model.specs.Answer.{collides}
use Rattle.vt_model.specs.History.{Accepted, Block, History, has_key, held}
use Rattle.vt_rehearse.specs.Stage.{HasWords}
use Rattle.vt_rehearse.specs.Words.{AreApart, block_of_word, word_of}

-- ---- the first word of a list

pub first_is : (v w : ℕ) (vs : List ℕ) → Contains (v ∷ vs) w → (v ≡ w) ⊎ Contains vs w
first_is v w vs (zero, lt, is) = inl is
first_is v w vs (suc k, lt, is) = inr (k, omega arith, is)

pub first_has : (v : ℕ) (vs : List ℕ) → Contains (v ∷ vs) v
first_has v vs = (0, omega arith, refl)

pub rest_has : (v w : ℕ) (vs : List ℕ) → Contains vs w → Contains (v ∷ vs) w
rest_has v w vs (k, lt, is) = (suc k, omega arith, is)

-- ---- how many

few_listed : (listed : List ℕ) → All (λ w. w < 64) listed → AllPairs (λ v w. v ≢ w) listed → length listed ≤ 64
few_listed listed words once =
    length-le_from_distinct_below listed 64 (IsDistinct-from_AllPairs {eq = eqb} (λ x y. Decides-eqb x y) listed once)
    (λ q is. All-contains (λ w. w < 64) listed q words (Contains-from_any {eq = eqb} eqb-true q listed is))

pub same_many : (h : History) (listed : List ℕ) → HasWords h listed → length h ≡ length listed
same_many h listed has = sym (length-map h (λ (e : Accepted). e.block)) ∙ ap length has.blocks ∙ length-map listed block_of_word

pub few_words : (h : History) (listed : List ℕ) → HasWords h listed → length h ≤ 64
few_words h listed has =
    let same = same_many h listed has in
    let most = few_listed listed has.words has.once in
    omega (arith, same, most)

-- ---- one block

block_head : (e : Accepted) (es : History) (v : ℕ) (vs : List ℕ) → map (λ (x : Accepted). x.block) (e ∷ es) ≡ map block_of_word (v ∷ vs) → e.block ≡ block_of_word v
block_head e es v vs same = ap (λ (bs : List Block). get_or bs 0 e.block) same

block_tail : (e : Accepted) (es : History) (v : ℕ) (vs : List ℕ) → map (λ (x : Accepted). x.block) (e ∷ es) ≡ map block_of_word (v ∷ vs) → map (λ (x : Accepted). x.block) es ≡ map block_of_word vs
block_tail e es v vs same = ap (λ (bs : List Block). drop 1 bs) same

words_head : (v : ℕ) (vs : List ℕ) → All (λ w. w < 64) (v ∷ vs) → v < 64
words_head v vs words = words 0 0 (omega arith)

words_tail : (v : ℕ) (vs : List ℕ) → All (λ w. w < 64) (v ∷ vs) → All (λ w. w < 64) vs
words_tail v vs words k d lt = words (suc k) d (omega arith)

module _ (score : List ℕ → List ℕ) (apart : AreApart score) (w : ℕ) (below : w < 64) where
  key_of : Accepted → Bool
  key_of e = has_key score (score (word_of w)) 13 e

  -- the block of this word has its key, and that of another one hasn't
  hit : (e : Accepted) → e.block ≡ block_of_word w → has_key score (score (word_of w)) 13 e ≡ true
  hit e is =
      let bytes = bytes_eq-Decides (score e.block.bytes) (score (word_of w)) in
      ap (λ (b : Block). bytes_eq (score b.bytes) (score (word_of w)) && b.kind == 13) is
      ∙ ap (λ (b : Bool). b && true) ((bytes_eq-Decides (score (word_of w)) (score (word_of w))).1 refl)

  miss : (e : Accepted) (v : ℕ) → v < 64 → v ≢ w → e.block ≡ block_of_word v → has_key score (score (word_of w)) 13 e ≡ false
  miss e v small other is =
      ap (λ (b : Block). bytes_eq (score b.bytes) (score (word_of w)) && b.kind == 13) is
      ∙ ap (λ (b : Bool). b && true) (differs (bytes_eq (score (word_of v)) (score (word_of w))) refl)
    where
      differs : (b : Bool) → bytes_eq (score (word_of v)) (score (word_of w)) ≡ b → b ≡ false
      differs false is = refl
      differs true is = absurd (other (apart.scores v w small below ((bytes_eq-Decides (score (word_of v)) (score (word_of w))).0 is)))

  find_word : (h : History) (listed : List ℕ) → map (λ (x : Accepted). x.block) h ≡ map block_of_word listed → All (λ v. v < 64) listed → Contains listed w
      → option_map (λ (e : Accepted). e.block.bytes) (find (has_key score (score (word_of w)) 13) h) ≡ Some (word_of w)
  find_word [] [] same words (k, lt, is) = absurd (omega (arith, lt))
  find_word [] (v ∷ vs) same words has = absurd (cc)
  find_word (e ∷ es) [] same words has = absurd (cc)
  find_word (e ∷ es) (v ∷ vs) same words has = ⊎_elim
      (λ own. ap (λ (b : Bool). option_map (λ (x : Accepted). x.block.bytes) (cond b (Some e) (find (has_key score (score (word_of w)) 13) es))) (hit e (head ∙ ap block_of_word own))
      ∙ ap (λ (b : Block). Some b.bytes) (head ∙ ap block_of_word own))
      (λ other. ap (λ (b : Bool). option_map (λ (x : Accepted). x.block.bytes) (cond b (Some e) (find (has_key score (score (word_of w)) 13) es))) (miss e v (words_head v vs words) other head)
      ∙ find_word es vs (block_tail e es v vs same) (words_tail v vs words) (⊎_elim (λ own. absurd (other own)) (λ it. it) (first_is v w vs has)))
      (cases_eq v w)
    where
      head : e.block ≡ block_of_word v
      head = block_head e es v vs same

  find_none : (h : History) (listed : List ℕ) → map (λ (x : Accepted). x.block) h ≡ map block_of_word listed → All (λ v. v < 64) listed → ¬ Contains listed w
      → option_map (λ (e : Accepted). e.block.bytes) (find (has_key score (score (word_of w)) 13) h) ≡ None
  find_none [] listed same words lacks = refl
  find_none (e ∷ es) [] same words lacks = absurd (cc)
  find_none (e ∷ es) (v ∷ vs) same words lacks =
      ap (λ (b : Bool). option_map (λ (x : Accepted). x.block.bytes) (cond b (Some e) (find (has_key score (score (word_of w)) 13) es)))
      (miss e v (words_head v vs words) (λ own. lacks (subst (λ x. Contains (v ∷ vs) x) own (first_has v vs))) (block_head e es v vs same))
      ∙ find_none es vs (block_tail e es v vs same) (words_tail v vs words) (λ has. lacks (rest_has v w vs has))

  not_zero : bytes_eq (score (word_of w)) (score []) ≡ false
  not_zero = by (bytes_eq (score (word_of w)) (score [])) refl
    where
      by : (b : Bool) → bytes_eq (score (word_of w)) (score []) ≡ b → b ≡ false
      by false is = refl
      by true is = absurd (apart.nonzero w below ((bytes_eq-Decides (score (word_of w)) (score [])).0 is))

  pub has_word : (h : History) (listed : List ℕ) → HasWords h listed → Contains listed w → held score h (score (word_of w)) 13 ≡ Some (word_of w)
  has_word h listed has it =
      ap (λ (b : Bool). cond b (Some []) (option_map (λ (e : Accepted). e.block.bytes) (find (has_key score (score (word_of w)) 13) h))) not_zero
      ∙ find_word h listed has.blocks has.words it

  pub lacks_word : (h : History) (listed : List ℕ) → HasWords h listed → ¬ Contains listed w → held score h (score (word_of w)) 13 ≡ None
  lacks_word h listed has it =
      ap (λ (b : Bool). cond b (Some []) (option_map (λ (e : Accepted). e.block.bytes) (find (has_key score (score (word_of w)) 13) h))) not_zero
      ∙ find_none h listed has.blocks has.words it

  -- no block has its score with other bytes
  same_bytes : (e : Accepted) (v : ℕ) → v < 64 → e.block ≡ block_of_word v → (bytes_eq (score e.block.bytes) (score (word_of w)) && not (bytes_eq e.block.bytes (word_of w))) ≡ false
  same_bytes e v small is = ap (λ (b : Block). bytes_eq (score b.bytes) (score (word_of w)) && not (bytes_eq b.bytes (word_of w))) is
      ∙ by (bytes_eq (score (word_of v)) (score (word_of w))) refl
    where
      by : (b : Bool) → bytes_eq (score (word_of v)) (score (word_of w)) ≡ b → (b && not (bytes_eq (word_of v) (word_of w))) ≡ false
      by false is = refl
      by true is = ap (λ (b : Bool). not b) ((bytes_eq-Decides (word_of v) (word_of w)).1 (ap word_of (apart.scores v w small below ((bytes_eq-Decides (score (word_of v)) (score (word_of w))).0 is))))

  none_differs : (h : History) (listed : List ℕ) → map (λ (x : Accepted). x.block) h ≡ map block_of_word listed → All (λ v. v < 64) listed
      → list_any (λ e. bytes_eq (score e.block.bytes) (score (word_of w)) && not (bytes_eq e.block.bytes (word_of w))) h ≡ false
  none_differs [] listed same words = refl
  none_differs (e ∷ es) [] same words = absurd (cc)
  none_differs (e ∷ es) (v ∷ vs) same words =
      ap (λ (b : Bool). b || list_any (λ x. bytes_eq (score x.block.bytes) (score (word_of w)) && not (bytes_eq x.block.bytes (word_of w))) es)
      (same_bytes e v (words_head v vs words) (block_head e es v vs same))
      ∙ none_differs es vs (block_tail e es v vs same) (words_tail v vs words)

  pub no_collision : (h : History) (listed : List ℕ) → HasWords h listed → collides score h (word_of w) ≡ false
  no_collision h listed has =
      ap (λ (b : Bool). b || list_any (λ e. bytes_eq (score e.block.bytes) (score (word_of w)) && not (bytes_eq e.block.bytes (word_of w))) h) not_zero
      ∙ none_differs h listed has.blocks has.words
