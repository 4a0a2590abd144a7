-- There is room for each word, whatever crashes leave.
use Rattle.std.proofs.Common.{◌≡◌, ◌≢◌, ⊎_elim, ◌+◌, ◌-◌, ◌*◌, ◌<◌, ◌≤◌, ◌==◌, ◌&&◌, ℕ, length-append, zero, suc, Bool, true, false, cond, List, [], ◌∷◌, ◌++◌, length, map, take, drop, Some, None, refl, sym, ◌∙◌, ap, subst, arith, append-nil, take-append-drop, get_or, inl, inr, ◌⊎◌, replicate}
use Rattle.std.proofs.lemmas.Bool.{eqb-true, leb-false, le-leb, lt-leb}
use Rattle.std.proofs.lemmas.Bool.Decides.{eqb_tells}
use Rattle.std.proofs.lemmas.List.Elements.{All-cons, All-filter, All-head, All-nil, All-tail, filter_passes}
use Rattle.std.proofs.lemmas.List.Filters.{sum_by-filter_both}
use Rattle.std.proofs.lemmas.List.Kept.{AllPairs-filter}
use Rattle.std.proofs.lemmas.List.Sums.{sum_by-cons, sum_by_push}
use Rattle.std.proofs.lemmas.Option.{same_Some}
use Rattle.std.specs.Prelude.{not, slice_index}
use Rattle.std.specs.List.{All, AllPairs, filter, sum_by}
use Rattle.vt_model.specs.History.{Accepted, Block, History}
use Rattle.vt_model.specs.declared.TheConstants.{CLUMP_HEADER_LEN, DIRECTORY_ENTRY_LEN, WRITTEN_VERSION}
use Rattle.vt_model.specs.Places.{Setup, clump_len, clump_len_in, closes, current_arena, directory_len, directory_len_in, fits, last_arena, lengths_in, needed, next_arena, room_of, takes, version_of, whole_units}
use Rattle.vt_model.proofs.Prefixes.{lengths_in-append}
use Rattle.vt_model.proofs.Room.{takes_is}
use Rattle.vt_model.proofs.Spots.{if_in, sum_by-lengths_in}
use Rattle.vt_rehearse.specs.Stage.{HasWords, IsFilled}
use Rattle.vt_rehearse.specs.Words.{WORD_MOST, block_of_word, word_of}
use Rattle.vt_rehearse.proofs.Judging.{word_short}

-- ---- the blocks of an arena

unequal : (a b : ℕ) → a ≢ b → (a == b) ≡ false
unequal a b other = ⊎_elim (λ same. absurd (other same.1)) (λ is. is.0) (eqb_tells a b)

-- an arena before all of these blocks has none of them
none_in : (arena base : ℕ) (h : History) → All (λ e. base ≤ e.arena) h → arena < base → lengths_in arena h ≡ []
none_in arena base [] all less = refl
none_in arena base (e ∷ es) all less =
    let here : base ≤ e.arena = All-head (λ (x : Accepted). base ≤ x.arena) e es all in
    let rest = filter (λ (x : Accepted). x.arena == arena) es in
    ap (λ (b : Bool). map (λ (x : Accepted). length x.block.bytes) (cond b (e ∷ rest) rest)) (unequal e.arena arena (λ is. omega (arith, here, less, is)))
    ∙ none_in arena base es (All-tail (λ (x : Accepted). base ≤ x.arena) e es all) less

last_pushed : (a : ℕ) (h : History) (e : Accepted) → last_arena a (h ++ e ∷ []) ≡ e.arena
last_pushed a [] e = refl
last_pushed a (x ∷ xs) e = last_pushed x.arena xs e

-- what one block takes of an arena of the version that is written, with its directory entry
abbrev needed_for : ℕ → ℕ
needed_for n = CLUMP_HEADER_LEN + n + DIRECTORY_ENTRY_LEN

needed_written : (lengths : List ℕ) → sum_by (clump_len_in WRITTEN_VERSION) lengths + DIRECTORY_ENTRY_LEN * length lengths ≡ sum_by needed_for lengths
needed_written [] = refl
needed_written (n ∷ more) =
    let rest = needed_written more in
    let first = sum_by-cons needed_for n more in
    let own = sum_by-cons (clump_len_in WRITTEN_VERSION) n more in
    omega (arith, rest, first, own)

needed_is : (c : Setup) (a : ℕ) (lengths : List ℕ) → version_of c a ≡ WRITTEN_VERSION → needed c a lengths ≡ sum_by needed_for lengths
needed_is c a lengths written =
    ap (λ (v : ℕ). sum_by (clump_len_in v) lengths + directory_len_in v (length lengths)) written ∙ needed_written lengths

-- a longer block takes no less
no_shorter : (version m n : ℕ) → m ≤ n → clump_len_in version m ≤ clump_len_in version n
no_shorter version m n less = elim (version == 2) as (λ t. cond t (whole_units (CLUMP_HEADER_LEN + m)) (CLUMP_HEADER_LEN + m) ≤ cond t (whole_units (CLUMP_HEADER_LEN + n)) (CLUMP_HEADER_LEN + n)) [
  | true ↦ omega (arith, less)
  | false ↦ omega (arith, less)
]

-- what doesn't fit behind blocks is a longer one either
longer : (c : Setup) (arena : ℕ) (lengths : List ℕ) (m n : ℕ) → m ≤ n → fits c arena (lengths ++ m ∷ []) ≡ false → fits c arena (lengths ++ n ∷ []) ≡ false
longer c arena lengths m n less full =
    let past : room_of c arena < needed c arena (lengths ++ m ∷ []) = leb-false _ _ full in
    let own = no_shorter (version_of c arena) m n less in
    let with_short = sum_by_push (clump_len c arena) lengths m in
    let with_long = sum_by_push (clump_len c arena) lengths n in
    let many : directory_len c arena (length (lengths ++ m ∷ [])) ≡ directory_len c arena (length (lengths ++ n ∷ [])) =
    ap (directory_len c arena) (length-append lengths (m ∷ []) ∙ sym (length-append lengths (n ∷ []))) in
    lt-leb _ _ (no_less _ _ _ _ _ _ _ _ past own with_short with_long many)
  where
    no_less : (room used one more few many d e : ℕ) → room < few + d → one ≤ more → few ≡ used + one → many ≡ used + more → d ≡ e → room < many + e
    no_less room used one more few many d e past own short long same = omega (arith, past, own, short, long, same)

-- each arena is of the version that is written, and takes what fits there
written : (c : Setup) (h : History) → IsFilled c h → (arena : ℕ) → arena < length c.arenas → version_of c arena ≡ WRITTEN_VERSION
written c h filled arena less =
    let many : length c.arenas ≡ 3 = ap (λ (ns : List ℕ). length ns) filled.arenas in
    ap (λ (vs : List ℕ). slice_index vs arena) filled.versions ∙ by arena (omega (arith, less, many))
  where
    by : (arena : ℕ) → arena < 3 → slice_index (replicate 3 WRITTEN_VERSION) arena ≡ WRITTEN_VERSION
    by zero less = refl
    by (suc zero) less = refl
    by (suc (suc zero)) less = refl
    by (suc (suc (suc n))) less = absurd (omega (arith, less))

takes_filled : (c : Setup) (h : History) → IsFilled c h → (arena : ℕ) (lengths : List ℕ) (n : ℕ) → takes c arena (lengths ++ n ∷ []) ≡ fits c arena (lengths ++ n ∷ [])
takes_filled c h filled arena lengths n = takes_is c arena lengths n (written c h filled arena)

-- ---- crashes and writes

-- where the blocks that a crash cut off aren't of an arena before its base
pub filled_left : (c : Setup) (h : History) (n base : ℕ) → IsFilled c h → All (λ e. base ≤ e.arena) (drop n h)
    → current_arena c (take n h) ≤ base → base ≤ current_arena c h → IsFilled (record c { base = base }) (take n h)
filled_left c h n base filled others least most = record {
  arenas = filled.arenas;
  versions = filled.versions;
  full = λ arena less.
      let before : arena < base = omega (arith, less, least) in
      let same : lengths_in arena h ≡ lengths_in arena (take n h) =
      ap (lengths_in arena) (sym (take-append-drop n h)) ∙ lengths_in-append arena (take n h) (drop n h)
      ∙ ap (λ (ns : List ℕ). lengths_in arena (take n h) ++ ns) (none_in arena base (drop n h) others before) ∙ append-nil (lengths_in arena (take n h)) in
      subst (λ (ns : List ℕ). fits c arena (ns ++ WORD_MOST ∷ []) ≡ false) same (filled.full arena (omega (arith, before, most)));
}

-- with a block more
module _ (c : Setup) (h : History) (filled : IsFilled c h) (e : Accepted) where
  same_lengths : (arena : ℕ) → arena < e.arena → lengths_in arena h ≡ lengths_in arena (h ++ e ∷ [])
  same_lengths arena before =
      let one : lengths_in arena (e ∷ []) ≡ [] =
      none_in arena e.arena (e ∷ []) (All-cons (λ (x : Accepted). e.arena ≤ x.arena) e [] (omega arith) (All-nil (λ (x : Accepted). e.arena ≤ x.arena))) before in
      sym (lengths_in-append arena h (e ∷ []) ∙ ap (λ (ns : List ℕ). lengths_in arena h ++ ns) one ∙ append-nil (lengths_in arena h))

  full_as_before : (arena : ℕ) → arena < current_arena c h → arena < e.arena → fits c arena (lengths_in arena (h ++ e ∷ []) ++ WORD_MOST ∷ []) ≡ false
  full_as_before arena less before = subst (λ (ns : List ℕ). fits c arena (ns ++ WORD_MOST ∷ []) ≡ false) (same_lengths arena before) (filled.full arena less)

  pub filled_more : next_arena c h (length e.block.bytes) ≡ Some e.arena → length e.block.bytes ≤ WORD_MOST → IsFilled c (h ++ e ∷ [])
  filled_more next_is most = record {
    arenas = filled.arenas;
    versions = filled.versions;
    full = λ arena less. by (fits c (current_arena c h) (lengths_in (current_arena c h) h ++ length e.block.bytes ∷ [])) refl
        (closes c (current_arena c h) && fits c (current_arena c h + 1) (length e.block.bytes ∷ []))
        (ap (λ (b : Bool). cond b (Some (current_arena c h)) (cond (closes c (current_arena c h) && fits c (current_arena c h + 1) (length e.block.bytes ∷ [])) (Some (current_arena c h + 1)) None))
        (sym (takes_filled c h filled (current_arena c h) (lengths_in (current_arena c h) h) (length e.block.bytes))) ∙ next_is) arena less;
  }
    where
      last : last_arena 0 (h ++ e ∷ []) ≡ e.arena
      last = last_pushed 0 h e

      by : (here : Bool) → fits c (current_arena c h) (lengths_in (current_arena c h) h ++ length e.block.bytes ∷ []) ≡ here → (next : Bool)
          → cond here (Some (current_arena c h)) (cond next (Some (current_arena c h + 1)) None) ≡ Some e.arena
          → (arena : ℕ) → arena < current_arena c (h ++ e ∷ []) → fits c arena (lengths_in arena (h ++ e ∷ []) ++ WORD_MOST ∷ []) ≡ false
      by true here next at arena less =
          let same : current_arena c h ≡ e.arena = same_Some _ _ at in
          let before : arena < e.arena = omega (arith, less, last, same) in
          full_as_before arena (omega (arith, before, same)) before
      by false here true at arena less =
          let same : current_arena c h + 1 ≡ e.arena = same_Some _ _ at in
          let before : arena < e.arena = omega (arith, less, last, same) in
          ⊎_elim
          (λ own.
          let lengths : lengths_in (current_arena c h) h ≡ lengths_in arena (h ++ e ∷ []) = ap (λ (a : ℕ). lengths_in a h) (sym own.1) ∙ same_lengths arena before in
          subst (λ (ns : List ℕ). fits c arena (ns ++ WORD_MOST ∷ []) ≡ false) lengths
          (subst (λ (a : ℕ). fits c a (lengths_in (current_arena c h) h ++ WORD_MOST ∷ []) ≡ false) (sym own.1)
          (longer c (current_arena c h) (lengths_in (current_arena c h) h) (length e.block.bytes) WORD_MOST most here)))
          (λ other. let differs = other.1 in full_as_before arena (omega (arith, before, same, differs)) before)
          (eqb_tells arena (current_arena c h))
      by false here false at arena less = absurd (cc)

-- ---- how much room all words take

-- the sum of f over the numbers below n
sum_below : (ℕ → ℕ) → ℕ → ℕ
sum_below f zero = 0
sum_below f (suc n) = f n + sum_below f n

-- of numbers that differ each is there once
once : (f : ℕ → ℕ) (n : ℕ) (xs : List ℕ) → All (λ x. (x == n) ≡ true) xs → AllPairs (λ x y. x ≢ y) xs → sum_by f xs ≤ f n
once f n [] same differ = omega arith
once f n (x ∷ []) same differ =
    let is : x ≡ n = eqb-true x n (same 0 0 (omega arith)) in
    let value : f x ≡ f n = ap f is in
    let sum = sum_by-cons f x [] in
    omega (arith, value, sum)
once f n (x ∷ y ∷ xs) same differ =
    absurd (differ 0 1 0 (omega arith) (omega arith) (eqb-true x n (same 0 0 (omega arith)) ∙ sym (eqb-true y n (same 1 0 (omega arith)))))

-- numbers below n that differ have no greater sum than all numbers below n
sum_most : (f : ℕ → ℕ) (n : ℕ) (xs : List ℕ) → All (λ x. x < n) xs → AllPairs (λ x y. x ≢ y) xs → sum_by f xs ≤ sum_below f n
unfolding sum_below
sum_most f zero [] small differ = omega arith
sum_most f zero (x ∷ xs) small differ = let no : x < 0 = small 0 0 (omega arith) in absurd (omega (arith, no))
sum_most f (suc n) xs small differ =
    let own : List ℕ = filter (λ x. x == n) xs in
    let rest : List ℕ = filter (λ x. not (x == n)) xs in
    let both = sum_by-filter_both (λ x. x == n) (λ x. not (x == n)) (λ x. refl) f xs in
    let one = once f n own (filter_passes (λ x. x == n) xs) (AllPairs-filter (λ x y. x ≢ y) (λ x. x == n) xs differ) in
    let less = sum_most f n rest
    (λ i d lt. below (get_or rest i d) (All-filter (λ x. not (x == n)) (λ x. x < suc n) xs small i d lt) (filter_passes (λ x. not (x == n)) xs i d lt))
    (AllPairs-filter (λ x y. x ≢ y) (λ x. not (x == n)) xs differ) in
    let more : sum_below f (suc n) ≡ f n + sum_below f n = refl in
    omega (arith, both, one, less, more)
  where
    below : (x : ℕ) → x < suc n → not (x == n) ≡ true → x < n
    below x small other = ⊎_elim
        (λ same. let no : false ≡ true = ap not (sym same.0) ∙ other in absurd (cc))
        (λ differs. let it = differs.1 in omega (arith, small, it))
        (eqb_tells x n)

-- what a word takes of an arena
abbrev taken_by : ℕ → ℕ
taken_by w = needed_for (length (word_of w))

all_taken : (listed : List ℕ) → All (λ w. w < 64) listed → AllPairs (λ v w. v ≢ w) listed → sum_by taken_by listed ≤ 10488
unfolding sum_below
all_taken listed words differ = sum_most taken_by 64 listed words differ

-- two arenas' blocks take no more than all blocks
two_arenas : (f : ℕ → ℕ) (h : History) → sum_by (if_in 0 f) h + sum_by (if_in 1 f) h ≤ sum_by (λ e. f (length e.block.bytes)) h
two_arenas f [] = omega arith
two_arenas f (e ∷ es) =
    let rest = two_arenas f es in
    let first = sum_by-cons (if_in 0 f) e es in
    let second = sum_by-cons (if_in 1 f) e es in
    let all = sum_by-cons (λ (x : Accepted). f (length x.block.bytes)) e es in
    let own : if_in 0 f e + if_in 1 f e ≤ f (length e.block.bytes) = by (e.arena == 0) (e.arena == 1) refl refl in
    omega (arith, rest, first, second, all, own)
  where
    by : (zeroth one : Bool) → (e.arena == 0) ≡ zeroth → (e.arena == 1) ≡ one → cond zeroth (f (length e.block.bytes)) 0 + cond one (f (length e.block.bytes)) 0 ≤ f (length e.block.bytes)
    by true true is was = let zeroth = eqb-true e.arena 0 is in let one = eqb-true e.arena 1 was in absurd (omega (arith, zeroth, one))
    by true false is was = omega arith
    by false true is was = omega arith
    by false false is was = omega arith

-- the blocks of a history of words take what its words take
words_taken : (f : ℕ → ℕ) (h : History) (listed : List ℕ) → map (λ e. e.block) h ≡ map block_of_word listed → sum_by (λ e. f (length e.block.bytes)) h ≡ sum_by (λ w. f (length (word_of w))) listed
words_taken f [] [] same = refl
words_taken f [] (w ∷ ws) same = absurd (cc)
words_taken f (e ∷ es) [] same = absurd (cc)
words_taken f (e ∷ es) (w ∷ ws) same =
    let head : e.block ≡ block_of_word w = ap (λ (bs : List Block). get_or bs 0 e.block) same in
    let own : f (length e.block.bytes) ≡ f (length (word_of w)) = ap (λ (b : Block). f (length b.bytes)) head in
    let rest = words_taken f es ws (ap (λ (bs : List Block). drop 1 bs) same) in
    let first = sum_by-cons (λ (x : Accepted). f (length x.block.bytes)) e es in
    let second = sum_by-cons (λ (v : ℕ). f (length (word_of v))) w ws in
    omega (arith, own, rest, first, second)

-- ---- there is room

module _ (c : Setup) (h : History) (listed : List ℕ) (filled : IsFilled c h) (has : HasWords h listed) (w : ℕ) where
  room_is : (arena : ℕ) → arena < 3 → room_of c arena ≡ 8192
  room_is arena less = ap (λ (ns : List ℕ). slice_index ns arena - 24576) filled.arenas ∙ by arena less
    where
      by : (arena : ℕ) → arena < 3 → slice_index (replicate 3 32768) arena - 24576 ≡ 8192
      by zero less = refl
      by (suc zero) less = refl
      by (suc (suc zero)) less = refl
      by (suc (suc (suc n))) less = absurd (omega (arith, less))

  version_there : (arena : ℕ) → arena < 3 → version_of c arena ≡ WRITTEN_VERSION
  version_there arena less =
      let many : length c.arenas ≡ 3 = ap (λ (ns : List ℕ). length ns) filled.arenas in
      written c h filled arena (omega (arith, less, many))

  -- it can be sealed
  closes_there : (arena : ℕ) → arena < 3 → closes c arena ≡ true
  closes_there arena less = ap (λ (v : ℕ). not (v == 2)) (version_there arena less)

  -- a word fits an arena without blocks
  fits_empty : (arena : ℕ) → arena < 3 → fits c arena (length (word_of w) ∷ []) ≡ true
  fits_empty arena less =
      let needs = needed_is c arena (length (word_of w) ∷ []) (version_there arena less) in
      let sum = sum_by-cons needed_for (length (word_of w)) [] in
      let room = room_is arena less in
      let most = word_short w in
      le-leb _ _ (omega (arith, needs, sum, room, most))

  -- what an arena has that was left
  full_has : (arena : ℕ) → arena < 3 → arena < current_arena c h → 7929 < sum_by (if_in arena needed_for) h
  full_has arena there less =
      let past : room_of c arena < needed c arena (lengths_in arena h ++ 200 ∷ []) = leb-false _ _ (filled.full arena less) in
      let needs = needed_is c arena (lengths_in arena h ++ 200 ∷ []) (version_there arena there) in
      let more = sum_by_push needed_for (lengths_in arena h) 200 in
      let same = sum_by-lengths_in needed_for arena h in
      let room = room_is arena there in
      omega (arith, past, needs, more, same, room)

  pub has_room : next_arena c h (length (word_of w)) ≢ None
  has_room = subst (λ (b : Bool). cond b (Some (current_arena c h)) (cond (closes c (current_arena c h) && fits c (current_arena c h + 1) (length (word_of w) ∷ [])) (Some (current_arena c h + 1)) None) ≢ None)
      (sym (takes_filled c h filled (current_arena c h) (lengths_in (current_arena c h) h) (length (word_of w))))
      (by (fits c (current_arena c h) (lengths_in (current_arena c h) h ++ length (word_of w) ∷ [])) (closes c (current_arena c h) && fits c (current_arena c h + 1) (length (word_of w) ∷ [])) refl)
    where
      early_or_late : (n : ℕ) → (n < 2) ⊎ (2 ≤ n)
      early_or_late zero = inl (omega arith)
      early_or_late (suc zero) = inl (omega arith)
      early_or_late (suc (suc n)) = inr (omega arith)

      by : (here next : Bool) → (closes c (current_arena c h) && fits c (current_arena c h + 1) (length (word_of w) ∷ [])) ≡ next
          → cond here (Some (current_arena c h)) (cond next (Some (current_arena c h + 1)) None) ≢ None
      by true next is none = absurd (cc)
      by false true is none = absurd (cc)
      by false false is none =
          let all = all_taken listed has.words has.once in
          let words = words_taken needed_for h listed has.blocks in
          let two = two_arenas needed_for h in
          let past : 2 ≤ current_arena c h = ⊎_elim
          (λ early.
          let closed = closes_there (current_arena c h) (omega (arith, early)) in
          let room = fits_empty (current_arena c h + 1) (omega (arith, early)) in
          let both : (closes c (current_arena c h) && fits c (current_arena c h + 1) (length (word_of w) ∷ [])) ≡ true = (λ i. closed i && room i) in
          let no : true ≡ false = sym both ∙ is in absurd (cc))
          (λ late. late)
          (early_or_late (current_arena c h)) in
          let first = full_has 0 (omega arith) (omega (arith, past)) in
          let second = full_has 1 (omega arith) (omega (arith, past)) in
          absurd (omega (arith, all, words, two, first, second))
