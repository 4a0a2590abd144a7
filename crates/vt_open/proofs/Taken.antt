-- Partitions under the names of files, handed out and handed back, some files behind others.
use Rattle.std.proofs.Common.{◌≡◌, ◌≢◌, ◌⊎◌, ⊎_elim, inl, inr, ℕ, true, false, List, [], ◌∷◌, ◌++◌, length, refl, sym, ◌∙◌, ap, subst, arith, append_assoc, length-append}
use Rattle.std.specs.Prelude.{bytes_eq}
use Rattle.std.specs.List.{AllPairs, Contains}
use Rattle.std.proofs.lemmas.Bool.{cases_Bool}
use Rattle.std.proofs.lemmas.List.{append-nil, map-append}
use Rattle.std.proofs.lemmas.List.Elements.{Contains-append_cases, Contains-append_left, Contains-append_right}
use Rattle.std.proofs.lemmas.Slice.Eq.{bytes_eq-Decides}
use Rattle.vt_conf.specs.declared.conf.PartFile.{PartFile}
use Rattle.vt_disk.specs.Members.{DiskOf}
use Rattle.vt_partitions.specs.Parts.{Standing, StaysThere, nothing, lent, there}
use Rattle.vt_open.specs.Names.{StandUnder, names_of}
use Rattle.vt_open.specs.Taking.{AreBack, AreHandedBack, AreTaken}
use Rattle.vt_open.proofs.Lists.{has_cases, has_first, has_later, has_none, pairs_append, pairs_cross, pairs_left, pairs_none, pairs_one, pairs_right, zip_append}

abbrev pub Stands : Type 0 → Type 0
Stands D = List ℕ → Standing D

abbrev pub Apart : List PartFile → Type 0
Apart files = AllPairs (λ (a b : List ℕ). a ≢ b) (names_of files)

pub names_more : (a b : List PartFile) → names_of (a ++ b) ≡ names_of a ++ names_of b
names_more a b = map-append (λ (file : PartFile). file.name) a b

pub in_left : (a b : List PartFile) (n : List ℕ) → Contains (names_of a) n → Contains (names_of (a ++ b)) n
in_left a b n has = subst (λ (l : List (List ℕ)). Contains l n) (sym (names_more a b)) (Contains-append_left (names_of a) (names_of b) n has)

pub in_right : (a b : List PartFile) (n : List ℕ) → Contains (names_of b) n → Contains (names_of (a ++ b)) n
in_right a b n has = subst (λ (l : List (List ℕ)). Contains l n) (sym (names_more a b)) (Contains-append_right (names_of a) (names_of b) n has)

pub in_cases : (a b : List PartFile) (n : List ℕ) → Contains (names_of (a ++ b)) n → Contains (names_of a) n ⊎ Contains (names_of b) n
in_cases a b n has = Contains-append_cases (names_of a) (names_of b) n (subst (λ (l : List (List ℕ)). Contains l n) (names_more a b) has)

apart_more : (a b : List PartFile) → Apart a → Apart b → ((x y : List ℕ) → Contains (names_of a) x → Contains (names_of b) y → x ≢ y) → Apart (a ++ b)
apart_more a b these those cross =
    subst (λ (l : List (List ℕ)). AllPairs (λ (x y : List ℕ). x ≢ y) l) (sym (names_more a b)) (pairs_append (λ (x y : List ℕ). x ≢ y) (names_of a) (names_of b) these those cross)

apart_all : (a b : List PartFile) → Apart (a ++ b) → AllPairs (λ (x y : List ℕ). x ≢ y) (names_of a ++ names_of b)
apart_all a b apart = subst (λ (l : List (List ℕ)). AllPairs (λ (x y : List ℕ). x ≢ y) l) (names_more a b) apart

pub apart_left : (a b : List PartFile) → Apart (a ++ b) → Apart a
apart_left a b apart = pairs_left (λ (x y : List ℕ). x ≢ y) (names_of a) (names_of b) (apart_all a b apart)

pub apart_right : (a b : List PartFile) → Apart (a ++ b) → Apart b
apart_right a b apart = pairs_right (λ (x y : List ℕ). x ≢ y) (names_of a) (names_of b) (apart_all a b apart)

pub apart_cross : (a b : List PartFile) (x y : List ℕ) → Apart (a ++ b) → Contains (names_of a) x → Contains (names_of b) y → x ≢ y
apart_cross a b x y apart has also = pairs_cross (λ (x y : List ℕ). x ≢ y) (names_of a) (names_of b) x y (apart_all a b apart) has also

pub same_name : (a b : List ℕ) → (a ≡ b) ⊎ (a ≢ b)
same_name a b = ⊎_elim
    (λ (yes : bytes_eq a b ≡ true). inl ((bytes_eq-Decides a b).0 yes))
    (λ (no : bytes_eq a b ≡ false). inr (λ same. let wrong : true ≡ false = sym ((bytes_eq-Decides a b).1 same) ∙ no in absurd (cc)))
    (cases_Bool (bytes_eq a b))

-- whether a name is among these
pub among : (names : List (List ℕ)) (n : List ℕ) → Contains names n ⊎ (¬ Contains names n)
among [] n = inr (has_none n)
among (x ∷ names) n = ⊎_elim
    (λ (same : n ≡ x). inl (subst (λ (z : List ℕ). Contains (x ∷ names) z) (sym same) (has_first x names)))
    (λ (no : n ≢ x). ⊎_elim
    (λ (later : Contains names n). inl (has_later x names n later))
    (λ (never : ¬ Contains names n). inr (λ has. ⊎_elim (λ (same : n ≡ x). no same) (λ (later : Contains names n). never later) (has_cases x names n has)))
    (among names n))
    (same_name n x)

module _ {D : Type 0} where
  stays : (disk : DiskOf D) (x : Standing D) → StaysThere disk x x
  stays disk nothing = refl
  stays disk lent = refl
  stays disk (there d) = (refl, refl, λ c image. image)

  pub stays_same : (disk : DiskOf D) (old new : Standing D) → new ≡ old → StaysThere disk old new
  stays_same disk old new same = subst (λ (x : Standing D). StaysThere disk old x) (sym same) (stays disk old)

  pub stays_lent : (disk : DiskOf D) (old new : Standing D) → old ≡ lent → StaysThere disk old new → new ≡ lent
  stays_lent disk old new is it = subst (λ (x : Standing D). StaysThere disk x new) is it

  -- what stands under a name among these
  pub stands_at : (s : Stands D) (files : List PartFile) (ds : List D) (n : List ℕ) → StandUnder s files ds → Contains (names_of files) n → (d : D) × (s n ≡ there d)
  stands_at s [] ds n it has = absurd (has_none n has)
  stands_at s (f ∷ files) [] n it has = absurd it
  stands_at s (f ∷ files) (d ∷ ds) n it has = ⊎_elim
      (λ (same : n ≡ f.name). (d, ap s same ∙ it.0))
      (λ (later : Contains (names_of files) n). stands_at s files ds n it.1 later)
      (has_cases f.name (names_of files) n has)

  pub stand_still : (s s' : Stands D) (files : List PartFile) (ds : List D) → StandUnder s files ds → ((n : List ℕ) → Contains (names_of files) n → s' n ≡ s n) → StandUnder s' files ds
  stand_still s s' [] [] it same = tt
  stand_still s s' [] (d ∷ ds) it same = absurd it
  stand_still s s' (f ∷ files) [] it same = absurd it
  stand_still s s' (f ∷ files) (d ∷ ds) it same =
      (same f.name (has_first f.name (names_of files)) ∙ it.0, stand_still s s' files ds it.1 (λ n has. same n (has_later f.name (names_of files) n has)))

  -- one that was handed out doesn't stand there
  pub not_both : (s : Stands D) (n : List ℕ) (d : D) → s n ≡ lent → s n ≡ there d → ⊥
  not_both s n d out is = let wrong : lent ≡ there d = sym out ∙ is in absurd (cc)

  -- ---- handed out

  pub taken_none : (told : Type 0) (s : Stands D) → AreTaken told [] s s []
  taken_none told s = record {
    many = refl;
    stood = λ t. tt;
    out = λ t n has. absurd (has_none n has);
    apart = λ t. pairs_none (λ (x y : List ℕ). x ≢ y);
    others = λ t n no. refl;
  }

  pub taken_one : (told : Type 0) (f : PartFile) (old new : Stands D) (d : D) → (told → old f.name ≡ there d) → (told → new f.name ≡ lent) → (told → (n : List ℕ) → n ≢ f.name → new n ≡ old n)
      → AreTaken told (f ∷ []) old new (d ∷ [])
  taken_one told f old new d was out others = record {
    many = refl;
    stood = λ t. (was t, tt);
    out = λ t n has. ⊎_elim (λ (same : n ≡ f.name). ap new same ∙ out t) (λ (later : Contains [] n). absurd (has_none n later)) (has_cases f.name [] n has);
    apart = λ t. pairs_one (λ (x y : List ℕ). x ≢ y) f.name;
    others = λ t n no. others t n (λ same. no (subst (λ (z : List ℕ). Contains (f.name ∷ []) z) (sym same) (has_first f.name [])));
  }

  pub taken_more : (told : Type 0) (a b : List PartFile) (old mid new : Stands D) (ds es : List D) → AreTaken told a old mid ds → AreTaken told b mid new es
      → AreTaken told (a ++ b) old new (ds ++ es)
  taken_more told a b old mid new ds es one two =
      let cross : told → (x y : List ℕ) → Contains (names_of a) x → Contains (names_of b) y → x ≢ y =
      λ t x y has also same.
      let out : mid x ≡ lent = one.out t x has in
      let at : (d : D) × (mid y ≡ there d) = stands_at mid b es y (two.stood t) also in
      not_both mid y at.0 (sym (ap mid same) ∙ out) at.1 in
      record {
        many = let m : length ds ≡ length a = one.many in let n : length es ≡ length b = two.many in
            omega (arith, m, n, length-append ds es, length-append a b);
        stood = λ t. zip_append (λ (f : PartFile) (d : D). old f.name ≡ there d) a b ds es (one.stood t)
            (stand_still mid old b es (two.stood t) (λ n has.
            sym (one.others t n (λ also. cross t n n also has refl))));
        out = λ t n has. ⊎_elim
            (λ (here : Contains (names_of a) n). two.others t n (λ also. cross t n n here also refl) ∙ one.out t n here)
            (λ (later : Contains (names_of b) n). two.out t n later)
            (in_cases a b n has);
        apart = λ t. apart_more a b (one.apart t) (two.apart t) (cross t);
        others = λ t n no. two.others t n (λ has. no (in_right a b n has)) ∙ one.others t n (λ has. no (in_left a b n has));
      }

  -- ---- handed back

  pub given_none : (told : Type 0) (s : Stands D) → AreHandedBack told [] s s []
  given_none told s = record { many = refl; stand = λ t out apart. tt; others = λ t n no. refl }

  pub given_one : (told : Type 0) (f : PartFile) (old new : Stands D) (d : D) → (told → old f.name ≡ lent → new f.name ≡ there d) → (told → (n : List ℕ) → n ≢ f.name → new n ≡ old n)
      → AreHandedBack told (f ∷ []) old new (d ∷ [])
  given_one told f old new d back others = record {
    many = refl;
    stand = λ t out apart. (back t (out f.name (has_first f.name [])), tt);
    others = λ t n no. others t n (λ same. no (subst (λ (z : List ℕ). Contains (f.name ∷ []) z) (sym same) (has_first f.name [])));
  }

  -- those of the files behind come first
  pub given_more : (told : Type 0) (a b : List PartFile) (old mid new : Stands D) (ds es : List D) → AreHandedBack told b old mid es → AreHandedBack told a mid new ds
      → AreHandedBack told (a ++ b) old new (ds ++ es)
  given_more told a b old mid new ds es one two = record {
    many = let m : length es ≡ length b = one.many in let n : length ds ≡ length a = two.many in
        omega (arith, m, n, length-append ds es, length-append a b);
    stand = λ t out apart.
        let cross : (x y : List ℕ) → Contains (names_of a) x → Contains (names_of b) y → x ≢ y = λ x y has also. apart_cross a b x y apart has also in
        let here : StandUnder new a ds = two.stand t
        (λ n has. one.others t n (λ also. cross n n has also refl) ∙ out n (in_left a b n has)) (apart_left a b apart) in
        let later : StandUnder mid b es = one.stand t (λ n has. out n (in_right a b n has)) (apart_right a b apart) in
        zip_append (λ (f : PartFile) (d : D). new f.name ≡ there d) a b ds es here
        (stand_still mid new b es later (λ n has. two.others t n (λ also. cross n n also has refl)));
    others = λ t n no. two.others t n (λ has. no (in_left a b n has)) ∙ one.others t n (λ has. no (in_right a b n has));
  }

  -- ---- handed out and back

  pub back_here : (disk : DiskOf D) (told : Type 0) (files : List PartFile) (old mid new : Stands D) (ds es : List D) → AreTaken told files old mid ds → AreHandedBack told files mid new es
      → AreBack disk told files old new ds es
  back_here disk told files old mid new ds es taken given = record {
    front = files;
    behind = [];
    files_are = sym (append-nil files);
    many = taken.many;
    stood = taken.stood;
    stand = λ t. given.stand t (taken.out t) (taken.apart t);
    stay = λ t n no. stays_same disk (old n) (new n) (given.others t n no ∙ taken.others t n no);
    others = λ t n no. given.others t n no ∙ taken.others t n no;
  }

  -- the first of these files wasn't handed out
  pub back_none : (disk : DiskOf D) (told : Type 0) (f : PartFile) (old new : Stands D) → (told → StaysThere disk (old f.name) (new f.name)) → (told → (n : List ℕ) → n ≢ f.name → new n ≡ old n)
      → AreBack disk told (f ∷ []) old new [] []
  back_none disk told f old new stays_there others = record {
    front = [];
    behind = f ∷ [];
    files_are = refl;
    many = refl;
    stood = λ t. tt;
    stand = λ t. tt;
    stay = λ t n no. ⊎_elim
        (λ (same : n ≡ f.name). subst (λ (z : List ℕ). StaysThere disk (old z) (new z)) (sym same) (stays_there t))
        (λ (other : n ≢ f.name). stays_same disk (old n) (new n) (others t n other))
        (same_name n f.name);
    others = λ t n no. others t n (λ same. no (subst (λ (z : List ℕ). Contains (f.name ∷ []) z) (sym same) (has_first f.name [])));
  }

  -- nothing was handed out
  pub back_still : (disk : DiskOf D) (told : Type 0) (files : List PartFile) (s : Stands D) → AreBack disk told files s s [] []
  back_still disk told files s = record {
    front = [];
    behind = files;
    files_are = refl;
    many = refl;
    stood = λ t. tt;
    stand = λ t. tt;
    stay = λ t n no. stays_same disk (s n) (s n) refl;
    others = λ t n no. refl;
  }

  pub back_more : (disk : DiskOf D) (told : Type 0) (files more : List PartFile) (old new : Stands D) (ds es : List D) → AreBack disk told files old new ds es
      → AreBack disk told (files ++ more) old new ds es
  back_more disk told files more old new ds es it = record {
    front = it.front;
    behind = it.behind ++ more;
    files_are = ap (λ (l : List PartFile). l ++ more) it.files_are ∙ append_assoc it.front it.behind more;
    many = it.many;
    stood = it.stood;
    stand = it.stand;
    stay = it.stay;
    others = λ t n no. it.others t n (λ has. no (in_left files more n has));
  }

  -- some were handed out, then others behind them, which are back; and then the first ones are too
  pub back_behind : (disk : DiskOf D) (told : Type 0) (a b : List PartFile) (old mid late new : Stands D) (ds es hs bs : List D) → AreTaken told a old mid ds → AreBack disk told b mid late hs bs
      → AreHandedBack told a late new es → AreBack disk told (a ++ b) old new (ds ++ hs) (es ++ bs)
  back_behind disk told a b old mid late new ds es hs bs taken back given =
      let cross : told → (x y : List ℕ) → Contains (names_of a) x → Contains (names_of back.front) y → x ≢ y =
      λ t x y has also same.
      let out : mid x ≡ lent = taken.out t x has in
      let at : (d : D) × (mid y ≡ there d) = stands_at mid back.front hs y (back.stood t) also in
      not_both mid y at.0 (sym (ap mid same) ∙ out) at.1 in
      let still : told → (n : List ℕ) → Contains (names_of a) n → late n ≡ lent =
      λ t n has. stays_lent disk (mid n) (late n) (taken.out t n has) (back.stay t n (λ also. cross t n n has also refl)) in
      record {
        front = a ++ back.front;
        behind = back.behind;
        files_are = ap (λ (l : List PartFile). a ++ l) back.files_are ∙ sym (append_assoc a back.front back.behind);
        many = let m : length ds ≡ length a = taken.many in let n : length hs ≡ length back.front = back.many in
            omega (arith, m, n, length-append ds hs, length-append a back.front);
        stood = λ t. zip_append (λ (f : PartFile) (d : D). old f.name ≡ there d) a back.front ds hs (taken.stood t)
            (stand_still mid old back.front hs (back.stood t) (λ n has. sym (taken.others t n (λ also. cross t n n also has refl))));
        stand = λ t. zip_append (λ (f : PartFile) (d : D). new f.name ≡ there d) a back.front es bs
            (given.stand t (still t) (taken.apart t))
            (stand_still late new back.front bs (back.stand t) (λ n has. given.others t n (λ also. cross t n n also has refl)));
        stay = λ t n no.
            let not_a : ¬ Contains (names_of a) n = λ has. no (in_left a back.front n has) in
            let it : StaysThere disk (mid n) (late n) = back.stay t n (λ has. no (in_right a back.front n has)) in
            subst (λ (x : Standing D). StaysThere disk x (new n)) (taken.others t n not_a)
            (subst (λ (x : Standing D). StaysThere disk (mid n) x) (sym (given.others t n not_a)) it);
        others = λ t n no.
            let not_a : ¬ Contains (names_of a) n = λ has. no (in_left a b n has) in
            given.others t n not_a ∙ back.others t n (λ has. no (in_right a b n has)) ∙ taken.others t n not_a;
      }
