-- What stands under a name, by the place of the first partition that has it.
use Rattle.std.proofs.Common.{◌≡◌, ◌≢◌, ℕ, zero, suc, ◌+◌, ◌-◌, ◌<◌, ◌≤◌, ⊎_elim, Bool, true, false, cond, List, [], ◌∷◌, ◌++◌, Option, Some, None, length, get_or, set, take, drop, refl, sym, ◌∙◌, ap, arith, zero-add, subst}
use Rattle.std.specs.Prelude.{bytes_eq, not, replicate, slice_index, IfNone, IfOk, IfSome, Result, Ok, Err}
use Rattle.std.specs.List.{position, position_or_len}
use Rattle.std.proofs.lemmas.Bool.{cases_Bool, cases_lt, lt-ltb, not-true}
use Rattle.std.proofs.lemmas.List.{ext_get_or, get_or_default, length-replicate, get_or-replicate, drop-replicate}
use Rattle.std.proofs.lemmas.List.Quantifiers.{position-Some}
use Rattle.std.proofs.lemmas.List.Sums.{prefix_len_passes}
use Rattle.std.proofs.lemmas.Slice.Eq.{bytes_eq-Decides}
use Rattle.vt_disk.specs.Disk.{Only, with_bytes}
use Rattle.vt_disk.specs.Members.{DiskOf}
use Rattle.vt_base.specs.Filled.{filled}
use Rattle.vt_partitions.specs.Parts.{Standing, nothing, lent, there, HandsOut, IsMade, StaysThere}
use Rattle.vt_partitions.specs.NamedInMemory.{has_name, standing_in, standing_of}
use Rattle.vt_partitions.specs.declared.lending.MemPart.{MemPart}

-- ---- zero bytes

pub zeros : (l : List ℕ) (n : ℕ) → length l ≡ n → ((i : ℕ) → slice_index l i ≡ 0) → l ≡ replicate n 0
zeros l n len all =
    ext_get_or 0 l (replicate n 0) (len ∙ sym (length-replicate n 0))
    (λ i below. all i ∙ sym (get_or-replicate n i 0 0 (omega (arith, len, below))))

pub zeroed : (file : List ℕ) (len : ℕ) → length file ≡ len → ((i : ℕ) → slice_index file i ≡ 0) → file ≡ filled len []
zeroed file len size all = zeros file (len - 0) (omega (arith, size)) all

-- a disk of zero bytes, of which a crash leaves nothing else
pub made_zero : {D E : Type 0} (disk : DiskOf D) (r : Result D E) (len : ℕ) → IfOk r (λ d. disk.size d ≡ len)
    → IfOk r (λ d. length (disk.bytes d) ≡ len) → IfOk r (λ d. (i : ℕ) → slice_index (disk.bytes d) i ≡ 0)
    → IfOk r (λ d. Only (disk.bytes d) (disk.images d)) → IfOk r (IsMade disk [] len)
made_zero disk (Ok d) len size same none settled =
    record { size = size; bytes = zeroed (disk.bytes d) len same none; settled = settled }
made_zero disk (Err e) len size same none settled = tt

-- ---- names

-- the first partition of this name
pub record IsFirstAt {D : Type 0} (name : List ℕ) (parts : List (MemPart D)) (place : ℕ) (part : MemPart D) : Type 0 where
  pub within : place < length parts
  pub at : get_or parts place part ≡ part
  pub named : has_name name part ≡ true
  pub first : (k : ℕ) → k < place → has_name name (get_or parts k part) ≡ false

module _ {D : Type 0} where
  own_name : (name : List ℕ) (part : MemPart D) → has_name name part ≡ true → part.name ≡ name
  own_name name part has = (bytes_eq-Decides part.name name).0 has

  not_other : (name other : List ℕ) (part : MemPart D) → has_name name part ≡ true → other ≢ name → has_name other part ≡ false
  not_other name other part has differs = ⊎_elim
      (λ (yes : has_name other part ≡ true). absurd (differs (sym (own_name other part yes) ∙ own_name name part has)))
      (λ (no : has_name other part ≡ false). no)
      (cases_Bool (has_name other part))

  pub first_at : (name : List ℕ) (parts : List (MemPart D)) (place : ℕ) (d : MemPart D) → position (has_name name) parts ≡ Some place
      → IsFirstAt name parts place (get_or parts place d)
  first_at name parts place d is =
      let found = position-Some (has_name name) parts place (get_or parts place d) is in
      let same : get_or parts place (get_or parts place d) ≡ get_or parts place d = get_or_default parts place (get_or parts place d) d found.0 in
      record {
        within = found.0;
        at = same;
        named = ap (has_name name) (sym same) ∙ found.1;
        first = found.2;
      }

  pub found_there : (name : List ℕ) (parts : List (MemPart D)) (place : ℕ) (part : MemPart D) → IsFirstAt name parts place part
      → standing_in parts name ≡ standing_of part.disk
  found_there name [] place part h = absurd (omega (arith, h.within))
  found_there name (p ∷ parts) zero part h =
      let same : p ≡ part = h.at in
      ap (λ (q : MemPart D). standing_in (q ∷ parts) name) same ∙ ap (λ (b : Bool). cond b (standing_of part.disk) (standing_in parts name)) h.named
  found_there name (p ∷ parts) (suc place) part h =
      let not_here : has_name name p ≡ false = h.first 0 (omega arith) in
      ap (λ (b : Bool). cond b (standing_of p.disk) (standing_in parts name)) not_here
      ∙ found_there name parts place part (record {
        within = omega (arith, h.within);
        at = h.at;
        named = h.named;
        first = λ k below. h.first (suc k) (omega (arith, below));
      })

  pub changed_there : (name : List ℕ) (parts : List (MemPart D)) (place : ℕ) (part new : MemPart D) → IsFirstAt name parts place part
      → has_name name new ≡ true → standing_in (set parts place new) name ≡ standing_of new.disk
  changed_there name [] place part new h named = absurd (omega (arith, h.within))
  changed_there name (p ∷ parts) zero part new h named =
      ap (λ (b : Bool). cond b (standing_of new.disk) (standing_in parts name)) named
  changed_there name (p ∷ parts) (suc place) part new h named =
      let not_here : has_name name p ≡ false = h.first 0 (omega arith) in
      ap (λ (b : Bool). cond b (standing_of p.disk) (standing_in (set parts place new) name)) not_here
      ∙ changed_there name parts place part new (record {
        within = omega (arith, h.within);
        at = h.at;
        named = h.named;
        first = λ k below. h.first (suc k) (omega (arith, below));
      }) named

  pub others_stay : (name other : List ℕ) (parts : List (MemPart D)) (place : ℕ) (part new : MemPart D) → IsFirstAt name parts place part
      → has_name name new ≡ true → other ≢ name → standing_in (set parts place new) other ≡ standing_in parts other
  others_stay name other [] place part new h named differs = refl
  others_stay name other (p ∷ parts) zero part new h named differs =
      let old : has_name other p ≡ false = not_other name other p (ap (has_name name) h.at ∙ h.named) differs in
      ap (λ (b : Bool). cond b (standing_of new.disk) (standing_in parts other)) (not_other name other new named differs)
      ∙ sym (ap (λ (b : Bool). cond b (standing_of p.disk) (standing_in parts other)) old)
  others_stay name other (p ∷ parts) (suc place) part new h named differs =
      ap (λ (s : Standing D). cond (has_name other p) (standing_of p.disk) s)
      (others_stay name other parts place part new (record {
        within = omega (arith, h.within);
        at = h.at;
        named = h.named;
        first = λ k below. h.first (suc k) (omega (arith, below));
      }) named differs)

  -- a partition that is kept, or handed out, is something
  something : (o : Option D) → standing_of o ≡ nothing → ⊥
  something None is = cc
  something (Some disk) is = cc

  none_by : (name : List ℕ) (parts : List (MemPart D)) → ((k : ℕ) (d : MemPart D) → k < length parts → has_name name (get_or parts k d) ≡ false)
      → standing_in parts name ≡ nothing
  none_by name [] all = refl
  none_by name (p ∷ parts) all =
      ap (λ (b : Bool). cond b (standing_of p.disk) (standing_in parts name)) (all 0 p (omega arith))
      ∙ none_by name parts (λ k d below. all (suc k) d (omega (arith, below)))

  no_place : (name : List ℕ) (parts : List (MemPart D)) → position (has_name name) parts ≡ None
      → (k : ℕ) (d : MemPart D) → k < length parts → has_name name (get_or parts k d) ≡ false
  no_place name parts none k d below =
      let n : ℕ = position_or_len (has_name name) parts in
      let past : length parts ≤ n = ⊎_elim
      (λ (h : n < length parts). absurd (
      let some : position (has_name name) parts ≡ Some n = ap (λ (b : Bool). cond b (Some n) None) (lt-ltb n (length parts) h) in
      let no : None ≡ Some n = sym none ∙ some in cc))
      (λ (h : length parts ≤ n). h)
      (cases_lt n (length parts)) in
      not-true (has_name name (get_or parts k d)) (prefix_len_passes (λ p. not (has_name name p)) parts k d (omega arith))

  -- where no partition has the name, nothing stands there
  pub none_there : (name : List ℕ) (parts : List (MemPart D)) → position (has_name name) parts ≡ None → standing_in parts name ≡ nothing
  none_there name parts none = none_by name parts (no_place name parts none)

  -- a name behind the others
  pub added_there : (name : List ℕ) (parts : List (MemPart D)) (new : MemPart D) → standing_in parts name ≡ nothing
      → has_name name new ≡ true → standing_in (parts ++ new ∷ []) name ≡ standing_of new.disk
  added_there name [] new none named = ap (λ (b : Bool). cond b (standing_of new.disk) nothing) named
  added_there name (p ∷ parts) new none named = ⊎_elim
      (λ (yes : has_name name p ≡ true). absurd (something p.disk (sym (ap (λ (b : Bool). cond b (standing_of p.disk) (standing_in parts name)) yes) ∙ none)))
      (λ (no : has_name name p ≡ false).
      ap (λ (b : Bool). cond b (standing_of p.disk) (standing_in (parts ++ new ∷ []) name)) no
      ∙ added_there name parts new (sym (ap (λ (b : Bool). cond b (standing_of p.disk) (standing_in parts name)) no) ∙ none) named)
      (cases_Bool (has_name name p))

  pub others_added : (name other : List ℕ) (parts : List (MemPart D)) (new : MemPart D) → has_name name new ≡ true → other ≢ name
      → standing_in (parts ++ new ∷ []) other ≡ standing_in parts other
  others_added name other [] new named differs = ap (λ (b : Bool). cond b (standing_of new.disk) nothing) (not_other name other new named differs)
  others_added name other (p ∷ parts) new named differs =
      ap (λ (s : Standing D). cond (has_name other p) (standing_of p.disk) s) (others_added name other parts new named differs)

  own_name_is : (name : List ℕ) (o : Option D) → has_name name (record { name = name; disk = o }) ≡ true
  own_name_is name o = (bytes_eq-Decides name name).1 refl

-- ---- what is handed out, and what stays

module _ {D : Type 0} (disk : DiskOf D) where
  pub hands_new : (T : Type 0) (s : Standing D) (grow_to : Option ℕ) (least : ℕ) (o : Option D) → s ≡ nothing → grow_to ≡ Some least
      → IfSome o (IsMade disk [] least) → IfSome o (λ d. T → HandsOut disk s grow_to d)
  hands_new T s grow_to least (Some found) is wants made = λ _. subst (λ (t : Standing D). HandsOut disk t grow_to found) (sym is) (least, wants, made)
  hands_new T s grow_to least None is wants made = tt

  pub grows_new : (grow_to : Option ℕ) (least : ℕ) (o : Option D) → grow_to ≡ Some least
      → IfSome o (λ d. disk.size d ≡ least) → IfSome o (λ d. IfSome grow_to (λ l. l ≤ disk.size d))
  grows_new grow_to least (Some found) wants size =
      subst (λ (w : Option ℕ). IfSome w (λ l. l ≤ disk.size found)) (sym wants) (omega (arith, size))
  grows_new grow_to least None wants size = tt

  pub hands_there : (s : Standing D) (old found : D) (grow_to : Option ℕ) → s ≡ there old → HandsOut disk (there old) grow_to found
      → HandsOut disk s grow_to found
  hands_there s old found grow_to is hands = subst (λ (t : Standing D). HandsOut disk t grow_to found) (sym is) hands

  pub stays_there : (s s' : Standing D) (old back : D) → s ≡ there old → s' ≡ there back → StaysThere disk (there old) (there back)
      → StaysThere disk s s'
  stays_there s s' old back is is' stays =
      subst (λ (t : Standing D). StaysThere disk t s') (sym is) (subst (λ (t : Standing D). StaysThere disk (there old) t) (sym is') stays)

module _ {D : Type 0} where
  -- a new name, of a partition that was handed out at once
  pub lent_new : (name : List ℕ) (items new : List (MemPart D)) (o : Option D) → standing_in items name ≡ nothing
      → IfSome o (λ _. new ≡ items ++ record { name = name; disk = None } ∷ []) → IfSome o (λ _. standing_in new name ≡ lent)
  lent_new name items new (Some d) none kept =
      ap (λ (l : List (MemPart D)). standing_in l name) kept ∙ added_there name items (record { name = name; disk = None }) none (own_name_is {D = D} name None)
  lent_new name items new None none kept = tt

  pub others_new : (name other : List ℕ) (items new : List (MemPart D)) (o : Option D) → other ≢ name
      → IfSome o (λ _. new ≡ items ++ record { name = name; disk = None } ∷ []) → IfNone o (new ≡ items)
      → standing_in new other ≡ standing_in items other
  others_new name other items new (Some d) differs kept none =
      ap (λ (l : List (MemPart D)). standing_in l other) kept ∙ others_added name other items (record { name = name; disk = None }) (own_name_is {D = D} name None) differs
  others_new name other items new None differs kept none = ap (λ (l : List (MemPart D)). standing_in l other) none
