-- Partitions that are handed back, the last one first.
use Rattle.std.proofs.Common.{◌≡◌, ◌≢◌, ◌+◌, ◌<◌, ℕ, zero, suc, List, [], ◌∷◌, ◌++◌, length, map, Some, refl, sym, ◌∙◌, ap, subst, arith, append_assoc, length-append}
use Rattle.std.specs.Prelude.{slice_get}
use Rattle.std.proofs.lemmas.List.{append-nil}
use Rattle.vt_conf.specs.declared.conf.PartFile.{PartFile}
use Rattle.vt_partitions.specs.Parts.{lent, there}
use Rattle.vt_open.specs.Taking.{AreHandedBack}
use Rattle.vt_open.proofs.Taken.{Stands, given_more, given_none, given_one}

pub no_items : {X : Type 0} (xs : List X) → length xs ≡ 0 → xs ≡ []
no_items [] none = refl
no_items (x ∷ xs) none = absurd (omega (arith, none))

pub map_same : {X : Type 0} (xs : List X) → map (λ x. x) xs ≡ xs
map_same [] = refl
map_same {X = X} (x ∷ xs) = ap (λ (l : List X). x ∷ l) (map_same xs)

-- Of these, each of which is of a file, those that don't wait any more are back: the last ones.
pub record IsGivenTo {D X : Type 0} (told : Type 0) (disk_of : X → D) (files : List PartFile) (all waiting : List X) (old new : Stands D) : Type 0 where
  pub behind : List X
  pub files_behind : List PartFile
  pub front : List PartFile
  pub all_are : all ≡ waiting ++ behind
  pub files_are : files ≡ front ++ files_behind
  pub many : length waiting ≡ length front
  pub given : AreHandedBack told files_behind old new (map disk_of behind)

module _ {D X : Type 0} (told : Type 0) (disk_of : X → D) (files : List PartFile) (all : List X) where
  pub given_start : (s : Stands D) → length all ≡ length files → IsGivenTo told disk_of files all all s s
  given_start s many = record {
    behind = [];
    files_behind = [];
    front = files;
    all_are = sym (append-nil all);
    files_are = sym (append-nil files);
    many = many;
    given = given_none told s;
  }

  -- a list of one more than these has a last one
  last_of : (files : List PartFile) (n : ℕ) → length files ≡ n + 1 → (front : List PartFile) × (last : PartFile) × (files ≡ front ++ last ∷ []) × (length front ≡ n)
  last_of [] n many = absurd (omega (arith, many))
  last_of (f ∷ []) n many = ([], f, refl, omega (arith, many))
  last_of (f ∷ (g ∷ files)) zero many = absurd (omega (arith, many))
  last_of (f ∷ (g ∷ files)) (suc n) many =
      let few : length (g ∷ files) ≡ n + 1 = omega (arith, many) in
      let rest = last_of (g ∷ files) n few in
      let same = rest.2 in
      let len = rest.3 in
      (f ∷ rest.0, rest.1, ap (λ (l : List PartFile). f ∷ l) same, omega (arith, len))

  get_at : (front behind : List PartFile) (f : PartFile) (n : ℕ) → length front ≡ n → slice_get (front ++ f ∷ behind) n ≡ Some f
  get_at [] behind f zero many = refl
  get_at [] behind f (suc n) many = absurd (omega (arith, many))
  get_at (g ∷ front) behind f zero many = absurd (omega (arith, many))
  get_at (g ∷ front) behind f (suc n) many = let few : length front ≡ n = omega (arith, many) in get_at front behind f n few

  -- the last one that waits is handed back under the name of its file
  pub given_next : (waiting rest : List X) (x : X) (f : PartFile) (old mid new : Stands D) → waiting ≡ rest ++ x ∷ [] → slice_get files (length rest) ≡ Some f → IsGivenTo told disk_of files all waiting old mid
      → (told → mid f.name ≡ lent → new f.name ≡ there (disk_of x)) → (told → (n : List ℕ) → n ≢ f.name → new n ≡ mid n)
      → IsGivenTo told disk_of files all rest old new
  given_next waiting rest x f old mid new is at it back others =
      let long : length waiting ≡ length rest + 1 = ap length is ∙ length-append rest (x ∷ []) in
      let m = it.many in
      let more : length it.front ≡ length rest + 1 = omega (arith, long, m) in
      let last = last_of it.front (length rest) more in
      let split : files ≡ last.0 ++ last.1 ∷ it.files_behind =
      it.files_are ∙ ap (λ (l : List PartFile). l ++ it.files_behind) last.2 ∙ append_assoc last.0 (last.1 ∷ []) it.files_behind in
      let here : Some last.1 ≡ Some f = sym (get_at last.0 it.files_behind last.1 (length rest) last.3) ∙ ap (λ (l : List PartFile). slice_get l (length rest)) (sym split) ∙ at in
      let same : last.1 ≡ f = cc in
      record {
        behind = x ∷ it.behind;
        files_behind = f ∷ it.files_behind;
        front = last.0;
        all_are = it.all_are ∙ ap (λ (l : List X). l ++ it.behind) is ∙ append_assoc rest (x ∷ []) it.behind;
        files_are = split ∙ ap (λ (g : PartFile). last.0 ++ g ∷ it.files_behind) same;
        many = sym last.3;
        given = given_more told (f ∷ []) it.files_behind old mid new (disk_of x ∷ []) (map disk_of it.behind) it.given (given_one told f mid new (disk_of x) back others);
      }

  pub given_all : (waiting : List X) (old new : Stands D) → waiting ≡ [] → IsGivenTo told disk_of files all waiting old new → AreHandedBack told files old new (map disk_of all)
  given_all waiting old new none it =
      let m = it.many in
      let zero_front : length it.front ≡ 0 = sym m ∙ ap length none in
      let front : it.front ≡ [] = no_items it.front zero_front in
      let files_same : it.files_behind ≡ files = sym (it.files_are ∙ ap (λ (l : List PartFile). l ++ it.files_behind) front) in
      let all_same : it.behind ≡ all = sym (it.all_are ∙ ap (λ (l : List X). l ++ it.behind) none) in
      subst (λ (l : List PartFile). AreHandedBack told l old new (map disk_of all)) files_same (subst (λ (l : List X). AreHandedBack told it.files_behind old new (map disk_of l)) all_same it.given)

  -- there is a file for the last one
  pub given_bound : (waiting rest : List X) (x : X) (old new : Stands D) → waiting ≡ rest ++ x ∷ [] → IsGivenTo told disk_of files all waiting old new → length rest < length files
  given_bound waiting rest x old new is it =
      let long : length waiting ≡ length rest + 1 = ap length is ∙ length-append rest (x ∷ []) in
      let m = it.many in
      let all_files : length files ≡ length it.front + length it.files_behind = ap length it.files_are ∙ length-append it.front it.files_behind in
      omega (arith, long, m, all_files)
