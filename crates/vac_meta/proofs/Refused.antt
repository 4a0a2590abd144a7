-- What is refused is no metadata, and is refused for one reason.
use Rattle.std.proofs.Common.{◌≡◌, ◌≢◌, ℕ, ◌-◌, ◌<◌, true, Option, Some, None, List, [], ◌∷◌, ◌++◌, length, refl, sym, ◌∙◌, ap, subst, arith, append_assoc, append-nil, length-append}
use Rattle.std.proofs.lemmas.List.{nil_from_length}
use Rattle.std.specs.List.{AllByRecursion}
use Rattle.vac_meta.specs.declared.error.MetaErr.{MetaErr}
use Rattle.vac_meta.specs.declared.record.Record.{Record}
use Rattle.vac_meta.specs.Flaws.{first_flaw, IsRefusedMetadata}
use Rattle.vac_meta.specs.Records.{IsRecord, SpellsMetadata, Ascend, all_spelled, is_next, last_name, record_bytes}
use Rattle.vac_meta.proofs.Spelled.{clean, same_record, same_records, each-append, ascend-append, spelled-append}

none_is_some : {P : Type 0} {A : Type 0} (a : A) → None ≡ Some a → P
none_is_some a e = cc

some_is_some : {A : Type 0} (a b : A) → Some a ≡ Some b → a ≡ b
some_is_some a b e = cc

-- a record in front has no flaw
no_flaw : (last : Option (List ℕ)) (at : ℕ) (r : Record) (x rest : List ℕ) (why : MetaErr)
    → IsRecord r → is_next last r.name ≡ true → rest ≡ record_bytes r ++ x
    → first_flaw last at rest ≡ Some why → ⊥
no_flaw last at r x rest why is next e flaw =
    none_is_some why (sym (clean last at r x is next) ∙ ap (first_flaw last at) (sym e) ∙ flaw)

-- behind good records in front of metadata nothing is flawed
none_behind : (last : Option (List ℕ)) (at : ℕ) (good records : List Record) (rest : List ℕ)
    (why : MetaErr) → AllByRecursion IsRecord good → AllByRecursion IsRecord records
    → Ascend last records → all_spelled records ≡ all_spelled good ++ rest → rest ≢ []
    → first_flaw (last_name last good) at rest ≡ Some why → ⊥
none_behind last at [] [] rest why g r up e some flaw = some (sym e)
none_behind last at [] (r ∷ records) rest why g is up e some flaw =
    no_flaw last at r (all_spelled records) rest why is.0 up.0 (sym e) flaw
none_behind last at (f ∷ good) [] rest why g is up e some flaw = absurd (omega (arith, ap length e))
none_behind last at (f ∷ good) (r ∷ records) rest why g is up e some flaw =
    let one = same_record r f (all_spelled records) (all_spelled good ++ rest) is.0 g.0
    (e ∙ append_assoc (record_bytes f) (all_spelled good) rest) in
    let same : Some r.name ≡ Some f.name = λ i. Some (one.0 i).name in
    none_behind (Some f.name) at good records rest why g.1 is.1
    (subst (λ (l : Option (List ℕ)). Ascend l records) same up.1) one.1 some flaw

pub not_refused : (records : List Record) (bytes : List ℕ) (why : MetaErr)
    → SpellsMetadata records bytes → IsRefusedMetadata bytes why → ⊥
not_refused records bytes why x y =
    none_behind None (length (all_spelled y.good)) y.good records y.rest why y.allowed.each
    x.allowed.each x.allowed.ascending (sym x.is ∙ y.is) y.some y.flaw

-- the good records in front of a flaw are determined
same_good : (last : Option (List ℕ)) (p q : ℕ) (g h : List Record) (x y : List ℕ)
    (a b : MetaErr) → AllByRecursion IsRecord g → AllByRecursion IsRecord h → Ascend last g
    → Ascend last h → all_spelled g ++ x ≡ all_spelled h ++ y
    → first_flaw (last_name last g) p x ≡ Some a → first_flaw (last_name last h) q y ≡ Some b
    → (g ≡ h) × (x ≡ y)
same_good last p q [] [] x y a b v w up on e flaw other = (refl, e)
same_good last p q [] (r ∷ h) x y a b v w up on e flaw other =
    absurd (no_flaw last p r (all_spelled h ++ y) x a w.0 on.0
    (e ∙ append_assoc (record_bytes r) (all_spelled h) y) flaw)
same_good last p q (f ∷ g) [] x y a b v w up on e flaw other =
    absurd (no_flaw last q f (all_spelled g ++ x) y b v.0 up.0
    (sym e ∙ append_assoc (record_bytes f) (all_spelled g) x) other)
same_good last p q (f ∷ g) (r ∷ h) x y a b v w up on e flaw other =
    let one = same_record f r (all_spelled g ++ x) (all_spelled h ++ y) v.0 w.0
    (sym (append_assoc (record_bytes f) (all_spelled g) x) ∙ e
    ∙ append_assoc (record_bytes r) (all_spelled h) y) in
    let name : Some r.name ≡ Some f.name = λ i. Some (sym one.0 i).name in
    let others = same_good (Some f.name) p q g h x y a b v.1 w.1 up.1
    (subst (λ (l : Option (List ℕ)). Ascend l h) name on.1) one.1 flaw
    (subst (λ (l : Option (List ℕ)). first_flaw (last_name l h) q y ≡ Some b) name other) in
    (λ i. one.0 i ∷ others.0 i, others.1)

pub one_reason : (bytes : List ℕ) (a b : MetaErr) → IsRefusedMetadata bytes a → IsRefusedMetadata bytes b → a ≡ b
one_reason bytes a b x y =
    let same = same_good None (length (all_spelled x.good)) (length (all_spelled y.good)) x.good
    y.good x.rest y.rest a b x.allowed.each y.allowed.each x.allowed.ascending y.allowed.ascending
    (sym x.is ∙ y.is) x.flaw y.flaw in
    some_is_some a b (sym x.flaw
    ∙ (λ i. first_flaw (last_name None (same.0 i)) (length (all_spelled (same.0 i))) (same.1 i))
    ∙ y.flaw)

pub one_list : (a b : List Record) (bytes : List ℕ) → SpellsMetadata a bytes → SpellsMetadata b bytes → a ≡ b
one_list a b bytes x y = same_records a b x.allowed.each y.allowed.each (sym x.is ∙ y.is)

-- ---- as far as the bytes are read

-- nothing is left
pub read_whole : (bytes rest : List ℕ) (records : List Record)
    → AllByRecursion IsRecord records → Ascend None records → bytes ≡ all_spelled records ++ rest
    → length rest ≡ 0 → SpellsMetadata records bytes
read_whole bytes rest records each up read none = record {
  allowed = record { each = each; ascending = up };
  is = read ∙ ap (λ (l : List ℕ). all_spelled records ++ l) (nil_from_length rest none)
      ∙ append-nil (all_spelled records);
}

-- what is left has a flaw
pub refused_here : (bytes rest : List ℕ) (records : List Record) (last : Option (List ℕ))
    (why : MetaErr) → AllByRecursion IsRecord records → Ascend None records
    → last ≡ last_name None records → bytes ≡ all_spelled records ++ rest → 0 < length rest
    → first_flaw last (length bytes - length rest) rest ≡ Some why → IsRefusedMetadata bytes why
refused_here bytes rest records last why each up is read some flaw =
    let place : length bytes - length rest ≡ length (all_spelled records) =
    omega (arith, ap length read, length-append (all_spelled records) rest) in
    record {
      good = records;
      rest = rest;
      allowed = record { each = each; ascending = up };
      is = read;
      some = λ e. omega (arith, ap length e, some);
      flaw = (λ i. first_flaw (sym is i) (sym place i) rest) ∙ flaw;
    }

-- one record more
pub one_more : (records : List Record) (r : Record) (old new : List ℕ) → SpellsMetadata records old
    → IsRecord r → is_next (last_name None records) r.name ≡ true → new ≡ old ++ record_bytes r
    → SpellsMetadata (records ++ r ∷ []) new
one_more records r old new spells is next written = record {
  allowed = record {
    each = each-append records r spells.allowed.each is;
    ascending = ascend-append None records r spells.allowed.ascending next;
  };
  is = written ∙ ap (λ (l : List ℕ). l ++ record_bytes r) spells.is
      ∙ sym (spelled-append records r);
}
