-- Names in a list of partitions.
use Rattle.std.proofs.Common.{◌≡◌, ℕ, ◌<◌, List, [], length, get_or, sym, ◌∙◌, ap, arith}
use Rattle.std.proofs.lemmas.List.{get_or-map, length-map}
use Rattle.vt_part.specs.declared.part.Part.{Part}
use Rattle.vt_part.specs.Layout.{name_at, AreNamesakes}
use Rattle.vt_part.specs.Parts.{table_of, names_of}

module _ {D : Type 0} (parts : List (Part D)) where
  -- the name at a place is that of the partition there
  name_there : (i : ℕ) (part : Part D) → i < length parts → part ≡ get_or parts i part
      → name_at (names_of parts) i ≡ (table_of part).name
  name_there i part within is =
      get_or-map (λ it. (table_of it).name) parts i part [] within
      ∙ ap (λ it. (table_of it).name) (sym is)

  -- so two partitions are namesakes exactly where they have one name
  module _ (i j : ℕ) (first second : Part D) (order : i < j) (within : j < length parts)
      (first_is : first ≡ get_or parts i first) (second_is : second ≡ get_or parts j second) where
    pub namesakes : (table_of first).name ≡ (table_of second).name
        → AreNamesakes (names_of parts) i j
    namesakes same = record {
      order = order;
      within = omega (arith, length-map parts (λ it. (table_of it).name));
      same = name_there i first (omega arith) first_is ∙ same
          ∙ sym (name_there j second within second_is);
    }

    pub one_name : AreNamesakes (names_of parts) i j
        → (table_of first).name ≡ (table_of second).name
    one_name are = sym (name_there i first (omega arith) first_is) ∙ are.same
        ∙ name_there j second within second_is
