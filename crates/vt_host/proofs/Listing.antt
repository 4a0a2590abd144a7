-- The names in a folder, one after the other.
use Rattle.std.proofs.Common.{◌≡◌, ⊎_elim, ℕ, ◌<◌, false, List, [], ◌∷◌, ◌++◌, length, refl, sym, ◌∙◌, ap, subst, arith, append_assoc}
use Rattle.std.proofs.lemmas.Bool.{cases_Bool}
use Rattle.std.proofs.lemmas.Str.{IsUtf8-from_is_utf8, is_utf8-from_IsUtf8}
use Rattle.std.specs.Prelude.{Option, Some, None, IsUtf8}
use Rattle.std.specs.List.{after_first, before_first, cons_option}
use Rattle.std.specs.Str.{is_utf8}
use Rattle.vt_out.specs.declared.folder_item.Item.{Item}
use Rattle.vt_host.specs.Cutting.{is_byte}
use Rattle.vt_host.specs.Listing.{is_dots, item_of, items_of, names_listed, seen_item, unknown_item}
use Rattle.vt_host.specs.Paths.{path_below}
use Rattle.vt_host.specs.declared.owners.Owner.{Owner}
use Rattle.vt_host.specs.declared.paths.Look.{Look}
use Rattle.vt_host.proofs.Cutting.{pieces_first}

-- and each other one is listed
pub next_name : (rest : List ℕ) → 0 < length rest
    → is_dots (before_first (is_byte 0) rest) ≡ false
    → names_listed rest
    ≡ before_first (is_byte 0) rest ∷ names_listed (after_first (is_byte 0) rest)
next_name [] some dots = absurd (omega (arith, some))
next_name (b ∷ rest) some dots = rw (pieces_first (is_byte 0) b rest, dots) refl

module _ (look_at : List ℕ → Option Look) (users groups : List Owner) (folder : List ℕ)
    (items : List Item) (rest : List ℕ) (some : 0 < length rest) where
  -- what is told of the first name, and the items of those behind it
  first_and_others : is_dots (before_first (is_byte 0) rest) ≡ false → (told : Option Item)
      → told ≡ item_of look_at users groups folder (before_first (is_byte 0) rest)
      → items ++ cons_option told
      (items_of look_at users groups folder (names_listed (after_first (is_byte 0) rest)))
      ≡ items ++ items_of look_at users groups folder (names_listed rest)
  first_and_others dots told is =
      ap (λ (first : Option Item). items ++ cons_option first
      (items_of look_at users groups folder (names_listed (after_first (is_byte 0) rest)))) is
      ∙ ap (λ (names : List (List ℕ)). items ++ items_of look_at users groups folder names)
      (sym (next_name rest some dots))

  module _ (name behind : List ℕ) (its_users its_groups : List Owner)
      (first : name ≡ before_first (is_byte 0) rest) (others : behind ≡ after_first (is_byte 0) rest)
      (dots : is_dots name ≡ false) (same_users : its_users ≡ users)
      (same_groups : its_groups ≡ groups) (all : List Item)
      (so_far : items ++ items_of look_at users groups folder (names_listed rest) ≡ all) where
    -- the same of what was told by as many users and groups
    told_first : (told : Option Item) → told ≡ item_of look_at its_users its_groups folder name
        → items ++ cons_option told (items_of look_at users groups folder (names_listed behind))
        ≡ all
    told_first told is =
        let no_dots : is_dots (before_first (is_byte 0) rest) ≡ false
        = subst (λ (n : List ℕ). is_dots n ≡ false) first dots in
        let here : told ≡ item_of look_at users groups folder (before_first (is_byte 0) rest) = is
        ∙ ap (λ (u : List Owner). item_of look_at u its_groups folder name) same_users
        ∙ ap (λ (u : List Owner). item_of look_at users u folder name) same_groups
        ∙ ap (λ (n : List ℕ). item_of look_at users groups folder n) first in
        ap (λ (l : List ℕ). items ++ cons_option told
        (items_of look_at users groups folder (names_listed l))) others
        ∙ first_and_others no_dots told here ∙ so_far

    -- an item, behind those so far
    pub items_pushed : (pushed : List Item) (item : Item)
        → Some item ≡ item_of look_at its_users its_groups folder name
        → pushed ≡ items ++ item ∷ []
        → pushed ++ items_of look_at users groups folder (names_listed behind) ≡ all
    items_pushed pushed item is pushes =
        ap (λ (l : List Item). l ++ items_of look_at users groups folder (names_listed behind)) pushes
        ∙ append_assoc items (item ∷ []) (items_of look_at users groups folder (names_listed behind))
        ∙ told_first (Some item) is

    -- a name at whose path nothing stands any more
    pub name_passed : None ≡ item_of look_at its_users its_groups folder name
        → items ++ items_of look_at users groups folder (names_listed behind) ≡ all
    name_passed is = told_first None is

not_utf8 : (name : List ℕ) → ¬ IsUtf8 name → is_utf8 name ≡ false
not_utf8 name none = ⊎_elim (λ yes. absurd (none (IsUtf8-from_is_utf8 name yes))) (λ misses. misses)
    (cases_Bool (is_utf8 name))

module _ (look_at : List ℕ → Option Look) (users groups : List Owner) (folder name : List ℕ) where
  -- a name that isn't UTF-8
  pub item_unknown : ¬ IsUtf8 name → item_of look_at users groups folder name ≡ Some (unknown_item name)
  item_unknown none = rw (not_utf8 name none) refl

  -- a name at whose path the system says this
  pub item_found : (look : Look) → IsUtf8 name → look_at (path_below folder name) ≡ Some look
      → item_of look_at users groups folder name ≡ Some (seen_item users groups name look)
  item_found look is found = rw (is_utf8-from_IsUtf8 name is, found) refl

  -- a name at whose path nothing stands any more
  pub item_absent : IsUtf8 name → look_at (path_below folder name) ≡ None
      → item_of look_at users groups folder name ≡ None
  item_absent is absent = rw (is_utf8-from_IsUtf8 name is, absent) refl
