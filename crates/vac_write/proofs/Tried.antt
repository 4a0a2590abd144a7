-- Folders that were tried, items behind items.
use Rattle.std.proofs.Common.{◌≡◌, ℕ, ◌+◌, false, Option, Some, None, List, [], ◌∷◌, ◌++◌, length, refl, sym, ◌∙◌, ap, subst, arith, append_assoc, append-nil, length-append, inl, inr, nat_cmp, is_lt}
use Rattle.std.specs.Prelude.{⊤}
use Rattle.std.specs.List.{All, AllByRecursion}
use Rattle.std.specs.Cmp.Lexicographic.{slice_cmp}
use Rattle.std.proofs.lemmas.Bool.{cases_Bool}
use Rattle.std.proofs.lemmas.List.Elements.{All-from_recursion, recursion_from_All}
use Rattle.vt_out.specs.declared.folder_item.Facts.{Facts}
use Rattle.vt_out.specs.FolderItems.{FailingPaths, Items, none, file, folder, other}
use Rattle.vt_model.specs.History.{Block}
use Rattle.vt_tree.proofs.Appending.{all_first, all_join, all_then}
use Rattle.vac_model.specs.Kept.{in_order, path_to, placed}
use Rattle.vac_model.proofs.InOrder.{NotBefore, AreOrdered, are_ordered}
use Rattle.vac_write.specs.Tried.{Tried, no_more, read, listed, passed, unread, unlisted, whole, found, failed_at, failures, LacksOnly, begun_in, AreBegun, AreWoven}
use Rattle.vac_write.proofs.Followed.{followed}
use Rattle.vac_write.proofs.Listed.{names_order}

-- ---- items, and others behind them

abbrev pub joined : Tried → Tried → Tried
joined no_more b = b
joined (read about bytes others) b = read about bytes (joined others b)
joined (listed about inside others) b = listed about inside (joined others b)
joined (passed about others) b = passed about (joined others b)
joined (unread about bytes begun others) b = unread about bytes begun (joined others b)
joined (unlisted about inside others) b = unlisted about inside (joined others b)

pub whole_joined : (a b : Tried) → whole (joined a b) ≡ followed (whole a) (whole b)
whole_joined no_more b = refl
whole_joined (read about bytes others) b = ap (file about bytes) (whole_joined others b)
whole_joined (listed about inside others) b = ap (folder about (whole inside)) (whole_joined others b)
whole_joined (passed about others) b = ap (other about) (whole_joined others b)
whole_joined (unread about bytes begun others) b = ap (file about bytes) (whole_joined others b)
whole_joined (unlisted about inside others) b = ap (folder about inside) (whole_joined others b)

pub found_joined : (a b : Tried) → found (joined a b) ≡ followed (found a) (found b)
found_joined no_more b = refl
found_joined (read about bytes others) b = ap (file about bytes) (found_joined others b)
found_joined (listed about inside others) b = ap (folder about (found inside)) (found_joined others b)
found_joined (passed about others) b = ap (other about) (found_joined others b)
found_joined (unread about bytes begun others) b = found_joined others b
found_joined (unlisted about inside others) b = found_joined others b

pub failed_joined : (path : List ℕ) (a b : Tried)
    → failed_at path (joined a b) ≡ failed_at path a ++ failed_at path b
failed_joined path no_more b = refl
failed_joined path (read about bytes others) b = failed_joined path others b
failed_joined path (listed about inside others) b =
    ap (λ (l : List (List ℕ)). failed_at (path_to path about.name) inside ++ l)
    (failed_joined path others b)
    ∙ sym (append_assoc (failed_at (path_to path about.name) inside) (failed_at path others)
    (failed_at path b))
failed_joined path (passed about others) b = failed_joined path others b
failed_joined path (unread about bytes begun others) b =
    ap (λ (l : List (List ℕ)). path_to path about.name ∷ l) (failed_joined path others b)
failed_joined path (unlisted about inside others) b =
    ap (λ (l : List (List ℕ)). path_to path about.name ∷ l) (failed_joined path others b)

pub failures_joined : (a b : Tried) → failures (joined a b) ≡ failures a + failures b
failures_joined no_more b = omega arith
failures_joined (read about bytes others) b = failures_joined others b
failures_joined (listed about inside others) b = omega (arith, failures_joined others b)
failures_joined (passed about others) b = failures_joined others b
failures_joined (unread about bytes begun others) b = omega (arith, failures_joined others b)
failures_joined (unlisted about inside others) b = omega (arith, failures_joined others b)

pub begun_joined : (a b : Tried) → begun_in (joined a b) ≡ begun_in a ++ begun_in b
begun_joined no_more b = refl
begun_joined (read about bytes others) b = begun_joined others b
begun_joined (listed about inside others) b =
    ap (λ (l : List (List Block)). begun_in inside ++ l) (begun_joined others b)
    ∙ sym (append_assoc (begun_in inside) (begun_in others) (begun_in b))
begun_joined (passed about others) b = begun_joined others b
begun_joined (unread about bytes begun others) b =
    ap (λ (l : List (List Block)). begun ∷ l) (begun_joined others b)
begun_joined (unlisted about inside others) b = begun_joined others b

pub are_begun_joined : (score_of : List ℕ → List ℕ) (bsize : ℕ) (a b : Tried)
    → AreBegun score_of bsize a → AreBegun score_of bsize b → AreBegun score_of bsize (joined a b)
are_begun_joined score_of bsize no_more b first then = then
are_begun_joined score_of bsize (read about bytes others) b first then =
    are_begun_joined score_of bsize others b first then
are_begun_joined score_of bsize (listed about inside others) b first then =
    (first.0, are_begun_joined score_of bsize others b first.1 then)
are_begun_joined score_of bsize (passed about others) b first then =
    are_begun_joined score_of bsize others b first then
are_begun_joined score_of bsize (unread about bytes begun others) b first then =
    (first.0, are_begun_joined score_of bsize others b first.1 then)
are_begun_joined score_of bsize (unlisted about inside others) b first then =
    are_begun_joined score_of bsize others b first then

-- as many are told as there are
pub many_failed : (path : List ℕ) (tried : Tried) → length (failed_at path tried) ≡ failures tried
many_failed path no_more = refl
many_failed path (read about bytes others) = many_failed path others
many_failed path (listed about inside others) =
    length-append (failed_at (path_to path about.name) inside) (failed_at path others)
    ∙ (λ i. many_failed (path_to path about.name) inside i + many_failed path others i)
many_failed path (passed about others) = many_failed path others
many_failed path (unread about bytes begun others) = omega (arith, many_failed path others)
many_failed path (unlisted about inside others) = omega (arith, many_failed path others)

pub lacks_joined : (failing : FailingPaths) (path : List (List ℕ)) (a b : Tried)
    → LacksOnly failing path a → LacksOnly failing path b → LacksOnly failing path (joined a b)
lacks_joined failing path no_more b first then = then
lacks_joined failing path (read about bytes others) b first then =
    lacks_joined failing path others b first then
lacks_joined failing path (listed about inside others) b first then =
    (first.0, lacks_joined failing path others b first.1 then)
lacks_joined failing path (passed about others) b first then =
    lacks_joined failing path others b first then
lacks_joined failing path (unread about bytes begun others) b first then =
    (first.0, lacks_joined failing path others b first.1 then)
lacks_joined failing path (unlisted about inside others) b first then =
    (first.0, lacks_joined failing path others b first.1 then)

-- ---- items of which no call has failed

abbrev pub as_read : Items Facts → Tried
as_read none = no_more
as_read (file about bytes others) = read about bytes (as_read others)
as_read (folder about inside others) = listed about (as_read inside) (as_read others)
as_read (other about others) = passed about (as_read others)

pub whole_read : (items : Items Facts) → whole (as_read items) ≡ items
whole_read none = refl
whole_read (file about bytes others) = ap (file about bytes) (whole_read others)
whole_read (folder about inside others) =
    (λ i. folder about (whole_read inside i) (whole_read others i))
whole_read (other about others) = ap (other about) (whole_read others)

pub found_read : (items : Items Facts) → found (as_read items) ≡ items
found_read none = refl
found_read (file about bytes others) = ap (file about bytes) (found_read others)
found_read (folder about inside others) =
    (λ i. folder about (found_read inside i) (found_read others i))
found_read (other about others) = ap (other about) (found_read others)

pub begun_read : (items : Items Facts) → begun_in (as_read items) ≡ []
begun_read none = refl
begun_read (file about bytes others) = begun_read others
begun_read (folder about inside others) = (λ i. begun_read inside i ++ begun_read others i)
begun_read (other about others) = begun_read others

pub are_begun_read : (score_of : List ℕ → List ℕ) (bsize : ℕ) (items : Items Facts)
    → AreBegun score_of bsize (as_read items)
are_begun_read score_of bsize none = tt
are_begun_read score_of bsize (file about bytes others) = are_begun_read score_of bsize others
are_begun_read score_of bsize (folder about inside others) =
    (are_begun_read score_of bsize inside, are_begun_read score_of bsize others)
are_begun_read score_of bsize (other about others) = are_begun_read score_of bsize others

pub failures_read : (items : Items Facts) → failures (as_read items) ≡ 0
failures_read none = refl
failures_read (file about bytes others) = failures_read others
failures_read (folder about inside others) =
    omega (arith, failures_read inside, failures_read others)
failures_read (other about others) = failures_read others

pub lacks_read : (failing : FailingPaths) (path : List (List ℕ)) (items : Items Facts)
    → LacksOnly failing path (as_read items)
lacks_read failing path none = tt
lacks_read failing path (file about bytes others) = lacks_read failing path others
lacks_read failing path (folder about inside others) =
    (lacks_read failing (path ++ about.name ∷ []) inside, lacks_read failing path others)
lacks_read failing path (other about others) = lacks_read failing path others

-- ---- runs of blocks among others

woven_behind : (a : List Block) (runs : List (List Block)) (b all : List Block)
    → AreWoven runs b all → AreWoven runs (a ++ b) (a ++ all)
woven_behind a [] b all w = ap (λ (l : List Block). a ++ l) w
woven_behind a (run ∷ runs) b all w = (
  a ++ w.0,
  w.1,
  w.2,
  ap (λ (l : List Block). a ++ l) w.3 ∙ sym (append_assoc a w.0 w.1),
  ap (λ (l : List Block). a ++ l) w.4 ∙ sym (append_assoc a w.0 (run ++ w.2)),
  w.5,
)

pub woven_join : (rs ss : List (List Block)) (a x b y : List Block) → AreWoven rs a x
    → AreWoven ss b y → AreWoven (rs ++ ss) (a ++ b) (x ++ y)
woven_join [] ss a x b y first then =
    subst (λ (l : List Block). AreWoven ss (a ++ b) (l ++ y)) (sym first)
    (woven_behind a ss b y then)
woven_join (run ∷ rs) ss a x b y first then = (
  first.0,
  first.1 ++ b,
  first.2 ++ y,
  ap (λ (l : List Block). l ++ b) first.3 ∙ append_assoc first.0 first.1 b,
  ap (λ (l : List Block). l ++ y) first.4
      ∙ append_assoc first.0 (run ++ first.2) y
      ∙ ap (λ (l : List Block). first.0 ++ l) (append_assoc run first.2 y),
  woven_join rs ss first.1 first.2 b y first.5 then,
)

-- one run, and no other blocks
pub woven_alone : (run : List Block) → AreWoven (run ∷ []) [] run
woven_alone run = ([], [], [], refl, sym (append-nil run), refl)

-- what holds of all holds of the others among them
woven_all : (P : Block → Type 0) (runs : List (List Block)) (blocks all : List Block)
    → AreWoven runs blocks all → AllByRecursion P all → AllByRecursion P blocks
woven_all P [] blocks all w them = subst (AllByRecursion P) w them
woven_all P (run ∷ runs) blocks all w them =
    let parts = subst (AllByRecursion P) w.4 them in
    let behind = woven_all P runs w.1 w.2 w.5
    (all_then P run w.2 (all_then P w.0 (run ++ w.2) parts)) in
    subst (AllByRecursion P) (sym w.3)
    (all_join P w.0 w.1 (all_first P w.0 (run ++ w.2) parts) behind)

pub woven_hold : (P : Block → Type 0) (runs : List (List Block)) (blocks all : List Block)
    → AreWoven runs blocks all → All P all → All P blocks
woven_hold P runs blocks all w them =
    All-from_recursion P blocks (woven_all P runs blocks all w (recursion_from_All P all them))

-- ---- their order

-- the name may stand behind both
abbrev Lower : (a b : Option (List ℕ)) → Type 0
Lower None b = ⊤
Lower (Some a) None = ⊥
Lower (Some a) (Some b) = is_lt (slice_cmp nat_cmp b a) ≡ false

not_before : (a b : Option (List ℕ)) (name : List ℕ) → Lower a b → NotBefore b name
    → NotBefore a name
not_before None b name low order = tt
not_before (Some a) None name low order = absurd low
not_before (Some a) (Some b) name low order = names_order.chain name b a order low

lower_more : (a b : Option (List ℕ)) (name : List ℕ) → Lower a b → NotBefore b name
    → Lower a (Some name)
lower_more None b name low order = tt
lower_more (Some a) None name low order = absurd low
lower_more (Some a) (Some b) name low order = names_order.chain name b a order low

itself : (name : List ℕ) → is_lt (slice_cmp nat_cmp name name) ≡ false
itself name = elim (cases_Bool (is_lt (slice_cmp nat_cmp name name))) [
  | inl less ↦ names_order.one_way name name less
  | inr not ↦ not
]

-- what was found is in the order of what stands there
found_ordered : (a b : Option (List ℕ)) (tried : Tried) → Lower a b → AreOrdered b (whole tried)
    → AreOrdered a (found tried)
found_ordered a b no_more low order = tt
found_ordered a b (read about bytes others) low order = (
  not_before a b about.name low order.0,
  found_ordered (Some about.name) (Some about.name) others (itself about.name) order.1,
)
found_ordered a b (listed about inside others) low order = (
  not_before a b about.name low order.0,
  found_ordered None None inside tt order.1,
  found_ordered (Some about.name) (Some about.name) others (itself about.name) order.2,
)
found_ordered a b (passed about others) low order = (
  not_before a b about.name low order.0,
  found_ordered (Some about.name) (Some about.name) others (itself about.name) order.1,
)
found_ordered a b (unread about bytes begun others) low order =
    found_ordered a (Some about.name) others (lower_more a b about.name low order.0) order.1
found_ordered a b (unlisted about inside others) low order =
    found_ordered a (Some about.name) others (lower_more a b about.name low order.0) order.2

-- what is in order stays so
put_first : (name : List ℕ) (put : Items Facts → Items Facts) (items : Items Facts)
    → AreOrdered (Some name) items → placed name put items ≡ put items
put_first name put none order = refl
put_first name put (file about bytes others) order =
    let behind : is_lt (slice_cmp nat_cmp about.name name) ≡ false = order.0 in rw behind refl
put_first name put (folder about inside others) order =
    let behind : is_lt (slice_cmp nat_cmp about.name name) ≡ false = order.0 in rw behind refl
put_first name put (other about others) order =
    let behind : is_lt (slice_cmp nat_cmp about.name name) ≡ false = order.0 in rw behind refl

pub order_again : (last : Option (List ℕ)) (items : Items Facts) → AreOrdered last items
    → in_order items ≡ items
order_again last none order = refl
order_again last (file about bytes others) order =
    ap (placed about.name (file about bytes)) (order_again (Some about.name) others order.1)
    ∙ put_first about.name (file about bytes) others order.1
order_again last (folder about inside others) order =
    (λ i. placed about.name (folder about (order_again None inside order.1 i))
    (order_again (Some about.name) others order.2 i))
    ∙ put_first about.name (folder about inside) others order.2
order_again last (other about others) order =
    ap (placed about.name (other about)) (order_again (Some about.name) others order.1)
    ∙ put_first about.name (other about) others order.1

pub found_in_order : (tried : Tried) (seen : Items Facts) → whole tried ≡ in_order seen
    → in_order (found tried) ≡ found tried
found_in_order tried seen is =
    order_again None (found tried)
    (found_ordered None None tried tt (subst (AreOrdered None) (sym is) (are_ordered seen)))
