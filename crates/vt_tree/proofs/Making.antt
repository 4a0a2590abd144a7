-- Calls one after another.
use Rattle.std.proofs.Common.{◌≡◌, ℕ, List, [], ◌∷◌, ◌++◌, map, refl, sym, ◌∙◌, ap, subst}
use Rattle.std.specs.Prelude.{Ok, Err}
use Rattle.std.specs.List.{All, AllByRecursion}
use Rattle.std.proofs.lemmas.List.{map-append}
use Rattle.std.proofs.lemmas.List.Elements.{All-cons, All-nil, filter_map-append}
use Rattle.vt_model.specs.History.{Block}
use Rattle.vt_tree.specs.Calls.{Call, get, put, sync, write_of_block, asked_of, refusal_of, refusals_of, IsGet, TellsOfMap, after}
use Rattle.vt_tree.specs.Making.{Makes, TellsEach, after_all}
use Rattle.vt_tree.specs.MapLaws.{block_is_there, block_keeps, blocks_keep}
use Rattle.vt_tree.specs.Maps.{Maps, with_block, with_blocks, Has, IsWithin}

-- calls, and then others
pub makes_more : {S : Type 0} (does : S → Call → S → Type 0) (a b c : S) (xs ys : List Call)
    → Makes does a xs b → Makes does b ys c → Makes does a (xs ++ ys) c
makes_more does a b c [] ys first then = subst (λ s. Makes does s ys c) first then
makes_more does a b c (x ∷ xs) ys first then =
    (first.0, first.1, makes_more does first.0 b c xs ys first.2 then)

-- one call
pub makes_one : {S : Type 0} (does : S → Call → S → Type 0) (a b : S) (call : Call)
    → does a call b → Makes does a (call ∷ []) b
makes_one does a b call done = (b, done, refl)

pub refusals_join : (xs ys : List Call) → refusals_of (xs ++ ys) ≡ refusals_of xs ++ refusals_of ys
refusals_join xs ys = filter_map-append refusal_of xs ys

-- what calls answer is true of what is held, and what they leave is held
pub told : {S : Type 0} (does : S → Call → S → Type 0) (holds : S → Maps → Type 0)
    (score_of : List ℕ → List ℕ)
    (law : (s s' : S) (call : Call) (m : Maps) → does s call s' → holds s m
    → TellsOfMap score_of m.held call × holds s' (after score_of call m))
    (s s' : S) (calls : List Call) (m : Maps) → Makes does s calls s' → holds s m
    → TellsEach score_of m calls × holds s' (after_all score_of calls m)
told does holds score_of law s s' [] m made held = (tt, subst (λ t. holds t m) (sym made) held)
told does holds score_of law s s' (call ∷ calls) m made held =
    let now = law s made.0 call m made.1 held in
    let later = told does holds score_of law made.0 s' calls (after score_of call m) made.2 now.1 in
    ((now.0, later.0), later.1)

-- ---- what was held stays held

one_keeps : (score_of : List ℕ → List ℕ) (call : Call) (m : Maps)
    → IsWithin m.held (after score_of call m).held
one_keeps score_of (get kind s answer) m = λ t k bytes has. has
one_keeps score_of (put b (Ok score)) m = block_keeps score_of b m.held
one_keeps score_of (put b (Err err)) m = λ t k bytes has. has
one_keeps score_of (sync (Ok done)) m = λ t k bytes has. has
one_keeps score_of (sync (Err err)) m = λ t k bytes has. has

pub stays_held : (score_of : List ℕ → List ℕ) (calls : List Call) (m : Maps)
    → IsWithin m.held (after_all score_of calls m).held
stays_held score_of [] m s kind bytes has = has
stays_held score_of (call ∷ calls) m s kind bytes has =
    stays_held score_of calls (after score_of call m) s kind bytes
    (one_keeps score_of call m s kind bytes has)

-- ---- reading alone

-- where blocks are asked for alone, what is held stays, and each answer is true of it
pub gets_leave : (score_of : List ℕ → List ℕ) (calls : List Call) (m : Maps)
    → AllByRecursion IsGet calls → after_all score_of calls m ≡ m
gets_leave score_of [] m gets = refl
gets_leave score_of (get kind s answer ∷ calls) m gets = gets_leave score_of calls m gets.1
gets_leave score_of (put b answer ∷ calls) m gets = absurd gets.0
gets_leave score_of (sync answer ∷ calls) m gets = absurd gets.0

pub gets_tell : (score_of : List ℕ → List ℕ) (calls : List Call) (m : Maps)
    → AllByRecursion IsGet calls → TellsEach score_of m calls
    → AllByRecursion (TellsOfMap score_of m.held) calls
gets_tell score_of [] m gets tells = tt
gets_tell score_of (get kind s answer ∷ calls) m gets tells =
    (tells.0, gets_tell score_of calls m gets.1 tells.1)
gets_tell score_of (put b answer ∷ calls) m gets tells = absurd gets.0
gets_tell score_of (sync answer ∷ calls) m gets tells = absurd gets.0

-- ---- writing alone

-- where none was refused, what is held after blocks were put has these
pub puts_leave : (score_of : List ℕ → List ℕ) (calls : List Call) (blocks : List Block) (m : Maps)
    → map asked_of calls ≡ map write_of_block blocks
    → refusals_of calls ≡ []
    → after_all score_of calls m ≡ record m { held = with_blocks score_of blocks m.held }
puts_leave score_of [] [] m asked accepted = refl
puts_leave score_of [] (b ∷ blocks) m asked accepted = cc
puts_leave score_of (get kind s answer ∷ calls) [] m asked accepted = cc
puts_leave score_of (get kind s answer ∷ calls) (b ∷ blocks) m asked accepted = cc
puts_leave score_of (sync answer ∷ calls) [] m asked accepted = cc
puts_leave score_of (sync answer ∷ calls) (b ∷ blocks) m asked accepted = cc
puts_leave score_of (put a (Ok score) ∷ calls) [] m asked accepted = cc
puts_leave score_of (put a (Ok score) ∷ calls) (b ∷ blocks) m asked accepted =
    let kinds : a.kind ≡ b.kind = cc in
    let bytes : a.bytes ≡ b.bytes = cc in
    let others : map asked_of calls ≡ map write_of_block blocks = cc in
    let same : ◌≡◌ {A = Block} a b = λ i. record { kind = kinds i; bytes = bytes i } in
    puts_leave score_of calls blocks (record m { held = with_block score_of a m.held }) others
    accepted
    ∙ ap (λ (x : Block). record m {
      held = with_blocks score_of blocks (with_block score_of x m.held);
    }) same
puts_leave score_of (put a (Err err) ∷ calls) blocks m asked accepted = cc

-- and each of them is there
pub puts_are_there : (score_of : List ℕ → List ℕ) (calls : List Call) (blocks : List Block)
    (m : Maps) → map asked_of calls ≡ map write_of_block blocks → refusals_of calls ≡ []
    → TellsEach score_of m calls
    → All (Has score_of (with_blocks score_of blocks m.held)) blocks
puts_are_there score_of [] [] m asked accepted tells =
    All-nil (Has score_of (with_blocks score_of [] m.held))
puts_are_there score_of [] (b ∷ blocks) m asked accepted tells = let never : ⊥ = cc in absurd never
puts_are_there score_of (get kind s answer ∷ calls) [] m asked accepted tells =
    let never : ⊥ = cc in absurd never
puts_are_there score_of (get kind s answer ∷ calls) (b ∷ blocks) m asked accepted tells =
    let never : ⊥ = cc in absurd never
puts_are_there score_of (sync answer ∷ calls) [] m asked accepted tells =
    let never : ⊥ = cc in absurd never
puts_are_there score_of (sync answer ∷ calls) (b ∷ blocks) m asked accepted tells =
    let never : ⊥ = cc in absurd never
puts_are_there score_of (put a (Ok score) ∷ calls) [] m asked accepted tells =
    let never : ⊥ = cc in absurd never
puts_are_there score_of (put a (Ok score) ∷ calls) (b ∷ blocks) m asked accepted tells =
    let kinds : a.kind ≡ b.kind = cc in
    let bytes : a.bytes ≡ b.bytes = cc in
    let others : map asked_of calls ≡ map write_of_block blocks = cc in
    let same : ◌≡◌ {A = Block} a b = λ i. record { kind = kinds i; bytes = bytes i } in
    let first : Has score_of (with_block score_of a m.held) a =
    block_is_there score_of a m.held tells.0 in
    let map_after = with_blocks score_of blocks (with_block score_of a m.held) in
    subst (λ (x : Block).
    All (Has score_of (with_blocks score_of blocks (with_block score_of x m.held))) (x ∷ blocks))
    same
    (All-cons (Has score_of map_after) a blocks
    (blocks_keep score_of blocks (with_block score_of a m.held) (score_of a.bytes) a.kind a.bytes
    first)
    (puts_are_there score_of calls blocks (record m { held = with_block score_of a m.held }) others
    accepted tells.1))
puts_are_there score_of (put a (Err err) ∷ calls) blocks m asked accepted tells =
    let never : ⊥ = cc in absurd never
