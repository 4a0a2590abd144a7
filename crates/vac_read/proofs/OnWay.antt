-- A reading by what is kept of the way of the last one, as the calls of the store that were made for it.
use Rattle.std.proofs.Common.{◌≡◌, ◌⊎◌, ℕ, inl, inr, Bool, true, false, cond, Option, Some, None, Result, Ok, Err, List, [], ◌∷◌, ◌++◌, map, refl, sym, ◌∙◌, ap, subst, append-nil}
use Rattle.std.specs.Prelude.{is_some}
use Rattle.std.specs.List.{AllByRecursion}
use Rattle.vt_base.specs.Protocol.{Operation}
use Rattle.vt_tree.specs.declared.entry.Entry.{Entry}
use Rattle.vt_tree.specs.declared.error.BlockErr.{BlockErr}
use Rattle.vt_tree.specs.declared.error.BlockErr.TheVariants as block_errs
use Rattle.vt_tree.specs.declared.error.TreeErr.{TreeErr}
use Rattle.vt_tree.specs.declared.error.TreeErr.TheVariants as errs
use Rattle.vac_read.specs.declared.last_way.OnWay.{OnWay}
use Rattle.vac_read.specs.declared.last_way.WayBlock.{WayBlock}
use Rattle.vt_tree.specs.Calls.{Call, get, put, sync, asked_of, refusal_of, refusals_of, IsGet, TellsOfMap, after}
use Rattle.vt_tree.specs.Content.{byte_of}
use Rattle.vac_read.specs.LastWay.{ArePart, DoesOnWay, IsKeptCall, IsRightWay, IsShortCall, ReadsOnWay, behind_call, is_kept, unkept, way_behind}
use Rattle.vac_read.specs.LastWayLaws.{behind_right, kept_right}
use Rattle.vt_tree.specs.Making.{EndsBy, IsRefusedLast, Makes}
use Rattle.vt_tree.specs.Maps.{BlockMap, Maps, IsWriteOnce}
use Rattle.vt_tree.specs.Reading.{AsksFor, GivesBytes, ReadsRange, refused_by}
use Rattle.vt_tree.proofs.Appending.{accepted_join}
use Rattle.vt_tree.proofs.Making.{gets_leave, gets_tell, told}

-- ---- a call that is answered by what is kept

kept_so : (way : List WayBlock) (call : Call) → IsKeptCall way call → is_kept way call ≡ true
kept_so way (get kind s answer) (bytes, found, is) = ap is_some found
kept_so way (put b answer) kept = absurd kept
kept_so way (sync answer) kept = absurd kept

-- it isn't refused
kept_skips : (way : List WayBlock) (call : Call) (calls : List Call) → IsKeptCall way call
    → refusals_of (call ∷ calls) ≡ refusals_of calls
kept_skips way (get kind s (Ok bytes)) calls kept = refl
kept_skips way (get kind s (Err err)) calls (bytes, found, is) = absurd (cc)
kept_skips way (put b answer) calls kept = absurd kept
kept_skips way (sync answer) calls kept = absurd kept

kept_accepts : (way : List WayBlock) (call : Call) → IsKeptCall way call
    → refusal_of call ≡ None
kept_accepts way (get kind s (Ok bytes)) kept = refl
kept_accepts way (get kind s (Err err)) (bytes, found, is) = absurd (cc)
kept_accepts way (put b answer) kept = absurd kept
kept_accepts way (sync answer) kept = absurd kept

kept_tells : (score_of : List ℕ → List ℕ) (blocks : BlockMap) (way : List WayBlock) (call : Call)
    → IsKeptCall way call → IsRightWay blocks way → TellsOfMap score_of blocks call
kept_tells score_of blocks way (get kind s answer) (bytes, found, is) right =
    subst (λ (r : Result (List ℕ) BlockErr). TellsOfMap score_of blocks (get kind s r)) (sym is)
    (kept_right blocks kind s bytes way found right)
kept_tells score_of blocks way (put b answer) kept right = absurd kept
kept_tells score_of blocks way (sync answer) kept right = absurd kept

-- ---- what is refused last

first_accepted : (call : Call) (calls : List Call) → refusals_of (call ∷ calls) ≡ []
    → (refusals_of (call ∷ []) ≡ []) × (refusals_of calls ≡ [])
first_accepted (get kind s (Ok bytes)) calls none = (refl, none)
first_accepted (get kind s (Err err)) calls none = absurd (cc)
first_accepted (put b (Ok score)) calls none = (refl, none)
first_accepted (put b (Err err)) calls none = absurd (cc)
first_accepted (sync (Ok done)) calls none = (refl, none)
first_accepted (sync (Err err)) calls none = absurd (cc)

-- the last is another than the first, which was accepted
last_behind : (err : BlockErr) (call : Call) (calls before : List Call) (last : Call)
    → call ∷ calls ≡ before ++ last ∷ [] → refusals_of before ≡ [] → refusal_of last ≡ Some err
    → refusal_of call ≡ None → IsRefusedLast err calls
last_behind err call calls [] last are accepted refused none =
    let same : call ≡ last = cc in
    let no : None ≡ Some err = sym none ∙ ap refusal_of same ∙ refused in absurd (cc)
last_behind err call calls (b ∷ before) last are accepted refused none =
    let rest : calls ≡ before ++ last ∷ [] = cc in
    record {
      before = before;
      last = last;
      are = rest;
      accepted = (first_accepted b before accepted).1;
      refused = refused;
    }

pub kept_ends : (way : List WayBlock) (call : Call) (calls : List Call) (o : Option BlockErr)
    → IsKeptCall way call → EndsBy o (call ∷ calls) → EndsBy o calls
kept_ends way call calls None kept ends = sym (kept_skips way call calls kept) ∙ ends
kept_ends way call calls (Some err) kept ends =
    last_behind err call calls ends.before ends.last ends.are ends.accepted ends.refused
    (kept_accepts way call kept)

-- a call, and some of those behind it that end so
asked_before : (err : BlockErr) (call : Call) (calls wanted before : List Call) (last : Call)
    → call ∷ wanted ≡ before ++ last ∷ [] → refusals_of before ≡ [] → refusal_of last ≡ Some err
    → (wanted ≡ [] → calls ≡ []) → (IsRefusedLast err wanted → IsRefusedLast err calls)
    → IsRefusedLast err (call ∷ calls)
asked_before err call calls wanted [] last are accepted refused none later =
    let same : call ≡ last = cc in
    let over : wanted ≡ [] = cc in
    record {
      before = [];
      last = call;
      are = ap (λ (l : List Call). call ∷ l) (none over);
      accepted = refl;
      refused = ap refusal_of same ∙ refused;
    }
asked_before err call calls wanted (b ∷ before) last are accepted refused none later =
    let same : call ≡ b = cc in
    let rest : wanted ≡ before ++ last ∷ [] = cc in
    let both = first_accepted b before accepted in
    let then = later (record {
      before = before;
      last = last;
      are = rest;
      accepted = both.1;
      refused = refused;
    }) in
    record {
      before = call ∷ then.before;
      last = then.last;
      are = ap (λ (l : List Call). call ∷ l) then.are;
      accepted = accepted_join (call ∷ []) then.before
          (ap (λ (c : Call). refusals_of (c ∷ [])) same ∙ both.0) then.accepted;
      refused = then.refused;
    }

asked_ends : (call : Call) (calls wanted : List Call) (o : Option BlockErr)
    → (wanted ≡ [] → calls ≡ []) → (EndsBy o wanted → EndsBy o calls)
    → EndsBy o (call ∷ wanted) → EndsBy o (call ∷ calls)
asked_ends call calls wanted None none later ends =
    let both = first_accepted call wanted ends in
    accepted_join (call ∷ []) calls both.0 (later both.1)
asked_ends call calls wanted (Some err) none later ends =
    asked_before err call calls wanted ends.before ends.last ends.are ends.accepted ends.refused
    none later

none_of_none : (calls wanted : List Call) → ArePart calls wanted → wanted ≡ [] → calls ≡ []
none_of_none calls wanted part none = subst (λ (l : List Call). ArePart calls l) none part

-- ---- where memory was short

not_refused : (call : Call) → refusals_of (call ∷ []) ≡ [] → refusal_of call ≡ None
not_refused (get kind s (Ok bytes)) none = refl
not_refused (get kind s (Err err)) none = absurd (cc)
not_refused (put b (Ok score)) none = refl
not_refused (put b (Err err)) none = absurd (cc)
not_refused (sync (Ok done)) none = refl
not_refused (sync (Err err)) none = absurd (cc)

accepted_one : (call : Call) → refusal_of call ≡ None → refusals_of (call ∷ []) ≡ []
accepted_one (get kind s (Ok bytes)) none = refl
accepted_one (get kind s (Err err)) none = absurd (cc)
accepted_one (put b (Ok score)) none = refl
accepted_one (put b (Err err)) none = absurd (cc)
accepted_one (sync (Ok done)) none = refl
accepted_one (sync (Err err)) none = absurd (cc)

short_refused : (call : Call) → IsShortCall call → refusal_of call ≡ Some block_errs.NoMemory
short_refused (get kind s answer) is = ap (λ (r : Result (List ℕ) BlockErr). refusal_of (get kind s r)) is
short_refused (put b answer) is = absurd is
short_refused (sync answer) is = absurd is

short_tells : (score_of : List ℕ → List ℕ) (blocks : BlockMap) (call : Call) → IsShortCall call
    → TellsOfMap score_of blocks call
short_tells score_of blocks (get kind s answer) is =
    subst (λ (r : Result (List ℕ) BlockErr). TellsOfMap score_of blocks (get kind s r)) (sym is)
    (λ never. absurd never)
short_tells score_of blocks (put b answer) is = absurd is
short_tells score_of blocks (sync answer) is = absurd is

last_or_not : (err : BlockErr) (call : Call) (wanted before : List Call) (last : Call)
    → call ∷ wanted ≡ before ++ last ∷ [] → refusals_of before ≡ [] → refusal_of last ≡ Some err
    → ((refusal_of call ≡ None) × IsRefusedLast err wanted) ⊎ (wanted ≡ [])
last_or_not err call wanted [] last are accepted refused = inr (cc)
last_or_not err call wanted (b ∷ before) last are accepted refused =
    let same : call ≡ b = cc in
    let rest : wanted ≡ before ++ last ∷ [] = cc in
    let both = first_accepted b before accepted in
    inl (
      ap refusal_of same ∙ not_refused b both.0,
      record {
        before = before;
        last = last;
        are = rest;
        accepted = both.1;
        refused = refused;
      },
    )

-- the first is accepted, or is the last
accepted_or_last : (call : Call) (wanted : List Call) (o : Option BlockErr) → EndsBy o (call ∷ wanted)
    → ((refusal_of call ≡ None) × EndsBy o wanted) ⊎ (wanted ≡ [])
accepted_or_last call wanted None ends =
    let both = first_accepted call wanted ends in inl (not_refused call both.0, both.1)
accepted_or_last call wanted (Some err) ends =
    last_or_not err call wanted ends.before ends.last ends.are ends.accepted ends.refused

-- one that failed for want of memory is the last
short_last : (call : Call) (wanted : List Call) (o : Option BlockErr) → IsShortCall call
    → EndsBy o (call ∷ wanted) → wanted ≡ []
short_last call wanted o is ends = elim (accepted_or_last call wanted o ends) [
  | inl more ↦
      let no : Some block_errs.NoMemory ≡ None = sym (short_refused call is) ∙ more.0 in absurd (cc)
  | inr over ↦ over
]

none_refused : (calls : List Call) → calls ≡ [] → refusals_of calls ≡ []
none_refused calls none = subst (λ (l : List Call). refusals_of l ≡ []) (sym none) refl

-- it began with these
first_of_all : (r : Result (List ℕ) TreeErr) (asked wanted : List Operation) → AsksFor r asked wanted
    → (rest : List Operation) × (asked ++ rest ≡ wanted)
first_of_all (Ok bytes) asked wanted is = ([], append-nil asked ∙ is)
first_of_all (Err err) asked wanted is = is

-- ---- all calls

module _ {W S : Type 0} (on : W → Call → W → Type 0) (does : S → Call → S → Type 0)
    (store : W → S) (way : W → List WayBlock) (short : W → Bool)
    (is : (w w' : W) (call : Call) → on w call w'
    → DoesOnWay does (store w) (store w') (way w) (way w') (short w) (short w') call)
  where
    -- what was wanted, as what the store was called for
    pub record Follows (w w' : W) (wanted : List Call) : Type 0 where
      pub calls : List Call
      pub made : Makes does (store w) calls (store w')
      pub part : ArePart calls wanted
      pub gets : AllByRecursion IsGet wanted → AllByRecursion IsGet calls
      pub exact : short w' ≡ false → (short w ≡ false) × (calls ≡ unkept (way w) wanted)
          × (way w' ≡ way_behind (way w) wanted)
      pub stays : wanted ≡ [] → short w' ≡ short w
      pub ends : short w' ≡ false → (o : Option BlockErr) → EndsBy o wanted → EndsBy o calls
      pub answered : AllByRecursion IsGet wanted → short w' ≡ true → (o : Option BlockErr)
          → EndsBy o wanted → refusals_of calls ≡ []
      pub right : (score_of : List ℕ → List ℕ) (blocks : BlockMap)
          → AllByRecursion (TellsOfMap score_of blocks) calls → IsRightWay blocks (way w)
          → AllByRecursion (TellsOfMap score_of blocks) wanted × IsRightWay blocks (way w')

    by_kept : (w next w' : W) (call : Call) (wanted : List Call) → Follows next w' wanted
        → IsKeptCall (way w) call → store next ≡ store w → way next ≡ way w
        → short next ≡ short w → Follows w w' (call ∷ wanted)
    by_kept w next w' call wanted later kept same_store same_way same_short = record {
      calls = later.calls;
      made = subst (λ (x : S). Makes does x later.calls (store w')) same_store later.made;
      part = inl later.part;
      gets = λ gets. later.gets gets.1;
      exact = λ enough.
          let all = later.exact enough in
          let skips = kept_so (way w) call kept in (
            sym same_short ∙ all.0,
            all.1 ∙ ap (λ (x : List WayBlock). unkept x wanted) same_way
                ∙ sym (ap (λ (t : Bool). cond t (unkept (way w) wanted)
                (call ∷ unkept (behind_call call (way w)) wanted)) skips),
            all.2 ∙ ap (λ (x : List WayBlock). way_behind x wanted) same_way
                ∙ sym (ap (λ (t : Bool). cond t (way_behind (way w) wanted)
                (way_behind (behind_call call (way w)) wanted)) skips),
          );
      stays = λ none. absurd (cc);
      ends = λ enough o ends. later.ends enough o (kept_ends (way w) call wanted o kept ends);
      answered = λ gets is_short o ends.
          later.answered gets.1 is_short o (kept_ends (way w) call wanted o kept ends);
      right = λ score_of blocks tells right.
          let all = later.right score_of blocks tells
          (subst (λ (x : List WayBlock). IsRightWay blocks x) (sym same_way) right) in
          ((kept_tells score_of blocks (way w) call kept right, all.0), all.1);
    }

    by_store : (w next w' : W) (call : Call) (wanted : List Call) → Follows next w' wanted
        → does (store w) call (store next)
        → (way next ≡ way w) ⊎ (way next ≡ behind_call call (way w))
        → (short next ≡ false → (short w ≡ false) × (is_kept (way w) call ≡ false)
        × (way next ≡ behind_call call (way w)))
        → (IsGet call → short next ≡ true → refusal_of call ≡ None)
        → Follows w w' (call ∷ wanted)
    by_store w next w' call wanted later done either exact last = record {
      calls = call ∷ later.calls;
      made = (store next, done, later.made);
      part = inr (later.calls, refl, later.part);
      gets = λ gets. (gets.0, later.gets gets.1);
      exact = λ enough.
          let all = later.exact enough in
          let now = exact all.0 in (
            now.0,
            ap (λ (l : List Call). call ∷ l)
                (all.1 ∙ ap (λ (x : List WayBlock). unkept x wanted) now.2)
                ∙ sym (ap (λ (t : Bool). cond t (unkept (way w) wanted)
                (call ∷ unkept (behind_call call (way w)) wanted)) now.1),
            all.2 ∙ ap (λ (x : List WayBlock). way_behind x wanted) now.2
                ∙ sym (ap (λ (t : Bool). cond t (way_behind (way w) wanted)
                (way_behind (behind_call call (way w)) wanted)) now.1),
          );
      stays = λ none. absurd (cc);
      ends = λ enough o ends. asked_ends call later.calls wanted o
          (none_of_none later.calls wanted later.part) (later.ends enough o) ends;
      answered = λ gets is_short o ends. elim (accepted_or_last call wanted o ends) [
        | inl more ↦ accepted_join (call ∷ []) later.calls (accepted_one call more.0)
            (later.answered gets.1 is_short o more.1)
        | inr over ↦ accepted_join (call ∷ []) later.calls
            (accepted_one call (last gets.0 (sym (later.stays over) ∙ is_short)))
            (none_refused later.calls (none_of_none later.calls wanted later.part over))
      ];
      right = λ score_of blocks tells right.
          let here : IsRightWay blocks (way next) = elim either [
            | inl same ↦ subst (λ (x : List WayBlock). IsRightWay blocks x) (sym same) right
            | inr came ↦ subst (λ (x : List WayBlock). IsRightWay blocks x) (sym came)
                (behind_right score_of blocks call (way w) tells.0 right)
          ] in
          let all = later.right score_of blocks tells.1 here in
          ((tells.0, all.0), all.1);
    }

    by_want : (w next w' : W) (call : Call) (wanted : List Call) → Follows next w' wanted
        → IsShortCall call → store next ≡ store w → way next ≡ way w
        → short next ≡ true → Follows w w' (call ∷ wanted)
    by_want w next w' call wanted later want same_store same_way now_short =
        let never : short w' ≡ false → ⊥ = λ enough.
        let no : true ≡ false = sym now_short ∙ (later.exact enough).0 in absurd (cc) in
        record {
          calls = later.calls;
          made = subst (λ (x : S). Makes does x later.calls (store w')) same_store later.made;
          part = inl later.part;
          gets = λ gets. later.gets gets.1;
          exact = λ enough. absurd (never enough);
          stays = λ none. absurd (cc);
          ends = λ enough. absurd (never enough);
          answered = λ gets is_short o ends.
              none_refused later.calls (none_of_none later.calls wanted later.part
              (short_last call wanted o want ends));
          right = λ score_of blocks tells right.
              let all = later.right score_of blocks tells
              (subst (λ (x : List WayBlock). IsRightWay blocks x) (sym same_way) right) in
              ((short_tells score_of blocks call want, all.0), all.1);
        }

    pub follows : (w w' : W) (wanted : List Call) → Makes on w wanted w' → Follows w w' wanted
    follows w w' [] made = record {
      calls = [];
      made = ap store made;
      part = refl;
      gets = λ gets. tt;
      exact = λ enough. (sym (ap short made) ∙ enough, refl, ap way made);
      stays = λ none. ap short made;
      ends = λ enough o ends. ends;
      answered = λ gets is_short o ends. refl;
      right = λ score_of blocks tells right.
          (tt, subst (λ (x : W). IsRightWay blocks (way x)) (sym made) right);
    }
    follows w w' (call ∷ wanted) (next, done, rest) =
        let later = follows next w' wanted rest in
        let step = is w next call done in
        elim step [
          | inl k ↦ by_kept w next w' call wanted later k.0 k.1 k.2 k.3
          | inr (inl k) ↦ by_store w next w' call wanted later k.0 k.1 k.2 k.3
          | inr (inr k) ↦ by_want w next w' call wanted later k.0 k.1 k.2 k.3
        ]

    module _ (score_of : List ℕ → List ℕ) (w w' : W) (e : Entry) (at len : ℕ) where
      -- where memory was there for all copies
      pub told_on_way : (result : Result (List ℕ) TreeErr) → short w' ≡ false
          → ReadsRange on score_of w w' e at len result
          → ReadsOnWay does score_of (store w) (store w') (way w) (way w') e at len result
      told_on_way result enough reads =
          let it = follows w w' reads.calls reads.made in
          let exact = it.exact enough in
          record {
            wanted = reads.calls;
            calls = it.calls;
            made = it.made;
            gets = it.gets reads.gets;
            part = it.part;
            exact = λ some. (exact.1, exact.2);
            refused = it.ends enough (refused_by result) reads.refused;
            bad = reads.bad;
            asked = λ blocks once tells right.
                reads.asked blocks once (it.right score_of blocks tells right).0;
            gives = λ blocks once tells right.
                reads.gives blocks once (it.right score_of blocks tells right).0;
            came = λ blocks tells right. (it.right score_of blocks tells right).0;
            right = λ blocks tells right. (it.right score_of blocks tells right).1;
          }

      -- where it wasn't
      pub short_on_way : (result : Result (List ℕ) TreeErr) → short w' ≡ true
          → ReadsRange on score_of w w' e at len result
          → ReadsOnWay does score_of (store w) (store w') (way w) (way w') e at len
          (Err errs.NoMemory)
      short_on_way result is_short reads =
          let it = follows w w' reads.calls reads.made in
          record {
            wanted = reads.calls;
            calls = it.calls;
            made = it.made;
            gets = it.gets reads.gets;
            part = it.part;
            exact = λ some. absurd (some refl);
            refused = it.answered reads.gets is_short (refused_by result) reads.refused;
            bad = tt;
            asked = λ blocks once tells right.
                first_of_all result (map asked_of reads.calls) _
                (reads.asked blocks once (it.right score_of blocks tells right).0);
            gives = λ blocks once tells right. tt;
            came = λ blocks tells right. (it.right score_of blocks tells right).0;
            right = λ blocks tells right. (it.right score_of blocks tells right).1;
          }

-- ---- what stands before the store

module _ {S : Type 0} (does : S → Call → S → Type 0) where
  -- what it says of a call
  abbrev pub does_on : OnWay S → Call → OnWay S → Type 0
  does_on w call w' = (w'.blocks.ghost_name ≡ w.blocks.ghost_name)
      × (w'.way.ghost_name ≡ w.way.ghost_name)
      × DoesOnWay does w.blocks.now w'.blocks.now w.way.now w'.way.now w.short w'.short call

  -- it stands before the same store, beside the same way
  pub stays_there : (w w' : OnWay S) (calls : List Call) → Makes does_on w calls w'
      → (w'.blocks.ghost_name ≡ w.blocks.ghost_name) × (w'.way.ghost_name ≡ w.way.ghost_name)
  stays_there w w' [] made =
      (ap (λ (x : OnWay S). x.blocks.ghost_name) made, ap (λ (x : OnWay S). x.way.ghost_name) made)
  stays_there w w' (call ∷ calls) (next, done, rest) =
      let later = stays_there next w' calls rest in (later.0 ∙ done.0, later.1 ∙ done.1)

  module _ (score_of : List ℕ → List ℕ) (w w' : OnWay S) (e : Entry) (at len : ℕ)
      (result : Result (List ℕ) TreeErr) (reads : ReadsRange does_on score_of w w' e at len result)
    where
      pub told_on : w'.short ≡ false
          → ReadsOnWay does score_of w.blocks.now w'.blocks.now w.way.now w'.way.now e at len result
      told_on enough =
          told_on_way does_on does (λ x. x.blocks.now) (λ x. x.way.now) (λ x. x.short)
          (λ x x' call done. done.2) score_of w w' e at len result enough reads

      pub short_on : w'.short ≡ true
          → ReadsOnWay does score_of w.blocks.now w'.blocks.now w.way.now w'.way.now e at len
          (Err errs.NoMemory)
      short_on is_short =
          short_on_way does_on does (λ x. x.blocks.now) (λ x. x.way.now) (λ x. x.short)
          (λ x x' call done. done.2) score_of w w' e at len result is_short reads

-- what a store holds is read
pub content_on_way : {S : Type 0} (does : S → Call → S → Type 0) (holds : S → Maps → Type 0)
    (score_of : List ℕ → List ℕ)
    (law : (s s' : S) (call : Call) (m : Maps) → does s call s' → holds s m
    → TellsOfMap score_of m.held call × holds s' (after score_of call m))
    (once : (s : S) (m : Maps) → holds s m → IsWriteOnce score_of m.held)
    (s s' : S) (old new : List WayBlock) (e : Entry) (at len : ℕ) (result : Result (List ℕ) TreeErr)
    → ReadsOnWay does score_of s s' old new e at len result → (m : Maps) → holds s m
    → holds s' m × (IsRightWay m.held old
    → IsRightWay m.held new × GivesBytes (byte_of m.held e) at len result)
content_on_way does holds score_of law once s s' old new e at len result reads m held =
    let all = told does holds score_of law s s' reads.calls m reads.made held in
    let tells = gets_tell score_of reads.calls m reads.gets all.0 in (
      subst (holds s') (gets_leave score_of reads.calls m reads.gets) all.1,
      λ right. (
        reads.right m.held tells right,
        reads.gives m.held (once s m held) tells right,
      ),
    )
