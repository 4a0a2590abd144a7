-- What a walk comes to.
use Rattle.std.proofs.Common.{◌≡◌, ◌≢◌, ◌==◌, ℕ, true, false, Some, None, Result, Ok, Err, List, [], ◌∷◌, length, refl, sym, ap, subst, arith, eqb-true}
use Rattle.std.proofs.lemmas.Bool.{eqb-false}
use Rattle.std.specs.Prelude.{IfErr, IfOk, OnErr, OnOk}
use Rattle.vt_tree.specs.Calls.{Call}
use Rattle.vt_tree.specs.Maps.{BlockMap, Maps}
use Rattle.vac_read.specs.declared.error.VacBad.{VacBad}
use Rattle.vac_read.specs.declared.error.VacBad.TheVariants.{NoMemory}
use Rattle.vac_read.specs.declared.kept.KeptFolder.{KeptFolder}
use Rattle.vac_read.specs.Asking.{ReadsFew}
use Rattle.vac_read.specs.Kept.{IsRightKept}
use Rattle.vac_read.proofs.Few.{few_as}
use Rattle.nine_wire.specs.Messages.{Qid, r_error, r_walk}
use Rattle.nine_view.specs.declared.error.AnswerError.{AnswerError}
use Rattle.nine_view.specs.declared.error.AnswerError.TheVariants.{Refused, Failed}
use Rattle.nine_view.specs.declared.place.Place.{Place}
use Rattle.nine_view.specs.declared.request_error.RequestError.{RequestError}
use Rattle.nine_view.specs.Answers.{Answer, of_fid, stays, to_names, to_walk, unopened, walks}
use Rattle.nine_view.specs.Asking.{WalkAsks}
use Rattle.nine_view.specs.Failures.{failure_words}
use Rattle.nine_view.specs.Handling.{Handles, Says}
use Rattle.nine_view.specs.Known.{ViewState, IsRightView, IsWay, keeping, limit, with_fid}
use Rattle.nine_view.specs.Refusals.{refusal_words}
use Rattle.nine_view.specs.Replies.{IsViewReply}
use Rattle.nine_view.specs.Walking.{EndsShort, MayWalk, failure_of}
use Rattle.nine_view.specs.Walks.{Walks, IsLost}
use Rattle.nine_view.proofs.Handled.{no_memory, refused_so, sets_handles}
use Rattle.nine_view.proofs.Keeping.{right_keeping, right_with}
use Rattle.nine_view.proofs.Steps.{a_walk, way_on}
use Rattle.nine_view.proofs.WalkAsking.{failed_before, failed_behind}

-- what names led to, where what was kept of folders was right, is told, and what is kept now is right; and so many
-- blocks were asked for
abbrev pub ReadsWalk : {S W : Type 0} → (does : S → Call → S → Type 0) → (holds : S → Maps → Type 0)
    → (score_of : List ℕ → List ℕ) → (s s' : S) → (old new : List KeptFolder) → (from : Place)
    → (words : List (List ℕ)) → Result W VacBad → (BlockMap → Type 0) → Type 0
ReadsWalk does holds score_of s s' old new from words result tells =
    ReadsFew does holds score_of s s' result
    (λ map. IsRightKept map old → IsRightKept map new × tells map)
    (λ map n. IsRightKept map old
    → WalkAsks (score_of []) map (failure_of result) old new (Ok from) words n)

module _ {S W : Type 0} (does : S → Call → S → Type 0) (holds : S → Maps → Type 0)
    (score_of : List ℕ → List ℕ) (s s' : S) (tag : ℕ) (known : ViewState) (kept : List KeptFolder)
    (out : List ℕ) (newfid : ℕ) (from : Place)
  where
    -- the archive failed on the way
    pub walk_failed : (words : List (List ℕ)) (bad : VacBad) → words ≢ []
        → ReadsWalk {W = W} does holds score_of s s' known.kept kept from words (Err bad)
        (λ map. bad ≢ NoMemory → IsLost map (Ok from) words bad)
        → Handles does holds score_of s s' tag known (keeping kept known) out (Err (Failed bad))
        (to_names newfid from words)
    walk_failed [] bad some reads = absurd (some refl)
    walk_failed (name ∷ names) bad some reads =
        let told : ReadsFew {X = Unit {0}} does holds score_of s s' (Err bad)
        (λ map. IsRightView map known → IsRightView map (keeping kept known)
        × IsViewReply map known (walks newfid from (name ∷ names)) (Some bad)
        (stays (keeping kept known) (r_error (failure_words (limit known) bad))))
        (λ map n. IsRightView map known
        → WalkAsks (score_of []) map (Some bad) known.kept kept (Ok from) (name ∷ names) n) =
        few_as does holds score_of s s' (Err bad) (Err bad) _ _ _ _ refl reads
        (λ map lost right.
        let l = lost right.kept in (right_keeping map known kept right l.0, l.1))
        (λ map n lost few right. few right.kept) in
        record {
          reply = r_error (failure_words (limit known) bad);
          says = refl;
          reads = told.reads;
          few = told.few;
          bytes = λ some. refl;
          still = λ nothing. absurd nothing;
          whole = λ never. absurd never;
          failed_so = refl;
        }

    -- memory was short behind it
    pub walk_unset : (words : List (List ℕ)) (w : W) (P : BlockMap → Type 0) → words ≢ []
        → ReadsWalk does holds score_of s s' known.kept kept from words (Ok w) P
        → Handles does holds score_of s s' tag known (keeping kept known) out
        (Err (Failed NoMemory)) (to_names newfid from words)
    walk_unset [] w P some reads = absurd (some refl)
    walk_unset (name ∷ names) w P some reads =
        let told : ReadsFew {X = Unit {0}} does holds score_of s s' (Err NoMemory)
        (λ map. IsRightView map known → IsRightView map (keeping kept known)
        × IsViewReply map known (walks newfid from (name ∷ names)) (Some NoMemory)
        (stays (keeping kept known) (r_error (failure_words (limit known) NoMemory))))
        (λ map n. IsRightView map known
        → WalkAsks (score_of []) map (Some NoMemory) known.kept kept (Ok from) (name ∷ names) n) =
        few_as does holds score_of s s' (Ok w) (Err NoMemory) _ _ _ _ refl reads
        (λ map told right. (
          right_keeping map known kept right (told right.kept).0,
          λ more. absurd (more refl),
        ))
        (λ map n told few right. failed_behind (score_of []) map (name ∷ names) NoMemory known.kept
        kept (Ok from) n (few right.kept)) in
        record {
          reply = r_error (failure_words (limit known) NoMemory);
          says = refl;
          reads = told.reads;
          few = told.few;
          bytes = λ some. refl;
          still = λ nothing. absurd nothing;
          whole = λ never. absurd never;
          failed_so = refl;
        }

    -- the first name leads nowhere
    pub walk_refused : (words : List (List ℕ)) (w : W) (why : RequestError) → words ≢ []
        → ReadsWalk does holds score_of s s' known.kept kept from words (Ok w)
        (λ map. Walks map (Ok from) words (a_walk [] (Err why)))
        → Handles does holds score_of s s' tag known (keeping kept known) out (Err (Refused why))
        (to_names newfid from words)
    walk_refused [] w why some reads = absurd (some refl)
    walk_refused (name ∷ names) w why some reads =
        let told : ReadsFew {X = Unit {0}} does holds score_of s s' (Ok (tt {0}))
        (λ map. IsRightView map known → IsRightView map (keeping kept known)
        × IsViewReply map known (walks newfid from (name ∷ names)) None
        (stays (keeping kept known) (r_error (refusal_words why))))
        (λ map n. IsRightView map known
        → WalkAsks (score_of []) map None known.kept kept (Ok from) (name ∷ names) n) =
        few_as does holds score_of s s' (Ok w) (Ok (tt {0})) _ _ _ _ refl reads
        (λ map walked right.
        let w' = walked right.kept in (
          right_keeping map known kept right w'.0,
          (a_walk [] (Err why), w'.1, refl),
        ))
        (λ map n walked few right. few right.kept) in
        record {
          reply = r_error (refusal_words why);
          says = refl;
          reads = told.reads;
          few = told.few;
          bytes = λ some. refl;
          still = λ nothing. absurd nothing;
          whole = λ never. absurd never;
          failed_so = tt;
        }

    -- a later one does
    pub walk_short : (words : List (List ℕ)) (w : W) (qids : List Qid) (why : RequestError) (len : ℕ)
        → words ≢ [] → qids ≢ [] → Says tag (limit known) out len (r_walk qids)
        → ReadsWalk does holds score_of s s' known.kept kept from words (Ok w)
        (λ map. Walks map (Ok from) words (a_walk qids (Err why)))
        → Handles does holds score_of s s' tag known (keeping kept known) out (Ok len)
        (to_names newfid from words)
    walk_short [] w qids why len some told says reads = absurd (some refl)
    walk_short (name ∷ names) w [] why len some told says reads = absurd (told refl)
    walk_short (name ∷ names) w (qid ∷ qids) why len some some' says reads =
        let told : ReadsFew {X = Unit {0}} does holds score_of s s' (Ok (tt {0}))
        (λ map. IsRightView map known → IsRightView map (keeping kept known)
        × IsViewReply map known (walks newfid from (name ∷ names)) None
        (stays (keeping kept known) (r_walk (qid ∷ qids))))
        (λ map n. IsRightView map known
        → WalkAsks (score_of []) map None known.kept kept (Ok from) (name ∷ names) n) =
        few_as does holds score_of s s' (Ok w) (Ok (tt {0})) _ _ _ _ refl reads
        (λ map walked right.
        let w' = walked right.kept in (
          right_keeping map known kept right w'.0,
          (a_walk (qid ∷ qids) (Err why), w'.1, refl),
        ))
        (λ map n walked few right. few right.kept) in
        record {
          reply = r_walk (qid ∷ qids);
          says = says;
          reads = told.reads;
          few = told.few;
          bytes = λ some. refl;
          still = λ nothing. absurd nothing;
          whole = λ never. absurd never;
          failed_so = tt;
        }

    -- all of them lead on
    pub walk_set : (words : List (List ℕ)) (w : W) (qids : List Qid) (to : Place) (len : ℕ)
        → words ≢ [] → Says tag (limit known) out len (r_walk qids)
        → ((map : BlockMap) → IsRightView map known → IsWay map known.top from.node from.above)
        → ReadsWalk does holds score_of s s' known.kept kept from words (Ok w)
        (λ map. Walks map (Ok from) words (a_walk qids (Ok to)))
        → Handles does holds score_of s s' tag known
        (record (keeping kept known) { fids = with_fid newfid (unopened to) known.fids }) out (Ok len)
        (to_names newfid from words)
    walk_set [] w qids to len some says way reads = absurd (some refl)
    walk_set (name ∷ names) w qids to len some says way reads =
        let told : ReadsFew {X = Unit {0}} does holds score_of s s' (Ok (tt {0}))
        (λ map. IsRightView map known
        → IsRightView map (record (keeping kept known) { fids = with_fid newfid (unopened to) known.fids })
        × IsViewReply map known (walks newfid from (name ∷ names)) None
        (stays (record (keeping kept known) { fids = with_fid newfid (unopened to) known.fids }) (r_walk qids)))
        (λ map n. IsRightView map known
        → WalkAsks (score_of []) map None known.kept kept (Ok from) (name ∷ names) n) =
        few_as does holds score_of s s' (Ok w) (Ok (tt {0})) _ _ _ _ refl reads
        (λ map walked right.
        let w' = walked right.kept in (
          right_with map (keeping kept known) newfid (unopened to)
              (right_keeping map known kept right w'.0)
              (record {
                way = way_on map known.top (name ∷ names) from qids to (way map right) w'.1;
                files = tt;
              }),
          (a_walk qids (Ok to), w'.1, refl),
        ))
        (λ map n walked few right. few right.kept) in
        record {
          reply = r_walk qids;
          says = says;
          reads = told.reads;
          few = told.few;
          bytes = λ some. refl;
          still = λ nothing. absurd nothing;
          whole = λ never. absurd never;
          failed_so = tt;
        }

    -- all of them lead on, and the fid is set there, or memory is short for it
    pub walk_ends : (words : List (List ℕ)) (w : W) (qids : List Qid) (to : Place) (new : ViewState)
        (result : Result ℕ AnswerError) → words ≢ []
        → ((map : BlockMap) → IsRightView map known → IsWay map known.top from.node from.above)
        → ReadsWalk does holds score_of s s' known.kept kept from words (Ok w)
        (λ map. Walks map (Ok from) words (a_walk qids (Ok to)))
        → OnOk result (new
        ≡ record (keeping kept known) { fids = with_fid newfid (unopened to) known.fids })
        → IfOk result (λ len. Says tag (limit known) out len (r_walk qids))
        → IfErr result (λ denied. denied ≡ Failed NoMemory)
        → OnErr result (new ≡ keeping kept known)
        → Handles does holds score_of s s' tag known new out result (to_names newfid from words)
    walk_ends words w qids to new (Ok len) some way reads set says err same =
        subst (λ (k : ViewState). Handles does holds score_of s s' tag known k out (Ok len)
        (to_names newfid from words)) (sym set)
        (walk_set words w qids to len some says way reads)
    walk_ends words w qids to new (Err denied) some way reads set says err same =
        subst (λ (k : ViewState). Handles does holds score_of s s' tag known k out (Err denied)
        (to_names newfid from words)) (sym same)
        (subst (λ (d : AnswerError). Handles does holds score_of s s' tag known (keeping kept known)
        out (Err d) (to_names newfid from words)) (sym err)
        (walk_unset words w _ some reads))

    -- a name leads nowhere
    pub walk_stops : (words : List (List ℕ)) (w : W) (qids : List Qid) (why : RequestError)
        (result : Result ℕ AnswerError) → words ≢ []
        → EndsShort tag (limit known) out result qids why
        → ReadsWalk does holds score_of s s' known.kept kept from words (Ok w)
        (λ map. Walks map (Ok from) words (a_walk qids (Err why)))
        → Handles does holds score_of s s' tag known (keeping kept known) out result
        (to_names newfid from words)
    walk_stops words w qids why (Ok len) some ends reads =
        walk_short words w qids why len some ends.0 ends.1 reads
    walk_stops words w qids why (Err denied) some ends reads =
        subst (λ (d : AnswerError). Handles does holds score_of s s' tag known (keeping kept known)
        out (Err d) (to_names newfid from words)) (sym ends.1)
        (walk_refused words w why some
        (subst (λ (l : List Qid). ReadsWalk does holds score_of s s' known.kept kept from words (Ok w)
        (λ map. Walks map (Ok from) words (a_walk l (Err why)))) ends.0 reads))

pub no_names : (words : List (List ℕ)) → (length words == 0) ≡ true → words ≡ []
no_names [] none = refl
no_names (name ∷ names) none =
    absurd (let e = eqb-true (length (name ∷ names)) 0 none in omega arith)

pub some_names : (words : List (List ℕ)) → (length words == 0) ≡ false → words ≢ []
some_names words some = λ is. eqb-false (length words) 0 some (ap (λ (l : List (List ℕ)). length l) is)

-- ---- walks that ask for no block

module _ {S : Type 0} (does : S → Call → S → Type 0) (holds : S → Maps → Type 0)
    (score_of : List ℕ → List ℕ) (s : S) (tag : ℕ) (known : ViewState) (out : List ℕ) (newfid : ℕ)
  where
    -- a walk without names sets a fid at the same place
    pub walk_still : (from : Place) (new : ViewState) (result : Result ℕ AnswerError)
        → ((map : BlockMap) → IsRightView map known → IsWay map known.top from.node from.above)
        → OnOk result (new ≡ record known { fids = with_fid newfid (unopened from) known.fids })
        → IfOk result (λ len. Says tag (limit known) out len (r_walk []))
        → IfErr result (λ denied. denied ≡ Failed NoMemory) → OnErr result (new ≡ known)
        → Handles does holds score_of s s tag known new out result (to_names newfid from [])
    walk_still from new (Ok len) way set says err same =
        subst (λ (k : ViewState). Handles does holds score_of s s tag known k out (Ok len)
        (to_names newfid from [])) (sym set)
        (sets_handles does holds score_of s tag known _ out (Ok len) newfid (unopened from) (r_walk [])
        (record {
          reply = r_walk [];
          says = says;
          done = refl;
          right = λ map right. right_with map known newfid (unopened from) right
              (record { way = way map right; files = tt });
        }))
    walk_still from new (Err denied) way set says err same =
        subst (λ (k : ViewState). Handles does holds score_of s s tag known k out (Err denied)
        (to_names newfid from [])) (sym same)
        (subst (λ (d : AnswerError). Handles does holds score_of s s tag known known out (Err d)
        (to_names newfid from [])) (sym err)
        (no_memory does holds score_of s tag known out _ (λ never. never) (λ map some. refl)
        (λ calls some. refl)))

    unset_so : (at : Place) (words : List (List ℕ))
        → Handles does holds score_of s s tag known known out (Err (Failed NoMemory))
        (to_names newfid at words)
    unset_so at [] =
        no_memory does holds score_of s tag known out _ (λ never. never) (λ map some. refl)
        (λ calls some. refl)
    unset_so at (name ∷ names) =
        no_memory does holds score_of s tag known out _ (λ never. never)
        (λ map. failed_before (score_of []) map (name ∷ names) NoMemory known.kept at)
        (λ calls some. refl)

    -- it may not begin
    pub walk_unbegun : (fid : ℕ) (words : List (List ℕ)) (denied : AnswerError)
        → MayWalk known fid newfid (length words) (Err denied)
        → Handles does holds score_of s s tag known known out (Err denied)
        (of_fid known fid (to_walk known fid newfid words))
    walk_unbegun fid words (Refused why) may =
        subst (λ (a : Answer). Handles does holds score_of s s tag known known out (Err (Refused why)) a)
        (sym (may words refl)) (refused_so does holds score_of s tag known out why)
    walk_unbegun fid words (Failed bad) may =
        let begun = may.1 words refl in
        subst (λ (b : VacBad). Handles does holds score_of s s tag known known out (Err (Failed b))
        (of_fid known fid (to_walk known fid newfid words))) (sym may.0)
        (subst (λ (a : Answer). Handles does holds score_of s s tag known known out
        (Err (Failed NoMemory)) a) (sym begun.1) (unset_so begun.0 words))
