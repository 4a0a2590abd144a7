-- The top folder that a view knows stays.
use Rattle.std.proofs.Common.{◌≡◌, ℕ, Bool, true, false, Option, Some, None, Result, Ok, Err, List, [], ◌∷◌, refl, ◌∙◌, ap, if◌then◌else◌}
use Rattle.std.specs.Option.{option_map_or}
use Rattle.std.specs.Prelude.{IfSome}
use Rattle.vt_tree.specs.Maps.{BlockMap}
use Rattle.vac_read.specs.declared.error.VacBad.{VacBad}
use Rattle.vac_read.specs.declared.kept.KeptFolder.{KeptFolder}
use Rattle.vac_read.specs.declared.last_way.WayBlock.{WayBlock}
use Rattle.vac_read.specs.declared.node.Node.{Node}
use Rattle.vac_read.specs.declared.node.Stored.{Stored}
use Rattle.vac_read.specs.declared.node.Stored.TheVariants as stored
use Rattle.nine_wire.specs.Messages.{TMessage, t_version, t_auth, t_attach, t_flush, t_walk, t_open, t_create, t_read, t_write, t_clunk, t_remove, t_stat, t_wstat, Qid, RMessage}
use Rattle.nine_view.specs.declared.fid.Fid.{Fid}
use Rattle.nine_view.specs.declared.fid.Reading.{Reading}
use Rattle.nine_view.specs.declared.place.Place.{Place}
use Rattle.nine_view.specs.declared.request_error.RequestError.{RequestError}
use Rattle.nine_view.specs.Answers.{Answer, Asked, ViewOutcome, answer_agreed, answer_first, answer_request, answer_to, misspelled, of_fid, reads_file, reads_files, reads_folder, refused_answer, request, sets, settled, stays, to_folder, to_names, to_read, to_stored, unknown, walks}
use Rattle.nine_view.specs.Known.{ViewState, along, fid_at, keeping}
use Rattle.nine_view.specs.Replies.{GivesOutcome, IsViewReply, fails, walked}

-- it is known behind an outcome
record KeepsTop (known : ViewState) (o : ViewOutcome) : Type 0 where
  top : o.known.top ≡ known.top

abbrev SettlesTop : ViewState → Answer → Type 0
SettlesTop known (settled o) = KeepsTop known o
SettlesTop known (sets fid f reply) = Unit {0}
SettlesTop known (walks fid from names) = Unit {0}
SettlesTop known (reads_file e at n) = Unit {0}
SettlesTop known (reads_folder fid f reading offset count) = Unit {0}

-- it is known behind an answer that asks for no block
record StaysIn (known : ViewState) (answer : Answer) : Type 0 where
  settles : SettlesTop known answer

module _ (known : ViewState) where
  either : (b : Bool) (x y : ViewOutcome) → KeepsTop known x → KeepsTop known y
      → KeepsTop known (if b then x else y)
  either true x y p q = p
  either false x y p q = q

  one_of : (b : Bool) (x y : Answer) → StaysIn known x → StaysIn known y
      → StaysIn known (if b then x else y)
  one_of true x y p q = p
  one_of false x y p q = q

  says : (o : ViewOutcome) → KeepsTop known o → StaysIn known (settled o)
  says o it = record { settles = it }

  kept : (reply : RMessage) (fids : List (ℕ × Fid)) (msize : Option ℕ) (folder : List KeptFolder)
      (way : List WayBlock)
      → KeepsTop known (record {
        reply = reply;
        known = record { top = known.top; msize = msize; fids = fids; kept = folder; way = way };
      })
  kept reply fids msize folder way = record { top = refl }

  sets_one : (fid : ℕ) (f : Fid) (reply : RMessage) → StaysIn known (sets fid f reply)
  sets_one fid f reply = record { settles = tt }

  names_stay : (newfid : ℕ) (at : Place) (names : List (List ℕ))
      → StaysIn known (to_names newfid at names)
  names_stay newfid at [] = record { settles = tt }
  names_stay newfid at (name ∷ names) = record { settles = tt }

  files_stay : (fid : ℕ) (f : Fid) (reading : Reading) (offset count : ℕ) (files : List Node)
      → KeepsTop known (reads_files known fid f reading offset count files)
  files_stay fid f reading offset count files = search (either, kept)

  folder_stays : (fid : ℕ) (f : Fid) (reading : Reading) (offset count : ℕ)
      (files : Option (List Node)) → StaysIn known (to_folder known fid f reading offset count files)
  folder_stays fid f reading offset count None = record { settles = tt }
  folder_stays fid f reading offset count (Some files) =
      says _ (files_stay fid f reading offset count files)

  stored_stays : (fid : ℕ) (f : Fid) (reading : Reading) (offset count : ℕ) (s : Stored)
      → StaysIn known (to_stored known fid f reading offset count s)
  stored_stays fid f reading offset count (stored.File e) = record { settles = tt }
  stored_stays fid f reading offset count (stored.Folder entries metadata) =
      search (one_of, says, folder_stays)

  read : (fid offset count : ℕ) (f : Fid) (reading : Option Reading)
      → StaysIn known (to_read known fid offset count f reading)
  read fid offset count f None = says _ (kept _ _ _ _ _)
  read fid offset count f (Some reading) =
      stored_stays fid f reading offset count f.node.stored

  -- the answer to a request of a fid that is known
  of_fid_stays : (fid : ℕ) (answer : Fid → Answer) → ((f : Fid) → StaysIn known (answer f))
      → StaysIn known (of_fid known fid answer)
  of_fid_stays fid answer stay = of (fid_at fid known.fids)
    where
      of : (o : Option Fid)
          → StaysIn known (option_map_or answer o (refused_answer known RequestError.UnknownFid))
      of None = says _ (kept _ _ _ _ _)
      of (Some f) = stay f

  agreed : (msize : ℕ) (m : TMessage) → StaysIn known (answer_agreed known msize m)
  agreed msize (t_version wanted text) = search (says, either, kept)
  agreed msize (t_auth afid uname aname) = says _ (kept _ _ _ _ _)
  agreed msize (t_attach fid afid uname aname) =
      search (one_of, says, sets_one) depth 12
  agreed msize (t_flush oldtag) = says _ (kept _ _ _ _ _)
  agreed msize (t_walk fid newfid names) =
      of_fid_stays fid _ (λ f. search (one_of, says, names_stay) depth 12)
  agreed msize (t_open fid mode) =
      of_fid_stays fid _ (λ f. search (says, either, kept))
  agreed msize (t_create fid name perm mode) = of_fid_stays fid _ (λ f. says _ (kept _ _ _ _ _))
  agreed msize (t_read fid offset count) =
      of_fid_stays fid _ (λ f. read fid offset _ f f.reading)
  agreed msize (t_write fid offset bytes) = of_fid_stays fid _ (λ f. says _ (kept _ _ _ _ _))
  agreed msize (t_clunk fid) = of_fid_stays fid _ (λ f. says _ (kept _ _ _ _ _))
  agreed msize (t_remove fid) = of_fid_stays fid _ (λ f. says _ (kept _ _ _ _ _))
  agreed msize (t_stat fid) = of_fid_stays fid _ (λ f. search (says, either))
  agreed msize (t_wstat fid bytes) = of_fid_stays fid _ (λ f. says _ (kept _ _ _ _ _))

  first : (m : TMessage) → StaysIn known (answer_first known m)
  first (t_version wanted text) = search (says, either, kept)
  first m = says _ (kept _ _ _ _ _)

  requested : (o : Option ℕ) (m : TMessage) → StaysIn known (answer_request known o m)
  requested None m = first m
  requested (Some msize) m = agreed msize m

  answered : (asked : Asked) → StaysIn known (answer_to known asked)
  answered unknown = says _ (kept _ _ _ _ _)
  answered misspelled = says _ (kept _ _ _ _ _)
  answered (request m) = requested known.msize m

  walked_stays : (folder : List KeptFolder) (fid : ℕ) (qids : List Qid)
      (end : Result Place RequestError) → KeepsTop known (walked (keeping folder known) fid qids end)
  walked_stays folder fid qids (Ok at) = kept _ _ _ _ _
  walked_stays folder fid [] (Err why) = kept _ _ _ _ _
  walked_stays folder fid (qid ∷ qids) (Err why) = kept _ _ _ _ _

  of_outcome : (o outcome : ViewOutcome) → o ≡ outcome → KeepsTop known outcome
      → o.known.top ≡ known.top
  of_outcome o outcome is keeps = ap (λ (x : ViewOutcome). x.known.top) is ∙ keeps.top

  gives_stays : (map : BlockMap) (answer : Answer) (o : ViewOutcome) → StaysIn known answer
      → GivesOutcome map known answer o → o.known.top ≡ known.top
  gives_stays map (settled outcome) o stay gives = of_outcome o outcome gives stay.settles
  gives_stays map (sets fid f reply) o stay gives = of_outcome o _ gives (kept _ _ _ _ _)
  gives_stays map (walks fid from names) o stay gives =
      of_outcome o _ gives.2 (walked_stays o.known.kept fid gives.0.qids gives.0.end)
  gives_stays map (reads_file e at n) o stay gives = of_outcome o _ gives.2 (kept _ _ _ _ _)
  gives_stays map (reads_folder fid f reading offset count) o stay gives =
      of_outcome o _ gives.2 (files_stay fid f reading offset count gives.0)

  -- it is known behind a reply, and behind a failure, which changes nothing
  pub top_stays : (map : BlockMap) (asked : Asked) (failure : Option VacBad) (reply : RMessage)
      (new : ViewState)
      → IsViewReply map known (answer_to known asked) failure (record { reply = reply; known = new })
      → IfSome failure (λ bad. stays new reply ≡ fails (along new.way (keeping new.kept known)) bad) → new.top ≡ known.top
  top_stays map asked None reply new gives failed =
      gives_stays map (answer_to known asked) (record { reply = reply; known = new })
      (answered asked) gives
  top_stays map asked (Some bad) reply new gives failed =
      ap (λ (o : ViewOutcome). o.known.top) failed
