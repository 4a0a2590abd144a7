-- What the view of an archive answers to a request, as far as it knows that by itself (9P2000,
-- manual section 5; vacfs(4)). Each function has its tests in their order.
use Rattle.std.specs.Prelude.{ℕ, ◌+◌, ◌-◌, ◌==◌, ◌&&◌, ◌||◌, not, min, nat_le, nat_lt, if◌then◌else◌, Bool, false, is_some, Option, Some, None, List, [], ◌∷◌, codes, length, drop}
use Rattle.std.specs.List.{before_first, flat_map}
use Rattle.std.specs.Option.{option_map_or}
use Rattle.std.specs.Str.{bytes_eq}
use Rattle.vt_tree.specs.declared.entry.Entry.{Entry}
use Rattle.vac_read.specs.declared.node.Node.{Node}
use Rattle.vac_read.specs.declared.node.Stored.{Stored}
use Rattle.vac_read.specs.declared.node.Stored.TheVariants as stored
use Rattle.nine_wire.specs.declared.TheConstants.{NO_FID}
use Rattle.nine_wire.specs.Frames.{spelled_reply}
use Rattle.nine_wire.specs.Messages.{TMessage, t_version, t_auth, t_attach, t_flush, t_walk, t_open, t_create, t_read, t_write, t_clunk, t_remove, t_stat, t_wstat, RMessage, r_version, r_attach, r_flush, r_walk, r_open, r_read, r_clunk, r_stat, r_error}
use Rattle.nine_view.specs.declared.TheConstants.{MIN_MESSAGE, MAX_MESSAGE, MAX_FIDS, MAX_NAMES}
use Rattle.nine_view.specs.declared.fid.Fid.{Fid}
use Rattle.nine_view.specs.declared.fid.Reading.{Reading}
use Rattle.nine_view.specs.declared.place.Place.{Place}
use Rattle.nine_view.specs.declared.request_error.RequestError.{RequestError}
use Rattle.nine_view.specs.declared.request_error.RequestError.TheVariants.{UnknownMessage, BadMessage, VersionExpected, SmallSize, NoAuthentication, BadFid, FidInUse, TooManyFids, UnknownFid, ReadOnly, TooManyNames, FidIsOpen, FidNotOpen, BadOffset, SmallCount}
use Rattle.nine_view.specs.Files.{is_folder, qid_of, stat_of, stat_in}
use Rattle.nine_view.specs.Known.{ViewState, fid_at, is_known, limit, with_fid, without_fid}
use Rattle.nine_view.specs.Refusals.{refusal_words}

-- what a whole message comes to: no request has its type, its parameters don't fill it, or it asks
-- something
pub data Asked : Type 0 where
  unknown : Asked
  misspelled : Asked
  request : TMessage → Asked

-- a reply, and what is known behind it
pub record ViewOutcome : Type 0 where
  pub reply : RMessage
  pub known : ViewState

-- what a request comes to
pub data Answer : Type 0 where
  -- this, whatever the archive has
  settled : ViewOutcome → Answer
  -- a fid is set, for which memory is needed
  sets : (fid : ℕ) → Fid → RMessage → Answer
  -- the fid is set where these names lead
  walks : (fid : ℕ) → (from : Place) → (names : List (List ℕ)) → Answer
  -- so many bytes of this file, from a place on
  reads_file : (file : Entry) → (at n : ℕ) → Answer
  -- what the folder of this fid tells of the files in it, which aren't listed yet
  reads_folder : (fid : ℕ) → Fid → Reading → (offset count : ℕ) → Answer

-- ---- outcomes

-- The message is replied so, and the view stays what it is.
abbrev pub stays : ViewState → RMessage → ViewOutcome
stays known reply = record { reply = reply; known = known }

-- The message is refused for this reason, and the view stays what it is.
abbrev pub refuses : ViewState → RequestError → ViewOutcome
refuses known why = stays known (r_error (refusal_words why))

-- An answer that reads no block: the message is refused for this reason, and the view stays what it
-- is.
abbrev pub refused_answer : ViewState → RequestError → Answer
refused_answer known why = settled (refuses known why)

-- The message is replied so, and the view has these fids.
abbrev pub with_known : ViewState → List (ℕ × Fid) → RMessage → ViewOutcome
with_known known fids reply = stays (record known { fids = fids }) reply

-- The message is replied so, and this fid stands here.
abbrev pub sets_fid : ViewState → (fid : ℕ) → Fid → RMessage → ViewOutcome
sets_fid known fid f reply = with_known known (with_fid fid f known.fids) reply

-- a fid that was set now
abbrev pub unopened : Place → Fid
unopened at = record { node = at.node; above = at.above; files = None; reading = None }

-- ---- version(5)

-- a version counts up to its first period
abbrev pub is_ours : List ℕ → Bool
is_ours version = bytes_eq (before_first (λ b. b == 46) version) (codes "9P2000")

-- all fids go, and where the version is another, none is agreed
abbrev pub to_version : ViewState → (msize : ℕ) → (version : List ℕ) → ViewOutcome
to_version known msize version =
    let least = min msize MAX_MESSAGE in
    if nat_lt msize MIN_MESSAGE then refuses known SmallSize
    else if is_ours version
    then record {
      reply = r_version least (codes "9P2000");
      known = record known { msize = Some least; fids = [] };
    }
    else record {
      reply = r_version least (codes "unknown");
      known = record known { msize = None; fids = [] };
    }

-- ---- attach(5)

-- what an attach is answered (attach(5))
abbrev pub to_attach : ViewState → (fid afid : ℕ) → Answer
to_attach known fid afid =
    if not (afid == NO_FID) then refused_answer known NoAuthentication
    else if fid == NO_FID then refused_answer known BadFid
    else if is_known fid known.fids then refused_answer known FidInUse
    else if nat_le MAX_FIDS (length known.fids) then refused_answer known TooManyFids
    else sets fid (unopened (record { node = known.top; above = [] })) (r_attach (qid_of known.top))

-- ---- walk(5)

-- without names, the new fid is a copy
abbrev pub to_names : (newfid : ℕ) → Place → (names : List (List ℕ)) → Answer
to_names newfid at [] = sets newfid (unopened at) (r_walk [])
to_names newfid at (name ∷ names) = walks newfid at (name ∷ names)

-- what a walk is answered (walk(5))
abbrev pub to_walk : ViewState → (fid newfid : ℕ) → (names : List (List ℕ)) → Fid → Answer
to_walk known fid newfid names f =
    let is_new = not (is_known newfid known.fids) in
    if nat_lt MAX_NAMES (length names) then refused_answer known TooManyNames
    else if is_some f.reading then refused_answer known FidIsOpen
    else if newfid == NO_FID then refused_answer known BadFid
    else if not is_new && not (newfid == fid) then refused_answer known FidInUse
    else if is_new && nat_le MAX_FIDS (length known.fids) then refused_answer known TooManyFids
    else to_names newfid (record { node = f.node; above = f.above }) names

-- ---- open(5)

-- 0 is reading, and 3 is executing, for which no folder is opened
abbrev pub may_open : Stored → (mode : ℕ) → Bool
may_open stored mode = mode == 0 || (mode == 3 && not (is_folder stored))

-- how many bytes a message has room for, beside what stands round them
abbrev pub iounit : (msize : ℕ) → ℕ
iounit msize = msize - 24

-- nothing was read yet
abbrev pub unread : Reading
unread = record { next = 0; offset = 0; left = 0 }

-- what an open is answered (open(5))
abbrev pub to_open : ViewState → (msize fid mode : ℕ) → Fid → ViewOutcome
to_open known msize fid mode f =
    if is_some f.reading then refuses known FidIsOpen
    else if not (may_open f.node.stored mode) then refuses known ReadOnly
    else sets_fid known fid (record f { reading = Some unread })
    (r_open (qid_of f.node) (iounit msize))

-- ---- read(5)

-- Of these files, the first that have room together, each whole.
abbrev pub fitting : (room : ℕ) → List Node → List Node
fitting room [] = []
fitting room (node ∷ nodes) =
    if nat_le (length (stat_in node)) room
    then node ∷ fitting (room - length (stat_in node)) nodes else []

-- the number of the file with which a read begins: the first one, or the next
abbrev pub first_file : Reading → (offset : ℕ) → ℕ
first_file reading offset = if offset == 0 then 0 else reading.next

-- how many bytes of data a message has room for at most
abbrev pub most_data : ViewState → ℕ
most_data known = iounit (limit known)

-- of the files of an open folder, those that the next read of it tells of
abbrev pub told_next : Reading → List Node → (offset room : ℕ) → List Node
told_next reading files offset room = fitting room (drop (first_file reading offset) files)

-- there are files left, and not one of them has room
abbrev pub has_no_room : Reading → List Node → (offset room : ℕ) → Bool
has_no_room reading files offset room =
    length (told_next reading files offset room) == 0
    && nat_lt (first_file reading offset) (length files)

-- A client that fills a buffer asks for the rest of it: for just what the last read that was answered
-- left of its own count. The next file has room in a message.
abbrev pub is_rest : (most : ℕ) → Reading → (offset count : ℕ) → (next : List Node) → Bool
is_rest most reading offset count [] = false
is_rest most reading offset count (node ∷ nodes) =
    not (offset == 0) && count == reading.left && nat_le (length (stat_in node)) most

-- the count is too small: no file that is left has room, and it isn't the rest of another count
abbrev pub is_small : (most : ℕ) → Reading → List Node → (offset count : ℕ) → Bool
is_small most reading files offset count =
    has_no_room reading files offset (min count most)
    && not (is_rest most reading offset count (drop (first_file reading offset) files))

-- A folder of these files tells of as many as have room, in the client's count and in a message.
-- Where there are more and not one has, the count is too small, since this isn't the end; but the
-- rest of a count is answered by no bytes.
abbrev pub reads_files : ViewState → (fid : ℕ) → Fid → Reading → (offset count : ℕ) → List Node
    → ViewOutcome
reads_files known fid f reading offset count files =
    let told = told_next reading files offset (min count (most_data known)) in
    let bytes = flat_map stat_in told in
    if is_small (most_data known) reading files offset count
    then sets_fid known fid (record f { files = Some files }) (r_error (refusal_words SmallCount))
    else sets_fid known fid (record f {
      files = Some files;
      reading = Some (record {
        next = first_file reading offset + length told;
        offset = offset + length bytes;
        left = count - length bytes;
      });
    }) (r_read bytes)

-- the files of an open folder are kept
abbrev pub to_folder : ViewState → (fid : ℕ) → Fid → Reading → (offset count : ℕ)
    → Option (List Node)
    → Answer
to_folder known fid f reading offset count None = reads_folder fid f reading offset count
to_folder known fid f reading offset count (Some files) =
    settled (reads_files known fid f reading offset count files)

-- a folder is read from its start, or from where the last read ended
abbrev pub to_stored : ViewState → (fid : ℕ) → Fid → Reading → (offset count : ℕ) → Stored → Answer
to_stored known fid f reading offset count (stored.File e) =
    reads_file e offset (min count (most_data known))
to_stored known fid f reading offset count (stored.Folder entries metadata) =
    if not (offset == 0) && not (offset == reading.offset) then refused_answer known BadOffset
    else to_folder known fid f reading offset count f.files

-- what a read is answered (read(5)): only a fid that is open is read
abbrev pub to_read : ViewState → (fid offset count : ℕ) → Fid → Option Reading → Answer
to_read known fid offset count f None = refused_answer known FidNotOpen
to_read known fid offset count f (Some reading) =
    to_stored known fid f reading offset count f.node.stored

-- ---- stat(5)

-- what a stat is answered (stat(5))
abbrev pub to_stat : ViewState → (msize : ℕ) → Fid → ViewOutcome
to_stat known msize f =
    let reply = r_stat (stat_of f.node) in
    if nat_lt msize (length (spelled_reply 0 reply)) then refuses known SmallCount
    else stays known reply

-- ---- all requests

-- the answer to a request of a fid, which must be known
abbrev pub of_fid : ViewState → (fid : ℕ) → (Fid → Answer) → Answer
of_fid known fid answer =
    option_map_or answer (fid_at fid known.fids) (refused_answer known UnknownFid)

-- where a version is agreed
abbrev pub answer_agreed : ViewState → (msize : ℕ) → TMessage → Answer
answer_agreed known msize (t_version wanted version) = settled (to_version known wanted version)
answer_agreed known msize (t_auth afid uname aname) = refused_answer known NoAuthentication
answer_agreed known msize (t_attach fid afid uname aname) = to_attach known fid afid
answer_agreed known msize (t_flush oldtag) = settled (stays known r_flush)
answer_agreed known msize (t_walk fid newfid names) =
    of_fid known fid (to_walk known fid newfid names)
answer_agreed known msize (t_open fid mode) =
    of_fid known fid (λ f. settled (to_open known msize fid mode f))
answer_agreed known msize (t_create fid name perm mode) =
    of_fid known fid (λ f. refused_answer known ReadOnly)
answer_agreed known msize (t_read fid offset count) =
    of_fid known fid (λ f. to_read known fid offset count f f.reading)
answer_agreed known msize (t_write fid offset bytes) =
    of_fid known fid (λ f. refused_answer known ReadOnly)
answer_agreed known msize (t_clunk fid) =
    of_fid known fid (λ f. settled (with_known known (without_fid fid known.fids) r_clunk))
answer_agreed known msize (t_remove fid) =
    of_fid known fid (λ f. settled
    (with_known known (without_fid fid known.fids) (r_error (refusal_words ReadOnly))))
answer_agreed known msize (t_stat fid) = of_fid known fid (λ f. settled (to_stat known msize f))
answer_agreed known msize (t_wstat fid stat) = of_fid known fid (λ f. refused_answer known ReadOnly)

-- where none is agreed
abbrev pub answer_first : ViewState → TMessage → Answer
answer_first known (t_version wanted version) = settled (to_version known wanted version)
answer_first known m = refused_answer known VersionExpected

-- what a request is answered, before a message size is agreed and behind that
abbrev pub answer_request : ViewState → Option ℕ → TMessage → Answer
answer_request known None m = answer_first known m
answer_request known (Some msize) m = answer_agreed known msize m

-- what is answered to what came in, be it a request or not
abbrev pub answer_to : ViewState → Asked → Answer
answer_to known unknown = refused_answer known UnknownMessage
answer_to known misspelled = refused_answer known BadMessage
answer_to known (request m) = answer_request known known.msize m
