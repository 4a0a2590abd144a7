-- The texts of errors have room.
use Rattle.std.proofs.Common.{◌≡◌, ◌+◌, ◌-◌, ◌≤◌, ℕ, List, length, take, sym, subst, arith, length-take}
use Rattle.vt_tree.specs.declared.error.BlockErr.TheVariants as blocks
use Rattle.vt_tree.specs.declared.error.TreeErr.TheVariants as trees
use Rattle.vac_read.specs.declared.error.VacBad.{VacBad}
use Rattle.vac_read.specs.declared.error.VacBad.TheVariants.{Tree, Root, Meta, NoMemory}
use Rattle.nine_wire.specs.Frames.{spelled_reply}
use Rattle.nine_wire.specs.Messages.{IsString, RMessage, r_error}
use Rattle.nine_view.specs.declared.request_error.RequestError.{RequestError}
use Rattle.nine_view.specs.declared.request_error.RequestError.TheVariants.{UnknownMessage, BadMessage, VersionExpected, SmallSize, NoAuthentication, BadFid, FidInUse, TooManyFids, UnknownFid, ReadOnly, TooManyNames, FidIsOpen, NoDirectory, NoFile, FidNotOpen, BadOffset, SmallCount}
use Rattle.nine_view.specs.Failures.{failure_words}
use Rattle.nine_view.specs.Handling.{Says}
use Rattle.nine_view.specs.Refusals.{refusal_words}

words_short : (why : RequestError) → length (refusal_words why) ≤ 100
words_short UnknownMessage = omega arith
words_short BadMessage = omega arith
words_short VersionExpected = omega arith
words_short SmallSize = omega arith
words_short NoAuthentication = omega arith
words_short BadFid = omega arith
words_short FidInUse = omega arith
words_short TooManyFids = omega arith
words_short UnknownFid = omega arith
words_short ReadOnly = omega arith
words_short TooManyNames = omega arith
words_short FidIsOpen = omega arith
words_short NoDirectory = omega arith
words_short NoFile = omega arith
words_short FidNotOpen = omega arith
words_short BadOffset = omega arith
words_short SmallCount = omega arith

failure_short : (limit : ℕ) (bad : VacBad) → 256 ≤ limit
    → length (failure_words limit bad) + 9 ≤ limit
failure_short limit (Tree (trees.Block blocks.Fault)) least = omega arith
failure_short limit (Tree (trees.Block (blocks.Refused text))) least =
    omega (arith, length-take (limit - 9) text)
failure_short limit (Tree (trees.Block (blocks.WrongScore want found))) least = omega arith
failure_short limit (Tree (trees.Block (blocks.Damaged want found))) least = omega arith
failure_short limit (Tree (trees.Block blocks.NoMemory)) least = omega arith
failure_short limit (Tree trees.SourceFault) least = omega arith
failure_short limit (Tree (trees.BadEntry bad)) least = omega arith
failure_short limit (Tree (trees.BadBlock depth len)) least = omega arith
failure_short limit (Tree trees.TooLong) least = omega arith
failure_short limit (Tree trees.NoMemory) least = omega arith
failure_short limit (Root field) least = omega arith
failure_short limit (Meta at) least = omega arith
failure_short limit NoMemory least = omega arith

-- a text that leaves room for what stands round it
module _ (tag limit : ℕ) (text wanted : List ℕ) (is : text ≡ wanted)
    (short : length wanted + 9 ≤ limit) (most : limit ≤ 65536)
  where
    text_short : length text + 9 ≤ limit
    text_short = subst (λ (l : List ℕ). length l + 9 ≤ limit) (sym is) short

    pub error_fits : IsString text
    error_fits = let few = text_short in omega arith

    pub error_room : length (spelled_reply tag (r_error text)) ≤ limit
    error_room = let few = text_short in omega arith

    pub error_said : (len : ℕ) (out : List ℕ) → take len out ≡ spelled_reply tag (r_error text)
        → len ≡ length (spelled_reply tag (r_error text)) → Says tag limit out len (r_error wanted)
    error_said len out written len_is =
        let room = error_room in
        subst (λ (l : List ℕ). Says tag limit out len (r_error l)) is
        (record { fits = error_fits; is = written; len_is = len_is; short = omega arith })

pub refusal_room : (why : RequestError) → length (refusal_words why) + 9 ≤ 256
refusal_room why = let few = words_short why in omega arith

pub failure_room : (limit : ℕ) (bad : VacBad) → 256 ≤ limit
    → length (failure_words limit bad) + 9 ≤ limit
failure_room limit bad least = failure_short limit bad least

-- what has room in fewer bytes has room
pub says_less : (tag limit : ℕ) (out : List ℕ) (len : ℕ) (reply : RMessage) → 256 ≤ limit
    → Says tag 256 out len reply → Says tag limit out len reply
says_less tag limit out len reply least says =
    let short = says.short in
    record { fits = says.fits; is = says.is; len_is = says.len_is; short = omega arith }
