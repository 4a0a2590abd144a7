-- What the view says where it refuses a request (error(5)).
use Rattle.std.specs.Prelude.{List, ℕ, codes}
use Rattle.nine_view.specs.declared.request_error.RequestError.{RequestError}
use Rattle.nine_view.specs.declared.request_error.RequestError.TheVariants.{UnknownMessage, BadMessage, VersionExpected, SmallSize, NoAuthentication, BadFid, FidInUse, TooManyFids, UnknownFid, ReadOnly, TooManyNames, FidIsOpen, NoDirectory, NoFile, FidNotOpen, BadOffset, SmallCount}

-- the text of the error that tells why a request is refused
abbrev pub refusal_words : RequestError → List ℕ
refusal_words UnknownMessage = codes "unknown message"
refusal_words BadMessage = codes "bad message"
refusal_words VersionExpected = codes "version expected"
refusal_words SmallSize = codes "msize too small"
refusal_words NoAuthentication = codes "no authentication"
refusal_words BadFid = codes "bad fid"
refusal_words FidInUse = codes "fid in use"
refusal_words TooManyFids = codes "too many fids"
refusal_words UnknownFid = codes "unknown fid"
refusal_words ReadOnly = codes "read-only file system"
refusal_words TooManyNames = codes "too many names"
refusal_words FidIsOpen = codes "fid is open"
refusal_words NoDirectory = codes "not a directory"
refusal_words NoFile = codes "file does not exist"
refusal_words FidNotOpen = codes "fid not open"
refusal_words BadOffset = codes "bad offset"
refusal_words SmallCount = codes "count too small"
