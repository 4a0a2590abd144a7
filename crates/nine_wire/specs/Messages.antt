-- The messages of 9P2000 (manual section 5, intro(5)): what they say, and how they are spelled.
-- Numbers have their lowest byte first.
use Rattle.std.specs.Prelude.{◌≡◌, ◌<◌, ◌+◌, ◌^◌, ◌==◌, ◌||◌, ⊤, Bool, if◌then◌else◌, ℕ, List, [], ◌∷◌, ◌++◌, length}
use Rattle.std.specs.List.{AllByRecursion, flat_map}
use Rattle.byteorder.specs.Endian.{little_bytes}

-- ---- what is said

-- a message of a client
pub data TMessage : Type 0 where
  t_version : (msize : ℕ) (version : List ℕ) → TMessage
  t_auth : (afid : ℕ) (uname aname : List ℕ) → TMessage
  t_attach : (fid afid : ℕ) (uname aname : List ℕ) → TMessage
  t_flush : (oldtag : ℕ) → TMessage
  t_walk : (fid newfid : ℕ) (names : List (List ℕ)) → TMessage
  t_open : (fid mode : ℕ) → TMessage
  t_create : (fid : ℕ) (name : List ℕ) (perm mode : ℕ) → TMessage
  t_read : (fid offset count : ℕ) → TMessage
  t_write : (fid offset : ℕ) (bytes : List ℕ) → TMessage
  t_clunk : (fid : ℕ) → TMessage
  t_remove : (fid : ℕ) → TMessage
  t_stat : (fid : ℕ) → TMessage
  t_wstat : (fid : ℕ) (stat : List ℕ) → TMessage

-- a server's name for a file: whether it is a folder, and its number; its version is always 0 here
pub record Qid : Type 0 where
  pub folder : Bool
  pub path : ℕ

-- What stat(5) tells of a file. Type and dev are 0, atime is mtime, and muid is uid.
pub record Stat : Type 0 where
  pub qid : Qid
  pub mode : ℕ
  pub mtime : ℕ
  pub len : ℕ
  pub name : List ℕ
  pub uid : List ℕ
  pub gid : List ℕ

-- a message of this server, which has no others
pub data RMessage : Type 0 where
  r_version : (msize : ℕ) (version : List ℕ) → RMessage
  r_attach : (qid : Qid) → RMessage
  r_flush : RMessage
  r_walk : (qids : List Qid) → RMessage
  r_open : (qid : Qid) (iounit : ℕ) → RMessage
  r_read : (bytes : List ℕ) → RMessage
  r_clunk : RMessage
  r_stat : (stat : Stat) → RMessage
  r_error : (text : List ℕ) → RMessage

-- ---- how it is spelled

-- `name[s]`: two bytes of length, and so many bytes
abbrev pub string : List ℕ → List ℕ
string bytes = little_bytes 2 (length bytes) ++ bytes

-- what a string can count
abbrev pub IsString : List ℕ → Type 0
IsString bytes = length bytes < 2 ^ 16

-- the type of a request's frame (intro(5))
abbrev pub request_type : TMessage → ℕ
request_type (t_version msize version) = 100
request_type (t_auth afid uname aname) = 102
request_type (t_attach fid afid uname aname) = 104
request_type (t_flush oldtag) = 108
request_type (t_walk fid newfid names) = 110
request_type (t_open fid mode) = 112
request_type (t_create fid name perm mode) = 114
request_type (t_read fid offset count) = 116
request_type (t_write fid offset bytes) = 118
request_type (t_clunk fid) = 120
request_type (t_remove fid) = 122
request_type (t_stat fid) = 124
request_type (t_wstat fid stat) = 126

-- a T-message has this type
abbrev pub is_request_type : ℕ → Bool
is_request_type t =
    t == 100 || t == 102 || t == 104 || t == 108 || t == 110 || t == 112 || t == 114
    || t == 116 || t == 118 || t == 120 || t == 122 || t == 124 || t == 126

-- the bytes behind type and tag of a request
abbrev pub parameters : TMessage → List ℕ
parameters (t_version msize version) = little_bytes 4 msize ++ string version
parameters (t_auth afid uname aname) = little_bytes 4 afid ++ (string uname ++ string aname)
parameters (t_attach fid afid uname aname) =
    little_bytes 4 fid ++ (little_bytes 4 afid ++ (string uname ++ string aname))
parameters (t_flush oldtag) = little_bytes 2 oldtag
parameters (t_walk fid newfid names) =
    little_bytes 4 fid ++ (little_bytes 4 newfid
    ++ (little_bytes 2 (length names) ++ flat_map string names))
parameters (t_open fid mode) = little_bytes 4 fid ++ mode ∷ []
parameters (t_create fid name perm mode) =
    little_bytes 4 fid ++ (string name ++ (little_bytes 4 perm ++ mode ∷ []))
parameters (t_read fid offset count) =
    little_bytes 4 fid ++ (little_bytes 8 offset ++ little_bytes 4 count)
parameters (t_write fid offset bytes) =
    little_bytes 4 fid ++ (little_bytes 8 offset ++ (little_bytes 4 (length bytes) ++ bytes))
parameters (t_clunk fid) = little_bytes 4 fid
parameters (t_remove fid) = little_bytes 4 fid
parameters (t_stat fid) = little_bytes 4 fid
parameters (t_wstat fid stat) = little_bytes 4 fid ++ string stat

-- the parameters have their widths
abbrev pub Fits : TMessage → Type 0
Fits (t_version msize version) = (msize < 2 ^ 32) × IsString version
Fits (t_auth afid uname aname) = (afid < 2 ^ 32) × IsString uname × IsString aname
Fits (t_attach fid afid uname aname) =
    (fid < 2 ^ 32) × (afid < 2 ^ 32) × IsString uname × IsString aname
Fits (t_flush oldtag) = oldtag < 2 ^ 16
Fits (t_walk fid newfid names) =
    (fid < 2 ^ 32) × (newfid < 2 ^ 32) × (length names < 2 ^ 16) × AllByRecursion IsString names
Fits (t_open fid mode) = (fid < 2 ^ 32) × (mode < 2 ^ 8)
Fits (t_create fid name perm mode) =
    (fid < 2 ^ 32) × IsString name × (perm < 2 ^ 32) × (mode < 2 ^ 8)
Fits (t_read fid offset count) = (fid < 2 ^ 32) × (offset < 2 ^ 64) × (count < 2 ^ 32)
Fits (t_write fid offset bytes) = (fid < 2 ^ 32) × (offset < 2 ^ 64) × (length bytes < 2 ^ 32)
Fits (t_clunk fid) = fid < 2 ^ 32
Fits (t_remove fid) = fid < 2 ^ 32
Fits (t_stat fid) = fid < 2 ^ 32
Fits (t_wstat fid stat) = (fid < 2 ^ 32) × IsString stat

-- the parameters of a message of this type spell it
pub record SpellsBody (m : TMessage) (type : ℕ) (bytes : List ℕ) : Type 0 where
  pub type_is : type ≡ request_type m
  pub fits : Fits m
  pub is : bytes ≡ parameters m

-- type[1] vers[4] path[8]
abbrev pub qid_bytes : Qid → List ℕ
qid_bytes q = (if q.folder then 0x80 else 0) ∷ (little_bytes 4 0 ++ little_bytes 8 q.path)

-- type[2] dev[4] qid[13] mode[4] atime[4] mtime[4] length[8]
abbrev pub stat_numbers : Stat → List ℕ
stat_numbers s =
    little_bytes 2 0 ++ (little_bytes 4 0 ++ (qid_bytes s.qid ++ (little_bytes 4 s.mode
    ++ (little_bytes 4 s.mtime ++ (little_bytes 4 s.mtime ++ little_bytes 8 s.len)))))

-- The fields of a stat: those of its numbers, and behind them name[s] uid[s] gid[s] muid[s].
abbrev pub stat_fields : Stat → List ℕ
stat_fields s =
    stat_numbers s ++ (string s.name ++ (string s.uid ++ (string s.gid ++ string s.uid)))

-- size[2], which doesn't count itself, and the fields
abbrev pub stat_bytes : Stat → List ℕ
stat_bytes s = string (stat_fields s)

-- the type of a reply's frame (intro(5))
abbrev pub reply_type : RMessage → ℕ
reply_type (r_version msize version) = 101
reply_type (r_attach qid) = 105
reply_type (r_error text) = 107
reply_type r_flush = 109
reply_type (r_walk qids) = 111
reply_type (r_open qid iounit) = 113
reply_type (r_read bytes) = 117
reply_type r_clunk = 121
reply_type (r_stat stat) = 125

-- the bytes behind type and tag of a reply
abbrev pub reply_parameters : RMessage → List ℕ
reply_parameters (r_version msize version) = little_bytes 4 msize ++ string version
reply_parameters (r_attach qid) = qid_bytes qid
reply_parameters (r_error text) = string text
reply_parameters r_flush = []
reply_parameters (r_walk qids) = little_bytes 2 (length qids) ++ flat_map qid_bytes qids
reply_parameters (r_open qid iounit) = qid_bytes qid ++ little_bytes 4 iounit
reply_parameters (r_read bytes) = little_bytes 4 (length bytes) ++ bytes
reply_parameters r_clunk = []
reply_parameters (r_stat stat) = string (stat_bytes stat)

-- the numbers have their widths
pub record FitsStat (s : Stat) : Type 0 where
  pub path : s.qid.path < 2 ^ 64
  pub mode : s.mode < 2 ^ 32
  pub mtime : s.mtime < 2 ^ 32
  pub len : s.len < 2 ^ 64
  pub whole : length (stat_bytes s) < 2 ^ 16

-- the reply can be sent
abbrev pub FitsReply : RMessage → Type 0
FitsReply (r_version msize version) = (msize < 2 ^ 32) × IsString version
FitsReply (r_attach qid) = qid.path < 2 ^ 64
FitsReply (r_error text) = IsString text
FitsReply r_flush = ⊤
FitsReply (r_walk qids) = (length qids < 2 ^ 16) × AllByRecursion (λ q. q.path < 2 ^ 64) qids
FitsReply (r_open qid iounit) = (qid.path < 2 ^ 64) × (iounit < 2 ^ 32)
FitsReply (r_read bytes) = 11 + length bytes < 2 ^ 32
FitsReply r_clunk = ⊤
FitsReply (r_stat stat) = FitsStat stat
