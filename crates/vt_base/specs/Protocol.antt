-- The messages of venti(6), apart from how they are spelled: what a client sends, and what a server sends back.
use Rattle.std.specs.Prelude.{ℕ, List, codes}
use Rattle.vt_base.specs.declared.why.Why.{Why}
use Rattle.vt_base.specs.declared.why.Why.TheVariants.{BadType, TooBig, TooSmall, Absent, Collision, IndexFull, ArenasFull, DiskFault, Stopped, Damaged, NoMemory}

-- What a client asks of the store: Tping, Tread, Twrite and Tsync. The kind is the number as it came, of a block
-- type or not.
pub data Operation : Type 0 where
  ping : Operation
  read : (score : List ℕ) (kind count : ℕ) → Operation
  write : (kind : ℕ) (bytes : List ℕ) → Operation
  sync : Operation

-- a message of a client: Thello, Tgoodbye, or an operation
pub data TMessage : Type 0 where
  t_hello : (version : List ℕ) → TMessage
  t_goodbye : TMessage
  t_ask : Operation → TMessage

-- a message of a server
pub data RMessage : Type 0 where
  r_ping : RMessage
  r_hello : RMessage
  r_read : (bytes : List ℕ) → RMessage
  r_write : (score : List ℕ) → RMessage
  r_sync : RMessage
  r_error : (text : List ℕ) → RMessage

-- the text of an Rerror that says why a request was not done
abbrev pub why_words : Why → List ℕ
why_words BadType = codes "bad type"
why_words TooBig = codes "block too big"
why_words TooSmall = codes "count too small"
why_words Absent = codes "no such block"
why_words Collision = codes "score collision"
why_words IndexFull = codes "index full"
why_words ArenasFull = codes "arenas full"
why_words DiskFault = codes "disk fault"
why_words (Stopped first) = codes "store stopped"
why_words (Damaged site want found) = codes "block damaged"
why_words NoMemory = codes "no memory"

-- the reply that says why a request is refused
abbrev pub r_refused : Why → RMessage
r_refused why = r_error (why_words why)
