-- Messages of the code, as contracts see them.
use Rattle.vt_base.specs.Protocol.{ping, read, write, sync, TMessage, t_hello, t_goodbye, t_ask, RMessage, r_ping, r_hello, r_read, r_write, r_sync, r_error}
use Rattle.vt_wire.specs.declared.message.Request.{Request}
use Rattle.vt_wire.specs.declared.message.Request.TheVariants as requests
use Rattle.vt_wire.specs.declared.message.Reply.{Reply}
use Rattle.vt_wire.specs.declared.message.Reply.TheVariants as replies

-- the request that one in memory is
abbrev pub message_of : Request → TMessage
message_of requests.Ping = t_ask ping
message_of (requests.Hello version) = t_hello version.now
message_of requests.Goodbye = t_goodbye
message_of (requests.Read score kind count) = t_ask (read score.0 kind count)
message_of (requests.Write kind bytes) = t_ask (write kind bytes.now)
message_of requests.Sync = t_ask sync

-- the reply that one in memory is
abbrev pub reply_of : Reply → RMessage
reply_of replies.Ping = r_ping
reply_of replies.Hello = r_hello
reply_of (replies.Read bytes) = r_read bytes.now
reply_of (replies.Write score) = r_write score.0
reply_of replies.Sync = r_sync
reply_of (replies.Error text) = r_error text.now
