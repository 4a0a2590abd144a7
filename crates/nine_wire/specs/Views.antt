-- Messages of the code, as contracts see them.
use Rattle.std.specs.Prelude.{map}
use Rattle.nine_wire.specs.declared.message.Request.{Request}
use Rattle.nine_wire.specs.declared.message.Request.TheVariants as requests
use Rattle.nine_wire.specs.declared.message.Reply.{Reply}
use Rattle.nine_wire.specs.declared.message.Reply.TheVariants as replies
use Rattle.nine_wire.specs.declared.stat.Qid as qids
use Rattle.nine_wire.specs.declared.stat.Stat as stats
use Rattle.nine_wire.specs.Messages.{TMessage, t_version, t_auth, t_attach, t_flush, t_walk, t_open, t_create, t_read, t_write, t_clunk, t_remove, t_stat, t_wstat, Qid, Stat, RMessage, r_version, r_attach, r_flush, r_walk, r_open, r_read, r_clunk, r_stat, r_error}

-- the request that one in memory is
abbrev pub message_of : Request → TMessage
message_of (requests.Version msize version) = t_version msize version.now
message_of (requests.Auth afid uname aname) = t_auth afid uname.now aname.now
message_of (requests.Attach fid afid uname aname) = t_attach fid afid uname.now aname.now
message_of (requests.Flush oldtag) = t_flush oldtag
message_of (requests.Walk fid newfid names) = t_walk fid newfid names
message_of (requests.Open fid mode) = t_open fid mode
message_of (requests.Create fid name perm mode) = t_create fid name.now perm mode
message_of (requests.Read fid offset count) = t_read fid offset count
message_of (requests.Write fid offset bytes) = t_write fid offset bytes.now
message_of (requests.Clunk fid) = t_clunk fid
message_of (requests.Remove fid) = t_remove fid
message_of (requests.Stat fid) = t_stat fid
message_of (requests.Wstat fid stat) = t_wstat fid stat.now

-- the qid that one in memory is
abbrev pub wire_qid : qids.Qid → Qid
wire_qid q = record { folder = q.is_folder; path = q.path }

-- the stat that one in memory is
abbrev pub wire_stat : stats.Stat → Stat
wire_stat s = record {
  qid = wire_qid s.qid;
  mode = s.mode;
  mtime = s.mtime;
  len = s.len;
  name = s.name.now;
  uid = s.uid.now;
  gid = s.gid.now;
}

-- the reply that one in memory is
abbrev pub reply_of : Reply → RMessage
reply_of (replies.Version msize version) = r_version msize version.now
reply_of (replies.Attach qid) = r_attach (wire_qid qid)
reply_of replies.Flush = r_flush
reply_of (replies.Walk qids) = r_walk (map wire_qid qids.now)
reply_of (replies.Open qid iounit) = r_open (wire_qid qid) iounit
reply_of (replies.Read bytes) = r_read bytes.now
reply_of replies.Clunk = r_clunk
reply_of (replies.Stat stat) = r_stat (wire_stat stat)
reply_of (replies.Error text) = r_error text.now
