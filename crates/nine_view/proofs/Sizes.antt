-- How many bytes replies have.
use Rattle.std.proofs.Common.{◌≡◌, ◌+◌, ◌*◌, ℕ, List, [], ◌∷◌, length, refl, arith, length-append}
use Rattle.std.specs.List.{flat_map}
use Rattle.nine_wire.specs.Frames.{spelled_reply}
use Rattle.nine_wire.specs.Messages.{Qid, Stat, RMessage, qid_bytes, stat_bytes, r_stat, r_walk, reply_parameters}

pub spelled_len : (tag : ℕ) (reply : RMessage)
    → length (spelled_reply tag reply) ≡ 7 + length (reply_parameters reply)
spelled_len tag reply = omega arith

qids_len : (qids : List Qid) → length (flat_map qid_bytes qids) ≡ 13 * length qids
qids_len [] = refl
qids_len (qid ∷ qids) =
    let rest = qids_len qids in
    omega (arith, length-append (qid_bytes qid) (flat_map qid_bytes qids))

pub walk_len : (tag : ℕ) (qids : List Qid)
    → length (spelled_reply tag (r_walk qids)) ≡ 9 + 13 * length qids
walk_len tag qids = let all = qids_len qids in omega arith

pub stat_len : (tag : ℕ) (stat : Stat)
    → length (spelled_reply tag (r_stat stat)) ≡ 9 + length (stat_bytes stat)
stat_len tag stat = omega arith
