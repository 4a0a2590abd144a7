use Rattle.std.proofs.Common.{◌≡◌, ℕ, ◌+◌, Bool, false, cond, List, ◌<◌, length, get_or, drop, ◌∙◌, ap, arith, rules}
use Rattle.std.proofs.lemmas.List.{get_or_read}
use Rattle.vt_memdisk.specs.Cells.{byte_after}
use Rattle.vt_memdisk.proofs.Chosen.{chosen_more, choices_left}
use Rattle.vt_memdisk.proofs.choices.choose.Goals as goal

pub loop-i-preserved : goal.loop-i-preserved
loop-i-preserved c =
    let same = c.loop-i.invariant.same_length in
    let i : ℕ = c.loop-i.i in
    let choice : List ℕ = c.args.choice.now in
    let inside : i < length c.loop-i.content.items = omega arith in
    let in_pending : i < length c.args.pending.now.items = omega arith in
    let in_synced : i < length c.args.synced.now.items = omega arith in
    let flag : c.index-flag.result.now
    ≡ get_or c.args.pending.now.items i false =
    get_or_read c.args.pending.now.items i _ in_pending c.index-flag.ensures false in
    let synced : c.index.result.now
    ≡ get_or c.args.synced.now.items i 0 =
    get_or_read c.args.synced.now.items i _ in_synced c.index.ensures 0 in
    let written : c.index-in-loop-i.result.now
    ≡ get_or c.loop-i.content.items i 0 =
    get_or_read c.loop-i.content.items i _ inside c.index-in-loop-i.ensures 0 in
    record {
      same_length = search rules;
      used = omega (arith, c.next_place-next.ensures.bound);
      so_far = chosen_more c.args.pending.now.items c.args.synced.now.items c.loop-i.content.items
          choice i in_pending in_synced inside c.loop-i.next c.next_byte-byte.result
          (c.next_byte-byte.ensures ∙ (λ k. byte_after (flag k) (synced k) (written k)
          (drop c.loop-i.next choice)))
          (drop c.next_place-next.result choice)
          (ap (λ (k : ℕ). drop k choice) (c.next_place-next.ensures.value
          ∙ ap (λ (b : Bool). cond b (c.loop-i.next + 1) c.loop-i.next) flag)
          ∙ choices_left (get_or c.args.pending.now.items i false) c.loop-i.next choice)
          ∙ c.loop-i.invariant.so_far;
    }
