use Rattle.std.proofs.Common.{◌+◌, ◌-◌, refl, take, drop, set}
use Rattle.vt_bucket.proofs.Entries.{turned_in}
use Rattle.vt_bucket.proofs.holding.insert_at.Goals as goal

pub returns : goal.returns
returns c =
    turned_in c.args.table.now (take (c.args.len + 1 - c.args.at) (drop c.args.at (set c.args.table.now c.args.len c.args.entry))) c.rotate_right.new.self
    c.args.len c.args.at c.args.entry c.requires.place c.requires.room refl c.rotate_right.ensures.after
