use Rattle.std.proofs.Common.{◌≡◌, ◌<◌, ℕ, length, get_or, arith, ap, subst}
use Rattle.std.proofs.lemmas.List.{get_or_read}
use Rattle.std.specs.List.{SwappedAt}
use Rattle.vt_memdisk.proofs.Sectors.{still_inverse, only_g}
use Rattle.vt_memdisk.proofs.dirty.Dirty.add.Goals as goal

pub invariant_of-self-clause-inverse : goal.invariant_of-self-clause-inverse
invariant_of-self-clause-inverse c =
    let s = c.args.self.now in
    let number : c.args.sector < length s.order.items = omega (arith, s.inverse.same_length) in
    let from : c.index-from.result.now
    ≡ get_or s.place.items c.args.sector 0 =
    get_or_read s.place.items c.args.sector _ c.requires c.index-from.ensures 0 in
    let in_order : s.count < length s.order.items = omega
    (arith, from, s.inverse.place_in_range c.args.sector number) in
    let other : c.index-other.result.now
    ≡ get_or s.order.items s.count 0 =
    get_or_read s.order.items s.count _ in_order c.index-other.ensures 0 in
    still_inverse s.order.items s.place.items c.swap.new.self.items c.swap-2.new.self.items
    c.args.sector s.count s.inverse number in_order (omega (arith, c.swap.ensures.len))
    (omega (arith, c.swap-2.ensures.len))
    (subst (λ (a : ℕ). SwappedAt s.order.items c.swap.new.self.items s.count a) from
    c.swap.ensures.by_index)
    (subst (λ (x : ℕ). SwappedAt s.place.items c.swap-2.new.self.items c.args.sector x) other
    c.swap-2.ensures.by_index)

pub returns-clause-added : goal.returns-clause-added
returns-clause-added c =
    let s = c.args.self.now in
    let number : c.args.sector < length s.order.items = omega (arith, s.inverse.same_length) in
    let from : c.index-from.result.now
    ≡ get_or s.place.items c.args.sector 0 =
    get_or_read s.place.items c.args.sector _ c.requires c.index-from.ensures 0 in
    let in_order : s.count < length s.order.items = omega
    (arith, from, s.inverse.place_in_range c.args.sector number) in
    let other : c.index-other.result.now
    ≡ get_or s.order.items s.count 0 =
    get_or_read s.order.items s.count _ in_order c.index-other.ensures 0 in
    omega (
      arith,
      c.swap-2.ensures.by_index.0 0,
      ap
          (λ (x : ℕ). get_or s.place.items x 0) other,
      s.inverse.place_of_number s.count in_order,
    )

pub returns-clause-others : goal.returns-clause-others
returns-clause-others c s below other here =
    let d = c.args.self.now in
    let number : c.args.sector < length d.order.items = omega (arith, d.inverse.same_length) in
    let from : c.index-from.result.now
    ≡ get_or d.place.items c.args.sector 0 =
    get_or_read d.place.items c.args.sector _ c.requires c.index-from.ensures 0 in
    let in_order : d.count < length d.order.items = omega
    (arith, from, d.inverse.place_in_range c.args.sector number) in
    let at : c.index-other.result.now
    ≡ get_or d.order.items d.count 0 =
    get_or_read d.order.items d.count _ in_order c.index-other.ensures 0 in
    only_g d.order.items d.place.items c.swap.new.self.items c.swap-2.new.self.items c.args.sector
    d.count d.inverse number in_order
    (omega (arith, c.swap.ensures.len)) (omega (arith, c.swap-2.ensures.len))
    (subst (λ (a : ℕ). SwappedAt d.order.items c.swap.new.self.items d.count a) from
    c.swap.ensures.by_index)
    (subst (λ (x : ℕ). SwappedAt d.place.items c.swap-2.new.self.items c.args.sector x) at
    c.swap-2.ensures.by_index)
    (omega (arith, from)) s (omega (arith, d.inverse.same_length)) other here
