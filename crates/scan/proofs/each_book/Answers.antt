-- `each_book` meets its contract: all sides are sound at once, or `all` asks each book.
use Rattle.std.proofs.Common.{ℕ, Bool, refl, sym, ◌∙◌, arith, rules, tests}
use Rattle.std.proofs.lemmas.Iterator.{YieldsList-from_range}
use Rattle.std.proofs.lemmas.Iterator.Search.{all_from_yields_List}
use Rattle.store.specs.Layout.{bids_of}
use Rattle.sides.specs.Side.{room_of}
use Rattle.sides.proofs.Each.{each_range}
use Rattle.scan.specs.Scan.{book_scan}
use Rattle.scan.proofs.Booked.{books_fine}
use Rattle.scan.proofs.each_book.Goals as goal

pub returns-then-tried : goal.returns-then-tried
returns-then-tried c =
    let a = c.args in
    sym (books_fine a.limits.most a.limits.full a.marks a.store.now a.n (c.tried.ensures c.if-tried.true))

pub returns : goal.returns
returns c =
    let a = c.args in
    let f : ℕ → Bool = λ (k : ℕ). book_scan (room_of a.marks k) a.limits.most a.limits.full a.store.now (bids_of k) in
    all_from_yields_List f _ _ _ c.all.ensures.ran (YieldsList-from_range 0 a.n a.n refl (omega arith)) (λ x b q k. search (rules, tests))
    ∙ each_range f a.n
