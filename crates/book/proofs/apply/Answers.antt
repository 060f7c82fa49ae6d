-- `apply` meets its contract: a breach is one of the book that was there.
use Rattle.std.proofs.lemmas.Result.{err_from_is_err_and}
use Rattle.book.proofs.Breaches.{book_refused}
use Rattle.book.proofs.apply.Goals as goal

pub returns-in_err-work : goal.returns-in_err-work
returns-in_err-work c =
    let p = err_from_is_err_and c.from_residual.result c.from_residual.ensures.1 in
    rw (p.1, p.2) (book_refused c.args.b _ c.args.u _ c.in_err-work.ensures)
