-- `put_quote` meets its contract, part by part.
use mathlib.Core.Path.{◌∙◌}
use Rattle.ask.proofs.Words.{quote_is}
use Rattle.ask.proofs.put_quote.Goals as goal

pub returns : goal.returns
returns c =
    let x = c.args in
    c.put_top-2.ensures ∙ rw (c.put_top.ensures, c.put_moment.ensures) (quote_is x.out.now x.depth x.q)
