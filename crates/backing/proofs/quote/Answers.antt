-- `quote` meets its contract: the store first, then the quote, and the side of an instrument that is followed.
use Rattle.std.proofs.Common.{sym, ap, ◌∙◌}
use Rattle.heading.specs.declared.Heading.{Heading}
use Rattle.board.specs.Board.{look}
use Rattle.store.specs.Meaning.{board_of}
use Rattle.sound.proofs.Readers.{formed, marks}
use Rattle.quote.specs.Quotes.{quote_of}
use Rattle.ask.proofs.Facts.{ready}
use Rattle.backing.proofs.Sides.{unsound, passed_on, low, backs}
use Rattle.backing.proofs.quote.Goals as goal

pub returns-then-not-sound : goal.returns-then-not-sound
returns-then-not-sound c = let x = c.args in unsound x.buying x.id x.time.now x.limit x.store.now (sym c.if-not-sound.ensures)

pub load_heading-h-requires : goal.load_heading-h-requires
load_heading-h-requires c = let s = (sym c.if-not-sound.ensures) in ((formed c.args.store.now s).long, marks c.args.store.now s)

pub quote_for-requires : goal.quote_for-requires
quote_for-requires c = rw c.load_heading-h.ensures (ready c.args.store.now (sym c.if-not-sound.ensures))

pub returns-in_err-quote : goal.returns-in_err-quote
returns-in_err-quote c =
    let x = c.args in
    let e = sym (c.in_err-quote.ensures ∙ ap (λ (h : Heading). quote_of x.id x.time.now x.limit (board_of h x.store.now)) c.load_heading-h.ensures) in
    passed_on x.buying x.id x.time.now x.limit x.store.now (sym c.if-not-sound.ensures) _ e _ c.from_residual.ensures.1

pub find-requires : goal.find-requires
find-requires c = let f = formed c.args.store.now (sym c.if-not-sound.ensures) in (f.long, rw c.load_heading-h.ensures f.few)

pub load-side-requires : goal.load-side-requires
load-side-requires c =
    let x = c.args in
    let s = (sym c.if-not-sound.ensures) in
    let h = c.load_heading-h.ensures in
    let e = sym (c.in_ok-quote.ensures ∙ ap (λ (h : Heading). quote_of x.id x.time.now x.limit (board_of h x.store.now)) h) in
    let w = c.find.ensures.0 ∙ ap (λ (h : Heading). look x.id (board_of h x.store.now).insts) h in
    ((formed x.store.now s).long, low x.buying x.id x.time.now x.limit x.store.now s _ e _ w)

pub returns : goal.returns
returns c =
    let x = c.args in
    let h = c.load_heading-h.ensures in
    let e = sym (c.in_ok-quote.ensures ∙ ap (λ (h : Heading). quote_of x.id x.time.now x.limit (board_of h x.store.now)) h) in
    let w = c.find.ensures.0 ∙ ap (λ (h : Heading). look x.id (board_of h x.store.now).insts) h in
    backs x.buying x.id x.time.now x.limit x.store.now (sym c.if-not-sound.ensures) _ e _ _ w c.load-side.ensures
