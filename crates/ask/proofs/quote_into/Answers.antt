-- `quote_into` meets its contract: the heading, the quote, its numbers.
use mathlib.Core.Path.{◌≡◌, sym, ap, ◌∙◌, subst}
use Rattle.heading.specs.declared.Heading.{Heading}
use Rattle.store.specs.Meaning.{board_of, board_at}
use Rattle.quote.specs.Quotes.{quote_of}
use Rattle.ask.specs.Ask.{quote_number}
use Rattle.ask.specs.Fine.{FineQuoted}
use Rattle.sound.proofs.Readers.{formed, board, marks}
use Rattle.ask.proofs.Facts.{ready}
use Rattle.ask.proofs.Quoting.{quoted_fine, room_by}
use Rattle.ask.proofs.quote_into.Goals as goal

pub load_heading-h-requires : goal.load_heading-h-requires
load_heading-h-requires c =
    let x = c.args in
    let s = c.requires.0 in
    ((formed x.store.now s).long, marks x.store.now s)

pub quote_for-q-requires : goal.quote_for-q-requires
quote_for-q-requires c =
    let x = c.args in
    rw c.load_heading-h.ensures (ready x.store.now c.requires.0)

pub tell-requires : goal.tell-requires
tell-requires c =
    let x = c.args in
    let s = c.requires.0 in
    let e : c.quote_for-q.result ≡ quote_of x.id x.time.now x.limit (board_at x.store.now) =
    c.quote_for-q.ensures ∙ ap (λ (h : Heading). quote_of x.id x.time.now x.limit (board_of h x.store.now)) c.load_heading-h.ensures in
    (c.requires.1, subst FineQuoted (sym e) (quoted_fine (board_at x.store.now) (board x.store.now s) x.id x.time.now x.limit))

pub returns : goal.returns
unfolding board_of
returns c =
    let x = c.args in
    let h = c.load_heading-h.ensures in
    let e : c.quote_for-q.result ≡ quote_of x.id x.time.now x.limit (board_at x.store.now) =
    c.quote_for-q.ensures ∙ ap (λ (h : Heading). quote_of x.id x.time.now x.limit (board_of h x.store.now)) h in
    let d : c.load_heading-h.result.depth ≡ (board_at x.store.now).depth = ap (λ (h : Heading). h.depth) h in
    record {
      value = c.tell.ensures.value ∙ ap quote_number e;
      out_after = c.tell.ensures.out_after ∙ room_by c.tell.result x.out.now d e;
    }
