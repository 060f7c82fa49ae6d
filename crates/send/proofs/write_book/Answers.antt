-- `write_book` meets its contract: the book can be written, and a message that is written is short.
use Rattle.book.specs.Canonical.{held_in}
use Rattle.book.specs.Sides.{no_entry}
use Rattle.line.specs.Entries.{Writable}
use Rattle.snapshot.specs.Writing.{letter_of, Ready}
use Rattle.snapshot.proofs.Sides.{all_at}
use Rattle.writer.specs.Writing.{page_of}
use Rattle.send.proofs.Pages.{page_most, written_most}
use Rattle.send.proofs.write_book.Goals as goal

pub returns-clause-short : goal.returns-clause-short
returns-clause-short c =
    let x = c.args in
    let l = letter_of x.letter.now in
    let b = c.load_book-book.result in
    let r : Ready l x.id x.last b = rw c.load_book-book.ensures c.requires.2 in
    (written_most (page_of x.depth l x.id x.last b) x.out.now _ c.in_ok-write_page.ensures.value (page_most x.depth l x.id x.last b r)).1

pub invariant_of-sheet : goal.invariant_of-sheet
invariant_of-sheet c =
    let b = c.load_book-book.result in
    let r : Ready (letter_of c.args.letter.now) c.args.id c.args.last b = rw c.load_book-book.ensures c.requires.2 in
    record {
      id_low = r.id;
      last_low = r.last;
      kept = r.kept;
      bids = λ k. all_at Writable (held_in b.bids) k no_entry r.bids;
      offers = λ k. all_at Writable (held_in b.offers) k no_entry r.offers;
    }
