-- `write_sound` meets its contract, test by test.
use mathlib.Core.Path.{◌≡◌, sym, ap, ◌∙◌}
use mathlib.Core.Bool.{true, false}
use Prim.Native.Nat.{◌<◌}
use native.Mathlib.Omega.{arith}
use Rattle.heading.specs.Marks.{marked}
use Rattle.board.specs.Board.{look}
use Rattle.store.specs.Meaning.{loaded, heading_at, board_at, book_at}
use Rattle.snapshot.specs.Writing.{letter_of}
use Rattle.writer.specs.Writing.{page_of}
use Rattle.send.specs.Send.{Page, message, refusal, page_at, page_answer, page_out}
use Rattle.sound.proofs.Readers.{formed}
use Rattle.send.proofs.Facts.{ready}
use Rattle.send.proofs.Pages.{not_followed, is_waiting, is_live}
use Rattle.send.proofs.write_sound.Goals as goal

pub returns-then-h-i : goal.returns-then-h-i
returns-then-h-i c =
    let x = c.args in
    let xs = x.store.now in
    let h = c.load_heading-h.ensures in
    let e : c.find-i.result ≡ look x.id (board_at xs).insts = rw h at c.find-i.ensures.0 in
    let l = letter_of x.letter.now in
    let p : page_at (look x.id (board_at xs).insts) l x.id (board_at xs) ≡ refusal 20 = rw (← e) (not_followed (loaded xs) c.find-i.result l x.id (rw h at c.if-h-i.true)) in
    record {
      value = sym (ap (λ (y : Page). page_answer y x.out.now) p);
      out_after = sym (ap (λ (y : Page). page_out y x.out.now) p);
      short = tt;
    }

pub returns-then-waits : goal.returns-then-waits
returns-then-waits c =
    let x = c.args in
    let xs = x.store.now in
    let h = c.load_heading-h.ensures in
    let e : c.find-i.result ≡ look x.id (board_at xs).insts = rw h at c.find-i.ensures.0 in
    let l = letter_of x.letter.now in
    let w : marked (heading_at xs).marks c.find-i.result ≡ true = rw h at (sym c.waits.ensures ∙ c.if-waits.true) in
    let p : page_at (look x.id (board_at xs).insts) l x.id (board_at xs) ≡ refusal 21 = rw (← e) (is_waiting (loaded xs) c.find-i.result l x.id (rw h at c.if-h-i.false) w) in
    record {
      value = sym (ap (λ (y : Page). page_answer y x.out.now) p);
      out_after = sym (ap (λ (y : Page). page_out y x.out.now) p);
      short = tt;
    }

pub write_book-requires : goal.write_book-requires
write_book-requires c =
    let x = c.args in
    let xs = x.store.now in
    let s = c.requires.0 in
    let h = c.load_heading-h.ensures in
    let q : c.find-i.result < (loaded xs).head.followed = rw h at c.if-h-i.false in
    let f = formed xs s in
    (f.long, omega (arith, f.few, q), rw h (ready xs s c.find-i.result x.id x.letter.now.sender.now x.letter.now.target.now x.letter.now.k x.letter.now.m x.letter.now.time q c.requires.1 x.letter.now.is_moment))

pub returns : goal.returns
returns c =
    let x = c.args in
    let xs = x.store.now in
    let h = c.load_heading-h.ensures in
    let e : c.find-i.result ≡ look x.id (board_at xs).insts = rw h at c.find-i.ensures.0 in
    let l = letter_of x.letter.now in
    let w : marked (heading_at xs).marks c.find-i.result ≡ false = rw h at (sym c.waits.ensures ∙ c.if-waits.false) in
    let p : page_at (look x.id (board_at xs).insts) l x.id (board_at xs) ≡ message (page_of (heading_at xs).depth l x.id (heading_at xs).number (book_at xs c.find-i.result)) =
    rw (← e) (is_live (loaded xs) c.find-i.result l x.id (rw h at c.if-h-i.false) w) in
    record {
      value = rw p (rw h at c.write_book.ensures.value);
      out_after = rw p (rw h at c.write_book.ensures.out_after);
      short = c.write_book.ensures.short;
    }
