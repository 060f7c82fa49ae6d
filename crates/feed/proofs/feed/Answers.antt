-- `feed::feed` meets its contract: soundness, the reader, the channel, the heading and the loop's record saved.
use mathlib.Core.Path.{refl, sym}
use native.Mathlib.Omega.{arith}
use Rattle.sound.proofs.Readers.{formed, marks, named}
use Rattle.feed.proofs.Steps.{unsound, asked, small, done}
use Rattle.feed.proofs.feed.Goals as goal

pub returns-then-not-sound : goal.returns-then-not-sound
returns-then-not-sound c = unsound _ _ (sym c.if-not-sound.ensures)

pub load_heading-h-requires : goal.load_heading-h-requires
load_heading-h-requires c = let h = sym c.if-not-sound.ensures in ((formed _ h).long, marks _ h)

pub load_loop-l-requires : goal.load_loop-l-requires
load_loop-l-requires c = let h = sym c.if-not-sound.ensures in ((formed _ h).long, named _ h)

pub give-f-requires : goal.give-f-requires
give-f-requires c =
    let h = sym c.if-not-sound.ensures in
    asked _ _ _ c.load_heading-h.ensures _ _ _ c.read-r.ensures _ c.load_loop-l.ensures h refl

pub overflow_add-result : goal.overflow_add-result
overflow_add-result c =
    let h = sym c.if-not-sound.ensures in
    let a = small _ _ _ c.load_heading-h.ensures _ c.load_loop-l.ensures _ _ _ c.read-r.ensures _ _ _ h c.give-f.ensures.gives in
    omega (arith, a)

pub returns : goal.returns
returns c =
    let h = sym c.if-not-sound.ensures in
    rw (c.save_loop.ensures, c.save_heading.ensures, c.from.ensures, c.from-2.ensures)
    (done _ _ _ c.load_heading-h.ensures _ c.load_loop-l.ensures _ _ _ c.read-r.ensures _ _ _ h c.give-f.ensures.gives _ c.waiting.ensures)
