-- `put_summary` meets its contract: the heading's numbers are the board's.
use Rattle.std.proofs.Common.{arith, length-set}
use Rattle.sound.proofs.Readers.{formed, marks}
use Rattle.summary.proofs.Words.{heard, put_is}
use Rattle.summary.proofs.put_summary.Goals as goal

pub load_heading-h-requires : goal.load_heading-h-requires
load_heading-h-requires c = let s = c.requires.0 in ((formed c.args.store.now s).long, marks c.args.store.now s)

pub put_heard-requires : goal.put_heard-requires
put_heard-requires c =
    let p = c.requires in
    (simp length-set (omega (arith, p.1)), rw c.load_heading-h.ensures (heard c.args.store.now p.0))

pub returns : goal.returns
returns c =
    let x = c.args in
    let h = c.load_heading-h.ensures in
    let e = rw h at c.put_heard.ensures in
    rw (c.from.ensures, h, e) (put_is x.out.now x.store.now c.requires.0)
