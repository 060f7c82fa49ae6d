-- A dry run for the length; then 8 and 9, the body, and 10 with the sum. Assumes nothing.
use Prim.Native.Nat.{◌+◌, ◌≤◌, ◌<◌}
use Rattle.chain.specs.Bytes.{bytes_of}
use Rattle.text.specs.Text.{width_of}
use Rattle.writer.proofs.Pages.{short_written, short_after, done_written, done_after}
use Rattle.snapshot.specs.Snapshot.{snapshot_bytes}
use Rattle.snapshot.specs.Writing.{fields_in}
use lib.ListN.{length}
use mathlib.Core.Path.{◌≡◌, sym, ◌∙◌}
use native.Mathlib.Omega.{arith}
use Rattle.writer.proofs.write_page.Goals as goal

pub returns-then-out-n : goal.returns-then-out-n
unfolding snapshot_bytes
returns-then-out-n c =
    let x = c.args in
    let fs = fields_in x.letter.now x.sheet.now in
    let n = c.body-n.result in
    let size : n ≡ length (bytes_of fs) = omega (arith, c.body-n.ensures.0.next) in
    let h : length x.out.now < n + width_of n + 20 = rw (← c.width-w.ensures.0) c.if-out-n.true in
    record { value = sym (short_written fs n size x.out.now h); out_after = sym (short_after fs n size x.out.now h) }

pub returns : goal.returns
unfolding snapshot_bytes
returns c =
    let x = c.args in
    let fs = fields_in x.letter.now x.sheet.now in
    let n = c.body-n.result in
    let size : n ≡ length (bytes_of fs) = omega (arith, c.body-n.ensures.0.next) in
    let h : n + width_of n + 20 ≤ length x.out.now = rw (← c.width-w.ensures.0) c.if-out-n.false in
    let u = c.opening-a.ensures.0 in
    let v = c.body-b.ensures.0 in
    let s = c.from.ensures ∙ c.sum.ensures in
    let w = c.field.ensures.0 in
    record {
      value = done_written fs n size x.out.now _ _ _ _ _ _ _ h u v s w;
      out_after = done_after fs n size x.out.now _ _ _ _ _ _ _ h u v s w;
    }
