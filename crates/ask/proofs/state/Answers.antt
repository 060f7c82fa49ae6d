-- `state` meets its contract, test by test.
use mathlib.Core.Path.{◌≡◌, sym, ◌∙◌}
use Prim.Native.Nat.{◌≤◌, ◌<◌}
use lib.ListN.{length}
use Rattle.board.specs.Board.{look}
use Rattle.store.specs.Meaning.{st, board_at, loaded}
use Rattle.store.specs.Canon.{Formed}
use Rattle.store.proofs.Decode.{insts_length}
use Rattle.sound.proofs.Readers.{formed, marks}
use Rattle.ask.proofs.States.{not_followed, stated}
use Rattle.ask.proofs.state.Goals as goal

pub load_heading-h-requires : goal.load_heading-h-requires
load_heading-h-requires c =
    let x = c.args in
    let s = sym c.sound.ensures ∙ c.if-not-sound.false in
    ((formed x.store.now s).long, marks x.store.now s)

pub find-i-requires : goal.find-i-requires
find-i-requires c =
    let x = c.args in
    let s = sym c.sound.ensures ∙ c.if-not-sound.false in
    let f : Formed (st c.load_heading-h.result x.store.now) = rw c.load_heading-h.ensures (formed x.store.now s) in
    (f.long, f.few)

pub returns-then-h-i : goal.returns-then-h-i
returns-then-h-i c =
    let x = c.args in
    let s = sym c.sound.ensures ∙ c.if-not-sound.false in
    let h = c.load_heading-h.ensures in
    let e : c.find-i.result ≡ look x.id (board_at x.store.now).insts = rw h at c.find-i.ensures.0 in
    let n = insts_length (loaded x.store.now) in
    let k : length (board_at x.store.now).insts ≤ look x.id (board_at x.store.now).insts = rw (n, ← e) (rw h at c.if-h-i.true) in
    not_followed x.id x.out.now x.store.now s c.if-out-lt-STATE.false (sym c.is_id.ensures ∙ c.if-not-is_id.false) k

pub put_state-requires : goal.put_state-requires
put_state-requires c =
    let x = c.args in
    let s = sym c.sound.ensures ∙ c.if-not-sound.false in
    (rw c.load_heading-h.ensures (formed x.store.now s), c.if-h-i.false, c.if-out-lt-STATE.false)

pub returns : goal.returns
returns c =
    let x = c.args in
    let s = sym c.sound.ensures ∙ c.if-not-sound.false in
    let h = c.load_heading-h.ensures in
    let e : c.find-i.result ≡ look x.id (board_at x.store.now).insts = rw h at c.find-i.ensures.0 in
    let n = insts_length (loaded x.store.now) in
    let k : look x.id (board_at x.store.now).insts < length (board_at x.store.now).insts = rw (n, ← e) (rw h at c.if-h-i.false) in
    let t = stated x.id x.out.now x.store.now s c.if-out-lt-STATE.false (sym c.is_id.ensures ∙ c.if-not-is_id.false) k in
    record { answer = t.answer; out = c.put_state.ensures ∙ rw (h, e) t.out }
