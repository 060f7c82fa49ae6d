-- `try_write` meets its contract: the store first, then the arguments, then the instrument.
use Rattle.std.proofs.lemmas.Result.{err_from_is_err_and}
use Rattle.std.specs.Prelude.{Some}
use mathlib.Core.Path.{◌≡◌, sym, ap, ◌∙◌}
use native.Mathlib.Omega.{arith}
use Rattle.moment.specs.Moments.{moment_of}
use Rattle.moment.proofs.Bounds.{moment_lt}
use Rattle.send.specs.Results.{number_in}
use Rattle.send.proofs.Facts.{fine}
use Rattle.send.proofs.Pages.{unsound, no_time, bad, good}
use Rattle.send.proofs.try_write.Goals as goal

pub returns-then-not-sound-clause-sent : goal.returns-then-not-sound-clause-sent
returns-then-not-sound-clause-sent c =
    let x = c.args in
    unsound x.id x.sender.now x.target.now x.k x.m x.time.now x.out.now x.store.now (sym c.sound.ensures ∙ c.if-not-sound.true)

pub returns-in_err-time-clause-sent : goal.returns-in_err-time-clause-sent
returns-in_err-time-clause-sent c =
    let x = c.args in
    let h = c.in_err-time.ensures in
    let y = err_from_is_err_and c.from_residual.result c.from_residual.ensures.1 in
    let e : number_in c.from_residual.result ≡ 18 = rw (y.1, y.2) (ap number_in (rw h.ok_part at h.value)) in
    let s = sym c.sound.ensures ∙ c.if-not-sound.false in
    rw e (no_time x.id x.sender.now x.target.now x.k x.m x.time.now x.out.now x.store.now s (sym c.moment.ensures ∙ h.ok_part))

pub returns-then-not-arguments_fine-clause-sent : goal.returns-then-not-arguments_fine-clause-sent
returns-then-not-arguments_fine-clause-sent c =
    let x = c.args in
    let s = sym c.sound.ensures ∙ c.if-not-sound.false in
    let a = sym c.arguments_fine.ensures ∙ c.if-not-arguments_fine.true in
    bad x.id x.sender.now x.target.now x.k x.m x.time.now x.out.now x.store.now c.in_ok-time.time s (sym c.moment.ensures ∙ c.in_ok-time.ensures.ok_part) a

pub invariant_of-letter : goal.invariant_of-letter
invariant_of-letter c =
    let x = c.args in
    let f = fine x.id x.sender.now x.target.now x.k x.m (sym c.arguments_fine.ensures ∙ c.if-not-arguments_fine.false) in
    let read : moment_of x.time.now ≡ Some c.in_ok-time.time = sym c.moment.ensures ∙ c.in_ok-time.ensures.ok_part in
    record {
      sender_short = f.from;
      target_short = f.to;
      k_low = omega (arith, f.turn, f.loop);
      m_low = f.loop;
      is_moment = moment_lt x.time.now read;
    }

pub returns-clause-sent : goal.returns-clause-sent
returns-clause-sent c =
    let x = c.args in
    let s = sym c.sound.ensures ∙ c.if-not-sound.false in
    let a = sym c.arguments_fine.ensures ∙ c.if-not-arguments_fine.false in
    let read = sym c.moment.ensures ∙ c.in_ok-time.ensures.ok_part in
    let t = good x.id x.sender.now x.target.now x.k x.m x.time.now x.out.now x.store.now c.in_ok-time.time s read a in
    record { answer = c.write_sound.ensures.value ∙ t.answer; out = c.write_sound.ensures.out_after ∙ t.out }
