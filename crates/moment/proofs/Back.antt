-- What is written is read back. Assumes nothing.
use Rattle.std.specs.Prelude.{Some}
use mathlib.Core.Path.{◌≡◌, ◌∙◌}
use mathlib.Core.List.{List, ◌∷◌, ◌++◌}
use Prim.Native.Nat.{ℕ, ◌+◌, ◌*◌, ◌/◌, ◌^◌, ◌≤◌, ◌<◌}
use native.Mathlib.Omega.{arith}
use borrow.Author.Tests.{le-leb}
use lib.ListN.{length, take, drop}
use lib.Seq.{take_at, get_or_at, drop-append-add}
use Rattle.text.specs.Text.{fixed}
use Rattle.text.proofs.Written.{read_fixed, length_fixed}
use Rattle.calendar.specs.Calendar.{days, date_number}
use Rattle.calendar.proofs.Dates.{day_back, date_range}
use Rattle.moment.specs.Moments.{date_of, two_of, minutes_of, clock_of, time_of, moment_of, span, moments, day_part, time_part, hour_in, minute_in, second_in, milli_in, date_text, clock_text, time_text, moment_text}
use Rattle.moment.proofs.Steps.{date_by, time_parts, moment_by}
use Rattle.moment.proofs.Texts.{length_date, length_clock, length_time}

pub date_back : (d : ℕ) → d < days → date_of (date_text d) ≡ Some d
unfolding date_text
date_back d h =
    let n = date_number d in
    let q = day_back d h in
    let l : n < 10 ^ 8 = omega (arith, date_range d h) in
    date_by (fixed 8 n) (length_fixed 8 n) ∙ rw (read_fixed 8 n (omega arith) (omega arith) l, q.0, q.1)

pub clock_back : (t : ℕ) → t < span → clock_of (clock_text t) ≡ Some (t / 1000)
unfolding clock_of minutes_of two_of clock_text fixed
clock_back t h =
    let i : hour_in t ≤ 23 = omega arith in
    let j : minute_in t ≤ 59 = omega arith in
    let k : second_in t ≤ 60 = omega arith in
    let a = read_fixed 2 (hour_in t) (omega arith) (omega arith) (omega arith) in
    let b = read_fixed 2 (minute_in t) (omega arith) (omega arith) (omega arith) in
    let c = read_fixed 2 (second_in t) (omega arith) (omega arith) (omega arith) in
    let q : (hour_in t * 60 + minute_in t) * 61 + second_in t ≡ t / 1000 = omega arith in
    rw (a, b, c, le-leb _ 23 i, le-leb _ 59 j, le-leb _ 60 k, q)

-- what stands after n bytes and one more
after : {A : Type 0} (p : List A) (y : A) (q : List A) (n : ℕ) → length p ≡ n → drop (n + 1) (p ++ y ∷ q) ≡ q
after p y q n h = rw (← h) (drop-append-add p (y ∷ q) 1)

pub time_back : (t : ℕ) → t < span → time_of (time_text t) ≡ Some t
unfolding time_text
time_back t h =
    let l = length_clock t in
    let f = fixed 3 (milli_in t) in
    let a : take 8 (clock_text t ++ (46 ∷ f)) ≡ clock_text t = take_at (clock_text t) (46 ∷ f) 8 l in
    let b : drop 9 (clock_text t ++ (46 ∷ f)) ≡ f = after (clock_text t) 46 f 8 l in
    let q : t / 1000 * 1000 + milli_in t ≡ t = omega arith in
    time_parts (clock_text t ++ (46 ∷ f)) (length_time t) (get_or_at (clock_text t) 46 f 0 8 l)
    ∙ rw (a, b, clock_back t h, read_fixed 3 (milli_in t) (omega arith) (omega arith) (omega arith), q)

pub moment_back : (m : ℕ) → m < moments → moment_of (moment_text m) ≡ Some m
unfolding moment_text
moment_back m h =
    let d = date_text (day_part m) in
    let t = time_text (time_part m) in
    let l = length_date (day_part m) in
    let a : take 8 (d ++ (45 ∷ t)) ≡ d = take_at d (45 ∷ t) 8 l in
    let b : drop 9 (d ++ (45 ∷ t)) ≡ t = after d 45 t 8 l in
    let q : day_part m * span + time_part m ≡ m = omega arith in
    moment_by (d ++ (45 ∷ t)) (get_or_at d 45 t 0 8 l)
    ∙ rw (a, b, date_back (day_part m) (omega arith), time_back (time_part m) (omega arith), q)
