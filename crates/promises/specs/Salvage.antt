-- What the walk of a recording promises of the other calls (document 02, K12).
use Rattle.std.specs.Prelude.{◌≡◌, Bool, true, false, not, ◌||◌, List, ◌++◌, ℕ, ◌*◌, ◌%◌, ◌≤◌, eqb, length, take, drop}
use Rattle.frame.specs.Frames.{frame_of}
use Rattle.stretch.specs.Stretches.{passes, Taken}
use Rattle.salvage.specs.Pieces.{pieces, Messages}
use Rattle.sound.specs.Sound.{sound}
use Rattle.feed.specs.Feeding.{feed_answer}
use Rattle.send.specs.Send.{send_answer, send_out}

-- the number of an answer of feed is 11 or 12
abbrev pub refused_by : ℕ → Bool
refused_by r = eqb (r % 256) 11 || eqb (r % 256) 12

-- bytes with others behind them: they are the message that is taken at their start
abbrev pub Stands : List ℕ → List ℕ → Type 0
Stands bytes rest = Taken (bytes ++ rest) (length bytes)

pub record SalvagePromises : Type 0 where
  -- The bytes that pass are those that 11 and 12 do not refuse: what any sound store answers.
  pub passing : (bytes xs : List ℕ) → sound xs ≡ true → passes (frame_of bytes) ≡ not (refused_by (feed_answer bytes xs))
  -- A message of a walk, fed alone, is answered neither, whatever the store.
  pub feeding : (rec : List ℕ) (from : ℕ) → from ≤ length rec
      → Messages (λ p n. (xs : List ℕ) → refused_by (feed_answer (take n (drop p rec)) xs) ≡ false) (pieces rec from)
  -- A snapshot that we write is taken where it stands in a recording, whatever follows it.
  pub writing : (xs : List ℕ) (id : ℕ) (sender target : List ℕ) (k m : ℕ) (time out : List ℕ) (n : ℕ) (rest : List ℕ)
      → send_answer id sender target k m time out xs ≡ 256 * n
      → Stands (take n (send_out id sender target k m time out xs)) rest
