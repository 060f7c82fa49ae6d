-- The heard moment is that of the stream's message of our last number. Assumes nothing.
use mathlib.Core.Path.{◌≡◌, refl, sym, ap, ◌∙◌}
use mathlib.Core.Bool.{Bool, true, false, cond}
use mathlib.Core.List.{List, [], ◌∷◌, map}
use Prim.Native.Nat.{ℕ, suc, ◌+◌}
use native.Mathlib.Omega.{arith}
use lib.Dec.{leb, ltb}
use lib.ListN.{length}
use Rattle.book.specs.Rules.{Lists, Outcome, leaves, breach}
use Rattle.book.specs.declared.Update.{Update}
use Rattle.message.specs.Message.{Message, numbered, snapshot, refused}
use Rattle.board.specs.Board.{Board, opened, any_waiting, look, at, let_go, settled}
use Rattle.board.specs.Count.{aimed, gives, counted, overflows, joined, count_by, count, cleared, number_by, number}
use Rattle.board.specs.Snapshot.{shown, run, after, replayed, take, too_wide, snap_by, snap}
use Rattle.board.specs.Feed.{feed}
use Rattle.board.specs.Calls.{Call, fed, aside, called, calls, Throughout, is_counted}
use Rattle.board.specs.Demand.{message_at, NumberedFromOne, IsOf, Right}
use Rattle.board.proofs.Giving.{gives_only}
use Rattle.board.proofs.Answers.{count_counted}

-- H and the heard moment of a board
pub record At (n h : ℕ) (b : Board) : Type 0 where
  pub last : b.H ≡ n
  pub heard : b.heard ≡ h

-- ---- what leaves them
settled_at : (z : Bool) (n h : ℕ) (b : Board) → At n h b → At n h (settled z b)
settled_at false n h b p = record { last = p.last; heard = p.heard }
settled_at true n h b p = go (any_waiting b.insts)
  where
    go : (z : Bool) → At n h (cond z b (let_go b))
    go true = p
    go false = record { last = p.last; heard = p.heard }

gives_at : (us : List Update) (n h : ℕ) (b : Board) → At n h b → At n h (gives us b)
gives_at us n h b p = rw (gives_only us b) (record { last = p.last; heard = p.heard })

joined_at_lem : (over : Bool) (k : ℕ) (us : List Update) (n h : ℕ) (b : Board) → At n h b → At n h (joined over k us b)
joined_at_lem true k us n h b p = record { last = p.last; heard = p.heard }
joined_at_lem false k us n h b p = record { last = p.last; heard = p.heard }

-- ---- a message with a number
count_at_lem : (a n heard : ℕ) (us : List Update) (b : Board) → At n heard (count a n heard us b).board
unfolding count
count_at_lem a n heard us b = go (any_waiting b.insts) (overflows n us b)
  where
    now : At n heard (counted n heard b)
    now = record { last = refl; heard = refl }

    go : (waited over : Bool) → At n heard (count_by waited over a n heard us b).board
    go false over = settled_at false n heard (gives us (counted n heard b)) (gives_at us n heard (counted n heard b) now)
    go true over =
        settled_at true n heard (gives us (joined over n us (counted n heard b)))
        (gives_at us n heard (joined over n us (counted n heard b)) (joined_at_lem over n us n heard (counted n heard b) now))

-- ---- a snapshot
replayed_at : (i : ℕ) (o : Outcome Lists) (b : Board) → At b.H b.heard (replayed i o b).board
replayed_at i (leaves l) b = settled_at true b.H b.heard _ (record { last = refl; heard = refl })
replayed_at i (breach r) b = settled_at true b.H b.heard _ (record { last = refl; heard = refl })

snap_at_lem : (d S : ℕ) (l : Lists) (b : Board) → At b.H b.heard (snap d S l b).board
unfolding snap take
snap_at_lem d S l b = go (ltb i (length b.insts)) (at i b).waiting (ltb S b.B) (ltb b.H S) (too_wide l)
  where
    i : ℕ
    i = look d b.insts

    same : At b.H b.heard b
    same = record { last = refl; heard = refl }

    go : (followed waiting below above wide : Bool) → At b.H b.heard (snap_by followed waiting below above wide i S l b).board
    go false waiting below above wide = same
    go true false below above wide = same
    go true true true above wide = same
    go true true false true wide = same
    go true true false false true = same
    go true true false false false = replayed_at i (run (after i S b.queue) l) b

-- ---- the board's last number and heard moment are those of a message of the stream
module _ (ms : List Message) where
  abbrev pub Heard : Board → Type 0
  Heard b = (k : ℕ) → b.H ≡ suc k → (us : List Update) × (message_at ms k ≡ numbered (suc k) b.heard us)

  still : (b c : Board) → At b.H b.heard c → Heard b → Heard c
  still b c p h k q =
      let (us, e) = h k (sym p.last ∙ q) in
      (us, e ∙ ap (λ (m : ℕ). numbered (suc k) m us) (sym p.heard))

  module _ (numbers : NumberedFromOne ms) where
    streamed : (n heard : ℕ) (us : List Update) (c : Board) → IsOf ms (numbered n heard us) → At n heard c → Heard c
    streamed n heard us c (j, l, e) p k q =
        let (at, vs, r) = numbers j l in
        let z : numbered n heard us ≡ numbered (suc j) at vs = sym e ∙ r in
        let m : n ≡ suc j = cc in
        let w : n ≡ suc k = sym p.last ∙ q in
        let v : k ≡ j = omega (arith, m, w) in
        (us, ap (message_at ms) v ∙ e ∙ ap (λ (x : ℕ). numbered x heard us) w ∙ ap (λ (x : ℕ). numbered (suc k) x us) (sym p.heard))

    step : (d : ℕ) (c : Call) (b : Board) → Right ms d c b → Heard b → Heard (called c b).board
    unfolding feed number
    step d (fed (numbered n heard us)) b r h = go (leb n b.H) (leb n (b.H + 1)) r
      where
        vs : List Update
        vs = map (aimed b.insts) us

        go : (old next : Bool) → (is_counted (number_by old next n heard vs b).answer ≡ true → IsOf ms (numbered n heard us))
            → Heard (number_by old next n heard vs b).board
        go true next f = h
        go false true f = streamed n heard us _ (f (count_counted 0 n heard vs b refl)) (count_at_lem 0 n heard vs b)
        go false false f = streamed n heard us _ (f (count_counted 1 n heard vs (cleared n b) refl)) (count_at_lem 1 n heard vs (cleared n b))
    step d (fed (snapshot s us)) b r h = still b _ (snap_at_lem s.id s.last (shown us) b) h
    step d (fed (refused why)) b r h = h
    step d (aside a) b r h = h

    heard_along : (d : ℕ) (cs : List Call) (b : Board) → Throughout (Right ms d) cs b → Heard b → Heard (calls cs b)
    heard_along d [] b r h = h
    heard_along d (c ∷ cs) b r h = heard_along d cs (called c b).board r.1 (step d c b r.0 h)

    pub heard_after : (d depth : ℕ) (ids : List ℕ) (cs : List Call) → Throughout (Right ms d) cs (opened depth ids) → Heard (calls cs (opened depth ids))
    heard_after d depth ids cs r = heard_along d cs (opened depth ids) r (λ k q. absurd (omega (arith, q)))
