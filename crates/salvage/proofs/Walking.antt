-- The computed pieces are a Walk, and the only one; what a Walk promises. Assumes nothing.
use mathlib.Core.Path.{◌≡◌, refl, sym, ap, ◌∙◌}
use mathlib.Core.List.{List, [], ◌∷◌}
use mathlib.Core.Bool.{Bool, true, false, cond}
use mathlib.Core.Logic.{◌⊎◌, inl, inr}
use Prim.Native.Nat.{ℕ, zero, suc, ◌+◌, ◌-◌, ◌≤◌, ◌<◌}
use native.Mathlib.Omega.{arith}
use native.Mathlib.Nat.{add-zero}
use borrow.Author.Tests.{ltb-true, ltb-false, leb-true, leb-false, le-leb, lt-leb}
use lib.Dec.{leb, ltb}
use lib.ListN.{length, take, drop, length-drop}
use lib.Seq.{drop-drop}
use Rattle.frame.specs.Frames.{frame_of}
use Rattle.stretch.specs.Stretches.{passes, Taken, taken, stretch_of, stretch_at}
use Rattle.stretch.specs.Runs.{run_of}
use Rattle.stretch.proofs.Stretching.{taken_named, stretch_taken, taken_stretch, none_taken}
use Rattle.stretch.proofs.Running.{run_end, run_stop, run_more, run_le, run_free, run_stops}
use Rattle.salvage.specs.Pieces.{Piece, message, passed, length_of, Walk, done, one, run, pieces, Tiles, times, opens, apart, Messages}
use Rattle.salvage.proofs.Stepping.{pieces_end, pieces_message, pieces_run}

none_at : (s : List ℕ) → stretch_of s ≡ 0 → (m : ℕ) → Taken s m → ⊥
none_at s e m t = omega (arith, taken_stretch s m t, (taken_named s t).low)

pub taken_some : (s : List ℕ) (n : ℕ) → Taken s n → 1 ≤ n
taken_some s n t = omega (arith, (taken_named s t).low)

some_at : (s : List ℕ) (m : ℕ) → Taken s m → 1 ≤ stretch_of s
some_at s m t = omega (arith, taken_stretch s m t, (taken_named s t).low)

module _ (rec : List ℕ) where
  pub run_here : (p : ℕ) → p < length rec → stretch_at rec p ≡ 0 → 1 ≤ run_of (drop p rec)
  run_here p l e = omega (arith, run_more rec p l e)

  pub run_inside : (p : ℕ) → p ≤ length rec → p + run_of (drop p rec) ≤ length rec
  run_inside p l = omega (arith, run_le (drop p rec), length-drop p rec)

  pub message_inside : (p : ℕ) → p ≤ length rec → p + stretch_at rec p ≤ length rec
  message_inside p l = go (leb 1 (stretch_at rec p)) refl
    where
      go : (t : Bool) → leb 1 (stretch_at rec p) ≡ t → p + stretch_at rec p ≤ length rec
      go true e = omega (arith, (stretch_taken (drop p rec) (leb-true 1 (stretch_at rec p) e)).inside, length-drop p rec)
      go false e = omega (arith, leb-false 1 (stretch_at rec p) e)

  -- ---- the computed pieces are a Walk
  step_message : (p : ℕ) → p ≤ length rec → 1 ≤ stretch_at rec p → Walk rec (p + stretch_at rec p) (pieces rec (p + stretch_at rec p)) → Walk rec p (pieces rec p)
  step_message p l h w = rw (pieces_message rec p (stretch_at rec p) refl h) (one (stretch_taken (drop p rec) h) w)

  step_run : (p : ℕ) → p < length rec → stretch_at rec p ≡ 0 → Walk rec (p + run_of (drop p rec)) (pieces rec (p + run_of (drop p rec))) → Walk rec p (pieces rec p)
  step_run p l e w =
      let s = drop p rec in
      let n = run_of s in
      rw (pieces_run rec p e l) (run (run_here p l e) (run_inside p (omega arith)) free (stops (run_stops s)) w)
    where
      free : (q m : ℕ) → p ≤ q → q < p + run_of (drop p rec) → taken rec q m → ⊥
      free q m a b t =
          let k : p + (q - p) ≡ q = omega arith in
          let z : stretch_of (drop (q - p) (drop p rec)) ≡ 0 = run_free (drop p rec) (q - p) (omega arith) in
          none_at (drop q rec) (rw (drop-drop (q - p) p rec, k) at z) m t

      stops : (run_of (drop p rec) ≡ length (drop p rec)) ⊎ (1 ≤ stretch_of (drop (run_of (drop p rec)) (drop p rec)))
          → (p + run_of (drop p rec) ≡ length rec) ⊎ ((m : ℕ) × taken rec (p + run_of (drop p rec)) m)
      stops (inl h) = inl (omega (arith, length-drop p rec))
      stops (inr h) =
          let k : 1 ≤ stretch_at rec (p + run_of (drop p rec)) = rw (drop-drop (run_of (drop p rec)) p rec) at h in
          inr (stretch_at rec (p + run_of (drop p rec)), stretch_taken (drop (p + run_of (drop p rec)) rec) k)

  walk_by : (k p : ℕ) → p ≤ length rec → length rec - p ≤ k → Walk rec p (pieces rec p)
  walk_by zero p l h = rw (pieces_end rec p (omega arith)) (done {p = p} (omega arith))
  walk_by (suc k) p l h = go (leb 1 (stretch_at rec p)) (ltb p (length rec)) refl refl (λ q a b. walk_by k q a b)
    where
      go : (t u : Bool) → leb 1 (stretch_at rec p) ≡ t → ltb p (length rec) ≡ u
          → ((q : ℕ) → q ≤ length rec → length rec - q ≤ k → Walk rec q (pieces rec q)) → Walk rec p (pieces rec p)
      go true u e f i =
          let a = leb-true 1 (stretch_at rec p) e in
          step_message p l a (i (p + stretch_at rec p) (message_inside p l) (omega arith))
      go false true e f i =
          let a = ltb-true p (length rec) f in
          let z : stretch_at rec p ≡ 0 = omega (arith, leb-false 1 (stretch_at rec p) e) in
          step_run p a z (i (p + run_of (drop p rec)) (run_inside p l) (omega (arith, run_here p a z)))
      go false false e f i =
          let a = ltb-false p (length rec) f in
          rw (pieces_end rec p a) (done {p = p} (omega arith))

  pub walk_is : (p : ℕ) → p ≤ length rec → Walk rec p (pieces rec p)
  walk_is p l = walk_by (length rec - p) p l (omega arith)

  -- ---- and the only one
  pub run_from : (k p : ℕ) → p + k ≤ length rec → ((q : ℕ) → p ≤ q → q < p + k → stretch_at rec q ≡ 0) → run_of (drop p rec) ≡ k + run_of (drop (p + k) rec)
  run_from zero p l f = rw add-zero (omega arith)
  run_from (suc k) p l f =
      let e : p + 1 + k ≡ p + suc k = omega arith in
      let r : run_of (drop (p + 1) rec) ≡ k + run_of (drop (p + suc k) rec) = rw e at (run_from k (p + 1) (omega arith) (λ q a b. f q (omega arith) (omega arith))) in
      omega (arith, run_more rec p (omega arith) (f p (omega arith) (omega arith)))

  pub run_is : (n p : ℕ) → p + n ≤ length rec → ((q : ℕ) → p ≤ q → q < p + n → stretch_at rec q ≡ 0)
      → (p + n ≡ length rec) ⊎ (1 ≤ stretch_at rec (p + n)) → run_of (drop p rec) ≡ n
  run_is n p l f (inl e) = omega (arith, run_from n p l f, run_end rec (p + n) (omega arith))
  run_is n p l f (inr h) = omega (arith, run_from n p l f, run_stop rec (p + n) h)

  pub walk_only : {p : ℕ} {ps : List Piece} → Walk rec p ps → ps ≡ pieces rec p
  walk_only {p} (done e) = sym (pieces_end rec p (omega arith))
  walk_only {p} (one {n = n} t w) =
      ap (λ (r : List Piece). message p n ∷ r) (walk_only w)
      ∙ sym (pieces_message rec p n (taken_stretch (drop p rec) n t) (taken_some (drop p rec) n t))
  walk_only {p} (run {n = n} l h f e w) =
      let free : (q : ℕ) → p ≤ q → q < p + n → stretch_at rec q ≡ 0 = λ q a b. none_taken (drop q rec) (λ m t. f q m a b t) in
      let r : run_of (drop p rec) ≡ n = run_is n p h free (stop e) in
      let x : pieces rec p ≡ passed p n ∷ pieces rec (p + n) = rw r at (pieces_run rec p (free p (omega arith) (omega arith)) (omega arith)) in
      ap (λ (r : List Piece). passed p n ∷ r) (walk_only w) ∙ sym x
    where
      stop : (p + n ≡ length rec) ⊎ ((m : ℕ) × taken rec (p + n) m) → (p + n ≡ length rec) ⊎ (1 ≤ stretch_at rec (p + n))
      stop (inl e) = inl e
      stop (inr t) = inr (some_at (drop (p + n) rec) t.0 t.1)

  -- ---- one after another, to the end
  pub walk_tiles : {p : ℕ} {ps : List Piece} → Walk rec p ps → Tiles p ps (length rec)
  walk_tiles (done e) = e
  walk_tiles {p} (one {n = n} t w) = (refl, (taken_some (drop p rec) n t, walk_tiles w))
  walk_tiles (run l h f e w) = (refl, (l, walk_tiles w))

  -- ---- no two runs touch
  no_run : {p : ℕ} {ps : List Piece} → (p ≡ length rec) ⊎ ((m : ℕ) × taken rec p m) → Walk rec p ps → opens ps ≡ false
  no_run h (done e) = refl
  no_run h (one t w) = refl
  no_run {p} (inl h) (run l i f e w) = absurd (omega arith)
  no_run {p} (inr t) (run l i f e w) = absurd (f p t.0 (omega arith) (omega arith) t.1)

  pub walk_apart : {p : ℕ} {ps : List Piece} → Walk rec p ps → apart ps ≡ true
  walk_apart (done e) = refl
  walk_apart (one t w) = walk_apart w
  walk_apart (run l h f e w) = rw (no_run e w) (walk_apart w)

  -- ---- each message is taken
  pub walk_good : {p : ℕ} {ps : List Piece} → Walk rec p ps → Messages (λ p n. passes (frame_of (take n (drop p rec))) ≡ true) ps
  walk_good (done e) = tt
  walk_good (one t w) = (t.good, walk_good w)
  walk_good (run l h f e w) = walk_good w

-- ---- every byte once
tiles_le : (p : ℕ) (ps : List Piece) (e : ℕ) → Tiles p ps e → p ≤ e
tiles_le p [] e h = omega arith
tiles_le p (x ∷ ps) e h = let l = tiles_le (p + length_of x) ps e h.1.1 in omega arith

not_before : (q p : ℕ) (ps : List Piece) (e : ℕ) → Tiles p ps e → q < p → times q ps ≡ 0
not_before q p [] e h l = refl
not_before q p (x ∷ ps) e h l =
    rw (h.0, lt-leb p q l) (not_before q (p + length_of x) ps e h.1.1 (omega arith))

pub tiles_once : (q p : ℕ) (ps : List Piece) (e : ℕ) → Tiles p ps e → p ≤ q → q < e → times q ps ≡ 1
tiles_once q p [] e h a b = absurd (omega arith)
tiles_once q p (x ∷ ps) e h a b = rw (h.0, le-leb p q a) (go (ltb q (p + length_of x)) refl (λ l. tiles_once q (p + length_of x) ps e h.1.1 l b))
  where
    go : (t : Bool) → ltb q (p + length_of x) ≡ t → (p + length_of x ≤ q → times q ps ≡ 1) → cond t (times q ps + 1) (times q ps) ≡ 1
    go true u i = omega (arith, not_before q (p + length_of x) ps e h.1.1 (ltb-true q (p + length_of x) u))
    go false u i = i (ltb-false q (p + length_of x) u)
