-- What a window decides is so in the whole recording. Assumes nothing.
use mathlib.Core.Path.{◌≡◌, refl, sym, ap, ◌∙◌}
use mathlib.Core.List.{List, [], ◌∷◌, ◌++◌}
use mathlib.Core.Bool.{Bool, true, false, cond}
use mathlib.Core.Logic.{◌⊎◌, inl, inr}
use Prim.Native.Nat.{ℕ, zero, suc, ◌+◌, ◌≤◌, ◌<◌}
use native.Mathlib.Omega.{arith}
use native.Mathlib.Nat.{add-zero, add_assoc}
use borrow.Author.Tests.{leb-true, leb-false, ltb-true, ltb-false, eqb-true, eqb-false}
use lib.Dec.{leb, ltb, eqb}
use lib.ListN.{length, drop, length-append, length-drop}
use Rattle.stretch.specs.Stretches.{taken, stretch_at}
use Rattle.stretch.specs.Runs.{run_of}
use Rattle.stretch.specs.Windows.{decided}
use Rattle.stretch.proofs.Stretching.{taken_stretch, none_taken}
use Rattle.stretch.proofs.Running.{run_end, run_stop}
use Rattle.stretch.proofs.Laws.{more_keeps}
use Rattle.salvage.specs.Pieces.{Piece, message, passed, Walk, done, one, run, pieces}
use Rattle.salvage.specs.Rooms.{spanned, link, join}
use Rattle.salvage.specs.Windows.{leading, sure}
use Rattle.salvage.specs.Laws.{WindowsJoined}
use Rattle.salvage.proofs.Stepping.{pieces_end, pieces_message, pieces_run}
use Rattle.salvage.proofs.Walking.{taken_some, walk_is, run_from}

join_message : (p n : ℕ) (ps qs : List Piece) → join (message p n ∷ ps) qs ≡ message p n ∷ join ps qs
join_message p n [] qs = refl
join_message p n (x ∷ ps) qs = refl

-- ---- bytes passed over, and the walk behind them
module _ (rec : List ℕ) (p k : ℕ) (l : p + k ≤ length rec) (f : (q : ℕ) → p ≤ q → q < p + k → stretch_at rec q ≡ 0) (s : 1 ≤ k) where
  abbrev r : ℕ
  r = run_of (drop (p + k) rec)

  here : pieces rec p ≡ passed p (k + r) ∷ pieces rec (p + k + r)
  here =
      let e : p + (k + r) ≡ p + k + r = omega arith in
      pieces_run rec p (f p (omega arith) (omega arith)) (omega arith) ∙ rw (run_from rec k p l f, e)

  -- nothing more is passed over
  ends : r ≡ 0 → pieces rec p ≡ passed p k ∷ pieces rec (p + k)
  ends e = here ∙ rw (e, add-zero k, add-zero (p + k))

  run_linked : link (passed p k) (pieces rec (p + k)) ≡ pieces rec p
  run_linked = go (leb 1 (stretch_at rec (p + k))) (ltb (p + k) (length rec)) refl refl
    where
      go : (t u : Bool) → leb 1 (stretch_at rec (p + k)) ≡ t → ltb (p + k) (length rec) ≡ u → link (passed p k) (pieces rec (p + k)) ≡ pieces rec p
      go true u a b =
          let h = leb-true 1 (stretch_at rec (p + k)) a in
          let m = pieces_message rec (p + k) (stretch_at rec (p + k)) refl h in
          rw m (sym (ends (run_stop rec (p + k) h) ∙ rw m))
      go false true a b =
          let z : stretch_at rec (p + k) ≡ 0 = omega (arith, leb-false 1 (stretch_at rec (p + k)) a) in
          rw (pieces_run rec (p + k) z (ltb-true (p + k) (length rec) b)) (sym here)
      go false false a b =
          let e : length rec ≤ p + k = ltb-false (p + k) (length rec) b in
          let z = pieces_end rec (p + k) e in
          rw z (sym (ends (run_end rec (p + k) e) ∙ rw z))

-- ---- the places that are decided
leading_le : (d : ℕ → Bool) (n p : ℕ) → leading d p n ≤ n
leading_le d zero p = omega arith
leading_le d (suc n) p = go (d p) (leading_le d n (p + 1))
  where
    go : (b : Bool) → leading d (p + 1) n ≤ n → cond b (leading d (p + 1) n + 1) 0 ≤ suc n
    go true h = omega arith
    go false h = omega arith

leading_are : (d : ℕ → Bool) (n p q : ℕ) → p ≤ q → q < p + leading d p n → d q ≡ true
leading_are d zero p q a b = absurd (omega arith)
leading_are d (suc n) p q a b = go (d p) refl b (ltb p q) refl (leading_are d n (p + 1) q)
  where
    go : (c : Bool) → d p ≡ c → q < p + cond c (leading d (p + 1) n + 1) 0 → (e : Bool) → ltb p q ≡ e
        → (p + 1 ≤ q → q < p + 1 + leading d (p + 1) n → d q ≡ true) → d q ≡ true
    go true f h true g i = i (omega (arith, ltb-true p q g)) (omega arith)
    go true f h false g i = let z : q ≡ p = omega (arith, ltb-false p q g) in ap d z ∙ f
    go false f h e g i = absurd (omega arith)

module _ (w rest : List ℕ) where
  abbrev all : List ℕ
  all = w ++ rest

  abbrev d : ℕ → Bool
  d = decided w

  long : length w ≤ length all
  long = omega (arith, length-append w rest)

  message_stays : (p n : ℕ) → taken w p n → pieces all p ≡ message p n ∷ pieces all (p + n)
  message_stays p n t =
      let e : stretch_at w p ≡ n = taken_stretch (drop p w) n t in
      let s = taken_some (drop p w) n t in
      pieces_message all p n ((more_keeps w rest p).stays (omega arith) ∙ e) s

  -- a place that is decided, where no message is taken
  none_stays : (q : ℕ) → d q ≡ true → ((m : ℕ) → taken w q m → ⊥) → stretch_at all q ≡ 0
  none_stays q h f = (more_keeps w rest q).decides h ∙ none_taken (drop q w) f

  -- ---- what comes behind a run
  end_next : {p : ℕ} {ps : List Piece} → p ≡ length w → Walk w p ps → ps ≡ []
  end_next e (done z) = refl
  end_next {p} e (one {n = n} t v) = absurd (omega (arith, taken_some (drop p w) n t, t.inside, length-drop p w))
  end_next e (run l h f z v) = absurd (omega arith)

  message_next : {p : ℕ} {ps : List Piece} (m : ℕ) → taken w p m → Walk w p ps → (n : ℕ) × (qs : List Piece) × (ps ≡ message p n ∷ qs)
  message_next {p} m t (done e) = absurd (omega (arith, taken_some (drop p w) m t, t.inside, length-drop p w))
  message_next m t (one {n = n} {ps = qs} k v) = (n, qs, refl)
  message_next {p} m t (run l h f e v) = absurd (f p m (omega arith) (omega arith) t)

  -- a message behind a run, in the window and in the whole
  run_before : {a b n m : ℕ} {rs ys : List Piece} (p k : ℕ) (ps qs xs : List Piece) → ps ≡ message a b ∷ rs → xs ≡ message n m ∷ ys → join (sure d ps) qs ≡ xs
      → join (passed p k ∷ sure d ps) qs ≡ link (passed p k) xs
  run_before p k ps qs xs e f h =
      let x : join (passed p k ∷ sure d ps) qs ≡ passed p k ∷ join (sure d ps) qs = rw e in
      let y : link (passed p k) xs ≡ passed p k ∷ xs = rw f in
      x ∙ ap (λ (r : List Piece). passed p k ∷ r) h ∙ sym y

  sure_joined : {p : ℕ} {ps : List Piece} → Walk w p ps → join (sure d ps) (pieces all (p + spanned (sure d ps))) ≡ pieces all p
  sure_joined (done e) = rw add-zero
  sure_joined {p} (one {n = n} {ps = ps} t v) =
      join_message p n (sure d ps) (pieces all (p + (n + spanned (sure d ps))))
      ∙ rw (← add_assoc p n (spanned (sure d ps)), sure_joined v) (sym (message_stays p n t))
  sure_joined {p} (run {n = n} {ps = ps} l h f e v) = go (eqb (leading d p n) n) (eqb (leading d p n) 0) refl refl (sure_joined v)
    where
      -- the run as far as it is decided
      linked : 1 ≤ leading d p n → link (passed p (leading d p n)) (pieces all (p + leading d p n)) ≡ pieces all p
      linked s =
          let g = leading_le d n p in
          run_linked all p (leading d p n) (omega (arith, long)) (λ q a b. none_stays q (leading_are d n p q a b) (λ m x. f q m a (omega arith) x)) s

      whole : leading d p n ≡ n → (p + n ≡ length w) ⊎ ((m : ℕ) × taken w (p + n) m)
          → join (sure d ps) (pieces all (p + n + spanned (sure d ps))) ≡ pieces all (p + n)
          → join (passed p n ∷ sure d ps) (pieces all (p + (n + spanned (sure d ps)))) ≡ pieces all p
      whole s (inl z) i = rw (end_next z v, add-zero) (rw s at (linked (omega arith)))
      whole s (inr t) i =
          let x = message_next t.0 t.1 v in
          run_before p n ps (pieces all (p + (n + spanned (sure d ps)))) (pieces all (p + n)) x.2 (message_stays (p + n) t.0 t.1) (rw (add_assoc p n (spanned (sure d ps))) at i)
          ∙ rw s at (linked (omega arith))

      go : (a b : Bool) → eqb (leading d p n) n ≡ a → eqb (leading d p n) 0 ≡ b → join (sure d ps) (pieces all (p + n + spanned (sure d ps))) ≡ pieces all (p + n)
          → join (cond a (passed p n ∷ sure d ps) (cond b [] (passed p (leading d p n) ∷ [])))
          (pieces all (p + spanned (cond a (passed p n ∷ sure d ps) (cond b [] (passed p (leading d p n) ∷ [])))))
          ≡ pieces all p
      go true b x y i = whole (eqb-true (leading d p n) n x) e i
      go false true x y i = rw add-zero
      go false false x y i = rw add-zero (linked (omega (arith, eqb-false (leading d p n) 0 y)))

  -- ---- where a place is decided the window gets on
  sure_some : {p : ℕ} {ps : List Piece} → Walk w p ps → p < length w → d p ≡ true → 1 ≤ spanned (sure d ps)
  sure_some (done e) l h = absurd (omega arith)
  sure_some {p} (one {n = n} t v) l h = omega (arith, taken_some (drop p w) n t)
  sure_some {p} (run {n = n} {ps = ps} s i f e v) l h = go (eqb (leading d p n) n) (eqb (leading d p n) 0) refl refl
    where
      some : (n : ℕ) → 1 ≤ n → 1 ≤ leading d p n
      some zero z = absurd (omega arith)
      some (suc n) z = rw h (omega arith)

      go : (a b : Bool) → eqb (leading d p n) n ≡ a → eqb (leading d p n) 0 ≡ b
          → 1 ≤ spanned (cond a (passed p n ∷ sure d ps) (cond b [] (passed p (leading d p n) ∷ [])))
      go true b x y = omega arith
      go false true x y = absurd (omega (arith, some n s, eqb-true (leading d p n) 0 y))
      go false false x y = omega (arith, eqb-false (leading d p n) 0 y)

pub windows_joined : WindowsJoined
windows_joined w rest from l =
    let v = walk_is w from l in
    record { joined = sure_joined w rest v; on = sure_some w rest v }
