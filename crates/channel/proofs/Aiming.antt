-- One turn of the loop that aims the entries of a run, and that a snapshot's sides do not ask whose they are.
use mathlib.Core.Path.{◌≡◌, refl, sym, ap, ◌∙◌}
use mathlib.Core.Bool.{cond}
use mathlib.Core.List.{List, [], ◌∷◌, map}
use Prim.Native.Nat.{ℕ, ◌+◌, ◌*◌, ◌≤◌, ◌<◌}
use native.Mathlib.Omega.{arith}
use lib.Dec.{eqb}
use lib.ListN.{length, get_or, set, length-set}
use lib.Seq.{get_or-set_same, get_or-set_other}
use Rattle.book.specs.declared.Entry.{Entry}
use Rattle.book.specs.declared.Update.{Update}
use Rattle.book.specs.Rules.{Lists}
use Rattle.cells.specs.Cells.{tab, update_at}
use Rattle.cells.specs.Runs.{updates_in}
use Rattle.cells.proofs.Tables.{tab_ext, tab_snoc, map_append}
use Rattle.cells.proofs.Windows.{entry_ext, update_ext}
use Rattle.board.specs.Board.{Inst}
use Rattle.board.specs.Count.{aimed}
use Rattle.board.specs.Snapshot.{entries_of, shown}
use Rattle.store.specs.Meaning.{State, board_in}
use Rattle.channel.specs.Feeds.{index_in, aimed_at, Aims}

-- nothing is aimed yet
pub aims_none : (s : State) (xs : List ℕ) → Aims s 0 xs xs
unfolding tab
aims_none s xs = record { size = refl; entries = refl; behind = λ k l. refl }

-- one entry more: its who is the index k
module _ (s : State) (i k : ℕ) (xs ys : List ℕ) (h : Aims s i xs ys) (room : i * 9 + 9 ≤ length xs)
    (found : k ≡ index_in s (get_or ys (i * 9) 0) (get_or ys (i * 9 + 1) 0)) where
  abbrev zs : List ℕ
  zs = set ys (i * 9) k

  -- what stands elsewhere stays
  other : (j : ℕ) → (j ≡ i * 9 → ⊥) → get_or zs j 0 ≡ get_or ys j 0
  other j d = get_or-set_other ys (i * 9) j k 0 d

  later : (j : ℕ) → i * 9 < j → get_or zs j 0 ≡ get_or xs j 0
  later j l = other j (λ e. omega arith) ∙ h.behind j (omega arith)

  earlier : tab (λ (j : ℕ). update_at zs (j * 9)) i ≡ aimed_at s (updates_in xs i)
  earlier =
      tab_ext (λ (j : ℕ). update_at zs (j * 9)) (λ (j : ℕ). update_at ys (j * 9)) i
      (λ j l. update_ext zs (j * 9) ys (j * 9) (λ m q. other (j * 9 + m) (λ e. omega arith))) ∙ h.entries

  own : update_at zs (i * 9) ≡ aimed (board_in s).insts (update_at xs (i * 9))
  own =
      let w : get_or zs (i * 9) 0 ≡ index_in s (get_or xs (i * 9) 0) (get_or xs (i * 9 + 1) 0) =
      get_or-set_same ys (i * 9) k 0 (omega (arith, h.size)) ∙ rw (h.behind (i * 9) (omega arith), h.behind (i * 9 + 1) (omega arith)) at found in
      rw (
        w,
        later (i * 9 + 1) (omega arith),
        later (i * 9 + 2) (omega arith),
        later (i * 9 + 3) (omega arith),
        entry_ext zs (i * 9 + 4) xs (i * 9 + 4) (λ m q. later (i * 9 + 4 + m) (omega arith)),
      )

  pub aims_more : Aims s (i + 1) xs zs
  aims_more =
      let f = aimed (board_in s).insts in
      record {
        size = length-set ys (i * 9) k ∙ h.size;
        entries =
            tab_snoc (λ (j : ℕ). update_at zs (j * 9)) i
            ∙ rw (earlier, own) (sym (ap (map f) (tab_snoc (λ (j : ℕ). update_at xs (j * 9)) i) ∙ map_append f (updates_in xs i) (update_at xs (i * 9) ∷ [])));
        behind = λ j l. later j (omega arith);
      }

entries_aimed : (side : ℕ) (xs : List Inst) (us : List Update) → entries_of side (map (aimed xs) us) ≡ entries_of side us
unfolding entries_of
entries_aimed side xs [] = refl
entries_aimed side xs (u ∷ us) = ap (λ (l : List Entry). cond (eqb u.what side) (u.entry ∷ l) l) (entries_aimed side xs us)

lists_by : {s t u v : List Entry} → s ≡ t → u ≡ v → ◌≡◌ {A = Lists} (record { bids = s; offers = u }) (record { bids = t; offers = v })
lists_by h g = cc

pub shown_aimed : (xs : List Inst) (us : List Update) → shown (map (aimed xs) us) ≡ shown us
shown_aimed xs us = lists_by (entries_aimed 0 xs us) (entries_aimed 1 xs us)
