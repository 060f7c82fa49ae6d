-- The tests of a side's 128 numbers as facts, and those as what crate board and crate book say of the side that is read there.
use mathlib.Core.Path.{◌≡◌, refl, sym, ap, ◌∙◌}
use mathlib.Core.Bool.{Bool, true}
use mathlib.Core.List.{List, []}
use Prim.Native.Nat.{ℕ, zero, suc, ◌+◌, ◌*◌, ◌-◌, ◌/◌, ◌%◌, ◌≤◌, ◌<◌}
use native.Mathlib.Omega.{arith}
use lib.Dec.{leb}
use lib.ListN.{length, get_or, get_or-eq_default}
use lib.Seq.{get_or-take}
use borrow.Author.Tests.{leb-true, le-leb}
use Rattle.holding.specs.Prices.{held_of}
use Rattle.book.specs.declared.Entry.{Entry}
use Rattle.book.specs.Sides.{no_entry}
use Rattle.book.specs.Canonical.{Kept, held_in}
use Rattle.book.proofs.Canon.{length_held}
use Rattle.book.proofs.Every.{all_at, all_of}
use Rattle.cells.specs.Cells.{tab, flat, words, entry_at, side_at, side_size}
use Rattle.cells.proofs.Stores.{below_or}
use Rattle.cells.proofs.Tables.{length_tab, get_d_tab, flat_at}
use Rattle.cells.proofs.Windows.{entry_ext, no_entry_at, length_side_at, side_numbers}
use Rattle.board.specs.Ranges.{entry_fine}
use Rattle.board.specs.Sound.{SoundSide}
use Rattle.board.proofs.Tested.{four, and_true}
use Rattle.sides.specs.Side.{each, all_zero, entry_scan, side_scan}
use Rattle.scan.specs.Scan.{most_of, full_of}
use Rattle.sides.proofs.Each.{each_at, each_of, zero_at, zero_of}
use Rattle.sound.proofs.Ranges.{entry_test}
use Rattle.store.specs.Layout.{side_spare}

-- a side at `at` with room for so many
pub record SideFacts (depth room : ℕ) (xs : List ℕ) (at : ℕ) : Type 0 where
  pub held : get_or xs at 0 ≤ room
  pub used : (k : ℕ) → k < get_or xs at 0 → entry_fine depth (entry_at xs (at + 1 + k * 5)) ≡ true
  pub unused : (j : ℕ) → 1 + get_or xs at 0 * 5 ≤ j → j < side_size → get_or xs (at + j) 0 ≡ 0
  pub spare : (j : ℕ) → side_size ≤ j → j < 128 → get_or xs (at + j) 0 ≡ 0

module _ (depth room : ℕ) (xs : List ℕ) (at : ℕ) (small : room ≤ 20) where
  abbrev n : ℕ
  n = get_or xs at 0

  abbrev test : ℕ → Bool
  test k = entry_scan (most_of depth) (full_of depth) xs (at + 1 + k * 5)

  abbrev entry : ℕ → Entry
  entry i = entry_at xs (at + 1 + i * 5)

  -- ---- the tests and the facts

  pub side_facts : side_scan room (most_of depth) (full_of depth) xs at ≡ true → SideFacts depth room xs at
  unfolding side_scan
  side_facts e =
      let p = four (leb n room) (each test n) (all_zero xs (at + 1 + n * 5) (100 - n * 5)) (all_zero xs (at + side_size) side_spare) e in
      let h : n ≤ room = leb-true n room p.0 in
      record {
        held = h;
        used = λ k l. sym (entry_test depth xs (at + 1 + k * 5)) ∙ each_at test n k p.1 l;
        unused = λ j l m.
            let q : at + 1 + n * 5 + (j - (1 + n * 5)) ≡ at + j = omega arith in
            rw q at (zero_at xs (at + 1 + n * 5) (100 - n * 5) (j - (1 + n * 5)) p.2 (omega arith));
        spare = λ j l m.
            let q : at + side_size + (j - side_size) ≡ at + j = omega arith in
            rw q at (zero_at xs (at + side_size) side_spare (j - side_size) p.3 (omega arith));
      }

  pub facts_side : SideFacts depth room xs at → side_scan room (most_of depth) (full_of depth) xs at ≡ true
  unfolding side_scan
  facts_side s =
      and_true (le-leb n room s.held)
      (and_true (each_of test n (λ k l. entry_test depth xs (at + 1 + k * 5) ∙ s.used k l))
      (and_true
      (zero_of xs (at + 1 + n * 5) (100 - n * 5) (λ k l.
      let q : at + (1 + n * 5 + k) ≡ at + 1 + n * 5 + k = omega arith in
      rw q at (s.unused (1 + n * 5 + k) (omega arith) (omega (arith, s.held)))))
      (zero_of xs (at + side_size) side_spare (λ k l.
      let q : at + (side_size + k) ≡ at + side_size + k = omega arith in
      rw q at (s.spare (side_size + k) (omega arith) (omega arith))))))

  -- ---- the facts and the side

  no_entry_lem : SideFacts depth room xs at → (k : ℕ) → n ≤ k → k < 20 → entry k ≡ no_entry
  no_entry_lem s k h l =
      entry_ext xs (at + 1 + k * 5) [] 0 (λ j m.
      let q : at + (1 + k * 5 + j) ≡ at + 1 + k * 5 + j = omega arith in
      rw q at (s.unused (1 + k * 5 + j) (omega arith) (omega arith)))
      ∙ no_entry_at

  pub side_kept : SideFacts depth room xs at → Kept (side_at xs at)
  side_kept s = record {
    full = length_side_at xs at;
    room = omega (arith, s.held);
    unused = λ k h.
        below_or k 20 (λ l. get_d_tab no_entry entry 20 k l ∙ no_entry_lem s k h l)
        (λ l. get_or-eq_default (tab entry 20) no_entry {n = k} (omega (arith, length_tab entry 20)));
  }

  held_at : Kept (side_at xs at) → (i : ℕ) → i < n → get_or (held_in (side_at xs at)) i no_entry ≡ entry i
  held_at k i h = get_or-take n (tab entry 20) i no_entry h ∙ get_d_tab no_entry entry 20 i (omega (arith, k.room))

  pub side_sound : SideFacts depth room xs at → SoundSide depth (held_in (side_at xs at))
  side_sound s =
      let k = side_kept s in
      let l : length (held_in (side_at xs at)) ≡ n = length_held (side_at xs at) k in
      record {
        room = omega (arith, s.held);
        entries = all_of (λ e. entry_fine depth e ≡ true) (held_in (side_at xs at)) no_entry (λ i g.
            let h : i < n = omega arith in
            ap (entry_fine depth) (held_at k i h) ∙ s.used i h);
      }

  -- ---- and back

  none_words : (t : ℕ) → t < 5 → get_or (words no_entry) t 0 ≡ 0
  unfolding held_of
  none_words zero h = refl
  none_words (suc zero) h = refl
  none_words (suc (suc zero)) h = refl
  none_words (suc (suc (suc zero))) h = refl
  none_words (suc (suc (suc (suc zero)))) h = refl
  none_words (suc (suc (suc (suc (suc t))))) h = absurd (omega arith)

  unused_number : Kept (side_at xs at) → (j : ℕ) → n * 5 ≤ j → j < 100 → get_or xs (at + suc j) 0 ≡ 0
  unused_number k j h l =
      let q : j ≡ j / 5 * 5 + j % 5 = omega arith in
      sym (side_numbers xs at (suc j) (omega arith))
      ∙ ap (λ (i : ℕ). get_or (flat (tab entry 20)) i 0) q
      ∙ flat_at (tab entry 20) (j / 5) (j % 5) no_entry (omega (arith, length_tab entry 20)) (omega arith)
      ∙ ap (λ (e : Entry). get_or (words e) (j % 5) 0) (k.unused (j / 5) (omega arith))
      ∙ none_words (j % 5) (omega arith)

  pub facts_of : Kept (side_at xs at) → SoundSide depth (held_in (side_at xs at)) → n ≤ room → ((j : ℕ) → side_size ≤ j → j < 128 → get_or xs (at + j) 0 ≡ 0)
      → SideFacts depth room xs at
  facts_of k s h z =
      let m : length (held_in (side_at xs at)) ≡ n = length_held (side_at xs at) k in
      record {
        held = h;
        used = λ i l.
            sym (ap (entry_fine depth) (held_at k i l)) ∙ all_at (λ e. entry_fine depth e ≡ true) (held_in (side_at xs at)) i no_entry s.entries (omega arith);
        unused = λ j l g.
            let e : suc (j - 1) ≡ j = omega arith in
            rw e at (unused_number k (j - 1) (omega arith) (omega arith));
        spare = z;
      }
