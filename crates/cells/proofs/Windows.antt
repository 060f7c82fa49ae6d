-- A thing that is read from a store depends on its window alone: so it stays where nothing in its window is written, and
-- it comes back where its own numbers are.
use mathlib.Core.Path.{◌≡◌, refl, sym, ap, ◌∙◌}
use mathlib.Core.List.{List, [], ◌++◌}
use Prim.Native.Nat.{ℕ, zero, suc, ◌+◌, ◌*◌, ◌/◌, ◌%◌, ◌≤◌, ◌<◌}
use native.Mathlib.Nat.{add-zero, zero-add, add_assoc, add_comm}
use native.Mathlib.Numerals.{add-one}
use native.Mathlib.Omega.{arith}
use lib.IntN.{ℤ}
use lib.ListN.{length, get_or, take, drop, set, length-set, length-append, take-append-drop, get_or-append}
use lib.Seq.{sets, ext_get_or, get_or-set_other}
use Rattle.holding.specs.Prices.{of_held}
use Rattle.holding.proofs.Holding.{of_held_of, held_of_held}
use Rattle.book.specs.declared.Entry.{Entry}
use Rattle.book.specs.declared.Side.{Side}
use Rattle.book.specs.declared.Update.{Update}
use Rattle.book.specs.Sides.{no_entry, no_side}
use Rattle.cells.specs.Cells.{tab, zeros, flat, words, entry_at, side_words, side_at, update_words, queued_words, update_at, side_size}
use Rattle.cells.proofs.Stores.{before_sets, behind_sets, in_sets, sets_same}
use Rattle.cells.proofs.Tables.{length_tab, get_d_tab, tab_ext, in_zeros, flat_append, length_flat, flat_at}

-- two stores are the same from a and b on, n far
abbrev pub Same : ℕ → List ℕ → ℕ → List ℕ → ℕ → Type 0
Same n xs a ys b = (k : ℕ) → k < n → get_or xs (a + k) 0 ≡ get_or ys (b + k) 0

-- a window before what is written, behind it, and the one that is written
pub same_before : (n : ℕ) (xs : List ℕ) (a : ℕ) (ws : List ℕ) (b : ℕ) → b + n ≤ a → Same n (sets xs a ws) b xs b
same_before n xs a ws b h k l = before_sets 0 xs a ws (b + k) (omega arith)

pub same_behind : (n : ℕ) (xs : List ℕ) (a : ℕ) (ws : List ℕ) (b : ℕ) → a + length ws ≤ b → Same n (sets xs a ws) b xs b
same_behind n xs a ws b h k l = behind_sets 0 xs a ws (b + k) (omega arith)

pub same_in : (n : ℕ) (xs : List ℕ) (a : ℕ) (ws : List ℕ) → n ≤ length ws → a + length ws ≤ length xs → Same n (sets xs a ws) a ws 0
same_in n xs a ws h m k l = rw zero-add (in_sets 0 xs a ws k (omega arith) m)

-- zeros are what stands behind the end of a store
pub same_zeros : (n : ℕ) (xs : List ℕ) (a m b : ℕ) → a ≤ b → b + n ≤ a + m → a + m ≤ length xs → Same n (sets xs a (zeros m)) b [] 0
same_zeros n xs a m b h g l k q = in_zeros xs a m (b + k) (omega arith) (omega arith) l

-- a part of a window
pub same_part : (n i m : ℕ) (xs : List ℕ) (a : ℕ) (ys : List ℕ) (b : ℕ) → i + m ≤ n → Same n xs a ys b → Same m xs (a + i) ys (b + i)
same_part n i m xs a ys b h s k l = rw (add_assoc a i k, add_assoc b i k) (s (i + k) (omega arith))

-- the first number of a window
pub same_first : (n : ℕ) (xs : List ℕ) (a : ℕ) (ys : List ℕ) (b : ℕ) → 0 < n → Same n xs a ys b → get_or xs a 0 ≡ get_or ys b 0
same_first n xs a ys b h s = simp add-zero at (s 0 h)

-- ---- entries

pub entry_ext : (xs : List ℕ) (a : ℕ) (ys : List ℕ) (b : ℕ) → Same 5 xs a ys b → entry_at xs a ≡ entry_at ys b
entry_ext xs a ys b s =
    rw (same_first 5 xs a ys b (omega arith) s, s 1 (omega arith), s 2 (omega arith), s 3 (omega arith), s 4 (omega arith))

pub entry_words_lem : (e : Entry) → entry_at (words e) 0 ≡ e
entry_words_lem e = ap (λ (p : ℤ). record { price = p; size = e.size; by = e.by; more = e.more; moment = e.moment }) (of_held_of e.price)

words_entry : (xs : List ℕ) (a j : ℕ) → j < 5 → get_or (words (entry_at xs a)) j 0 ≡ get_or xs (a + j) 0
words_entry xs a zero h = rw (add-zero, held_of_held)
words_entry xs a (suc zero) h = refl
words_entry xs a (suc (suc zero)) h = refl
words_entry xs a (suc (suc (suc zero))) h = refl
words_entry xs a (suc (suc (suc (suc zero)))) h = refl
words_entry xs a (suc (suc (suc (suc (suc j))))) h = absurd (omega arith)

-- the entry of zeros is that of an unused place
pub no_entry_at : entry_at [] 0 ≡ no_entry
unfolding of_held
no_entry_at = refl

-- ---- sides

pub length_side_words : (s : Side) → length s.places ≡ 20 → length (side_words s) ≡ side_size
length_side_words s n = omega (arith, length_flat s.places)

pub length_side_at : (xs : List ℕ) (a : ℕ) → length (side_at xs a).places ≡ 20
length_side_at xs a = length_tab (λ (i : ℕ). entry_at xs (a + 1 + i * 5)) 20

pub side_ext : (xs : List ℕ) (a : ℕ) (ys : List ℕ) (b : ℕ) → Same side_size xs a ys b → side_at xs a ≡ side_at ys b
side_ext xs a ys b s =
    let t : (side_at xs a).places ≡ (side_at ys b).places =
    tab_ext _ _ 20 (λ i l. entry_ext xs _ ys _ (λ k m. simp add_assoc (s (1 + (i * 5 + k)) (omega arith)))) in
    rw (same_first side_size xs a ys b (omega arith) s, t)

-- a side's numbers, read again, are the side
pub side_words_lem : (s : Side) → length s.places ≡ 20 → side_at (side_words s) 0 ≡ s
side_words_lem s n =
    let f : ℕ → Entry = λ (i : ℕ). entry_at (side_words s) (0 + 1 + i * 5) in
    let one : (i : ℕ) → i < 20 → f i ≡ get_or s.places i no_entry =
    λ i l. entry_ext (side_words s) (0 + 1 + i * 5) (words (get_or s.places i no_entry)) 0 (λ k m.
    let q : 0 + 1 + i * 5 + k ≡ suc (i * 5 + k) = omega arith in
    rw (q, zero-add) (flat_at s.places i k no_entry (omega arith) m)) ∙ entry_words_lem (get_or s.places i no_entry) in
    let p : tab f 20 ≡ s.places =
    ext_get_or no_entry (tab f 20) s.places (length_tab f 20 ∙ sym n) (λ i l.
    get_d_tab no_entry f 20 i (omega (arith, length_tab f 20)) ∙ one i (omega (arith, length_tab f 20))) in
    ap (λ (ps : List Entry). record { places = ps; held = s.held }) p

-- the numbers of a side that was read are those that it was read from
pub side_numbers : (xs : List ℕ) (a j : ℕ) → j < side_size → get_or (side_words (side_at xs a)) j 0 ≡ get_or xs (a + j) 0
side_numbers xs a zero h = rw add-zero
side_numbers xs a (suc j) h =
    let f : ℕ → Entry = λ (i : ℕ). entry_at xs (a + 1 + i * 5) in
    let q : j ≡ j / 5 * 5 + j % 5 = omega arith in
    let r : a + suc j ≡ a + 1 + j / 5 * 5 + j % 5 = omega arith in
    let e : get_or (flat (tab f 20)) (j / 5 * 5 + j % 5) 0 ≡ get_or xs (a + 1 + j / 5 * 5 + j % 5) 0 =
    flat_at (tab f 20) (j / 5) (j % 5) no_entry (omega (arith, length_tab f 20)) (omega arith)
    ∙ ap (λ (t : Entry). get_or (words t) (j % 5) 0) (get_d_tab no_entry f 20 (j / 5) (omega arith))
    ∙ words_entry xs (a + 1 + j / 5 * 5) (j % 5) (omega arith) in
    ap (λ (k : ℕ). get_or (flat (tab f 20)) k 0) q ∙ e ∙ ap (λ (k : ℕ). get_or xs k 0) (sym r)

-- what is written before or behind a side leaves it
pub side_before : (xs : List ℕ) (a : ℕ) (ws : List ℕ) (b : ℕ) → b + side_size ≤ a → side_at (sets xs a ws) b ≡ side_at xs b
side_before xs a ws b h = side_ext (sets xs a ws) b xs b (same_before side_size xs a ws b h)

pub side_behind : (xs : List ℕ) (a : ℕ) (ws : List ℕ) (b : ℕ) → a + length ws ≤ b → side_at (sets xs a ws) b ≡ side_at xs b
side_behind xs a ws b h = side_ext (sets xs a ws) b xs b (same_behind side_size xs a ws b h)

-- a side that was written is read again
pub side_back : (xs : List ℕ) (a : ℕ) (s : Side) → length s.places ≡ 20 → a + side_size ≤ length xs → side_at (sets xs a (side_words s)) a ≡ s
side_back xs a s n h =
    let m : length (side_words s) ≡ side_size = length_side_words s n in
    side_ext (sets xs a (side_words s)) a (side_words s) 0 (same_in side_size xs a (side_words s) (omega arith) (omega arith)) ∙ side_words_lem s n

-- a side that was read, written again where it stood, changes nothing
pub side_again : (xs : List ℕ) (a : ℕ) → a + side_size ≤ length xs → sets xs a (side_words (side_at xs a)) ≡ xs
side_again xs a h =
    let w : length (side_words (side_at xs a)) ≡ side_size = length_side_words (side_at xs a) (length_side_at xs a) in
    sets_same 0 xs a (side_words (side_at xs a)) (omega arith) (λ k l. side_numbers xs a k (omega arith))

-- first places of a side that stand there already, written again once how many are held is written, change nothing
pub places_again : (xs : List ℕ) (a held n : ℕ) (es : List Entry) → a + side_size ≤ length xs → take n es ≡ take n (side_at xs a).places
    → sets (set xs a held) (a + 1) (flat (take n es)) ≡ set xs a held
places_again xs a held n es h q =
    let t = (side_at xs a).places in
    let f = flat (take n t) in
    let w : f ++ flat (drop n t) ≡ flat t = sym (flat_append (take n t) (drop n t)) ∙ ap flat (take-append-drop n t) in
    let m : length f ≤ 100 = omega (arith, length_flat t, length_side_at xs a, ap length w, length-append f (flat (drop n t))) in
    rw q
    (sets_same 0 (set xs a held) (a + 1) f (omega (arith, length-set xs a held)) (λ k l.
    let e : a + suc k ≡ a + 1 + k = omega arith in
    sym (get_or-append f (flat (drop n t)) 0 k l)
    ∙ ap (λ (ws : List ℕ). get_or ws k 0) w
    ∙ side_numbers xs a (suc k) (omega arith)
    ∙ rw e (sym (get_or-set_other xs a (a + 1 + k) held 0 (λ z. omega arith)))))

-- zeros are the empty side
pub no_side_at : side_at [] 0 ≡ no_side
unfolding tab of_held
no_side_at = refl

pub side_zeros : (xs : List ℕ) (a m b : ℕ) → a ≤ b → b + side_size ≤ a + m → a + m ≤ length xs → side_at (sets xs a (zeros m)) b ≡ no_side
side_zeros xs a m b h g l = side_ext (sets xs a (zeros m)) b [] 0 (same_zeros side_size xs a m b h g l) ∙ no_side_at

-- ---- updates, and a number before one

pub update_ext : (xs : List ℕ) (a : ℕ) (ys : List ℕ) (b : ℕ) → Same 9 xs a ys b → update_at xs a ≡ update_at ys b
update_ext xs a ys b s =
    rw (
      same_first 9 xs a ys b (omega arith) s,
      s 1 (omega arith),
      s 2 (omega arith),
      s 3 (omega arith),
      entry_ext xs (a + 4) ys (b + 4) (same_part 9 4 5 xs a ys b (omega arith) s),
    )

pub update_words_lem : (u : Update) → update_at (update_words u) 0 ≡ u
update_words_lem u =
    ap (λ (e : Entry). record { who = u.who; what = u.what; action = u.action; place = u.place; entry = e }) (entry_words_lem u.entry)

-- an update that was written is read again, alone or behind the number of its message
pub update_own : (xs : List ℕ) (a : ℕ) (u : Update) → a + 9 ≤ length xs → update_at (sets xs a (update_words u)) a ≡ u
update_own xs a u h =
    update_ext (sets xs a (update_words u)) a (update_words u) 0 (same_in 9 xs a (update_words u) (omega arith) (omega arith)) ∙ update_words_lem u

pub update_back : (xs : List ℕ) (a n : ℕ) (u : Update) → a + 10 ≤ length xs → update_at (sets xs a (queued_words n u)) (a + 1) ≡ u
update_back xs a n u h =
    update_ext (sets xs a (queued_words n u)) (a + 1) (queued_words n u) (0 + 1)
    (same_part 10 1 9 (sets xs a (queued_words n u)) a (queued_words n u) 0 (omega arith) (same_in 10 xs a (queued_words n u) (omega arith) (omega arith)))
    ∙ update_ext (queued_words n u) 1 (update_words u) 0 (λ k l. rw (zero-add, add_comm 1 k, add-one))
    ∙ update_words_lem u

pub update_numbers : (xs : List ℕ) (a j : ℕ) → j < 9 → get_or (update_words (update_at xs a)) j 0 ≡ get_or xs (a + j) 0
update_numbers xs a zero h = rw add-zero
update_numbers xs a (suc zero) h = refl
update_numbers xs a (suc (suc zero)) h = refl
update_numbers xs a (suc (suc (suc zero))) h = refl
update_numbers xs a (suc (suc (suc (suc j)))) h =
    let e : a + 4 + j ≡ a + suc (suc (suc (suc j))) = omega arith in
    rw e at (words_entry xs (a + 4) j (omega arith))
