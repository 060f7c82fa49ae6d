-- A side that is kept and the list of the entries that it holds determine each other.
use mathlib.Core.Path.{◌≡◌, refl, ap, ◌∙◌, sym}
use mathlib.Core.List.{List, [], ◌∷◌}
use Prim.Native.Nat.{ℕ, zero, suc, ◌-◌, ◌≤◌, suc-le-suc}
use native.Mathlib.Nat.{le_of_suc-le-suc}
use native.Mathlib.Omega.{arith}
use lib.ListN.{length, get_or, take, replicate, length-take}
use lib.Seq.{take-append-le, take-length}
use Rattle.book.specs.declared.Entry.{Entry}
use Rattle.book.specs.declared.Side.{Side}
use Rattle.book.specs.declared.Book.{Book}
use Rattle.book.specs.Rules.{most_places, Lists, empty}
use Rattle.book.specs.Sides.{no_entry, no_side, no_book, pad}
use Rattle.book.specs.Canonical.{Kept, KeptBook, held_in, side_of, lists_in, book_of}
use Rattle.book.proofs.Padding.{cons, length_pad, pad_append}

-- the list that a side is made of is the list that it holds
pub held_of : (l : List Entry) → length l ≤ most_places → held_in (side_of l) ≡ l
held_of l h = rw (pad_append most_places l h, take-append-le (length l) l (replicate (most_places - length l) no_entry) (omega arith), take-length)

pad_unused_at : (k : ℕ) (l : List Entry) (j : ℕ) → length l ≤ j → get_or (pad k l) j no_entry ≡ no_entry
unfolding pad
pad_unused_at zero l j h = refl
pad_unused_at (suc k) [] zero h = refl
pad_unused_at (suc k) [] (suc j) h = pad_unused_at k [] j (omega arith)
pad_unused_at (suc k) (x ∷ l) zero h = absurd (omega arith)
pad_unused_at (suc k) (x ∷ l) (suc j) h = pad_unused_at k l j (le_of_suc-le-suc h)

-- a side made of at most 20 entries is kept
pub kept_of : (l : List Entry) → length l ≤ most_places → Kept (side_of l)
kept_of l h = record { full = length_pad most_places l; room = h; unused = pad_unused_at most_places l }

pad_held : (n h : ℕ) (l : List Entry) → length l ≡ n → ((k : ℕ) → h ≤ k → get_or l k no_entry ≡ no_entry) → l ≡ pad n (take h l)
unfolding pad
pad_held zero h [] e u = refl
pad_held zero h (x ∷ l) e u = absurd (omega arith)
pad_held (suc n) h [] e u = absurd (omega arith)
pad_held (suc n) zero (x ∷ l) e u = cc (u 0 (omega arith), pad_held n zero l (omega arith) (λ k g. u (suc k) (omega arith)))
pad_held (suc n) (suc h) (x ∷ l) e u = ap (cons x) (pad_held n h l (omega arith) (λ k g. u (suc k) (suc-le-suc g)))

-- as many entries are held as the side counts
pub length_held : (s : Side) → Kept s → length (held_in s) ≡ s.held
length_held s k = rw length-take (omega (arith, k.room, k.full))

side_by : {a b : List Entry} {n m : ℕ} → a ≡ b → n ≡ m → ◌≡◌ {A = Side} (record { places = a; held = n }) (record { places = b; held = m })
side_by h g = cc

-- a side that is kept is the one made of the list that it holds
pub kept_is : (s : Side) → Kept s → s ≡ side_of (held_in s)
kept_is s k = side_by (pad_held most_places s.held s.places k.full k.unused) (sym (length_held s k))

-- two sides that are kept and hold the same entries are one
pub kept_same : (s t : Side) → Kept s → Kept t → held_in s ≡ held_in t → s ≡ t
kept_same s t k m h = kept_is s k ∙ ap side_of h ∙ sym (kept_is t m)

-- an empty side is the side of no entries
pub no_side_is : no_side ≡ side_of []
unfolding pad
no_side_is = refl

pub kept_no_side : Kept no_side
unfolding pad
kept_no_side = kept_of [] (omega arith)

-- the same for books
pub kept_book_of : (b : Lists) → length b.bids ≤ most_places → length b.offers ≤ most_places → KeptBook (book_of b)
kept_book_of b h g = record { bids = kept_of b.bids h; offers = kept_of b.offers g }

book_by : {s t u v : Side} → s ≡ t → u ≡ v → ◌≡◌ {A = Book} (record { bids = s; offers = u }) (record { bids = t; offers = v })
book_by h g = cc

pub kept_book_is : (b : Book) → KeptBook b → b ≡ book_of (lists_in b)
kept_book_is b k = book_by (kept_is b.bids k.bids) (kept_is b.offers k.offers)

pub kept_book_same : (b c : Book) → KeptBook b → KeptBook c → lists_in b ≡ lists_in c → b ≡ c
kept_book_same b c k m h = kept_book_is b k ∙ ap book_of h ∙ sym (kept_book_is c m)

pub no_book_is : no_book ≡ book_of empty
unfolding pad
no_book_is = refl

pub kept_no_book : KeptBook no_book
kept_no_book = record { bids = kept_no_side; offers = kept_no_side }
