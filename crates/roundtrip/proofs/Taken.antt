-- What is in range can be written: the writer's contract asks no more. Assumes nothing.
use Rattle.std.specs.Borrow.{Bor}
use mathlib.Core.Path.{◌≡◌, refl}
use mathlib.Core.List.{List}
use Prim.Native.Nat.{ℕ}
use native.Mathlib.Omega.{arith}
use Rattle.book.specs.Canonical.{KeptBook, held_in, lists_in}
use Rattle.book.specs.Rules.{Lists}
use Rattle.book.specs.Sides.{no_entry}
use Rattle.book.specs.declared.Book.{Book}
use Rattle.line.specs.Entries.{Writable}
use Rattle.snapshot.specs.Snapshot.{Letter, snapshot_fields}
use Rattle.snapshot.specs.Writing.{Ready, letter, letter_of, fields_in}
use Rattle.snapshot.specs.declared.letters.Letter as lent
use Rattle.snapshot.specs.declared.letters.Sheet.{Sheet}
use Rattle.snapshot.proofs.Sides.{all_at}
use Rattle.roundtrip.specs.ReadBack.{InRange}
use Rattle.roundtrip.proofs.Texts.{text_name}
use Rattle.roundtrip.proofs.Fine.{all_writable}

pub ready : (depth : ℕ) (l : Letter) (who H : ℕ) (b : Book) → InRange depth l who H (lists_in b) → KeptBook b → Ready l who H b
ready depth l who H b r k =
    record {
      sender = (text_name l.sender r.sender).most;
      target = (text_name l.target r.target).most;
      k = omega (arith, r.k_high, r.m_high);
      m = r.m_high;
      time = r.time;
      id = omega (arith, r.id_high);
      last = r.last;
      kept = k;
      bids = all_writable depth (held_in b.bids) r.bids.entries;
      offers = all_writable depth (held_in b.offers) r.offers.entries;
    }

-- what it takes is a Letter and a Sheet, each of which asks its part of that: of what is in range both can be made
pub letter_taken : (depth : ℕ) (sender target : Bor (List ℕ)) (k m time who H : ℕ) (b : Lists) → InRange depth (letter sender.now target.now k m time) who H b
    → (x : lent.Letter) × (letter_of x ≡ letter sender.now target.now k m time)
letter_taken depth sender target k m time who H b r = (
  record {
    sender = sender;
    target = target;
    k = k;
    m = m;
    time = time;
    sender_short = (text_name sender.now r.sender).most;
    target_short = (text_name target.now r.target).most;
    k_low = omega (arith, r.k_high, r.m_high);
    m_low = r.m_high;
    is_moment = r.time;
  },
  refl,
)

pub sheet_taken : (depth : ℕ) (l : Letter) (who H : ℕ) (book : Bor Book) → InRange depth l who H (lists_in book.now) → KeptBook book.now
    → (x : Sheet) × ((y : lent.Letter) → fields_in y x ≡ snapshot_fields depth (letter_of y) who H (lists_in book.now))
sheet_taken depth l who H book r k =
    let s = ready depth l who H book.now r k in (
      record {
        depth = depth;
        id = who;
        last = H;
        book = book;
        id_low = s.id;
        last_low = s.last;
        kept = s.kept;
        bids = λ i. all_at Writable (held_in book.now.bids) i no_entry s.bids;
        offers = λ i. all_at Writable (held_in book.now.offers) i no_entry s.offers;
      },
      λ y. refl,
    )
