-- What stands before the entries is what is read. Assumes nothing.
use Rattle.std.specs.Prelude.{Some}
use mathlib.Core.Path.{◌≡◌, refl}
use mathlib.Core.Bool.{true}
use mathlib.Core.List.{List, [], ◌∷◌, ◌++◌}
use Prim.Native.Nat.{ℕ, ◌+◌}
use native.Mathlib.Omega.{arith}
use borrow.Author.Tests.{eq-eqb}
use lib.ListN.{length}
use Rattle.text.specs.Text.{decimal}
use Rattle.moment.specs.Moments.{moment_text}
use Rattle.moment.proofs.Back.{moment_back}
use Rattle.chain.specs.Fields.{Field, field}
use Rattle.book.specs.Rules.{Lists}
use Rattle.message.specs.Message.{Head, most_number}
use Rattle.tags.specs.Tags.{named_tags, head_w, entry_w, has, stands, tidy, up_to, past, lookup}
use Rattle.values.specs.Values.{bvmf, instrument_of}
use Rattle.group.specs.Groups.{group_of}
use Rattle.lead.specs.Messages.{head_of}
use Rattle.snapshot.specs.Snapshot.{Letter}
use Rattle.roundtrip.specs.ReadBack.{InRange}
use Rattle.roundtrip.proofs.Entries.{number_back}
use Rattle.roundtrip.proofs.Groups.{group, entries, group_parts, group_begins, group_count, group_tidy}
use Rattle.book.specs.Ids.{most_id}

-- the fields from 49 to 268
abbrev pub after_type : Letter → ℕ → ℕ → ℕ → List Field
after_type l who H n =
    field 49 l.sender
    ∷ field 56 l.target
    ∷ field 34 (decimal l.k)
    ∷ field 52 (moment_text l.time)
    ∷ field 48 (decimal who)
    ∷ field 22 (56 ∷ [])
    ∷ field 207 (66 ∷ 86 ∷ 77 ∷ 70 ∷ [])
    ∷ field 369 (decimal H)
    ∷ field 911 (decimal l.m)
    ∷ field 268 (decimal n)
    ∷ []

abbrev pub head_said : Letter → ℕ → ℕ → Head
head_said l who H = record { number = l.k; heard = l.time; id = who; last = H; loops = l.m }

module _ (depth : ℕ) (l : Letter) (who H : ℕ) (b : Lists) (r : InRange depth l who H b) where
  abbrev pub body : List Field
  body = after_type l who H (length b.bids + length b.offers) ++ group depth who b

  pub head_tidy : tidy named_tags head_w (up_to 268 body) ≡ true
  unfolding tidy has stands up_to
  head_tidy = refl

  pub head_back : head_of (lookup (up_to 268 body)) ≡ Some (head_said l who H)
  unfolding head_of instrument_of bvmf lookup up_to
  head_back =
      rw (
        number_back 10 1 most_number l.k (omega arith) (omega arith) (omega (arith, r.k_high, r.m_high)) r.k_low (omega (arith, r.k_high, r.m_high)),
        moment_back l.time r.time,
        number_back 18 1 most_id who (omega arith) (omega arith) (omega (arith, r.id_high)) r.id_low r.id_high,
        number_back 10 0 most_number H (omega arith) (omega arith) (omega (arith, r.last)) (omega arith) r.last,
        number_back 10 1 most_number l.m (omega arith) (omega arith) (omega (arith, r.m_high)) (omega (arith, r.k_low, r.k_high)) (omega (arith, r.m_high)),
      )

  group_past : past 268 body ≡ group depth who b
  unfolding past
  group_past = refl

  count_read_lem : lookup body 268 ≡ decimal (length b.bids + length b.offers)
  unfolding lookup
  count_read_lem = refl

  pub group_back : group_of 269 entry_w body ≡ Some (entries depth who b)
  unfolding group_of tidy
  group_back =
      let n = length b.bids + length b.offers in
      rw (
        count_read_lem,
        number_back 2 0 64 n (omega arith) (omega arith) (omega (arith, r.bids.room, r.offers.room)) (omega arith) (omega (arith, r.bids.room, r.offers.room)),
        group_past,
        group_parts depth who b,
        group_begins depth who b,
        group_count depth who b,
        eq-eqb n n refl,
        group_tidy depth who b,
      )
