-- A lot that is given is dated, and stands beside the quote. Assumes nothing.
use mathlib.Core.Path.{◌≡◌, refl, sym, ap, ◌∙◌, subst}
use mathlib.Core.Bool.{Bool, true, false, cond}
use mathlib.Core.List.{List, [], ◌∷◌, ◌++◌}
use Prim.Native.Nat.{ℕ, ◌≤◌}
use native.Mathlib.Omega.{arith}
use lib.IntN.{ℤ}
use lib.ListN.{length, take}
use lib.Seq.{sets}
use borrow.Author.Tests.{le-leb}
use Rattle.digits.specs.Digits.{digits_of}
use Rattle.calendar.specs.Calendar.{leap, months, days_in, days_to, year_days, days_before, is_date, day_of, date_number}
use Rattle.calendar.proofs.Dates.{date_back}
use Rattle.moment.specs.Moments.{date_of, two_of, minutes_of, clock_of, time_of, moment_of, day_part, time_part, time_number}
use Rattle.moment.specs.Ages.{millis, age_of}
use Rattle.book.specs.Rules.{Lists, applied, after_action, after_new, after_change}
use Rattle.book.specs.declared.Entry.{Entry}
use Rattle.cells.proofs.Stores.{take_sets}
use Rattle.sums.specs.Sums.{fits}
use Rattle.proceeds.specs.Lots.{units_of, left_of, value_of, sum_over, sum_after, all_fit, lot_of}
use Rattle.board.specs.Board.{any_waiting, look}
use Rattle.board.specs.Count.{joining, hit, give, gives, count, number}
use Rattle.board.specs.Snapshot.{entries_of, run, after, snap}
use Rattle.board.specs.Snapshot as snapshot
use Rattle.board.specs.Feed.{feed}
use Rattle.board.specs.Calls.{inst}
use Rattle.loops.specs.Loops.{in_row, is_whole}
use Rattle.loops.specs.Ending.{ended}
use Rattle.loops.specs.Channel as loops
use Rattle.loops.specs.Channel.{Channel}
use Rattle.store.specs.Meaning.{board_at}
use Rattle.sound.specs.Sound.{sound}
use Rattle.opening.specs.Opening.{open_answer, open_store}
use Rattle.std.specs.Prelude.{Ok, Err, Some}
use Rattle.quote.specs.Quotes.{Quoted, given, quote_of, if_quoted}
use Rattle.quote.specs.declared.Quote.{Quote}
use Rattle.quote.specs.declared.NoQuote.{NoQuote}
use Rattle.price.specs.Price.{hundredths}
use Rattle.ask.specs.Ask.{bits_of, moment_words, top_words, quote_words, quote_size, quote_number, quote_answer, quote_out}
use Rattle.backing.specs.Backing.{quoted_of, side_for, behind}
use Rattle.lots.specs.declared.Sold.{Sold}
use Rattle.lots.specs.Lots.{on_quote, lotted_of}
use Rattle.lots.specs.Rooms.{lot_size, sold_words, lot_answer, lot_out}
use Rattle.lots.specs.Laws.{Rests, Brings}
use Rattle.lots.proofs.Laws.{lots_are_ordered}
use Rattle.samples.specs.Says.{bid_2, offer_3}
use Rattle.promises.specs.Acts.{lefts}
use Rattle.promises.specs.Hut.{received, ours}
use Rattle.promises.specs.Lots.{LotsAreDated, LotsOverByStream, BesideQuotes, LotsBesideQuotes, at_five, HutDeals}
use Rattle.promises.proofs.Recovery.{Holds}
use Rattle.promises.proofs.Hut.{end, book, hut_holds}
use Rattle.promises.proofs.Quotes.{given_by, counted, as_of}

-- ---- the quote that a lot rests on, on the board
pub record OnBoard (id : ℕ) (now : List ℕ) (limit : ℕ) (xs : List ℕ) (q : Quote) : Type 0 where
  pub is_sound_lem : sound xs ≡ true
  pub quoted : quote_of id now limit (board_at xs) ≡ Ok q

module _ (id : ℕ) (now : List ℕ) (limit : ℕ) (xs : List ℕ) where
  -- the quote of a store that is given is its board's
  on_board : (q : Quote) → quoted_of id now limit xs ≡ Ok q → OnBoard id now limit xs q
  unfolding quoted_of
  on_board q = go (sound xs) refl
    where
      go : (t : Bool) → sound xs ≡ t → cond t (quote_of id now limit (board_at xs)) (Err NoQuote.Unsound) ≡ Ok q → OnBoard id now limit xs q
      go true s e = record { is_sound_lem = s; quoted = e }
      go false s e = let z : ◌≡◌ {A = ℕ} 0 1 = cc in absurd (omega arith)

  behind_is : (buying : Bool) (q : Quote) → quoted_of id now limit xs ≡ Ok q → behind buying id now limit xs ≡ side_for buying (inst id (board_at xs)).book
  unfolding behind
  behind_is buying q e = rw e

  -- a quote that is answered 0 is given
  is_quoted : (r : Quoted) → quote_number r ≡ 0 → (q : Quote) × (r ≡ Ok q)
  is_quoted (Ok q) e = (q, refl)
  is_quoted (Err NoQuote.Unsound) e = absurd (omega arith)
  is_quoted (Err NoQuote.BadArgument) e = absurd (omega arith)
  is_quoted (Err NoQuote.NotFollowed) e = absurd (omega arith)
  is_quoted (Err NoQuote.Waiting) e = absurd (omega arith)
  is_quoted (Err NoQuote.NothingHeard) e = absurd (omega arith)
  is_quoted (Err NoQuote.BeforeHeard) e = absurd (omega arith)
  is_quoted (Err NoQuote.TooOld) e = absurd (omega arith)

  -- and is the board's
  is_given : (q p : Quote) → ◌≡◌ {A = Quoted} (Ok q) (Ok p) → q ≡ p
  is_given q p e = cc

  of_quote : (q : Quote) → OnBoard id now limit xs q → q ≡ given (board_at xs) (inst id (board_at xs))
  of_quote q o =
      is_given q (given (board_at xs) (inst id (board_at xs))) (sym o.quoted ∙ (given_by id now limit (board_at xs) (ap quote_number o.quoted)).said)

module _ (buying : Bool) (id n : ℕ) (now : List ℕ) (limit : ℕ) (xs : List ℕ) where
  abbrev side : List Entry
  side = side_for buying (inst id (board_at xs)).book

  abbrev sale : Sold
  sale = record { sum = sum_over n side; left = left_of n side; number = (board_at xs).H; heard = (board_at xs).heard }

  sold_as : (s t : Sold) → s.sum ≡ t.sum → s.left ≡ t.left → s.number ≡ t.number → s.heard ≡ t.heard → sold_words s ≡ sold_words t
  sold_as s t a b c d = rw (a, b, c, d)

  rests : (g : Brings buying id n now limit xs) → Rests g.q n side g.s
  rests g = subst (λ (es : List Entry). Rests g.q n es g.s) (behind_is id now limit xs buying g.q g.quoted) g.rests

  -- what stands in the room
  words : (g : Brings buying id n now limit xs) → sold_words g.s ≡ sold_words sale
  words g =
      let r = rests g in
      let q = of_quote id now limit xs g.q (on_board id now limit xs g.q g.quoted) in
      sold_as g.s sale r.sum r.left (r.number ∙ ap (λ (q : Quote). q.number) q) (r.heard ∙ ap (λ (q : Quote). q.heard) q)

  out_is : (out : List ℕ) → lot_answer buying id n now limit out xs ≡ 0 → (g : Brings buying id n now limit xs) → lot_out buying id n now limit out xs ≡ sets out 0 (sold_words sale)
  unfolding lot_out
  out_is out a g = rw (a, g.lotted) (ap (sets out 0) (words g))

-- ---- and then it is dated
pub lots_are_dated : LotsAreDated
lots_are_dated depth stream n d w ids xs e cs p buying units now limit out a =
    let ys = lefts cs (open_store depth ids xs) in
    let t = (lots_are_ordered buying d units now limit out ys).given a in
    let b = on_board d now limit ys t.q t.quoted in
    let g = given_by d now limit (board_at ys) (ap quote_number b.quoted) in
    let (k, z) = counted depth stream n d w ids xs e cs p now limit (quote_of d now limit (board_at ys)) g in
    let side = side_for buying (inst d (board_at ys)).book in
    record {
      k = k;
      heard = (board_at ys).heard;
      book = (inst d (board_at ys)).book;
      as_of = as_of depth stream n d w ids xs e cs p now limit (quote_of d now limit (board_at ys)) g k z;
      fit = (rests buying d units now limit ys t).fit;
      room = out_is buying d units now limit ys out a t
          ∙ ap (λ (H : ℕ). sets out 0 (sold_words (record { sum = sum_over units side; left = left_of units side; number = H; heard = (board_at ys).heard }))) z;
    }

pub lots_over_by_stream : LotsOverByStream
lots_over_by_stream depth stream n d w ids xs e cs p buying units now limit out a =
    let ys = lefts cs (open_store depth ids xs) in
    let (l, (r, (u, (j, (m, o))))) = (lots_are_ordered buying d units now limit out ys).only a in
    let (q, f) = is_quoted d now limit ys (quoted_of d now limit ys) r in
    let b = on_board d now limit ys q f in
    let g = given_by d now limit (board_at ys) (ap quote_number b.quoted) in
    let (k, z) = counted depth stream n d w ids xs e cs p now limit (quote_of d now limit (board_at ys)) g in
    record {
      k = k;
      heard = (board_at ys).heard;
      book = (inst d (board_at ys)).book;
      as_of = as_of depth stream n d w ids xs e cs p now limit (quote_of d now limit (board_at ys)) g k z;
      j = j;
      over = ap (λ (es : List Entry). fits (sum_after units es j)) (sym (behind_is d now limit ys buying q f)) ∙ o;
    }

-- ---- a lot beside a quote
front : (l : List ℕ) (a b c : ℕ) (us : List ℕ) → 3 ≤ length l → take 3 (sets l 0 (a ∷ b ∷ c ∷ us)) ≡ a ∷ b ∷ c ∷ []
front [] a b c us h = absurd (omega arith)
front (x ∷ []) a b c us h = absurd (omega arith)
front (x ∷ y ∷ []) a b c us h = absurd (omega arith)
front (x ∷ y ∷ z ∷ l) a b c us h = take_sets 3 (a ∷ b ∷ c ∷ l) 3 us (omega arith)

lot_front : (out : List ℕ) (s : Sold) → 3 ≤ length out → take 3 (sets out 0 (sold_words s)) ≡ s.number ∷ moment_words s.heard
lot_front out s h = front out s.number (date_number (day_part s.heard)) (time_number (time_part s.heard)) (bits_of s.sum ∷ s.left ∷ []) h

quote_front : (room : List ℕ) (depth : ℕ) (q : Quote) → 3 ≤ length room → take 3 (sets room 0 (quote_words depth q)) ≡ q.number ∷ moment_words q.heard
quote_front room depth q h =
    front room q.number (date_number (day_part q.heard)) (time_number (time_part q.heard)) (top_words depth q.bid ++ top_words depth q.offer) h

module _ (buying : Bool) (id n : ℕ) (now : List ℕ) (limit : ℕ) (room out xs : List ℕ) (l : quote_size ≤ length room) (k : lot_size ≤ length out) where
  quote_is : quote_answer id now limit room xs ≡ quote_number (quoted_of id now limit xs)
  unfolding quote_answer quoted_of
  quote_is = rw (le-leb quote_size (length room) l) (go (sound xs))
    where
      go : (t : Bool) → cond t (quote_number (quote_of id now limit (board_at xs))) 17 ≡ quote_number (cond t (quote_of id now limit (board_at xs)) (Err NoQuote.Unsound))
      go true = refl
      go false = refl

  refused : (quote_answer id now limit room xs ≡ 0 → ⊥) → lot_answer buying id n now limit out xs ≡ quote_answer id now limit room xs
  refused h = (lots_are_ordered buying id n now limit out xs).quote k (λ z. h (quote_is ∙ z)) ∙ sym quote_is

  both : (g : Brings buying id n now limit xs) → quote_answer id now limit room xs ≡ 0
  both g = quote_is ∙ ap quote_number g.quoted

  quote_out_lem : (g : Brings buying id n now limit xs)
      → quote_out id now limit room xs ≡ sets room 0 (quote_words (board_at xs).depth (given (board_at xs) (inst id (board_at xs))))
  unfolding quote_out
  quote_out_lem g =
      let b = on_board id now limit xs g.q g.quoted in
      rw (both g, b.quoted) (ap (λ (q : Quote). sets room 0 (quote_words (board_at xs).depth q)) (of_quote id now limit xs g.q b))

  dated : lot_answer buying id n now limit out xs ≡ 0 → take 3 (lot_out buying id n now limit out xs) ≡ take 3 (quote_out id now limit room xs)
  dated a =
      let g = (lots_are_ordered buying id n now limit out xs).given a in
      ap (take 3) (out_is buying id n now limit xs out a g)
      ∙ lot_front out (sale buying id n now limit xs) (omega (arith, k))
      ∙ sym (quote_front room (board_at xs).depth (given (board_at xs) (inst id (board_at xs))) (omega (arith, l)))
      ∙ ap (take 3) (sym (quote_out_lem g))

  beside : BesideQuotes buying id n now limit room out xs
  beside = record { refused = refused; given = λ a. both ((lots_are_ordered buying id n now limit out xs).given a); dated = dated }

pub lots_beside_quotes : LotsBesideQuotes
lots_beside_quotes buying id n now limit room out xs l k = beside buying id n now limit room out xs l k

-- ---- the hut that deals
module _ (depth : ℕ) (xs : List ℕ) (c : Channel) (h : Holds depth xs c) (buying : Bool) (id n : ℕ) (now : List ℕ) (limit : ℕ) where
  of_holds : (q : Quoted) → quote_of id now limit c.board ≡ q
      → lotted_of buying id n now limit xs ≡ on_quote q n (if_quoted (λ p. side_for buying (inst id c.board).book) [] q)
  unfolding lotted_of quoted_of behind
  of_holds q e = let b = ap (λ (k : Channel). k.board) h.same in rw (h.sound, b, e)

abbrev heard_at_lem : ℕ
heard_at_lem = 64968180542000

heard_words_lem : moment_words heard_at_lem ≡ 20250103 ∷ 130002000 ∷ []
unfolding time_number day_of is_date leap months days_in days_to year_days days_before
heard_words_lem = ap (λ (d : ℕ). d ∷ time_number (time_part heard_at_lem) ∷ []) (date_back 20250103 (omega arith) refl)

hut_quote : quote_of 7 at_five 30 end.board ≡ Ok (record { number = 3; heard = heard_at_lem; bid = Some bid_2; offer = Some offer_3 })
unfolding applied after_action after_new after_change any_waiting look joining hit give gives count number entries_of run after snapshot.take snap feed loops.given in_row is_whole ended quote_of age_of millis moment_of date_of time_of clock_of minutes_of two_of digits_of is_date day_of leap months days_in days_to year_days days_before
hut_quote = refl

-- what 6 units bring and cost
abbrev hut_sum : Bool → ℤ
hut_sum buying = cond buying (hundredths 14430) (hundredths 12010)

abbrev hut_left : Bool → ℕ
hut_left buying = cond buying 0 1

hut_sold : (buying : Bool) (q : Quote) → on_quote (Ok q) 6 (side_for buying (record { bids = bid_2 ∷ []; offers = offer_3 ∷ [] }))
    ≡ Ok (record { sum = hut_sum buying; left = hut_left buying; number = q.number; heard = q.heard })
unfolding fits units_of left_of value_of all_fit lot_of
hut_sold true q = refl
hut_sold false q = refl

module _ (xs room : List ℕ) (e : open_answer 0 ours xs ≡ 0) (l : lot_size ≤ length room) (buying : Bool) where
  hut_lotted : lotted_of buying 7 6 at_five 30 (lefts received (open_store 0 ours xs))
      ≡ Ok (record { sum = hut_sum buying; left = hut_left buying; number = 3; heard = heard_at_lem })
  hut_lotted =
      of_holds 0 (lefts received (open_store 0 ours xs)) end (hut_holds xs e) buying 7 6 at_five 30 _ hut_quote
      ∙ ap (λ (b : Lists). on_quote (Ok (record { number = 3; heard = heard_at_lem; bid = Some bid_2; offer = Some offer_3 })) 6 (side_for buying b)) book
      ∙ hut_sold buying (record { number = 3; heard = heard_at_lem; bid = Some bid_2; offer = Some offer_3 })

  hut_answer : lot_answer buying 7 6 at_five 30 room (lefts received (open_store 0 ours xs)) ≡ 0
  unfolding lot_answer
  hut_answer = rw (hut_lotted, le-leb lot_size (length room) l)

  hut_out : lot_out buying 7 6 at_five 30 room (lefts received (open_store 0 ours xs)) ≡ sets room 0 (3 ∷ 20250103 ∷ 130002000 ∷ bits_of (hut_sum buying) ∷ hut_left buying ∷ [])
  unfolding lot_out
  hut_out = rw (hut_answer, hut_lotted) (ap (λ (m : List ℕ). sets room 0 (3 ∷ m ++ (bits_of (hut_sum buying) ∷ hut_left buying ∷ []))) heard_words_lem)

pub hut_deals : HutDeals
unfolding bits_of
hut_deals xs room e l = (
  record { answer = hut_answer xs room e l false; out = hut_out xs room e l false },
  record { answer = hut_answer xs room e l true; out = hut_out xs room e l true },
)
