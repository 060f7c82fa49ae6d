-- A quote that is given is dated. Assumes nothing.
use Rattle.std.specs.Prelude.{Ok, Err, Option, Some, None}
use mathlib.Core.Path.{◌≡◌, refl, sym, ap, ◌∙◌}
use mathlib.Core.Bool.{Bool, true, false, cond, ◌&&◌, true≢false}
use mathlib.Core.List.{List, map}
use Prim.Native.Nat.{ℕ, zero, suc, ◌*◌}
use native.Mathlib.Omega.{arith}
use lib.Dec.{leb, eqb}
use lib.IntN.{pos}
use lib.Signed.{lt_z}
use lib.ListN.{length}
use lib.Seq.{sets}
use Rattle.moment.specs.Moments.{moment_of}
use Rattle.moment.specs.Ages.{age_of}
use Rattle.board.specs.Board.{Board, look, at}
use Rattle.board.specs.Calls.{Call, inst}
use Rattle.board.specs.Ranges.{id_fine}
use Rattle.store.specs.Meaning.{board_at}
use Rattle.sound.specs.Sound.{sound}
use Rattle.opening.specs.Opening.{open_answer, open_store}
use Rattle.quote.specs.Quotes.{Quoted, most_limit, given, quote_at, at_now, quote_of}
use Rattle.quote.specs.declared.NoQuote.{NoQuote}
use Rattle.ask.specs.Ask.{quote_size, quote_number, quote_values, quote_answer, quote_out}
use Rattle.board.specs.Demand.{NumberedFromOne, NeverBreaks, book_at}
use Rattle.loops.specs.Channel.{Channel}
use Rattle.loops.specs.Calls.{calls, opened_channel}
use Rattle.loops.specs.Demand.{RightBy}
use Rattle.loops.proofs.Demand.{opened_channel_lem, right_through}
use Rattle.loops.proofs.Lowering.{lowers, lowers_is}
use Rattle.opening.proofs.Laws.{opens_is}
use Rattle.promises.specs.Acts.{Act, lefts, Along, call_of}
use Rattle.promises.specs.Recovery.{read_in, Supposed}
use Rattle.promises.specs.Quotes.{AsOf, Dated, QuotesAreDated}
use Rattle.promises.proofs.Recovery.{Holds, along, holds, starts, ranged, right_of, recovers_stream}
use Rattle.promises.proofs.Heard.{Heard, heard_after}

-- ---- what an answer 0 says
pub record Given (i : ℕ) (now : List ℕ) (limit : ℕ) (b : Board) (q : Quoted) : Type 0 where
  pub time : ℕ
  pub asked : moment_of now ≡ Some time
  pub live : (at i b).waiting ≡ false
  pub some : eqb b.H 0 ≡ false
  pub since : lt_z (age_of time b.heard) (pos 0) ≡ false
  pub within : lt_z (pos (limit * 1000)) (age_of time b.heard) ≡ false
  pub said : q ≡ Ok (given b (at i b))

no : {A : Type 0} {n : ℕ} → suc n ≡ 0 → A
no e = absurd (omega (arith, e))

module _ (i : ℕ) (now : List ℕ) (limit : ℕ) (b : Board) (t : ℕ) (m : moment_of now ≡ Some t) where
  at_time : quote_number (quote_at i t limit b) ≡ 0 → Given i now limit b (quote_at i t limit b)
  at_time = go (leb (length b.insts) i) (at i b).waiting (eqb b.H 0) (lt_z (age_of t b.heard) (pos 0)) (lt_z (pos (limit * 1000)) (age_of t b.heard)) refl refl refl refl
    where
      go : (f w z s l : Bool) → (at i b).waiting ≡ w → eqb b.H 0 ≡ z → lt_z (age_of t b.heard) (pos 0) ≡ s → lt_z (pos (limit * 1000)) (age_of t b.heard) ≡ l
          → quote_number (cond f (Err NoQuote.NotFollowed) (cond w (Err NoQuote.Waiting) (cond z (Err NoQuote.NothingHeard) (cond s (Err NoQuote.BeforeHeard) (cond l (Err NoQuote.TooOld) (Ok (given b (at i b)))))))) ≡ 0
          → Given i now limit b (cond f (Err NoQuote.NotFollowed) (cond w (Err NoQuote.Waiting) (cond z (Err NoQuote.NothingHeard) (cond s (Err NoQuote.BeforeHeard) (cond l (Err NoQuote.TooOld) (Ok (given b (at i b))))))))
      go true w z s l pw pz ps pl e = no e
      go false true z s l pw pz ps pl e = no e
      go false false true s l pw pz ps pl e = no e
      go false false false true l pw pz ps pl e = no e
      go false false false false true pw pz ps pl e = no e
      go false false false false false pw pz ps pl e =
          record { time = t; asked = m; live = pw; some = pz; since = ps; within = pl; said = refl }

pub given_by : (id : ℕ) (now : List ℕ) (limit : ℕ) (b : Board) → quote_number (quote_of id now limit b) ≡ 0
    → Given (look id b.insts) now limit b (quote_of id now limit b)
unfolding quote_of
given_by id now limit b = go (moment_of now) refl
  where
    i : ℕ
    i = look id b.insts

    fine : (z : Bool) (t : ℕ) → moment_of now ≡ Some t → quote_number (cond z (quote_at i t limit b) (Err NoQuote.BadArgument)) ≡ 0
        → Given i now limit b (cond z (quote_at i t limit b) (Err NoQuote.BadArgument))
    fine true t m e = at_time i now limit b t m e
    fine false t m e = no e

    go : (n : Option ℕ) → moment_of now ≡ n → quote_number (at_now n id limit b) ≡ 0 → Given i now limit b (at_now n id limit b)
    go None m e = no e
    go (Some t) m e = fine (id_fine id && leb limit most_limit) t m e

pub given_of : (id : ℕ) (now : List ℕ) (limit : ℕ) (out xs : List ℕ) → quote_answer id now limit out xs ≡ 0
    → Given (look id (board_at xs).insts) now limit (board_at xs) (quote_of id now limit (board_at xs))
unfolding quote_answer
given_of id now limit out xs = go (sound xs) (leb quote_size (length out))
  where
    go : (s r : Bool) → cond s (cond r (quote_number (quote_of id now limit (board_at xs))) 18) 17 ≡ 0
        → Given (look id (board_at xs).insts) now limit (board_at xs) (quote_of id now limit (board_at xs))
    go false r e = no e
    go true false e = no e
    go true true e = given_by id now limit (board_at xs) e

-- ---- and then it is dated
module _ (depth : ℕ) (stream : List (List ℕ)) (n : NumberedFromOne (read_in depth stream)) (d : ℕ) (w : NeverBreaks (read_in depth stream) d)
    (ids xs : List ℕ) (e : open_answer depth ids xs ≡ 0) (cs : List Act) (p : Along (Supposed depth stream d) cs (open_store depth ids xs)) (now : List ℕ) (limit : ℕ) where
  -- the board after the calls
  abbrev pub end : Board
  end = board_at (lefts cs (open_store depth ids xs))

  -- and the calls on a channel that were made
  abbrev made : List Call
  made = map (call_of depth) cs

  end_holds : Holds depth (lefts cs (open_store depth ids xs)) (calls made (opened_channel depth ids))
  end_holds = holds depth cs (open_store depth ids xs) (opened_channel depth ids) (starts depth ids xs e)

  is_end : end ≡ (calls made (opened_channel depth ids)).board
  is_end = ap (λ (c : Channel). c.board) end_holds.same

  pub end_kind : end.depth ≡ depth
  end_kind = ap (λ (b : Board). b.depth) is_end ∙ end_holds.kind

  -- as calls on the board, the loops' ends among them
  heard : Heard (read_in depth stream) end
  heard =
      let ms = read_in depth stream in
      let c = opened_channel depth ids in
      let h = starts depth ids xs e in
      let o = opened_channel_lem depth ids (opens_is depth ids xs e) in
      let f = ranged depth cs (open_store depth ids xs) c h in
      let r = along depth (Supposed depth stream d) (RightBy ms d) (right_of depth stream d) cs (open_store depth ids xs) c h p in
      let b = lowers_is made c o f in
      rw (is_end, sym b) (heard_after ms n d depth ids (lowers made c) (right_through ms d made c o f r))

  module _ (q : Quoted) (g : Given (look d end.insts) now limit end q) where
    pub counted : (k : ℕ) × (end.H ≡ suc k)
    counted = go end.H refl
      where
        go : (h : ℕ) → end.H ≡ h → (k : ℕ) × (end.H ≡ suc k)
        go zero z = absurd (true≢false (ap (λ (n : ℕ). eqb n 0) (sym z) ∙ g.some))
        go (suc k) z = (k, z)

    pub as_of : (k : ℕ) → end.H ≡ suc k → AsOf depth stream d now limit k end.heard (inst d end).book
    as_of k z =
        let (us, m) = heard k z in
        record {
          entries = us;
          message = m;
          streamed = ap (book_at (read_in depth stream) d) (sym z) ∙ recovers_stream depth stream n d w ids xs e cs p g.live;
          time = g.time;
          asked = g.asked;
          since = g.since;
          within = g.within;
        }

    dated : (out : List ℕ) (k : ℕ) → end.H ≡ suc k → Dated depth stream d now limit out (sets out 0 (quote_values end.depth q))
    dated out k z =
        record { k = k; heard = end.heard; book = (inst d end).book; as_of = as_of k z; room = rw (g.said, end_kind, z) }

pub quotes_are_dated : QuotesAreDated
unfolding quote_out
quotes_are_dated depth stream n d w ids xs e cs p now limit out a =
    let q = quote_of d now limit (board_at (lefts cs (open_store depth ids xs))) in
    let g = given_of d now limit out (lefts cs (open_store depth ids xs)) a in
    let (k, z) = counted depth stream n d w ids xs e cs p now limit q g in
    rw a (dated depth stream n d w ids xs e cs p now limit q g out k z)
